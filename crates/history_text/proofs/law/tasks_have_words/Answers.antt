use Rattle.std.proofs.Common.{ℕ, ◌<◌, arith, sym, subst}
use Rattle.std.proofs.lemmas.Option.{slice_get_within, get_or_from_slice_get}
use Rattle.std.proofs.lemmas.List.{take_all}
use Rattle.std.proofs.lemmas.List.Elements.{recursion_from_All, All-more}
use Rattle.history_text.proofs.law.tasks_have_words.Goals as goal

pub loop-i-preserved : goal.loop-i-preserved
loop-i-preserved c =
    let tasks = c.args.tasks.now in
    let i = c.loop-i.i in
    let t = c.in-Some.task in
    let e = sym c.in-Some.ensures in
    let small : t < 64 = rw c.get-task.ensures.value at c.get-task.ensures.bound in
    let P : ℕ → Type 0 = λ x. x < 64 in
    record {
      below = All-more P tasks i t (slice_get_within tasks i t e) c.loop-i.invariant.below (subst P (sym (get_or_from_slice_get tasks i t t e)) small);
      all = c.len-i-end.ensures.value;
    }

pub returns-clause-all : goal.returns-clause-all
returns-clause-all c =
    let all = c.loop-i.invariant.all in
    recursion_from_All (λ t. t < 64) c.args.tasks.now (rw (take_all c.loop-i.i c.args.tasks.now (omega (arith, c.loop-i-test.false))) at c.loop-i.invariant.below)
