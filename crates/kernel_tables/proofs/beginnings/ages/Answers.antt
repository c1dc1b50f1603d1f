use Rattle.std.proofs.Common.{◌≡◌, ℕ, ◌+◌, ◌<◌, List, length, map, replicate, set, get_or, cond, Option, Some, None, slice_get, Bool, true, false, nat_eq, nat_lt, refl, sym, ap, ◌∙◌, subst, arith}
use Rattle.std.specs.Option.{SomeIff}
use Rattle.std.proofs.lemmas.Bool.Decides.{nat_tests}
use Rattle.std.proofs.lemmas.Option.{slice_get-get_or}
use Rattle.std.proofs.lemmas.List.{length-replicate, length-map}
use Rattle.kernel_model.specs.declared.boot.TaskBoot.{TaskBoot}
use Rattle.idle_ageing.specs.Ageing.{Ageing}
use Rattle.kernel_tables.specs.Start.{first_count}
use Rattle.kernel_tables.proofs.Lists.{get_or-same, counts-more, length-begun}
use Rattle.kernel_tables.proofs.beginnings.ages.Goals as goal

pub loop-i-init : goal.loop-i-init
loop-i-init c =
    let delays : c.deref.result.now ≡ map (λ (task : TaskBoot). task.delay) c.args.tasks.now = c.deref.ensures.value ∙ c.in_ok-delays.ensures in
    let many : length c.deref.result.now ≡ length c.args.tasks.now = ap length delays ∙ length-map c.args.tasks.now (λ (task : TaskBoot). task.delay) in (
      refl,
      ap (λ (a : Ageing). length a.counts) c.in_ok-ages.ensures ∙ length-replicate (length c.deref.result.now) None ∙ many,
      λ t l. let none : nat_lt t 0 ≡ false = grind (arith, nat_tests) in
          ap (λ (a : Ageing). get_or a.counts t None) c.in_ok-ages.ensures ∙ get_or-same {A = Option ℕ} (length c.deref.result.now) t None
          ∙ sym (ap (λ b. cond b (first_count c.args.tasks.now t) None) none),
    )

pub loop-i-preserved : goal.loop-i-preserved
loop-i-preserved c =
    let tasks = c.args.tasks.now in
    let task = c.index-tasks-i.result in
    let counts = c.loop-i.ages.counts in
    let is : slice_get tasks c.loop-i.i ≡ Some task = slice_get-get_or tasks c.loop-i.i task c.loop-i-test.true ∙ ap Some (sym c.index-tasks-i.is) in
    let same : c.unwrap-t.result ≡ c.loop-i.i = (subst (λ o. SomeIff o (c.loop-i.i < 64) c.loop-i.i) c.unwrap-t.ensures c.new-in-loop-i.ensures).1 in
    let begun = c.begin_count.ensures.counts ∙ ap (λ t. cond (nat_eq task.band 0) (set counts t (Some 0)) counts) same in (
      c.begin_count.ensures.delays ∙ c.loop-i.invariant.0,
      ap length begun ∙ length-begun (nat_eq task.band 0) counts c.loop-i.i ∙ c.loop-i.invariant.1,
      λ t l. ap (λ cs. get_or cs t None) begun ∙ counts-more tasks counts c.loop-i.i task is c.loop-i.invariant.1 c.loop-i-test.true c.loop-i.invariant.2 t l,
    )

pub returns-clause-delays : goal.returns-clause-delays
returns-clause-delays c = c.loop-i.invariant.0 ∙ ap (λ (a : Ageing). a.delays) c.in_ok-ages.ensures ∙ c.deref.ensures.value ∙ c.in_ok-delays.ensures

pub returns-clause-each : goal.returns-clause-each
returns-clause-each c =
    let end : c.loop-i.i ≡ length c.args.tasks.now = omega (arith, c.loop-i-test.false, c.loop-i.auto.i-end) in
    λ t l. let below : nat_lt t c.loop-i.i ≡ true = grind (arith, nat_tests) in
    c.loop-i.invariant.2 t l ∙ ap (λ b. cond b (first_count c.args.tasks.now t) None) below
