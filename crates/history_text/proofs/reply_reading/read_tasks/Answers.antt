use Rattle.std.proofs.Common.{sym, ◌∙◌, refl, arith, ◌∷◌, []}
use Rattle.std.proofs.lemmas.Bool.{false≢true}
use Rattle.std.proofs.lemmas.List.{length-append}
use Rattle.std.proofs.lemmas.Result.{err_from_is_err_and}
use Rattle.history_text.proofs.ReadLemmas.{tasks_more, tasks_bad, tasks_full, tasks_none}
use Rattle.history_text.proofs.reply_reading.read_tasks.Goals as goal

pub returns-then-len-eq64 : goal.returns-then-len-eq64
returns-then-len-eq64 c =
    sym c.words.invariant.said ∙ tasks_full c.words.tasks c.words.words (λ none. false≢true (c.words-test.ensures.1 none)) (omega (arith, c.len.ensures.value, c.if-len-eq64.true))

pub returns-in_err-task : goal.returns-in_err-task
returns-in_err-task c =
    let p = err_from_is_err_and c.from_residual.result c.from_residual.ensures.1 in
    let few = c.words.invariant.few in
    let value = c.len.ensures.value in
    rw (p.1, p.2) (sym c.words.invariant.said ∙ tasks_bad c.words.tasks c.words.words _ (λ none. false≢true (c.words-test.ensures.1 none)) (omega (arith, c.if-len-eq64.false)) c.in_err-task.ensures.value)

pub words-preserved : goal.words-preserved
words-preserved c =
    let i = c.words.invariant in
    let few = i.few in
    let value = c.len.ensures.value in
    rw c.push.ensures (record {
      said = sym (tasks_more c.words.tasks c.words.words (c.in_ok-task.task, c.task.new.self) (omega (arith, c.if-len-eq64.false)) c.in_ok-task.ensures.value) ∙ i.said;
      few = omega (arith, c.if-len-eq64.false, length-append c.words.tasks (c.in_ok-task.task ∷ []));
    })

pub returns : goal.returns
returns c = sym c.words.invariant.said ∙ tasks_none c.words.tasks c.words.words (c.words-test.ensures.0 refl)
