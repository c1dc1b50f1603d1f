use Rattle.std.proofs.Common.{sym, ◌∙◌}
use Rattle.scenario_text.proofs.FitLemmas.{fits-read, not-differs}
use Rattle.scenario_text.proofs.scan.script_line.Goals as goal

pub add_call-requires-clause-fits : goal.add_call-requires-clause-fits
add_call-requires-clause-fits c =
    let s = c.args.scenario.now in
    let v = c.in-Some.verb in
    let side = not-differs c.is_of_task.result c.last_thread-who.result.1 c.if-is_of_task.false in
    let read = rw (c.tasks.ensures.value, c.objects.ensures.value, c.boot.ensures, c.boot-2.ensures) at c.in_ok-call.ensures in
    fits-read s c.last_thread-who.result.0 v c.args.words.now c.in_ok-call.call c.valid.ensures c.last_thread-who.ensures.who (sym c.is_of_task.ensures ∙ side ∙ c.last_thread-who.ensures.side) read
