use Rattle.std.proofs.Common.{ℕ, ◌+◌, ◌≤◌, ◌^◌, arith}
use Rattle.report_tables.proofs.Fronts.{front-lines, input-is, input-fails}
use Rattle.report_tables.proofs.input.read_input.Goals as goal

pub overflow_add-lines : goal.overflow_add-lines
overflow_add-lines c =
    let few : c.in-Ok.front.2 + 1 ≤ 2 ^ 31 = front-lines c.args.bytes.now c.in-Ok.front.0 c.in-Ok.front.1 c.in-Ok.front.2 c.in-Ok.ensures.written c.in-Ok.ensures.lines c.requires in
    omega (arith, few)

pub read_history-requires : goal.read_history-requires
read_history-requires c = front-lines c.args.bytes.now c.in-Ok.front.0 c.in-Ok.front.1 c.in-Ok.front.2 c.in-Ok.ensures.written c.in-Ok.ensures.lines c.requires

pub returns-in-Ok-read_history-clause-exact : goal.returns-in-Ok-read_history-clause-exact
returns-in-Ok-read_history-clause-exact c = input-is c.args.bytes.now c.in-Ok.front c.in-Ok-read_history.history.list c.in-Ok.ensures.exact c.in-Ok-read_history.ensures.exact

pub returns-in-Err-read_history-clause-exact : goal.returns-in-Err-read_history-clause-exact
returns-in-Err-read_history-clause-exact c = input-fails c.args.bytes.now c.in-Ok.front c.in-Err-read_history.fault c.in-Ok.ensures.exact c.in-Err-read_history.ensures.exact
