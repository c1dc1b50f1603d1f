use Rattle.std.proofs.Common.{◌<◌, length, Some, sym, ap, ap₂, ◌∙◌, arith}
use Rattle.slow_kernel.specs.ObjectTables.{or_else}
use Rattle.replay_check.proofs.Standing.{first_unspent-zero, first_unspent-more, first_unspent-found, has_none, has_some}
use Rattle.replay_check.proofs.replays.first_unspent.Goals as goal

pub loop-n-init : goal.loop-n-init
loop-n-init c = first_unspent-zero c.args.scenario.now c.args.made.now

pub returns-then-made-n : goal.returns-then-made-n
returns-then-made-n c =
    let s = c.args.scenario.now in
    let made = c.args.made.now in
    let within : c.loop-n.n < length s.scripts = let same = ap length c.scripts-threads.ensures in omega arith in
    ap Some c.in-Some.ensures.1
    ∙ sym (first_unspent-found s made c.loop-n.n (length s.scripts) c.loop-n.invariant
    (has_some s made c.loop-n.n c.in-Some.thread c.script_len.result c.in-Some.ensures.1 c.script_len.ensures c.if-made-n.true) within)

pub loop-n-preserved : goal.loop-n-preserved
loop-n-preserved c =
    let s = c.args.scenario.now in
    let made = c.args.made.now in
    first_unspent-more s made c.loop-n.n
    ∙ ap₂ or_else c.loop-n.invariant (has_none s made c.loop-n.n c.in-Some.thread c.script_len.result c.in-Some.ensures.1 c.script_len.ensures c.if-made-n.false)
