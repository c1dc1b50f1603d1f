use Rattle.std.proofs.Common.{◌≤◌, length, arith}
use Rattle.kern_ids.specs.Padded.{IsPadded-copied}
use Rattle.kern_ids.proofs.lines.ByteLine.from_slice.Goals as goal

pub invariant_of-result : goal.invariant_of-result
invariant_of-result c =
    let h : length c.args.bytes.now ≤ 256 = omega arith in
    rw c.copy_from_slice.ensures.after (IsPadded-copied 0 256 c.args.bytes.now h)
