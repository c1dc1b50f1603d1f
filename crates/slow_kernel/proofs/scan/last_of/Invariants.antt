use Rattle.std.proofs.Common.{◌≡◌, take}
use Rattle.kernel_model.specs.Answers.{last_or}
use Rattle.slow_kernel.proofs.scan.last_of.Given as goal

abbrev pub invariant-loop-d : goal.invariant-loop-d
invariant-loop-d l = l.last ≡ last_or (take l.d-index l.list) 0
