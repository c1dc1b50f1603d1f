use Rattle.std.proofs.Common.{◌≡◌}
use Rattle.turn_lock.specs.Passes.{IsPassOf, HoldsNothing, weight_of}
use Rattle.turn_lock_uses.proofs.tests.add_all.Given as goal

abbrev pub invariant-loop-amount : goal.invariant-loop-amount
invariant-loop-amount g l = IsPassOf l.jars l.filler × HoldsNothing l.filler × (weight_of l.filler ≡ weight_of l.fn.filler)
