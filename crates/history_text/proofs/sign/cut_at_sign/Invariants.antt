use Rattle.std.proofs.Common.{◌≡◌, ℕ, ◌<◌, false, eqb, drop}
use Rattle.std.specs.Prelude.{codes}
use Rattle.std.specs.List.{starts_with}
use Rattle.history_text.proofs.sign.cut_at_sign.Given as goal

abbrev pub invariant-loop-i : goal.invariant-loop-i
invariant-loop-i l = (k : ℕ) → k < l.i → starts_with eqb (drop k l.line) (codes " = ") ≡ false
