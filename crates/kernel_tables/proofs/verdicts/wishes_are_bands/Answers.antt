use Rattle.std.proofs.Common.{ℕ, ◌<◌, length, inl, inr, sym, subst, arith}
use Rattle.std.proofs.lemmas.Bool.{cases_lt}
use Rattle.std.proofs.lemmas.List.{get_or_past}
use Rattle.kernel_tables.proofs.verdicts.wishes_are_bands.Goals as goal

pub returns : goal.returns
returns c = λ t. elim (cases_lt t (length c.args.wishes.now)) [
  | inl inside ↦ c.loop-wish.invariant t (omega (arith, c.loop-wish-test.false))
  | inr past ↦ subst (λ (n : ℕ). n < 21) (sym (get_or_past c.args.wishes.now t 0 past)) (omega arith)
]
