use Rattle.std.proofs.Common.{ℕ, ◌<◌, get_or}
use Rattle.kernel_tables.proofs.verdicts.wishes_are_bands.Given as goal

-- the first wishes are numbers of bands
abbrev pub invariant-loop-wish : goal.invariant-loop-wish
invariant-loop-wish l = (t : ℕ) → t < l.wish-index → get_or l.wishes t 0 < 21
