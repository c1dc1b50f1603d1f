use Rattle.std.proofs.Common.{◌≡◌, ℕ, ◌<◌, length, get_or, None, if◌then◌else◌, nat_lt}
use Rattle.kernel_tables.specs.Start.{first_count}
use Rattle.kernel_tables.proofs.beginnings.ages.Given as goal

-- the first i tasks count, or don't
abbrev pub invariant-loop-i : goal.invariant-loop-i
invariant-loop-i l =
    (l.ages.delays ≡ l.initial.ages.delays) × (length l.ages.counts ≡ length l.tasks) × ((t : ℕ) → t < length l.tasks → get_or l.ages.counts t None ≡ (if nat_lt t l.i then first_count l.tasks t else None))
