use Rattle.std.proofs.Common.{◌≡◌, ℕ, ◌<◌, length, filter}
use Rattle.std.specs.List.{range_with_len}
use Rattle.link_list.specs.KeyLists.{list_at}
use Rattle.kernel_tables.specs.Start.{begins_in}
use Rattle.kernel_tables.proofs.beginnings.bands.Given as goal

-- the first i tasks stand in their bands
abbrev pub invariant-loop-i : goal.invariant-loop-i
invariant-loop-i l = (b : ℕ) → b < 21 → list_at l.bands b ≡ filter (begins_in l.tasks b) (range_with_len 0 l.i)
