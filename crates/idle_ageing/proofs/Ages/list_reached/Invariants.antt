use Rattle.std.proofs.Common.{◌≡◌, ℕ, true, ◌+◌, ◌≤◌, ◌++◌, filter, length, Some}
use Rattle.link_list.specs.KeyLists.{has, list_at}
use Rattle.priority_bands.proofs.Rests.{rest_from}
use Rattle.idle_ageing.specs.Ageing.{has_reached}
use Rattle.idle_ageing.proofs.Ages.list_reached.Given as goal

-- what is left of the band from the task that comes still goes into the line
abbrev pub invariant-loop-at : goal.invariant-loop-at
invariant-loop-at l =
    ((t : ℕ) → l.at ≡ Some t → has t (list_at l.b l.band) ≡ true)
    × (length l.line + length (rest_from l.at (list_at l.b l.band)) ≤ 64)
    × (l.line ++ filter (has_reached l.self) (rest_from l.at (list_at l.b l.band)) ≡ l.initial.line ++ filter (has_reached l.self) (list_at l.b l.band))

abbrev pub decreases-loop-at : goal.decreases-loop-at
decreases-loop-at l = length (rest_from l.at (list_at l.b l.band))
