use Rattle.std.proofs.Common.{◌≡◌, ℕ, true, Option, Some, length}
use Rattle.link_list.specs.KeyLists.{has}
use Rattle.priority_bands.specs.Banded.{tasks_from, IsFirstTrue}
use Rattle.priority_bands.proofs.Rests.{rest_from}
use Rattle.priority_bands.proofs.Bands.first_from.Given as goal

-- the task that comes is one of these bands, and what is found from it on is what is looked for
abbrev pub invariant-loop-at : goal.invariant-loop-at
invariant-loop-at g l =
    ((t : ℕ) → l.at ≡ Some t → has t (tasks_from l.self l.fn.b) ≡ true)
    × ((first : Option ℕ) → IsFirstTrue (goal.P-post g l.p) (rest_from l.at (tasks_from l.self l.fn.b)) first → IsFirstTrue (goal.P-post g l.p) (tasks_from l.self l.fn.b) first)

abbrev pub decreases-loop-at : goal.decreases-loop-at
decreases-loop-at g l = length (rest_from l.at (tasks_from l.self l.fn.b))
