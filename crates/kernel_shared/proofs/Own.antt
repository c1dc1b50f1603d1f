-- The pass's own list is the first of those that it keeps.
use Rattle.std.proofs.Common.{◌≡◌, ℕ, List, [], ◌∷◌, ap}
use Rattle.kern_ids.specs.declared.entries.Entry.{Entry}
use Rattle.turn_lock.specs.Passes.{KeepsLists}
use Rattle.kernel_shared.specs.Calls.{KernelPass, KnowsOwn}
use Rattle.kernel_shared.specs.contracts.value.CoreOrderedBody.TheImpl.{ghosts}

abbrev first_list : List (ℕ × List Entry) → List Entry
first_list [] = []
first_list (g ∷ gs) = g.1

pub own-seen : (p : KernelPass) → KeepsLists ghosts p → KnowsOwn p
own-seen p kept = ap first_list kept
