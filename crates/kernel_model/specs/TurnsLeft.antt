-- What is left of the turns of a scenario.
use Rattle.std.specs.Prelude.{◌≡◌, ℕ, ◌<◌, List, [], map, slice_index_or}
use Rattle.std.specs.Borrow.{Bor}
use Rattle.kern_ids.specs.declared.calls.Call.{Call}

-- the calls that the references lead to
abbrev pub calls_left : List (Bor (List Call)) → List (List Call)
calls_left scripts = map (λ s. s.now) scripts

-- the first of the scripts have no call left
abbrev pub AreSpent : ℕ → List (List Call) → Type 0
AreSpent n scripts = (k : ℕ) → k < n → slice_index_or scripts k [] ≡ []
