-- What the arrays of a ring of slots stand for.
use Rattle.std.specs.Prelude.{◌≡◌, ℕ, ◌≤◌, zero, suc, List, [], ◌∷◌, ◌++◌, length, drop}
use Rattle.std.proofs.Common.{get_or}
use Rattle.token_list.specs.declared.slot_ring.SlotRing.TheInside.{Inside}
use Rattle.token_list.specs.Slots.{Row, reads, IsLinked}

-- so many slots, from one on, as the links lead
abbrev pub walk : ℕ → List ℕ → ℕ → List ℕ
walk zero next s = []
walk (suc n) next s = s ∷ walk n next (get_or next s 0)

-- the slots in use, in their order
abbrev pub order : Inside → List ℕ
order a = walk a.used a.next.value (get_or a.next.value 256 0)

-- the row: these slots and the end, each with its number
abbrev pub row : Inside → Row
row a = record { slots = order a ++ 256 ∷ []; numbers = reads a.numbers.value (order a ++ 256 ∷ []) }

-- the links lead through the slots in use, and the others are free
pub record IsRing (a : Inside) : Type 0 where
  pub bound : a.used ≤ 256
  pub next_size : length a.next.value ≡ 257
  pub previous_size : length a.previous.value ≡ 257
  pub numbers_size : length a.numbers.value ≡ 257
  pub free_size : length a.free.value ≡ 256
  pub linked : IsLinked a.next.value a.previous.value (order a) (drop a.used a.free.value)
