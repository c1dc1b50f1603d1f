-- What each step on the table tells the seat that makes it.
use Rattle.std.specs.Prelude.{◌≡◌, ◌≢◌, ℕ, ◌+◌, ◌/◌, ◌<◌, ◌≤◌, true, false, eqb, List, [], ◌∷◌, length, Option, Some, None}
use Rattle.std.specs.List.{AllByRecursion, IsDistinct}
use Rattle.atomic_table.specs.Table.{Me, Step}
use Rattle.turn_lock.specs.declared.ordered.Ordered.{Ghosts}
use Rattle.turn_lock.specs.declared.view.Slot.{Slot}
use Rattle.turn_lock.specs.declared.view.Slot.TheVariants.{Value, Body}
use Rattle.turn_lock.specs.declared.view.Role.TheVariants.{Fresh, Live}
use Rattle.turn_lock.specs.declared.view.View.{View}
use Rattle.turn_lock.specs.Histories.{StartsWith, entries_of, relisted}
use Rattle.turn_lock.specs.Views.{gathered, keys_of, newborn}

module _ {V B H E C : Type 0} (m : Ghosts V B H E C) where
  abbrev M : Type 0
  M = Me (Slot V B) (View H E C)

  -- the lists of a view are what its history has of their numbers
  abbrev pub IsListed : View H E C → Type 0
  IsListed w = relisted m.who w.seen (gathered w) ≡ gathered w

  -- what the body of a held object is to have is its content after the history that was seen
  abbrev pub IsFresh : View H E C → Type 0
  IsFresh w = (i : ℕ) (c : C) → w.object ≡ Some (i, c) → c ≡ m.content w.seen i

  -- the view saw the history h
  abbrev pub sees : List E → View H E C → View H E C
  sees h w = record w { seen = h }

  abbrev pub IsSeen : View H E C → View H E C → Type 0
  IsSeen w w' = StartsWith w'.seen w.seen × IsListed w' × IsFresh w'

  -- the held object with its content after the history h
  abbrev pub refreshed : List E → Option (ℕ × C) → Option (ℕ × C)
  refreshed h None = None
  refreshed h (Some o) = Some (o.0, m.content h o.0)

  -- the view after a leave, where h is the history
  abbrev pub after : List E → View H E C → View H E C
  after h w = record w { seen = h; mine = entries_of m.who w.number h; turn = false; sealed = None; object = refreshed h w.object }

  abbrev pub numbers : Step (Slot V B) → M → ℕ → M → Type 0
  numbers st me n me' = (b : H) (p : ℕ) → me.0.role ≡ Fresh b p → (me' ≡ (newborn b p n, me.1)) × (n < p)

  abbrev pub looked : Step (Slot V B) → M → ℕ → M → Type 0
  looked st me n me' = (b : H) (p : ℕ) → me.0.role ≡ Live b p → (h : List E) × (me' ≡ (sees h me.0, me.1)) × (n / 2 ≡ m.free_of b h) × IsSeen me.0 (sees h me.0)

  abbrev pub Won : M → M → Type 0
  Won me me' = (b : H) (p : ℕ) → me.0.role ≡ Live b p
      → (v : V) × (me' ≡ (record me.0 { seen = m.entries v; turn = true }, (0, Value v) ∷ me.1)) × (m.base v ≡ b) × IsSeen me.0 (sees (m.entries v) me.0)

  abbrev pub entered : Step (Slot V B) → M → ℕ → M → Type 0
  entered st me n me' = (n ≡ st.first → Won me me') × (n ≢ st.first → me' ≡ me)

  -- the list of the value in hand is sealed
  abbrev pub sealed : Step (Slot V B) → M → ℕ → M → Type 0
  sealed st me n me' = (v : V) (more : List (ℕ × Slot V B)) → me.1 ≡ (0, Value v) ∷ more → me' ≡ (record me.0 { sealed = Some (m.entries v) }, me.1)

  abbrev pub left : Step (Slot V B) → M → ℕ → M → Type 0
  left st me n me' = (v : V) (more : List (ℕ × Slot V B)) → me.1 ≡ (0, Value v) ∷ more → (me' ≡ (after (m.entries v) me.0, more)) × IsListed (after (m.entries v) me.0) × IsFresh me.0

  -- the olds are beginnings of what was seen; the keys are distinct, and no more than the passes
  abbrev pub learned : Step (Slot V B) → M → ℕ → M → Type 0
  learned st me n me' = (b : H) (p : ℕ) → me.0.role ≡ Live b p
      → (me' ≡ (record me.0 { olds = [] }, me.1)) × AllByRecursion (StartsWith me.0.seen) me.0.olds × IsListed me.0 × IsDistinct eqb (keys_of me.0) × (length (gathered me.0) ≤ p)

  abbrev pub took : Step (Slot V B) → M → ℕ → M → Type 0
  took st me n me' = (i : ℕ) → st.word ≡ i + 2
      → (n ≡ 0 → (x : B) × (me' ≡ (record me.0 { object = Some (i, m.held x) }, (i + 1, Body x) ∷ me.1)) × ((h : List E) × StartsWith h me.0.seen × (m.held x ≡ m.content h i)))
      × (n ≢ 0 → me' ≡ me)

  abbrev pub put : Step (Slot V B) → M → ℕ → M → Type 0
  put st me n me' = (i : ℕ) (x : B) (more : List (ℕ × Slot V B)) → st.word ≡ i + 2 → me.1 ≡ (i + 1, Body x) ∷ more → me' ≡ (record me.0 { object = None }, more)
