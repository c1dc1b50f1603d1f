-- The rule of the table. It holds between any two steps of any threads. docs/TURN_LOCK.md reads it aloud.
use Rattle.std.specs.Prelude.{◌≡◌, ◌≢◌, ◌⊎◌, ℕ, ◌+◌, ◌*◌, ◌<◌, true, false, eqb, List, [], ◌∷◌, ◌++◌, length, slice_index, Some, None}
use Rattle.std.specs.List.{AllByRecursion, Contains, IsDistinct}
use mathlib.Core.Option.{some, none}
use lib.ListN.{get_elem?}
use Rattle.atomic_table.specs.Table.{State}
use Rattle.turn_lock.specs.declared.ordered.Ordered.{Ghosts}
use Rattle.turn_lock.specs.declared.view.Slot.{Slot}
use Rattle.turn_lock.specs.declared.view.Slot.TheVariants.{Value, Body}
use Rattle.turn_lock.specs.declared.view.Role.{Role}
use Rattle.turn_lock.specs.declared.view.Role.TheVariants.{Maker, Fresh, Live, Spent}
use Rattle.turn_lock.specs.declared.view.View.{View}
use Rattle.turn_lock.specs.Histories.{StartsWith, entries_of}
use Rattle.turn_lock.specs.Views.{gathered, keys_of, HasKey, bare, dues}

-- What the rule names beside the words, the values at home and the views. The rule itself fixes each: the history, how many passes have a number,
-- whether the turn is taken (0 or 1) and by which seat, which seat has a number among its keys, how many objects there are, the word of each, and which seat holds it
pub record Facts (E : Type 0) : Type 0 where
  pub history : List E
  pub made_so_far : ℕ
  pub taken : ℕ
  pub holder : ℕ
  pub owner : ℕ → ℕ
  pub objects : ℕ
  pub locked : ℕ → ℕ
  pub keeper : ℕ → ℕ

module _ {V B H E C : Type 0} (m : Ghosts V B H E C) where
  -- the pass may make this entry: it has the pass's number, and touches nothing but the object that the pass holds
  abbrev pub IsOwn : View H E C → E → Type 0
  IsOwn w e = (m.who e ≡ w.number) × ((i : ℕ) → Contains (m.touches e) i → (c : C) × (w.object ≡ Some (i, c)))

  -- h is what was seen, or that and one entry of the pass's
  abbrev pub Continues : View H E C → List E → Type 0
  Continues w h = (h ≡ w.seen) ⊎ ((e : E) × (h ≡ w.seen ++ e ∷ []) × IsOwn w e)

  module _ (f : Facts E) where
    -- the list under one key is just what the history has of that number, and what was seen has too. The key is below the number of passes made, and is this seat's alone
    abbrev pub IsListOf : ℕ → List E → ℕ × List E → Type 0
    IsListOf j seen g = (g.0 < f.made_so_far) × (f.owner g.0 ≡ j) × (entries_of m.who g.0 f.history ≡ g.1) × (entries_of m.who g.0 seen ≡ g.1)

    -- what holds of the live view of the seat j
    pub record IsKept (j : ℕ) (w : View H E C) : Type 0 where
      pub seen_is : StartsWith f.history w.seen
      pub olds : AllByRecursion (StartsWith w.seen) w.olds
      pub lists : AllByRecursion (IsListOf j w.seen) (gathered w)
      pub distinct : IsDistinct eqb (keys_of w)
      pub turn : w.turn ≡ true → (f.taken ≡ 1) × (f.holder ≡ j) × (w.seen ≡ f.history)
      pub sealed : (l : List E) → w.sealed ≡ Some l → (w.turn ≡ true) × Continues w l
      pub object : (i : ℕ) (c : C) → w.object ≡ Some (i, c) → (i < f.objects) × (f.keeper i ≡ j) × (f.locked i ≡ 1) × (c ≡ m.content f.history i)
      pub joining : w.olds ≢ [] → (w.turn ≡ false) × (w.object ≡ None)

  -- A view fits its role. The maker sits at the first seat, so there is one at most. A view that is no pass's knows nothing and holds nothing
  abbrev pub FitsAs : H → ℕ → Facts E → ℕ → View H E C → Role H → Type 0
  FitsAs b p f j w (Maker b' p' n) = (b' ≡ b) × (p' ≡ p) × (j ≡ 0) × (w ≡ bare (Maker b' p' n))
  FitsAs b p f j w (Fresh b' p') = (b' ≡ b) × (p' ≡ p) × (w ≡ bare (Fresh b' p'))
  FitsAs b p f j w (Live b' p') = (b' ≡ b) × (p' ≡ p) × IsKept f j w
  FitsAs b p f j w Spent = w ≡ bare Spent

  abbrev pub Fits : H → ℕ → Facts E → ℕ → View H E C → Type 0
  Fits b p f j w = FitsAs b p f j w w.role

module _ {H E C : Type 0} where
  abbrev pub HasTurn : View H E C → Type 0
  HasTurn w = w.turn ≡ true

  abbrev pub HasObject : ℕ → View H E C → Type 0
  HasObject i w = (c : C) × (w.object ≡ Some (i, c))

  -- the seat j is a pass's, and P holds of its view
  abbrev pub PassAt : H → ℕ → (View H E C → Type 0) → List (View H E C) → ℕ → Type 0
  PassAt b p P views j = (w : View H E C) × (get_elem? views j ≡ some w) × (w.role ≡ Live b p) × P w

pub record Ruled {V B H E C : Type 0} (m : Ghosts V B H E C) (b : H) (p : ℕ) (s : State (Slot V B) (View H E C)) : Type 0 where
  pub facts : Facts E
  pub deep : length s.homes ≡ facts.objects + 1
  pub wide : length s.words ≡ facts.objects + 2
  -- 1. the turn word is twice `free`, and one more where a pass has the turn
  pub turn_is : slice_index s.words 0 ≡ 2 * m.free_of b facts.history + facts.taken
  pub one_turn : facts.taken < 2
  pub has_turn : facts.taken ≡ 1 → PassAt b p HasTurn s.views facts.holder
  -- 2. the value is at home with the history, and out while a pass has the turn
  pub at_home : facts.taken ≡ 0 → (v : V) × (get_elem? s.homes 0 ≡ some (some (Value v))) × (m.base v ≡ b) × (m.entries v ≡ facts.history)
  pub value_out : facts.taken ≡ 1 → get_elem? s.homes 0 ≡ some none
  -- 3. each pass has seen a beginning of the history, and all entries of its keys; 6. the other views are bare
  pub each_view : (j : ℕ) (w : View H E C) → get_elem? s.views j ≡ some w → Fits m b p facts j w
  -- 4. each number that was drawn is a key of one pass, each entry has such a number, and no more are drawn than passes were asked for
  pub made_is : slice_index s.words 1 ≡ facts.made_so_far
  pub drawn : (n : ℕ) → n < facts.made_so_far → PassAt b p (HasKey n) s.views (facts.owner n)
  pub numbered : AllByRecursion (λ e. m.who e < facts.made_so_far) facts.history
  pub counted : facts.made_so_far + dues s.views ≡ p
  -- 5. the word of an object is 1 where a pass holds it, and its body is out; else it is 0, and the body is at home with its content
  pub locks : (i : ℕ) → i < facts.objects → slice_index s.words (i + 2) ≡ facts.locked i
  pub one_lock : (i : ℕ) → i < facts.objects → facts.locked i < 2
  pub has_object : (i : ℕ) → i < facts.objects → facts.locked i ≡ 1 → PassAt b p (HasObject i) s.views (facts.keeper i)
  pub each_body : (i : ℕ) → i < facts.objects → facts.locked i ≡ 0 → (x : B) × (get_elem? s.homes (i + 1) ≡ some (some (Body x))) × (m.held x ≡ m.content facts.history i)
  pub body_out : (i : ℕ) → i < facts.objects → facts.locked i ≡ 1 → get_elem? s.homes (i + 1) ≡ some none
