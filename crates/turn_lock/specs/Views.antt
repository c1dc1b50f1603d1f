-- What the seats of a table know, as plain data.
use Rattle.std.specs.Prelude.{◌≡◌, ℕ, ◌+◌, ◌-◌, true, false, eqb, List, [], ◌∷◌, ◌++◌, map, None}
use Rattle.std.specs.List.{list_any}
use Rattle.turn_lock.specs.declared.view.Role.{Role}
use Rattle.turn_lock.specs.declared.view.Role.TheVariants.{Maker, Fresh, Live, Spent}
use Rattle.turn_lock.specs.declared.view.View.{View}
use Rattle.turn_lock.specs.Histories.{longer}

module _ {H : Type 0} where
  -- the maker, with one pass less to make
  abbrev pub fewer : Role H → Role H
  fewer (Maker b p n) = Maker b p (n - 1)
  fewer r = r

  -- the pass that a maker makes
  abbrev pub made : Role H → Role H
  made (Maker b p n) = Fresh b p
  made r = r

  -- how many passes are still to get a number from a view
  abbrev pub due : Role H → ℕ
  due (Maker b p n) = n
  due (Fresh b p) = 1
  due (Live b p) = 0
  due Spent = 0

module _ {H E C : Type 0} where
  -- the lists that a pass keeps, by number: its own is the first
  abbrev pub gathered : View H E C → List (ℕ × List E)
  gathered w = (w.number, w.mine) ∷ w.others

  abbrev pub keys_of : View H E C → List ℕ
  keys_of w = map (λ g. g.0) (gathered w)

  abbrev pub HasKey : ℕ → View H E C → Type 0
  HasKey n w = list_any (eqb n) (keys_of w) ≡ true

  -- a view that knows nothing and holds nothing
  abbrev pub bare : Role H → View H E C
  bare r = record { role = r; number = 0; seen = []; mine = []; others = []; turn = false; sealed = None; object = None; olds = [] }

  -- a pass that has just got its number
  abbrev pub newborn : H → ℕ → ℕ → View H E C
  newborn b p n = record { role = Live b p; number = n; seen = []; mine = []; others = []; turn = false; sealed = None; object = None; olds = [] }

  -- how many passes are still to get a number
  abbrev pub dues : List (View H E C) → ℕ
  dues [] = 0
  dues (w ∷ ws) = due w.role + dues ws

  -- two passes made one: the lists of both, and the longer history. Both old histories are kept until the next load
  abbrev pub joined : View H E C → View H E C → View H E C
  joined v w = record v { seen = longer v.seen w.seen; others = v.others ++ gathered w; olds = v.seen ∷ w.seen ∷ [] }
