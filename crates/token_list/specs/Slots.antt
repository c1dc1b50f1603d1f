-- A row of slots, each with a number, and the end behind them, which has a number too.
use Rattle.std.specs.Prelude.{◌≡◌, ℕ, ◌+◌, ◌<◌, List, [], ◌∷◌, ◌++◌, length, if◌then◌else◌, ◌==◌, nat_lt, map}
use Rattle.std.proofs.Common.{get_or}

pub record Row : Type 0 where
  pub slots : List ℕ
  pub numbers : List ℕ

-- the slot at a place
abbrev pub slot_at : List ℕ → ℕ → ℕ
slot_at ss p = get_or ss p 256

-- the number at a place
abbrev pub number_at : List ℕ → ℕ → ℕ
number_at ns p = get_or ns p 0

-- the slot s stands at place p
pub record StandsAt (ss : List ℕ) (p s : ℕ) : Type 0 where
  pub below : p < length ss
  pub is : get_or ss p 256 ≡ s

-- the slot stands somewhere
abbrev pub Stands : List ℕ → ℕ → Type 0
Stands ss s = (p : ℕ) × StandsAt ss p s

-- how often a slot stands in a list
abbrev pub times : ℕ → List ℕ → ℕ
times v [] = 0
times v (x ∷ xs) = (if x == v then 1 else 0) + times v xs

-- what an array keeps for each of these slots
abbrev pub reads : List ℕ → List ℕ → List ℕ
reads array ss = map (λ s. get_or array s 0) ss

-- Links lead through these slots and the end, both ways round, and each slot stands once: among these or among the free ones.
pub record IsLinked (next previous ss free : List ℕ) : Type 0 where
  pub forward : reads next (256 ∷ ss) ≡ ss ++ 256 ∷ []
  pub backward : reads previous (ss ++ 256 ∷ []) ≡ 256 ∷ ss
  pub once : (v : ℕ) → times v ss + times v free ≡ (if nat_lt v 256 then 1 else 0)
