-- Dues kept as gaps: each due is the sum of the gaps up to it, and the number of pages ahead that of all gaps.
use Rattle.std.specs.Prelude.{◌≡◌, ℕ, ◌+◌, ◌-◌, ◌^◌, ◌<◌, ◌≤◌, List, [], ◌∷◌, ◌++◌, length, take}
use Rattle.token_list.specs.declared.TokenList.TheInside.{Inside}
use Rattle.token_list.specs.Slots.{Row, StandsAt, slot_at, number_at}
use Rattle.token_list.specs.Dues.{Tokens}

-- the sums of a list's fronts, from a first number on
abbrev pub running : ℕ → List ℕ → List ℕ
running s [] = []
running s (g ∷ gs) = (s + g) ∷ running (s + g) gs

-- all of these sums but the last
abbrev pub dues_of : List ℕ → List ℕ
dues_of gs = take (length gs - 1) (running 0 gs)

abbrev pub tokens_of : Inside → Tokens
tokens_of a = record { dues = dues_of a.ring.numbers; ahead = a.ahead }

-- A row ends with the end, and with no other end.
pub record IsRow (v : Row) : Type 0 where
  pub size : length v.slots ≡ length v.numbers
  pub few : length v.slots ≤ 257
  pub some : 1 ≤ length v.slots
  pub end : slot_at v.slots (length v.slots - 1) ≡ 256
  pub below : (p : ℕ) → p + 1 < length v.slots → slot_at v.slots p < 256

-- the gaps before place `ripe` are 0, that at it is not, and the mark stands there
pub record IsMarked (numbers slots : List ℕ) (mark ripe : ℕ) : Type 0 where
  pub stands : StandsAt slots ripe mark
  pub zeros : (p : ℕ) → p < ripe → number_at numbers p ≡ 0
  pub unripe : ripe + 1 < length numbers → 0 < number_at numbers ripe

pub record IsTokens (a : Inside) : Type 0 where
  pub row : IsRow a.ring
  pub total : running 0 a.ring.numbers ≡ dues_of a.ring.numbers ++ a.ahead ∷ []
  pub bound : a.ahead < 2 ^ 32
  pub marked : IsMarked a.ring.numbers a.ring.slots a.mark a.ripe
