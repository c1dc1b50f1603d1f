-- The tokens of a queue, seen by their dues.
use Rattle.std.specs.Prelude.{ℕ, ◌-◌, List, [], ◌∷◌, length, map, Bool, false, if◌then◌else◌, ◌==◌, nat_le, nat_lt, find, count_by, unwrap_or}
use Rattle.kern_ids.specs.declared.replies.QueueCounts.{QueueCounts}

-- the dues in order, and the pages that entered the inactive queue and have not left it
pub record Tokens : Type 0 where
  pub dues : List ℕ
  pub ahead : ℕ

-- the dues once n more pages have left
abbrev pub lowered_by : ℕ → List ℕ → List ℕ
lowered_by n ds = map (λ d. d - n) ds

-- with one more due, behind all that aren't greater
abbrev pub put_due : ℕ → List ℕ → List ℕ
put_due x [] = x ∷ []
put_due x (d ∷ ds) = if nat_le d x then d ∷ put_due x ds else x ∷ d ∷ ds

-- the first token is ripe
abbrev pub begins_ripe : List ℕ → Bool
begins_ripe [] = false
begins_ripe (d ∷ ds) = d == 0

-- the last of a list, or another number where it is empty
abbrev pub last_or : List ℕ → ℕ → ℕ
last_or [] d = d
last_or (x ∷ xs) d = last_or xs x

-- how many tokens there are and how many of them are ripe, the due of the first that isn't, and that of the last, 0 where there is none
abbrev pub counts_of : List ℕ → QueueCounts
counts_of ds = record {
  tokens = length ds;
  ripe = count_by (λ d. d == 0) ds;
  next = unwrap_or (find (λ d. nat_lt 0 d) ds) 0;
  last = last_or ds 0;
}
