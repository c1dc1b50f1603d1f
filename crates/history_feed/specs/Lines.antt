-- The lines of a text that are ended, and what comes after them.
use Rattle.std.specs.Prelude.{ℕ, ◌+◌, List, [], ◌∷◌, length}

-- all parts but the last
unfoldable pub ended_of : List (List ℕ) → List (List ℕ)
ended_of [] = []
ended_of (last ∷ []) = []
ended_of (part ∷ next ∷ parts) = part ∷ ended_of (next ∷ parts)

-- the last part
unfoldable pub rest_of : List (List ℕ) → List ℕ
rest_of [] = []
rest_of (last ∷ []) = last
rest_of (part ∷ next ∷ parts) = rest_of (next ∷ parts)

-- how far the first line reaches with its end, or all bytes where no line is ended
unfoldable pub line_end : List (List ℕ) → ℕ
line_end [] = 0
line_end (last ∷ []) = length last
line_end (line ∷ next ∷ lines) = length line + 1
