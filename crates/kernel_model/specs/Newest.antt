-- Looking back over a history. Here a history is given newest first: `past` of a history in order is its reverse.
-- The number of an entry is the length of what is before it, so entries are numbered from 0.
use Rattle.std.specs.Prelude.{List, [], ◌∷◌, Bool, Option, if◌then◌else◌}
use Rattle.std.specs.Option.{unwrap_or}

-- What the newest entry says that speaks of a thing, or start where none does.
-- An entry is asked with the entries before it and with what was said before it.
unfoldable pub newest : {E A : Type 0} → (List E → A → E → Option A) → A → List E → A
newest speaks start [] = start
newest speaks start (e ∷ before) = unwrap_or (speaks before (newest speaks start before) e) (newest speaks start before)

-- the entries that are newer than the newest one with p, newest first
unfoldable pub since : {E : Type 0} → (List E → E → Bool) → List E → List E
since p [] = []
since p (e ∷ before) = if p before e then [] else e ∷ since p before
