-- What the notes say of the jars.
use Rattle.std.specs.Prelude.{ℕ, ◌+◌, ◌%◌, ◌^◌, eqb, cond, List, [], ◌∷◌}
use Rattle.turn_lock_uses.specs.declared.Note.{Note}

-- the amounts of one object, added up
abbrev pub total : List Note → ℕ → ℕ
total [] i = 0
total (e ∷ es) i = cond (eqb e.object i) e.amount 0 + total es i

-- what the jar of the object i holds
abbrev pub sum_in : List Note → ℕ → ℕ
sum_in h i = total h i % 2 ^ 64
