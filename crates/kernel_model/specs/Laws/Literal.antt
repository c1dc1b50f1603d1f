-- Readings by the numbers of entries, for what is defined by one look back.
use Rattle.std.specs.Prelude.{ℕ, List, length, Bool, true, false, nat_lt, Option, Some, None, option_map, if◌then◌else◌}
use Rattle.std.specs.Option.{option_map_or}
use Rattle.kernel_model.specs.Newest.{newest}
use Rattle.kernel_model.specs.Lists.{some_if}

-- the number of the newest entry with p
abbrev pub newest_number : {E : Type 0} → (List E → E → Bool) → List E → Option ℕ
newest_number p past = newest (λ before was e. some_if (p before e) (Some (length before))) None past

-- the number of the newest entry at which f gives something, and what it gives
abbrev pub newest_gift : {E : Type 0} → (E → Option ℕ) → List E → Option (ℕ × ℕ)
newest_gift f past = newest (λ before was e. option_map (λ x. Some (length before, x)) (f e)) None past

abbrev pub newer : ℕ → Option ℕ → Bool
newer n None = true
newer n (Some k) = nat_lt k n

-- the gift, if it is newer than the newest entry with p, else 0
abbrev pub gift_after : Option ℕ → Option (ℕ × ℕ) → ℕ
gift_after m w = option_map_or (λ g. if newer g.0 m then g.1 else 0) w 0

-- the newest such entry, if there is one, is newer than entry n
abbrev pub is_after : ℕ → Option ℕ → Bool
is_after n m = option_map_or (λ k. nat_lt n k) m false
