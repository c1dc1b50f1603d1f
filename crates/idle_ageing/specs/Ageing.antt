-- How idle tasks age: a task that counts is aged by the tick that is at least its delay-th since the count began.
use Rattle.std.specs.Prelude.{◌≡◌, ℕ, ◌+◌, Bool, false, List, ◌++◌, Option, None, map, filter, length, min, nat_le, slice_index_or, option_map, if◌then◌else◌}
use Rattle.std.specs.Option.{option_map_or}
use Rattle.std.specs.List.{range_with_len}
use Rattle.link_list.specs.KeyLists.{has, list_at}

-- for each task its delay, and the ticks since its count began where it counts. From its delay on the count
-- stands still, since all that is asked of it is whether it has come so far
pub record Ageing : Type 0 where
  pub delays : List ℕ
  pub counts : List (Option ℕ)

-- the delay of a task
abbrev pub delay_of : Ageing → ℕ → ℕ
delay_of ages task = slice_index_or ages.delays task 0

-- the count of a task, if it counts
abbrev pub count_of : Ageing → ℕ → Option ℕ
count_of ages task = slice_index_or ages.counts task None

-- a count after one tick more
abbrev pub one_more : ℕ → ℕ → ℕ
one_more delay count = min (count + 1) delay

-- every count after one tick more
abbrev pub counted : Ageing → Ageing
counted ages = record ages { counts = map (λ task. option_map (one_more (delay_of ages task)) (count_of ages task)) (range_with_len 0 (length ages.counts)) }

-- whether a task counts and has reached its delay
abbrev pub has_reached : Ageing → ℕ → Bool
has_reached ages task = option_map_or (nat_le (delay_of ages task)) (count_of ages task) false

-- whether a task counts and the next tick is at least its delay-th
abbrev pub is_due : Ageing → ℕ → Bool
is_due ages task = option_map_or (λ count. nat_le (delay_of ages task) (count + 1)) (count_of ages task) false

-- the tasks that the next tick ages: those of band 1 and then of band 2
abbrev pub aged : Ageing → List (List ℕ) → List ℕ
aged ages bands = filter (is_due ages) (list_at bands 1 ++ list_at bands 2)

-- some tasks count no more
abbrev pub stopped : Ageing → List ℕ → Ageing
stopped ages tasks = record ages { counts = map (λ task. if has task tasks then None else count_of ages task) (range_with_len 0 (length ages.counts)) }

-- the counts after the next tick: one more for each task that counts, and none for those that it ages
abbrev pub ticked : Ageing → List (List ℕ) → Ageing
ticked ages bands = stopped (counted ages) (aged ages bands)

-- each task has a delay and a count
abbrev pub IsPaired : Ageing → Type 0
IsPaired ages = length ages.counts ≡ length ages.delays
