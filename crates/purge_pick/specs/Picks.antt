-- Which object is purged, from the dues of the tokens and the groups of volatile objects.
use Rattle.std.specs.Prelude.{◌≡◌, ℕ, ◌<◌, List, [], ◌∷◌, ◌++◌, length, map, flat_map, sum, find, slice_get, Option, Some, option_and_then}
use Rattle.std.specs.List.{range_with_len}
use Rattle.kern_ids.specs.declared.calls.Queue.{Queue}
use Rattle.kern_ids.specs.declared.calls.Queue.TheVariants.{Obsolete, Lifo, Fifo}
use Rattle.kernel_model.specs.Lists.{first_some}
use Rattle.kernel_model.specs.Choice.{places_for, groups_of}
use Rattle.token_list.specs.Dues.{begins_ripe}
use Rattle.ripen_advance.specs.Queues.{QueueDues, dues_in}
use Rattle.volatile_groups.specs.Grouped.{members}

-- the first queue whose first token is ripe
abbrev pub ripe_queue : QueueDues → Option Queue
ripe_queue d = find (λ q. begins_ripe (dues_in d q)) (Obsolete ∷ Lifo ∷ Fifo ∷ [])

-- the first object of a queue and group
abbrev pub head_of : List (List ℕ) → Queue × ℕ → Option ℕ
head_of groups place = slice_get (members groups place.0 place.1) 0

-- the first object that is found in these queues and groups
abbrev pub first_of : List (List ℕ) → List (Queue × ℕ) → Option ℕ
first_of groups places = first_some (head_of groups) places

-- of each of these groups that of one queue, then that of another
abbrev pub both_places : Queue → Queue → List ℕ → List (Queue × ℕ)
both_places own other ns = flat_map (λ n. (own, n) ∷ (other, n) ∷ []) ns

-- the object of a ripe purge
abbrev pub picked : QueueDues → List (List ℕ) → Option ℕ
picked d groups = option_and_then (λ q. first_of groups (places_for q)) (ripe_queue d)

-- the object of a forced purge
abbrev pub forced_of : List (List ℕ) → Option ℕ
forced_of groups = first_of groups (groups_of Fifo ++ groups_of Lifo ++ groups_of Obsolete)

-- the number of objects of a queue
abbrev pub objects_in : List (List ℕ) → Queue → List ℕ → ℕ
objects_in groups q ns = sum (map (λ n. length (members groups q n)) ns)

-- each queue has as many tokens as objects
abbrev pub HasTokens : QueueDues → List (List ℕ) → Type 0
HasTokens d groups = (q : Queue) → length (dues_in d q) ≡ objects_in groups q (range_with_len 0 8)

-- the object is the first of one of the queue's groups
pub record HeadsGroup (groups : List (List ℕ)) (q : Queue) (o : ℕ) : Type 0 where
  pub group : ℕ
  pub below : group < 8
  pub heads : slice_get (members groups q group) 0 ≡ Some o
