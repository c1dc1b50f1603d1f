-- The groups of volatile objects: a list for each queue and group, the queues in the order OBSOLETE, LIFO,
-- FIFO, and in each the groups from 0 to 7. The first object of a group is at the head of its list.
use Rattle.std.specs.Prelude.{◌≡◌, true, ℕ, ◌+◌, ◌<◌, List, [], ◌∷◌, ◌++◌, Option, nat_lt, set, length, option_map, if◌then◌else◌}
use Rattle.kern_ids.specs.declared.calls.Queue.{Queue}
use Rattle.kern_ids.specs.declared.calls.Queue.TheVariants.{Obsolete, Lifo, Fifo}
use Rattle.link_list.specs.KeyLists.{KeyLists, has, list_at, place_of, IsOnceEach}

-- the number of a queue's first list
abbrev pub first_list : Queue → ℕ
first_list Obsolete = 0
first_list Lifo = 8
first_list Fifo = 16

-- the objects of a queue and group, the first one at the head
abbrev pub members : List (List ℕ) → Queue → ℕ → List ℕ
members groups queue group = list_at groups (first_list queue + group)

-- where an object enters: LIFO at the head, FIFO and OBSOLETE at the tail
abbrev pub joined : Queue → ℕ → List ℕ → List ℕ
joined Lifo o objects = o ∷ objects
joined Obsolete o objects = objects ++ o ∷ []
joined Fifo o objects = objects ++ o ∷ []

-- the groups after an object entered
abbrev pub entered : List (List ℕ) → Queue → ℕ → ℕ → List (List ℕ)
entered groups queue group o = set groups (first_list queue + group) (joined queue o (members groups queue group))

-- the queue of list number l
abbrev pub queue_at : ℕ → Queue
queue_at l = if nat_lt l 8 then Obsolete else if nat_lt l 16 then Lifo else Fifo

-- the queue in which an object stands, if it stands in one
abbrev pub queue_of : ℕ → List (List ℕ) → Option Queue
queue_of o groups = option_map queue_at (place_of o groups)

-- what is true of all groups that were made by the calls of this crate
pub record AreGroups (groups : List (List ℕ)) : Type 0 where
  pub count : length groups ≡ 24
  pub once : IsOnceEach groups
  pub below : (list o : ℕ) → has o (list_at groups list) ≡ true → o < 256
  pub obsolete : (group : ℕ) → 0 < group → group < 8 → members groups Obsolete group ≡ []

-- how the groups are kept
pub record IsKept (kept : KeyLists) : Type 0 where
  pub cap : kept.cap ≡ 256
  pub count : length kept.lists ≡ 24
  pub obsolete : (group : ℕ) → 0 < group → group < 8 → members kept.lists Obsolete group ≡ []
