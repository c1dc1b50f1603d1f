-- The tokens of the three queues, seen by their dues.
use Rattle.std.specs.Prelude.{ℕ, ◌≤◌, ◌-◌, All, List, [], ◌∷◌, length, take, drop, if◌then◌else◌}
use Rattle.std.specs.List.Sorted.{IsNonDecreasing}
use Rattle.kern_ids.specs.declared.calls.Queue.{Queue}
use Rattle.kern_ids.specs.declared.calls.Queue.TheVariants.{Obsolete, Lifo, Fifo}
use Rattle.token_list.specs.Dues.{begins_ripe, put_due}

-- the dues of each queue in order, and the pages that entered the inactive queue and have not left it
pub record QueueDues : Type 0 where
  pub obsolete : List ℕ
  pub lifo : List ℕ
  pub fifo : List ℕ
  pub ahead : ℕ

abbrev pub dues_in : QueueDues → Queue → List ℕ
dues_in d Obsolete = d.obsolete
dues_in d Lifo = d.lifo
dues_in d Fifo = d.fifo

-- dues that a queue can have: they rise, none is above the pages ahead, and there are at most 256
pub record AreDues (dues : List ℕ) (ahead : ℕ) : Type 0 where
  pub rising : IsNonDecreasing dues
  pub within : All (λ d. d ≤ ahead) dues
  pub size : length dues ≤ 256

-- with other dues for one queue
abbrev pub with_dues : QueueDues → Queue → List ℕ → QueueDues
with_dues d Obsolete ds = record d { obsolete = ds }
with_dues d Lifo ds = record d { lifo = ds }
with_dues d Fifo ds = record d { fifo = ds }

-- the due of a token that is added now
abbrev pub new_due : QueueDues → Queue → ℕ
new_due d Obsolete = 0
new_due d Lifo = d.ahead
new_due d Fifo = d.ahead

abbrev pub all_but_last : List ℕ → List ℕ
all_but_last ds = take (length ds - 1) ds

-- whether an object of the second queue may be purged for a token of the first: both are one, or none is OBSOLETE
abbrev pub CanServe : Queue → Queue → Type 0
CanServe Obsolete Obsolete = Unit {0}
CanServe Obsolete Lifo = ⊥
CanServe Obsolete Fifo = ⊥
CanServe Lifo Obsolete = ⊥
CanServe Fifo Obsolete = ⊥
CanServe Lifo Lifo = Unit {0}
CanServe Lifo Fifo = Unit {0}
CanServe Fifo Lifo = Unit {0}
CanServe Fifo Fifo = Unit {0}

-- the first of a list at its place among the others
abbrev pub first_into : List ℕ → List ℕ → List ℕ
first_into [] ds = ds
first_into (x ∷ xs) ds = put_due x ds

-- after a purge of an object of queue q for the ripe first token of queue t
abbrev pub after_ripe : Queue → Queue → QueueDues → QueueDues
after_ripe t q d =
    if begins_ripe (dues_in d q) then with_dues d q (drop 1 (dues_in d q))
    else with_dues (with_dues d q (drop 1 (dues_in d q))) t (first_into (dues_in d q) (drop 1 (dues_in d t)))
