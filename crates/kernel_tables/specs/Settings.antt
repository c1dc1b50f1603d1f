-- What setting the state of an object makes of the groups and of the tokens.
use Rattle.std.specs.Prelude.{ℕ, Bool, List, [], ◌∷◌, ◌++◌, drop, Option, Some, None, if◌then◌else◌}
use Rattle.kern_ids.specs.declared.calls.Queue.{Queue}
use Rattle.volatile_groups.specs.Grouped.{entered}
use Rattle.ripen_advance.specs.Queues.{QueueDues, dues_in, with_dues, new_due, all_but_last}

-- the groups after an object entered a queue and group, if it enters one
abbrev pub entered_at : Option (Queue × ℕ) → ℕ → List (List ℕ) → List (List ℕ)
entered_at None o groups = groups
entered_at (Some place) o groups = entered groups place.0 place.1 o

-- the tokens after the first or the last one of the queue that an object leaves went, or none
abbrev pub token_taken : Bool → Bool → Option Queue → QueueDues → QueueDues
token_taken first last None d = d
token_taken first last (Some q) d =
    if first then with_dues d q (drop 1 (dues_in d q))
    else if last then with_dues d q (all_but_last (dues_in d q))
    else d

-- the tokens after one was added to the queue that an object enters, or none
abbrev pub token_added : Bool → Option (Queue × ℕ) → QueueDues → QueueDues
token_added new None d = d
token_added new (Some place) d = if new then with_dues d place.0 (dues_in d place.0 ++ new_due d place.0 ∷ []) else d
