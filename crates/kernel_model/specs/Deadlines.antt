-- The deadlines of the three queues.
use Rattle.std.specs.Prelude.{ℕ, ◌-◌, List, [], ◌∷◌, ◌++◌, drop, fold, Bool, false, ◌&&◌, Option, Some, None, if◌then◌else◌, nat_le, find, filter, option_map}
use Rattle.std.specs.Option.{option_map_or}
use Rattle.kern_ids.specs.declared.entries.Entry.{Entry}
use Rattle.kern_ids.specs.declared.calls.Call.{Call}
use Rattle.kern_ids.specs.declared.calls.Call.TheVariants.{SetState, Forced, PurgeOne, Scan}
use Rattle.kern_ids.specs.declared.calls.Queue.{Queue}
use Rattle.kern_ids.specs.declared.calls.Queue.TheVariants.{Obsolete, Lifo, Fifo}
use Rattle.kern_ids.specs.declared.calls.State.{State}
use Rattle.kern_ids.specs.declared.calls.State.TheVariants.{Nonvolatile, Volatile}
use Rattle.kern_ids.specs.declared.calls.Wish.{Wish}
use Rattle.kern_ids.specs.declared.calls.Wish.TheVariants.{Nonvolatile as ask_nonvolatile, Volatile as ask_volatile, Empty as ask_empty}
use Rattle.kern_ids.specs.StateWord.{decoded}
use Rattle.kernel_model.specs.System.{System}
use Rattle.kernel_model.specs.Events.{accepted, purged_by}
use Rattle.kernel_model.specs.Mapping.{unmaps}
use Rattle.kernel_model.specs.State.{state}
use Rattle.kernel_model.specs.Groups.{volatile, standing, same_queue, objects_of}
use Rattle.kernel_model.specs.Pages.{entered, left}
use Rattle.kernel_model.specs.Lists.{but_last}

pub record Deadlines : Type 0 where
  pub obsolete : List ℕ
  pub lifo : List ℕ
  pub fifo : List ℕ

abbrev pub of_queue : Deadlines → Queue → List ℕ
of_queue d Obsolete = d.obsolete
of_queue d Lifo = d.lifo
of_queue d Fifo = d.fifo

-- the lists with another list for one queue
abbrev pub with_queue : Deadlines → Queue → List ℕ → Deadlines
with_queue d Obsolete xs = record d { obsolete = xs }
with_queue d Lifo xs = record d { lifo = xs }
with_queue d Fifo xs = record d { fifo = xs }

abbrev pub without_first : Queue → Deadlines → Deadlines
without_first q d = with_queue d q (drop 1 (of_queue d q))

abbrev pub without_last : Queue → Deadlines → Deadlines
without_last q d = with_queue d q (but_last (of_queue d q))

-- a new deadline: the pages that entered so far, and 0 for OBSOLETE
abbrev pub new_deadline : List Entry → Queue → ℕ
new_deadline before Obsolete = 0
new_deadline before _ = entered before

abbrev pub with_new : List Entry → Queue → Deadlines → Deadlines
with_new before q d = with_queue d q (of_queue d q ++ new_deadline before q ∷ [])

-- ripe where at most left
abbrev pub begins_ripe : ℕ → List ℕ → Bool
begins_ripe n [] = false
begins_ripe n (d ∷ ds) = nat_le d n

-- the first of these queues that begins with a ripe deadline
abbrev pub ripe_of : ℕ → Deadlines → Option Queue
ripe_of n d = find (λ q. begins_ripe n (of_queue d q)) (Obsolete ∷ Lifo ∷ Fifo ∷ [])

-- after all that aren't greater
abbrev pub put_deadline : ℕ → List ℕ → List ℕ
put_deadline x [] = x ∷ []
put_deadline x (d ∷ ds) = if nat_le d x then d ∷ put_deadline x ds else x ∷ d ∷ ds

abbrev pub first_into : List ℕ → List ℕ → List ℕ
first_into [] target = target
first_into (x ∷ xs) target = put_deadline x target

-- an accepted SetState of an object, by its state before
abbrev pub after_set : System → List Entry → ℕ → State → Wish → Deadlines → Deadlines
after_set boot before o Nonvolatile (ask_volatile q g) d = with_new before q d
after_set boot before o Volatile (ask_volatile q g) d =
    let old = (standing before o).queue in
    if same_queue old q then d else with_new before q (without_last old d)
after_set boot before o Volatile ask_nonvolatile d = without_last (standing before o).queue d
after_set boot before o Volatile ask_empty d = without_first (standing before o).queue d
after_set boot before o _ _ d = d

-- a purge of o for the ripe queue r
abbrev pub after_ripe : ℕ → Queue → Queue → Deadlines → Deadlines
after_ripe n r q d =
    if same_queue q r then without_first r d
    else if begins_ripe n (of_queue d q) then without_first q d
    else with_queue (without_first q d) r (first_into (of_queue d q) (drop 1 (of_queue d r)))

abbrev pub after_purge : System → List Entry → Call → ℕ → Deadlines → Deadlines
after_purge boot before Forced o d = without_first (standing before o).queue d
after_purge boot before PurgeOne o d = option_map_or (λ r. after_ripe (left boot before) r (standing before o).queue d) (ripe_of (left boot before) d) d
after_purge boot before Scan o d = option_map_or (λ r. after_ripe (left boot before) r (standing before o).queue d) (ripe_of (left boot before) d) d
after_purge boot before _ o d = d

abbrev pub set_by : Call → Option (ℕ × Wish)
set_by (SetState o word) = option_map (λ w. (o, w)) (decoded word)
set_by _ = None

-- each volatile object that the entry unmaps takes the first of its queue with it
abbrev pub after_unmappings : System → List Entry → Entry → Deadlines → Deadlines
after_unmappings boot before e d =
    fold (λ d' o. without_first (standing before o).queue d') d (filter (λ o. volatile boot before o && unmaps boot before e o) (objects_of boot))

-- what an entry makes of the lists
unfoldable pub changed : System → List Entry → Entry → Deadlines → Deadlines
changed boot before e d =
    let set = if accepted e then set_by e.call else None in
    elim set [
      | Some s ↦ after_set boot before s.0 (state before s.0) s.1 d
      | None ↦ option_map_or (λ o. after_purge boot before e.call o d) (purged_by e.reply) (after_unmappings boot before e d)
    ]

unfoldable pub deadlines : System → List Entry → Deadlines
deadlines boot [] = record { obsolete = []; lifo = []; fifo = [] }
deadlines boot (e ∷ before) = changed boot before e (deadlines boot before)

-- the ripe queue, and what is left to a deadline
abbrev pub ripe_queue : System → List Entry → Option Queue
ripe_queue boot past = ripe_of (left boot past) (deadlines boot past)

abbrev pub due_of : System → List Entry → ℕ → ℕ
due_of boot past deadline = deadline - left boot past
