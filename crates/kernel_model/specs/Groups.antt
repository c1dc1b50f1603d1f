-- The groups of volatile objects.
use Rattle.std.specs.Prelude.{ℕ, List, length, Bool, true, false, ◌&&◌, Option, Some, None, if◌then◌else◌, nat_eq, nat_lt, filter, option_and_then}
use Rattle.std.specs.Option.{unwrap_or}
use Rattle.std.specs.List.{range_with_len}
use Rattle.kern_ids.specs.declared.entries.Entry.{Entry}
use Rattle.kern_ids.specs.declared.calls.Queue.{Queue}
use Rattle.kern_ids.specs.declared.calls.Queue.TheVariants.{Obsolete, Lifo, Fifo}
use Rattle.kern_ids.specs.declared.calls.State.{State}
use Rattle.kern_ids.specs.declared.calls.State.TheVariants.{Volatile}
use Rattle.kern_ids.specs.declared.calls.Wish.{Wish}
use Rattle.kern_ids.specs.declared.calls.Wish.TheVariants.{Volatile as ask_volatile}
use Rattle.kernel_model.specs.System.{System}
use Rattle.kernel_model.specs.declared.place.Standing.{Standing}
use Rattle.kernel_model.specs.Newest.{newest}
use Rattle.kernel_model.specs.Events.{asked}
use Rattle.kernel_model.specs.Mapping.{mapped}
use Rattle.kernel_model.specs.State.{state}
use Rattle.kernel_model.specs.Lists.{least}

abbrev pub is_volatile_state : State → Bool
is_volatile_state Volatile = true
is_volatile_state _ = false

-- mapped and VOLATILE
unfoldable pub volatile : System → List Entry → ℕ → Bool
volatile boot past o = mapped boot past o && is_volatile_state (state past o)

abbrev pub same_queue : Queue → Queue → Bool
same_queue Obsolete Obsolete = true
same_queue Lifo Lifo = true
same_queue Fifo Fifo = true
same_queue _ _ = false

abbrev pub standing_asked : ℕ → Wish → Option Standing
standing_asked n (ask_volatile q g) = Some (record { queue = q; group = g; vstamp = n })
standing_asked n _ = None

-- by the newest accepted SetState of o that asks for VOLATILE
abbrev pub says_standing : ℕ → List Entry → Standing → Entry → Option Standing
says_standing o before was e = option_and_then (standing_asked (length before)) (asked o e)

-- after entry n
unfoldable pub next_standing : ℕ → ℕ → Standing → Entry → Standing
next_standing o n was e = unwrap_or (option_and_then (standing_asked n) (asked o e)) was

unfoldable pub standing : List Entry → ℕ → Standing
standing past o = newest (says_standing o) (record { queue = Obsolete; group = 0; vstamp = 0 }) past

abbrev pub is_lifo : Queue → Bool
is_lifo Lifo = true
is_lifo _ = false

-- the numbers of the objects
abbrev pub objects_of : System → List ℕ
objects_of boot = range_with_len 0 (length boot.objects)

-- the volatile objects of a queue and group
abbrev pub stands_in : System → List Entry → Queue → ℕ → ℕ → Bool
stands_in boot past q g o = volatile boot past o && same_queue (standing past o).queue q && nat_eq (standing past o).group g

-- of these the one of greatest vstamp for LIFO, of least vstamp otherwise
unfoldable pub first : System → List Entry → Queue → ℕ → Option ℕ
first boot past q g =
    least (λ a b. if is_lifo q then nat_lt (standing past b).vstamp (standing past a).vstamp else nat_lt (standing past a).vstamp (standing past b).vstamp)
    (filter (stands_in boot past q g) (objects_of boot))
