-- What holds of every legal history.
use Rattle.std.specs.Prelude.{◌≡◌, ℕ, ◌+◌, ◌<◌, ◌≤◌, List, [], ◌∷◌, ◌++◌, length, Bool, true, false, ◌&&◌, if◌then◌else◌, nat_eq, Option, Some, None, is_some, count_by, ◌⊎◌}
use Rattle.kern_ids.specs.declared.entries.Entry.{Entry}
use Rattle.kern_ids.specs.declared.calls.Wish.{Wish}
use Rattle.kern_ids.specs.declared.calls.Wish.TheVariants.{Nonvolatile as ask_nonvolatile, Volatile as ask_volatile, Empty as ask_empty}
use Rattle.kern_ids.specs.declared.calls.Queue.{Queue}
use Rattle.kernel_model.specs.System.{System}
use Rattle.kernel_model.specs.Newest.{newest}
use Rattle.kernel_model.specs.Events.{is_map, is_purge, asked}
use Rattle.kernel_model.specs.Contents.{empties}
use Rattle.kernel_model.specs.Pages.{free, entered, left}
use Rattle.kern_ids.specs.declared.calls.Call.{Call}
use Rattle.kern_ids.specs.declared.calls.Call.TheVariants.{PurgeOne, Scan}
use Rattle.kernel_model.specs.Bands.{band, bstamp}
use Rattle.kernel_model.specs.Victims.{is_eligible, over_fatal, over_soft}
use Rattle.kernel_model.specs.Groups.{volatile, standing, same_queue, objects_of}
use Rattle.kernel_model.specs.Deadlines.{Deadlines, deadlines, of_queue}
use Rattle.kernel_model.specs.Lists.{pair_lt, some_if}
use Rattle.kernel_model.specs.Laws.Order.{Has}
use Rattle.kernel_model.specs.Laws.Frames.{bit}

-- t stands before u: in a lower band, or in the same with a lower stamp
abbrev pub Precedes : System → List Entry → ℕ → ℕ → Type 0
Precedes boot past t u = (band boot past t < band boot past u) ⊎ ((band boot past t ≡ band boot past u) × (pair_lt (bstamp boot past t) (bstamp boot past u) ≡ true))

-- a task that is killed for pressure is a declared one, the least of the eligible ones, and nothing else was to be done
pub record IsPressed (boot : System) (past : List Entry) (t : ℕ) : Type 0 where
  pub declared : t < length boot.tasks
  pub eligible : is_eligible boot past t ≡ true
  pub scarce : free boot past < boot.params.critical
  pub none_fatal : (u : ℕ) → u < length boot.tasks → over_fatal boot past u ≡ false
  pub none_soft : (u : ℕ) → u < length boot.tasks → over_soft boot past u ≡ false
  pub least : (u : ℕ) → u < length boot.tasks → is_eligible boot past u ≡ true → nat_eq t u ≡ false → Precedes boot past t u

-- what an entry decides of an object's bytes being lost: a purge and a SetState EMPTY that they are, a Map and a SetState NONVOLATILE that they aren't
abbrev pub asks_loss : Wish → Option Bool
asks_loss ask_nonvolatile = Some false
asks_loss ask_empty = Some true
asks_loss (ask_volatile q g) = None

abbrev pub decides : ℕ → Entry → Option Bool
decides o e =
    if is_map o e then Some false
    else if is_purge o e then Some true
    else elim (asked o e) [ Some w ↦ asks_loss w | None ↦ None ]

-- by the newest entry that decides it
unfoldable pub lost : List Entry → ℕ → Bool
lost past o = newest (λ before was e. decides o e) false past

-- an emptying of o came after the newest entry that decides it
unfoldable pub emptied_since : List Entry → ℕ → Bool
emptied_since past o = newest (λ before was e. if is_some (decides o e) then Some false else some_if (empties o before e) true) false past

-- a list of numbers in rising order, equals allowed
abbrev pub Climbs : List ℕ → Type 0
Climbs [] = Unit {0}
Climbs (x ∷ xs) = ((y : ℕ) → Has xs y → x ≤ y) × Climbs xs

-- how many volatile objects a queue has
abbrev pub queue_objects : System → List Entry → Queue → ℕ
queue_objects boot past q = count_by (λ o. volatile boot past o && same_queue (standing past o).queue q) (objects_of boot)

-- the deadlines of the three lists together
abbrev pub all_deadlines : Deadlines → List ℕ
all_deadlines d = d.obsolete ++ d.lifo ++ d.fifo

-- each list of deadlines is rising, with none above the number of pages that entered, and as long as its queue has volatile objects
pub record HasTokens (boot : System) (past : List Entry) : Type 0 where
  pub rising : (q : Queue) → Climbs (of_queue (deadlines boot past) q)
  pub entered : (q : Queue) (d : ℕ) → Has (of_queue (deadlines boot past) q) d → d ≤ entered past
  pub count : (q : Queue) → length (of_queue (deadlines boot past) q) ≡ queue_objects boot past q

-- of two lists the second is the first without one number
abbrev pub IsWithout : List ℕ → ℕ → List ℕ → Type 0
IsWithout xs x ys = (k : ℕ) → count_by (nat_eq k) xs ≡ count_by (nat_eq k) ys + bit (nat_eq k x)

-- a purge takes one deadline out of the three lists together, and a ripe one
pub record TakesRipe (boot : System) (e : Entry) (before : List Entry) : Type 0 where
  pub deadline : ℕ
  pub ripe : deadline ≤ left boot before
  pub taken : IsWithout (all_deadlines (deadlines boot before)) deadline (all_deadlines (deadlines boot (e ∷ before)))

-- the calls that purge by a ripe deadline
abbrev pub is_ripe_call : Call → Bool
is_ripe_call PurgeOne = true
is_ripe_call Scan = true
is_ripe_call _ = false
