-- The tables stand for a history: each part is what the definitions give over it. The history is given newest first.
use Rattle.std.specs.Prelude.{◌≡◌, ℕ, Bool, true, ◌&&◌, ◌<◌, List, length, map, min, Option, Some, None, slice_index_or, if◌then◌else◌}
use Rattle.kern_ids.specs.declared.entries.Entry.{Entry}
use Rattle.kern_ids.specs.declared.ids.PageId.{PageId}
use Rattle.kern_ids.specs.declared.calls.Queue.{Queue}
use Rattle.kernel_model.specs.System.{System}
use Rattle.kernel_model.specs.Mapping.{live, maps, mapped}
use Rattle.kernel_model.specs.State.{state}
use Rattle.kernel_model.specs.Pages.{place, pages_of, pages_in, is_active, is_inactive, is_stored, touched_since, written, inactive_pages, entered}
use Rattle.kernel_model.specs.Deadlines.{deadlines, of_queue, due_of}
use Rattle.kernel_model.specs.Counted.{counts}
use Rattle.kernel_model.specs.Bands.{of_task, wish, active, limits, ticks, counts_for_ageing}
use Rattle.kernel_model.specs.Answers.{shares}
use Rattle.kernel_model.specs.Histories.{IsLegal}
use Rattle.kernel_model.specs.Laws.Order.{Has}
use Rattle.kernel_model.specs.Laws.Queues.{KeepsPages, KeepsGroup, KeepsBand}
use Rattle.link_list.specs.KeyLists.{list_at}
use Rattle.page_queues.specs.Pages.{Pages, key_of, page_of, is_marked, active as active_keys, inactive as inactive_keys, stored as stored_keys, place as place_in}
use Rattle.volatile_groups.specs.Grouped.{members}
use Rattle.ripen_advance.specs.Queues.{QueueDues, dues_in}
use Rattle.vm_object.specs.Objects.{Object, object_at, is_written, shares as shares_in, maps as maps_in}
use Rattle.task_ledger.specs.declared.account.Account.{Account}
use Rattle.task_ledger.specs.Accounts.{account_of}
use Rattle.idle_ageing.specs.Ageing.{Ageing, count_of}
use Rattle.kernel_tables.specs.Values.{TableValues}

-- each page is in its place
abbrev pub HasPlaces : System → List Entry → Pages → Type 0
HasPlaces boot past pages = (p : PageId) → Has (pages_of boot) p → place_in pages p ≡ place boot past p

-- the marked pages are the Inactive ones that an entry newer than the one in their stamp touches
abbrev pub HasMarks : System → List Entry → Pages → Type 0
HasMarks boot past pages = (p : PageId) → Has (pages_of boot) p → is_marked pages (key_of p) ≡ (is_inactive (place boot past p) && touched_since boot past p)

-- each group has its volatile objects, the first one at the head
abbrev pub HasGroups : System → List Entry → List (List ℕ) → Type 0
HasGroups boot past groups = (q : Queue) (g : ℕ) → g < 8 → KeepsGroup boot past q g (members groups q g)

-- each queue has the dues of its deadlines
abbrev pub HasDues : System → List Entry → QueueDues → Type 0
HasDues boot past tokens = (q : Queue) → dues_in tokens q ≡ map (due_of boot past) (of_queue (deadlines boot past) q)

-- each object is shared by the tasks of the boot, and has the boot's size
abbrev pub HasSharers : System → List Object → Type 0
HasSharers boot objects = (o t : ℕ) → o < length boot.objects → t < 64 → shares_in objects o t ≡ shares boot o t

abbrev pub HasSizes : System → List Object → Type 0
HasSizes boot objects = (o : ℕ) → o < length boot.objects → (object_at objects o).pages ≡ pages_in boot o

-- each object is mapped by the tasks that map it
abbrev pub HasMappers : System → List Entry → List Object → Type 0
HasMappers boot past objects = (o t : ℕ) → o < length boot.objects → maps_in objects o t ≡ maps boot past o t

-- each mapped object has its state and its written pages
abbrev pub HasStates : System → List Entry → List Object → Type 0
HasStates boot past objects = (o : ℕ) → o < length boot.objects → mapped boot past o ≡ true → (object_at objects o).state ≡ state past o

abbrev pub HasWritten : System → List Entry → List Object → Type 0
HasWritten boot past objects = (p : PageId) → Has (pages_of boot) p → mapped boot past p.obj ≡ true → is_written objects p.obj p.page ≡ written past p

-- each task is live, internal and active as it is, and has its counts and its limits
pub record IsAccount (boot : System) (past : List Entry) (t : ℕ) (account : Account) : Type 0 where
  pub live : account.live ≡ live boot past t
  pub counts : account.counts ≡ counts boot past t
  pub active : account.active ≡ active boot past t
  pub when_active : account.when_active ≡ (limits boot past t).when_active
  pub when_inactive : account.when_inactive ≡ (limits boot past t).when_inactive
  pub internal : account.internal ≡ of_task (λ task. task.internal) boot t Bool.false

abbrev pub HasAccounts : System → List Entry → List Account → Type 0
HasAccounts boot past accounts = (t : ℕ) → t < length boot.tasks → IsAccount boot past t (account_of accounts t)

-- each task's wish is its wish
abbrev pub HasWishes : System → List Entry → List ℕ → Type 0
HasWishes boot past wishes = (t : ℕ) → t < length boot.tasks → slice_index_or wishes t 0 ≡ wish boot past t

-- each band has its live tasks, the first one at the head
abbrev pub HasBands : System → List Entry → List (List ℕ) → Type 0
HasBands boot past bands = (b : ℕ) → b < 21 → KeepsBand boot past b (list_at bands b)

-- the tasks that count for ageing count the Ticks, each up to its delay
abbrev pub counted_ticks : System → List Entry → ℕ → Option ℕ
counted_ticks boot past t = if counts_for_ageing boot past t then Some (min (ticks boot past t) (of_task (λ task. task.delay) boot t 0)) else None

abbrev pub HasAges : System → List Entry → Ageing → Type 0
HasAges boot past ages = (t : ℕ) → t < length boot.tasks → count_of ages t ≡ counted_ticks boot past t

-- the pages stand as they do: the sizes and frames of the boot, each page in its place, each place in its order, the marks, and how many
-- pages were ever deactivated
pub record PagesStand (boot : System) (past : List Entry) (pages : Pages) (deactivated : ℕ) : Type 0 where
  pub frames : pages.frames ≡ boot.params.frames
  pub page_sizes : pages.sizes ≡ map (λ object. object.pages) boot.objects
  pub places : HasPlaces boot past pages
  pub active_order : KeepsPages boot past is_active (map page_of (active_keys pages))
  pub inactive_order : KeepsPages boot past is_inactive (map page_of (inactive_keys pages))
  pub stored_order : KeepsPages boot past is_stored (map page_of (stored_keys pages))
  pub marks : HasMarks boot past pages
  pub entered : deactivated ≡ entered past

-- the volatile objects stand in their groups, and each queue has its dues
pub record QueuesStand (boot : System) (past : List Entry) (queued : List (List ℕ)) (tokens : QueueDues) : Type 0 where
  pub groups : HasGroups boot past queued
  pub ahead : tokens.ahead ≡ inactive_pages boot past
  pub dues : HasDues boot past tokens

-- the objects: who shares and maps each, its size, and where it is mapped its state and its written pages
pub record ObjectsStand (boot : System) (past : List Entry) (objects : List Object) : Type 0 where
  pub object_count : length objects ≡ length boot.objects
  pub sharers : HasSharers boot objects
  pub sizes : HasSizes boot objects
  pub mappers : HasMappers boot past objects
  pub states : HasStates boot past objects
  pub written : HasWritten boot past objects

-- the accounts of the tasks
pub record AccountsStand (boot : System) (past : List Entry) (ledgers : List Account) : Type 0 where
  pub account_count : length ledgers ≡ length boot.tasks
  pub accounts : HasAccounts boot past ledgers

-- the tasks stand in their bands, with their wishes and their ages
pub record BandsStand (boot : System) (past : List Entry) (wished : List ℕ) (banded : List (List ℕ)) (ageing : Ageing) : Type 0 where
  pub wish_count : length wished ≡ length boot.tasks
  pub wishes : HasWishes boot past wished
  pub bands : HasBands boot past banded
  pub delays : ageing.delays ≡ map (λ task. task.delay) boot.tasks
  pub ages : HasAges boot past ageing

pub record Stands (tables : TableValues) (past : List Entry) : Type 0 where
  pub legal : IsLegal tables.boot past
  pub pages : PagesStand tables.boot past tables.pages tables.entered
  pub queues : QueuesStand tables.boot past tables.groups tables.tokens
  pub objects : ObjectsStand tables.boot past tables.objects
  pub accounts : AccountsStand tables.boot past tables.accounts
  pub bands : BandsStand tables.boot past tables.wishes tables.bands tables.ages
