-- The lists of pages, of volatile objects and of tasks that a kernel keeps in order.
use Rattle.std.specs.Prelude.{ℕ, List, Bool, ◌&&◌, if◌then◌else◌, nat_eq, nat_lt}
use Rattle.kern_ids.specs.declared.entries.Entry.{Entry}
use Rattle.kern_ids.specs.declared.ids.PageId.{PageId}
use Rattle.kern_ids.specs.declared.calls.Queue.{Queue}
use Rattle.kernel_model.specs.declared.place.Place.{Place}
use Rattle.kernel_model.specs.System.{System}
use Rattle.kernel_model.specs.Mapping.{live, tasks_of}
use Rattle.kernel_model.specs.Pages.{place, pages_of}
use Rattle.kernel_model.specs.Groups.{standing, stands_in, objects_of, is_lifo}
use Rattle.kernel_model.specs.Bands.{band, bstamp}
use Rattle.kernel_model.specs.Scan.{stamp_lt}
use Rattle.kernel_model.specs.Lists.{pair_lt}
use Rattle.kernel_model.specs.Laws.Order.{Keeps}

-- the pages in such a place, by rising stamp
abbrev pub KeepsPages : System → List Entry → (Place → Bool) → List PageId → Type 0
KeepsPages boot past k ps = Keeps (pages_of boot) (λ p. k (place boot past p)) (stamp_lt boot past) ps

-- which object of a group is nearer to its head
abbrev pub nearer : List Entry → Queue → ℕ → ℕ → Bool
nearer past q a b = if is_lifo q then nat_lt (standing past b).vstamp (standing past a).vstamp else nat_lt (standing past a).vstamp (standing past b).vstamp

-- the volatile objects of a queue and group, from the head on
abbrev pub KeepsGroup : System → List Entry → Queue → ℕ → List ℕ → Type 0
KeepsGroup boot past q g os = Keeps (objects_of boot) (stands_in boot past q g) (nearer past q) os

abbrev pub bstamp_lt : System → List Entry → ℕ → ℕ → Bool
bstamp_lt boot past t u = pair_lt (bstamp boot past t) (bstamp boot past u)

-- the live tasks of a band, by rising stamp
abbrev pub KeepsBand : System → List Entry → ℕ → List ℕ → Type 0
KeepsBand boot past b ts = Keeps (tasks_of boot) (λ t. live boot past t && nat_eq (band boot past t) b) (bstamp_lt boot past) ts
