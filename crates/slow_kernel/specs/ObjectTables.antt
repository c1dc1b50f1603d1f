-- The table of the objects.
use Rattle.std.specs.List.{range_with_len, list_any}
use Rattle.std.specs.Prelude.{ℕ, List, map, Bool, Option, Some, None, not, ◌&&◌, if◌then◌else◌, nat_lt, nat_eq}
use Rattle.kern_ids.specs.declared.entries.Entry.{Entry}
use Rattle.kern_ids.specs.declared.calls.Queue.{Queue}
use Rattle.kernel_model.specs.System.{System}
use Rattle.kernel_model.specs.Groups.{volatile, standing, objects_of, same_queue, is_lifo, first}
use Rattle.kernel_model.specs.Lists.{first_some}
use Rattle.kernel_model.specs.Choice.{first_of, places_for}
use Rattle.slow_kernel.specs.declared.groups.ObjectRow.{ObjectRow}

-- what is known of an object
abbrev pub object_row : System → List Entry → ℕ → ObjectRow
object_row boot past o = record { object = o; volatile = volatile boot past o; standing = standing past o }

abbrev pub object_rows : System → List Entry → List ObjectRow
object_rows boot past = map (object_row boot past) (objects_of boot)

abbrev pub row_stands_in : Queue → ℕ → ObjectRow → Bool
row_stands_in q g row = row.volatile && same_queue row.standing.queue q && nat_eq row.standing.group g

-- in a group of LIFO the newest is first, elsewhere the oldest
abbrev pub row_before : Queue → ObjectRow → ObjectRow → Bool
row_before q a b = if is_lifo q then nat_lt b.standing.vstamp a.standing.vstamp else nat_lt a.standing.vstamp b.standing.vstamp

-- a row of the group that no other row of it is before
unfoldable pub row_first : List ObjectRow → Queue → ℕ → ObjectRow → Bool
row_first rows q g row = row_stands_in q g row && not (list_any (λ other. row_stands_in q g other && row_before q other row) rows)

-- the one, or else the other
abbrev pub or_else : {A : Type 0} → Option A → Option A → Option A
or_else (Some x) o = Some x
or_else None o = o

-- the first of a group of either aged queue
unfoldable pub aged_at : System → List Entry → Queue → Queue → ℕ → Option ℕ
aged_at boot past own other g = or_else (first boot past own g) (first boot past other g)

-- the same over the first n groups
unfoldable pub aged_to : System → List Entry → Queue → Queue → ℕ → Option ℕ
aged_to boot past own other n = first_some (aged_at boot past own other) (range_with_len 0 n)

-- the first of a queue's first n groups
unfoldable pub queued_to : System → List Entry → Queue → ℕ → Option ℕ
queued_to boot past q n = first_some (first boot past q) (range_with_len 0 n)

-- the object of a ripe purge, for a ripe queue
unfoldable pub ripe_first : System → List Entry → Queue → Option ℕ
ripe_first boot past q = first_of boot past (places_for q)
