-- The pages of one object, and what an object adds to a task's pages.
use Rattle.std.specs.Prelude.{ℕ, List, Bool, true, false, ◌&&◌, ◌||◌, if◌then◌else◌, nat_eq, nat_lt, length, count_by, cond}
use Rattle.std.specs.Option.{option_map_or}
use Rattle.std.specs.List.{range_with_len}
use Rattle.kern_ids.specs.declared.entries.Entry.{Entry}
use Rattle.kern_ids.specs.declared.ids.PageId.{PageId}
use Rattle.kern_ids.specs.declared.calls.State.{State}
use Rattle.kernel_model.specs.declared.place.Place.{Place}
use Rattle.kern_ids.specs.declared.replies.Reply.{Reply}
use Rattle.kern_ids.specs.declared.replies.Reply.TheVariants.{Moved}
use Rattle.kern_ids.specs.declared.replies.Move.{Move}
use Rattle.kern_ids.specs.declared.replies.Move.TheVariants.{Compressed}
use Rattle.kernel_model.specs.System.{System}
use Rattle.kernel_model.specs.Mapping.{owner}
use Rattle.kernel_model.specs.State.{state}
use Rattle.kernel_model.specs.Pages.{place, pages_in, pages_of, is_active, is_inactive}

-- 1 where the test holds
abbrev pub bit : Bool → ℕ
bit b = cond b 1 0

-- the page is one of a declared object
abbrev pub is_page : System → PageId → Bool
is_page boot p = nat_lt p.obj (length boot.objects) && nat_lt p.page (pages_in boot p.obj)

-- how many pages of object o are in such a place
abbrev pub pages_at : System → List Entry → (Place → Bool) → ℕ → ℕ
pages_at boot past k o = count_by (λ n. k (place boot past (record { obj = o; page = n }))) (range_with_len 0 (pages_in boot o))

-- the object is owned by t, and its state is such a one
abbrev pub has_share : System → List Entry → ℕ → (State → Bool) → ℕ → Bool
has_share boot past t what o = option_map_or (nat_eq t) (owner boot past o) false && what (state past o)

-- what object o adds to the pages of t
abbrev pub share_of : System → List Entry → ℕ → (Place → Bool) → (State → Bool) → ℕ → ℕ
share_of boot past t k what o = if has_share boot past t what o then pages_at boot past k o else 0

-- Active or Inactive: in a frame
abbrev pub is_in : Place → Bool
is_in x = is_active x || is_inactive x

-- how many pages are in frames
abbrev pub resident_pages : System → List Entry → ℕ
resident_pages boot past = count_by (λ p. is_in (place boot past p)) (pages_of boot)

abbrev pub is_compressing : Move → Bool
is_compressing Compressed = true
is_compressing _ = false

abbrev pub is_compression : Reply → Bool
is_compression (Moved move p) = is_compressing move
is_compression _ = false
