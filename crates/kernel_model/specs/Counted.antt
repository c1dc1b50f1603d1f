-- The pages of a task.
use Rattle.std.specs.Prelude.{ℕ, ◌+◌, List, Bool, true, false, ◌&&◌, ◌||◌, nat_eq, count_by}
use Rattle.std.specs.Option.{option_map_or}
use Rattle.kern_ids.specs.declared.entries.Entry.{Entry}
use Rattle.kern_ids.specs.declared.ids.PageId.{PageId}
use Rattle.kern_ids.specs.declared.calls.State.{State}
use Rattle.kern_ids.specs.declared.calls.State.TheVariants.{Nonvolatile}
use Rattle.kern_ids.specs.declared.replies.Counts.{Counts}
use Rattle.kernel_model.specs.System.{System}
use Rattle.kernel_model.specs.Mapping.{owner}
use Rattle.kernel_model.specs.State.{state}
use Rattle.kernel_model.specs.Groups.{is_volatile_state}
use Rattle.kernel_model.specs.Pages.{place, is_active, is_inactive, is_stored, pages_of}

abbrev pub is_nonvolatile_state : State → Bool
is_nonvolatile_state Nonvolatile = true
is_nonvolatile_state _ = false

abbrev pub owned_by : System → List Entry → ℕ → PageId → Bool
owned_by boot past t p = option_map_or (nat_eq t) (owner boot past p.obj) false

abbrev pub is_resident : System → List Entry → PageId → Bool
is_resident boot past p = is_active (place boot past p) || is_inactive (place boot past p)

abbrev pub count_of : System → List Entry → ℕ → (PageId → Bool) → (State → Bool) → ℕ
count_of boot past t where_ what = count_by (λ p. owned_by boot past t p && where_ p && what (state past p.obj)) (pages_of boot)

unfoldable pub counts : System → List Entry → ℕ → Counts
counts boot past t =
    let res_non = count_of boot past t (is_resident boot past) is_nonvolatile_state in
    let com_non = count_of boot past t (λ p. is_stored (place boot past p)) is_nonvolatile_state in
    record {
      res_non = res_non;
      res_vol = count_of boot past t (is_resident boot past) is_volatile_state;
      com_non = com_non;
      com_vol = count_of boot past t (λ p. is_stored (place boot past p)) is_volatile_state;
      footprint = res_non + com_non;
    }
