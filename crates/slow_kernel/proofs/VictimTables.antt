-- The tasks as jetsam sees them.
use Rattle.std.proofs.Common.{◌≡◌, ℕ, ◌+◌, List, find, count_by, true, false, option_map, refl, sym, ap, ap₂, ◌∙◌}
use Rattle.std.specs.Option.{option_map_or}
use Rattle.kern_ids.specs.declared.entries.Entry.{Entry}
use Rattle.kern_ids.specs.declared.replies.Counts.{Counts}
use Rattle.kern_ids.specs.declared.replies.Cause.TheVariants.{Limit as by_limit}
use Rattle.kernel_model.specs.System.{System}
use Rattle.kernel_model.specs.Mapping.{tasks_of}
use Rattle.kernel_model.specs.Groups.{is_volatile_state}
use Rattle.kernel_model.specs.Pages.{placed, pages_of, is_stored}
use Rattle.kernel_model.specs.Counted.{counts, count_of, is_resident, is_nonvolatile_state}
use Rattle.kernel_model.specs.Victims.{victim, killed_for}
use Rattle.slow_kernel.specs.declared.victims.VictimRow.{VictimRow}
use Rattle.slow_kernel.specs.declared.victims.Among.{Among}
use Rattle.slow_kernel.specs.declared.victims.Among.TheVariants.{OverFatal}
use Rattle.slow_kernel.specs.Tables.{page_row, all_rows}
use Rattle.slow_kernel.specs.VictimTables.{row_counts, victim_row, victim_rows, row_among, row_lower, row_least, least_among, within_limits}
use Rattle.slow_kernel.proofs.Maps.{count_by_map, least_filter_map}

resident-counts : (boot : System) (past : List Entry) (t : ℕ) → count_by (row_counts t false false) (all_rows boot past) ≡ count_of boot past t (is_resident boot past) is_nonvolatile_state
unfolding row_counts
resident-counts boot past t = count_by_map (row_counts t false false) (page_row boot past) (pages_of boot)

volatile-counts : (boot : System) (past : List Entry) (t : ℕ) → count_by (row_counts t false true) (all_rows boot past) ≡ count_of boot past t (is_resident boot past) is_volatile_state
unfolding row_counts
volatile-counts boot past t = count_by_map (row_counts t false true) (page_row boot past) (pages_of boot)

stored-counts : (boot : System) (past : List Entry) (t : ℕ) → count_by (row_counts t true false) (all_rows boot past) ≡ count_of boot past t (λ p. is_stored (placed boot past p).place) is_nonvolatile_state
unfolding row_counts
stored-counts boot past t = count_by_map (row_counts t true false) (page_row boot past) (pages_of boot)

stored-volatile-counts : (boot : System) (past : List Entry) (t : ℕ) → count_by (row_counts t true true) (all_rows boot past) ≡ count_of boot past t (λ p. is_stored (placed boot past p).place) is_volatile_state
unfolding row_counts
stored-volatile-counts boot past t = count_by_map (row_counts t true true) (page_row boot past) (pages_of boot)

abbrev four : ℕ → ℕ → ℕ → ℕ → Counts
four a b c d = record { res_non = a; res_vol = b; com_non = c; com_vol = d; footprint = a + c }

pub counts_from : (boot : System) (past : List Entry) (t : ℕ) → counts boot past t ≡ record {
  res_non = count_by (row_counts t false false) (all_rows boot past);
  res_vol = count_by (row_counts t false true) (all_rows boot past);
  com_non = count_by (row_counts t true false) (all_rows boot past);
  com_vol = count_by (row_counts t true true) (all_rows boot past);
  footprint = count_by (row_counts t false false) (all_rows boot past) + count_by (row_counts t true false) (all_rows boot past);
}
unfolding counts
counts_from boot past t =
    ap₂ (λ a c. four a (count_of boot past t (is_resident boot past) is_volatile_state) c (count_of boot past t (λ p. is_stored (placed boot past p).place) is_volatile_state)) (sym (resident-counts boot past t)) (sym (stored-counts boot past t))
    ∙ ap₂ (λ b d. four (count_by (row_counts t false false) (all_rows boot past)) b (count_by (row_counts t true false) (all_rows boot past)) d) (sym (volatile-counts boot past t)) (sym (stored-volatile-counts boot past t))

pub least_rows : (boot : System) (past : List Entry) (among : Among) (rows : List VictimRow) → rows ≡ victim_rows boot past → option_map (λ row. row.task) (find (row_least rows among) rows) ≡ least_among boot past among
unfolding row_least least_among
least_rows boot past among rows e =
    ap (λ rs. option_map (λ row. row.task) (find (row_least rs among) rs)) e
    ∙ least_filter_map row_lower (row_among among) (victim_row boot past) (λ row. row.task) (λ t. refl) (tasks_of boot)

pub victim_from : (boot : System) (past : List Entry) → victim boot past ≡ option_map_or (killed_for by_limit) (least_among boot past OverFatal) (within_limits boot past)
unfolding victim least_among
victim_from boot past = refl
