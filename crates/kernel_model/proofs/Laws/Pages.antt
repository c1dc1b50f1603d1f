use Rattle.std.proofs.Common.{◌≡◌, ◌+◌, ◌-◌, List, [], ◌∷◌, length, refl, true, false, cond, ◌∙◌, ◌≤◌, arith, count_by, if◌then◌else◌}
use Rattle.std.specs.Option.{unwrap_or}
use Rattle.std.proofs.lemmas.List.Sums.{sum_by-cons, count_by-le-length}
use Rattle.kern_ids.specs.declared.entries.Entry.{Entry}
use Rattle.kern_ids.specs.declared.ids.PageId.{PageId}
use Rattle.kernel_model.specs.declared.place.Place.TheVariants.{Absent}
use Rattle.kernel_model.specs.System.{System}
use Rattle.kernel_model.specs.Pages.{placed, next_placed, free, active_pages, inactive_pages, entered, next_entered, left, is_deactivation, touched_since, says_touched, written, says_written}
use Rattle.kernel_model.specs.Newest.{newest}
use Rattle.kernel_model.specs.State.{state}
use Rattle.kernel_model.specs.Mapping.{unmaps}

pub placed-none : (boot : System) (p : PageId) → placed boot [] p ≡ record { place = Absent; number = 0 }
unfolding placed newest
placed-none boot p = refl

pub placed-more : (boot : System) (e : Entry) (before : List Entry) (p : PageId) → placed boot (e ∷ before) p ≡ next_placed (state before p.obj) (unmaps boot before e p.obj) (length before) p (placed boot before p) e
unfolding placed newest next_placed
placed-more boot e before p = refl

pub touched_since-more : (boot : System) (e : Entry) (before : List Entry) (p : PageId) → touched_since boot (e ∷ before) p ≡ unwrap_or (says_touched boot p before (touched_since boot before p) e) (touched_since boot before p)
unfolding touched_since newest
touched_since-more boot e before p = refl

pub written-more : (e : Entry) (before : List Entry) (p : PageId) → written (e ∷ before) p ≡ unwrap_or (says_written p before (written before p) e) (written before p)
unfolding written newest
written-more e before p = refl

pub entered-more : (e : Entry) (before : List Entry) → entered (e ∷ before) ≡ next_entered (entered before) e
unfolding entered next_entered
entered-more e before = sum_by-cons (λ e. cond (is_deactivation e.reply) 1 0) e before
    ∙ elim (is_deactivation e.reply) as (λ b. cond b 1 0 + count_by (λ e. is_deactivation e.reply) before ≡ (if b then count_by (λ e. is_deactivation e.reply) before + 1 else count_by (λ e. is_deactivation e.reply) before)) [ true ↦ omega arith | false ↦ omega arith ]

pub entered-none : entered [] ≡ 0
unfolding entered
entered-none = refl

pub entered-le : (past : List Entry) → entered past ≤ length past
unfolding entered
entered-le past = count_by-le-length (λ e. is_deactivation e.reply) past

-- the frames follow from the places
pub free-is : (boot : System) (past : List Entry) → free boot past ≡ boot.params.frames - (active_pages boot past + inactive_pages boot past)
unfolding free
free-is boot past = refl

pub left-is : (boot : System) (past : List Entry) → left boot past ≡ entered past - inactive_pages boot past
unfolding left
left-is boot past = refl
