-- The definitions that are put together from others, over one entry more.
use Rattle.std.proofs.Common.{◌≡◌, ℕ, ◌+◌, List, ◌∷◌, refl, ap, ap₂, ◌∙◌, ◌&&◌, not, nat_eq, if◌then◌else◌}
use Rattle.std.specs.Prelude.{nat_le}
use Rattle.std.specs.Option.{unwrap_or}
use Rattle.kern_ids.specs.declared.entries.Entry.{Entry}
use Rattle.kernel_model.specs.System.{System}
use Rattle.kernel_model.specs.Mapping.{live, next_live, mapped}
use Rattle.kernel_model.specs.State.{state, next_state}
use Rattle.kernel_model.specs.Groups.{volatile, is_volatile_state}
use Rattle.kernel_model.specs.Pages.{left}
use Rattle.kernel_model.specs.Deadlines.{deadlines, changed, ripe_of, ripe_queue}
use Rattle.kernel_model.specs.Bands.{wish, sets_band, active, sets_active, placing, says_placing, band, bstamp, of_task, ticks, counts_for_ageing, due}
use Rattle.kernel_model.proofs.Laws.Mapping.{live-more}
use Rattle.kernel_model.proofs.Laws.State.{state-more}
use Rattle.kernel_model.proofs.Laws.Deadlines.{deadlines-more}
use Rattle.kernel_model.proofs.Laws.Bands.{wish-more, active-more, placing-more}

-- volatile: mapped, and in the state VOLATILE
pub volatile-is : (boot : System) (past : List Entry) (o : ℕ) → volatile boot past o ≡ (mapped boot past o && is_volatile_state (state past o))
unfolding volatile
volatile-is boot past o = refl

pub volatile-more : (boot : System) (e : Entry) (before : List Entry) (o : ℕ) → volatile boot (e ∷ before) o ≡ (mapped boot (e ∷ before) o && is_volatile_state (next_state o (state before o) e))
unfolding volatile
volatile-more boot e before o = ap (λ s. mapped boot (e ∷ before) o && is_volatile_state s) (state-more e before o)

-- the ripe queue
pub ripe_queue-more : (boot : System) (e : Entry) (before : List Entry) → ripe_queue boot (e ∷ before) ≡ ripe_of (left boot (e ∷ before)) (changed boot before e (deadlines boot before))
ripe_queue-more boot e before = ap (ripe_of (left boot (e ∷ before))) (deadlines-more boot e before)

-- the band, and the place in it
pub band-is : (boot : System) (past : List Entry) (t : ℕ) → band boot past t ≡ (if (placing boot past t).aged then 0 else if nat_eq (wish boot past t) 0 then of_task (λ task. task.ageing) boot t 0 else wish boot past t)
unfolding band
band-is boot past t = refl

pub band-more : (boot : System) (e : Entry) (before : List Entry) (t : ℕ) → band boot (e ∷ before) t ≡ (if (unwrap_or (says_placing boot t before (placing boot before t) e) (placing boot before t)).aged then 0 else if nat_eq (unwrap_or (sets_band t e) (wish boot before t)) 0 then of_task (λ task. task.ageing) boot t 0 else unwrap_or (sets_band t e) (wish boot before t))
band-more boot e before t = band-is boot (e ∷ before) t
    ∙ ap₂ (λ p w. if p.aged then 0 else if nat_eq w 0 then of_task (λ task. task.ageing) boot t 0 else w) (placing-more boot e before t) (wish-more boot e before t)

pub bstamp-more : (boot : System) (e : Entry) (before : List Entry) (t : ℕ) → bstamp boot (e ∷ before) t ≡ (unwrap_or (says_placing boot t before (placing boot before t) e) (placing boot before t)).bstamp
bstamp-more boot e before t = ap (λ p. p.bstamp) (placing-more boot e before t)

-- the tasks that count for ageing, and those that are due
pub counts_for_ageing-is : (boot : System) (past : List Entry) (t : ℕ) → counts_for_ageing boot past t ≡ (live boot past t && not (active boot past t) && nat_eq (wish boot past t) 0 && nat_eq (band boot past t) (of_task (λ task. task.ageing) boot t 0))
unfolding counts_for_ageing
counts_for_ageing-is boot past t = refl

pub counts_for_ageing-more : (boot : System) (e : Entry) (before : List Entry) (t : ℕ) → counts_for_ageing boot (e ∷ before) t ≡ (next_live boot t (live boot before t) e && not (unwrap_or (sets_active boot t e) (active boot before t)) && nat_eq (unwrap_or (sets_band t e) (wish boot before t)) 0 && nat_eq (band boot (e ∷ before) t) (of_task (λ task. task.ageing) boot t 0))
counts_for_ageing-more boot e before t = counts_for_ageing-is boot (e ∷ before) t
    ∙ ap₂ (λ l a. l && not a && nat_eq (wish boot (e ∷ before) t) 0 && nat_eq (band boot (e ∷ before) t) (of_task (λ task. task.ageing) boot t 0)) (live-more boot e before t) (active-more boot e before t)
    ∙ ap (λ w. next_live boot t (live boot before t) e && not (unwrap_or (sets_active boot t e) (active boot before t)) && nat_eq w 0 && nat_eq (band boot (e ∷ before) t) (of_task (λ task. task.ageing) boot t 0)) (wish-more boot e before t)

pub due-is : (boot : System) (past : List Entry) (t : ℕ) → due boot past t ≡ (counts_for_ageing boot past t && nat_le (of_task (λ task. task.delay) boot t 0) (ticks boot past t + 1))
unfolding due
due-is boot past t = refl
