use Rattle.std.proofs.Common.{◌≡◌, ℕ, ◌+◌, List, [], ◌∷◌, refl, Bool, true, false, cond, count_by, if◌then◌else◌, None}
use Rattle.std.specs.Option.{unwrap_or}
use Rattle.std.proofs.lemmas.List.Sums.{sum_by-cons}
use Rattle.kern_ids.specs.declared.entries.Entry.{Entry}
use Rattle.kernel_model.specs.System.{System}
use Rattle.kernel_model.specs.Bands.{wish, active, sets_band, sets_active, placing, says_placing, ticks, restarts, is_tick_call, limits, limits_call}
use Rattle.kernel_model.specs.Newest.{newest, since}
use Rattle.kernel_model.specs.Events.{accepted}

pub wish-more : (boot : System) (e : Entry) (before : List Entry) (t : ℕ) → wish boot (e ∷ before) t ≡ unwrap_or (sets_band t e) (wish boot before t)
unfolding wish newest
wish-more boot e before t = refl

pub active-more : (boot : System) (e : Entry) (before : List Entry) (t : ℕ) → active boot (e ∷ before) t ≡ unwrap_or (sets_active boot t e) (active boot before t)
unfolding active newest
active-more boot e before t = refl

pub placing-more : (boot : System) (e : Entry) (before : List Entry) (t : ℕ) → placing boot (e ∷ before) t ≡ unwrap_or (says_placing boot t before (placing boot before t) e) (placing boot before t)
unfolding placing newest
placing-more boot e before t = refl

counted_from : {E : Type 0} (stop : Bool) (p : E → Bool) (e : E) (rest : List E) → count_by p (if stop then [] else e ∷ rest) ≡ (if stop then 0 else cond (p e) 1 0 + count_by p rest)
counted_from true p e rest = refl
counted_from false p e rest = sum_by-cons (λ x. cond (p x) 1 0) e rest

-- the count of Ticks: anew, one more, or as it was
pub ticks-more : (boot : System) (e : Entry) (before : List Entry) (t : ℕ) → ticks boot (e ∷ before) t ≡ (if restarts boot t before e then 0 else cond (is_tick_call e.call) 1 0 + ticks boot before t)
unfolding ticks since
ticks-more boot e before t = counted_from (restarts boot t before e) (λ e. is_tick_call e.call) e (since (restarts boot t) before)

pub limits-more : (boot : System) (e : Entry) (before : List Entry) (t : ℕ) → limits boot (e ∷ before) t ≡ unwrap_or (if accepted e then limits_call t e.call else None) (limits boot before t)
unfolding limits newest
limits-more boot e before t = refl
