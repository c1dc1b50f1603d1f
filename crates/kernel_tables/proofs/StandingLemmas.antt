-- What stands of a live task and of a mapped object, by the tables and by the definitions.
use Rattle.std.proofs.Common.{◌≡◌, ℕ, ◌<◌, List, length, refl, ap, sym, ◌∙◌, arith, Bool, true, ◌&&◌, nat_eq, get_or}
use Rattle.std.specs.Option.{unwrap_or}
use Rattle.std.proofs.lemmas.Bool.Decides.{nat_tests}
use Rattle.kern_ids.specs.declared.entries.Entry.{Entry}
use Rattle.kern_ids.specs.declared.calls.State.{State}
use Rattle.kern_ids.specs.declared.replies.Counts.{Counts}
use Rattle.kernel_model.specs.System.{System}
use Rattle.kernel_model.specs.Valid.{IsValidBoot}
use Rattle.kernel_model.specs.Mapping.{live}
use Rattle.kernel_model.specs.State.{state}
use Rattle.kernel_model.specs.Pages.{is_active, is_inactive, is_stored}
use Rattle.kernel_model.specs.Counted.{counts}
use Rattle.kernel_model.specs.Bands.{band, active}
use Rattle.kernel_model.specs.Laws.Frames.{pages_at}
use Rattle.kernel_model.specs.Laws.Order.{Has}
use Rattle.link_list.specs.KeyLists.{list_at, place_of}
use Rattle.priority_bands.specs.Banded.{AreBands}
use Rattle.kernel_tables.specs.declared.standing.LiveTask.{LiveTask}
use Rattle.kernel_tables.specs.declared.standing.MappedObject.{MappedObject}
use Rattle.kernel_tables.specs.Standing.{live_task, mapped_object}
use Rattle.kernel_tables.specs.Stands.{BandsStand}
use Rattle.kernel_tables.specs.Values.{TableValues}
use Rattle.idle_ageing.specs.Ageing.{Ageing}
use Rattle.kernel_tables.proofs.Lists.{fact-has}
use Rattle.kernel_tables.proofs.Placing.{task-there}
use Rattle.kernel_tables.proofs.VerdictLemmas.{band-below}

live_in : (a : Bool) (n : ℕ) → a ≡ true → (a && nat_eq n n) ≡ true
live_in a n h = let same : nat_eq n n ≡ true = grind (arith, nat_tests) in rw (h, same) refl

-- a live task stands in its band
pub band-is : (boot : System) (past : List Entry) (wishes : List ℕ) (bands : List (List ℕ)) (ages : Ageing) (t : ℕ)
    → IsValidBoot boot → AreBands bands → ((u : ℕ) → get_or wishes u 0 < 21) → BandsStand boot past wishes bands ages → t < length boot.tasks → live boot past t ≡ true
    → unwrap_or (place_of t bands) 0 ≡ band boot past t
band-is boot past wishes bands ages t valid are small s l alive =
    let b = band boot past t in
    let below : b < 21 = band-below boot past wishes valid s.wishes small t l in
    let inside : b < length bands = omega (arith, below, are.count) in
    let here : Has (list_at bands b) t = (s.bands b below).all t (task-there boot t l) (live_in (live boot past t) b alive) in
    ap (λ o. unwrap_or o 0) (are.once.between b t inside (fact-has t (list_at bands b) here))

pub task-is : (boot : System) (past : List Entry) (t b : ℕ) (a : Bool) (c : Counts) → b ≡ band boot past t → a ≡ active boot past t → c ≡ counts boot past t
    → record { band = b; active = a; counts = c } ≡ live_task boot past t
task-is boot past t b a c in_band goes has =
    ap (λ (x : ℕ). record { band = x; active = a; counts = c }) in_band
    ∙ ap (λ (x : Bool). record { band = band boot past t; active = x; counts = c }) goes
    ∙ ap (λ (x : Counts). record { band = band boot past t; active = active boot past t; counts = x }) has

pub object-is : (boot : System) (past : List Entry) (o : ℕ) (s : State) (a i n : ℕ) → s ≡ state past o → a ≡ pages_at boot past is_active o → i ≡ pages_at boot past is_inactive o → n ≡ pages_at boot past is_stored o
    → record { state = s; active = a; inactive = i; stored = n } ≡ mapped_object boot past o
object-is boot past o s a i n in_state actives inactives storeds =
    ap (λ (x : State). record { state = x; active = a; inactive = i; stored = n }) in_state
    ∙ ap (λ (x : ℕ). record { state = state past o; active = x; inactive = i; stored = n }) actives
    ∙ ap (λ (x : ℕ). record { state = state past o; active = pages_at boot past is_active o; inactive = x; stored = n }) inactives
    ∙ ap (λ (x : ℕ). record { state = state past o; active = pages_at boot past is_active o; inactive = pages_at boot past is_inactive o; stored = x }) storeds
