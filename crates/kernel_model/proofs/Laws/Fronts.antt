-- The fronts of a legal history.
use Rattle.std.proofs.Common.{◌≡◌, ℕ, ◌+◌, List, [], ◌∷◌, ◌++◌, take, drop, reverse, Some, sym, ap, ◌∙◌, subst}
use Rattle.std.specs.Prelude.{slice_get}
use Rattle.std.proofs.lemmas.List.{take-append-drop, reverse-append}
use Rattle.std.proofs.lemmas.Option.{slice_get_within, get_or_from_slice_get}
use Rattle.kern_ids.specs.declared.entries.Entry.{Entry}
use Rattle.kernel_model.specs.System.{System}
use Rattle.kernel_model.specs.Histories.{IsLegal, Legal}
use Rattle.kernel_model.proofs.Laws.History.{past-take}

-- the entries before some of a legal history are legal
pub legal-append : (boot : System) (newer past : List Entry) → IsLegal boot (newer ++ past) → IsLegal boot past
legal-append boot [] past l = l
legal-append boot (e ∷ newer) past l = legal-append boot newer past l.2

pub legal-take : (boot : System) (h : List Entry) (n : ℕ) → Legal boot h → Legal boot (take n h)
legal-take boot h n l =
    let parts : reverse h ≡ reverse (drop n h) ++ reverse (take n h) = ap reverse (sym (take-append-drop n h)) ∙ reverse-append (take n h) (drop n h) in
    legal-append boot (reverse (drop n h)) (reverse (take n h)) (subst (IsLegal boot) parts l)

-- each entry after the entries before it
pub legal-place : (boot : System) (h : List Entry) (n : ℕ) (e : Entry) → Legal boot h → slice_get h n ≡ Some e → IsLegal boot (e ∷ reverse (take n h))
legal-place boot h n e l at =
    subst (IsLegal boot) (past-take h n e (slice_get_within h n e at) (sym (get_or_from_slice_get h n e e at))) (legal-take boot h (n + 1) l)
