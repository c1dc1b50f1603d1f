-- What an array keeps for a list of slots, after writes to the array and edits of the list.
use Rattle.std.proofs.Common.{◌≡◌, ◌≢◌, ℕ, ◌<◌, ◌≤◌, zero, suc, List, [], ◌∷◌, length, get_or, set, refl, ap, ap₂, arith}
use Rattle.std.specs.List.{insert, remove}
use Rattle.std.proofs.lemmas.Bool.Decides.{nat_tests}
use Rattle.std.proofs.lemmas.List.{get_or-set_other, get_or-set_same}
use Rattle.token_list.specs.Slots.{times, reads}
use Rattle.token_list.proofs.TimesLemmas.{times-at}

pub reads-insert : (g ss : List ℕ) (p k : ℕ) → reads g (insert ss p k) ≡ insert (reads g ss) p (get_or g k 0)
reads-insert g ss zero k = refl
reads-insert g [] (suc p) k = refl
reads-insert g (s ∷ ss) (suc p) k = ap (λ r. get_or g s 0 ∷ r) (reads-insert g ss p k)

pub reads-remove : (g ss : List ℕ) (p : ℕ) → reads g (remove ss p) ≡ remove (reads g ss) p
reads-remove g [] zero = refl
reads-remove g [] (suc p) = refl
reads-remove g (s ∷ ss) zero = refl
reads-remove g (s ∷ ss) (suc p) = ap (λ r. get_or g s 0 ∷ r) (reads-remove g ss p)

-- a write at a slot that isn't among them
pub reads-set-absent : (g : List ℕ) (k v : ℕ) (ss : List ℕ) → times k ss ≡ 0 → reads (set g k v) ss ≡ reads g ss
reads-set-absent g k v [] h = refl
reads-set-absent g k v (s ∷ ss) h =
    let other : s ≢ k = grind (arith, nat_tests) in
    ap₂ (λ x r. x ∷ r) (get_or-set_other g k s v 0 other) (reads-set-absent g k v ss (omega arith))

-- a write at a slot that stands among them once, at place p
pub reads-set : (g : List ℕ) (k v : ℕ) (ss : List ℕ) (p d : ℕ) → k < length g → p < length ss → get_or ss p d ≡ k → times k ss ≤ 1 → reads (set g k v) ss ≡ set (reads g ss) p v
reads-set g k v [] p d size h e once = absurd (omega arith)
reads-set g k v (s ∷ ss) zero d size h e once =
    let rest : times k ss ≡ 0 = grind (arith, nat_tests) in
    ap₂ (λ x r. x ∷ r) (rw e (get_or-set_same g k v 0 size)) (reads-set-absent g k v ss rest)
reads-set g k v (s ∷ ss) (suc p) d size h e once =
    let there = times-at ss p d k (omega arith) e in
    let other : s ≢ k = grind (arith, nat_tests) in
    ap₂ (λ x r. x ∷ r) (get_or-set_other g k s v 0 other) (reads-set g k v ss p d size (omega arith) e (omega arith))
