-- Slots that links lead through, after one is linked in or out.
use Rattle.std.proofs.Common.{◌≡◌, ◌≢◌, ℕ, ◌<◌, ◌≤◌, zero, suc, List, [], ◌∷◌, ◌++◌, length, get_or, set, refl, ap, ap₂, sym, ◌∙◌, inl, inr, arith}
use Rattle.std.specs.List.{insert, remove}
use Rattle.std.proofs.lemmas.Bool.{cases_lt}
use Rattle.std.proofs.lemmas.Bool.Decides.{nat_tests}
use Rattle.std.proofs.lemmas.List.{get_or-set_other, get_or-set_same, get_or-map, length-append, length-set, get_or_append_left, get_or_at}
use Rattle.std.proofs.lemmas.List.Edits.{insert-append_left, remove-append_left}
use Rattle.token_list.specs.Slots.{times, reads, IsLinked, StandsAt}
use Rattle.token_list.specs.Ring.{walk}
use Rattle.token_list.proofs.TimesLemmas.{times-append, times-insert, times-remove, times-at}
use Rattle.token_list.proofs.ReadLemmas.{reads-insert, reads-remove, reads-set-absent, reads-set}
use Rattle.token_list.proofs.EditLemmas.{insert-set_after, insert-set_before, remove-set_after, remove-set_before}

-- the walk gives back the list that the links lead through
pub walk-is : (next : List ℕ) (a : ℕ) (ss : List ℕ) (z n : ℕ) → reads next (a ∷ ss) ≡ ss ++ z ∷ [] → n ≡ length ss → walk n next (get_or next a 0) ≡ ss
walk-is next a [] z zero h e = refl
walk-is next a [] z (suc n) h e = absurd (omega arith)
walk-is next a (s ∷ ss) z zero h e = absurd (omega arith)
walk-is next a (s ∷ ss) z (suc n) h e =
    let head : get_or next a 0 ≡ s = cc in
    let rest : reads next (s ∷ ss) ≡ ss ++ z ∷ [] = cc in
    rw head (ap (λ r. s ∷ r) (walk-is next s ss z n rest (omega arith)))

pub length-walk : (n : ℕ) (next : List ℕ) (s : ℕ) → length (walk n next s) ≡ n
length-walk zero next s = refl
length-walk (suc n) next s = ap suc (length-walk n next (get_or next s 0))

-- each number stands at most once among the slots and the end
pub times-row : {next previous ss free : List ℕ} → IsLinked next previous ss free → (v : ℕ) → times v (ss ++ 256 ∷ []) ≤ 1
times-row {next} {previous} {ss} {free} l v = grind (arith, nat_tests, times-append v ss (256 ∷ []), l.once v)

pub slot-below : {next previous ss free : List ℕ} → IsLinked next previous ss free → (p s : ℕ) → StandsAt (ss ++ 256 ∷ []) p s → s < 257
slot-below {next} {previous} {ss} {free} l p s at =
    grind (arith, nat_tests, times-append s ss (256 ∷ []), l.once s, times-at (ss ++ 256 ∷ []) p 256 s at.below at.is)

-- the slot after that at place p
pub next-at : {next previous ss free : List ℕ} → IsLinked next previous ss free → (p s : ℕ) → StandsAt (ss ++ 256 ∷ []) p s → p < length ss → get_or next s 0 ≡ get_or (ss ++ 256 ∷ []) (suc p) 256
next-at {next} {previous} {ss} {free} l p s at h =
    let here : get_or ss p 256 ≡ s = sym (get_or_append_left ss (256 ∷ []) 256 p h) ∙ at.is in
    sym (ap (λ k. get_or next k 0) here) ∙ sym (get_or-map (λ k. get_or next k 0) ss p 256 256 h) ∙ ap (λ r. get_or r (suc p) 256) l.forward

-- the slot before that at place p
pub before-at : {next previous ss free : List ℕ} → IsLinked next previous ss free → (p s : ℕ) → StandsAt (ss ++ 256 ∷ []) p s → get_or previous s 0 ≡ get_or (256 ∷ ss) p 256
before-at {next} {previous} {ss} {free} l p s at =
    sym (ap (λ k. get_or previous k 0) at.is) ∙ sym (get_or-map (λ k. get_or previous k 0) (ss ++ 256 ∷ []) p 256 256 at.below) ∙ ap (λ r. get_or r p 256) l.backward

pub before-below : {next previous ss free : List ℕ} → IsLinked next previous ss free → (p s : ℕ) → StandsAt (ss ++ 256 ∷ []) p s → get_or previous s 0 < 257
before-below {next} {previous} {ss} {free} l p s at =
    let within : p < length (256 ∷ ss) = omega (arith, at.below, length-append ss (256 ∷ [])) in
    let is = before-at l p s at in
    grind (arith, nat_tests, l.once (get_or previous s 0), times-at (256 ∷ ss) p 256 (get_or previous s 0) within (sym is))

-- a slot other than the end stands before it
pub slot-before_end : (ss : List ℕ) (p s : ℕ) → StandsAt (ss ++ 256 ∷ []) p s → s < 256 → p < length ss
slot-before_end ss p s at h =
    elim (cases_lt p (length ss)) as (λ _. p < length ss) [
      | inl before ↦ before
      | inr past ↦
          let end : p ≡ length ss = omega (arith, length-append ss (256 ∷ []), at.below) in
          let is : get_or (ss ++ 256 ∷ []) p 256 ≡ 256 = get_or_at ss 256 [] 256 p (sym end) in
          absurd (omega (arith, at.is))
    ]

pub linked-insert : (next previous ss free : List ℕ) (k : ℕ) → IsLinked next previous ss (k ∷ free) → length next ≡ 257 → length previous ≡ 257 → (p at : ℕ) → StandsAt (ss ++ 256 ∷ []) p at → (before : ℕ) → before ≡ get_or previous at 0
    → IsLinked (set (set next before k) k at) (set (set previous k before) at k) (insert ss p k) free
linked-insert next previous ss free k l next_size previous_size p at here before is =
    let size = length-append ss (256 ∷ []) in
    let place : p ≤ length ss = omega (arith, here.below) in
    let fresh : times k ss ≡ 0 = grind (arith, nat_tests, l.once k) in
    let slot : k < 256 = grind (arith, nat_tests, l.once k) in
    let fresh_row : times k (ss ++ 256 ∷ []) ≡ 0 = grind (arith, nat_tests, times-append k ss (256 ∷ [])) in
    let apart : k ≢ at = λ e. absurd (omega (arith, times-at (ss ++ 256 ∷ []) p 256 k here.below (here.is ∙ sym e))) in
    let at_below : at < 257 = slot-below l p at here in
    let before_is : get_or (256 ∷ ss) p 256 ≡ before = sym (is ∙ before-at l p at here) in
    let before_once : times before (256 ∷ ss) ≤ 1 = omega (arith, times-append before ss (256 ∷ []), times-row l before) in
    let before_below : before < 257 = omega (arith, before-below l p at here) in
    let row : insert (ss ++ 256 ∷ []) p k ≡ insert ss p k ++ 256 ∷ [] = insert-append_left ss (256 ∷ []) p k place in
    record {
      forward =
          reads-insert (set (set next before k) k at) (256 ∷ ss) (suc p) k
          ∙ ap₂ (λ r x. insert r (suc p) x)
          (reads-set-absent (set next before k) k at (256 ∷ ss) (grind (arith, nat_tests))
          ∙ reads-set next before k (256 ∷ ss) p 256 (omega arith) (omega arith) before_is before_once
          ∙ ap (λ r. set r p k) l.forward)
          (get_or-set_same (set next before k) k at 0 (omega (arith, length-set next before k)) ∙ sym here.is)
          ∙ insert-set_after (ss ++ 256 ∷ []) p k 256 here.below
          ∙ row;
      backward =
          ap (reads (set (set previous k before) at k)) (sym row)
          ∙ reads-insert (set (set previous k before) at k) (ss ++ 256 ∷ []) p k
          ∙ ap₂ (λ r x. insert r p x)
          (reads-set (set previous k before) at k (ss ++ 256 ∷ []) p 256 (omega (arith, length-set previous k before)) here.below here.is (times-row l at)
          ∙ ap (λ r. set r p k) (reads-set-absent previous k before (ss ++ 256 ∷ []) fresh_row ∙ l.backward))
          (get_or-set_other (set previous k before) at k k 0 apart ∙ get_or-set_same previous k before 0 (omega arith) ∙ sym before_is)
          ∙ insert-set_before (256 ∷ ss) p k 256 (omega arith);
      once = λ v. omega (arith, times-insert v ss p k, l.once v);
    }

pub linked-remove : (next previous ss free : List ℕ) → IsLinked next previous ss free → length next ≡ 257 → length previous ≡ 257 → (p k : ℕ) → StandsAt (ss ++ 256 ∷ []) p k → k < 256 → (before after : ℕ) → before ≡ get_or previous k 0 → after ≡ get_or next k 0
    → IsLinked (set next before after) (set previous after before) (remove ss p) (k ∷ free)
linked-remove next previous ss free l next_size previous_size p k here slot before after is_before is_after =
    let size = length-append ss (256 ∷ []) in
    let place : p < length ss = slot-before_end ss p k here slot in
    let before_is : get_or (256 ∷ ss) p 256 ≡ before = sym (is_before ∙ before-at l p k here) in
    let before_once : times before (256 ∷ ss) ≤ 1 = omega (arith, times-append before ss (256 ∷ []), times-row l before) in
    let before_below : before < 257 = omega (arith, before-below l p k here) in
    let after_is : get_or (ss ++ 256 ∷ []) (suc p) 256 ≡ after = sym (is_after ∙ next-at l p k here place) in
    let after_below : after < 257 = slot-below l (suc p) after (record { below = omega arith; is = after_is }) in
    let place_is : get_or ss p 256 ≡ k = sym (get_or_append_left ss (256 ∷ []) 256 p place) ∙ here.is in
    let row : remove (ss ++ 256 ∷ []) p ≡ remove ss p ++ 256 ∷ [] = remove-append_left ss (256 ∷ []) p place in
    record {
      forward =
          reads-remove (set next before after) (256 ∷ ss) (suc p)
          ∙ ap (λ r. remove r (suc p))
          (reads-set next before after (256 ∷ ss) p 256 (omega arith) (omega arith) before_is before_once
          ∙ ap₂ (λ r x. set r p x) l.forward (sym after_is))
          ∙ remove-set_after (ss ++ 256 ∷ []) p 256 (omega arith)
          ∙ row;
      backward =
          ap (reads (set previous after before)) (sym row)
          ∙ reads-remove (set previous after before) (ss ++ 256 ∷ []) p
          ∙ ap (λ r. remove r p)
          (reads-set previous after before (ss ++ 256 ∷ []) (suc p) 256 (omega arith) (omega arith) after_is (times-row l after)
          ∙ ap₂ (λ r x. set r (suc p) x) l.backward (sym before_is))
          ∙ remove-set_before (256 ∷ ss) p 256 (omega arith);
      once = λ v. omega (arith, rw place_is at (times-remove v ss p 256 place), l.once v);
    }
