-- Whether a key stands in a list that was changed.
use Rattle.std.proofs.Common.{Some, None, slice_get, ◌≡◌, ℕ, true, false, ◌⊎◌, inl, inr, List, [], ◌∷◌, ◌++◌, refl, sym, ap, ◌∙◌, subst, eqb}
use Rattle.std.proofs.lemmas.Bool.{eqb-true, eqb-false, eq-eqb, ne_eqb, or_parts, or_cases, or_left, or_right, cases_eq, false_from_ne_true, false≢true, both_ways, cases_Bool}
use Rattle.std.proofs.lemmas.Option.{none-some, same_Some}
use Rattle.link_list.specs.KeyLists.{has, without, IsOnce, after}

-- a key that isn't in a list with x at its head
pub apart_head : (key x : ℕ) (xs : List ℕ) → has key (x ∷ xs) ≡ false → (key ≡ x → ⊥) × (has key xs ≡ false)
apart_head key x xs h = let p = or_parts (eqb key x) (has key xs) h in (eqb-false key x p.0, p.1)

pub has_head : (key x : ℕ) (xs : List ℕ) → has key (x ∷ xs) ≡ true → (key ≡ x) ⊎ (has key xs ≡ true)
has_head key x xs h = elim (or_cases (eqb key x) (has key xs) h) [
  | inl e ↦ inl (eqb-true key x e)
  | inr e ↦ inr e
]

pub other_in_rest : (key x : ℕ) (xs : List ℕ) → has key (x ∷ xs) ≡ true → (key ≡ x → ⊥) → has key xs ≡ true
other_in_rest key x xs h n = elim (has_head key x xs h) [
  | inl e ↦ absurd (n e)
  | inr e ↦ e
]

pub has_at_head : (key x : ℕ) (xs : List ℕ) → key ≡ x → has key (x ∷ xs) ≡ true
has_at_head key x xs e = or_left (eqb key x) (has key xs) (eq-eqb key x e)

pub has_in_rest : (key x : ℕ) (xs : List ℕ) → has key xs ≡ true → has key (x ∷ xs) ≡ true
has_in_rest key x xs e = or_right (eqb key x) (has key xs) e

-- two keys of which a list has only one are different
pub apart_from_has : (j k : ℕ) (xs : List ℕ) → has j xs ≡ true → has k xs ≡ false → j ≡ k → ⊥
apart_from_has j k xs h n e = both_ways (has k xs) n (ap (λ i. has i xs) (sym e) ∙ h)

-- a list that hasn't a key stays when the key is taken out
pub without_absent : (key : ℕ) (xs : List ℕ) → has key xs ≡ false → without key xs ≡ xs
without_absent key [] h = refl
without_absent key (x ∷ xs) h =
    let p = or_parts (eqb key x) (has key xs) h in
    rw (p.0) (ap (λ ys. x ∷ ys) (without_absent key xs p.1))

pub without_head : (key x : ℕ) (xs : List ℕ) → key ≡ x → without key (x ∷ xs) ≡ without key xs
without_head key x xs e = rw (eq-eqb key x e) refl

pub without_other : (key x : ℕ) (xs : List ℕ) → (key ≡ x → ⊥) → without key (x ∷ xs) ≡ x ∷ without key xs
without_other key x xs e = rw (ne_eqb key x e) refl

-- after a push
pub has_push : (x key : ℕ) (xs : List ℕ) → has x (xs ++ key ∷ []) ≡ true → (x ≡ key) ⊎ (has x xs ≡ true)
has_push x key [] h = elim (has_head x key [] h) [ inl e ↦ inl e | inr e ↦ inr e ]
has_push x key (y ∷ xs) h = elim (has_head x y (xs ++ key ∷ []) h) [
  | inl e ↦ inr (has_at_head x y xs e)
  | inr e ↦ elim (has_push x key xs e) [ inl s ↦ inl s | inr s ↦ inr (has_in_rest x y xs s) ]
]

pub has_push_old : (x key : ℕ) (xs : List ℕ) → has x xs ≡ true → has x (xs ++ key ∷ []) ≡ true
has_push_old x key [] h = absurd (false≢true h)
has_push_old x key (y ∷ xs) h = elim (has_head x y xs h) [
  | inl e ↦ has_at_head x y (xs ++ key ∷ []) e
  | inr e ↦ has_in_rest x y (xs ++ key ∷ []) (has_push_old x key xs e)
]

pub has_push_new : (key : ℕ) (xs : List ℕ) → has key (xs ++ key ∷ []) ≡ true
has_push_new key [] = has_at_head key key [] refl
has_push_new key (y ∷ xs) = has_in_rest key y (xs ++ key ∷ []) (has_push_new key xs)

pub has_push_none : (x key : ℕ) (xs : List ℕ) → has x xs ≡ false → (x ≡ key → ⊥) → has x (xs ++ key ∷ []) ≡ false
has_push_none x key xs h n = false_from_ne_true _ (λ m. elim (has_push x key xs m) [ inl e ↦ n e | inr e ↦ both_ways (has x xs) h e ])

pub IsOnce-push : (key : ℕ) (xs : List ℕ) → IsOnce xs → has key xs ≡ false → IsOnce (xs ++ key ∷ [])
IsOnce-push key [] o h = (refl, tt)
IsOnce-push key (x ∷ xs) o h = let a = apart_head key x xs h in (has_push_none x key xs o.0 (λ e. a.0 (sym e)), IsOnce-push key xs o.1 a.1)

-- after a key was taken out
pub has_without : (x key : ℕ) (xs : List ℕ) → has x (without key xs) ≡ true → (x ≡ key → ⊥) × (has x xs ≡ true)
has_without x key [] h = absurd (false≢true h)
has_without x key (y ∷ xs) h = elim (cases_eq key y) [
  | inl e ↦ let r = has_without x key xs (ap (has x) (sym (without_head key y xs e)) ∙ h) in (r.0, has_in_rest x y xs r.1)
  | inr e ↦ elim (has_head x y (without key xs) (ap (has x) (sym (without_other key y xs e)) ∙ h)) [
    | inl s ↦ (λ k. e (sym k ∙ s), has_at_head x y xs s)
    | inr s ↦ let r = has_without x key xs s in (r.0, has_in_rest x y xs r.1)
  ]
]

pub has_without_other : (x key : ℕ) (xs : List ℕ) → (x ≡ key → ⊥) → has x xs ≡ true → has x (without key xs) ≡ true
has_without_other x key [] n h = absurd (false≢true h)
has_without_other x key (y ∷ xs) n h = elim (cases_eq key y) [
  | inl e ↦ ap (has x) (without_head key y xs e) ∙ has_without_other x key xs n (other_in_rest x y xs h (λ s. n (s ∙ sym e)))
  | inr e ↦ ap (has x) (without_other key y xs e) ∙ elim (has_head x y xs h) [
    | inl s ↦ has_at_head x y (without key xs) s
    | inr s ↦ has_in_rest x y (without key xs) (has_without_other x key xs n s)
  ]
]

pub has_without_none : (x key : ℕ) (xs : List ℕ) → has x xs ≡ false → has x (without key xs) ≡ false
has_without_none x key xs h = false_from_ne_true _ (λ m. both_ways (has x xs) h (has_without x key xs m).1)

pub IsOnce-without : (key : ℕ) (xs : List ℕ) → IsOnce xs → IsOnce (without key xs)
IsOnce-without key [] o = tt
IsOnce-without key (x ∷ xs) o = elim (cases_eq key x) [
  | inl e ↦ subst IsOnce (sym (without_head key x xs e)) (IsOnce-without key xs o.1)
  | inr e ↦ subst IsOnce (sym (without_other key x xs e)) (has_without_none x key xs o.0, IsOnce-without key xs o.1)
]

-- one list behind another
pub has_append : (x : ℕ) (xs ys : List ℕ) → has x (xs ++ ys) ≡ true → (has x xs ≡ true) ⊎ (has x ys ≡ true)
has_append x [] ys h = inr h
has_append x (y ∷ xs) ys h = elim (has_head x y (xs ++ ys) h) [
  | inl e ↦ inl (has_at_head x y xs e)
  | inr e ↦ elim (has_append x xs ys e) [ inl s ↦ inl (has_in_rest x y xs s) | inr s ↦ inr s ]
]

pub IsOnce-append : (xs ys : List ℕ) → IsOnce xs → IsOnce ys → ((x : ℕ) → has x xs ≡ true → has x ys ≡ false) → IsOnce (xs ++ ys)
IsOnce-append [] ys o p apart = p
IsOnce-append (x ∷ xs) ys o p apart = (
  false_from_ne_true _ (λ m. elim (has_append x xs ys m) [ inl e ↦ both_ways _ o.0 e | inr e ↦ both_ways _ (apart x (has_at_head x x xs refl)) e ]),
  IsOnce-append xs ys o.1 p (λ y m. apart y (has_in_rest y x xs m)),
)

-- the key after a key, in one list behind another
pub after-skip : (key : ℕ) (xs ys : List ℕ) → has key xs ≡ false → after key (xs ++ ys) ≡ after key ys
after-skip key [] ys h = refl
after-skip key (x ∷ xs) ys h = let a = apart_head key x xs h in rw (ne_eqb key x a.0) (after-skip key xs ys a.1)

after_alone : (key x : ℕ) → after key (x ∷ []) ≡ None
after_alone key x = elim (cases_eq key x) [ inl e ↦ rw (eq-eqb key x e) refl | inr e ↦ rw (ne_eqb key x e) refl ]

pub after-in_some : (key y : ℕ) (xs ys : List ℕ) → after key xs ≡ Some y → after key (xs ++ ys) ≡ Some y
after-in_some key y [] ys h = absurd (none-some y h)
after-in_some key y (x ∷ []) ys h = absurd (none-some y (sym (after_alone key x) ∙ h))
after-in_some key y (x ∷ z ∷ xs) ys h = elim (cases_eq key x) [
  | inl e ↦ rw (eq-eqb key x e) (sym (rw (eq-eqb key x e) refl) ∙ h)
  | inr e ↦ rw (ne_eqb key x e) (after-in_some key y (z ∷ xs) ys (sym (rw (ne_eqb key x e) refl) ∙ h))
]

pub after-in_none : (key : ℕ) (xs ys : List ℕ) → has key xs ≡ true → after key xs ≡ None → after key (xs ++ ys) ≡ slice_get ys 0
after-in_none key [] ys m h = absurd (false≢true m)
after-in_none key (x ∷ []) ys m h = rw (eq-eqb key x (elim (has_head key x [] m) [ inl e ↦ e | inr e ↦ absurd (false≢true e) ])) refl
after-in_none key (x ∷ z ∷ xs) ys m h = elim (cases_eq key x) [
  | inl e ↦ absurd (none-some z (sym h ∙ rw (eq-eqb key x e) refl))
  | inr e ↦ rw (ne_eqb key x e) (after-in_none key (z ∷ xs) ys (other_in_rest key x (z ∷ xs) m e) (sym (rw (ne_eqb key x e) refl) ∙ h))
]

-- the key after a key is in the list
pub has_after : (key y : ℕ) (xs : List ℕ) → after key xs ≡ Some y → has y xs ≡ true
has_after key y [] h = absurd (none-some y h)
has_after key y (x ∷ []) h = absurd (none-some y (sym (after_alone key x) ∙ h))
has_after key y (x ∷ z ∷ xs) h = elim (cases_eq key x) [
  | inl e ↦ has_in_rest y x (z ∷ xs) (has_at_head y z xs (sym (same_Some z y (sym (rw (eq-eqb key x e) refl) ∙ h))))
  | inr e ↦ has_in_rest y x (z ∷ xs) (has_after key y (z ∷ xs) (sym (rw (ne_eqb key x e) refl) ∙ h))
]

pub has_push_other : (x key : ℕ) (xs : List ℕ) → (x ≡ key → ⊥) → has x (xs ++ key ∷ []) ≡ has x xs
has_push_other x key xs n = elim (cases_Bool (has x xs)) [
  | inl e ↦ has_push_old x key xs e ∙ sym e
  | inr e ↦ has_push_none x key xs e n ∙ sym e
]
