-- One page of an object after another is taken out of the queues.
use Rattle.std.proofs.Common.{◌≡◌, ℕ, Bool, true, false, ◌+◌, ◌*◌, ◌/◌, ◌%◌, ◌<◌, ◌≤◌, inl, inr, ◌&&◌, List, [], ◌∷◌, length, get_or, set, filter, not, cond, refl, sym, ap, ap₂, ◌∙◌, arith, subst}
use Rattle.std.proofs.lemmas.List.{length-set, get_or-set_same, get_or-set_other, get_or_past}
use Rattle.std.proofs.lemmas.Bool.{cases_eq, cases_lt, cases_Bool, eq-eqb, ne_eqb, lt-ltb, le-ltb}
use Rattle.link_list.specs.KeyLists.{without}
use Rattle.link_list.proofs.Members.{without_head, without_other}
use Rattle.page_queues.specs.Tallies.{taken, is_of}
use Rattle.page_queues.specs.Pages.{is_of_first, without_object}

none_first : (o key : ℕ) → is_of_first o 0 key ≡ false
none_first o key = elim (cases_Bool (is_of o key)) [ inl e ↦ rw (e, le-ltb (key % 256) 0 (omega arith)) refl | inr e ↦ rw e refl ]

-- the next page is one of the first n + 1 pages, and not of the first n
next_isnt : (o n : ℕ) → n < 256 → is_of_first o n (256 * o + n) ≡ false
next_isnt o n lt = rw (le-ltb ((256 * o + n) % 256) n (omega arith)) (elim (cases_Bool (is_of o (256 * o + n))) [ inl e ↦ rw e refl | inr e ↦ rw e refl ])

next_is : (o n : ℕ) → n < 256 → is_of_first o (n + 1) (256 * o + n) ≡ true
next_is o n lt = rw (eq-eqb ((256 * o + n) / 256) o (omega arith), lt-ltb ((256 * o + n) % 256) (n + 1) (omega arith)) refl

-- any other key is one of the first n + 1 pages where it is one of the first n
other_is : (o n key : ℕ) → n < 256 → (256 * o + n ≡ key → ⊥) → is_of_first o (n + 1) key ≡ is_of_first o n key
other_is o n key lt e = elim (cases_eq (key / 256) o) [
  | inl s ↦ elim (cases_lt (key % 256) n) [
    | inl below ↦ rw (lt-ltb (key % 256) (n + 1) (omega arith), lt-ltb (key % 256) n below) refl
    | inr above ↦ rw (le-ltb (key % 256) (n + 1) (other_above s above), le-ltb (key % 256) n above) refl
  ]
  | inr s ↦ rw (ne_eqb (key / 256) o s) refl
]
  where
    other_above : key / 256 ≡ o → n ≤ key % 256 → n + 1 ≤ key % 256
    other_above s above = elim (cases_eq (key % 256) n) [
      | inl r ↦ absurd (e (omega arith))
      | inr r ↦ omega arith
    ]

kept_head : (o n x : ℕ) (xs : List ℕ) → is_of_first o n x ≡ false → filter (λ key. not (is_of_first o n key)) (x ∷ xs) ≡ x ∷ filter (λ key. not (is_of_first o n key)) xs
kept_head o n x xs b = ap (λ t. cond (not t) (x ∷ filter (λ key. not (is_of_first o n key)) xs) (filter (λ key. not (is_of_first o n key)) xs)) b

dropped_head : (o n x : ℕ) (xs : List ℕ) → is_of_first o n x ≡ true → filter (λ key. not (is_of_first o n key)) (x ∷ xs) ≡ filter (λ key. not (is_of_first o n key)) xs
dropped_head o n x xs b = ap (λ t. cond (not t) (x ∷ filter (λ key. not (is_of_first o n key)) xs) (filter (λ key. not (is_of_first o n key)) xs)) b

-- from one list
without_filter : (o n : ℕ) (xs : List ℕ) → n < 256 → without (256 * o + n) (filter (λ key. not (is_of_first o n key)) xs) ≡ filter (λ key. not (is_of_first o (n + 1) key)) xs
without_filter o n [] lt = refl
without_filter o n (x ∷ xs) lt = elim (cases_eq (256 * o + n) x) [
  | inl e ↦
      ap (without (256 * o + n)) (kept_head o n x xs (ap (is_of_first o n) (sym e) ∙ next_isnt o n lt))
      ∙ without_head (256 * o + n) x (filter (λ key. not (is_of_first o n key)) xs) e
      ∙ without_filter o n xs lt
      ∙ sym (dropped_head o (n + 1) x xs (ap (is_of_first o (n + 1)) (sym e) ∙ next_is o n lt))
  | inr e ↦ elim (cases_Bool (is_of_first o n x)) [
    | inl b ↦
        ap (without (256 * o + n)) (dropped_head o n x xs b)
        ∙ without_filter o n xs lt
        ∙ sym (dropped_head o (n + 1) x xs (other_is o n x lt e ∙ b))
    | inr b ↦
        ap (without (256 * o + n)) (kept_head o n x xs b)
        ∙ without_other (256 * o + n) x (filter (λ key. not (is_of_first o n key)) xs) e
        ∙ ap (λ ys. x ∷ ys) (without_filter o n xs lt)
        ∙ sym (kept_head o (n + 1) x xs (other_is o n x lt e ∙ b))
  ]
]

filter_none : (o : ℕ) (xs : List ℕ) → filter (λ key. not (is_of_first o 0 key)) xs ≡ xs
filter_none o [] = refl
filter_none o (x ∷ xs) = kept_head o 0 x xs (none_first o x) ∙ ap (λ ys. x ∷ ys) (filter_none o xs)

pub without_object_none : (o : ℕ) (queues : List (List ℕ)) → without_object o 0 queues ≡ queues
without_object_none o [] = refl
without_object_none o (xs ∷ queues) = ap₂ (λ (ys : List ℕ) (qs : List (List ℕ)). ys ∷ qs) (filter_none o xs) (without_object_none o queues)

pub without_object_more : (o n : ℕ) (queues : List (List ℕ)) → n < 256 → taken (without_object o n queues) (256 * o + n) ≡ without_object o (n + 1) queues
without_object_more o n [] lt = refl
without_object_more o n (xs ∷ queues) lt = ap₂ (λ (ys : List ℕ) (qs : List (List ℕ)). ys ∷ qs) (without_filter o n xs lt) (without_object_more o n queues lt)

-- the marks
pub marks_none : (o key : ℕ) (b : Bool) → b ≡ (b && not (is_of_first o 0 key))
marks_none o key true = ap not (sym (none_first o key))
marks_none o key false = refl

pub marks_more : (o n : ℕ) (old now : List Bool) → n < 256 → ((key : ℕ) → get_or now key false ≡ (get_or old key false && not (is_of_first o n key))) → (key : ℕ) → get_or (set now (256 * o + n) false) key false ≡ (get_or old key false && not (is_of_first o (n + 1) key))
marks_more o n old now lt h key = elim (cases_eq (256 * o + n) key) [
  | inl e ↦ subst (λ j. get_or (set now (256 * o + n) false) j false ≡ (get_or old j false && not (is_of_first o (n + 1) j))) e (gone now (256 * o + n) ∙ sym (ap (λ t. get_or old (256 * o + n) false && not t) (next_is o n lt) ∙ and_false (get_or old (256 * o + n) false)))
  | inr e ↦ get_or-set_other now (256 * o + n) key false false (λ s. e (sym s)) ∙ h key ∙ ap (λ t. get_or old key false && not t) (sym (other_is o n key lt e))
]
  where
    and_false : (b : Bool) → (b && false) ≡ false
    and_false true = refl
    and_false false = refl

    gone : (now : List Bool) (k : ℕ) → get_or (set now k false) k false ≡ false
    gone now k = elim (cases_lt k (length now)) [
      | inl inside ↦ get_or-set_same now k false false inside
      | inr past ↦ get_or_past (set now k false) k false (omega (arith, length-set now k false))
    ]
