-- The lengths of lists of pages and the numbers of an object's pages in them, when a key is put in or taken out.
use Rattle.std.proofs.Common.{◌≡◌, ℕ, Bool, true, ◌+◌, ◌-◌, ◌*◌, ◌/◌, ◌<◌, ◌≤◌, inl, inr, List, [], ◌∷◌, ◌++◌, length, get_or, set, filter, cond, not, replicate, refl, sym, ap, ◌∙◌, arith, Some}
use Rattle.std.proofs.lemmas.List.{length-append, length-set, length-map, length-replicate, get_or-map, get_or-replicate, get_or-set_same, get_or-set_other}
use Rattle.std.proofs.lemmas.List.Elements.{filter-append}
use Rattle.std.proofs.lemmas.List.Filters.{length-filter_both}
use Rattle.std.proofs.lemmas.Bool.{cases_eq, cases_Bool, false≢true, false_from_ne_true, eq-eqb, ne_eqb}
use Rattle.std.proofs.lemmas.Option.{same_Some}
use Rattle.link_list.specs.KeyLists.{KeyLists, list_at, has, without, IsOnce, IsOnceEach, place_of}
use Rattle.link_list.proofs.Members.{other_in_rest, without_absent, without_head, without_other}
use Rattle.link_list.proofs.Places.{has_at_place}
use Rattle.link_list.proofs.Walks.{length_le_cap}
use Rattle.page_queues.specs.Tallies.{is_of, count_of, taken, IsTallied}

-- how many of an object's pages a key is
abbrev one_if : Bool → ℕ
one_if b = cond b 1 0

count_of-push : (o key : ℕ) (keys : List ℕ) → count_of o (keys ++ key ∷ []) ≡ count_of o keys + one_if (is_of o key)
count_of-push o key keys =
    ap length (filter-append (is_of o) keys (key ∷ []))
    ∙ length-append (filter (is_of o) keys) (filter (is_of o) (key ∷ []))
    ∙ elim (cases_Bool (is_of o key)) [ inl e ↦ rw e refl | inr e ↦ rw e refl ]

length-without : (key : ℕ) (keys : List ℕ) → IsOnce keys → has key keys ≡ true → length (without key keys) + 1 ≡ length keys
length-without key [] o m = absurd (false≢true m)
length-without key (x ∷ xs) o m = elim (cases_eq key x) [
  | inl e ↦ ap (λ ys. length ys + 1) (without_head key x xs e ∙ without_absent key xs (ap (λ i. has i xs) e ∙ o.0)) ∙ omega arith
  | inr e ↦ ap (λ ys. length ys + 1) (without_other key x xs e) ∙ (let l = length-without key xs o.1 (other_in_rest key x xs m e) in omega arith)
]

count_of-without : (o key : ℕ) (keys : List ℕ) → IsOnce keys → has key keys ≡ true → count_of o (without key keys) + one_if (is_of o key) ≡ count_of o keys
count_of-without o key [] p m = absurd (false≢true m)
count_of-without o key (x ∷ xs) p m = elim (cases_eq key x) [
  | inl e ↦
      ap (λ ys. count_of o ys + one_if (is_of o key)) (without_head key x xs e ∙ without_absent key xs (ap (λ i. has i xs) e ∙ p.0))
      ∙ ap (λ i. count_of o xs + one_if (is_of o i)) e
      ∙ elim (cases_Bool (is_of o x)) [ inl b ↦ rw b (omega arith) | inr b ↦ rw b (omega arith) ]
  | inr e ↦
      ap (λ ys. count_of o ys + one_if (is_of o key)) (without_other key x xs e)
      ∙ (let l = count_of-without o key xs p.1 (other_in_rest key x xs m e) in elim (cases_Bool (is_of o x)) [ inl b ↦ rw b (omega arith) | inr b ↦ rw b (omega arith) ])
]

count_of_le : (o : ℕ) (keys : List ℕ) → count_of o keys ≤ length keys
count_of_le o keys = omega (arith, length-filter_both (is_of o) (λ x. not (is_of o x)) (λ x. refl) keys)

module _ {objects : ℕ} {kept : KeyLists} {lengths counts : List ℕ} (h : IsTallied objects kept lengths counts) (once : IsOnceEach kept.lists) (below : (l key : ℕ) → has key (list_at kept.lists l) ≡ true → key < kept.cap) where
  -- no number is too large
  pub length_small : (l : ℕ) → l < 3 → get_or lengths l 0 ≤ 65536
  length_small l lt =
      let few = length_le_cap kept.cap (list_at kept.lists l) (once.within l (omega (arith, h.three))) (below l) in
      omega (arith, h.lengths_are l lt, h.cap, h.few)

  pub count_small : (o l : ℕ) → o < objects → l < 3 → get_or counts (3 * o + l) 0 ≤ 65536
  count_small o l ol lt = omega (arith, h.counts_are o l ol lt, count_of_le o (list_at kept.lists l), length_small l lt, h.lengths_are l lt)

  now_at : (after : KeyLists) (l key : ℕ) → l < 3 → after.lists ≡ set kept.lists l (list_at kept.lists l ++ key ∷ []) → list_at after.lists l ≡ list_at kept.lists l ++ key ∷ []
  now_at after l key lt lists = ap (λ ls. list_at ls l) lists ∙ get_or-set_same kept.lists l (list_at kept.lists l ++ key ∷ []) [] (omega (arith, h.three))

  now_other : (after : KeyLists) (l key m : ℕ) → after.lists ≡ set kept.lists l (list_at kept.lists l ++ key ∷ []) → (m ≡ l → ⊥) → list_at after.lists m ≡ list_at kept.lists m
  now_other after l key m lists e = ap (λ ls. list_at ls m) lists ∙ get_or-set_other kept.lists l m (list_at kept.lists l ++ key ∷ []) [] e

  gone_at : (after : KeyLists) (key l : ℕ) → l < 3 → after.lists ≡ taken kept.lists key → list_at after.lists l ≡ without key (list_at kept.lists l)
  gone_at after key l lt lists = ap (λ ls. list_at ls l) lists ∙ get_or-map (without key) kept.lists l [] [] (omega (arith, h.three))

  gone_other : (after : KeyLists) (key l m : ℕ) → place_of key kept.lists ≡ Some l → m < 3 → after.lists ≡ taken kept.lists key → (m ≡ l → ⊥) → list_at after.lists m ≡ list_at kept.lists m
  gone_other after key l m place mt lists e =
      gone_at after key m mt lists
      ∙ without_absent key (list_at kept.lists m) (false_from_ne_true _ (λ i. e (same_Some m l (sym (once.between m key (omega (arith, h.three)) i) ∙ place))))

  -- a key is put at the tail of list l
  pub tallied_push : (after : KeyLists) (l key x y : ℕ) → l < 3 → key / 256 < objects → after.cap ≡ kept.cap → after.lists ≡ set kept.lists l (list_at kept.lists l ++ key ∷ []) → x ≡ get_or lengths l 0 + 1 → y ≡ get_or counts (3 * (key / 256) + l) 0 + 1 → IsTallied objects after (set lengths l x) (set counts (3 * (key / 256) + l) y)
  tallied_push after l key x y lt ok cap lists ex ey = record {
    few = h.few;
    cap = cap ∙ h.cap;
    three = ap length lists ∙ length-set kept.lists l (list_at kept.lists l ++ key ∷ []) ∙ h.three;
    each_length = length-set lengths l x ∙ h.each_length;
    each_count = length-set counts (3 * (key / 256) + l) y ∙ h.each_count;
    lengths_are = λ m mt. elim (cases_eq m l) [
      | inl e ↦
          ap (λ j. get_or (set lengths l x) j 0) e
          ∙ get_or-set_same lengths l x 0 (omega (arith, h.each_length))
          ∙ ex
          ∙ (let was = h.lengths_are l lt in let more = length-append (list_at kept.lists l) (key ∷ []) in omega arith)
          ∙ sym (ap length (now_at after l key lt lists))
          ∙ ap (λ j. length (list_at after.lists j)) (sym e)
      | inr e ↦ get_or-set_other lengths l m x 0 e ∙ h.lengths_are m mt ∙ sym (ap length (now_other after l key m lists e))
    ];
    counts_are = λ o m ol mt. elim (cases_eq m l) [
      | inl e ↦ elim (cases_eq (key / 256) o) [
        | inl s ↦
            ap (λ j. get_or (set counts (3 * (key / 256) + l) y) j 0) (omega arith)
            ∙ get_or-set_same counts (3 * (key / 256) + l) y 0 (omega (arith, h.each_count))
            ∙ ey
            ∙ (let was = h.counts_are (key / 256) l ok lt in let more = count_of-push (key / 256) key (list_at kept.lists l) in let one = ap one_if (eq-eqb (key / 256) (key / 256) refl) in omega arith)
            ∙ sym (ap (count_of (key / 256)) (now_at after l key lt lists))
            ∙ ap (λ j. count_of (key / 256) (list_at after.lists j)) (sym e)
            ∙ ap (λ j. count_of j (list_at after.lists m)) s
        | inr s ↦
            get_or-set_other counts (3 * (key / 256) + l) (3 * o + m) y 0 (λ j. s (omega arith))
            ∙ h.counts_are o m ol mt
            ∙ ap (λ j. count_of o (list_at kept.lists j)) e
            ∙ (let more = count_of-push o key (list_at kept.lists l) in let none = ap one_if (ne_eqb (key / 256) o s) in omega arith)
            ∙ sym (ap (count_of o) (now_at after l key lt lists))
            ∙ ap (λ j. count_of o (list_at after.lists j)) (sym e)
      ]
      | inr e ↦
          get_or-set_other counts (3 * (key / 256) + l) (3 * o + m) y 0 (λ j. e (omega arith))
          ∙ h.counts_are o m ol mt
          ∙ sym (ap (count_of o) (now_other after l key m lists e))
    ];
  }

  -- a key is taken out of list l
  pub length_positive : (key l : ℕ) → place_of key kept.lists ≡ Some l → 1 ≤ get_or lengths l 0
  length_positive key l place =
      let at = has_at_place key l kept.lists place in
      let less = length-without key (list_at kept.lists l) (once.within l at.0) at.2 in
      omega (arith, h.lengths_are l (omega (arith, at.0, h.three)))

  pub count_positive : (key l : ℕ) → key / 256 < objects → place_of key kept.lists ≡ Some l → 1 ≤ get_or counts (3 * (key / 256) + l) 0
  count_positive key l ok place =
      let at = has_at_place key l kept.lists place in
      let less = count_of-without (key / 256) key (list_at kept.lists l) (once.within l at.0) at.2 in
      let one = ap one_if (eq-eqb (key / 256) (key / 256) refl) in
      omega (arith, h.counts_are (key / 256) l ok (omega (arith, at.0, h.three)))

  pub tallied_take : (after : KeyLists) (l key x y : ℕ) → key / 256 < objects → place_of key kept.lists ≡ Some l → after.cap ≡ kept.cap → after.lists ≡ taken kept.lists key → x ≡ get_or lengths l 0 - 1 → y ≡ get_or counts (3 * (key / 256) + l) 0 - 1 → IsTallied objects after (set lengths l x) (set counts (3 * (key / 256) + l) y)
  tallied_take after l key x y ok place cap lists ex ey =
      let at = has_at_place key l kept.lists place in
      let lt : l < 3 = omega (arith, at.0, h.three) in
      record {
        few = h.few;
        cap = cap ∙ h.cap;
        three = ap length lists ∙ length-map kept.lists (without key) ∙ h.three;
        each_length = length-set lengths l x ∙ h.each_length;
        each_count = length-set counts (3 * (key / 256) + l) y ∙ h.each_count;
        lengths_are = λ m mt. elim (cases_eq m l) [
          | inl e ↦
              ap (λ j. get_or (set lengths l x) j 0) e
              ∙ get_or-set_same lengths l x 0 (omega (arith, h.each_length))
              ∙ ex
              ∙ (let was = h.lengths_are l lt in let less = length-without key (list_at kept.lists l) (once.within l at.0) at.2 in omega arith)
              ∙ sym (ap length (gone_at after key l lt lists))
              ∙ ap (λ j. length (list_at after.lists j)) (sym e)
          | inr e ↦ get_or-set_other lengths l m x 0 e ∙ h.lengths_are m mt ∙ sym (ap length (gone_other after key l m place mt lists e))
        ];
        counts_are = λ o m ol mt. elim (cases_eq m l) [
          | inl e ↦ elim (cases_eq (key / 256) o) [
            | inl s ↦
                ap (λ j. get_or (set counts (3 * (key / 256) + l) y) j 0) (omega arith)
                ∙ get_or-set_same counts (3 * (key / 256) + l) y 0 (omega (arith, h.each_count))
                ∙ ey
                ∙ (let was = h.counts_are (key / 256) l ok lt in let less = count_of-without (key / 256) key (list_at kept.lists l) (once.within l at.0) at.2 in let one = ap one_if (eq-eqb (key / 256) (key / 256) refl) in omega arith)
                ∙ sym (ap (count_of (key / 256)) (gone_at after key l lt lists))
                ∙ ap (λ j. count_of (key / 256) (list_at after.lists j)) (sym e)
                ∙ ap (λ j. count_of j (list_at after.lists m)) s
            | inr s ↦
                get_or-set_other counts (3 * (key / 256) + l) (3 * o + m) y 0 (λ j. s (omega arith))
                ∙ h.counts_are o m ol mt
                ∙ ap (λ j. count_of o (list_at kept.lists j)) e
                ∙ (let less = count_of-without o key (list_at kept.lists l) (once.within l at.0) at.2 in let none = ap one_if (ne_eqb (key / 256) o s) in omega arith)
                ∙ sym (ap (count_of o) (gone_at after key l lt lists))
                ∙ ap (λ j. count_of o (list_at after.lists j)) (sym e)
          ]
          | inr e ↦
              get_or-set_other counts (3 * (key / 256) + l) (3 * o + m) y 0 (λ j. e (omega arith))
              ∙ h.counts_are o m ol mt
              ∙ sym (ap (count_of o) (gone_other after key l m place mt lists e))
        ];
      }

-- empty lists
pub tallied_new : (objects : ℕ) → objects ≤ 256 → IsTallied objects (record { cap = 256 * objects; lists = replicate 3 [] }) (replicate 3 0) (replicate (3 * objects) 0)
tallied_new objects few = record {
  few = few;
  cap = refl;
  three = refl;
  each_length = refl;
  each_count = length-replicate (3 * objects) 0;
  lengths_are = λ l lt. get_or-replicate 3 l 0 0 lt ∙ sym (ap length (get_or-replicate 3 l [] [] lt));
  counts_are = λ o l ol lt. get_or-replicate (3 * objects) (3 * o + l) 0 0 (omega arith) ∙ sym (ap (count_of o) (get_or-replicate 3 l [] [] lt));
}
