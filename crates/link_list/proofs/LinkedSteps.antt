-- What the arrays of linked lists tell of the lists, and what each change of the arrays does to them.
use Rattle.std.proofs.Common.{◌≡◌, ℕ, true, false, ◌+◌, ◌<◌, ◌≤◌, ◌⊎◌, inl, inr, List, [], ◌∷◌, ◌++◌, length, get_or, set, map, refl, sym, ap, ◌∙◌, arith, subst, cond, nat_lt, slice_get, replicate, length-append, IsNone, IsSome, Some, None}
use Rattle.std.specs.List.{range_with_len, position_or_len}
use Rattle.std.proofs.lemmas.List.{get_or-set_same, get_or-set_other, length-set, same_lists, get_or_default, get_or_past, get_or_read, length-map, length-replicate, get_or-map, get_or-replicate, get_or_append_left, get_or-append_right}
use Rattle.std.proofs.lemmas.List.FromFn.{length-range_with_len, get_or-range_with_len, length-map-range_with_len, get_or-map-range_with_len}
use Rattle.std.proofs.lemmas.List.Sums.{position_or_len_is}
use Rattle.std.proofs.lemmas.Bool.{cases_eq, cases_lt, lt-ltb, le-ltb, false_from_ne_true, false≢true, true≢false}
use Rattle.link_list.specs.KeyLists.{list_at, has, without, IsOnce, after, place_of, list_with, IsOnceEach}
use Rattle.link_list.specs.Linked.{Runs, walked, lists_of, IsLinked}
use Rattle.link_list.proofs.Members.{has_head, has_at_head, has_in_rest, without_absent, has_push, has_push_old, has_push_new, IsOnce-push, has_without, has_without_other, IsOnce-without}
use Rattle.link_list.proofs.Runs.{Runs-set, Runs-push_back, Runs-push_front, Runs-remove, before_key, behind_key, first_link, last_link, head_by_link, after_by_link}
use Rattle.link_list.proofs.Walks.{length_le_cap, walk_runs}

module _ {n cap : ℕ} {next prev owner : List ℕ} {lists : List (List ℕ)} (h : IsLinked n cap next prev owner lists) where
  -- the walks give the lists
  pub lists_of_linked : lists_of n next cap ≡ lists
  lists_of_linked = same_lists _ _ (length-map-range_with_len (walked next cap) 0 n ∙ sym h.count) (λ k d lt.
      let k_in : k < n = subst (λ i. k < i) (length-map-range_with_len (walked next cap) 0 n) lt in
      get_or-map-range_with_len (walked next cap) 0 n k k d k_in (omega arith)
      ∙ walk_runs next prev cap cap (cap + k) (list_at lists k) (cap + k) (h.rings k k_in) (λ x m. (h.owned k x k_in m).0) (omega arith) (length_le_cap cap (list_at lists k) (h.once k k_in) (λ x m. (h.owned k x k_in m).0))
      ∙ get_or_default lists k [] d (omega (arith, h.count)))

  -- so they may be put for the lists
  pub linked_walks : IsLinked n cap next prev owner (lists_of n next cap)
  linked_walks = subst (λ ls. IsLinked n cap next prev owner ls) (sym lists_of_linked) h

  -- what is read in the arrays
  pub next_read : (i x : ℕ) → i < cap + n → x ≡ get_or next i x → x ≡ get_or next i 0
  next_read i x lt e = get_or_read next i x (omega (arith, h.nexts)) e 0

  pub prev_read : (i x : ℕ) → i < cap + n → x ≡ get_or prev i x → x ≡ get_or prev i 0
  prev_read i x lt e = get_or_read prev i x (omega (arith, h.prevs)) e 0

  pub owner_read : (i x : ℕ) → i < cap + n → x ≡ get_or owner i x → x ≡ get_or owner i 0
  owner_read i x lt e = get_or_read owner i x (omega (arith, h.owners)) e 0

  -- the owner of a key is the first list that has it, or the number of lists
  pub owner_is : (key : ℕ) → key < cap → position_or_len (has key) lists ≡ get_or owner key 0
  owner_is key lt = position_or_len_is (has key) lists (get_or owner key 0) [] (omega (arith, h.count, h.bound key lt))
      (λ l below. false_from_ne_true _ (λ m. absurd (let o : get_or owner key 0 ≡ l = (h.owned l key (omega (arith, h.bound key lt)) m).1 in omega arith)))
      (λ within. h.found key lt (omega (arith, h.count)))

  pub list_with_owner : (key : ℕ) → key < cap → list_with key lists ≡ list_at lists (get_or owner key 0)
  list_with_owner key lt = ap (list_at lists) (owner_is key lt)

  pub place_of_owner : (key : ℕ) → key < cap → get_or owner key 0 < n → place_of key lists ≡ Some (get_or owner key 0)
  place_of_owner key lt o = rw (owner_is key lt, h.count, lt-ltb (get_or owner key 0) n o) refl

  pub place_of_free : (key : ℕ) → key < cap → n ≤ get_or owner key 0 → place_of key lists ≡ None
  place_of_free key lt o = rw (owner_is key lt, h.count, le-ltb (get_or owner key 0) n o) refl

  -- whether a key stands somewhere, by its owner
  pub free_from_none : (key : ℕ) → key < cap → IsNone (place_of key lists) → get_or owner key 0 ≡ n
  free_from_none key lt none = elim (cases_lt (get_or owner key 0) n) [
    | inl o ↦ absurd (true≢false (subst IsNone (place_of_owner key lt o) none))
    | inr o ↦ omega (arith, h.bound key lt)
  ]

  pub owned_from_some : (key : ℕ) → key < cap → IsSome (place_of key lists) → get_or owner key 0 < n
  owned_from_some key lt some = elim (cases_lt (get_or owner key 0) n) [
    | inl o ↦ o
    | inr o ↦ absurd (false≢true (subst IsSome (place_of_free key lt o) some))
  ]

  -- a number at or above `cap` is in no list
  pub high_absent : (i l : ℕ) → cap ≤ i → l < n → has i (list_at lists l) ≡ false
  high_absent i l c lt = false_from_ne_true _ (λ m. absurd (let b = (h.owned l i lt m).0 in omega arith))

  -- a number whose owner is another list is in another ring
  pub apart_ring : (p l : ℕ) → l < n → (get_or owner p 0 ≡ l → ⊥) → (cap + l ≡ p → ⊥) × (has p (list_at lists l) ≡ false)
  apart_ring p l lt o = (
    λ e. o (ap (λ i. get_or owner i 0) (sym e) ∙ h.marks l lt),
    false_from_ne_true _ (λ m. o (h.owned l p lt m).1),
  )

  -- a change of the links of numbers of other rings
  pub ring_kept : (next' prev' : List ℕ) (p v m w l : ℕ) → l < n → Runs next' prev' (cap + l) (list_at lists l) (cap + l) → (get_or owner p 0 ≡ l → ⊥) → (get_or owner m 0 ≡ l → ⊥) → Runs (set next' p v) (set prev' m w) (cap + l) (list_at lists l) (cap + l)
  ring_kept next' prev' p v m w l lt r op om =
      let ap_ = apart_ring p l lt op in
      let am = apart_ring m l lt om in
      Runs-set next' prev' p v m w (cap + l) (list_at lists l) (cap + l) r ap_.0 ap_.1 am.1 am.0

  -- the number is a key of list l, or its end mark
  abbrev IsOf : ℕ → ℕ → Type 0
  IsOf l i = (i < cap + n) × (get_or owner i 0 ≡ l)

  key_is_of : (l : ℕ) → l < n → (x : ℕ) → has x (list_at lists l) ≡ true → IsOf l x
  key_is_of l lt x m = let o = h.owned l x lt m in (omega arith, o.1)

  pub last_is_of : (l : ℕ) → l < n → IsOf l (get_or prev (cap + l) 0)
  last_is_of l lt = last_link (IsOf l) next prev (cap + l) (list_at lists l) (cap + l) (h.rings l lt) (omega arith, h.marks l lt) (key_is_of l lt)

  pub first_is_of : (l : ℕ) → l < n → IsOf l (get_or next (cap + l) 0)
  first_is_of l lt = first_link (IsOf l) next prev (cap + l) (list_at lists l) (cap + l) (h.rings l lt) (key_is_of l lt) (omega arith, h.marks l lt)

  pub before_is_of : (key : ℕ) → key < cap → get_or owner key 0 < n → IsOf (get_or owner key 0) (get_or prev key 0)
  before_is_of key lt o =
      let l = get_or owner key 0 in
      before_key (IsOf l) next prev (cap + l) (list_at lists l) (cap + l) key (h.rings l o) (h.found key lt o) (omega arith, h.marks l o) (key_is_of l o)

  pub behind_is_of : (key : ℕ) → key < cap → get_or owner key 0 < n → IsOf (get_or owner key 0) (get_or next key 0)
  behind_is_of key lt o =
      let l = get_or owner key 0 in
      behind_key (IsOf l) next prev (cap + l) (list_at lists l) (cap + l) key (h.rings l o) (h.found key lt o) (key_is_of l o) (omega arith, h.marks l o)

  -- what a list's first link tells
  pub front_is : (l : ℕ) → l < n → slice_get (list_at lists l) 0 ≡ cond (nat_lt (get_or next (cap + l) 0) cap) (Some (get_or next (cap + l) 0)) None
  front_is l lt = head_by_link next prev cap (cap + l) (list_at lists l) (cap + l) (h.rings l lt) (λ x m. (h.owned l x lt m).0) (omega arith)

  -- what a key's link tells
  pub behind_is : (key : ℕ) → key < cap → get_or owner key 0 < n → after key (list_with key lists) ≡ cond (nat_lt (get_or next key 0) cap) (Some (get_or next key 0)) None
  behind_is key lt o =
      let l = get_or owner key 0 in
      ap (after key) (list_with_owner key lt) ∙ after_by_link next prev cap (cap + l) (list_at lists l) (cap + l) key (h.rings l o) (h.found key lt o) (λ x m. (h.owned l x o m).0) (omega arith)

  -- a key that stands nowhere has none behind it
  pub none_behind : (key : ℕ) → key < cap → get_or owner key 0 ≡ n → after key (list_with key lists) ≡ None
  none_behind key lt o = ap (after key) (list_with_owner key lt ∙ ap (list_at lists) o ∙ get_or_past lists n [] (omega (arith, h.count)))

  -- all keys are below `cap`
  pub all_below : (l key : ℕ) → has key (list_at lists l) ≡ true → key < cap
  all_below l key m = elim (cases_lt l n) [
    | inl ln ↦ (h.owned l key ln m).0
    | inr past ↦ absurd (false≢true (sym (ap (has key) (get_or_past lists l [] (omega (arith, h.count)))) ∙ m))
  ]

  pub once_each : IsOnceEach lists
  once_each = record {
    within = λ l lt. h.once l (omega (arith, h.count));
    between = λ l key lt m.
        let o = h.owned l key (omega (arith, h.count)) m in
        place_of_owner key o.0 (omega (arith, h.count)) ∙ ap Some o.1;
  }

  module _ (key l : ℕ) (kn : key < cap) (ln : l < n) (free : get_or owner key 0 ≡ n) where
    -- a key that no list has is put into list l, which becomes ys
    linked_put : (next' prev' ys : List ℕ) → length next' ≡ length next → length prev' ≡ length prev → IsOnce ys → has key ys ≡ true → ((x : ℕ) → has x ys ≡ true → (x ≡ key) ⊎ (has x (list_at lists l) ≡ true)) → ((x : ℕ) → has x (list_at lists l) ≡ true → has x ys ≡ true) → Runs next' prev' (cap + l) ys (cap + l) → ((m : ℕ) → m < n → (m ≡ l → ⊥) → Runs next' prev' (cap + m) (list_at lists m) (cap + m)) → IsLinked n cap next' prev' (set owner key l) (set lists l ys)
    linked_put next' prev' ys ne pe once now_in only kept ring others =
        let ls : l < length lists = omega (arith, h.count) in
        let same : list_at (set lists l ys) l ≡ ys = get_or-set_same lists l ys [] ls in
        let ko : key < length owner = omega (arith, h.owners) in
        record {
          nexts = ne ∙ h.nexts;
          prevs = pe ∙ h.prevs;
          owners = length-set owner key l ∙ h.owners;
          count = length-set lists l ys ∙ h.count;
          rings = λ m mn. elim (cases_eq m l) [
            | inl e ↦ subst (λ i. Runs next' prev' (cap + i) (list_at (set lists l ys) i) (cap + i)) (sym e) (subst (λ xs. Runs next' prev' (cap + l) xs (cap + l)) (sym same) ring)
            | inr e ↦ subst (λ xs. Runs next' prev' (cap + m) xs (cap + m)) (sym (get_or-set_other lists l m ys [] e)) (others m mn e)
          ];
          once = λ m mn. elim (cases_eq m l) [
            | inl e ↦ subst IsOnce (sym (ap (list_at (set lists l ys)) e ∙ same)) once
            | inr e ↦ subst IsOnce (sym (get_or-set_other lists l m ys [] e)) (h.once m mn)
          ];
          owned = λ m x mn i. elim (cases_eq m l) [
            | inl e ↦ elim (only x (ap (has x) (sym (ap (list_at (set lists l ys)) e ∙ same)) ∙ i)) [
              | inl k ↦ (omega arith, ap (λ j. get_or (set owner key l) j 0) k ∙ get_or-set_same owner key l 0 ko ∙ sym e)
              | inr k ↦
                  let o = h.owned l x ln k in
                  (o.0, get_or-set_other owner key x l 0 (λ s. absurd (let f : get_or owner x 0 ≡ n = ap (λ j. get_or owner j 0) s ∙ free in omega arith)) ∙ o.1 ∙ sym e)
            ]
            | inr e ↦
                let o = h.owned m x mn (ap (has x) (sym (get_or-set_other lists l m ys [] e)) ∙ i) in
                (o.0, get_or-set_other owner key x l 0 (λ s. absurd (let f : get_or owner x 0 ≡ n = ap (λ j. get_or owner j 0) s ∙ free in omega arith)) ∙ o.1)
          ];
          found = λ x xn o. elim (cases_eq x key) [
            | inl e ↦ let own : get_or (set owner key l) x 0 ≡ l = ap (λ j. get_or (set owner key l) j 0) e ∙ get_or-set_same owner key l 0 ko in
                subst (λ i. has x (list_at (set lists l ys) i) ≡ true) (sym own) (ap (has x) same ∙ ap (λ j. has j ys) e ∙ now_in)
            | inr e ↦
                let own : get_or (set owner key l) x 0 ≡ get_or owner x 0 = get_or-set_other owner key x l 0 e in
                let was : has x (list_at lists (get_or owner x 0)) ≡ true = h.found x xn (omega arith) in
                subst (λ i. has x (list_at (set lists l ys) i) ≡ true) (sym own) (elim (cases_eq (get_or owner x 0) l) [
                  | inl s ↦ ap (λ i. has x (list_at (set lists l ys) i)) s ∙ ap (has x) same ∙ kept x (ap (λ i. has x (list_at lists i)) (sym s) ∙ was)
                  | inr s ↦ ap (has x) (get_or-set_other lists l (get_or owner x 0) ys [] s) ∙ was
                ])
          ];
          marks = λ m mn. get_or-set_other owner key (cap + m) l 0 (λ s. omega arith) ∙ h.marks m mn;
          bound = λ x xn. elim (cases_eq x key) [
            | inl e ↦ let own : get_or (set owner key l) x 0 ≡ l = ap (λ j. get_or (set owner key l) j 0) e ∙ get_or-set_same owner key l 0 ko in omega arith
            | inr e ↦ let own : get_or (set owner key l) x 0 ≡ get_or owner x 0 = get_or-set_other owner key x l 0 e in omega (arith, h.bound x xn)
          ];
        }

    free_apart : (m : ℕ) → m < n → get_or owner key 0 ≡ m → ⊥
    free_apart m mn e = omega arith

    none_has : has key (list_at lists l) ≡ false
    none_has = false_from_ne_true _ (λ m. free_apart l ln (h.owned l key ln m).1)

    pub linked_push_back : (last : ℕ) → last ≡ get_or prev (cap + l) 0 → IsLinked n cap (set (set next last key) key (cap + l)) (set (set prev key last) (cap + l) key) (set owner key l) (set lists l (list_at lists l ++ key ∷ []))
    linked_push_back last is =
        let lo : IsOf l last = subst (IsOf l) (sym is) (last_is_of l ln) in
        let ring : Runs (set (set next last key) key (cap + l)) (set (set prev key last) (cap + l) key) (cap + l) (list_at lists l ++ key ∷ []) (cap + l) =
        subst (λ i. Runs (set (set next i key) key (cap + l)) (set (set prev key i) (cap + l) key) (cap + l) (list_at lists l ++ key ∷ []) (cap + l)) (sym is)
        (Runs-push_back next prev key (cap + l) (list_at lists l) (cap + l) (h.rings l ln) (h.once l ln) (λ e. omega arith) (λ e. omega arith) none_has (high_absent (cap + l) l (omega arith) ln) (high_absent (cap + l) l (omega arith) ln) (omega (arith, h.nexts)) (omega (arith, h.nexts, lo.0, is)) (omega (arith, h.prevs)) (omega (arith, h.prevs)))
        in
        linked_put _ _ (list_at lists l ++ key ∷ []) (length-set (set next last key) key (cap + l) ∙ length-set next last key) (length-set (set prev key last) (cap + l) key ∙ length-set prev key last)
        (IsOnce-push key (list_at lists l) (h.once l ln) none_has) (has_push_new key (list_at lists l)) (λ x m. has_push x key (list_at lists l) m) (λ x m. has_push_old x key (list_at lists l) m) ring
        (λ m mn ne. ring_kept (set next last key) (set prev key last) key (cap + l) (cap + l) key m mn
        (ring_kept next prev last key key last m mn (h.rings m mn) (λ e. ne (sym e ∙ lo.1)) (free_apart m mn))
        (free_apart m mn) (λ e. ne (sym e ∙ h.marks l ln)))

    pub linked_push_front : (first : ℕ) → first ≡ get_or next (cap + l) 0 → IsLinked n cap (set (set next (cap + l) key) key first) (set (set prev key (cap + l)) first key) (set owner key l) (set lists l (key ∷ list_at lists l))
    linked_push_front first is =
        let fo : IsOf l first = subst (IsOf l) (sym is) (first_is_of l ln) in
        let ring : Runs (set (set next (cap + l) key) key first) (set (set prev key (cap + l)) first key) (cap + l) (key ∷ list_at lists l) (cap + l) =
        subst (λ i. Runs (set (set next (cap + l) key) key i) (set (set prev key (cap + l)) i key) (cap + l) (key ∷ list_at lists l) (cap + l)) (sym is)
        (Runs-push_front next prev key (cap + l) (list_at lists l) (cap + l) (h.rings l ln) (h.once l ln) (λ e. omega arith) (λ e. omega arith) none_has (high_absent (cap + l) l (omega arith) ln) (high_absent (cap + l) l (omega arith) ln) (omega (arith, h.nexts)) (omega (arith, h.nexts)) (omega (arith, h.prevs)) (omega (arith, h.prevs, fo.0, is)))
        in
        linked_put _ _ (key ∷ list_at lists l) (length-set (set next (cap + l) key) key first ∙ length-set next (cap + l) key) (length-set (set prev key (cap + l)) first key ∙ length-set prev key (cap + l))
        (none_has, h.once l ln) (has_at_head key key (list_at lists l) refl) (λ x m. has_head x key (list_at lists l) m) (λ x m. has_in_rest x key (list_at lists l) m) ring
        (λ m mn ne. ring_kept (set next (cap + l) key) (set prev key (cap + l)) key first first key m mn
        (ring_kept next prev (cap + l) key key (cap + l) m mn (h.rings m mn) (λ e. ne (sym e ∙ h.marks l ln)) (free_apart m mn))
        (free_apart m mn) (λ e. ne (sym e ∙ fo.1)))

  -- a key is taken out of its list
  pub linked_remove : (key before behind : ℕ) → key < cap → get_or owner key 0 < n → before ≡ get_or prev key 0 → behind ≡ get_or next key 0 → IsLinked n cap (set next before behind) (set prev behind before) (set owner key n) (map (without key) lists)
  linked_remove key before behind kn o is_before is_behind =
      let l = get_or owner key 0 in
      let bo : IsOf l before = subst (IsOf l) (sym is_before) (before_is_of key kn o) in
      let eo : IsOf l behind = subst (IsOf l) (sym is_behind) (behind_is_of key kn o) in
      let ko : key < length owner = omega (arith, h.owners) in
      let now : (m : ℕ) → m < n → list_at (map (without key) lists) m ≡ without key (list_at lists m) = λ (m : ℕ) (mn : m < n). get_or-map (without key) lists m [] [] (omega (arith, h.count)) in
      record {
        nexts = length-set next before behind ∙ h.nexts;
        prevs = length-set prev behind before ∙ h.prevs;
        owners = length-set owner key n ∙ h.owners;
        count = length-map lists (without key) ∙ h.count;
        rings = λ m mn. subst (λ xs. Runs (set next before behind) (set prev behind before) (cap + m) xs (cap + m)) (sym (now m mn)) (elim (cases_eq m l) [
          | inl e ↦ subst (λ i. Runs (set next before behind) (set prev behind before) (cap + i) (without key (list_at lists i)) (cap + i)) (sym e)
              (subst (λ i. Runs (set next i behind) (set prev behind i) (cap + l) (without key (list_at lists l)) (cap + l)) (sym is_before)
              (subst (λ i. Runs (set next (get_or prev key 0) i) (set prev i (get_or prev key 0)) (cap + l) (without key (list_at lists l)) (cap + l)) (sym is_behind)
              (Runs-remove next prev key (cap + l) (list_at lists l) (cap + l) (h.rings l o) (h.once l o) (h.found key kn o) (high_absent (cap + l) l (omega arith) o) (high_absent (cap + l) l (omega arith) o) (omega (arith, h.nexts, bo.0, is_before)) (omega (arith, h.prevs, eo.0, is_behind)))))
          | inr e ↦ subst (λ xs. Runs (set next before behind) (set prev behind before) (cap + m) xs (cap + m)) (sym (without_absent key (list_at lists m) (false_from_ne_true _ (λ i. e (sym (h.owned m key mn i).1)))))
              (ring_kept next prev before behind behind before m mn (h.rings m mn) (λ s. e (sym s ∙ bo.1)) (λ s. e (sym s ∙ eo.1)))
        ]);
        once = λ m mn. subst IsOnce (sym (now m mn)) (IsOnce-without key (list_at lists m) (h.once m mn));
        owned = λ m x mn i.
            let was = has_without x key (list_at lists m) (ap (has x) (sym (now m mn)) ∙ i) in
            let own = h.owned m x mn was.1 in
            (own.0, get_or-set_other owner key x n 0 was.0 ∙ own.1);
        found = λ x xn less. elim (cases_eq x key) [
          | inl e ↦ absurd (let own : get_or (set owner key n) x 0 ≡ n = ap (λ j. get_or (set owner key n) j 0) e ∙ get_or-set_same owner key n 0 ko in omega arith)
          | inr e ↦
              let own : get_or (set owner key n) x 0 ≡ get_or owner x 0 = get_or-set_other owner key x n 0 e in
              let on : get_or owner x 0 < n = omega arith in
              subst (λ i. has x (list_at (map (without key) lists) i) ≡ true) (sym own) (ap (has x) (now (get_or owner x 0) on) ∙ has_without_other x key (list_at lists (get_or owner x 0)) e (h.found x xn on))
        ];
        marks = λ m mn. get_or-set_other owner key (cap + m) n 0 (λ s. omega arith) ∙ h.marks m mn;
        bound = λ x xn. elim (cases_eq x key) [
          | inl e ↦ let own : get_or (set owner key n) x 0 ≡ n = ap (λ j. get_or (set owner key n) j 0) e ∙ get_or-set_same owner key n 0 ko in omega arith
          | inr e ↦ let own : get_or (set owner key n) x 0 ≡ get_or owner x 0 = get_or-set_other owner key x n 0 e in omega (arith, h.bound x xn)
        ];
      }

-- arrays of empty lists
pub linked_new : (n cap : ℕ) → IsLinked n cap (range_with_len 0 (cap + n)) (range_with_len 0 (cap + n)) (replicate cap n ++ range_with_len 0 n) (replicate n [])
linked_new n cap =
    let self : (l : ℕ) → l < n → get_or (range_with_len 0 (cap + n)) (cap + l) 0 ≡ cap + l = λ (l : ℕ) (ln : l < n). get_or-range_with_len 0 (cap + n) (cap + l) 0 (omega arith) ∙ omega arith in
    let none : (l : ℕ) → l < n → list_at (replicate n []) l ≡ [] = λ (l : ℕ) (ln : l < n). get_or-replicate n l [] [] ln in
    let own : (key : ℕ) → key < cap → get_or (replicate cap n ++ range_with_len 0 n) key 0 ≡ n = λ (key : ℕ) (kn : key < cap). get_or_append_left (replicate cap n) (range_with_len 0 n) 0 key (rw (length-replicate cap n) kn) ∙ get_or-replicate cap key n 0 kn in
    record {
      nexts = length-range_with_len 0 (cap + n);
      prevs = length-range_with_len 0 (cap + n);
      owners = length-append (replicate cap n) (range_with_len 0 n) ∙ omega (arith, length-replicate cap n, length-range_with_len 0 n);
      count = length-replicate n [];
      rings = λ l ln. subst (λ xs. Runs (range_with_len 0 (cap + n)) (range_with_len 0 (cap + n)) (cap + l) xs (cap + l)) (sym (none l ln)) (self l ln, self l ln);
      once = λ l ln. subst IsOnce (sym (none l ln)) tt;
      owned = λ l key ln m. absurd (false≢true (ap (has key) (sym (none l ln)) ∙ m));
      found = λ key kn less. absurd (let o = own key kn in omega arith);
      marks = λ l ln. get_or-append_right (replicate cap n) (range_with_len 0 n) cap (cap + l) 0 (length-replicate cap n) (omega arith) ∙ ap (λ i. get_or (range_with_len 0 n) i 0) (omega arith) ∙ get_or-range_with_len 0 n l 0 ln ∙ omega arith;
      bound = λ key kn. let o = own key kn in omega arith;
    }
