-- The mark at the first gap that isn't 0, after a change of the gaps.
use Rattle.std.proofs.Common.{◌≡◌, ℕ, ◌+◌, ◌-◌, ◌<◌, ◌≤◌, zero, suc, List, length, get_or, set, refl, ap, sym, ◌∙◌, subst, inl, inr, Bool, true, false, arith}
use Rattle.std.specs.List.{insert, remove}
use Rattle.std.proofs.lemmas.Bool.{cases_lt, false≢true}
use Rattle.std.proofs.lemmas.List.{get_or-set_other, get_or-set_same, length-set}
use Rattle.std.proofs.lemmas.List.Edits.{get_or-insert_below, get_or-insert_at, get_or-insert_above, get_or-remove_below, get_or-remove_above, length-insert, length-remove}
use Rattle.token_list.specs.Slots.{StandsAt}
use Rattle.token_list.specs.Gaps.{running, IsMarked}
use Rattle.token_list.proofs.GapLemmas.{running-gap, running-step, running-first, running-zeros}

-- a gap at the mark or behind it has changed
pub IsMarked-set : (gs ss : List ℕ) (mark ripe q x : ℕ) → IsMarked gs ss mark ripe → ripe ≤ q → q < length gs → (q ≡ ripe → q + 1 < length gs → 0 < x) → IsMarked (set gs q x) ss mark ripe
IsMarked-set gs ss mark ripe q x m le h some = record {
  stands = m.stands;
  zeros = λ p lt. get_or-set_other gs q p x 0 (omega arith) ∙ m.zeros p lt;
  unripe = λ lt.
      let size = length-set gs q x in
      elim (cases_lt ripe q) as (λ _. 0 < get_or (set gs q x) ripe 0) [
        | inl before ↦ omega (arith, get_or-set_other gs q ripe x 0 (omega arith), m.unripe (omega arith))
        | inr past ↦
            let here : q ≡ ripe = omega arith in
            let read : get_or (set gs q x) ripe 0 ≡ x = ap (λ k. get_or (set gs q x) k 0) (sym here) ∙ get_or-set_same gs q x 0 h in
            omega (arith, some here (omega arith))
      ];
}

-- the sum of the gaps before a place
abbrev pub sum_before : List ℕ → ℕ → ℕ
sum_before gs p = get_or (running 0 gs) p 0 - get_or gs p 0

pub sum_before-first : (gs : List ℕ) → sum_before gs 0 ≡ 0
sum_before-first gs = omega (arith, running-first gs)

pub sum_before-suc : (gs : List ℕ) (p : ℕ) → suc p < length gs → sum_before gs (suc p) ≡ get_or (running 0 gs) p 0
sum_before-suc gs p h = omega (arith, running-step 0 gs p h)

-- it is 0 at the mark, and more behind it
pub sum_before-mark : (gs ss : List ℕ) (mark ripe : ℕ) → IsMarked gs ss mark ripe → ripe < length gs → sum_before gs ripe ≡ 0
sum_before-mark gs ss mark zero m h = sum_before-first gs
sum_before-mark gs ss mark (suc r) m h = sum_before-suc gs r h ∙ running-zeros gs (suc r) m.zeros r (omega arith) (omega arith)

pub sum_before-past : (gs ss : List ℕ) (mark ripe p : ℕ) → IsMarked gs ss mark ripe → ripe < p → p < length gs → 0 < sum_before gs p
sum_before-past gs ss mark ripe zero m lt h = absurd (omega arith)
sum_before-past gs ss mark ripe (suc p) m lt h =
    omega (arith, sum_before-suc gs p h, running-gap 0 gs ripe p (omega arith) (omega arith), m.unripe (omega arith))

-- a gap is parted in two at place p, and a slot comes in there
pub IsMarked-insert_past : (gs ss : List ℕ) (mark ripe p k x d : ℕ) → IsMarked gs ss mark ripe → length ss ≡ length gs → ripe < p → p < length gs
    → IsMarked (insert (set gs p x) p d) (insert ss p k) mark ripe
IsMarked-insert_past gs ss mark ripe p k x d m size lt h =
    let whole = length-set gs p x in
    let below : (i : ℕ) → i < p → get_or (insert (set gs p x) p d) i 0 ≡ get_or gs i 0 =
    λ i lt. get_or-insert_below (set gs p x) p d 0 i lt (omega arith) ∙ get_or-set_other gs p i x 0 (omega arith) in
    record {
      stands = record {
        below = omega (arith, length-insert ss p k (omega arith), m.stands.below);
        is = get_or-insert_below ss p k 256 ripe lt (omega arith) ∙ m.stands.is;
      };
      zeros = λ i before. below i (omega arith) ∙ m.zeros i before;
      unripe = λ _. omega (arith, below ripe lt, m.unripe (omega arith));
    }

pub IsMarked-insert_here : (gs ss : List ℕ) (mark ripe k x d : ℕ) → IsMarked gs ss mark ripe → length ss ≡ length gs → 0 < d
    → IsMarked (insert (set gs ripe x) ripe d) (insert ss ripe k) k ripe
IsMarked-insert_here gs ss mark ripe k x d m size some =
    let whole = length-set gs ripe x in
    let h = m.stands.below in
    record {
      stands = record {
        below = omega (arith, length-insert ss ripe k (omega arith));
        is = get_or-insert_at ss ripe k 256 (omega arith);
      };
      zeros = λ i before. get_or-insert_below (set gs ripe x) ripe d 0 i before (omega arith) ∙ get_or-set_other gs ripe i x 0 (omega arith) ∙ m.zeros i before;
      unripe = λ _. omega (arith, get_or-insert_at (set gs ripe x) ripe d 0 (omega arith));
    }

pub IsMarked-insert_ripe : (gs ss : List ℕ) (mark ripe k : ℕ) → IsMarked gs ss mark ripe → length ss ≡ length gs
    → IsMarked (insert (set gs ripe (get_or gs ripe 0 - 0)) ripe 0) (insert ss ripe k) mark (ripe + 1)
IsMarked-insert_ripe gs ss mark ripe k m size =
    let x = get_or gs ripe 0 - 0 in
    let whole = length-set gs ripe x in
    let h = m.stands.below in
    record {
      stands = record {
        below = omega (arith, length-insert ss ripe k (omega arith));
        is = get_or-insert_above ss ripe k 256 ripe (omega arith) (omega arith) ∙ m.stands.is;
      };
      zeros = λ i before. elim (cases_lt i ripe) as (λ _. get_or (insert (set gs ripe x) ripe 0) i 0 ≡ 0) [
        | inl lt ↦ get_or-insert_below (set gs ripe x) ripe 0 0 i lt (omega arith) ∙ get_or-set_other gs ripe i x 0 (omega arith) ∙ m.zeros i lt
        | inr past ↦
            let here : i ≡ ripe = omega arith in
            ap (λ j. get_or (insert (set gs ripe x) ripe 0) j 0) here ∙ get_or-insert_at (set gs ripe x) ripe 0 0 (omega arith)
      ];
      unripe = λ lt.
          let read = get_or-insert_above (set gs ripe x) ripe 0 0 ripe (omega arith) (omega arith) in
          omega (arith, read, get_or-set_same gs ripe x 0 (omega arith), m.unripe (omega (arith, length-insert (set gs ripe x) ripe 0 (omega arith))));
    }

-- a gap goes into the one after it, and its slot goes
abbrev pub joined : List ℕ → ℕ → List ℕ
joined gs p = remove (set gs (p + 1) (get_or gs p 0 + get_or gs (p + 1) 0)) p

pub joined-below : (gs : List ℕ) (p i : ℕ) → i < p → p + 1 < length gs → get_or (joined gs p) i 0 ≡ get_or gs i 0
joined-below gs p i lt h =
    let x = get_or gs p 0 + get_or gs (p + 1) 0 in
    let whole = length-set gs (p + 1) x in
    get_or-remove_below (set gs (p + 1) x) p 0 i lt (omega arith) ∙ get_or-set_other gs (p + 1) i x 0 (omega arith)

pub joined-at : (gs : List ℕ) (p : ℕ) → p + 1 < length gs → get_or (joined gs p) p 0 ≡ get_or gs p 0 + get_or gs (p + 1) 0
joined-at gs p h =
    let x = get_or gs p 0 + get_or gs (p + 1) 0 in
    let whole = length-set gs (p + 1) x in
    get_or-remove_above (set gs (p + 1) x) p 0 p (omega arith) (omega arith) ∙ get_or-set_same gs (p + 1) x 0 h

pub joined-above : (gs : List ℕ) (p i : ℕ) → p < i → p + 1 < length gs → get_or (joined gs p) i 0 ≡ get_or gs (i + 1) 0
joined-above gs p i lt h =
    let x = get_or gs p 0 + get_or gs (p + 1) 0 in
    let whole = length-set gs (p + 1) x in
    get_or-remove_above (set gs (p + 1) x) p 0 i (omega arith) (omega arith) ∙ get_or-set_other gs (p + 1) (i + 1) x 0 (omega arith)

pub length-joined : (gs : List ℕ) (p : ℕ) → p + 1 < length gs → length (joined gs p) + 1 ≡ length gs
length-joined gs p h =
    let x = get_or gs p 0 + get_or gs (p + 1) 0 in
    let whole = length-set gs (p + 1) x in
    omega (arith, length-remove (set gs (p + 1) x) p (omega arith))

pub IsMarked-remove_past : (gs ss : List ℕ) (mark ripe p : ℕ) → IsMarked gs ss mark ripe → length ss ≡ length gs → ripe < p → p + 1 < length gs
    → IsMarked (joined gs p) (remove ss p) mark ripe
IsMarked-remove_past gs ss mark ripe p m size lt h = record {
  stands = record {
    below = omega (arith, length-remove ss p (omega arith));
    is = get_or-remove_below ss p 256 ripe lt (omega arith) ∙ m.stands.is;
  };
  zeros = λ i before. joined-below gs p i (omega arith) h ∙ m.zeros i before;
  unripe = λ _. omega (arith, joined-below gs p ripe lt h, m.unripe (omega arith));
}

pub IsMarked-remove_here : (gs ss : List ℕ) (mark ripe after : ℕ) → IsMarked gs ss mark ripe → length ss ≡ length gs → StandsAt ss (ripe + 1) after → ripe + 1 < length gs
    → IsMarked (joined gs ripe) (remove ss ripe) after ripe
IsMarked-remove_here gs ss mark ripe after m size next h = record {
  stands = record {
    below = omega (arith, length-remove ss ripe (omega arith));
    is = get_or-remove_above ss ripe 256 ripe (omega arith) (omega arith) ∙ next.is;
  };
  zeros = λ i before. joined-below gs ripe i before h ∙ m.zeros i before;
  unripe = λ _. omega (arith, joined-at gs ripe h, m.unripe h);
}

pub IsMarked-remove_ripe : (gs ss : List ℕ) (mark ripe p : ℕ) → IsMarked gs ss mark ripe → length ss ≡ length gs → p < ripe → p + 1 < length gs
    → IsMarked (joined gs p) (remove ss p) mark (ripe - 1)
IsMarked-remove_ripe gs ss mark ripe p m size lt h =
    let one_more : ripe - 1 + 1 ≡ ripe = omega arith in
    record {
      stands = record {
        below = omega (arith, length-remove ss p (omega arith), m.stands.below);
        is = get_or-remove_above ss p 256 (ripe - 1) (omega arith) (omega arith) ∙ ap (λ i. get_or ss i 256) one_more ∙ m.stands.is;
      };
      zeros = λ i before. elim (cases_lt i p) as (λ _. get_or (joined gs p) i 0 ≡ 0) [
        | inl under ↦ joined-below gs p i under h ∙ m.zeros i (omega arith)
        | inr past ↦ elim (cases_lt p i) as (λ _. get_or (joined gs p) i 0 ≡ 0) [
          | inl over ↦ joined-above gs p i over h ∙ m.zeros (i + 1) (omega arith)
          | inr same ↦
              let here : i ≡ p = omega arith in
              ap (λ j. get_or (joined gs p) j 0) here ∙ joined-at gs p h ∙ omega (arith, m.zeros p lt, m.zeros (p + 1) (omega arith))
        ]
      ];
      unripe = λ room.
          let size' = length-joined gs p h in
          let was = m.unripe (omega arith) in
          elim (cases_lt p (ripe - 1)) as (λ _. 0 < get_or (joined gs p) (ripe - 1) 0) [
            | inl over ↦
                let read : get_or (joined gs p) (ripe - 1) 0 ≡ get_or gs ripe 0 = joined-above gs p (ripe - 1) over h ∙ ap (λ i. get_or gs i 0) one_more in
                omega arith
            | inr same ↦
                let here : ripe - 1 ≡ p = omega arith in
                let next : p + 1 ≡ ripe = omega arith in
                let read : get_or (joined gs p) (ripe - 1) 0 ≡ get_or gs p 0 + get_or gs ripe 0 =
                ap (λ j. get_or (joined gs p) j 0) here ∙ joined-at gs p h ∙ ap (λ i. get_or gs p 0 + get_or gs i 0) next in
                omega arith
          ];
    }

-- the mark after the token at place p has gone, by the clauses of `unmark`
pub IsMarked-removed : (gs ss : List ℕ) (mark ripe p after mark' ripe' : ℕ) → IsMarked gs ss mark ripe → length ss ≡ length gs → p + 1 < length gs → StandsAt ss (p + 1) after
    → (p < ripe → (ripe' ≡ ripe - 1) × (mark' ≡ mark)) → (p ≡ ripe → (ripe' ≡ ripe) × (mark' ≡ after)) → (ripe < p → (ripe' ≡ ripe) × (mark' ≡ mark))
    → IsMarked (joined gs p) (remove ss p) mark' ripe'
IsMarked-removed gs ss mark ripe p after mark' ripe' m size h next one here past =
    let P : ℕ → ℕ → Type 0 = λ x y. IsMarked (joined gs p) (remove ss p) x y in
    elim (cases_lt p ripe) as (λ _. P mark' ripe') [
      | inl lt ↦ rw ((one lt).0, (one lt).1) (IsMarked-remove_ripe gs ss mark ripe p m size lt h)
      | inr le ↦ elim (cases_lt ripe p) as (λ _. P mark' ripe') [
        | inl lt ↦ rw ((past lt).0, (past lt).1) (IsMarked-remove_past gs ss mark ripe p m size lt h)
        | inr same ↦
            let is : p ≡ ripe = omega arith in
            let there = subst (λ q. StandsAt ss (q + 1) after) is next in
            rw ((here is).0, (here is).1) (subst (λ q. IsMarked (joined gs q) (remove ss q) after ripe) (sym is) (IsMarked-remove_here gs ss mark ripe after m size there (omega arith)))
      ]
    ]

-- the mark after a token has come to place p, by the clauses of `mark_new`
pub IsMarked-inserted : (gs ss : List ℕ) (mark ripe p k d mark' ripe' : ℕ) (is_ripe : Bool) → IsMarked gs ss mark ripe → length ss ≡ length gs → p < length gs
    → (sum_before gs p + d ≡ 0 → is_ripe ≡ true) → (is_ripe ≡ true → sum_before gs p + d ≡ 0) → ripe ≤ p
    → (is_ripe ≡ true → (ripe' ≡ ripe + 1) × (mark' ≡ mark)) → (is_ripe ≡ false → p ≡ ripe → (ripe' ≡ ripe) × (mark' ≡ k)) → (is_ripe ≡ false → ripe < p → (ripe' ≡ ripe) × (mark' ≡ mark))
    → IsMarked (insert (set gs p (get_or gs p 0 - d)) p d) (insert ss p k) mark' ripe'
IsMarked-inserted gs ss mark ripe p k d mark' ripe' true m size h to from le one here past =
    let none = from refl in
    let is : p ≡ ripe = elim (cases_lt ripe p) as (λ _. p ≡ ripe) [ inl lt ↦ absurd (omega (arith, sum_before-past gs ss mark ripe p m lt h)) | inr same ↦ omega arith ] in
    let d_is : d ≡ 0 = omega arith in
    rw ((one refl).0, (one refl).1, d_is, is) (IsMarked-insert_ripe gs ss mark ripe k m size)
IsMarked-inserted gs ss mark ripe p k d mark' ripe' false m size h to from le one here past =
    elim (cases_lt ripe p) as (λ _. IsMarked (insert (set gs p (get_or gs p 0 - d)) p d) (insert ss p k) mark' ripe') [
      | inl lt ↦ rw ((past refl lt).0, (past refl lt).1) (IsMarked-insert_past gs ss mark ripe p k (get_or gs p 0 - d) d m size lt h)
      | inr same ↦
          let is : p ≡ ripe = omega arith in
          let start : sum_before gs p ≡ 0 = ap (sum_before gs) is ∙ sum_before-mark gs ss mark ripe m (omega arith) in
          let some : 0 < d = elim (cases_lt 0 d) as (λ _. 0 < d) [ inl some ↦ some | inr none ↦ absurd (false≢true (to (omega arith))) ] in
          rw ((here refl is).0, (here refl is).1, is) (IsMarked-insert_here gs ss mark ripe k (get_or gs ripe 0 - d) d m size some)
    ]
