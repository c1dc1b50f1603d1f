-- What the queues of pages keep when a page is moved.
use Rattle.std.proofs.Common.{◌≡◌, ℕ, Bool, true, false, ◌+◌, ◌*◌, ◌<◌, ◌≤◌, ◌⊎◌, inl, inr, List, [], ◌∷◌, ◌++◌, length, get_or, set, not, replicate, refl, sym, ap, ◌∙◌, arith, eqb}
use Rattle.std.proofs.lemmas.List.{length-append, length-set, length-map, length-replicate, get_or-map, get_or-replicate, get_or-set_same, get_or-set_other, get_or_past}
use Rattle.std.proofs.lemmas.List.Filters.{length-filter_both}
use Rattle.std.proofs.lemmas.Bool.{cases_eq, cases_lt, false≢true}
use Rattle.link_list.specs.KeyLists.{list_at, has, without}
use Rattle.link_list.proofs.Members.{other_in_rest, without_head, without_other, has_without_other, has_push_old}
use Rattle.page_queues.specs.Tallies.{taken, moved}
use Rattle.page_queues.specs.Pages.{Pages, AreKept, active, inactive, free}

pub length-without_le : (key : ℕ) (xs : List ℕ) → length (without key xs) ≤ length xs
length-without_le key xs = omega (arith, length-filter_both (λ x. not (eqb key x)) (λ x. not (not (eqb key x))) (λ x. refl) xs)

length-without_lt : (key : ℕ) (xs : List ℕ) → has key xs ≡ true → length (without key xs) + 1 ≤ length xs
length-without_lt key [] m = absurd (false≢true m)
length-without_lt key (x ∷ xs) m = elim (cases_eq key x) [
  | inl e ↦ let l = length-without_le key xs in let s = ap length (without_head key x xs e) in omega arith
  | inr e ↦ let l = length-without_lt key xs (other_in_rest key x xs m e) in let s = ap length (without_other key x xs e) in omega arith
]

list_at-taken : (queues : List (List ℕ)) (key m : ℕ) → length queues ≡ 3 → m < 3 → list_at (taken queues key) m ≡ without key (list_at queues m)
list_at-taken queues key m three lt = get_or-map (without key) queues m [] [] (omega arith)

list_at-moved_there : (queues : List (List ℕ)) (key l : ℕ) → length queues ≡ 3 → l < 3 → list_at (moved queues key l) l ≡ without key (list_at queues l) ++ key ∷ []
list_at-moved_there queues key l three lt =
    get_or-set_same (taken queues key) l (list_at (taken queues key) l ++ key ∷ []) [] (omega (arith, length-map queues (without key)))
    ∙ ap (λ xs. xs ++ key ∷ []) (list_at-taken queues key l three lt)

list_at-moved_other : (queues : List (List ℕ)) (key l m : ℕ) → length queues ≡ 3 → m < 3 → (m ≡ l → ⊥) → list_at (moved queues key l) m ≡ without key (list_at queues m)
list_at-moved_other queues key l m three lt e = get_or-set_other (taken queues key) l m (list_at (taken queues key) l ++ key ∷ []) [] e ∙ list_at-taken queues key m three lt

-- a mark that is there after one was taken away
marked_still : (marks : List Bool) (key x : ℕ) → get_or (set marks key false) x false ≡ true → (x ≡ key → ⊥) × (get_or marks x false ≡ true)
marked_still marks key x m = elim (cases_eq x key) [
  | inl e ↦ absurd (false≢true (sym (at_key marks key x e) ∙ m))
  | inr e ↦ (e, sym (get_or-set_other marks key x false false e) ∙ m)
]
  where
    at_key : (marks : List Bool) (key x : ℕ) → x ≡ key → get_or (set marks key false) x false ≡ false
    at_key marks key x e = elim (cases_lt key (length marks)) [
      | inl lt ↦ ap (λ j. get_or (set marks key false) j false) e ∙ get_or-set_same marks key false false lt
      | inr past ↦ get_or_past (set marks key false) x false (omega (arith, length-set marks key false))
    ]

pub kept_absented : (objects : ℕ) (pages : Pages) → AreKept objects pages → (objects' : ℕ) (queues' : List (List ℕ)) (key : ℕ) → objects' ≡ objects → queues' ≡ taken pages.queues key → AreKept objects' (record { frames = pages.frames; sizes = pages.sizes; queues = queues'; marks = set pages.marks key false })
kept_absented objects pages h objects' queues' key eo eq = record {
  few = omega (arith, h.few);
  three = ap length eq ∙ length-map pages.queues (without key) ∙ h.three;
  each_size = h.each_size ∙ sym eo;
  small = h.small;
  marks = length-set pages.marks key false ∙ h.marks ∙ ap (λ n. 256 * n) (sym eo);
  frames = (
      let a = ap (λ ls. length (list_at ls 0)) eq ∙ ap length (list_at-taken pages.queues key 0 h.three (omega arith)) in
      let i = ap (λ ls. length (list_at ls 1)) eq ∙ ap length (list_at-taken pages.queues key 1 h.three (omega arith)) in
      omega (arith, h.frames, length-without_le key (active pages), length-without_le key (inactive pages))
      );
  only_inactive = λ x m.
      let was = marked_still pages.marks key x m in
      ap (λ ls. has x (list_at ls 1)) eq ∙ ap (has x) (list_at-taken pages.queues key 1 h.three (omega arith)) ∙ has_without_other x key (inactive pages) was.0 (h.only_inactive x was.1);
}

pub kept_placed : (objects : ℕ) (pages : Pages) → AreKept objects pages → (objects' : ℕ) (queues' : List (List ℕ)) (key l : ℕ) → objects' ≡ objects → queues' ≡ moved pages.queues key l → l < 3 → (l < 2 → (has key (active pages) ≡ true) ⊎ ((has key (inactive pages) ≡ true) ⊎ (0 < free pages))) → AreKept objects' (record { frames = pages.frames; sizes = pages.sizes; queues = queues'; marks = set pages.marks key false })
kept_placed objects pages h objects' queues' key l eo eq lt frame = record {
  few = omega (arith, h.few);
  three = ap length eq ∙ length-set (taken pages.queues key) l (list_at (taken pages.queues key) l ++ key ∷ []) ∙ length-map pages.queues (without key) ∙ h.three;
  each_size = h.each_size ∙ sym eo;
  small = h.small;
  marks = length-set pages.marks key false ∙ h.marks ∙ ap (λ n. 256 * n) (sym eo);
  frames = frames_fit;
  only_inactive = λ x m.
      let was = marked_still pages.marks key x m in
      let still = has_without_other x key (inactive pages) was.0 (h.only_inactive x was.1) in
      elim (cases_eq 1 l) [
        | inl e ↦ ap (λ ls. has x (list_at ls 1)) eq ∙ ap (λ j. has x (list_at (moved pages.queues key j) 1)) (sym e) ∙ ap (has x) (list_at-moved_there pages.queues key 1 h.three (omega arith)) ∙ has_push_old x key (without key (inactive pages)) still
        | inr e ↦ ap (λ ls. has x (list_at ls 1)) eq ∙ ap (has x) (list_at-moved_other pages.queues key l 1 h.three (omega arith) e) ∙ still
      ];
}
  where
    less : length (without key (active pages)) + length (without key (inactive pages)) ≤ length (active pages) + length (inactive pages)
    less = omega (arith, length-without_le key (active pages), length-without_le key (inactive pages))

    room : l < 2 → length (without key (active pages)) + length (without key (inactive pages)) + 1 ≤ pages.frames
    room small = elim (frame small) [
      | inl in_active ↦ omega (arith, h.frames, length-without_lt key (active pages) in_active, length-without_le key (inactive pages))
      | inr other ↦ elim other [
        | inl in_inactive ↦ omega (arith, h.frames, length-without_lt key (inactive pages) in_inactive, length-without_le key (active pages))
        | inr some_free ↦ omega (arith, h.frames, less)
      ]
    ]

    frames_fit : length (list_at queues' 0) + length (list_at queues' 1) ≤ pages.frames
    frames_fit = elim (cases_eq 0 l) [
      | inl e ↦
          let a = ap (λ ls. length (list_at ls 0)) eq ∙ ap (λ j. length (list_at (moved pages.queues key j) 0)) (sym e) ∙ ap length (list_at-moved_there pages.queues key 0 h.three (omega arith)) ∙ length-append (without key (active pages)) (key ∷ []) in
          let i = ap (λ ls. length (list_at ls 1)) eq ∙ ap length (list_at-moved_other pages.queues key l 1 h.three (omega arith) (λ j. omega arith)) in
          omega (arith, room (omega arith))
      | inr e ↦
          let a = ap (λ ls. length (list_at ls 0)) eq ∙ ap length (list_at-moved_other pages.queues key l 0 h.three (omega arith) e) in
          elim (cases_eq 1 l) [
            | inl f ↦
                let i = ap (λ ls. length (list_at ls 1)) eq ∙ ap (λ j. length (list_at (moved pages.queues key j) 1)) (sym f) ∙ ap length (list_at-moved_there pages.queues key 1 h.three (omega arith)) ∙ length-append (without key (inactive pages)) (key ∷ []) in
                omega (arith, room (omega arith))
            | inr f ↦
                let i = ap (λ ls. length (list_at ls 1)) eq ∙ ap length (list_at-moved_other pages.queues key l 1 h.three (omega arith) f) in
                omega (arith, h.frames, less)
          ]
    ]

pub kept_new : (frames objects : ℕ) (sizes : List ℕ) → objects ≤ 256 → length sizes ≡ objects → ((o : ℕ) → get_or sizes o 0 ≤ 256) → AreKept objects (record { frames = frames; sizes = sizes; queues = replicate 3 []; marks = replicate (256 * objects) false })
kept_new frames objects sizes few each small = record {
  few = few;
  three = refl;
  each_size = each;
  small = small;
  marks = length-replicate (256 * objects) false;
  frames = omega arith;
  only_inactive = λ x m. elim (cases_lt x (256 * objects)) [
    | inl lt ↦ absurd (false≢true (sym (get_or-replicate (256 * objects) x false false lt) ∙ m))
    | inr past ↦ absurd (false≢true (sym (get_or_past (replicate (256 * objects) false) x false (omega (arith, length-replicate (256 * objects) false))) ∙ m))
  ];
}
