-- Where each queue has as many tokens as objects, a ripe queue leads to an object.
use Rattle.std.proofs.Common.{◌≡◌, ◌≢◌, ℕ, ◌<◌, ◌≤◌, zero, suc, List, [], ◌∷◌, length, get_or, map, Bool, true, Option, Some, None, ◌⊎◌, inl, inr, refl, ap, sym, ◌∙◌, arith}
use Rattle.std.specs.Prelude.{find, slice_get, IsNone}
use Rattle.std.specs.List.{range_with_len}
use Rattle.std.proofs.lemmas.Bool.{cases_Bool}
use Rattle.std.proofs.lemmas.List.Sums.{sum_by-cons, get_or-le-sum_by}
use Rattle.std.proofs.lemmas.List.FromFn.{get_or-map-range_with_len, get_or-range_with_len, length-map-range_with_len}
use Rattle.std.proofs.lemmas.List.{nil_from_length}
use Rattle.kern_ids.specs.declared.calls.Queue.{Queue}
use Rattle.kern_ids.specs.declared.calls.Queue.TheVariants.{Obsolete, Lifo, Fifo}
use Rattle.kernel_model.specs.Choice.{places_for, groups_of}
use Rattle.token_list.specs.Dues.{begins_ripe}
use Rattle.ripen_advance.specs.Queues.{QueueDues, dues_in}
use Rattle.volatile_groups.specs.Grouped.{members, AreGroups}
use Rattle.purge_pick.specs.Picks.{ripe_queue, head_of, first_of, both_places, objects_in, HasTokens, HeadsGroup}
use Rattle.purge_pick.proofs.FindLemmas.{first_some-no, first_some-yes}

none_or_some : (o : Option ℕ) → (o ≡ None) ⊎ ((x : ℕ) × (o ≡ Some x))
none_or_some None = inl refl
none_or_some (Some x) = inr (x, refl)

-- what is found passes the test
find-passes : {A : Type 0} (p : A → Bool) (xs : List A) (y : A) → find p xs ≡ Some y → p y ≡ true
find-passes p [] y h = absurd (cc)
find-passes p (x ∷ xs) y h = elim (cases_Bool (p x)) as (λ _. p y ≡ true) [
  | inl there ↦ let same : x ≡ y = (let k : Some x ≡ Some y = sym (rw there refl) ∙ h in cc) in ap p (sym same) ∙ there
  | inr missing ↦ find-passes p xs y (sym (rw missing refl) ∙ h)
]

pub ripe_queue-begins : (d : QueueDues) (q : Queue) → ripe_queue d ≡ Some q → begins_ripe (dues_in d q) ≡ true
ripe_queue-begins d q h = find-passes (λ k. begins_ripe (dues_in d k)) (Obsolete ∷ Lifo ∷ Fifo ∷ []) q h

pub some_token : (ds : List ℕ) → begins_ripe ds ≡ true → 0 < length ds
some_token [] h = absurd (cc)
some_token (d ∷ ds) h = omega arith

-- a group that has a first object has one
pub heads-some : (xs : List ℕ) (o : ℕ) → slice_get xs 0 ≡ Some o → 0 < length xs
heads-some [] o h = absurd (cc)
heads-some (x ∷ xs) o h = omega arith

no_head : (xs : List ℕ) → slice_get xs 0 ≡ None → length xs ≡ 0
no_head [] h = refl
no_head (x ∷ xs) h = absurd (cc)

-- the objects of a group are among those of the queue
pub members-in : (gs : List (List ℕ)) (q : Queue) (n : ℕ) → n < 8 → length (members gs q n) ≤ objects_in gs q (range_with_len 0 8)
members-in gs q n h =
    let at : get_or (map (λ k. length (members gs q k)) (range_with_len 0 8)) n 0 ≡ length (members gs q n) =
    get_or-map-range_with_len (λ k. length (members gs q k)) 0 8 n n 0 h (omega arith) in
    omega (arith, at, get_or-le-sum_by (λ x. x) (map (λ k. length (members gs q k)) (range_with_len 0 8)) n 0 (omega (arith, length-map-range_with_len (λ k. length (members gs q k)) 0 8)))

-- where a queue of the two has an object, one is found
found-both : (gs : List (List ℕ)) (own other q : Queue) → (q ≡ own) ⊎ (q ≡ other) → (ns : List ℕ) → 0 < objects_in gs q ns → first_of gs (both_places own other ns) ≢ None
found-both gs own other q is [] some none = absurd (omega arith)
found-both gs own other q is (n ∷ ns) some none =
    elim (none_or_some (head_of gs (own, n))) as (λ _. ⊥) [
      | inr there ↦ absurd (let k = first_some-yes (head_of gs) (own, n) ((other, n) ∷ both_places own other ns) there.0 there.1 in let e : None ≡ Some there.0 = sym none ∙ k in cc)
      | inl missing ↦
          let rest = sym (first_some-no (head_of gs) (own, n) ((other, n) ∷ both_places own other ns) missing) ∙ none in
          elim (none_or_some (head_of gs (other, n))) as (λ _. ⊥) [
            | inr there ↦ absurd (let k = first_some-yes (head_of gs) (other, n) (both_places own other ns) there.0 there.1 in let e : None ≡ Some there.0 = sym rest ∙ k in cc)
            | inl missing_too ↦
                let rest' = sym (first_some-no (head_of gs) (other, n) (both_places own other ns) missing_too) ∙ rest in
                let empty : length (members gs q n) ≡ 0 = elim is as (λ _. length (members gs q n) ≡ 0) [
                  | inl e ↦ ap (λ k. length (members gs k n)) e ∙ no_head (members gs own n) missing
                  | inr e ↦ ap (λ k. length (members gs k n)) e ∙ no_head (members gs other n) missing_too
                ] in
                let split = sum_by-cons (λ x. x) (length (members gs q n)) (map (λ k. length (members gs q k)) ns) in
                found-both gs own other q is ns (omega arith) rest'
          ]
    ]

-- the objects of OBSOLETE are those of its group 0
obsolete-first : (gs : List (List ℕ)) → AreGroups gs → 0 < objects_in gs Obsolete (range_with_len 0 8) → head_of gs (Obsolete, 0) ≢ None
obsolete-first gs g some none =
    let first = no_head (members gs Obsolete 0) none in
    let at : (n : ℕ) → 0 < n → n < 8 → length (members gs Obsolete n) ≡ 0 = λ n lo hi. ap length (g.obsolete n lo hi) in
    absurd (omega (
      arith,
      first,
      at 1 (omega arith) (omega arith),
      at 2 (omega arith) (omega arith),
      at 3 (omega arith) (omega arith),
      at 4 (omega arith) (omega arith),
      at 5 (omega arith) (omega arith),
      at 6 (omega arith) (omega arith),
      at 7 (omega arith) (omega arith),
    ))

-- so a ripe queue has an object to purge
pub picked-some : (d : QueueDues) (gs : List (List ℕ)) → HasTokens d gs → AreGroups gs → (q : Queue) → ripe_queue d ≡ Some q → first_of gs (places_for q) ≢ None
picked-some d gs h g Obsolete is none =
    obsolete-first gs g (omega (arith, h Obsolete, some_token d.obsolete (ripe_queue-begins d Obsolete is)))
    (elim (none_or_some (head_of gs (Obsolete, 0))) as (λ _. head_of gs (Obsolete, 0) ≡ None) [
      | inl missing ↦ missing
      | inr there ↦ absurd (let k = first_some-yes (head_of gs) (Obsolete, 0) [] there.0 there.1 in let e : None ≡ Some there.0 = sym none ∙ k in cc)
    ])
picked-some d gs h g Lifo is none =
    found-both gs Lifo Fifo Lifo (inl refl) (range_with_len 0 8) (omega (arith, h Lifo, some_token d.lifo (ripe_queue-begins d Lifo is))) none
picked-some d gs h g Fifo is none =
    found-both gs Fifo Lifo Fifo (inl refl) (range_with_len 0 8) (omega (arith, h Fifo, some_token d.fifo (ripe_queue-begins d Fifo is))) none

-- an object of a queue has a token there
pub heads-token : (d : QueueDues) (gs : List (List ℕ)) → HasTokens d gs → (q : Queue) (o : ℕ) → HeadsGroup gs q o → 0 < length (dues_in d q)
heads-token d gs h q o heads = omega (arith, h q, members-in gs q heads.group heads.below, heads-some (members gs q heads.group) o heads.heads)

-- where an object of one queue is found, and that there is none
found-where : (gs : List (List ℕ)) (q : Queue) (ns : List ℕ) (o : ℕ) → first_of gs (map (λ n. (q, n)) ns) ≡ Some o → (i : ℕ) × (i < length ns) × (head_of gs (q, get_or ns i 0) ≡ Some o)
found-where gs q [] o h = absurd (cc)
found-where gs q (n ∷ ns) o h = elim (none_or_some (head_of gs (q, n))) as (λ _. (i : ℕ) × (i < length (n ∷ ns)) × (head_of gs (q, get_or (n ∷ ns) i 0) ≡ Some o)) [
  | inr there ↦ (0, omega arith, there.1 ∙ sym (first_some-yes (head_of gs) (q, n) (map (λ k. (q, k)) ns) there.0 there.1) ∙ h)
  | inl missing ↦
      let rest = found-where gs q ns o (sym (first_some-no (head_of gs) (q, n) (map (λ k. (q, k)) ns) missing) ∙ h) in
      (suc rest.0, omega (arith, rest.1), rest.2)
]

found-nowhere : (gs : List (List ℕ)) (q : Queue) (ns : List ℕ) → first_of gs (map (λ n. (q, n)) ns) ≡ None → (i : ℕ) → i < length ns → head_of gs (q, get_or ns i 0) ≡ None
found-nowhere gs q [] h i lt = absurd (omega arith)
found-nowhere gs q (n ∷ ns) h zero lt = elim (none_or_some (head_of gs (q, n))) as (λ _. head_of gs (q, n) ≡ None) [
  | inr there ↦ absurd (let k = first_some-yes (head_of gs) (q, n) (map (λ k. (q, k)) ns) there.0 there.1 in let e : None ≡ Some there.0 = sym h ∙ k in cc)
  | inl missing ↦ missing
]
found-nowhere gs q (n ∷ ns) h (suc i) lt = elim (none_or_some (head_of gs (q, n))) as (λ _. head_of gs (q, get_or ns i 0) ≡ None) [
  | inr there ↦ absurd (let k = first_some-yes (head_of gs) (q, n) (map (λ k. (q, k)) ns) there.0 there.1 in let e : None ≡ Some there.0 = sym h ∙ k in cc)
  | inl missing ↦ found-nowhere gs q ns (sym (first_some-no (head_of gs) (q, n) (map (λ k. (q, k)) ns) missing) ∙ h) i (omega arith)
]

-- no group has an object
abbrev pub AreEmpty : List (List ℕ) → Type 0
AreEmpty gs = (q : Queue) (n : ℕ) → n < 8 → members gs q n ≡ []

pub found-not_empty : (gs : List (List ℕ)) (q : Queue) (o : ℕ) → first_of gs (groups_of q) ≡ Some o → AreEmpty gs → ⊥
found-not_empty gs q o h all =
    let f = found-where gs q (range_with_len 0 8) o h in
    let at : get_or (range_with_len 0 8) f.0 0 ≡ f.0 = get_or-range_with_len 0 8 f.0 0 f.1 ∙ omega arith in
    let none = all q f.0 (omega (arith, f.1)) in
    let some = ap (λ n. slice_get (members gs q n) 0) (sym at) ∙ f.2 in
    absurd (omega (arith, heads-some (members gs q f.0) o some, ap length none))

pub nowhere-empty : (gs : List (List ℕ)) (q : Queue) → first_of gs (groups_of q) ≡ None → (n : ℕ) → n < 8 → members gs q n ≡ []
nowhere-empty gs q h n lt =
    let at : get_or (range_with_len 0 8) n 0 ≡ n = get_or-range_with_len 0 8 n 0 lt ∙ omega arith in
    nil_from_length (members gs q n) (no_head (members gs q n) (ap (λ k. slice_get (members gs q k) 0) (sym at) ∙ found-nowhere gs q (range_with_len 0 8) h n lt))

pub empty-none : (gs : List (List ℕ)) (q : Queue) → AreEmpty gs → first_of gs (groups_of q) ≡ None
empty-none gs q all = elim (none_or_some (first_of gs (groups_of q))) as (λ _. first_of gs (groups_of q) ≡ None) [
  | inl missing ↦ missing
  | inr there ↦ absurd (found-not_empty gs q there.0 there.1 all)
]

pub none_from : (o : Option ℕ) → IsNone o → o ≡ None
none_from None h = refl
none_from (Some x) h = absurd (cc)

pub none_to : (o : Option ℕ) → o ≡ None → IsNone o
none_to None h = refl
none_to (Some x) h = absurd (cc)

pub all_nowhere : (gs : List (List ℕ)) → first_of gs (groups_of Fifo) ≡ None → first_of gs (groups_of Lifo) ≡ None → first_of gs (groups_of Obsolete) ≡ None → AreEmpty gs
all_nowhere gs f l o Obsolete = nowhere-empty gs Obsolete o
all_nowhere gs f l o Lifo = nowhere-empty gs Lifo l
all_nowhere gs f l o Fifo = nowhere-empty gs Fifo f
