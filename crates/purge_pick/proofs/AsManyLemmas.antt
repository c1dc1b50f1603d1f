-- That each queue has as many tokens as objects stays so where both change together.
use Rattle.std.proofs.Common.{◌≡◌, ℕ, ◌+◌, ◌-◌, ◌<◌, zero, suc, List, [], ◌∷◌, ◌++◌, length, get_or, map, drop, cond, eqb, replicate, true, Option, Some, None, ◌⊎◌, inl, inr, refl, ap, sym, subst, ◌∙◌, arith}
use Rattle.std.specs.Prelude.{sum, slice_get, nat_le, IsSome}
use Rattle.std.specs.List.{range_with_len}
use Rattle.std.proofs.lemmas.Bool.{cases_Bool, cases_eq, cases_lt, eq-eqb, ne_eqb, lt-ltb, le-ltb, both_ways, false_from_ne_true, false≢true}
use Rattle.std.proofs.lemmas.List.{length-append, length-map, length-take, get_or-map, get_or-set_same, get_or-set_other}
use Rattle.std.proofs.lemmas.List.Sums.{sum_by-cons}
use Rattle.std.proofs.lemmas.List.FromFn.{get_or-range_with_len}
use Rattle.std.proofs.lemmas.Option.{same_Some}
use Rattle.kern_ids.specs.declared.calls.Queue.{Queue}
use Rattle.kern_ids.specs.declared.calls.Queue.TheVariants.{Obsolete, Lifo, Fifo}
use Rattle.link_list.specs.KeyLists.{list_at, has, place_of, without, IsOnce}
use Rattle.link_list.proofs.Members.{other_in_rest, without_absent, without_head, without_other, has_at_head}
use Rattle.link_list.proofs.Places.{has_at_place}
use Rattle.token_list.specs.Dues.{begins_ripe, put_due, lowered_by}
use Rattle.ripen_advance.specs.Queues.{QueueDues, dues_in, with_dues, new_due, all_but_last, first_into, after_ripe}
use Rattle.volatile_groups.specs.Grouped.{first_list, members, joined, entered, queue_at, queue_of, AreGroups}
use Rattle.purge_pick.specs.Picks.{objects_in, HasTokens, HeadsGroup}
use Rattle.purge_pick.proofs.PickLemmas.{some_token}

-- sums over the eight groups
sum-parts : (f g h : ℕ → ℕ) (ns : List ℕ) → ((i : ℕ) → i < length ns → f (get_or ns i 0) + h (get_or ns i 0) ≡ g (get_or ns i 0)) → sum (map f ns) + sum (map h ns) ≡ sum (map g ns)
sum-parts f g h [] e = refl
sum-parts f g h (n ∷ ns) e = omega (
  arith,
  sum_by-cons (λ x. x) (f n) (map f ns),
  sum_by-cons (λ x. x) (g n) (map g ns),
  sum_by-cons (λ x. x) (h n) (map h ns),
  e 0 (omega arith),
  sum-parts f g h ns (λ i lt. e (suc i) (omega (arith, lt))),
)

eight-parts : (f g h : ℕ → ℕ) → ((n : ℕ) → n < 8 → f n + h n ≡ g n) → sum (map f (range_with_len 0 8)) + sum (map h (range_with_len 0 8)) ≡ sum (map g (range_with_len 0 8))
eight-parts f g h e = sum-parts f g h (range_with_len 0 8) (λ i lt.
    let at : get_or (range_with_len 0 8) i 0 ≡ i = get_or-range_with_len 0 8 i 0 lt ∙ omega arith in
    subst (λ n. f n + h n ≡ g n) (sym at) (e i lt))

abbrev one_at : ℕ → ℕ → ℕ
one_at k n = cond (eqb n k) 1 0

one-in-eight : (k : ℕ) → k < 8 → sum (map (one_at k) (range_with_len 0 8)) ≡ 1
one-in-eight zero lt = refl
one-in-eight (suc zero) lt = refl
one-in-eight (suc (suc zero)) lt = refl
one-in-eight (suc (suc (suc zero))) lt = refl
one-in-eight (suc (suc (suc (suc zero)))) lt = refl
one-in-eight (suc (suc (suc (suc (suc zero))))) lt = refl
one-in-eight (suc (suc (suc (suc (suc (suc zero)))))) lt = refl
one-in-eight (suc (suc (suc (suc (suc (suc (suc zero))))))) lt = refl
one-in-eight (suc (suc (suc (suc (suc (suc (suc (suc k)))))))) lt = absurd (omega (arith, lt))

-- one group has one object more
one-more : (f g : ℕ → ℕ) (k : ℕ) → k < 8 → f k + 1 ≡ g k → ((n : ℕ) → n < 8 → (n ≡ k → ⊥) → f n ≡ g n) → sum (map f (range_with_len 0 8)) + 1 ≡ sum (map g (range_with_len 0 8))
one-more f g k lt at other = ap (λ x. sum (map f (range_with_len 0 8)) + x) (sym (one-in-eight k lt)) ∙ eight-parts f g (one_at k) (λ n below. elim (cases_eq n k) as (λ _. f n + one_at k n ≡ g n) [
  | inl e ↦ rw (eq-eqb n k e) (ap (λ i. f i + 1) e ∙ at ∙ ap g (sym e))
  | inr e ↦ rw (ne_eqb n k e) (let o = other n below e in omega arith)
])

none-more : (f g : ℕ → ℕ) → ((n : ℕ) → n < 8 → f n ≡ g n) → sum (map f (range_with_len 0 8)) ≡ sum (map g (range_with_len 0 8))
none-more f g same = omega (arith, eight-parts f g (λ _. 0) (λ n below. let s = same n below in omega arith), (let z : sum (map (λ (n : ℕ). 0) (range_with_len 0 8)) ≡ 0 = refl in z))

-- the lists of two queues are apart
apart : (q r : Queue) (k n : ℕ) → (q ≡ r → ⊥) → k < 8 → n < 8 → first_list r + n ≡ first_list q + k → ⊥
apart Obsolete Obsolete k n ne kl nl e = ne refl
apart Obsolete Lifo k n ne kl nl e = absurd (omega arith)
apart Obsolete Fifo k n ne kl nl e = absurd (omega arith)
apart Lifo Obsolete k n ne kl nl e = absurd (omega arith)
apart Lifo Lifo k n ne kl nl e = ne refl
apart Lifo Fifo k n ne kl nl e = absurd (omega arith)
apart Fifo Obsolete k n ne kl nl e = absurd (omega arith)
apart Fifo Lifo k n ne kl nl e = absurd (omega arith)
apart Fifo Fifo k n ne kl nl e = ne refl

same_queue : (q r : Queue) → (q ≡ r) ⊎ (q ≡ r → ⊥)
same_queue Obsolete Obsolete = inl refl
same_queue Obsolete Lifo = inr (λ c. cc)
same_queue Obsolete Fifo = inr (λ c. cc)
same_queue Lifo Obsolete = inr (λ c. cc)
same_queue Lifo Lifo = inl refl
same_queue Lifo Fifo = inr (λ c. cc)
same_queue Fifo Obsolete = inr (λ c. cc)
same_queue Fifo Lifo = inr (λ c. cc)
same_queue Fifo Fifo = inl refl

list_small : (q : Queue) (k : ℕ) → k < 8 → first_list q + k < 24
list_small Obsolete k lt = omega arith
list_small Lifo k lt = omega arith
list_small Fifo k lt = omega arith

queue-of-list : (q : Queue) (k : ℕ) → k < 8 → queue_at (first_list q + k) ≡ q
queue-of-list Obsolete k lt = rw (lt-ltb (0 + k) 8 (omega arith)) refl
queue-of-list Lifo k lt = rw (le-ltb (8 + k) 8 (omega arith), lt-ltb (8 + k) 16 (omega arith)) refl
queue-of-list Fifo k lt = rw (le-ltb (16 + k) 8 (omega arith), le-ltb (16 + k) 16 (omega arith)) refl

-- the objects of each queue after one entered
joined-length : (q : Queue) (o : ℕ) (os : List ℕ) → length (joined q o os) ≡ length os + 1
joined-length Obsolete o os = length-append os (o ∷ [])
joined-length Lifo o os = omega arith
joined-length Fifo o os = length-append os (o ∷ [])

module _ (gs : List (List ℕ)) (is : AreGroups gs) (q : Queue) (k o : ℕ) (below : k < 8) where
  entered-own : objects_in gs q (range_with_len 0 8) + 1 ≡ objects_in (entered gs q k o) q (range_with_len 0 8)
  entered-own = one-more (λ n. length (members gs q n)) (λ n. length (members (entered gs q k o) q n)) k below
      (sym (joined-length q o (members gs q k)) ∙ ap length (sym (get_or-set_same gs (first_list q + k) (joined q o (members gs q k)) [] (omega (arith, is.count, list_small q k below)))))
      (λ n lt ne. ap length (sym (get_or-set_other gs (first_list q + k) (first_list q + n) (joined q o (members gs q k)) [] (λ e. ne (omega arith)))))

  entered-other : (r : Queue) → (q ≡ r → ⊥) → objects_in gs r (range_with_len 0 8) ≡ objects_in (entered gs q k o) r (range_with_len 0 8)
  entered-other r ne = none-more (λ n. length (members gs r n)) (λ n. length (members (entered gs q k o) r n)) (λ n lt.
      ap length (sym (get_or-set_other gs (first_list q + k) (first_list r + n) (joined q o (members gs q k)) [] (apart q r k n ne below lt))))

-- and after one was taken out
length-without : (key : ℕ) (keys : List ℕ) → IsOnce keys → has key keys ≡ true → length (without key keys) + 1 ≡ length keys
length-without key [] o m = absurd (false≢true m)
length-without key (x ∷ xs) o m = elim (cases_eq key x) [
  | inl e ↦ ap (λ ys. length ys + 1) (without_head key x xs e ∙ without_absent key xs (ap (λ i. has i xs) e ∙ o.0)) ∙ omega arith
  | inr e ↦ ap (λ ys. length ys + 1) (without_other key x xs e) ∙ (let l = length-without key xs o.1 (other_in_rest key x xs m e) in omega arith)
]

module _ (gs : List (List ℕ)) (is : AreGroups gs) (q : Queue) (k o : ℕ) (below : k < 8) (there : has o (members gs q k) ≡ true) where
  now : (r : Queue) (n : ℕ) → n < 8 → members (map (without o) gs) r n ≡ without o (members gs r n)
  now r n lt = get_or-map (without o) gs (first_list r + n) [] [] (omega (arith, is.count, list_small r n lt))

  kept : (r : Queue) (n : ℕ) → n < 8 → (first_list r + n ≡ first_list q + k → ⊥) → length (members (map (without o) gs) r n) ≡ length (members gs r n)
  kept r n lt ne = ap length (now r n lt ∙ without_absent o (members gs r n) (false_from_ne_true _ (λ m. ne (same_Some _ _ (
      sym (is.once.between (first_list r + n) o (omega (arith, is.count, list_small r n lt)) m)
      ∙ is.once.between (first_list q + k) o (omega (arith, is.count, list_small q k below)) there)))))

  removed-own : objects_in (map (without o) gs) q (range_with_len 0 8) + 1 ≡ objects_in gs q (range_with_len 0 8)
  removed-own = one-more (λ n. length (members (map (without o) gs) q n)) (λ n. length (members gs q n)) k below
      (ap (λ os. length os + 1) (now q k below) ∙ length-without o (members gs q k) (is.once.within (first_list q + k) (omega (arith, is.count, list_small q k below))) there)
      (λ n lt ne. kept q n lt (λ e. ne (omega arith)))

  removed-other : (r : Queue) → (q ≡ r → ⊥) → objects_in (map (without o) gs) r (range_with_len 0 8) ≡ objects_in gs r (range_with_len 0 8)
  removed-other r ne = none-more (λ n. length (members (map (without o) gs) r n)) (λ n. length (members gs r n)) (λ n lt. kept r n lt (apart q r k n ne below lt))

  place-there : queue_of o gs ≡ Some q
  place-there = rw (is.once.between (first_list q + k) o (omega (arith, is.count, list_small q k below)) there) (ap Some (queue-of-list q k below))

-- the group in which an object of a queue stands
abbrev pub GroupOf : List (List ℕ) → Queue → ℕ → Type 0
GroupOf gs q o = (k : ℕ) × (k < 8) × (has o (members gs q k) ≡ true)

group-of-list : (gs : List (List ℕ)) (q : Queue) (o l : ℕ) → l < 24 → has o (list_at gs l) ≡ true → queue_at l ≡ q → GroupOf gs q o
group-of-list gs q o l lt there e = elim (cases_lt l 8) as (λ _. GroupOf gs q o) [
  | inl first ↦
      let is : queue_at l ≡ Obsolete = rw (lt-ltb l 8 first) refl in
      let at : 0 + l ≡ l = omega arith in
      subst (λ r. GroupOf gs r o) (sym is ∙ e) (l, first, ap (λ i. has o (list_at gs i)) at ∙ there)
  | inr past ↦ elim (cases_lt l 16) as (λ _. GroupOf gs q o) [
    | inl second ↦
        let is : queue_at l ≡ Lifo = rw (le-ltb l 8 past, lt-ltb l 16 second) refl in
        let at : 8 + (l - 8) ≡ l = omega (arith, past) in
        subst (λ r. GroupOf gs r o) (sym is ∙ e) (l - 8, omega arith, ap (λ i. has o (list_at gs i)) at ∙ there)
    | inr third ↦
        let is : queue_at l ≡ Fifo = rw (le-ltb l 8 past, le-ltb l 16 third) refl in
        let at : 16 + (l - 16) ≡ l = omega (arith, third) in
        subst (λ r. GroupOf gs r o) (sym is ∙ e) (l - 16, omega arith, ap (λ i. has o (list_at gs i)) at ∙ there)
  ]
]

some-place : (o : ℕ) (gs : List (List ℕ)) (q : Queue) (p : Option ℕ) → place_of o gs ≡ p → queue_of o gs ≡ Some q → (l : ℕ) × (place_of o gs ≡ Some l) × (queue_at l ≡ q)
some-place o gs q None at is = absurd (let e : None ≡ Some q = sym (rw at refl) ∙ is in cc)
some-place o gs q (Some l) at is = (l, at, same_Some _ _ (sym (rw at refl) ∙ is))

group-of : (gs : List (List ℕ)) → AreGroups gs → (q : Queue) (o : ℕ) → queue_of o gs ≡ Some q → GroupOf gs q o
group-of gs is q o e =
    let p = some-place o gs q (place_of o gs) refl e in
    let h = has_at_place o p.0 gs p.1 in
    group-of-list gs q o p.0 (omega (arith, is.count, h.0)) h.2 p.2

-- as many tokens as objects, where the tokens of one queue are changed
changed : (d : QueueDues) (q : Queue) (ds : List ℕ) (gs : List (List ℕ)) → length ds ≡ objects_in gs q (range_with_len 0 8) → ((r : Queue) → (q ≡ r → ⊥) → length (dues_in d r) ≡ objects_in gs r (range_with_len 0 8)) → HasTokens (with_dues d q ds) gs
changed d Obsolete ds gs e o Obsolete = e
changed d Obsolete ds gs e o Lifo = o Lifo (λ c. cc)
changed d Obsolete ds gs e o Fifo = o Fifo (λ c. cc)
changed d Lifo ds gs e o Obsolete = o Obsolete (λ c. cc)
changed d Lifo ds gs e o Lifo = e
changed d Lifo ds gs e o Fifo = o Fifo (λ c. cc)
changed d Fifo ds gs e o Obsolete = o Obsolete (λ c. cc)
changed d Fifo ds gs e o Lifo = o Lifo (λ c. cc)
changed d Fifo ds gs e o Fifo = e

pub entered-as-many : (d : QueueDues) (gs : List (List ℕ)) (q : Queue) (k o : ℕ) → AreGroups gs → k < 8 → HasTokens d gs → HasTokens (with_dues d q (dues_in d q ++ new_due d q ∷ [])) (entered gs q k o)
entered-as-many d gs q k o is below h = changed d q (dues_in d q ++ new_due d q ∷ []) (entered gs q k o)
    (length-append (dues_in d q) (new_due d q ∷ []) ∙ ap (λ n. n + 1) (h q) ∙ entered-own gs is q k o below)
    (λ r ne. h r ∙ entered-other gs is q k o below r ne)

-- an object that enters its queue anew
pub moved-as-many : (d : QueueDues) (gs : List (List ℕ)) (q : Queue) (k o : ℕ) → AreGroups gs → AreGroups (map (without o) gs) → k < 8 → queue_of o gs ≡ Some q → HasTokens d gs → HasTokens d (entered (map (without o) gs) q k o)
moved-as-many d gs q k o is then below at h r =
    let g = group-of gs is q o at in
    elim (same_queue q r) as (λ _. length (dues_in d r) ≡ objects_in (entered (map (without o) gs) q k o) r (range_with_len 0 8)) [
      | inl same ↦ subst (λ p. length (dues_in d p) ≡ objects_in (entered (map (without o) gs) q k o) p (range_with_len 0 8)) same
          (h q ∙ sym (removed-own gs is q g.0 o g.1 g.2) ∙ entered-own (map (without o) gs) then q k o below)
      | inr other ↦ h r ∙ sym (removed-other gs is q g.0 o g.1 g.2 r other) ∙ entered-other (map (without o) gs) then q k o below r other
    ]

-- one token and one object fewer
fewer : (d : QueueDues) (gs : List (List ℕ)) (q : Queue) (o : ℕ) (ds : List ℕ) → AreGroups gs → queue_of o gs ≡ Some q → HasTokens d gs → length ds + 1 ≡ length (dues_in d q) → HasTokens (with_dues d q ds) (map (without o) gs)
fewer d gs q o ds is at h less =
    let g = group-of gs is q o at in
    changed d q ds (map (without o) gs)
    (let r = removed-own gs is q g.0 o g.1 g.2 in omega (arith, h q, less))
    (λ r ne. h r ∙ sym (removed-other gs is q g.0 o g.1 g.2 r ne))

pub own-token : (d : QueueDues) (gs : List (List ℕ)) (q : Queue) (o : ℕ) → AreGroups gs → queue_of o gs ≡ Some q → HasTokens d gs → 0 < length (dues_in d q)
own-token d gs q o is at h = let g = group-of gs is q o at in let r = removed-own gs is q g.0 o g.1 g.2 in omega (arith, h q)

length-rest : (ds : List ℕ) → 0 < length ds → length (drop 1 ds) + 1 ≡ length ds
length-rest [] lt = absurd (omega arith)
length-rest (d ∷ ds) lt = omega arith

length-all_but_last : (ds : List ℕ) → 0 < length ds → length (all_but_last ds) + 1 ≡ length ds
length-all_but_last ds lt = omega (arith, length-take (length ds - 1) ds)

pub first-as-many : (d : QueueDues) (gs : List (List ℕ)) (q : Queue) (o : ℕ) → AreGroups gs → queue_of o gs ≡ Some q → HasTokens d gs → HasTokens (with_dues d q (drop 1 (dues_in d q))) (map (without o) gs)
first-as-many d gs q o is at h = fewer d gs q o (drop 1 (dues_in d q)) is at h (length-rest (dues_in d q) (own-token d gs q o is at h))

pub last-as-many : (d : QueueDues) (gs : List (List ℕ)) (q : Queue) (o : ℕ) → AreGroups gs → queue_of o gs ≡ Some q → HasTokens d gs → HasTokens (with_dues d q (all_but_last (dues_in d q))) (map (without o) gs)
last-as-many d gs q o is at h = fewer d gs q o (all_but_last (dues_in d q)) is at h (length-all_but_last (dues_in d q) (own-token d gs q o is at h))

-- a token that moves leaves as many in the queue to which it goes
length-put_due : (x : ℕ) (ds : List ℕ) → length (put_due x ds) ≡ length ds + 1
length-put_due x [] = refl
length-put_due x (d ∷ ds) = elim (cases_Bool (nat_le d x)) as (λ _. length (put_due x (d ∷ ds)) ≡ length (d ∷ ds) + 1) [
  | inl e ↦ rw e (let l = length-put_due x ds in omega arith)
  | inr e ↦ rw e (omega arith)
]

length-first_into : (ds es : List ℕ) → 0 < length ds → length (first_into ds es) ≡ length es + 1
length-first_into [] es lt = absurd (omega arith)
length-first_into (d ∷ ds) es lt = length-put_due d es

pub purged-as-many : (d : QueueDues) (gs : List (List ℕ)) (t q : Queue) (o : ℕ) → AreGroups gs → queue_of o gs ≡ Some q → begins_ripe (dues_in d t) ≡ true → HasTokens d gs → HasTokens (after_ripe t q d) (map (without o) gs)
purged-as-many d gs t q o is at ripe h = elim (cases_Bool (begins_ripe (dues_in d q))) as (λ _. HasTokens (after_ripe t q d) (map (without o) gs)) [
  | inl own ↦ rw own (first-as-many d gs q o is at h)
  | inr unripe ↦ rw unripe (
      let g = group-of gs is q o at in
      let other : q ≡ t → ⊥ = λ e. both_ways (begins_ripe (dues_in d q)) unripe (ap (λ r. begins_ripe (dues_in d r)) e ∙ ripe) in
      changed (with_dues d q (drop 1 (dues_in d q))) t (first_into (dues_in d q) (drop 1 (dues_in d t))) (map (without o) gs)
      (length-first_into (dues_in d q) (drop 1 (dues_in d t)) (own-token d gs q o is at h)
      ∙ length-rest (dues_in d t) (some_token (dues_in d t) ripe)
      ∙ h t
      ∙ sym (removed-other gs is q g.0 o g.1 g.2 t other))
      (λ r ne. first-as-many d gs q o is at h r)
      )
]

-- the first object of a group of a queue stands in that queue
head-has : (xs : List ℕ) (o : ℕ) → slice_get xs 0 ≡ Some o → has o xs ≡ true
head-has [] o h = absurd (cc)
head-has (x ∷ xs) o h = has_at_head o x xs (sym (same_Some _ _ h))

pub stands-somewhere : (o : ℕ) (gs : List (List ℕ)) (q : Queue) → queue_of o gs ≡ Some q → IsSome (place_of o gs)
stands-somewhere o gs q at = let p = some-place o gs q (place_of o gs) refl at in subst IsSome (sym p.1) refl

pub head-queue : (gs : List (List ℕ)) (q : Queue) (o : ℕ) → AreGroups gs → HeadsGroup gs q o → queue_of o gs ≡ Some q
head-queue gs q o is heads = place-there gs is q heads.group o heads.below (head-has (members gs q heads.group) o heads.heads)

-- at the start there are none, and pages that enter and leave change no number of tokens
pub start-as-many : HasTokens (record { obsolete = []; lifo = []; fifo = []; ahead = 0 }) (replicate 24 [])
start-as-many Obsolete = refl
start-as-many Lifo = refl
start-as-many Fifo = refl

pub more_ahead-as-many : (v : QueueDues) (gs : List (List ℕ)) (k : ℕ) → HasTokens v gs → HasTokens (record v { ahead = v.ahead + k }) gs
more_ahead-as-many v gs k h Obsolete = h Obsolete
more_ahead-as-many v gs k h Lifo = h Lifo
more_ahead-as-many v gs k h Fifo = h Fifo

pub departed-as-many : (v w : QueueDues) (gs : List (List ℕ)) (k : ℕ) → ((q : Queue) → dues_in w q ≡ lowered_by k (dues_in v q)) → HasTokens v gs → HasTokens w gs
departed-as-many v w gs k e h q = ap length (e q) ∙ length-map (dues_in v q) (λ d. d - k) ∙ h q
