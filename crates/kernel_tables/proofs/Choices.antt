-- Which object a purge takes is told by the tables: each queue has as many tokens as objects, and the ripe queue and the first of each
-- group are those of the definitions.
use Rattle.std.proofs.Common.{◌≡◌, ℕ, ◌+◌, ◌-◌, ◌<◌, List, [], ◌∷◌, ◌++◌, length, map, Option, Some, None, option_map, slice_get, refl, sym, ap, ap₂, ◌∙◌, subst, Bool, true, false, ◌&&◌, nat_eq, nat_lt, if◌then◌else◌, inl, inr, ◌⊎◌, arith, zero-le}
use Rattle.std.specs.Prelude.{count_by, sum_by, flat_map, option_and_then}
use Rattle.std.specs.List.{range_with_len}
use Rattle.std.proofs.lemmas.Bool.Decides.{nat_tests}
use Rattle.std.proofs.lemmas.List.{length-map}
use Rattle.std.proofs.lemmas.List.Sums.{sum_by-cons, sum-map}
use Rattle.std.proofs.lemmas.List.Concat.{flat_map-cons}
use Rattle.kern_ids.specs.declared.entries.Entry.{Entry}
use Rattle.kern_ids.specs.declared.calls.Queue.{Queue}
use Rattle.kern_ids.specs.declared.calls.Queue.TheVariants.{Obsolete, Lifo, Fifo}
use Rattle.kernel_model.specs.System.{System}
use Rattle.kernel_model.specs.Valid.{IsValidBoot}
use Rattle.kernel_model.specs.Lists.{first_some}
use Rattle.kernel_model.specs.Pages.{left}
use Rattle.kernel_model.specs.Groups.{volatile, standing, stands_in, same_queue, objects_of, is_lifo, first}
use Rattle.kernel_model.specs.Deadlines.{deadlines, of_queue, due_of, ripe_queue}
use Rattle.kernel_model.specs.Choice.{pick, forced, places_for, groups_of, first_of}
use Rattle.kernel_model.specs.Laws.Frames.{bit}
use Rattle.kernel_model.specs.Laws.Order.{Has}
use Rattle.kernel_model.specs.Laws.Queues.{KeepsGroup, nearer}
use Rattle.kernel_model.proofs.Laws.Agree.{count_by-cons}
use Rattle.kernel_model.proofs.Laws.Counting.{count_by-and, count_by-range, sum_by-agree, sum_by-none}
use Rattle.kernel_model.proofs.Laws.Order.{has-append_cases}
use Rattle.kernel_model.proofs.Laws.Queues.{first-is, distinct-range, has-range, range-has}
use Rattle.kernel_model.proofs.Laws.Held.{tokens-hold}
use Rattle.kernel_model.proofs.Laws.Present.{standing-group}
use Rattle.kernel_model.proofs.Laws.Purges.{IsChosen, first_some-has, chosen-queue}
use Rattle.volatile_groups.specs.Grouped.{first_list, members, queue_at, queue_of, AreGroups}
use Rattle.ripen_advance.specs.Queues.{CanServe}
use Rattle.purge_pick.specs.Picks.{HasTokens, HeadsGroup, head_of, picked, forced_of, objects_in, first_of as first_in, ripe_queue as ripe_in}
use Rattle.purge_pick.specs.Follows.{Follows}
use Rattle.purge_pick.proofs.FollowLemmas.{queue-follows}
use Rattle.kernel_tables.specs.Values.{TableValues}
use Rattle.kernel_tables.specs.Stands.{Stands}
use Rattle.kernel_tables.proofs.Counting.{keeps-count}
use Rattle.kernel_tables.proofs.Lists.{fact-has}

-- a count is the sum of the counts of its groups
sum_by-plus : (f g : ℕ → ℕ) (ns : List ℕ) → sum_by (λ n. f n + g n) ns ≡ sum_by f ns + sum_by g ns
sum_by-plus f g [] = omega arith
sum_by-plus f g (n ∷ ns) =
    let a = sum_by-cons (λ n. f n + g n) n ns in
    let b = sum_by-cons f n ns in
    let c = sum_by-cons g n ns in
    let r = sum_by-plus f g ns in
    omega arith

sum_by-within : (f g : ℕ → ℕ) (ns : List ℕ) → ((n : ℕ) → Has ns n → f n ≡ g n) → sum_by f ns ≡ sum_by g ns
sum_by-within f g [] e = refl
sum_by-within f g (n ∷ ns) e = sum_by-cons f n ns ∙ ap₂ (λ (a b : ℕ). a + b) (e n (inl refl)) (sum_by-within f g ns (λ m h. e m (inr h))) ∙ sym (sum_by-cons g n ns)

bit_of : (b : Bool) → (if b then 1 else 0) ≡ bit b
bit_of true = refl
bit_of false = refl

count-groups : (p : ℕ → Bool) (group : ℕ → ℕ) (ns : List ℕ) → ((o : ℕ) → count_by (nat_eq (group o)) ns ≡ 1) → (xs : List ℕ) → sum_by (λ n. count_by (λ o. p o && nat_eq (group o) n) xs) ns ≡ count_by p xs
count-groups p group ns once [] = sum_by-none ns
count-groups p group ns once (x ∷ xs) =
    sum_by-agree (λ n. count_by (λ o. p o && nat_eq (group o) n) (x ∷ xs)) (λ n. bit (p x && nat_eq (group x) n) + count_by (λ o. p o && nat_eq (group o) n) xs) (λ n. count_by-cons (λ o. p o && nat_eq (group o) n) x xs) ns
    ∙ sum_by-plus (λ n. bit (p x && nat_eq (group x) n)) (λ n. count_by (λ o. p o && nat_eq (group o) n) xs) ns
    ∙ ap₂ (λ (a b : ℕ). a + b)
    (count_by-and (p x) (nat_eq (group x)) ns ∙ ap (λ (n : ℕ). if p x then n else 0) (once x) ∙ bit_of (p x))
    (count-groups p group ns once xs)
    ∙ sym (count_by-cons p x xs)

-- a list of a group is as long as the group has objects
before_itself : (b : Bool) (n : ℕ) → (if b then nat_lt n n else nat_lt n n) ≡ false
before_itself true n = grind (arith, nat_tests)
before_itself false n = grind (arith, nat_tests)

group-count : (boot : System) (past : List Entry) (q : Queue) (g : ℕ) (os : List ℕ) → KeepsGroup boot past q g os → count_by (stands_in boot past q g) (objects_of boot) ≡ length os
group-count boot past q g os k = keeps-count (objects_of boot) (stands_in boot past q g) (nearer past q) os (distinct-range 0 (length boot.objects)) (λ o. before_itself (is_lifo q) (standing past o).vstamp) k

-- the first of some alternatives
first_some-within : {A B : Type 0} (f h : A → Option B) (xs : List A) → ((x : A) → Has xs x → f x ≡ h x) → first_some f xs ≡ first_some h xs
first_some-within f h [] e = refl
first_some-within {A} {B} f h (x ∷ xs) e = ap₂ (λ (a b : Option B). elim a [ Some y ↦ Some y | None ↦ b ]) (e x (inl refl)) (first_some-within f h xs (λ y m. e y (inr m)))

and_then-agree : (f h : Queue → Option ℕ) → ((q : Queue) → f q ≡ h q) → (o : Option Queue) → option_and_then f o ≡ option_and_then h o
and_then-agree f h e (Some q) = e q
and_then-agree f h e None = refl

abbrev both_at : Queue → Queue → ℕ → List (Queue × ℕ)
both_at a b n = (a, n) ∷ (b, n) ∷ []

both_below : (a b : Queue) (ns : List ℕ) → ((n : ℕ) → Has ns n → n < 8) → (p : Queue × ℕ) → Has (flat_map (both_at a b) ns) p → p.1 < 8
both_below a b [] l p h = absurd h
both_below a b (n ∷ ns) l p h =
    let here : n < 8 = l n (inl refl) in
    elim (subst (λ (ps : List (Queue × ℕ)). Has ps p) (flat_map-cons (both_at a b) n ns) h) [
      | inl e ↦ subst (λ (x : Queue × ℕ). x.1 < 8) e here
      | inr m ↦ elim m [
        | inl e ↦ subst (λ (x : Queue × ℕ). x.1 < 8) e here
        | inr k ↦ both_below a b ns (λ i j. l i (inr j)) p k
      ]
    ]

one_below : (q : Queue) (ns : List ℕ) → ((n : ℕ) → Has ns n → n < 8) → (p : Queue × ℕ) → Has (map (λ g. (q, g)) ns) p → p.1 < 8
one_below q [] l p h = absurd h
one_below q (n ∷ ns) l p (inl e) = subst (λ (x : Queue × ℕ). x.1 < 8) e (l n (inl refl))
one_below q (n ∷ ns) l p (inr m) = one_below q ns (λ i j. l i (inr j)) p m

eight : (n : ℕ) → Has (range_with_len 0 8) n → n < 8
eight n h = let r = has-range 0 8 n h in omega (arith, r.1)

places_below : (q : Queue) (p : Queue × ℕ) → Has (places_for q) p → p.1 < 8
places_below Obsolete p (inl e) = subst (λ (x : Queue × ℕ). x.1 < 8) e (omega arith)
places_below Obsolete p (inr m) = absurd m
places_below Lifo p h = both_below Lifo Fifo (range_with_len 0 8) eight p h
places_below Fifo p h = both_below Fifo Lifo (range_with_len 0 8) eight p h

abbrev all_groups : List (Queue × ℕ)
all_groups = groups_of Fifo ++ groups_of Lifo ++ groups_of Obsolete

all_below : (p : Queue × ℕ) → Has all_groups p → p.1 < 8
all_below p h = elim (has-append_cases (groups_of Fifo ++ groups_of Lifo) (groups_of Obsolete) p h) [
  | inl m ↦ elim (has-append_cases (groups_of Fifo) (groups_of Lifo) p m) [
    | inl f ↦ one_below Fifo (range_with_len 0 8) eight p f
    | inr l ↦ one_below Lifo (range_with_len 0 8) eight p l
  ]
  | inr o ↦ one_below Obsolete (range_with_len 0 8) eight p o
]

-- the object of a ripe purge may be purged for the ripe queue
both_queue : (a b : Queue) (ns : List ℕ) (p : Queue × ℕ) → Has (flat_map (both_at a b) ns) p → (a ≡ p.0) ⊎ (b ≡ p.0)
both_queue a b [] p h = absurd h
both_queue a b (n ∷ ns) p h = elim (subst (λ (ps : List (Queue × ℕ)). Has ps p) (flat_map-cons (both_at a b) n ns) h) [
  | inl e ↦ inl (ap (λ (x : Queue × ℕ). x.0) e)
  | inr m ↦ elim m [
    | inl e ↦ inr (ap (λ (x : Queue × ℕ). x.0) e)
    | inr k ↦ both_queue a b ns p k
  ]
]

pub serves-among : (r : Queue) (p : Queue × ℕ) → Has (places_for r) p → CanServe r p.0
serves-among Obsolete p (inl e) = subst (λ (x : Queue × ℕ). CanServe Obsolete x.0) e tt
serves-among Obsolete p (inr m) = absurd m
serves-among Lifo p h = elim (both_queue Lifo Fifo (range_with_len 0 8) p h) [ inl e ↦ subst (CanServe Lifo) e tt | inr e ↦ subst (CanServe Lifo) e tt ]
serves-among Fifo p h = elim (both_queue Fifo Lifo (range_with_len 0 8) p h) [ inl e ↦ subst (CanServe Fifo) e tt | inr e ↦ subst (CanServe Fifo) e tt ]

-- the queue of a list
queue_at-list : (q : Queue) (g : ℕ) → g < 8 → (first_list q + g < 24) × (queue_at (first_list q + g) ≡ q)
queue_at-list Obsolete g l =
    let a : nat_lt (0 + g) 8 ≡ true = grind (arith, nat_tests) in
    (omega arith, rw a refl)
queue_at-list Lifo g l =
    let a : nat_lt (8 + g) 8 ≡ false = grind (arith, nat_tests) in
    let b : nat_lt (8 + g) 16 ≡ true = grind (arith, nat_tests) in
    (omega arith, rw (a, b) refl)
queue_at-list Fifo g l =
    let a : nat_lt (16 + g) 8 ≡ false = grind (arith, nat_tests) in
    let b : nat_lt (16 + g) 16 ≡ false = grind (arith, nat_tests) in
    (omega arith, rw (a, b) refl)

pub queue_of-member : (groups : List (List ℕ)) → AreGroups groups → (q : Queue) (g o : ℕ) → g < 8 → Has (members groups q g) o → queue_of o groups ≡ Some q
queue_of-member groups are q g o l h =
    let at = queue_at-list q g l in
    let inside : first_list q + g < length groups = omega (arith, at.0, are.count) in
    ap (option_map queue_at) (are.once.between (first_list q + g) o inside (fact-has o (members groups q g) h)) ∙ ap Some at.1

head-has : (xs : List ℕ) (o : ℕ) → slice_get xs 0 ≡ Some o → Has xs o
head-has [] o h = absurd (cc)
head-has (x ∷ xs) o h = inl (cc)

pub same_queue-itself : (q : Queue) → same_queue q q ≡ true
same_queue-itself Obsolete = refl
same_queue-itself Lifo = refl
same_queue-itself Fifo = refl

module _ (tables : TableValues) (past : List Entry) (s : Stands tables past) where
  -- each due is its deadline less the pages that left
  pub tokens-follow : Follows (deadlines tables.boot past) (left tables.boot past + tables.tokens.ahead) (left tables.boot past) tables.tokens
  tokens-follow = record { dues = s.queues.dues; ahead = omega arith }

  pub ripe-is : ripe_queue tables.boot past ≡ ripe_in tables.tokens
  ripe-is = queue-follows (deadlines tables.boot past) (left tables.boot past + tables.tokens.ahead) (left tables.boot past) tables.tokens tokens-follow

  -- each queue has as many tokens as objects
  pub has-tokens : IsValidBoot tables.boot → HasTokens tables.tokens tables.groups
  has-tokens valid q =
      let eights = range_with_len 0 8 in
      let objects : objects_in tables.groups q eights ≡ count_by (λ o. volatile tables.boot past o && same_queue (standing past o).queue q) (objects_of tables.boot) =
      sum-map (λ n. length (members tables.groups q n)) eights
      ∙ sum_by-within (λ n. length (members tables.groups q n)) (λ n. count_by (stands_in tables.boot past q n) (objects_of tables.boot)) eights (λ n h. sym (group-count tables.boot past q n (members tables.groups q n) (s.queues.groups q n (eight n h))))
      ∙ count-groups (λ o. volatile tables.boot past o && same_queue (standing past o).queue q) (λ o. (standing past o).group) eights (λ o. count_by-range (standing past o).group 8 (standing-group past o)) (objects_of tables.boot) in
      ap length (s.queues.dues q) ∙ length-map (of_queue (deadlines tables.boot past) q) (due_of tables.boot past) ∙ (tokens-hold tables.boot past valid s.legal).count q ∙ sym objects

  -- the first of each group is at the head of its list
  head-first : (p : Queue × ℕ) → p.1 < 8 → first tables.boot past p.0 p.1 ≡ head_of tables.groups p
  head-first p l = first-is tables.boot past p.0 p.1 (members tables.groups p.0 p.1) (s.queues.groups p.0 p.1 l)

  first-among : (ps : List (Queue × ℕ)) → ((p : Queue × ℕ) → Has ps p → p.1 < 8) → first_of tables.boot past ps ≡ first_in tables.groups ps
  first-among ps l = first_some-within (λ p. first tables.boot past p.0 p.1) (head_of tables.groups) ps (λ p m. head-first p (l p m))

  pub pick-is : pick tables.boot past ≡ picked tables.tokens tables.groups
  unfolding pick
  pick-is =
      and_then-agree (λ q. first_of tables.boot past (places_for q)) (λ q. first_in tables.groups (places_for q)) (λ q. first-among (places_for q) (places_below q)) (ripe_queue tables.boot past)
      ∙ ap (option_and_then (λ q. first_in tables.groups (places_for q))) ripe-is

  pub forced-is : forced tables.boot past ≡ forced_of tables.groups
  unfolding forced
  forced-is = first-among all_groups all_below

  -- the object that is first in a group is declared, is volatile and stands in its queue
  pub heads-chosen : (q : Queue) (o : ℕ) → HeadsGroup tables.groups q o → (g : ℕ) × IsChosen tables.boot past q g o
  heads-chosen q o h =
      let k = s.queues.groups q h.group h.below in
      let m = head-has (members tables.groups q h.group) o h.heads in
      (h.group, record { stands = k.passes o m; declared = k.within o m })

  pub heads-queue : (q : Queue) (o : ℕ) → HeadsGroup tables.groups q o → (standing past o).queue ≡ q
  heads-queue q o h = let c = heads-chosen q o h in chosen-queue tables.boot past q c.0 o c.1

  -- a volatile object stands in the groups in its queue
  pub volatile-queue : AreGroups tables.groups → (o : ℕ) → o < length tables.boot.objects → volatile tables.boot past o ≡ true → queue_of o tables.groups ≡ Some (standing past o).queue
  volatile-queue are o l v =
      let g = (standing past o).group in
      let q = (standing past o).queue in
      let same : nat_eq g g ≡ true = grind (arith, nat_tests) in
      let stands : stands_in tables.boot past q g o ≡ true = rw (v, same_queue-itself q, same) refl in
      let inside : o < 0 + length tables.boot.objects = omega arith in
      queue_of-member tables.groups are q g o (standing-group past o) ((s.queues.groups q g (standing-group past o)).all o (range-has 0 (length tables.boot.objects) o zero-le inside) stands)

-- a forced purge takes the first of a group
pub forced-heads : (groups : List (List ℕ)) (o : ℕ) → forced_of groups ≡ Some o → (q : Queue) × HeadsGroup groups q o
forced-heads groups o h =
    let f = first_some-has (head_of groups) all_groups o h in
    (f.0.0, record { group = f.0.1; below = all_below f.0 f.1; heads = f.2 })
