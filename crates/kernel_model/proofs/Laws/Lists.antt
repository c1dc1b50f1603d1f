-- Rising lists of deadlines, and what is done to them.
use Rattle.std.proofs.Common.{◌≡◌, ℕ, ◌+◌, ◌-◌, ◌≤◌, List, [], ◌∷◌, ◌++◌, length, refl, sym, ap, ◌∙◌, subst, Bool, true, false, count_by, nat_eq, nat_le, if◌then◌else◌, inl, inr, ◌⊎◌, arith, length-append}
use Rattle.std.specs.Prelude.{drop}
use Rattle.std.proofs.lemmas.Bool.{false≢true, true≢false}
use Rattle.std.proofs.lemmas.Bool.Decides.{nat_tests}
use Rattle.std.proofs.lemmas.List.Sums.{sum_by-append}
use Rattle.kern_ids.specs.declared.calls.Queue.{Queue}
use Rattle.kern_ids.specs.declared.calls.Queue.TheVariants.{Obsolete, Lifo, Fifo}
use Rattle.kernel_model.specs.Deadlines.{Deadlines, of_queue, with_queue, without_first, without_last, put_deadline, first_into, begins_ripe}
use Rattle.kernel_model.specs.Groups.{same_queue}
use Rattle.kernel_model.specs.Lists.{but_last}
use Rattle.kernel_model.specs.Laws.Order.{Has}
use Rattle.kernel_model.specs.Laws.Frames.{bit}
use Rattle.kernel_model.specs.Laws.Legal.{Climbs, all_deadlines, IsWithout}
use Rattle.kernel_model.proofs.Laws.Agree.{count_by-cons}
use Rattle.kernel_model.proofs.Laws.Order.{has-append_cases}

cases_bool : (b : Bool) → (b ≡ true) ⊎ (b ≡ false)
cases_bool true = inl refl
cases_bool false = inr refl

-- without the first
climbs-drop : (xs : List ℕ) → Climbs xs → Climbs (drop 1 xs)
climbs-drop [] c = tt
climbs-drop (x ∷ xs) c = c.1

has-drop : (xs : List ℕ) (x : ℕ) → Has (drop 1 xs) x → Has xs x
has-drop [] x h = h
has-drop (y ∷ xs) x h = inr h

length-drop_one : (xs : List ℕ) → length (drop 1 xs) ≡ length xs - 1
length-drop_one [] = refl
length-drop_one (x ∷ xs) = omega arith

-- without the last
has-but_last : (xs : List ℕ) (x : ℕ) → Has (but_last xs) x → Has xs x
has-but_last [] x h = h
has-but_last (y ∷ []) x h = absurd h
has-but_last (y ∷ z ∷ zs) x (inl e) = inl e
has-but_last (y ∷ z ∷ zs) x (inr h) = inr (has-but_last (z ∷ zs) x h)

climbs-but_last : (xs : List ℕ) → Climbs xs → Climbs (but_last xs)
climbs-but_last [] c = tt
climbs-but_last (y ∷ []) c = tt
climbs-but_last (y ∷ z ∷ zs) c = ((λ w h. c.0 w (has-but_last (z ∷ zs) w h)), climbs-but_last (z ∷ zs) c.1)

length-but_last : (xs : List ℕ) → length (but_last xs) ≡ length xs - 1
length-but_last [] = refl
length-but_last (y ∷ []) = refl
length-but_last (y ∷ z ∷ zs) = let r = length-but_last (z ∷ zs) in omega arith

-- one more at the end
climbs-push : (xs : List ℕ) (y : ℕ) → Climbs xs → ((x : ℕ) → Has xs x → x ≤ y) → Climbs (xs ++ y ∷ [])
climbs-push [] y c h = ((λ z m. absurd m), tt)
climbs-push (x ∷ xs) y c h = ((λ z m. elim (has-append_cases xs (y ∷ []) z m) [ inl l ↦ c.0 z l | inr r ↦ elim r [ inl e ↦ subst (λ w. x ≤ w) e (h x (inl refl)) | inr f ↦ absurd f ] ]), climbs-push xs y c.1 (λ z m. h z (inr m)))

-- a deadline put in its place
has-put : (x : ℕ) (xs : List ℕ) (y : ℕ) → Has (put_deadline x xs) y → (x ≡ y) ⊎ Has xs y
has-put x [] y h = h
has-put x (d ∷ ds) y h = elim (cases_bool (nat_le d x)) [
  | inl t ↦ elim (rw t at h) [ inl e ↦ inr (inl e) | inr m ↦ elim (has-put x ds y m) [ inl e ↦ inl e | inr n ↦ inr (inr n) ] ]
  | inr f ↦ elim (rw f at h) [ inl e ↦ inl e | inr m ↦ inr m ]
]

le_true : (m n : ℕ) → nat_le m n ≡ true → m ≤ n
le_true m n h = grind (arith, nat_tests)

le_false : (m n : ℕ) → nat_le m n ≡ false → n ≤ m
le_false m n h = grind (arith, nat_tests)

le_through : (a b c : ℕ) → a ≤ b → b ≤ c → a ≤ c
le_through a b c h k = omega arith

climbs-put : (x : ℕ) (xs : List ℕ) → Climbs xs → Climbs (put_deadline x xs)
climbs-put x [] c = ((λ z m. absurd m), tt)
climbs-put x (d ∷ ds) c = elim (cases_bool (nat_le d x)) [
  | inl t ↦ rw t ((λ z m. elim (has-put x ds z m) [ inl e ↦ subst (λ w. d ≤ w) e (le_true d x t) | inr n ↦ c.0 z n ]), climbs-put x ds c.1)
  | inr f ↦ rw f ((λ z m. elim m [ inl e ↦ subst (λ w. x ≤ w) e (le_false d x f) | inr n ↦ le_through x d z (le_false d x f) (c.0 z n) ]), c)
]

length-put : (x : ℕ) (xs : List ℕ) → length (put_deadline x xs) ≡ length xs + 1
length-put x [] = refl
length-put x (d ∷ ds) = elim (cases_bool (nat_le d x)) [
  | inl t ↦ rw t (let r = length-put x ds in omega arith)
  | inr f ↦ rw f (omega arith)
]

-- lists with numbers as long as counts say, rising, with 0 alone in the first and none above a bound
pub record IsSound (d : Deadlines) (c : Queue → ℕ) (n : ℕ) : Type 0 where
  pub rising : (q : Queue) → Climbs (of_queue d q)
  pub count : (q : Queue) → length (of_queue d q) ≡ c q
  pub zero : (x : ℕ) → Has d.obsolete x → x ≡ 0
  pub bound : (q : Queue) (x : ℕ) → Has (of_queue d q) x → x ≤ n

pub with_queue-of : (d : Deadlines) (q p : Queue) (xs : List ℕ) → of_queue (with_queue d q xs) p ≡ (if same_queue q p then xs else of_queue d p)
with_queue-of d Obsolete Obsolete xs = refl
with_queue-of d Obsolete Lifo xs = refl
with_queue-of d Obsolete Fifo xs = refl
with_queue-of d Lifo Obsolete xs = refl
with_queue-of d Lifo Lifo xs = refl
with_queue-of d Lifo Fifo xs = refl
with_queue-of d Fifo Obsolete xs = refl
with_queue-of d Fifo Lifo xs = refl
with_queue-of d Fifo Fifo xs = refl

pub same_queue-is : (q p : Queue) → same_queue q p ≡ true → q ≡ p
same_queue-is Obsolete Obsolete h = refl
same_queue-is Lifo Lifo h = refl
same_queue-is Fifo Fifo h = refl
same_queue-is _ _ h = absurd (false≢true h)

-- another list for one queue
pub sound-with : (d : Deadlines) (c : Queue → ℕ) (n : ℕ) (q : Queue) (xs : List ℕ) → IsSound d c n → Climbs xs → ((x : ℕ) → Has xs x → x ≤ n) → ((x : ℕ) → q ≡ Obsolete → Has xs x → x ≡ 0) → IsSound (with_queue d q xs) (λ p. if same_queue q p then length xs else c p) n
sound-with d c n q xs s r b z = record {
  rising = λ p. (let e = with_queue-of d q p xs in elim (cases_bool (same_queue q p)) [ inl t ↦ rw (e, t) r | inr f ↦ rw (e, f) (s.rising p) ]);
  count = λ p. (let e = with_queue-of d q p xs in elim (cases_bool (same_queue q p)) [ inl t ↦ rw (e, t) refl | inr f ↦ rw (e, f) (s.count p) ]);
  zero = λ x h. (let e : (with_queue d q xs).obsolete ≡ (if same_queue q Obsolete then xs else d.obsolete) = with_queue-of d q Obsolete xs in elim (cases_bool (same_queue q Obsolete)) [
    | inl t ↦ z x (same_queue-is q Obsolete t) (rw (e, t) at h)
    | inr f ↦ s.zero x (rw (e, f) at h)
  ]);
  bound = λ p x h. (let e = with_queue-of d q p xs in elim (cases_bool (same_queue q p)) [ inl t ↦ b x (rw (e, t) at h) | inr f ↦ s.bound p x (rw (e, f) at h) ]);
}

of_obsolete : (d : Deadlines) (q : Queue) (x : ℕ) → q ≡ Obsolete → Has (of_queue d q) x → Has d.obsolete x
of_obsolete d q x e h = subst (λ p. Has (of_queue d p) x) e h

pub sound-first : (d : Deadlines) (c : Queue → ℕ) (n : ℕ) (q : Queue) → IsSound d c n → IsSound (without_first q d) (λ p. if same_queue q p then length (drop 1 (of_queue d q)) else c p) n
sound-first d c n q s = sound-with d c n q (drop 1 (of_queue d q)) s (climbs-drop (of_queue d q) (s.rising q)) (λ x h. s.bound q x (has-drop (of_queue d q) x h)) (λ x e h. s.zero x (of_obsolete d q x e (has-drop (of_queue d q) x h)))

pub sound-last : (d : Deadlines) (c : Queue → ℕ) (n : ℕ) (q : Queue) → IsSound d c n → IsSound (without_last q d) (λ p. if same_queue q p then length (but_last (of_queue d q)) else c p) n
sound-last d c n q s = sound-with d c n q (but_last (of_queue d q)) s (climbs-but_last (of_queue d q) (s.rising q)) (λ x h. s.bound q x (has-but_last (of_queue d q) x h)) (λ x e h. s.zero x (of_obsolete d q x e (has-but_last (of_queue d q) x h)))

pub sound-count : (d : Deadlines) (c k : Queue → ℕ) (n m : ℕ) → ((q : Queue) → c q ≡ k q) → n ≤ m → IsSound d c n → IsSound d k m
sound-count d c k n m e l s = record {
  rising = s.rising;
  count = λ q. s.count q ∙ e q;
  zero = s.zero;
  bound = λ q x h. le_through x n m (s.bound q x h) l;
}

less_one : (b : Bool) (m n : ℕ) → m ≡ n - 1 → (p q : ℕ) → (b ≡ true → p ≡ n) → (if b then m else p) ≡ p - bit b
less_one true m n e p q h = e ∙ ap (λ x. x - 1) (sym (h refl))
less_one false m n e p q h = omega arith

-- a queue loses its first or its last
pub sound-less_first : (d : Deadlines) (c : Queue → ℕ) (n : ℕ) (q : Queue) → IsSound d c n → IsSound (without_first q d) (λ p. c p - bit (same_queue q p)) n
sound-less_first d c n q s =
    sound-count (without_first q d) (λ p. if same_queue q p then length (drop 1 (of_queue d q)) else c p) (λ p. c p - bit (same_queue q p)) n n
    (λ p. less_one (same_queue q p) (length (drop 1 (of_queue d q))) (c q) (length-drop_one (of_queue d q) ∙ ap (λ x. x - 1) (s.count q)) (c p) 0 (λ t. ap c (sym (same_queue-is q p t)))) (omega arith) (sound-first d c n q s)

pub sound-less_last : (d : Deadlines) (c : Queue → ℕ) (n : ℕ) (q : Queue) → IsSound d c n → IsSound (without_last q d) (λ p. c p - bit (same_queue q p)) n
sound-less_last d c n q s =
    sound-count (without_last q d) (λ p. if same_queue q p then length (but_last (of_queue d q)) else c p) (λ p. c p - bit (same_queue q p)) n n
    (λ p. less_one (same_queue q p) (length (but_last (of_queue d q))) (c q) (length-but_last (of_queue d q) ∙ ap (λ x. x - 1) (s.count q)) (c p) 0 (λ t. ap c (sym (same_queue-is q p t)))) (omega arith) (sound-last d c n q s)

-- a queue gets a new last, which is no less than all others
more_one : (b : Bool) (m n : ℕ) → m ≡ n + 1 → (p : ℕ) → (b ≡ true → p ≡ n) → (if b then m else p) ≡ p + bit b
more_one true m n e p h = e ∙ ap (λ x. x + 1) (sym (h refl))
more_one false m n e p h = omega arith

one_has : (x y : ℕ) → Has (y ∷ []) x → y ≡ x
one_has x y (inl e) = e
one_has x y (inr f) = absurd f

pub sound-push : (d : Deadlines) (c : Queue → ℕ) (n y : ℕ) (q : Queue) → y ≤ n → ((x : ℕ) → Has (of_queue d q) x → x ≤ y) → (q ≡ Obsolete → y ≡ 0) → IsSound d c n → IsSound (with_queue d q (of_queue d q ++ y ∷ [])) (λ p. c p + bit (same_queue q p)) n
sound-push d c n y q l above z s =
    let xs = of_queue d q ++ y ∷ [] in
    sound-count (with_queue d q xs) (λ p. if same_queue q p then length xs else c p) (λ p. c p + bit (same_queue q p)) n n
    (λ p. more_one (same_queue q p) (length xs) (c q) (length-append (of_queue d q) (y ∷ []) ∙ ap (λ x. x + 1) (s.count q)) (c p) (λ t. ap c (sym (same_queue-is q p t)))) (omega arith)
    (sound-with d c n q xs s (climbs-push (of_queue d q) y (s.rising q) above)
    (λ x h. elim (has-append_cases (of_queue d q) (y ∷ []) x h) [ inl m ↦ s.bound q x m | inr r ↦ subst (λ w. w ≤ n) (one_has x y r) l ])
    (λ x e h. elim (has-append_cases (of_queue d q) (y ∷ []) x h) [ inl m ↦ s.zero x (of_obsolete d q x e m) | inr r ↦ sym (one_has x y r) ∙ z e ]))

-- a deadline moves from the head of one queue into another, whose own first goes
moved_has : (xs ys : List ℕ) (x : ℕ) → Has (first_into xs ys) x → Has xs x ⊎ Has ys x
moved_has [] ys x h = inr h
moved_has (y ∷ xs) ys x h = elim (has-put y ys x h) [ inl e ↦ inl (inl e) | inr m ↦ inr m ]

moved_climbs : (xs ys : List ℕ) → Climbs ys → Climbs (first_into xs ys)
moved_climbs [] ys c = c
moved_climbs (y ∷ xs) ys c = climbs-put y ys c

moved_length : (xs ys : List ℕ) → 1 ≤ length xs → length (first_into xs ys) ≡ length ys + 1
moved_length [] ys l = absurd (omega arith)
moved_length (y ∷ xs) ys l = length-put y ys

move_count : (r q : Bool) (m cp : ℕ) → (r ≡ true → q ≡ false) → (r ≡ true → m ≡ cp) → (if r then m else cp - bit q) ≡ cp - bit q
move_count true true m cp a h = absurd (true≢false (a refl))
move_count true false m cp a h = let e = h refl in omega arith
move_count false q m cp a h = refl

queues_apart : (q r p : Queue) → same_queue q r ≡ false → same_queue r p ≡ true → same_queue q p ≡ false
queues_apart q r p h k = ap (same_queue q) (sym (same_queue-is r p k)) ∙ h

pub sound-move : (d : Deadlines) (c : Queue → ℕ) (n : ℕ) (r q : Queue) → same_queue q r ≡ false → (r ≡ Obsolete → ⊥) → 1 ≤ c q → 1 ≤ c r → IsSound d c n → IsSound (with_queue (without_first q d) r (first_into (of_queue d q) (drop 1 (of_queue d r)))) (λ p. c p - bit (same_queue q p)) n
sound-move d c n r q off o some ripe s =
    let xs = first_into (of_queue d q) (drop 1 (of_queue d r)) in
    let long : length xs ≡ c r = (let a = moved_length (of_queue d q) (drop 1 (of_queue d r)) (rw (s.count q) some) in let b = length-drop_one (of_queue d r) in let e = s.count r in omega (arith, a, b, e, ripe)) in
    sound-count (with_queue (without_first q d) r xs) (λ p. if same_queue r p then length xs else c p - bit (same_queue q p)) (λ p. c p - bit (same_queue q p)) n n
    (λ p. move_count (same_queue r p) (same_queue q p) (length xs) (c p) (λ k. queues_apart q r p off k) (λ k. long ∙ ap c (same_queue-is r p k))) (omega arith)
    (sound-with (without_first q d) (λ p. c p - bit (same_queue q p)) n r xs (sound-less_first d c n q s)
    (moved_climbs (of_queue d q) (drop 1 (of_queue d r)) (climbs-drop (of_queue d r) (s.rising r)))
    (λ x h. elim (moved_has (of_queue d q) (drop 1 (of_queue d r)) x h) [ inl m ↦ s.bound q x m | inr m ↦ s.bound r x (has-drop (of_queue d r) x m) ])
    (λ x e h. absurd (o e)))

-- what begins ripe has a first, and it is ripe
pub ripe_first : (n : ℕ) (xs : List ℕ) → begins_ripe n xs ≡ true → (x : ℕ) × (x ≤ n) × (xs ≡ x ∷ drop 1 xs)
ripe_first n [] h = absurd (false≢true h)
ripe_first n (x ∷ xs) h = (x, le_true x n h, refl)

-- how often a number stands in the three lists
abbrev times : ℕ → List ℕ → ℕ
times k xs = count_by (nat_eq k) xs

times-all : (k : ℕ) (d : Deadlines) → times k (all_deadlines d) ≡ times k d.obsolete + (times k d.lifo + times k d.fifo)
times-all k d =
    let a : times k (d.obsolete ++ d.lifo ++ d.fifo) ≡ times k (d.obsolete ++ d.lifo) + times k d.fifo = sum_by-append (λ y. bit (nat_eq k y)) (d.obsolete ++ d.lifo) d.fifo in
    let b : times k (d.obsolete ++ d.lifo) ≡ times k d.obsolete + times k d.lifo = sum_by-append (λ y. bit (nat_eq k y)) d.obsolete d.lifo in
    omega (arith, a, b)

times-with : (k : ℕ) (d : Deadlines) (q : Queue) (xs : List ℕ) → times k (all_deadlines (with_queue d q xs)) + times k (of_queue d q) ≡ times k (all_deadlines d) + times k xs
times-with k d Obsolete xs = let a = times-all k d in let b = times-all k (with_queue d Obsolete xs) in omega (arith, a, b)
times-with k d Lifo xs = let a = times-all k d in let b = times-all k (with_queue d Lifo xs) in omega (arith, a, b)
times-with k d Fifo xs = let a = times-all k d in let b = times-all k (with_queue d Fifo xs) in omega (arith, a, b)

times-put : (k x : ℕ) (xs : List ℕ) → times k (put_deadline x xs) ≡ times k xs + bit (nat_eq k x)
times-put k x [] = omega (arith, count_by-cons (nat_eq k) x [])
times-put k x (d ∷ ds) =
    let c = count_by-cons (nat_eq k) d ds in
    elim (cases_bool (nat_le d x)) [
      | inl t ↦ rw t (let p = times-put k x ds in let e = count_by-cons (nat_eq k) d (put_deadline x ds) in omega (arith, c, p, e))
      | inr f ↦ rw f (let e = count_by-cons (nat_eq k) x (d ∷ ds) in omega (arith, c, e))
    ]

-- a queue without its first
pub without_first-times : (d : Deadlines) (q : Queue) (x : ℕ) → of_queue d q ≡ x ∷ drop 1 (of_queue d q) → IsWithout (all_deadlines d) x (all_deadlines (without_first q d))
without_first-times d q x h k =
    let w = times-with k d q (drop 1 (of_queue d q)) in
    let c : times k (of_queue d q) ≡ bit (nat_eq k x) + times k (drop 1 (of_queue d q)) = ap (times k) h ∙ count_by-cons (nat_eq k) x (drop 1 (of_queue d q)) in
    omega (arith, w, c)

-- the move takes the first of the ripe queue
moved_times : (k : ℕ) (xs ys : List ℕ) → times k (first_into xs ys) + times k (drop 1 xs) ≡ times k ys + times k xs
moved_times k [] ys = refl
moved_times k (x ∷ xs) ys = let p = times-put k x ys in let c = count_by-cons (nat_eq k) x xs in omega (arith, p, c)

pub move-times : (d : Deadlines) (r q : Queue) (x : ℕ) → same_queue q r ≡ false → of_queue d r ≡ x ∷ drop 1 (of_queue d r) → IsWithout (all_deadlines d) x (all_deadlines (with_queue (without_first q d) r (first_into (of_queue d q) (drop 1 (of_queue d r)))))
move-times d r q x off h k =
    let w = times-with k d q (drop 1 (of_queue d q)) in
    let v = times-with k (without_first q d) r (first_into (of_queue d q) (drop 1 (of_queue d r))) in
    let same : of_queue (without_first q d) r ≡ of_queue d r = with_queue-of d q r (drop 1 (of_queue d q)) ∙ rw off refl in
    let s : times k (of_queue (without_first q d) r) ≡ times k (of_queue d r) = ap (times k) same in
    let c : times k (of_queue d r) ≡ bit (nat_eq k x) + times k (drop 1 (of_queue d r)) = ap (times k) h ∙ count_by-cons (nat_eq k) x (drop 1 (of_queue d r)) in
    let m = moved_times k (of_queue d q) (drop 1 (of_queue d r)) in
    omega (arith, w, v, s, c, m)
