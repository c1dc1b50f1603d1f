-- The lists of deadlines.
use Rattle.std.proofs.Common.{◌≡◌, ℕ, suc, ◌+◌, ◌-◌, ◌<◌, List, [], ◌∷◌, ◌++◌, length, take, drop, get_or, fold, filter, cond, Bool, true, false, ◌&&◌, Option, Some, None, refl, ap, ◌∙◌, nat_lt, arith, insert, inl, inr, ap₂, if◌then◌else◌}
use Rattle.std.specs.List.{position_or_len, prefix_len, range_with_len}
use Rattle.std.specs.Option.{option_map_or}
use Rattle.std.proofs.Common.{not}
use Rattle.std.proofs.lemmas.Bool.{cases_lt, lt-ltb, lt-leb, le-ltb, le-leb}
use Rattle.std.proofs.lemmas.List.Sums.{fold-append}
use Rattle.std.proofs.lemmas.List.Elements.{filter-append}
use Rattle.kern_ids.specs.declared.calls.Wish.{Wish}
use Rattle.kern_ids.specs.declared.entries.Entry.{Entry}
use Rattle.kern_ids.specs.declared.calls.Queue.{Queue}
use Rattle.kern_ids.specs.declared.calls.Queue.TheVariants.{Obsolete, Lifo, Fifo}
use Rattle.kernel_model.specs.System.{System}
use Rattle.kernel_model.specs.Lists.{but_last}
use Rattle.kernel_model.specs.Events.{accepted, purged_by}
use Rattle.kernel_model.specs.State.{state}
use Rattle.kernel_model.specs.Mapping.{unmaps}
use Rattle.kernel_model.specs.Groups.{same_queue, standing, volatile, objects_of}
use Rattle.kernel_model.specs.Deadlines.{Deadlines, of_queue, with_queue, without_first, begins_ripe, put_deadline, first_into, after_ripe, after_set, after_purge, set_by, changed, deadlines, after_unmappings as spec_unmappings}
use Rattle.kernel_model.proofs.Laws.Deadlines.{deadlines-more}
use Rattle.kernel_model.proofs.Ranges.{range_push}
use Rattle.slow_kernel.specs.Tables.{past_at}
use Rattle.slow_kernel.specs.DeadlineSteps.{first_of, put_some, leaves, after_one, after_to}
use Rattle.slow_kernel.proofs.Loops.{past_loop}
use Rattle.slow_kernel.proofs.PageTables.{unmaps_at}

pub but_last_take : (xs : List ℕ) → but_last xs ≡ take (length xs - 1) xs
but_last_take [] = refl
but_last_take (x ∷ []) = refl
but_last_take (x ∷ y ∷ ys) =
    let e : suc (suc (length ys) - 1) ≡ suc (suc (length ys)) - 1 = omega arith in
    ap (λ zs. x ∷ zs) (but_last_take (y ∷ ys)) ∙ ap (λ k. take k (x ∷ y ∷ ys)) e

pub insert-suc : (x d : ℕ) (ds : List ℕ) (n : ℕ) → d ∷ (take n ds ++ x ∷ drop n ds) ≡ take (1 + n) (d ∷ ds) ++ x ∷ drop (1 + n) (d ∷ ds)
insert-suc x d ds n =
    let e : suc n ≡ 1 + n = omega arith in
    ap (λ k. take k (d ∷ ds) ++ x ∷ drop k (d ∷ ds)) e

pub put_insert : (x : ℕ) (xs : List ℕ) → put_deadline x xs ≡ insert xs (position_or_len (λ d. nat_lt x d) xs) x
put_insert x [] = refl
put_insert x (d ∷ ds) = elim (cases_lt x d) [
  | inl l ↦ rw (lt-ltb x d l, lt-leb d x l) refl
  | inr l ↦ rw (le-ltb x d l, le-leb d x l) (ap (λ zs. d ∷ zs) (put_insert x ds) ∙ insert-suc x d ds (prefix_len (λ y. not (nat_lt x y)) ds))
]

into-some : (xs ys : List ℕ) → first_into xs ys ≡ put_some (first_of xs) ys
into-some [] ys = refl
into-some (x ∷ xs) ys = refl

pub after_ripe_moved : (n : ℕ) (r q : Queue) (d : Deadlines) → same_queue q r ≡ false → begins_ripe n (of_queue d q) ≡ false → after_ripe n r q d ≡ with_queue (without_first q d) r (put_some (first_of (of_queue d q)) (drop 1 (of_queue (without_first q d) r)))
after_ripe_moved n Obsolete Lifo d s b = rw b (ap (with_queue (without_first Lifo d) Obsolete) (into-some d.lifo (drop 1 d.obsolete)))
after_ripe_moved n Obsolete Fifo d s b = rw b (ap (with_queue (without_first Fifo d) Obsolete) (into-some d.fifo (drop 1 d.obsolete)))
after_ripe_moved n Lifo Obsolete d s b = rw b (ap (with_queue (without_first Obsolete d) Lifo) (into-some d.obsolete (drop 1 d.lifo)))
after_ripe_moved n Lifo Fifo d s b = rw b (ap (with_queue (without_first Fifo d) Lifo) (into-some d.fifo (drop 1 d.lifo)))
after_ripe_moved n Fifo Obsolete d s b = rw b (ap (with_queue (without_first Obsolete d) Fifo) (into-some d.obsolete (drop 1 d.fifo)))
after_ripe_moved n Fifo Lifo d s b = rw b (ap (with_queue (without_first Lifo d) Fifo) (into-some d.lifo (drop 1 d.fifo)))
after_ripe_moved n Obsolete Obsolete d s b = cc
after_ripe_moved n Lifo Lifo d s b = cc
after_ripe_moved n Fifo Fifo d s b = cc

pub deadlines_none : (boot : System) → deadlines boot [] ≡ record { obsolete = []; lifo = []; fifo = [] }
unfolding deadlines
deadlines_none boot = refl

pub after_to_none : (boot : System) (h : List Entry) (i : ℕ) (d : Deadlines) → after_to boot h i 0 d ≡ d
unfolding after_to
after_to_none boot h i d = refl

-- the objects that pass, one more
fold-filter-more : (f : Deadlines → ℕ → Deadlines) (p : ℕ → Bool) (k : ℕ) (d : Deadlines) → fold f d (filter p (range_with_len 0 (k + 1))) ≡ (if p k then f (fold f d (filter p (range_with_len 0 k))) k else fold f d (filter p (range_with_len 0 k)))
fold-filter-more f p k d =
    ap (λ ks. fold f d (filter p ks)) (range_push k)
    ∙ ap (fold f d) (filter-append p (range_with_len 0 k) (k ∷ []))
    ∙ fold-append f d (filter p (range_with_len 0 k)) (filter p (k ∷ []))
    ∙ elim (p k) as (λ b. fold f (fold f d (filter p (range_with_len 0 k))) (cond b (k ∷ []) []) ≡ (if b then f (fold f d (filter p (range_with_len 0 k))) k else fold f d (filter p (range_with_len 0 k)))) [ true ↦ refl | false ↦ refl ]

pub after_to_more : (boot : System) (h : List Entry) (i k : ℕ) (d : Deadlines) → after_to boot h i (k + 1) d ≡ after_one boot h i k (after_to boot h i k d)
unfolding after_to after_one
after_to_more boot h i k d = fold-filter-more (λ d' o. without_first (standing (past_at h i) o).queue d') (leaves boot h i) k d

filter-same : (p q : ℕ → Bool) → ((x : ℕ) → p x ≡ q x) → (xs : List ℕ) → filter p xs ≡ filter q xs
filter-same p q h [] = refl
filter-same p q h (x ∷ xs) = ap₂ (λ b ys. cond b (x ∷ ys) ys) (h x) (filter-same p q h xs)

deadlines-loop : (boot : System) (h : List Entry) (i : ℕ) (e : Entry) → i < length h → e ≡ get_or h i e → deadlines boot (past_at h (i + 1)) ≡ changed boot (past_at h i) e (deadlines boot (past_at h i))
deadlines-loop boot h i e l r = ap (deadlines boot) (past_loop h i e l r) ∙ deadlines-more boot e (past_at h i)

-- the lists after entry i: an accepted SetState, a purge, or anything else
pub changed_set : (boot : System) (h : List Entry) (i : ℕ) (e : Entry) (s : ℕ × Wish) → i < length h → e ≡ get_or h i e → (if accepted e then set_by e.call else None) ≡ Some s → deadlines boot (past_at h (i + 1)) ≡ after_set boot (past_at h i) s.0 (state (past_at h i) s.0) s.1 (deadlines boot (past_at h i))
unfolding changed
changed_set boot h i e s l r a =
    let d = deadlines boot (past_at h i) in
    let before = past_at h i in
    deadlines-loop boot h i e l r
    ∙ ap (λ (set : Option (ℕ × Wish)). elim set [
      | Some s ↦ after_set boot before s.0 (state before s.0) s.1 d
      | None ↦ option_map_or (λ o. after_purge boot before e.call o d) (purged_by e.reply) (spec_unmappings boot before e d)
    ]) a

pub changed_purge : (boot : System) (h : List Entry) (i : ℕ) (e : Entry) (o : ℕ) → i < length h → e ≡ get_or h i e → (if accepted e then set_by e.call else None) ≡ None → purged_by e.reply ≡ Some o → deadlines boot (past_at h (i + 1)) ≡ after_purge boot (past_at h i) e.call o (deadlines boot (past_at h i))
unfolding changed
changed_purge boot h i e o l r a p =
    let d = deadlines boot (past_at h i) in
    let before = past_at h i in
    deadlines-loop boot h i e l r
    ∙ ap (λ (set : Option (ℕ × Wish)). elim set [
      | Some s ↦ after_set boot before s.0 (state before s.0) s.1 d
      | None ↦ option_map_or (λ o. after_purge boot before e.call o d) (purged_by e.reply) (spec_unmappings boot before e d)
    ]) a
    ∙ ap (λ purged. option_map_or (λ o. after_purge boot before e.call o d) purged (spec_unmappings boot before e d)) p

pub changed_unmaps : (boot : System) (h : List Entry) (i : ℕ) (e : Entry) → i < length h → e ≡ get_or h i e → (if accepted e then set_by e.call else None) ≡ None → purged_by e.reply ≡ None → deadlines boot (past_at h (i + 1)) ≡ after_to boot h i (length boot.objects) (deadlines boot (past_at h i))
unfolding changed after_to
changed_unmaps boot h i e l r a p =
    let d = deadlines boot (past_at h i) in
    let before = past_at h i in
    deadlines-loop boot h i e l r
    ∙ ap (λ (set : Option (ℕ × Wish)). elim set [
      | Some s ↦ after_set boot before s.0 (state before s.0) s.1 d
      | None ↦ option_map_or (λ o. after_purge boot before e.call o d) (purged_by e.reply) (spec_unmappings boot before e d)
    ]) a
    ∙ ap (λ purged. option_map_or (λ o. after_purge boot before e.call o d) purged (spec_unmappings boot before e d)) p
    ∙ ap (fold (λ d' o. without_first (standing before o).queue d') d)
    (filter-same (λ o. volatile boot before o && unmaps boot before e o) (leaves boot h i) (λ o. ap (λ b. volatile boot before o && b) (unmaps_at boot h i e o l r)) (objects_of boot))
