-- Dues that are deadlines less the pages that left, after the same is done to both.
use Rattle.std.proofs.Common.{◌≡◌, ℕ, ◌+◌, ◌-◌, ◌<◌, ◌≤◌, suc, List, [], ◌∷◌, ◌++◌, length, map, take, drop, true, false, leb, inl, inr, refl, ap, ap₂, sym, ◌∙◌, subst, arith}
use Rattle.std.proofs.lemmas.Bool.{cases_Bool}
use Rattle.std.proofs.lemmas.Bool.Decides.{nat_tests}
use Rattle.std.proofs.lemmas.List.{map-append, drop-map, length-map}
use Rattle.kern_ids.specs.declared.calls.Queue.{Queue}
use Rattle.kern_ids.specs.declared.calls.Queue.TheVariants.{Obsolete, Lifo, Fifo}
use Rattle.kern_ids.specs.declared.entries.Entry.{Entry}
use Rattle.kernel_model.specs.Lists.{but_last}
use Rattle.kernel_model.specs.Groups.{same_queue}
use Rattle.kernel_model.specs.Deadlines.{Deadlines, of_queue, with_queue, with_new, new_deadline, without_first, without_last, begins_ripe as deadline_ripe, ripe_of, put_deadline, first_into as deadline_into, after_ripe as deadlines_after_ripe}
use Rattle.kernel_model.specs.Pages.{entered}
use Rattle.token_list.specs.Dues.{lowered_by, begins_ripe, put_due}
use Rattle.ripen_advance.specs.Queues.{QueueDues, dues_in, with_dues, new_due, all_but_last, first_into, after_ripe}
use Rattle.purge_pick.specs.Picks.{ripe_queue}
use Rattle.purge_pick.specs.Follows.{Follows}

-- another list for one queue, on both sides
pub with-follows : (d : Deadlines) (e l : ℕ) (v : QueueDues) (q : Queue) (xs ds : List ℕ) → Follows d e l v → ds ≡ map (λ x. x - l) xs → Follows (with_queue d q xs) e l (with_dues v q ds)
with-follows d e l v Obsolete xs ds f is = record { dues = go; ahead = f.ahead }
  where
    go : (k : Queue) → dues_in (with_dues v Obsolete ds) k ≡ map (λ x. x - l) (of_queue (with_queue d Obsolete xs) k)
    go Obsolete = is
    go Lifo = f.dues Lifo
    go Fifo = f.dues Fifo
with-follows d e l v Lifo xs ds f is = record { dues = go; ahead = f.ahead }
  where
    go : (k : Queue) → dues_in (with_dues v Lifo ds) k ≡ map (λ x. x - l) (of_queue (with_queue d Lifo xs) k)
    go Obsolete = f.dues Obsolete
    go Lifo = is
    go Fifo = f.dues Fifo
with-follows d e l v Fifo xs ds f is = record { dues = go; ahead = f.ahead }
  where
    go : (k : Queue) → dues_in (with_dues v Fifo ds) k ≡ map (λ x. x - l) (of_queue (with_queue d Fifo xs) k)
    go Obsolete = f.dues Obsolete
    go Lifo = f.dues Lifo
    go Fifo = is

less-more : (l k : ℕ) (xs : List ℕ) → lowered_by k (map (λ x. x - l) xs) ≡ map (λ x. x - (l + k)) xs
less-more l k [] = refl
less-more l k (x ∷ xs) = ap₂ (λ y r. y ∷ r) (omega arith) (less-more l k xs)

pub departed-follows : (d : Deadlines) (e l k : ℕ) (v w : QueueDues) → Follows d e l v → ((q : Queue) → dues_in w q ≡ lowered_by k (dues_in v q)) → w.ahead ≡ v.ahead - k → Follows d e (l + k) w
departed-follows d e l k v w f lowered ahead = record {
  dues = λ q. lowered q ∙ ap (lowered_by k) (f.dues q) ∙ less-more l k (of_queue d q);
  ahead = omega (arith, f.ahead);
}

pub new_due-is : (before : List Entry) (d : Deadlines) (l : ℕ) (v : QueueDues) (q : Queue) → Follows d (entered before) l v → new_due v q ≡ new_deadline before q - l
new_due-is before d l v Obsolete f = omega arith
new_due-is before d l v Lifo f = f.ahead
new_due-is before d l v Fifo f = f.ahead

pub added-follows : (before : List Entry) (d : Deadlines) (l : ℕ) (v : QueueDues) (q : Queue) → Follows d (entered before) l v → Follows (with_new before q d) (entered before) l (with_dues v q (dues_in v q ++ new_due v q ∷ []))
added-follows before d l v q f =
    with-follows d (entered before) l v q (of_queue d q ++ new_deadline before q ∷ []) (dues_in v q ++ new_due v q ∷ []) f
    (ap₂ (λ ds x. ds ++ x ∷ []) (f.dues q) (new_due-is before d l v q f) ∙ sym (map-append (λ x. x - l) (of_queue d q) (new_deadline before q ∷ [])))

pub first-follows : (d : Deadlines) (e l : ℕ) (v : QueueDues) (q : Queue) → Follows d e l v → Follows (without_first q d) e l (with_dues v q (drop 1 (dues_in v q)))
first-follows d e l v q f =
    with-follows d e l v q (drop 1 (of_queue d q)) (drop 1 (dues_in v q)) f (ap (drop 1) (f.dues q) ∙ drop-map (λ x. x - l) 1 (of_queue d q))

map-but_last : (g : ℕ → ℕ) (xs : List ℕ) → take (length xs - 1) (map g xs) ≡ map g (but_last xs)
map-but_last g [] = refl
map-but_last g (x ∷ []) =
    let none : length (x ∷ []) - 1 ≡ 0 = omega arith in
    ap (λ n. take n (g x ∷ [])) none
map-but_last g (x ∷ y ∷ xs) =
    let size : length (x ∷ y ∷ xs) - 1 ≡ suc (length (y ∷ xs) - 1) = omega arith in
    ap (λ n. take n (map g (x ∷ y ∷ xs))) size ∙ ap (λ r. g x ∷ r) (map-but_last g (y ∷ xs))

pub last-follows : (d : Deadlines) (e l : ℕ) (v : QueueDues) (q : Queue) → Follows d e l v → Follows (without_last q d) e l (with_dues v q (all_but_last (dues_in v q)))
last-follows d e l v q f =
    with-follows d e l v q (but_last (of_queue d q)) (all_but_last (dues_in v q)) f
    (ap all_but_last (f.dues q) ∙ ap (λ n. take (n - 1) (map (λ x. x - l) (of_queue d q))) (length-map (of_queue d q) (λ x. x - l)) ∙ map-but_last (λ x. x - l) (of_queue d q))

ripe-same : (l : ℕ) (xs : List ℕ) → deadline_ripe l xs ≡ begins_ripe (map (λ x. x - l) xs)
ripe-same l [] = refl
ripe-same l (x ∷ xs) = grind (arith, nat_tests)

pub ripe-follows : (d : Deadlines) (e l : ℕ) (v : QueueDues) (q : Queue) → Follows d e l v → deadline_ripe l (of_queue d q) ≡ begins_ripe (dues_in v q)
ripe-follows d e l v q f = ripe-same l (of_queue d q) ∙ ap begins_ripe (sym (f.dues q))

pub queue-follows : (d : Deadlines) (e l : ℕ) (v : QueueDues) → Follows d e l v → ripe_of l d ≡ ripe_queue v
queue-follows d e l v f = rw (ripe-follows d e l v Obsolete f, ripe-follows d e l v Lifo f, ripe-follows d e l v Fifo f) refl

-- a deadline that isn't ripe goes to the place of its due
put-less : (l x : ℕ) (xs : List ℕ) → l < x → put_due (x - l) (map (λ y. y - l) xs) ≡ map (λ y. y - l) (put_deadline x xs)
put-less l x [] h = refl
put-less l x (y ∷ xs) h = elim (cases_Bool (leb y x)) as (λ _. put_due (x - l) ((y - l) ∷ map (λ k. k - l) xs) ≡ map (λ k. k - l) (put_deadline x (y ∷ xs))) [
  | inl below ↦
      let test : leb (y - l) (x - l) ≡ true = grind (arith, nat_tests) in
      rw (below, test) (ap (λ r. (y - l) ∷ r) (put-less l x xs h))
  | inr above ↦
      let test : leb (y - l) (x - l) ≡ false = grind (arith, nat_tests) in
      rw (above, test) refl
]

into-less : (l : ℕ) (xs ys : List ℕ) → deadline_ripe l xs ≡ false → first_into (map (λ y. y - l) xs) (map (λ y. y - l) ys) ≡ map (λ y. y - l) (deadline_into xs ys)
into-less l [] ys h = refl
into-less l (x ∷ xs) ys h = put-less l x ys (grind (arith, nat_tests))

-- the first of queue q moves to its place in queue t, whose own first goes
moved-follows : (d : Deadlines) (e l : ℕ) (v : QueueDues) (t q : Queue) → Follows d e l v → deadline_ripe l (of_queue d q) ≡ false
    → Follows (with_queue (without_first q d) t (deadline_into (of_queue d q) (drop 1 (of_queue d t)))) e l (with_dues (with_dues v q (drop 1 (dues_in v q))) t (first_into (dues_in v q) (drop 1 (dues_in v t))))
moved-follows d e l v t q f unripe =
    with-follows (without_first q d) e l (with_dues v q (drop 1 (dues_in v q))) t (deadline_into (of_queue d q) (drop 1 (of_queue d t))) (first_into (dues_in v q) (drop 1 (dues_in v t)))
    (first-follows d e l v q f)
    (ap₂ first_into (f.dues q) (ap (drop 1) (f.dues t) ∙ drop-map (λ x. x - l) 1 (of_queue d t)) ∙ into-less l (of_queue d q) (drop 1 (of_queue d t)) unripe)

same-queue : (q t : Queue) → same_queue q t ≡ true → q ≡ t
same-queue Obsolete Obsolete h = refl
same-queue Lifo Lifo h = refl
same-queue Fifo Fifo h = refl
same-queue Obsolete Lifo h = absurd (cc)
same-queue Obsolete Fifo h = absurd (cc)
same-queue Lifo Obsolete h = absurd (cc)
same-queue Lifo Fifo h = absurd (cc)
same-queue Fifo Obsolete h = absurd (cc)
same-queue Fifo Lifo h = absurd (cc)

pub purged-follows : (d : Deadlines) (e l : ℕ) (v : QueueDues) (t q : Queue) → Follows d e l v → begins_ripe (dues_in v t) ≡ true
    → Follows (deadlines_after_ripe l t q d) e l (after_ripe t q v)
purged-follows d e l v t q f ripe =
    let seen = ripe-follows d e l v q f in
    elim (cases_Bool (same_queue q t)) as (λ _. Follows (deadlines_after_ripe l t q d) e l (after_ripe t q v)) [
      | inl same ↦
          let is = same-queue q t same in
          let own : begins_ripe (dues_in v q) ≡ true = ap (λ k. begins_ripe (dues_in v k)) is ∙ ripe in
          rw (same, own) (subst (λ k. Follows (without_first k d) e l (with_dues v q (drop 1 (dues_in v q)))) is (first-follows d e l v q f))
      | inr other ↦ elim (cases_Bool (begins_ripe (dues_in v q))) as (λ _. Follows (deadlines_after_ripe l t q d) e l (after_ripe t q v)) [
        | inl own ↦ rw (other, seen, own) (first-follows d e l v q f)
        | inr unripe ↦ rw (other, seen, unripe) (moved-follows d e l v t q f (seen ∙ unripe))
      ]
    ]

pub start-follows : Follows (record { obsolete = []; lifo = []; fifo = [] }) 0 0 (record { obsolete = []; lifo = []; fifo = []; ahead = 0 })
start-follows = record { dues = go; ahead = refl }
  where
    go : (q : Queue) → dues_in (record { obsolete = []; lifo = []; fifo = []; ahead = 0 }) q ≡ map (λ x. x - 0) (of_queue (record { obsolete = []; lifo = []; fifo = [] }) q)
    go Obsolete = refl
    go Lifo = refl
    go Fifo = refl

pub entered-follows : (d : Deadlines) (e l k : ℕ) (v : QueueDues) → l ≤ e → Follows d e l v → Follows d (e + k) l (record v { ahead = v.ahead + k })
entered-follows d e l k v le f = record { dues = go; ahead = omega (arith, f.ahead) }
  where
    go : (q : Queue) → dues_in (record v { ahead = v.ahead + k }) q ≡ map (λ x. x - l) (of_queue d q)
    go Obsolete = f.dues Obsolete
    go Lifo = f.dues Lifo
    go Fifo = f.dues Fifo
