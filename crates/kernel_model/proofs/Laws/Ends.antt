-- What an Exit or a kill makes of the mapping, of the pages and of the counts, where it unmaps several objects at once.
use Rattle.std.proofs.Common.{◌≡◌, ℕ, ◌+◌, ◌-◌, List, [], ◌∷◌, Option, Some, None, refl, sym, ap, ◌∙◌, Bool, true, false, not, ◌&&◌, ◌||◌, find, filter, nat_eq, if◌then◌else◌, inl, inr, arith}
use Rattle.std.specs.Prelude.{sum_by}
use Rattle.std.specs.List.{range_with_len}
use Rattle.std.specs.Option.{option_map_or}
use Rattle.std.proofs.lemmas.Bool.{cases_Bool, false≢true, true≢false}
use Rattle.std.proofs.lemmas.Bool.Decides.{eqb_tells}
use Rattle.std.proofs.lemmas.List.Sums.{sum_by-cons}
use Rattle.kern_ids.specs.declared.entries.Entry.{Entry}
use Rattle.kern_ids.specs.declared.ids.PageId.{PageId}
use Rattle.kern_ids.specs.declared.calls.Call.{Call}
use Rattle.kern_ids.specs.declared.calls.Call.TheVariants.{Exit, Jetsam}
use Rattle.kern_ids.specs.declared.calls.State.{State}
use Rattle.kern_ids.specs.declared.replies.Reply.{Reply}
use Rattle.kern_ids.specs.declared.replies.Reply.TheVariants.{Exited, Killed}
use Rattle.kernel_model.specs.declared.place.Place.{Place}
use Rattle.kernel_model.specs.declared.place.Place.TheVariants.{Absent}
use Rattle.kernel_model.specs.declared.place.Placed.{Placed}
use Rattle.kernel_model.specs.System.{System}
use Rattle.kernel_model.specs.Events.{is_end}
use Rattle.kernel_model.specs.Mapping.{live, maps, owner, mapped, unmaps, tasks_of}
use Rattle.kernel_model.specs.State.{state}
use Rattle.kernel_model.specs.Groups.{objects_of, is_volatile_state}
use Rattle.kernel_model.specs.Pages.{place, placed, pages_of, pages_in, is_stored, is_active, is_inactive, free}
use Rattle.kernel_model.specs.Counted.{counts, count_of, is_nonvolatile_state}
use Rattle.kernel_model.specs.Histories.{IsLegal}
use Rattle.kernel_model.specs.Laws.Frames.{pages_at, share_of, is_in}
use Rattle.kernel_model.specs.Laws.Kinds.{runs_for}
use Rattle.kernel_model.specs.Laws.Next.{Step, after, unmapped_in}
use Rattle.kernel_model.specs.Laws.Ends.{is_ending_reply, IsEnding, still_maps, heir, pages_where, pages_among, unmapped_pages, owns, inherits, inherited_pages, counts_inheriting, no_counts, shares_among, LosesPages}
use Rattle.kernel_model.proofs.Laws.Agree.{find-agree, count_by-agree}
use Rattle.kernel_model.proofs.Laws.Bounds.{frames-hold, resident-parts}
use Rattle.kernel_model.proofs.Laws.Counting.{count_by-none}
use Rattle.kernel_model.proofs.Laws.Frames.{pages-by_objects, count_of-by_objects}
use Rattle.kernel_model.proofs.Laws.Kept.{placed-kept}
use Rattle.kernel_model.proofs.Laws.Kinds.{maps-exit, maps-killed, placed-unmapped}
use Rattle.kernel_model.proofs.Laws.Mapping.{owner-is, mapped-is}
use Rattle.kernel_model.proofs.Laws.Next.{unmaps-after}
use Rattle.kernel_model.proofs.Laws.Order.{find-has, any-has}
use Rattle.kernel_model.proofs.Laws.Pages.{free-is}
use Rattle.kernel_model.proofs.Laws.State.{state-kept}
use Rattle.kernel_model.proofs.Laws.Tokens.{at_call}

-- a sum after what changed at elements with a test alone
where_step : (b : Bool) (x y m n c d : ℕ) → (b ≡ false → x ≡ y) → m + d ≡ n + c → (x + m) + (if b then y + d else d) ≡ (y + n) + (if b then x + c else c)
where_step true x y m n c d h r = omega arith
where_step false x y m n c d h r = let e = h refl in omega arith

sum_filter : (f : ℕ → ℕ) (test : ℕ → Bool) (x : ℕ) (xs : List ℕ) → sum_by f (filter test (x ∷ xs)) ≡ (if test x then f x + sum_by f (filter test xs) else sum_by f (filter test xs))
sum_filter f test x xs = elim (cases_Bool (test x)) [
  | inl holds ↦ rw holds (sum_by-cons f x (filter test xs))
  | inr fails ↦ rw fails refl
]

pub sum_by-where : (test : ℕ → Bool) (f g : ℕ → ℕ) → ((x : ℕ) → test x ≡ false → f x ≡ g x) → (xs : List ℕ) → sum_by f xs + sum_by g (filter test xs) ≡ sum_by g xs + sum_by f (filter test xs)
sum_by-where test f g apart [] = refl
sum_by-where test f g apart (x ∷ xs) =
    rw (sum_by-cons f x xs, sum_by-cons g x xs, sum_filter f test x xs, sum_filter g test x xs)
    (where_step (test x) (f x) (g x) (sum_by f xs) (sum_by g xs) (sum_by f (filter test xs)) (sum_by g (filter test xs)) (apart x) (sum_by-where test f g apart xs))

-- a sum each of whose terms grows where a test holds
grown_step : (b : Bool) (y n m c : ℕ) → (y + (if b then n else 0)) + (m + c) ≡ (y + m) + (if b then n + c else c)
grown_step true y n m c = omega arith
grown_step false y n m c = omega arith

pub sum_by-grown : (test : ℕ → Bool) (f g n : ℕ → ℕ) → ((x : ℕ) → f x ≡ g x + (if test x then n x else 0)) → (xs : List ℕ) → sum_by f xs ≡ sum_by g xs + sum_by n (filter test xs)
sum_by-grown test f g n grows [] = refl
sum_by-grown test f g n grows (x ∷ xs) =
    rw (sum_by-cons f x xs, sum_by-cons g x xs, sum_filter n test x xs, grows x, sum_by-grown test f g n grows xs)
    (grown_step (test x) (g x) (n x) (sum_by g xs) (sum_by n (filter test xs)))

-- the pages after an entry that changes places of the objects with a test at most, and what those add to a task's pages
pub pages-objects : (s : Step) (test : ℕ → Bool) (k : Place → Bool) → ((p : PageId) → test p.obj ≡ false → placed s.boot (after s) p ≡ placed s.boot s.before p) → pages_where s.boot (after s) k + pages_among s.boot s.before test k ≡ pages_where s.boot s.before k + pages_among s.boot (after s) test k
pages-objects s test k apart =
    let n = pages-by_objects s.boot (λ p. k (place s.boot (after s) p)) in
    let w = pages-by_objects s.boot (λ p. k (place s.boot s.before p)) in
    let off = λ (x : ℕ) (h : test x ≡ false). count_by-agree (λ n. k (place s.boot (after s) (record { obj = x; page = n }))) (λ n. k (place s.boot s.before (record { obj = x; page = n }))) (λ n. ap (λ y. k y.place) (apart (record { obj = x; page = n }) h)) (range_with_len 0 (pages_in s.boot x)) in
    rw (n, w) (sum_by-where test (pages_at s.boot (after s) k) (pages_at s.boot s.before k) off (objects_of s.boot))

pub counts-objects : (s : Step) (test : ℕ → Bool) (t : ℕ) (k : Place → Bool) (what : State → Bool) → ((o : ℕ) → test o ≡ false → share_of s.boot (after s) t k what o ≡ share_of s.boot s.before t k what o) → count_of s.boot (after s) t (λ p. k (place s.boot (after s) p)) what + shares_among s.boot s.before test t k what ≡ count_of s.boot s.before t (λ p. k (place s.boot s.before p)) what + shares_among s.boot (after s) test t k what
counts-objects s test t k what apart =
    rw (count_of-by_objects s.boot (after s) t k what, count_of-by_objects s.boot s.before t k what)
    (sum_by-where test (share_of s.boot (after s) t k what) (share_of s.boot s.before t k what) apart (objects_of s.boot))

or_false : (b : Bool) → (b || false) ≡ b
or_false true = refl
or_false false = refl

-- what an ending says
ending_maps : (boot : System) (before : List Entry) (who : ℕ) (call : Call) (reply : Reply) (o t : ℕ) → is_ending_reply call reply ≡ true → maps boot (at_call who call reply ∷ before) o t ≡ (not (is_end boot t (at_call who call reply)) && maps boot before o t)
ending_maps boot before who Exit Exited o t h = maps-exit boot who before o t ∙ ap (λ b. not b && maps boot before o t) (sym (or_false (runs_for boot t who)))
ending_maps boot before who Jetsam (Killed u cause) o t h = maps-killed boot who u cause before o t
ending_maps boot before who call reply o t h = absurd (false≢true h)

ending_placed : (boot : System) (before : List Entry) (who : ℕ) (call : Call) (reply : Reply) (p : PageId) → is_ending_reply call reply ≡ true → unmaps boot before (at_call who call reply) p.obj ≡ false → placed boot (at_call who call reply ∷ before) p ≡ placed boot before p
ending_placed boot before who Exit Exited p h n = placed-kept boot (at_call who Exit Exited) before p (rw n refl)
ending_placed boot before who Jetsam (Killed u cause) p h n = placed-kept boot (at_call who Jetsam (Killed u cause)) before p (rw n refl)
ending_placed boot before who call reply p h n = absurd (false≢true h)

ending_state : (before : List Entry) (who : ℕ) (call : Call) (reply : Reply) (o : ℕ) → is_ending_reply call reply ≡ true → state (at_call who call reply ∷ before) o ≡ state before o
ending_state before who Exit Exited o h = state-kept (at_call who Exit Exited) before o refl refl refl
ending_state before who Jetsam (Killed u cause) o h = state-kept (at_call who Jetsam (Killed u cause)) before o refl refl refl
ending_state before who call reply o h = absurd (false≢true h)

and_false : (b : Bool) → (b && false) ≡ false
and_false true = refl
and_false false = refl

some_is : {a b : ℕ} → Some a ≡ Some b → a ≡ b
some_is e = cc

-- what is found, with a further test that it passes
find-still : (p q : ℕ → Bool) (xs : List ℕ) (t : ℕ) → q t ≡ true → find p xs ≡ Some t → find (λ x. q x && p x) xs ≡ Some t
find-still p q [] t h f = f
find-still p q (x ∷ xs) t h f = elim (cases_Bool (p x)) [
  | inl holds ↦
      let here : x ≡ t = some_is (rw holds at f) in
      let passes : q x ≡ true = ap q here ∙ h in
      rw (holds, passes) (ap Some here)
  | inr fails ↦ rw (fails, and_false (q x)) (find-still p q xs t h (rw fails at f))
]

owned_by : (t : ℕ) (w : Option ℕ) → option_map_or (nat_eq t) w false ≡ true → w ≡ Some t
owned_by t (Some u) h = elim (eqb_tells t u) [ inl same ↦ ap Some (sym same.1) | inr other ↦ absurd (false≢true (sym other.0 ∙ h)) ]
owned_by t None h = absurd (false≢true h)

owned_self : (t : ℕ) (w : Option ℕ) → w ≡ Some t → option_map_or (nat_eq t) w false ≡ true
owned_self t w e = rw e (elim (eqb_tells t t) [ inl same ↦ same.0 | inr other ↦ absurd (other.1 refl) ])

-- a task that isn't live owns nothing
and_left : (a b : Bool) → (a && b) ≡ true → a ≡ true
and_left true b h = refl
and_left false b h = h

maps_live : (boot : System) (past : List Entry) (o t : ℕ) → maps boot past o t ≡ true → live boot past t ≡ true
unfolding maps
maps_live boot past o t m = and_left (live boot past t) _ m

owner_maps : (boot : System) (past : List Entry) (o t : ℕ) → owner boot past o ≡ Some t → maps boot past o t ≡ true
owner_maps boot past o t h = (find-has (maps boot past o) (tasks_of boot) t (sym (owner-is boot past o) ∙ h)).1

owner_mapped : (boot : System) (past : List Entry) (o t : ℕ) → owner boot past o ≡ Some t → mapped boot past o ≡ true
owner_mapped boot past o t h =
    let f = find-has (maps boot past o) (tasks_of boot) t (sym (owner-is boot past o) ∙ h) in
    mapped-is boot past o ∙ any-has (maps boot past o) (tasks_of boot) t f.0 f.1

dead_owns : (boot : System) (past : List Entry) (t o : ℕ) → live boot past t ≡ false → owns boot past t o ≡ false
dead_owns boot past t o h = elim (cases_Bool (owns boot past t o)) [
  | inl mine ↦ absurd (true≢false (sym (maps_live boot past o t (owner_maps boot past o t (owned_by t (owner boot past o) mine))) ∙ h))
  | inr none ↦ none
]

pub count_of-dead : (boot : System) (past : List Entry) (t : ℕ) (k : Place → Bool) (what : State → Bool) → live boot past t ≡ false → count_of boot past t (λ p. k (place boot past p)) what ≡ 0
count_of-dead boot past t k what h = count_by-none (λ p. owns boot past t p.obj && k (place boot past p) && what (state past p.obj)) (λ p. rw (dead_owns boot past t p.obj h) refl) (pages_of boot)

pub counts-dead : (boot : System) (past : List Entry) (t : ℕ) → live boot past t ≡ false → counts boot past t ≡ no_counts
unfolding counts
counts-dead boot past t h =
    rw (count_of-dead boot past t is_in is_nonvolatile_state h, count_of-dead boot past t is_in is_volatile_state h, count_of-dead boot past t is_stored is_nonvolatile_state h, count_of-dead boot past t is_stored is_volatile_state h) refl

-- a share, by who owned the object before and owns it now
share_step : (mine now what : Bool) (n m : ℕ) → (mine ≡ true → now ≡ true) → (now ≡ true → m ≡ n) → (if now && what then m else 0) ≡ (if mine && what then n else 0) + (if (not mine && now) && what then n else 0)
share_step true true true n m h k = let e = k refl in omega arith
share_step true true false n m h k = refl
share_step true false what n m h k = absurd (false≢true (h refl))
share_step false true true n m h k = let e = k refl in omega arith
share_step false true false n m h k = refl
share_step false false what n m h k = refl

module _ (s : Step) (ends : IsEnding s) where
  pub ending-maps : (o t : ℕ) → maps s.boot (after s) o t ≡ still_maps s o t
  ending-maps o t = ending_maps s.boot s.before s.entry.who s.entry.call s.entry.reply o t ends

  pub ending-owner : (o : ℕ) → owner s.boot (after s) o ≡ heir s o
  ending-owner o = owner-is s.boot (after s) o ∙ find-agree (maps s.boot (after s) o) (still_maps s o) (ending-maps o) (tasks_of s.boot)

  pub ending-state : (o : ℕ) → state (after s) o ≡ state s.before o
  ending-state o = ending_state s.before s.entry.who s.entry.call s.entry.reply o ends

  pub ending-stays : (p : PageId) → unmapped_in s p.obj ≡ false → placed s.boot (after s) p ≡ placed s.boot s.before p
  ending-stays p n = ending_placed s.boot s.before s.entry.who s.entry.call s.entry.reply p ends (unmaps-after s p.obj ∙ n)

  pub ending-gone : (p : PageId) → unmapped_in s p.obj ≡ true → place s.boot (after s) p ≡ Absent
  ending-gone p u = ap (λ (x : Placed). x.place) (placed-unmapped s.boot s.entry s.before p (unmaps-after s p.obj ∙ u))

  -- the pages of what it unmaps are gone
  none_among : (k : Place → Bool) → k Absent ≡ false → (os : List ℕ) → sum_by (pages_at s.boot (after s) k) (filter (unmapped_in s) os) ≡ 0
  none_among k a [] = refl
  none_among k a (o ∷ os) = sum_filter (pages_at s.boot (after s) k) (unmapped_in s) o os ∙ elim (cases_Bool (unmapped_in s o)) [
    | inl gone ↦ rw (gone, none_among k a os) (ap (λ (n : ℕ). n + 0) (count_by-none (λ n. k (place s.boot (after s) (record { obj = o; page = n }))) (λ n. ap k (ending-gone (record { obj = o; page = n }) gone) ∙ a) (range_with_len 0 (pages_in s.boot o))))
    | inr stays ↦ rw stays (none_among k a os)
  ]

  pub ending-pages : (k : Place → Bool) → k Absent ≡ false → pages_where s.boot (after s) k + unmapped_pages s k ≡ pages_where s.boot s.before k
  ending-pages k a =
      let p = pages-objects s (unmapped_in s) k ending-stays in
      let n = none_among k a (objects_of s.boot) in
      omega arith

  pub ending-loses : LosesPages s
  ending-loses = record { active = ending-pages is_active refl; inactive = ending-pages is_inactive refl; stored = ending-pages is_stored refl }

  pub ending-free : IsLegal s.boot s.before → free s.boot (after s) ≡ free s.boot s.before + unmapped_pages s is_in
  ending-free l =
      let p : pages_where s.boot (after s) is_in + unmapped_pages s is_in ≡ pages_where s.boot s.before is_in = ending-pages is_in refl in
      let a = resident-parts s.boot (after s) in
      let b = resident-parts s.boot s.before in
      let f = frames-hold s.boot s.before l in
      let m = free-is s.boot (after s) in
      let n = free-is s.boot s.before in
      omega arith

  -- a task that goes on owns what it owned, and what it inherits
  owns_on : (t o : ℕ) → is_end s.boot t s.entry ≡ false → owns s.boot s.before t o ≡ true → owns s.boot (after s) t o ≡ true
  owns_on t o n h =
      let w : find (maps s.boot s.before o) (tasks_of s.boot) ≡ Some t = sym (owner-is s.boot s.before o) ∙ owned_by t (owner s.boot s.before o) h in
      owned_self t (owner s.boot (after s) o) (ending-owner o ∙ find-still (maps s.boot s.before o) (λ u. not (is_end s.boot u s.entry)) (tasks_of s.boot) t (ap not n) w)

  pages_on : (k : Place → Bool) (t o : ℕ) → owns s.boot (after s) t o ≡ true → pages_at s.boot (after s) k o ≡ pages_at s.boot s.before k o
  unfolding unmaps
  pages_on k t o h =
      let m : mapped s.boot (after s) o ≡ true = owner_mapped s.boot (after s) o t (owned_by t (owner s.boot (after s) o) h) in
      let u : unmapped_in s o ≡ false = sym (unmaps-after s o) ∙ ap (λ b. mapped s.boot s.before o && not b) m ∙ and_false (mapped s.boot s.before o) in
      count_by-agree (λ n. k (place s.boot (after s) (record { obj = o; page = n }))) (λ n. k (place s.boot s.before (record { obj = o; page = n }))) (λ n. ap (λ (x : Placed). k x.place) (ending-stays (record { obj = o; page = n }) u)) (range_with_len 0 (pages_in s.boot o))

  share_grows : (t : ℕ) (k : Place → Bool) (what : State → Bool) (o : ℕ) → is_end s.boot t s.entry ≡ false → share_of s.boot (after s) t k what o ≡ share_of s.boot s.before t k what o + (if inherits s t what o then pages_at s.boot s.before k o else 0)
  share_grows t k what o n =
      let w : owns s.boot (after s) t o ≡ option_map_or (nat_eq t) (heir s o) false = ap (λ x. option_map_or (nat_eq t) x false) (ending-owner o) in
      ap (λ x. if owns s.boot (after s) t o && what x then pages_at s.boot (after s) k o else 0) (ending-state o)
      ∙ share_step (owns s.boot s.before t o) (owns s.boot (after s) t o) (what (state s.before o)) (pages_at s.boot s.before k o) (pages_at s.boot (after s) k o) (owns_on t o n) (pages_on k t o)
      ∙ ap (λ b. share_of s.boot s.before t k what o + (if (not (owns s.boot s.before t o) && b) && what (state s.before o) then pages_at s.boot s.before k o else 0)) w

  pub ending-count : (t : ℕ) (k : Place → Bool) (what : State → Bool) → is_end s.boot t s.entry ≡ false → count_of s.boot (after s) t (λ p. k (place s.boot (after s) p)) what ≡ count_of s.boot s.before t (λ p. k (place s.boot s.before p)) what + inherited_pages s t k what
  ending-count t k what n =
      count_of-by_objects s.boot (after s) t k what
      ∙ sum_by-grown (inherits s t what) (share_of s.boot (after s) t k what) (share_of s.boot s.before t k what) (pages_at s.boot s.before k) (λ o. share_grows t k what o n) (objects_of s.boot)
      ∙ ap (λ (m : ℕ). m + inherited_pages s t k what) (sym (count_of-by_objects s.boot s.before t k what))

  pub ending-counts : (t : ℕ) → is_end s.boot t s.entry ≡ false → counts s.boot (after s) t ≡ counts_inheriting s t
  unfolding counts
  ending-counts t n =
      rw (ending-count t is_in is_nonvolatile_state n, ending-count t is_in is_volatile_state n, ending-count t is_stored is_nonvolatile_state n, ending-count t is_stored is_volatile_state n) refl
