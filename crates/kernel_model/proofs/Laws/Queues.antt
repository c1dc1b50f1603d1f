-- The ordered lists of pages, of volatile objects and of tasks, and what an entry makes of them.
use Rattle.std.proofs.Common.{◌≡◌, ℕ, zero, suc, ◌+◌, ◌<◌, ◌≤◌, List, [], ◌∷◌, ◌++◌, length, Option, Some, None, refl, sym, ap, ap₂, ◌∙◌, subst, Bool, true, false, not, ◌&&◌, ◌||◌, filter, nat_eq, nat_lt, if◌then◌else◌, inl, inr, ◌⊎◌, arith, zero-le}
use Rattle.std.specs.Prelude.{slice_get, option_map, option_and_then, is_some}
use Rattle.std.specs.Option.{unwrap_or}
use Rattle.std.specs.List.{range_with_len}
use Rattle.std.proofs.lemmas.Bool.{false≢true, true≢false}
use Rattle.std.proofs.lemmas.Bool.Decides.{eqb_tells, nat_tests}
use Rattle.kern_ids.specs.declared.entries.Entry.{Entry}
use Rattle.kern_ids.specs.declared.ids.PageId.{PageId}
use Rattle.kern_ids.specs.declared.calls.Queue.{Queue}
use Rattle.kern_ids.specs.declared.calls.Wish.{Wish}
use Rattle.kern_ids.specs.declared.calls.State.{State}
use Rattle.kernel_model.specs.declared.place.Place.{Place}
use Rattle.kernel_model.specs.declared.place.Place.TheVariants.{Absent}
use Rattle.kernel_model.specs.declared.place.Standing.{Standing}
use Rattle.kernel_model.specs.System.{System}
use Rattle.kernel_model.specs.Lists.{pair_lt}
use Rattle.kernel_model.specs.Mapping.{live, tasks_of, mapped}
use Rattle.kernel_model.specs.Newest.{newest}
use Rattle.kernel_model.specs.Events.{is_map, is_purge, asked}
use Rattle.kernel_model.specs.State.{state, state_asked}
use Rattle.kern_ids.specs.declared.calls.Wish.TheVariants.{Nonvolatile as ask_nonvolatile, Volatile as ask_volatile, Empty as ask_empty}
use Rattle.kern_ids.specs.declared.calls.State.TheVariants.{Nonvolatile, Empty}
use Rattle.kernel_model.proofs.Laws.Frames.{same_page-is}
use Rattle.kernel_model.specs.Pages.{place, placed, stamp, pages_of, same_page, is_out, is_active, is_inactive}
use Rattle.kernel_model.specs.Groups.{standing, stands_in, objects_of, is_lifo, first, standing_asked, is_volatile_state, volatile, same_queue}
use Rattle.kernel_model.specs.Bands.{band, bstamp, placing, Placing, sets_band, changes, wish, aged_place}
use Rattle.kernel_model.specs.Scan.{stamp_lt, first_active, first_inactive}
use Rattle.kernel_model.specs.Laws.Order.{Has, Rising, Distinct}
use Rattle.kernel_model.specs.Laws.Queues.{KeepsPages, KeepsGroup, KeepsBand, nearer, bstamp_lt}
use Rattle.kernel_model.proofs.Laws.Order.{least-keeps, keeps-append, keeps-filter, keeps-drop, keeps-renew, keeps-renew_front, rising-agree}
use Rattle.kernel_model.proofs.Literal.{placed-number}

cases_bool : (b : Bool) → (b ≡ true) ⊎ (b ≡ false)
cases_bool true = inl refl
cases_bool false = inr refl

-- pairs are in one order
pub pair_lt-asym : (a b : ℕ × ℕ) → pair_lt a b ≡ true → pair_lt b a ≡ false
pair_lt-asym a b h = grind (arith, nat_tests)

pair_lt-itself : (a : ℕ × ℕ) → pair_lt a a ≡ false
pair_lt-itself a = grind (arith, nat_tests)

pub pair_lt-trans : (a b c : ℕ × ℕ) → pair_lt a b ≡ true → pair_lt b c ≡ true → pair_lt a c ≡ true
pair_lt-trans a b c h k = grind (arith, nat_tests)

pub pair_lt-newer : (a b : ℕ × ℕ) → a.0 < b.0 → pair_lt a b ≡ true
pair_lt-newer a b h = grind (arith, nat_tests)

pair_lt-same : (m n a b : ℕ) → m ≡ n → pair_lt (m, a) (n, b) ≡ nat_lt a b
pair_lt-same m n a b e = rw e (let t : nat_lt n n ≡ false = grind (arith, nat_tests) in let u : nat_eq n n ≡ true = grind (arith, nat_tests) in rw (t, u) refl)

nat_lt-asym : (a b : ℕ) → nat_lt a b ≡ true → nat_lt b a ≡ false
nat_lt-asym a b h = grind (arith, nat_tests)

asym_if : (l : Bool) (a b : ℕ) → (if l then nat_lt b a else nat_lt a b) ≡ true → (if l then nat_lt a b else nat_lt b a) ≡ false
asym_if true a b h = nat_lt-asym b a h
asym_if false a b h = nat_lt-asym a b h

pub nearer-asym : (past : List Entry) (q : Queue) (a b : ℕ) → nearer past q a b ≡ true → nearer past q b a ≡ false
nearer-asym past q a b h = asym_if (is_lifo q) (standing past a).vstamp (standing past b).vstamp h

-- the numbers of a range, and the pages
pub range-has : (a n k : ℕ) → a ≤ k → k < a + n → Has (range_with_len a n) k
range-has a zero k l m = absurd (omega arith)
range-has a (suc n) k l m = elim (eqb_tells a k) [ inl same ↦ inl same.1 | inr other ↦ inr (let far = other.1 in range-has (a + 1) n k (omega arith) (omega arith)) ]

pub has-range : (a n k : ℕ) → Has (range_with_len a n) k → (a ≤ k) × (k < a + n)
has-range a zero k h = absurd h
has-range a (suc n) k (inl e) = (omega arith, omega arith)
has-range a (suc n) k (inr h) = let q = has-range (a + 1) n k h in (omega arith, omega arith)

pub distinct-range : (a n : ℕ) → Distinct (range_with_len a n)
distinct-range a zero = tt
distinct-range a (suc n) = ((λ h. let q = has-range (a + 1) n a h in absurd (omega arith)), distinct-range (a + 1) n)

-- the first page of a queue is the one of least stamp
pub first_active-is : (boot : System) (past : List Entry) (ps : List PageId) → KeepsPages boot past is_active ps → first_active boot past ≡ slice_get ps 0
unfolding first_active stamp_lt
first_active-is boot past ps k = least-keeps (pages_of boot) (λ p. is_active (place boot past p)) (stamp_lt boot past) ps (λ x y. pair_lt-asym (stamp boot past x) (stamp boot past y)) k

pub first_inactive-is : (boot : System) (past : List Entry) (ps : List PageId) → KeepsPages boot past is_inactive ps → first_inactive boot past ≡ slice_get ps 0
unfolding first_inactive stamp_lt
first_inactive-is boot past ps k = least-keeps (pages_of boot) (λ p. is_inactive (place boot past p)) (stamp_lt boot past) ps (λ x y. pair_lt-asym (stamp boot past x) (stamp boot past y)) k

-- the first of a group is the head of its list
pub first-is : (boot : System) (past : List Entry) (q : Queue) (g : ℕ) (os : List ℕ) → KeepsGroup boot past q g os → first boot past q g ≡ slice_get os 0
unfolding first
first-is boot past q g os k = least-keeps (objects_of boot) (stands_in boot past q g) (nearer past q) os (nearer-asym past q) k

-- pages that an entry puts into a place stand behind those that stay there
pub pages-append : (boot : System) (e : Entry) (before : List Entry) (k : Place → Bool) (ps new : List PageId) → ((x : Place) → k x ≡ true → is_out x ≡ false) → ((p : PageId) → k (place boot before p) ≡ true → placed boot (e ∷ before) p ≡ placed boot before p) → ((p : PageId) → Has (pages_of boot) p → k (place boot (e ∷ before) p) ≡ true → (k (place boot before p) ≡ true) ⊎ Has new p) → ((p : PageId) → Has new p → Has (pages_of boot) p × (k (place boot (e ∷ before) p) ≡ true) × ((placed boot (e ∷ before) p).number ≡ length before)) → Rising (λ p q. nat_lt p.page q.page) new → KeepsPages boot before k ps → KeepsPages boot (e ∷ before) k (ps ++ new)
unfolding stamp_lt
pages-append boot e before k ps new held stay come are order h =
    let in_order : Rising (stamp_lt boot (e ∷ before)) new = rising-agree (λ p q. nat_lt p.page q.page) (stamp_lt boot (e ∷ before)) new (λ p q mp mq. pair_lt-same (placed boot (e ∷ before) p).number (placed boot (e ∷ before) q).number p.page q.page ((are p mp).2 ∙ sym (are q mq).2)) order in
    keeps-append (pages_of boot) (λ p. k (place boot before p)) (λ p. k (place boot (e ∷ before) p)) (stamp_lt boot before) (stamp_lt boot (e ∷ before)) ps new
    (λ p t. ap (λ x. k x.place) (stay p t) ∙ t)
    come
    (λ p m. let a = are p m in (a.0, a.1))
    (λ p q tp tq. ap₂ (λ x y. pair_lt (x.number, p.page) (y.number, q.page)) (stay p tp) (stay q tq))
    (λ p q tp m. pair_lt-newer (stamp boot (e ∷ before) p) (stamp boot (e ∷ before) q) (rw (stay p tp, (are q m).2) (placed-number boot before p (held (place boot before p) tp))))
    in_order h

-- pages that an entry takes out of a place leave the order of the rest
pub pages-filter : (boot : System) (e : Entry) (before : List Entry) (k : Place → Bool) (stays : PageId → Bool) (ps : List PageId) → ((p : PageId) → k (place boot (e ∷ before) p) ≡ (stays p && k (place boot before p))) → ((p : PageId) → k (place boot (e ∷ before) p) ≡ true → placed boot (e ∷ before) p ≡ placed boot before p) → KeepsPages boot before k ps → KeepsPages boot (e ∷ before) k (filter stays ps)
unfolding stamp_lt
pages-filter boot e before k stays ps some same h =
    keeps-filter (pages_of boot) (λ p. k (place boot before p)) (λ p. k (place boot (e ∷ before) p)) (stamp_lt boot before) (stamp_lt boot (e ∷ before)) stays ps some
    (λ p q tp tq. ap₂ (λ x y. pair_lt (x.number, p.page) (y.number, q.page)) (same p tp) (same q tq)) h

-- where the entry takes out the first alone
pub pages-drop : (boot : System) (e : Entry) (before : List Entry) (k : Place → Bool) (p : PageId) (ps : List PageId) → k (place boot (e ∷ before) p) ≡ false → ((q : PageId) → same_page p q ≡ false → placed boot (e ∷ before) q ≡ placed boot before q) → KeepsPages boot before k (p ∷ ps) → KeepsPages boot (e ∷ before) k ps
unfolding stamp_lt
pages-drop boot e before k p ps gone same h =
    let kept : (q : PageId) → k (place boot (e ∷ before) q) ≡ true → placed boot (e ∷ before) q ≡ placed boot before q = λ q t. elim (cases_bool (same_page p q)) [
      | inl here ↦ absurd (true≢false (sym t ∙ ap (λ x. k (place boot (e ∷ before) x)) (same_page-is p q here) ∙ gone))
      | inr off ↦ same q off
    ] in
    keeps-drop (pages_of boot) (λ q. k (place boot before q)) (λ q. k (place boot (e ∷ before) q)) (stamp_lt boot before) (stamp_lt boot (e ∷ before)) p ps
    (λ q. pair_lt-itself (stamp boot before q))
    (λ q t. ap (λ x. k x.place) (sym (kept q t)) ∙ t)
    gone
    (λ q t. elim (cases_bool (same_page p q)) [ inl here ↦ inr (sym (same_page-is p q here)) | inr off ↦ inl (ap (λ x. k x.place) (same q off) ∙ t) ])
    (λ q r tq tr. ap₂ (λ x y. pair_lt (x.number, q.page) (y.number, r.page)) (kept q tq) (kept r tr)) h

-- a volatile object was put in its group by an entry
standing_kept : (s : State) (w : Option Wish) (n : ℕ) (was : Standing) → is_volatile_state (unwrap_or (option_map (state_asked s) w) s) ≡ true → (is_volatile_state s ≡ true → was.vstamp < n) → (unwrap_or (option_and_then (standing_asked n) w) was).vstamp < suc n
standing_kept s None n was h k = let l = k h in omega arith
standing_kept s (Some (ask_volatile q g)) n was h k = omega arith
standing_kept s (Some ask_nonvolatile) n was h k = absurd (false≢true h)
standing_kept s (Some ask_empty) n was h k = absurd (false≢true h)

standing_said : (m p : Bool) (s : State) (w : Option Wish) (n : ℕ) (was : Standing) → is_volatile_state (unwrap_or (if m then Some Nonvolatile else if p then Some Empty else option_map (state_asked s) w) s) ≡ true → (is_volatile_state s ≡ true → was.vstamp < n) → (unwrap_or (option_and_then (standing_asked n) w) was).vstamp < suc n
standing_said true p s w n was h k = absurd (false≢true h)
standing_said false true s w n was h k = absurd (false≢true h)
standing_said false false s w n was h k = standing_kept s w n was h k

pub standing-vstamp : (past : List Entry) (o : ℕ) → is_volatile_state (state past o) ≡ true → (standing past o).vstamp < length past
unfolding state standing newest
standing-vstamp [] o h = absurd (false≢true h)
standing-vstamp (e ∷ before) o h = standing_said (is_map o e) (is_purge o e) (state before o) (asked o e) (length before) (standing before o) h (standing-vstamp before o)

placing_said : (b : Bool) (i : Option ℕ) (n : ℕ) (was : Placing) → was.bstamp.0 ≤ n → (unwrap_or (if b then Some (record { aged = false; bstamp = (suc n, 0) }) else option_map (λ i. record { aged = true; bstamp = (suc n, i) }) i) was).bstamp.0 ≤ suc n
placing_said true i n was h = omega arith
placing_said false (Some i) n was h = omega arith
placing_said false None n was h = omega arith

-- a placing is no newer than the history
pub placing-bound : (boot : System) (past : List Entry) (t : ℕ) → (bstamp boot past t).0 ≤ length past
unfolding placing newest
placing-bound boot [] t = zero-le
placing-bound boot (e ∷ before) t = placing_said (is_some (sets_band t e) || (changes boot before e t && nat_eq (wish boot before t) 0)) (aged_place t e) (length before) (placing boot before t) (placing-bound boot before t)

-- an object that an entry puts anew in its group: behind the others, and in LIFO before them
nat_is : (a b : ℕ) → nat_eq a b ≡ true → a ≡ b
nat_is a b h = elim (eqb_tells a b) [ inl same ↦ same.1 | inr other ↦ absurd (false≢true (sym other.0 ∙ h)) ]

and_both : (a b : Bool) → (a && b) ≡ true → (a ≡ true) × (b ≡ true)
and_both true b h = (refl, h)
and_both false b h = absurd (false≢true h)

nat_lt-true : (m n : ℕ) → m < n → nat_lt m n ≡ true
nat_lt-true m n h = grind (arith, nat_tests)

le_lt : (m n : ℕ) → m ≤ n → m < suc n
le_lt m n h = omega arith

stands_volatile : (boot : System) (past : List Entry) (q : Queue) (g o : ℕ) → stands_in boot past q g o ≡ true → is_volatile_state (state past o) ≡ true
unfolding volatile
stands_volatile boot past q g o h = (and_both (mapped boot past o) (is_volatile_state (state past o)) (and_both (volatile boot past o) (same_queue (standing past o).queue q) (and_both (volatile boot past o && same_queue (standing past o).queue q) (nat_eq (standing past o).group g) h).0).0).1

pub group-enter : (boot : System) (e : Entry) (before : List Entry) (q : Queue) (g o : ℕ) (os : List ℕ) → is_lifo q ≡ false → ((x : ℕ) → nat_eq o x ≡ false → stands_in boot (e ∷ before) q g x ≡ stands_in boot before q g x) → ((x : ℕ) → nat_eq o x ≡ false → standing (e ∷ before) x ≡ standing before x) → o < length boot.objects → stands_in boot (e ∷ before) q g o ≡ true → (standing (e ∷ before) o).vstamp ≡ length before → KeepsGroup boot before q g os → KeepsGroup boot (e ∷ before) q g (filter (λ x. not (nat_eq o x)) os ++ o ∷ [])
group-enter boot e before q g o os l same stand d now n k =
    let below : o < 0 + length boot.objects = omega arith in
    keeps-renew (objects_of boot) (stands_in boot before q g) (stands_in boot (e ∷ before) q g) (nearer before q) (nearer (e ∷ before) q) (nat_eq o) os (o ∷ []) same
    (λ x w h m. inl (nat_is o x m))
    (λ y m. elim m [ inl i ↦ (subst (Has (objects_of boot)) i (range-has 0 (length boot.objects) o zero-le below), ap (stands_in boot (e ∷ before) q g) (sym i) ∙ now) | inr f ↦ absurd f ])
    (λ x y mx my tx ty. rw (stand x mx, stand y my) refl)
    (λ x y mx tx m. elim m [ inl i ↦ rw (l, ← i, n, stand x mx) (nat_lt-true (standing before x).vstamp (length before) (standing-vstamp before x (stands_volatile boot before q g x tx))) | inr f ↦ absurd f ])
    ((λ y m. absurd m), tt) k

pub group-enter_lifo : (boot : System) (e : Entry) (before : List Entry) (q : Queue) (g o : ℕ) (os : List ℕ) → is_lifo q ≡ true → ((x : ℕ) → nat_eq o x ≡ false → stands_in boot (e ∷ before) q g x ≡ stands_in boot before q g x) → ((x : ℕ) → nat_eq o x ≡ false → standing (e ∷ before) x ≡ standing before x) → o < length boot.objects → stands_in boot (e ∷ before) q g o ≡ true → (standing (e ∷ before) o).vstamp ≡ length before → KeepsGroup boot before q g os → KeepsGroup boot (e ∷ before) q g (o ∷ filter (λ x. not (nat_eq o x)) os)
group-enter_lifo boot e before q g o os l same stand d now n k =
    let below : o < 0 + length boot.objects = omega arith in
    keeps-renew_front (objects_of boot) (stands_in boot before q g) (stands_in boot (e ∷ before) q g) (nearer before q) (nearer (e ∷ before) q) (nat_eq o) os o same
    (λ x m. nat_is o x m)
    (range-has 0 (length boot.objects) o zero-le below) now
    (λ x y mx my tx ty. rw (stand x mx, stand y my) refl)
    (λ x mx tx. rw (l, n, stand x mx) (nat_lt-true (standing before x).vstamp (length before) (standing-vstamp before x (stands_volatile boot before q g x tx)))) k

-- objects that an entry takes out of a group
pub group-filter : (boot : System) (e : Entry) (before : List Entry) (q : Queue) (g : ℕ) (stays : ℕ → Bool) (os : List ℕ) → ((x : ℕ) → stands_in boot (e ∷ before) q g x ≡ (stays x && stands_in boot before q g x)) → ((x : ℕ) → stands_in boot (e ∷ before) q g x ≡ true → standing (e ∷ before) x ≡ standing before x) → KeepsGroup boot before q g os → KeepsGroup boot (e ∷ before) q g (filter stays os)
group-filter boot e before q g stays os some stand k =
    keeps-filter (objects_of boot) (stands_in boot before q g) (stands_in boot (e ∷ before) q g) (nearer before q) (nearer (e ∷ before) q) stays os some
    (λ x y hx hy. rw (stand x hx, stand y hy) refl) k

-- tasks that an entry places anew in a band stand behind the others
pub band-enter : (boot : System) (e : Entry) (before : List Entry) (b : ℕ) (moved : ℕ → Bool) (ts new : List ℕ) → ((t : ℕ) → moved t ≡ false → live boot (e ∷ before) t ≡ live boot before t) → ((t : ℕ) → moved t ≡ false → band boot (e ∷ before) t ≡ band boot before t) → ((t : ℕ) → moved t ≡ false → bstamp boot (e ∷ before) t ≡ bstamp boot before t) → ((t : ℕ) → Has (tasks_of boot) t → (live boot (e ∷ before) t && nat_eq (band boot (e ∷ before) t) b) ≡ true → moved t ≡ true → Has new t) → ((t : ℕ) → Has new t → Has (tasks_of boot) t × ((live boot (e ∷ before) t && nat_eq (band boot (e ∷ before) t) b) ≡ true)) → ((t : ℕ) → Has new t → (bstamp boot (e ∷ before) t).0 ≡ suc (length before)) → Rising (bstamp_lt boot (e ∷ before)) new → KeepsBand boot before b ts → KeepsBand boot (e ∷ before) b (filter (λ t. not (moved t)) ts ++ new)
band-enter boot e before b moved ts new l w s come are n r k =
    keeps-renew (tasks_of boot) (λ t. live boot before t && nat_eq (band boot before t) b) (λ t. live boot (e ∷ before) t && nat_eq (band boot (e ∷ before) t) b) (bstamp_lt boot before) (bstamp_lt boot (e ∷ before)) moved ts new
    (λ t m. ap₂ (λ x y. x && nat_eq y b) (l t m) (w t m))
    come are
    (λ t u mt mu ht hu. ap₂ (λ x y. pair_lt x y) (s t mt) (s u mu))
    (λ t u mt ht m. pair_lt-newer (bstamp boot (e ∷ before) t) (bstamp boot (e ∷ before) u) (let o = placing-bound boot before t in rw (s t mt, n u m) (le_lt (bstamp boot before t).0 (length before) o)))
    r k

-- tasks that leave a band
pub band-filter : (boot : System) (e : Entry) (before : List Entry) (b : ℕ) (stays : ℕ → Bool) (ts : List ℕ) → ((t : ℕ) → (live boot (e ∷ before) t && nat_eq (band boot (e ∷ before) t) b) ≡ (stays t && (live boot before t && nat_eq (band boot before t) b))) → ((t : ℕ) → (live boot (e ∷ before) t && nat_eq (band boot (e ∷ before) t) b) ≡ true → bstamp boot (e ∷ before) t ≡ bstamp boot before t) → KeepsBand boot before b ts → KeepsBand boot (e ∷ before) b (filter stays ts)
band-filter boot e before b stays ts some s k =
    keeps-filter (tasks_of boot) (λ t. live boot before t && nat_eq (band boot before t) b) (λ t. live boot (e ∷ before) t && nat_eq (band boot (e ∷ before) t) b) (bstamp_lt boot before) (bstamp_lt boot (e ∷ before)) stays ts some
    (λ t u ht hu. ap₂ (λ x y. pair_lt x y) (s t ht) (s u hu)) k

-- at the start a band has its tasks by their numbers, and no page or object stands anywhere
pub pages-none : (boot : System) (k : Place → Bool) → k Absent ≡ false → KeepsPages boot [] k []
unfolding placed newest
pages-none boot k h = record { rising = tt; within = λ p m. absurd m; passes = λ p m. absurd m; all = λ p w t. absurd (false≢true (sym h ∙ t)) }
