-- A group is the list of its objects, the first at its head, and an entry puts objects in or takes them out.
use Rattle.std.proofs.Common.{◌≡◌, ℕ, ◌<◌, List, [], ◌∷◌, ◌++◌, length, Option, Some, None, refl, sym, ap, ap₂, ◌∙◌, Bool, true, false, not, ◌&&◌, filter, nat_eq, nat_lt, if◌then◌else◌, inl, inr, ◌⊎◌, arith}
use Rattle.std.specs.Prelude.{is_some, slice_get, option_map, option_and_then}
use Rattle.std.specs.Option.{unwrap_or}
use Rattle.std.specs.List.{list_any}
use Rattle.std.proofs.lemmas.Bool.{cases_Bool, false≢true}
use Rattle.std.proofs.lemmas.Bool.Decides.{eqb_tells, nat_tests}
use Rattle.kern_ids.specs.declared.entries.Entry.{Entry}
use Rattle.kern_ids.specs.declared.calls.Call.{Call}
use Rattle.kern_ids.specs.declared.calls.Call.TheVariants.{SetState, Exit, Jetsam}
use Rattle.kern_ids.specs.declared.calls.Queue.{Queue}
use Rattle.kern_ids.specs.declared.calls.State.{State}
use Rattle.kern_ids.specs.declared.calls.State.TheVariants.{Nonvolatile, Empty}
use Rattle.kern_ids.specs.declared.calls.Wish.{Wish}
use Rattle.kern_ids.specs.declared.calls.Wish.TheVariants.{Nonvolatile as ask_nonvolatile, Volatile as ask_volatile, Empty as ask_empty}
use Rattle.kern_ids.specs.declared.replies.Reply.{Reply}
use Rattle.kern_ids.specs.declared.replies.Reply.TheVariants.{Exited, Killed}
use Rattle.kernel_model.specs.declared.place.Standing.{Standing}
use Rattle.kernel_model.specs.System.{System}
use Rattle.kernel_model.specs.Newest.{newest}
use Rattle.kernel_model.specs.Events.{accepted, is_map, is_purge, wish_call, asked, is_end}
use Rattle.kernel_model.specs.Mapping.{maps, mapped, tasks_of}
use Rattle.kernel_model.specs.State.{state, state_asked}
use Rattle.kernel_model.specs.Groups.{standing, standing_asked, volatile, stands_in, first, is_volatile_state, same_queue, is_lifo, objects_of}
use Rattle.kernel_model.specs.Laws.Order.{Has, Keeps}
use Rattle.kernel_model.specs.Laws.Queues.{KeepsGroup, nearer}
use Rattle.kernel_model.specs.Laws.Next.{Step, after}
use Rattle.kernel_model.specs.Laws.Ends.{is_ending_reply, IsEnding, still_maps}
use Rattle.kernel_model.specs.Laws.Group.{members_of, members_before, members_after, other_than, Enters, Leaves, AddsMember, still_mapped}
use Rattle.kernel_model.proofs.Laws.Agree.{any-agree}
use Rattle.kernel_model.proofs.Laws.Ends.{ending-maps, ending-state}
use Rattle.kernel_model.proofs.Laws.Kept.{standing-kept}
use Rattle.kernel_model.proofs.Laws.Mapping.{mapped-is, some-more}
use Rattle.kernel_model.proofs.Laws.Next.{mapped-after}
use Rattle.kernel_model.proofs.Laws.Order.{has-filter, filter-has, in_order-has, has-in_order, rising-in_order, rising-unique, distinct-filter}
use Rattle.kernel_model.proofs.Laws.Queues.{nearer-asym, distinct-range, first-is, standing-vstamp, group-enter, group-enter_lifo, group-filter}
use Rattle.kernel_model.proofs.Laws.Tokens.{at_call}

-- two lists that keep the same in one order are one
keeps-unique : {A : Type 0} (whole : List A) (test : A → Bool) (less : A → A → Bool) (xs ys : List A) → ((x y : A) → less x y ≡ true → less y x ≡ false) → Keeps whole test less xs → Keeps whole test less ys → xs ≡ ys
keeps-unique whole test less xs ys asym k l =
    rising-unique less asym xs ys k.rising l.rising
    (λ x m. l.all x (k.within x m) (k.passes x m))
    (λ x m. k.all x (l.within x m) (l.passes x m))

-- one call asks for one object
given : {A : Type 0} (b : Bool) (w : Option A) → is_some (if b then w else None) ≡ true → b ≡ true
given true w h = refl
given false w h = absurd (false≢true h)

same_number : (a b : ℕ) → nat_eq a b ≡ true → a ≡ b
same_number a b h = elim (eqb_tells a b) [ inl same ↦ same.1 | inr other ↦ absurd (false≢true (sym other.0 ∙ h)) ]

one_wish : (call : Call) (x y : ℕ) → is_some (wish_call x call) ≡ true → is_some (wish_call y call) ≡ true → x ≡ y
one_wish (SetState z word) x y h k = sym (same_number z x (given (nat_eq z x) _ h)) ∙ same_number z y (given (nat_eq z y) _ k)
one_wish call x y h k = absurd (false≢true h)

one_if : (b : Bool) (u v : Option Wish) (x y : ℕ) → (is_some u ≡ true → is_some v ≡ true → x ≡ y) → is_some (if b then u else None) ≡ true → is_some (if b then v else None) ≡ true → x ≡ y
one_if true u v x y f h k = f h k
one_if false u v x y f h k = absurd (false≢true h)

one_asked : (e : Entry) (x y : ℕ) → is_some (asked x e) ≡ true → is_some (asked y e) ≡ true → x ≡ y
one_asked e x y h k = one_if (accepted e) (wish_call x e.call) (wish_call y e.call) x y (one_wish e.call x y) h k

-- a volatile object was put in its group by the entry, or was volatile and stays there
pub data Stamped (w : Option Wish) (n : ℕ) (s : State) (was now : Standing) : Type 0 where
  anew : is_some w ≡ true → now.vstamp ≡ n → Stamped w n s was now
  kept : is_volatile_state s ≡ true → now ≡ was → Stamped w n s was now

stamped : (m p : Bool) (s : State) (w : Option Wish) (n : ℕ) (was : Standing) → is_volatile_state (unwrap_or (if m then Some Nonvolatile else if p then Some Empty else option_map (state_asked s) w) s) ≡ true → Stamped w n s was (unwrap_or (option_and_then (standing_asked n) w) was)
stamped true p s w n was h = absurd (false≢true h)
stamped false true s w n was h = absurd (false≢true h)
stamped false false s None n was h = kept h refl
stamped false false s (Some (ask_volatile q g)) n was h = anew refl refl
stamped false false s (Some ask_nonvolatile) n was h = absurd (false≢true h)
stamped false false s (Some ask_empty) n was h = absurd (false≢true h)

below_not : (a n : ℕ) → a < n → a ≡ n → ⊥
below_not a n l e = absurd (omega arith)

apart : (v w : Option Wish) (n : ℕ) (s t : State) (a b x y : Standing) → Stamped v n s a x → Stamped w n t b y → (is_some v ≡ true → is_some w ≡ true → ⊥) → (is_volatile_state s ≡ true → a.vstamp < n) → (is_volatile_state t ≡ true → b.vstamp < n) → (is_volatile_state s ≡ true → is_volatile_state t ≡ true → a.vstamp ≡ b.vstamp → ⊥) → x.vstamp ≡ y.vstamp → ⊥
apart v w n s t a b x y (anew f i) (anew g j) one la lb old e = one f g
apart v w n s t a b x y (anew f i) (kept g j) one la lb old e = below_not b.vstamp n (lb g) (sym (ap (λ (z : Standing). z.vstamp) j) ∙ sym e ∙ i)
apart v w n s t a b x y (kept f i) (anew g j) one la lb old e = below_not a.vstamp n (la f) (sym (ap (λ (z : Standing). z.vstamp) i) ∙ e ∙ j)
apart v w n s t a b x y (kept f i) (kept g j) one la lb old e = old f g (sym (ap (λ (z : Standing). z.vstamp) i) ∙ e ∙ ap (λ (z : Standing). z.vstamp) j)

-- two volatile objects never have one stamp
pub vstamps-differ : (past : List Entry) (x y : ℕ) → (x ≡ y → ⊥) → is_volatile_state (state past x) ≡ true → is_volatile_state (state past y) ≡ true → (standing past x).vstamp ≡ (standing past y).vstamp → ⊥
unfolding state standing newest
vstamps-differ [] x y d h k e = false≢true h
vstamps-differ (e ∷ before) x y d h k same =
    apart (asked x e) (asked y e) (length before) (state before x) (state before y) (standing before x) (standing before y) (standing (e ∷ before) x) (standing (e ∷ before) y)
    (stamped (is_map x e) (is_purge x e) (state before x) (asked x e) (length before) (standing before x) h)
    (stamped (is_map y e) (is_purge y e) (state before y) (asked y e) (length before) (standing before y) k)
    (λ a b. d (one_asked e x y a b)) (standing-vstamp before x) (standing-vstamp before y)
    (vstamps-differ before x y d) same

both_true : (a b : Bool) → (a && b) ≡ true → (a ≡ true) × (b ≡ true)
both_true true b h = (refl, h)
both_true false b h = absurd (false≢true h)

stands_volatile : (boot : System) (past : List Entry) (q : Queue) (g o : ℕ) → stands_in boot past q g o ≡ true → is_volatile_state (state past o) ≡ true
unfolding volatile
stands_volatile boot past q g o h =
    let a = both_true (volatile boot past o && same_queue (standing past o).queue q) (nat_eq (standing past o).group g) h in
    let b = both_true (volatile boot past o) (same_queue (standing past o).queue q) a.0 in
    (both_true (mapped boot past o) (is_volatile_state (state past o)) b.0).1

lt_trans : (a b c : ℕ) → nat_lt a b ≡ true → nat_lt b c ≡ true → nat_lt a c ≡ true
lt_trans a b c h k = grind (arith, nat_tests)

lt_total : (a b : ℕ) → (a ≡ b → ⊥) → (nat_lt a b ≡ true) ⊎ (nat_lt b a ≡ true)
lt_total a b d = elim (cases_Bool (nat_lt a b)) [
  | inl t ↦ inl t
  | inr f ↦ elim (cases_Bool (nat_lt b a)) [ inl t ↦ inr t | inr g ↦ absurd (d (grind (arith, nat_tests))) ]
]

nearer_trans : (l : Bool) (a b c : ℕ) → (if l then nat_lt b a else nat_lt a b) ≡ true → (if l then nat_lt c b else nat_lt b c) ≡ true → (if l then nat_lt c a else nat_lt a c) ≡ true
nearer_trans true a b c h k = lt_trans c b a k h
nearer_trans false a b c h k = lt_trans a b c h k

nearer_total : (l : Bool) (a b : ℕ) → (a ≡ b → ⊥) → ((if l then nat_lt b a else nat_lt a b) ≡ true) ⊎ ((if l then nat_lt a b else nat_lt b a) ≡ true)
nearer_total true a b d = lt_total b a (λ e. d (sym e))
nearer_total false a b d = lt_total a b d

-- the list of a group keeps it, and its head is the first
pub members-keep : (boot : System) (past : List Entry) (q : Queue) (g : ℕ) → KeepsGroup boot past q g (members_of boot past q g)
members-keep boot past q g =
    let os = filter (stands_in boot past q g) (objects_of boot) in
    let has : (o : ℕ) → Has (members_of boot past q g) o → Has (objects_of boot) o × (stands_in boot past q g o ≡ true) = λ o m. filter-has (stands_in boot past q g) (objects_of boot) o (in_order-has (nearer past q) os o m) in
    record {
      rising = rising-in_order (nearer past q) os (λ a b c. nearer_trans (is_lifo q) (standing past a).vstamp (standing past b).vstamp (standing past c).vstamp)
          (λ x y hx hy d. nearer_total (is_lifo q) (standing past x).vstamp (standing past y).vstamp (vstamps-differ past x y d (stands_volatile boot past q g x (filter-has (stands_in boot past q g) (objects_of boot) x hx).1) (stands_volatile boot past q g y (filter-has (stands_in boot past q g) (objects_of boot) y hy).1)))
          (distinct-filter (stands_in boot past q g) (objects_of boot) (distinct-range 0 (length boot.objects)));
      within = λ o m. (has o m).0;
      passes = λ o m. (has o m).1;
      all = λ o w t. has-in_order (nearer past q) os o (has-filter (stands_in boot past q g) (objects_of boot) o w t);
    }

pub members-first : (boot : System) (past : List Entry) (q : Queue) (g : ℕ) → first boot past q g ≡ slice_get (members_of boot past q g) 0
members-first boot past q g = first-is boot past q g (members_of boot past q g) (members-keep boot past q g)

module _ (s : Step) (q : Queue) (g : ℕ) where
  members-are : (os : List ℕ) → KeepsGroup s.boot (after s) q g os → members_after s q g ≡ os
  members-are os k = keeps-unique (objects_of s.boot) (stands_in s.boot (after s) q g) (nearer (after s) q) (members_after s q g) os (nearer-asym (after s) q) (members-keep s.boot (after s) q g) k

  -- an object that enters stands behind the others, and in LIFO before them
  pub members-enter : (o : ℕ) → Enters s q g o → AddsMember s q g o
  members-enter o e =
      let rest = other_than o (members_before s q g) in
      let keeps = members-keep s.boot s.before q g in
      elim (cases_Bool (is_lifo q)) [
        | inl l ↦ members-are (o ∷ rest) (group-enter_lifo s.boot s.entry s.before q g o (members_before s q g) l e.others e.standing_kept e.declared e.stands e.stamp keeps) ∙ sym (ap (λ b. if b then o ∷ rest else rest ++ o ∷ []) l)
        | inr l ↦ members-are (rest ++ o ∷ []) (group-enter s.boot s.entry s.before q g o (members_before s q g) l e.others e.standing_kept e.declared e.stands e.stamp keeps) ∙ sym (ap (λ b. if b then o ∷ rest else rest ++ o ∷ []) l)
      ]

  -- those that leave leave the order of the rest
  pub members-leave : (stays : ℕ → Bool) → Leaves s q g stays → members_after s q g ≡ filter stays (members_before s q g)
  members-leave stays l = members-are _ (group-filter s.boot s.entry s.before q g stays (members_before s q g) l.stand l.standing_kept (members-keep s.boot s.before q g))

-- an Exit or a kill takes out what it unmaps
ending_standing : (before : List Entry) (who : ℕ) (call : Call) (reply : Reply) (o : ℕ) → is_ending_reply call reply ≡ true → standing (at_call who call reply ∷ before) o ≡ standing before o
ending_standing before who Exit Exited o h = standing-kept (at_call who Exit Exited) before o refl
ending_standing before who Jetsam (Killed u cause) o h = standing-kept (at_call who Jetsam (Killed u cause)) before o refl
ending_standing before who call reply o h = absurd (false≢true h)

and_right : (a b : Bool) → (a && b) ≡ true → b ≡ true
and_right true b h = h
and_right false b h = absurd (false≢true h)

unmapped_or : (was now : Bool) → (now ≡ true → was ≡ true) → now ≡ (not (was && not now) && was)
unmapped_or true true h = refl
unmapped_or true false h = refl
unmapped_or false true h = absurd (false≢true (h refl))
unmapped_or false false h = refl

regroup : (a m v x y : Bool) → ((((a && m) && v) && x) && y) ≡ (a && (((m && v) && x) && y))
regroup true m v x y = refl
regroup false m v x y = refl

module _ (s : Step) (ends : IsEnding s) where
  ending_mapped : (o : ℕ) → mapped s.boot (after s) o ≡ true → mapped s.boot s.before o ≡ true
  ending_mapped o m =
      let now : list_any (still_maps s o) (tasks_of s.boot) ≡ true = sym (any-agree (maps s.boot (after s) o) (still_maps s o) (ending-maps s ends o) (tasks_of s.boot)) ∙ sym (mapped-is s.boot (after s) o) ∙ m in
      mapped-is s.boot s.before o ∙ some-more (still_maps s o) (maps s.boot s.before o) (λ t. and_right (not (is_end s.boot t s.entry)) (maps s.boot s.before o t)) (tasks_of s.boot) now

  ending_stays : (o : ℕ) → mapped s.boot (after s) o ≡ (still_mapped s o && mapped s.boot s.before o)
  ending_stays o =
      unmapped_or (mapped s.boot s.before o) (mapped s.boot (after s) o) (ending_mapped o)
      ∙ ap (λ m. not (mapped s.boot s.before o && not m) && mapped s.boot s.before o) (mapped-after s o)

  standing_on : (o : ℕ) → standing (after s) o ≡ standing s.before o
  standing_on o = ending_standing s.before s.entry.who s.entry.call s.entry.reply o ends

  ending_stand : (q : Queue) (g o : ℕ) → stands_in s.boot (after s) q g o ≡ (still_mapped s o && stands_in s.boot s.before q g o)
  unfolding volatile
  ending_stand q g o =
      ap₂ (λ m x. ((m && is_volatile_state x) && same_queue (standing (after s) o).queue q) && nat_eq (standing (after s) o).group g) (ending_stays o) (ending-state s ends o)
      ∙ ap (λ (x : Standing). (((still_mapped s o && mapped s.boot s.before o) && is_volatile_state (state s.before o)) && same_queue x.queue q) && nat_eq x.group g) (standing_on o)
      ∙ regroup (still_mapped s o) (mapped s.boot s.before o) (is_volatile_state (state s.before o)) (same_queue (standing s.before o).queue q) (nat_eq (standing s.before o).group g)

  pub ending-members : (q : Queue) (g : ℕ) → members_after s q g ≡ filter (still_mapped s) (members_before s q g)
  ending-members q g = members-leave s q g (still_mapped s) (record { stand = ending_stand q g; standing_kept = λ o h. standing_on o })
