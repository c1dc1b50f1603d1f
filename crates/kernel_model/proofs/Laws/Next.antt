-- What the definitions are after one entry more.
use Rattle.std.proofs.Common.{◌≡◌, ℕ, ◌+◌, ◌-◌, List, [], ◌∷◌, ◌++◌, length, Option, Some, None, refl, ap, ap₂, ◌∙◌, Bool, false, ◌&&◌, not, filter, count_by, nat_eq, nat_lt, if◌then◌else◌}
use Rattle.std.specs.Prelude.{option_and_then, nat_le}
use Rattle.std.specs.Option.{option_map_or}
use Rattle.kern_ids.specs.declared.ids.PageId.{PageId}
use Rattle.kern_ids.specs.declared.calls.Queue.{Queue}
use Rattle.kern_ids.specs.declared.calls.Queue.TheVariants.{Obsolete, Lifo, Fifo}
use Rattle.kern_ids.specs.declared.calls.State.{State}
use Rattle.kern_ids.specs.declared.replies.Reply.{Reply}
use Rattle.kern_ids.specs.declared.replies.Reply.TheVariants.{Enough, Moved, Purged, Idle}
use Rattle.kern_ids.specs.declared.replies.Move.TheVariants.{Deactivated, Reactivated, Freed, Compressed, Requeued}
use Rattle.kernel_model.specs.declared.place.Place.{Place}
use Rattle.kernel_model.specs.declared.place.Placed.{Placed}
use Rattle.kernel_model.specs.declared.place.Standing.{Standing}
use Rattle.kernel_model.specs.Newest.{newest}
use Rattle.kernel_model.specs.Lists.{least, first_some, pair_lt}
use Rattle.kernel_model.specs.Mapping.{maps, owner, mapped, unmaps, next_said, tasks_of}
use Rattle.kernel_model.specs.State.{state}
use Rattle.kernel_model.specs.Groups.{standing, next_standing, volatile, stands_in, first, is_volatile_state, same_queue, is_lifo, objects_of}
use Rattle.kernel_model.specs.Pages.{placed, place, next_placed, is_active, is_inactive, is_stored, pages_of, stored_pages, free, entered, left, touched_since, written}
use Rattle.kernel_model.specs.Counted.{counts, count_of, is_nonvolatile_state}
use Rattle.kernel_model.specs.Deadlines.{deadlines, ripe_of, ripe_queue}
use Rattle.kernel_model.specs.Choice.{pick, forced, first_of, places_for, groups_of}
use Rattle.kernel_model.specs.Scan.{scan, scan_rest, scan_inactive, first_active, first_inactive, stamp_lt}
use Rattle.kernel_model.specs.Laws.Frames.{is_in}
use Rattle.kernel_model.specs.Laws.Next.{Step, after, maps_after, owner_after, mapped_after, unmapped_in, state_after, standing_after, volatile_after, stands_after, nearer_after, first_after, placed_after, place_after, pages_after, entered_after, free_after, left_after, owned_after, count_after, counts_after, deadlines_after, ripe_after, first_of_after, pick_after, forced_after, stamp_lt_after, first_page_after, touched_after, written_after, scan_inactive_after, scan_rest_after, scan_after}
use Rattle.kernel_model.proofs.Laws.Agree.{find-agree, any-agree, filter-agree, count_by-agree, least-agree}
use Rattle.kernel_model.proofs.Laws.Mapping.{live-more, maps-more, owner-is, mapped-is, unmaps-is}
use Rattle.kernel_model.proofs.Laws.State.{state-more}
use Rattle.kernel_model.proofs.Laws.Pages.{placed-more, entered-more, free-is, left-is, touched_since-more, written-more}
use Rattle.kernel_model.proofs.Laws.Deadlines.{deadlines-more}

-- the least of those that pass, where the order and the test agree
least_filter : {A : Type 0} (l m : A → A → Bool) (p q : A → Bool) → ((x y : A) → l x y ≡ m x y) → ((x : A) → p x ≡ q x) → (xs : List A) → least l (filter p xs) ≡ least m (filter q xs)
least_filter l m p q order test xs = least-agree l m order (filter p xs) ∙ ap (least m) (filter-agree p q test xs)

-- the first of some alternatives, where each agrees
first_some-agree : {A B : Type 0} (f h : A → Option B) → ((x : A) → f x ≡ h x) → (xs : List A) → first_some f xs ≡ first_some h xs
first_some-agree f h e [] = refl
first_some-agree {A} {B} f h e (x ∷ xs) = ap₂ (λ (a b : Option B). elim a [ Some y ↦ Some y | None ↦ b ]) (e x) (first_some-agree f h e xs)

and_then-agree : {A B : Type 0} (f h : A → Option B) → ((x : A) → f x ≡ h x) → (o : Option A) → option_and_then f o ≡ option_and_then h o
and_then-agree f h e (Some x) = e x
and_then-agree f h e None = refl

module _ (s : Step) where
  pub maps-after : (o t : ℕ) → maps s.boot (after s) o t ≡ maps_after s o t
  maps-after o t = maps-more s.boot s.entry s.before o t ∙ ap (λ l. l && next_said s.boot o t (maps s.boot s.before o t) s.entry) (live-more s.boot s.entry s.before t)

  pub owner-after : (o : ℕ) → owner s.boot (after s) o ≡ owner_after s o
  owner-after o = owner-is s.boot (after s) o ∙ find-agree (maps s.boot (after s) o) (maps_after s o) (maps-after o) (tasks_of s.boot)

  pub mapped-after : (o : ℕ) → mapped s.boot (after s) o ≡ mapped_after s o
  mapped-after o = mapped-is s.boot (after s) o ∙ any-agree (maps s.boot (after s) o) (maps_after s o) (maps-after o) (tasks_of s.boot)

  pub unmaps-after : (o : ℕ) → unmaps s.boot s.before s.entry o ≡ unmapped_in s o
  unmaps-after o = unmaps-is s.boot s.entry s.before o ∙ ap (λ m. mapped s.boot s.before o && not m) (mapped-after o)

  -- the groups
  pub state-after : (o : ℕ) → state (after s) o ≡ state_after s o
  state-after o = state-more s.entry s.before o

  pub standing-after : (o : ℕ) → standing (after s) o ≡ standing_after s o
  unfolding standing newest next_standing
  standing-after o = refl

  pub volatile-after : (o : ℕ) → volatile s.boot (after s) o ≡ volatile_after s o
  unfolding volatile
  volatile-after o = ap₂ (λ m x. m && is_volatile_state x) (mapped-after o) (state-after o)

  pub stands_in-after : (q : Queue) (g o : ℕ) → stands_in s.boot (after s) q g o ≡ stands_after s q g o
  stands_in-after q g o = ap₂ (λ v (x : Standing). v && same_queue x.queue q && nat_eq x.group g) (volatile-after o) (standing-after o)

  nearer_agree : (q : Queue) (a b : ℕ) → (if is_lifo q then nat_lt (standing (after s) b).vstamp (standing (after s) a).vstamp else nat_lt (standing (after s) a).vstamp (standing (after s) b).vstamp) ≡ nearer_after s q a b
  nearer_agree q a b = ap₂ (λ (x y : Standing). if is_lifo q then nat_lt y.vstamp x.vstamp else nat_lt x.vstamp y.vstamp) (standing-after a) (standing-after b)

  pub first-after : (q : Queue) (g : ℕ) → first s.boot (after s) q g ≡ first_after s q g
  unfolding first
  first-after q g = least_filter (λ a b. if is_lifo q then nat_lt (standing (after s) b).vstamp (standing (after s) a).vstamp else nat_lt (standing (after s) a).vstamp (standing (after s) b).vstamp) (nearer_after s q) (stands_in s.boot (after s) q g) (stands_after s q g) (nearer_agree q) (stands_in-after q g) (objects_of s.boot)

  -- the pages
  pub placed-after : (p : PageId) → placed s.boot (after s) p ≡ placed_after s p
  placed-after p = placed-more s.boot s.entry s.before p ∙ ap (λ u. next_placed (state s.before p.obj) u (length s.before) p (placed s.boot s.before p) s.entry) (unmaps-after p.obj)

  place_agree : (k : Place → Bool) (p : PageId) → k (place s.boot (after s) p) ≡ k (place_after s p)
  place_agree k p = ap (λ (x : Placed). k x.place) (placed-after p)

  pub pages-after : (k : Place → Bool) → count_by (λ p. k (place s.boot (after s) p)) (pages_of s.boot) ≡ pages_after s k
  pages-after k = count_by-agree (λ p. k (place s.boot (after s) p)) (λ p. k (place_after s p)) (place_agree k) (pages_of s.boot)

  pub free-after : free s.boot (after s) ≡ free_after s
  free-after = free-is s.boot (after s) ∙ ap₂ (λ a i. s.boot.params.frames - (a + i)) (pages-after is_active) (pages-after is_inactive)

  pub entered-after : entered (after s) ≡ entered_after s
  entered-after = entered-more s.entry s.before

  pub left-after : left s.boot (after s) ≡ left_after s
  left-after = left-is s.boot (after s) ∙ ap₂ (λ n i. n - i) entered-after (pages-after is_inactive)

  -- the counts of a task
  pub count_of-after : (t : ℕ) (k : Place → Bool) (what : State → Bool) → count_of s.boot (after s) t (λ p. k (place s.boot (after s) p)) what ≡ count_after s t k what
  count_of-after t k what =
      count_by-agree (λ p. option_map_or (nat_eq t) (owner s.boot (after s) p.obj) false && k (place s.boot (after s) p) && what (state (after s) p.obj)) (λ p. owned_after s t p.obj && k (place_after s p) && what (state_after s p.obj))
      (λ p. ap₂ (λ (w : Option ℕ) (b : Bool). option_map_or (nat_eq t) w false && b && what (state (after s) p.obj)) (owner-after p.obj) (place_agree k p) ∙ ap (λ x. owned_after s t p.obj && k (place_after s p) && what x) (state-after p.obj)) (pages_of s.boot)

  pub counts-after : (t : ℕ) → counts s.boot (after s) t ≡ counts_after s t
  unfolding counts
  counts-after t =
      rw (count_of-after t is_in is_nonvolatile_state, count_of-after t is_in is_volatile_state, count_of-after t is_stored is_nonvolatile_state, count_of-after t is_stored is_volatile_state) refl

  -- the choice of a purge
  pub deadlines-after : deadlines s.boot (after s) ≡ deadlines_after s
  deadlines-after = deadlines-more s.boot s.entry s.before

  pub ripe_queue-after : ripe_queue s.boot (after s) ≡ ripe_after s
  ripe_queue-after = ap₂ ripe_of left-after deadlines-after

  first_of-after : (places : List (Queue × ℕ)) → first_of s.boot (after s) places ≡ first_of_after s places
  first_of-after places = first_some-agree (λ (q, g). first s.boot (after s) q g) (λ (q, g). first_after s q g) (λ p. first-after p.0 p.1) places

  pub pick-after : pick s.boot (after s) ≡ pick_after s
  unfolding pick
  pick-after =
      and_then-agree (λ q. first_of s.boot (after s) (places_for q)) (λ q. first_of_after s (places_for q)) (λ q. first_of-after (places_for q)) (ripe_queue s.boot (after s))
      ∙ ap (option_and_then (λ q. first_of_after s (places_for q))) ripe_queue-after

  pub forced-after : forced s.boot (after s) ≡ forced_after s
  unfolding forced
  forced-after = first_of-after (groups_of Fifo ++ groups_of Lifo ++ groups_of Obsolete)

  -- the scan
  stamp_agree : (p q : PageId) → stamp_lt s.boot (after s) p q ≡ stamp_lt_after s p q
  unfolding stamp_lt
  stamp_agree p q = ap₂ (λ (x y : Placed). pair_lt (x.number, p.page) (y.number, q.page)) (placed-after p) (placed-after q)

  pub first_active-after : first_active s.boot (after s) ≡ first_page_after s is_active
  unfolding first_active
  first_active-after = least_filter (stamp_lt s.boot (after s)) (stamp_lt_after s) (λ p. is_active (place s.boot (after s) p)) (λ p. is_active (place_after s p)) stamp_agree (place_agree is_active) (pages_of s.boot)

  pub first_inactive-after : first_inactive s.boot (after s) ≡ first_page_after s is_inactive
  unfolding first_inactive
  first_inactive-after = least_filter (stamp_lt s.boot (after s)) (stamp_lt_after s) (λ p. is_inactive (place s.boot (after s) p)) (λ p. is_inactive (place_after s p)) stamp_agree (place_agree is_inactive) (pages_of s.boot)

  pub touched-after : (p : PageId) → touched_since s.boot (after s) p ≡ touched_after s p
  touched-after p = touched_since-more s.boot s.entry s.before p

  pub written-after : (p : PageId) → written (after s) p ≡ written_after s p
  written-after p = written-more s.entry s.before p

  scan_inactive-after : (p : PageId) → scan_inactive s.boot (after s) p ≡ scan_inactive_after s p
  scan_inactive-after p =
      ap₂ (λ t w. if t then Moved Reactivated p else if not w then Moved Freed p else if nat_lt (stored_pages s.boot (after s)) s.boot.params.store then Moved Compressed p else Moved Requeued p) (touched-after p) (written-after p)
      ∙ ap (λ n. if touched_after s p then Moved Reactivated p else if not (written_after s p) then Moved Freed p else if nat_lt n s.boot.params.store then Moved Compressed p else Moved Requeued p) (pages-after is_stored)

  moves_agree : (o : Option PageId) → option_map_or (scan_inactive s.boot (after s)) o Idle ≡ option_map_or (scan_inactive_after s) o Idle
  moves_agree (Some p) = scan_inactive-after p
  moves_agree None = refl

  scan_rest-after : scan_rest s.boot (after s) ≡ scan_rest_after s
  scan_rest-after =
      ap₂ (λ (o : Option ℕ) (r : Reply). elim o [ Some o ↦ Purged o | None ↦ r ]) pick-after
      (moves_agree (first_inactive s.boot (after s)) ∙ ap (λ o. option_map_or (scan_inactive_after s) o Idle) first_inactive-after)

  pub scan-after : scan s.boot (after s) ≡ scan_after s
  unfolding scan
  scan-after =
      ap₂ (λ f i. if nat_le s.boot.params.target f then Enough else if nat_lt i s.boot.params.inactive then option_map_or (Moved Deactivated) (first_active s.boot (after s)) (scan_rest s.boot (after s)) else scan_rest s.boot (after s)) free-after (pages-after is_inactive)
      ∙ ap₂ (λ a r. if nat_le s.boot.params.target (free_after s) then Enough else if nat_lt (pages_after s is_inactive) s.boot.params.inactive then option_map_or (Moved Deactivated) a r else r) first_active-after scan_rest-after
