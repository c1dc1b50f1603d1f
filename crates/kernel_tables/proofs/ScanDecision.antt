-- What the scan decides by the tables is what it decides by the history.
use Rattle.std.proofs.Common.{◌≡◌, ℕ, ◌<◌, List, [], ◌∷◌, length, map, not, if◌then◌else◌, Option, Some, None, option_map, slice_get, nat_lt, nat_le, refl, sym, ap, ap₂, ◌∙◌, subst, Bool, true, false, ◌&&◌, inl}
use Rattle.std.specs.Option.{option_map_or}
use Rattle.std.proofs.lemmas.List.{length-map}
use Rattle.std.proofs.lemmas.Option.{slice_get-map}
use Rattle.kern_ids.specs.declared.entries.Entry.{Entry}
use Rattle.kern_ids.specs.declared.ids.PageId.{PageId}
use Rattle.kern_ids.specs.declared.replies.Reply.{Reply}
use Rattle.kern_ids.specs.declared.replies.Reply.TheVariants.{Enough, Moved, Purged, Idle}
use Rattle.kern_ids.specs.declared.replies.Move.TheVariants.{Deactivated, Reactivated, Freed, Compressed, Requeued}
use Rattle.kernel_model.specs.System.{System}
use Rattle.kernel_model.specs.Valid.{IsValidBoot}
use Rattle.kernel_model.specs.Pages.{place, pages_of, is_inactive, is_stored, free, inactive_pages, stored_pages, touched_since, written}
use Rattle.kernel_model.specs.Scan.{scan, scan_rest, scan_inactive, first_active, first_inactive}
use Rattle.kernel_model.specs.Laws.Order.{Has}
use Rattle.kernel_model.proofs.Laws.Queues.{first_active-is, first_inactive-is}
use Rattle.kernel_model.proofs.Laws.Present.{held-mapped}
use Rattle.page_queues.specs.Pages.{Pages, page_of, active as active_keys, inactive as inactive_keys, stored as stored_keys, free as free_in, is_marked}
use Rattle.purge_pick.specs.Picks.{picked}
use Rattle.pageout_scan.specs.declared.plan.ScanPlan.{ScanPlan}
use Rattle.pageout_scan.specs.declared.plan.ScanPlan.TheVariants.{Enough as PlanEnough, Deactivate, Reactivate, Free, Compress, Requeue, Idle as PlanIdle}
use Rattle.pageout_scan.specs.Plans.{scan_plan, plan_of_rest, plan_of_inactive}
use Rattle.vm_object.specs.Objects.{is_written}
use Rattle.kernel_tables.specs.Values.{TableValues}
use Rattle.kernel_tables.specs.Stands.{Stands}
use Rattle.kernel_tables.specs.Moves.{reply_of, first_written}
use Rattle.kernel_tables.proofs.AskLemmas.{inactive-are}
use Rattle.kernel_tables.proofs.Choices.{pick-is}
use Rattle.kernel_tables.proofs.Counting.{pages-count}
use Rattle.kernel_tables.proofs.PageKeys.{key_of-page}
use Rattle.kernel_tables.proofs.PageMoves.{present-inactive}
use Rattle.kernel_tables.proofs.Recharges.{page-object}
use Rattle.kernel_tables.proofs.Refused.{free-is}

-- what is done with one Inactive page
abbrev move_by : Bool → Bool → Bool → PageId → Reply
move_by t w s p = if t then Moved Reactivated p else if not w then Moved Freed p else if s then Moved Compressed p else Moved Requeued p

reply_move : (pages : Pages) (key : ℕ) (t w s : Bool) → slice_get (inactive_keys pages) 0 ≡ Some key → reply_of pages (if t then Reactivate else if not w then Free else if s then Compress else Requeue) ≡ move_by t w s (page_of key)
reply_move pages key true w s h = ap (λ x. option_map_or (Moved Reactivated) (option_map page_of x) Idle) h
reply_move pages key false false s h = ap (λ x. option_map_or (Moved Freed) (option_map page_of x) Idle) h
reply_move pages key false true true h = ap (λ x. option_map_or (Moved Compressed) (option_map page_of x) Idle) h
reply_move pages key false true false h = ap (λ x. option_map_or (Moved Requeued) (option_map page_of x) Idle) h

-- the scan's first two tests, and the rest
abbrev by_tests : Bool → Bool → Option PageId → Reply → Reply
by_tests enough few first rest = if enough then Enough else if few then option_map_or (Moved Deactivated) first rest else rest

reply_tests : (pages : Pages) (enough few : Bool) (rest : ScanPlan) (a : Option ℕ) → slice_get (active_keys pages) 0 ≡ a → reply_of pages (if enough then PlanEnough else if few then option_map_or (λ key. Deactivate) (slice_get (active_keys pages) 0) rest else rest) ≡ by_tests enough few (option_map page_of (slice_get (active_keys pages) 0)) (reply_of pages rest)
reply_tests pages true few rest a h = refl
reply_tests pages false false rest a h = refl
reply_tests pages false true rest None h =
    ap (λ x. reply_of pages (option_map_or (λ key. Deactivate) x rest)) h ∙ sym (ap (λ x. option_map_or (Moved Deactivated) (option_map page_of x) (reply_of pages rest)) h)
reply_tests pages false true rest (Some key) h =
    ap (λ x. reply_of pages (option_map_or (λ key. Deactivate) x rest)) h ∙ ap (λ x. option_map_or (Moved Deactivated) (option_map page_of x) Idle) h ∙ sym (ap (λ x. option_map_or (Moved Deactivated) (option_map page_of x) (reply_of pages rest)) h)

abbrev by_rest : System → List Entry → Option ℕ → Option PageId → Reply
by_rest boot past ripe first = elim ripe [
  | Some o ↦ Purged o
  | None ↦ option_map_or (scan_inactive boot past) first Idle
]

module _ (tables : TableValues) (past : List Entry) (v : IsValidBoot tables.boot) (s : Stands tables past) where
  -- the first Inactive page
  first_listed : (key : ℕ) → slice_get (inactive_keys tables.pages) 0 ≡ Some key → Has (map page_of (inactive_keys tables.pages)) (page_of key)
  first_listed key h = head-has (inactive_keys tables.pages) key h
    where
      head-has : (keys : List ℕ) (key : ℕ) → slice_get keys 0 ≡ Some key → Has (map page_of keys) (page_of key)
      head-has [] key h = absurd (cc)
      head-has (x ∷ xs) key h = let e : x ≡ key = cc in inl (ap page_of e)

  first_page-has : (key : ℕ) → slice_get (inactive_keys tables.pages) 0 ≡ Some key → Has (pages_of tables.boot) (page_of key)
  first_page-has key h = s.pages.inactive_order.within (page_of key) (first_listed key h)

  first_inactive-place : (key : ℕ) → slice_get (inactive_keys tables.pages) 0 ≡ Some key → is_inactive (place tables.boot past (page_of key)) ≡ true
  first_inactive-place key h = s.pages.inactive_order.passes (page_of key) (first_listed key h)

  pub first-object : (key : ℕ) → slice_get (inactive_keys tables.pages) 0 ≡ Some key → (page_of key).obj < length tables.objects
  first-object key h = subst (λ n. (page_of key).obj < n) (sym s.objects.object_count) (page-object tables.boot (page_of key) (first_page-has key h))

  marked-is : (key : ℕ) → slice_get (inactive_keys tables.pages) 0 ≡ Some key → is_marked tables.pages key ≡ touched_since tables.boot past (page_of key)
  marked-is key h = ap (is_marked tables.pages) (sym (key_of-page key)) ∙ s.pages.marks (page_of key) (first_page-has key h) ∙ ap (λ b. b && touched_since tables.boot past (page_of key)) (first_inactive-place key h)

  written-is : (key : ℕ) → slice_get (inactive_keys tables.pages) 0 ≡ Some key → first_written tables.pages tables.objects ≡ written past (page_of key)
  written-is key h =
      ap (λ x. option_map_or (λ k. is_written tables.objects (page_of k).obj (page_of k).page) x false) h
      ∙ s.objects.written (page_of key) (first_page-has key h) (held-mapped tables.boot past (page_of key) v s.legal (present-inactive (place tables.boot past (page_of key)) (first_inactive-place key h)))

  stored-less : nat_lt (length (stored_keys tables.pages)) tables.boot.params.store ≡ nat_lt (stored_pages tables.boot past) tables.boot.params.store
  stored-less = ap (λ n. nat_lt n tables.boot.params.store) (sym (length-map (stored_keys tables.pages) page_of) ∙ sym (pages-count tables.boot past is_stored _ s.pages.stored_order))

  inactive-reply : (key : ℕ) → slice_get (inactive_keys tables.pages) 0 ≡ Some key → reply_of tables.pages (plan_of_inactive tables.pages tables.boot.params (first_written tables.pages tables.objects) key) ≡ scan_inactive tables.boot past (page_of key)
  inactive-reply key h =
      reply_move tables.pages key (is_marked tables.pages key) (first_written tables.pages tables.objects) (nat_lt (length (stored_keys tables.pages)) tables.boot.params.store) h
      ∙ ap₂ (λ t w. move_by t w (nat_lt (length (stored_keys tables.pages)) tables.boot.params.store) (page_of key)) (marked-is key h) (written-is key h)
      ∙ ap (λ b. move_by (touched_since tables.boot past (page_of key)) (written past (page_of key)) b (page_of key)) stored-less

  rest-reply : (ripe i : Option ℕ) → slice_get (inactive_keys tables.pages) 0 ≡ i → reply_of tables.pages (plan_of_rest tables.pages tables.boot.params ripe (first_written tables.pages tables.objects)) ≡ by_rest tables.boot past ripe (option_map page_of (slice_get (inactive_keys tables.pages) 0))
  rest-reply (Some o) i h = refl
  rest-reply None None h =
      ap (λ x. reply_of tables.pages (option_map_or (plan_of_inactive tables.pages tables.boot.params (first_written tables.pages tables.objects)) x PlanIdle)) h
      ∙ sym (ap (λ x. option_map_or (scan_inactive tables.boot past) (option_map page_of x) Idle) h)
  rest-reply None (Some key) h =
      ap (λ x. reply_of tables.pages (option_map_or (plan_of_inactive tables.pages tables.boot.params (first_written tables.pages tables.objects)) x PlanIdle)) h
      ∙ inactive-reply key h
      ∙ sym (ap (λ x. option_map_or (scan_inactive tables.boot past) (option_map page_of x) Idle) h)

  first-idle : option_map page_of (slice_get (inactive_keys tables.pages) 0) ≡ first_inactive tables.boot past
  first-idle = sym (slice_get-map page_of (inactive_keys tables.pages) 0) ∙ sym (first_inactive-is tables.boot past (map page_of (inactive_keys tables.pages)) s.pages.inactive_order)

  first-busy : option_map page_of (slice_get (active_keys tables.pages) 0) ≡ first_active tables.boot past
  first-busy = sym (slice_get-map page_of (active_keys tables.pages) 0) ∙ sym (first_active-is tables.boot past (map page_of (active_keys tables.pages)) s.pages.active_order)

  rest-is : reply_of tables.pages (plan_of_rest tables.pages tables.boot.params (picked tables.tokens tables.groups) (first_written tables.pages tables.objects)) ≡ scan_rest tables.boot past
  rest-is =
      rest-reply (picked tables.tokens tables.groups) (slice_get (inactive_keys tables.pages) 0) refl
      ∙ ap₂ (by_rest tables.boot past) (sym (pick-is tables past s)) first-idle

  -- the plan by the tables is the definition's
  pub plan-is : reply_of tables.pages (scan_plan tables.pages tables.boot.params (picked tables.tokens tables.groups) (first_written tables.pages tables.objects)) ≡ scan tables.boot past
  unfolding scan
  plan-is =
      let rest = plan_of_rest tables.pages tables.boot.params (picked tables.tokens tables.groups) (first_written tables.pages tables.objects) in
      reply_tests tables.pages (nat_le tables.boot.params.target (free_in tables.pages)) (nat_lt (length (inactive_keys tables.pages)) tables.boot.params.inactive) rest (slice_get (active_keys tables.pages) 0) refl
      ∙ ap₂ (λ n m. by_tests (nat_le tables.boot.params.target n) (nat_lt m tables.boot.params.inactive) (option_map page_of (slice_get (active_keys tables.pages) 0)) (reply_of tables.pages rest)) (free-is tables past s) (inactive-are tables past s)
      ∙ ap₂ (by_tests (nat_le tables.boot.params.target (free tables.boot past)) (nat_lt (inactive_pages tables.boot past) tables.boot.params.inactive)) first-busy rest-is
