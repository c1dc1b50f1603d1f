-- Pages that stand in places since entries, and of which one after another goes to another place or is marked.
use Rattle.std.proofs.Common.{◌≡◌, ℕ, ◌+◌, ◌<◌, List, [], ◌∷◌, ◌++◌, length, map, filter, set, get_or, cond, not, Some, nat_eq, refl, sym, ap, ap₂, ◌∙◌, subst, Bool, true, false, ◌&&◌, inl, inr, arith}
use Rattle.std.proofs.lemmas.Bool.{cases_Bool, false≢true}
use Rattle.std.proofs.lemmas.List.{append-nil, get_or-set_same, get_or-set_other}
use Rattle.kern_ids.specs.declared.entries.Entry.{Entry}
use Rattle.kern_ids.specs.declared.ids.PageId.{PageId}
use Rattle.kernel_model.specs.declared.place.Place.{Place}
use Rattle.kernel_model.specs.declared.place.Place.TheVariants.{Absent, Active, Inactive, Stored}
use Rattle.kernel_model.specs.declared.place.Placed.{Placed}
use Rattle.kernel_model.specs.System.{System}
use Rattle.kernel_model.specs.Lists.{pair_lt}
use Rattle.kernel_model.specs.Pages.{place, placed, pages_of, same_page, is_active, is_inactive, is_stored, touched_since, entered}
use Rattle.kernel_model.specs.Scan.{stamp_lt}
use Rattle.kernel_model.specs.Laws.Order.{Has, Keeps}
use Rattle.kernel_model.specs.Laws.Present.{is_absent}
use Rattle.kernel_model.proofs.Laws.Order.{keeps-renew, keeps-same}
use Rattle.kernel_model.proofs.Laws.Frames.{same_page-is}
use Rattle.link_list.specs.KeyLists.{list_at, without}
use Rattle.page_queues.specs.Pages.{Pages, key_of, page_of, is_marked, active as active_keys, inactive as inactive_keys, stored as stored_keys, place as place_in, place_at, placed as placed_in, absented}
use Rattle.kernel_tables.specs.Stands.{PagesStand}
use Rattle.kernel_tables.specs.Moves.{touched}
use Rattle.kernel_tables.proofs.Lists.{placed-at, removed-at}
use Rattle.kernel_tables.proofs.PageKeys.{map-moved, other-key, place-taken_other, place-taken_same, place-moved_other, place-moved_same, unmarked}

-- where pages stand, and since which entry
abbrev pub stamped : (PageId → Placed) → PageId → ℕ × ℕ
stamped f p = ((f p).number, p.page)

abbrev pub KeepsBy : System → (PageId → Placed) → (Place → Bool) → List PageId → Type 0
KeepsBy boot f k ps = Keeps (pages_of boot) (λ p. k (f p).place) (λ p q. pair_lt (stamped f p) (stamped f q)) ps

-- the queues have the pages that stand so, and the marks of those that were touched
pub record PagesHold (boot : System) (f : PageId → Placed) (g : PageId → Bool) (pages : Pages) : Type 0 where
  pub places : (p : PageId) → Has (pages_of boot) p → place_in pages p ≡ (f p).place
  pub active_order : KeepsBy boot f is_active (map page_of (active_keys pages))
  pub inactive_order : KeepsBy boot f is_inactive (map page_of (inactive_keys pages))
  pub stored_order : KeepsBy boot f is_stored (map page_of (stored_keys pages))
  pub marks : (p : PageId) → Has (pages_of boot) p → is_marked pages (key_of p) ≡ (is_inactive (f p).place && g p)

present-active : (x : Place) → is_active x ≡ true → is_absent x ≡ false
present-active Active h = refl
present-active Absent h = absurd (false≢true h)
present-active Inactive h = absurd (false≢true h)
present-active Stored h = absurd (false≢true h)

pub present-inactive : (x : Place) → is_inactive x ≡ true → is_absent x ≡ false
present-inactive Inactive h = refl
present-inactive Absent h = absurd (false≢true h)
present-inactive Active h = absurd (false≢true h)
present-inactive Stored h = absurd (false≢true h)

present-stored : (x : Place) → is_stored x ≡ true → is_absent x ≡ false
present-stored Stored h = refl
present-stored Absent h = absurd (false≢true h)
present-stored Active h = absurd (false≢true h)
present-stored Inactive h = absurd (false≢true h)

-- One page goes from its place to another one, last of all: the order of the pages in one place.
module _ (boot : System) (f f' : PageId → Placed) (p : PageId) (other : (q : PageId) → same_page p q ≡ false → f' q ≡ f q) where
  pages-moved : (k : Place → Bool) (comes : Bool) (ps : List PageId) → Has (pages_of boot) p → k (f' p).place ≡ comes → ((q : PageId) → same_page p q ≡ false → k (f q).place ≡ true → pair_lt (stamped f q) (stamped f' p) ≡ true) → KeepsBy boot f k ps → KeepsBy boot f' k (filter (λ q. not (same_page p q)) ps ++ cond comes (p ∷ []) [])
  pages-moved k true ps w at behind h =
      keeps-renew (pages_of boot) (λ q. k (f q).place) (λ q. k (f' q).place) (λ q r. pair_lt (stamped f q) (stamped f r)) (λ q r. pair_lt (stamped f' q) (stamped f' r)) (same_page p) ps (p ∷ [])
      (λ q m. ap (λ (x : Placed). k x.place) (other q m))
      (λ q v t m. inl (sym (same_page-is p q m)))
      (λ q m. elim m [ inl e ↦ subst (λ x. Has (pages_of boot) x × (k (f' x).place ≡ true)) e (w, at) | inr none ↦ absurd none ])
      (λ q r mq mr hq hr. ap₂ (λ (x y : Placed). pair_lt (x.number, q.page) (y.number, r.page)) (other q mq) (other r mr))
      (λ q r mq hq m. elim m [ inl e ↦ subst (λ x. pair_lt (stamped f' q) (stamped f' x) ≡ true) e (ap (λ (x : Placed). pair_lt (x.number, q.page) (stamped f' p)) (other q mq) ∙ behind q mq hq) | inr none ↦ absurd none ])
      ((λ q m. absurd m), tt) h
  pages-moved k false ps w at behind h =
      keeps-renew (pages_of boot) (λ q. k (f q).place) (λ q. k (f' q).place) (λ q r. pair_lt (stamped f q) (stamped f r)) (λ q r. pair_lt (stamped f' q) (stamped f' r)) (same_page p) ps []
      (λ q m. ap (λ (x : Placed). k x.place) (other q m))
      (λ q v t m. absurd (false≢true (sym (ap (λ x. k (f' x).place) (same_page-is p q m) ∙ at) ∙ t)))
      (λ q m. absurd m)
      (λ q r mq mr hq hr. ap₂ (λ (x y : Placed). pair_lt (x.number, q.page) (y.number, r.page)) (other q mq) (other r mr))
      (λ q r mq hq m. absurd m)
      tt h

  order-moved : (k : Place → Bool) (comes : Bool) (keys new : List ℕ) → Has (pages_of boot) p → p.page < 256 → k (f' p).place ≡ comes → ((q : PageId) → same_page p q ≡ false → k (f q).place ≡ true → pair_lt (stamped f q) (stamped f' p) ≡ true) → new ≡ without (key_of p) keys ++ cond comes (key_of p ∷ []) [] → KeepsBy boot f k (map page_of keys) → KeepsBy boot f' k (map page_of new)
  order-moved k comes keys new w l at behind is h =
      subst (KeepsBy boot f' k) (sym (ap (map page_of) is ∙ map-moved p keys comes l)) (pages-moved k comes (map page_of keys) w at behind h)

-- The queues after one page went to another place, last of all, and lost its mark.
module _ (boot : System) (f f' : PageId → Placed) (g g' : PageId → Bool) (p : PageId) (small : (q : PageId) → Has (pages_of boot) q → q.page < 256) (w : Has (pages_of boot) p) (other : (q : PageId) → same_page p q ≡ false → f' q ≡ f q) (others : (q : PageId) → same_page p q ≡ false → g' q ≡ g q) (unmarks : (is_inactive (f' p).place && g' p) ≡ false) (behind : (q : PageId) → same_page p q ≡ false → is_absent (f q).place ≡ false → pair_lt (stamped f q) (stamped f' p) ≡ true) where
  hold-step : (pages new : Pages) (a i s : Bool)
      → list_at new.queues 0 ≡ without (key_of p) (active_keys pages) ++ cond a (key_of p ∷ []) []
      → list_at new.queues 1 ≡ without (key_of p) (inactive_keys pages) ++ cond i (key_of p ∷ []) []
      → list_at new.queues 2 ≡ without (key_of p) (stored_keys pages) ++ cond s (key_of p ∷ []) []
      → is_active (f' p).place ≡ a → is_inactive (f' p).place ≡ i → is_stored (f' p).place ≡ s
      → place_in new p ≡ (f' p).place
      → ((q : PageId) → (key_of q ≡ key_of p → ⊥) → place_in new q ≡ place_in pages q)
      → new.marks ≡ set pages.marks (key_of p) false
      → PagesHold boot f g pages → PagesHold boot f' g' new
  hold-step pages new a i s qa qi qs ea ei es here there marks h = record {
    places = λ q m. elim (cases_Bool (same_page p q)) [
      | inl same ↦ subst (λ r. place_in new r ≡ (f' r).place) (sym (same_page-is p q same)) here
      | inr off ↦ there q (other-key p q (small p w) (small q m) off) ∙ h.places q m ∙ sym (ap (λ (x : Placed). x.place) (other q off))
    ];
    active_order = order-moved boot f f' p other is_active a (active_keys pages) (active_keys new) w (small p w) ea (λ q off k. behind q off (present-active (f q).place k)) qa h.active_order;
    inactive_order = order-moved boot f f' p other is_inactive i (inactive_keys pages) (inactive_keys new) w (small p w) ei (λ q off k. behind q off (present-inactive (f q).place k)) qi h.inactive_order;
    stored_order = order-moved boot f f' p other is_stored s (stored_keys pages) (stored_keys new) w (small p w) es (λ q off k. behind q off (present-stored (f q).place k)) qs h.stored_order;
    marks = λ q m. elim (cases_Bool (same_page p q)) [
      | inl same ↦ subst (λ r. is_marked new (key_of r) ≡ (is_inactive (f' r).place && g' r)) (sym (same_page-is p q same)) (ap (λ ms. get_or ms (key_of p) false) marks ∙ unmarked pages.marks (key_of p) ∙ sym unmarks)
      | inr off ↦
          ap (λ ms. get_or ms (key_of q) false) marks
          ∙ get_or-set_other pages.marks (key_of p) (key_of q) false false (other-key p q (small p w) (small q m) off)
          ∙ h.marks q m
          ∙ sym (ap₂ (λ (x : Placed) b. is_inactive x.place && b) (other q off) (others q off))
    ];
  }

  pub hold-placed : (pages : Pages) (l : ℕ) → l < 3 → length pages.queues ≡ 3 → (f' p).place ≡ place_at (Some l) → is_active (f' p).place ≡ nat_eq l 0 → is_inactive (f' p).place ≡ nat_eq l 1 → is_stored (f' p).place ≡ nat_eq l 2 → PagesHold boot f g pages → PagesHold boot f' g' (placed_in pages (key_of p) l)
  hold-placed pages l below three at ea ei es h =
      let inside : l < length pages.queues = omega arith in
      hold-step pages (placed_in pages (key_of p) l) (nat_eq l 0) (nat_eq l 1) (nat_eq l 2)
      (placed-at pages.queues (key_of p) l 0 inside)
      (placed-at pages.queues (key_of p) l 1 inside)
      (placed-at pages.queues (key_of p) l 2 inside)
      ea ei es
      (ap place_at (place-moved_same pages.queues (key_of p) l three below) ∙ sym at)
      (λ q differs. ap place_at (place-moved_other pages.queues (key_of q) (key_of p) l three below differs))
      refl h

  pub hold-absented : (pages : Pages) → length pages.queues ≡ 3 → (f' p).place ≡ Absent → PagesHold boot f g pages → PagesHold boot f' g' (absented pages (key_of p))
  hold-absented pages three at h =
      hold-step pages (absented pages (key_of p)) false false false
      (removed-at pages.queues (key_of p) 0 ∙ sym (append-nil (without (key_of p) (active_keys pages))))
      (removed-at pages.queues (key_of p) 1 ∙ sym (append-nil (without (key_of p) (inactive_keys pages))))
      (removed-at pages.queues (key_of p) 2 ∙ sym (append-nil (without (key_of p) (stored_keys pages))))
      (ap is_active at) (ap is_inactive at) (ap is_stored at)
      (ap place_at (place-taken_same pages.queues (key_of p) three) ∙ sym at)
      (λ q differs. ap place_at (place-taken_other pages.queues (key_of q) (key_of p) three differs))
      refl h

-- the same said of the same places
pub hold-agree : (boot : System) (f f' : PageId → Placed) (g g' : PageId → Bool) (pages : Pages) → ((q : PageId) → f' q ≡ f q) → ((q : PageId) → (is_inactive (f' q).place && g' q) ≡ (is_inactive (f q).place && g q)) → PagesHold boot f g pages → PagesHold boot f' g' pages
hold-agree boot f f' g g' pages same touched h =
    let order : (k : Place → Bool) (ps : List PageId) → KeepsBy boot f k ps → KeepsBy boot f' k ps = λ k ps o. keeps-same (pages_of boot) (λ q. k (f q).place) (λ q. k (f' q).place) (λ q r. pair_lt (stamped f q) (stamped f r)) (λ q r. pair_lt (stamped f' q) (stamped f' r)) ps (λ q. ap (λ (x : Placed). k x.place) (same q)) (λ q r hq hr. ap₂ (λ (x y : Placed). pair_lt (x.number, q.page) (y.number, r.page)) (same q) (same r)) o in
    record {
      places = λ q m. h.places q m ∙ sym (ap (λ (x : Placed). x.place) (same q));
      active_order = order is_active (map page_of (active_keys pages)) h.active_order;
      inactive_order = order is_inactive (map page_of (inactive_keys pages)) h.inactive_order;
      stored_order = order is_stored (map page_of (stored_keys pages)) h.stored_order;
      marks = λ q m. h.marks q m ∙ sym (touched q);
    }

-- a mark more
pub hold-marked : (boot : System) (f : PageId → Placed) (g g' : PageId → Bool) (pages : Pages) (p : PageId) → ((q : PageId) → Has (pages_of boot) q → q.page < 256) → Has (pages_of boot) p → key_of p < length pages.marks → ((q : PageId) → same_page p q ≡ false → g' q ≡ g q) → (is_inactive (f p).place && g' p) ≡ true → PagesHold boot f g pages → PagesHold boot f g' (record pages { marks = set pages.marks (key_of p) true })
hold-marked boot f g g' pages p small w inside others marks h = record {
  places = h.places;
  active_order = h.active_order;
  inactive_order = h.inactive_order;
  stored_order = h.stored_order;
  marks = λ q m. elim (cases_Bool (same_page p q)) [
    | inl same ↦ subst (λ r. get_or (set pages.marks (key_of p) true) (key_of r) false ≡ (is_inactive (f r).place && g' r)) (sym (same_page-is p q same)) (get_or-set_same pages.marks (key_of p) true false inside ∙ sym marks)
    | inr off ↦
        get_or-set_other pages.marks (key_of p) (key_of q) true false (other-key p q (small p w) (small q m) off)
        ∙ h.marks q m
        ∙ sym (ap (λ b. is_inactive (f q).place && b) (others q off))
  ];
}

-- the pages as they stand over a history
pub hold-stands : (boot : System) (past : List Entry) (pages : Pages) (n : ℕ) → PagesStand boot past pages n → PagesHold boot (placed boot past) (touched_since boot past) pages
unfolding stamp_lt
hold-stands boot past pages n s = record {
  places = s.places;
  active_order = s.active_order;
  inactive_order = s.inactive_order;
  stored_order = s.stored_order;
  marks = s.marks;
}

pub stands-hold : (boot : System) (past : List Entry) (pages : Pages) (n : ℕ) → pages.frames ≡ boot.params.frames → pages.sizes ≡ map (λ object. object.pages) boot.objects → n ≡ entered past → PagesHold boot (placed boot past) (touched_since boot past) pages → PagesStand boot past pages n
unfolding stamp_lt
stands-hold boot past pages n frames sizes counted h = record {
  frames = frames;
  page_sizes = sizes;
  places = h.places;
  active_order = h.active_order;
  inactive_order = h.inactive_order;
  stored_order = h.stored_order;
  marks = h.marks;
  entered = counted;
}
