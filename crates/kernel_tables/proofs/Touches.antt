-- A page is touched: it is marked where it is Inactive, and becomes Active where it has no frame.
use Rattle.std.proofs.Common.{◌≡◌, ℕ, ◌+◌, ◌-◌, ◌*◌, ◌/◌, ◌<◌, ◌≤◌, List, [], ◌∷◌, ◌++◌, length, set, not, if◌then◌else◌, nat_eq, count_by, refl, sym, ap, ap₂, ◌∙◌, subst, Bool, true, false, ◌&&◌, ◌||◌, inl, inr, ◌⊎◌, arith, length-append}
use Rattle.std.proofs.lemmas.Bool.{cases_Bool, cases_eq, cases_lt, false≢true, eq-eqb, ne_eqb, lt-ltb, le-ltb}
use Rattle.kern_ids.specs.declared.ids.PageId.{PageId}
use Rattle.kernel_model.specs.declared.place.Place.{Place}
use Rattle.kernel_model.specs.declared.place.Place.TheVariants.{Absent, Active, Inactive, Stored}
use Rattle.kernel_model.specs.declared.place.Placed.{Placed}
use Rattle.kernel_model.specs.System.{System}
use Rattle.kernel_model.specs.Lists.{pair_lt}
use Rattle.kernel_model.specs.Events.{reaches_page}
use Rattle.kernel_model.specs.Pages.{pages_of, same_page, is_out, is_active, is_inactive, is_stored}
use Rattle.kernel_model.specs.Laws.Frames.{bit}
use Rattle.kernel_model.specs.Laws.Order.{Has}
use Rattle.kernel_model.proofs.Laws.Agree.{count_by-cons}
use Rattle.kernel_model.proofs.Laws.Frames.{same_page-is}
use Rattle.kernel_model.specs.Laws.Present.{is_absent}
use Rattle.link_list.specs.KeyLists.{list_at, without}
use Rattle.std.proofs.lemmas.List.{length-map, length-set}
use Rattle.page_queues.specs.Tallies.{taken}
use Rattle.page_queues.specs.Pages.{Pages, key_of, active as active_keys, inactive as inactive_keys, place as place_in, placed as placed_in, is_out as lacks_frame, is_inactive as stands_inactive}
use Rattle.page_queues.proofs.KeptLemmas.{length-without_le}
use Rattle.kernel_tables.specs.Moves.{touched, place_touched}
use Rattle.kernel_tables.proofs.PageCharges.{has-counted}
use Rattle.kernel_tables.proofs.Lists.{placed-at}
use Rattle.kernel_tables.proofs.PageKeys.{same_itself}
use Rattle.kernel_tables.proofs.PageMoves.{PagesHold, stamped, hold-placed, hold-marked, hold-agree}

abbrev pub put_at : Place → ℕ → Placed
put_at x n = record { place = x; number = n }

-- where pages stand after a touch of p by entry n, and which were touched
abbrev pub faulted_at : ℕ → PageId → (PageId → Placed) → PageId → Placed
faulted_at n p f q = if same_page p q && is_out (f q).place then put_at Active n else f q

abbrev pub marked_at : PageId → (PageId → Placed) → (PageId → Bool) → PageId → Bool
marked_at p f g q = (same_page p q && is_inactive (f q).place) || g q

-- the parts' words for places are the definitions'
pub same-out : (x : Place) → lacks_frame x ≡ is_out x
same-out Absent = refl
same-out Active = refl
same-out Inactive = refl
same-out Stored = refl

pub same-inactive : (x : Place) → stands_inactive x ≡ is_inactive x
same-inactive Absent = refl
same-inactive Active = refl
same-inactive Inactive = refl
same-inactive Stored = refl

inactive-in : (x : Place) → is_inactive x ≡ true → is_out x ≡ false
inactive-in Inactive h = refl
inactive-in Absent h = absurd (false≢true h)
inactive-in Active h = absurd (false≢true h)
inactive-in Stored h = absurd (false≢true h)

module _ (n : ℕ) (p : PageId) (f : PageId → Placed) where
  pub faulted-other : (q : PageId) → same_page p q ≡ false → faulted_at n p f q ≡ f q
  faulted-other q off = ap (λ b. if b && is_out (f q).place then put_at Active n else f q) off

  pub faulted-here : is_out (f p).place ≡ true → faulted_at n p f p ≡ put_at Active n
  faulted-here out = ap₂ (λ a b. if a && b then put_at Active n else f p) (same_itself p) out

  pub faulted-stays : is_out (f p).place ≡ false → (q : PageId) → faulted_at n p f q ≡ f q
  faulted-stays held q = elim (cases_Bool (same_page p q)) [
    | inl same ↦ subst (λ r. faulted_at n p f r ≡ f r) (sym (same_page-is p q same)) (ap₂ (λ a b. if a && b then put_at Active n else f p) (same_itself p) held)
    | inr off ↦ faulted-other q off
  ]

  -- its place is that after a touch
  pub faulted-place : (faulted_at n p f p).place ≡ place_touched (f p).place
  faulted-place = elim (cases_Bool (is_out (f p).place)) [
    | inl out ↦ ap (λ (x : Placed). x.place) (faulted-here out) ∙ sym (ap (λ b. if b then Active else (f p).place) (same-out (f p).place ∙ out))
    | inr held ↦ ap (λ (x : Placed). x.place) (faulted-stays held p) ∙ sym (ap (λ b. if b then Active else (f p).place) (same-out (f p).place ∙ held))
  ]

-- the queues after a touch
module _ (boot : System) (n : ℕ) (p : PageId) (f : PageId → Placed) (g : PageId → Bool) (pages : Pages) (small : (q : PageId) → Has (pages_of boot) q → q.page < 256) (w : Has (pages_of boot) p) (three : length pages.queues ≡ 3) (inside : key_of p < length pages.marks) (behind : (q : PageId) → same_page p q ≡ false → is_absent (f q).place ≡ false → pair_lt (stamped f q) (n, p.page) ≡ true) (h : PagesHold boot f g pages) where
  lacks : (b : Bool) → is_out (f p).place ≡ b → lacks_frame (place_in pages p) ≡ b
  lacks b is = same-out (place_in pages p) ∙ ap is_out (h.places p w) ∙ is

  stands : (b : Bool) → is_inactive (f p).place ≡ b → stands_inactive (place_in pages p) ≡ b
  stands b is = same-inactive (place_in pages p) ∙ ap is_inactive (h.places p w) ∙ is

  marked-other : (q : PageId) → same_page p q ≡ false → marked_at p f g q ≡ g q
  marked-other q off = ap (λ b. (b && is_inactive (f q).place) || g q) off

  touched-out : is_out (f p).place ≡ true → PagesHold boot (faulted_at n p f) (marked_at p f g) (touched pages p)
  touched-out out =
      let here = faulted-here n p f out in
      let at : (faulted_at n p f p).place ≡ Active = ap (λ (x : Placed). x.place) here in
      subst (PagesHold boot (faulted_at n p f) (marked_at p f g)) (sym (ap (λ b. if b then placed_in pages (key_of p) 0 else if stands_inactive (place_in pages p) then record pages { marks = set pages.marks (key_of p) true } else pages) (lacks true out)))
      (hold-placed boot f (faulted_at n p f) g (marked_at p f g) p small w (faulted-other n p f) marked-other
      (ap (λ (x : Placed). is_inactive x.place && marked_at p f g p) here)
      (λ q off k. subst (λ (x : Placed). pair_lt (stamped f q) (x.number, p.page) ≡ true) (sym here) (behind q off k))
      pages 0 (omega arith) three at (ap is_active at) (ap is_inactive at) (ap is_stored at) h)

  touched-marked : is_inactive (f p).place ≡ true → PagesHold boot (faulted_at n p f) (marked_at p f g) (touched pages p)
  touched-marked idle =
      let held = inactive-in (f p).place idle in
      let stays = faulted-stays n p f held in
      subst (PagesHold boot (faulted_at n p f) (marked_at p f g)) (sym (ap₂ (λ a b. if a then placed_in pages (key_of p) 0 else if b then record pages { marks = set pages.marks (key_of p) true } else pages) (lacks false held) (stands true idle)))
      (hold-agree boot f (faulted_at n p f) (marked_at p f g) (marked_at p f g) (record pages { marks = set pages.marks (key_of p) true }) stays
      (λ q. ap (λ (x : Placed). is_inactive x.place && marked_at p f g q) (stays q))
      (hold-marked boot f g (marked_at p f g) pages p small w inside marked-other (ap₂ (λ a b. b && ((a && b) || g p)) (same_itself p) idle) h))

  touched-kept : is_out (f p).place ≡ false → is_inactive (f p).place ≡ false → PagesHold boot (faulted_at n p f) (marked_at p f g) (touched pages p)
  touched-kept held busy =
      let stays = faulted-stays n p f held in
      subst (PagesHold boot (faulted_at n p f) (marked_at p f g)) (sym (ap₂ (λ a b. if a then placed_in pages (key_of p) 0 else if b then record pages { marks = set pages.marks (key_of p) true } else pages) (lacks false held) (stands false busy)))
      (hold-agree boot f (faulted_at n p f) g (marked_at p f g) pages stays
      (λ q. ap (λ (x : Placed). is_inactive x.place && marked_at p f g q) (stays q) ∙ elim (cases_Bool (same_page p q)) [
        | inl same ↦ subst (λ r. (is_inactive (f r).place && marked_at p f g r) ≡ (is_inactive (f r).place && g r)) (sym (same_page-is p q same)) (ap (λ b. b && marked_at p f g p) busy ∙ sym (ap (λ b. b && g p) busy))
        | inr off ↦ ap (λ b. is_inactive (f q).place && b) (marked-other q off)
      ])
      h)

  pub hold-touched : PagesHold boot (faulted_at n p f) (marked_at p f g) (touched pages p)
  hold-touched = elim (cases_Bool (is_out (f p).place)) [
    | inl out ↦ touched-out out
    | inr held ↦ elim (cases_Bool (is_inactive (f p).place)) [ inl idle ↦ touched-marked idle | inr busy ↦ touched-kept held busy ]
  ]

-- what a touch leaves of the pages' sizes, and the frames that it takes
abbrev pub in_frames : Pages → ℕ
in_frames pages = length (active_keys pages) + length (inactive_keys pages)

pub record IsTouched (pages now : Pages) (out : Bool) : Type 0 where
  pub frames : now.frames ≡ pages.frames
  pub sizes : now.sizes ≡ pages.sizes
  pub three : length now.queues ≡ 3
  pub marks : length now.marks ≡ length pages.marks
  pub taken : in_frames now ≤ in_frames pages + bit out

placed_frames : (pages : Pages) (key : ℕ) → length pages.queues ≡ 3 → in_frames (placed_in pages key 0) ≤ in_frames pages + 1
placed_frames pages key three =
    let inside : 0 < length pages.queues = omega arith in
    let a : length (list_at (placed_in pages key 0).queues 0) ≡ length (without key (active_keys pages) ++ key ∷ []) = ap length (placed-at pages.queues key 0 0 inside) in
    let i : length (list_at (placed_in pages key 0).queues 1) ≡ length (without key (inactive_keys pages) ++ []) = ap length (placed-at pages.queues key 0 1 inside) in
    let b : length (without key (active_keys pages) ++ key ∷ []) ≡ length (without key (active_keys pages)) + 1 = length-append (without key (active_keys pages)) (key ∷ []) in
    let j : length (without key (inactive_keys pages) ++ []) ≡ length (without key (inactive_keys pages)) + 0 = length-append (without key (inactive_keys pages)) [] in
    let c = length-without_le key (active_keys pages) in
    let k = length-without_le key (inactive_keys pages) in
    omega arith

touched_by : (pages : Pages) (p : PageId) (out idle : Bool) → length pages.queues ≡ 3 → IsTouched pages (if out then placed_in pages (key_of p) 0 else if idle then record pages { marks = set pages.marks (key_of p) true } else pages) out
touched_by pages p true idle three = record {
  frames = refl;
  sizes = refl;
  three = length-set (taken pages.queues (key_of p)) 0 (list_at (taken pages.queues (key_of p)) 0 ++ key_of p ∷ []) ∙ length-map pages.queues (without (key_of p)) ∙ three;
  marks = length-set pages.marks (key_of p) false;
  taken = placed_frames pages (key_of p) three;
}
touched_by pages p false true three = record { frames = refl; sizes = refl; three = three; marks = length-set pages.marks (key_of p) true; taken = omega arith }
touched_by pages p false false three = record { frames = refl; sizes = refl; three = three; marks = refl; taken = omega arith }

pub is-touched : (pages : Pages) (p : PageId) → length pages.queues ≡ 3 → IsTouched pages (touched pages p) (lacks_frame (place_in pages p))
is-touched pages p three = touched_by pages p (lacks_frame (place_in pages p)) (stands_inactive (place_in pages p)) three

-- A range of 1 to 256 bytes has one page, or two.
pub reaches-is : (off len k : ℕ) → 0 < len → len ≤ 256 → reaches_page off len k ≡ (nat_eq (off / 4096) k || nat_eq ((off + len - 1) / 4096) k)
reaches-is off len k some few = elim (cases_eq (off / 4096) k) [
  | inl first ↦ rw (lt-ltb off (4096 * (k + 1)) (omega arith), lt-ltb (4096 * k) (off + len) (omega arith), lt-ltb 0 len some, eq-eqb (off / 4096) k first) refl
  | inr later ↦ elim (cases_eq ((off + len - 1) / 4096) k) [
    | inl last ↦ rw (lt-ltb off (4096 * (k + 1)) (omega arith), lt-ltb (4096 * k) (off + len) (omega arith), lt-ltb 0 len some, ne_eqb (off / 4096) k later, eq-eqb ((off + len - 1) / 4096) k last) refl
    | inr apart ↦ elim (cases_lt off (4096 * (k + 1))) [
      | inl begins ↦ rw (ne_eqb (off / 4096) k later, ne_eqb ((off + len - 1) / 4096) k apart, lt-ltb off (4096 * (k + 1)) begins, le-ltb (4096 * k) (off + len) (not_between off len k some few later apart begins)) refl
      | inr after ↦ rw (ne_eqb (off / 4096) k later, ne_eqb ((off + len - 1) / 4096) k apart, le-ltb off (4096 * (k + 1)) after) refl
    ]
  ]
]
  where
    between : (off len k : ℕ) → 0 < len → len ≤ 256 → off < 4096 * (k + 1) → 4096 * k < off + len → (off / 4096 ≡ k) ⊎ ((off + len - 1) / 4096 ≡ k)
    between off len k some few begins ends = elim (cases_lt off (4096 * k)) [
      | inl below ↦ inr (omega arith)
      | inr above ↦ inl (omega arith)
    ]

    not_between : (off len k : ℕ) → 0 < len → len ≤ 256 → (off / 4096 ≡ k → ⊥) → ((off + len - 1) / 4096 ≡ k → ⊥) → off < 4096 * (k + 1) → off + len ≤ 4096 * k
    not_between off len k some few later apart begins = elim (cases_lt (4096 * k) (off + len)) [
      | inl ends ↦ absurd (elim (between off len k some few begins ends) [ inl first ↦ later first | inr last ↦ apart last ])
      | inr past ↦ past
    ]

-- two elements that pass are counted twice
pub two-counted : {A : Type 0} (f : A → Bool) (xs : List A) (x y : A) → (x ≡ y → ⊥) → Has xs x → Has xs y → bit (f x) + bit (f y) ≤ count_by f xs
two-counted f [] x y d hx hy = absurd hx
two-counted f (z ∷ zs) x y d (inl ex) (inl ey) = absurd (d (sym ex ∙ ey))
two-counted f (z ∷ zs) x y d (inl ex) (inr my) = let c : count_by f (z ∷ zs) ≡ bit (f z) + count_by f zs = count_by-cons f z zs in let s : bit (f z) ≡ bit (f x) = ap (λ v. bit (f v)) ex in let r : bit (f y) ≤ count_by f zs = has-counted f zs y my in omega arith
two-counted f (z ∷ zs) x y d (inr mx) (inl ey) = let c : count_by f (z ∷ zs) ≡ bit (f z) + count_by f zs = count_by-cons f z zs in let s : bit (f z) ≡ bit (f y) = ap (λ v. bit (f v)) ey in let r : bit (f x) ≤ count_by f zs = has-counted f zs x mx in omega arith
two-counted f (z ∷ zs) x y d (inr mx) (inr my) = let c : count_by f (z ∷ zs) ≡ bit (f z) + count_by f zs = count_by-cons f z zs in let r = two-counted f zs x y d mx my in omega arith

-- Two touches after one another: pages are placed as by one entry that touches both, and the same are marked.

abbrev fault_if : Bool → ℕ → Placed → Placed
fault_if b n was = if b && is_out was.place then put_at Active n else was

twice_faulted : (x : Place) (m n : ℕ) (a b : Bool) → fault_if b n (fault_if a n (put_at x m)) ≡ fault_if (a || b) n (put_at x m)
twice_faulted Absent m n true true = refl
twice_faulted Absent m n true false = refl
twice_faulted Absent m n false true = refl
twice_faulted Absent m n false false = refl
twice_faulted Active m n true true = refl
twice_faulted Active m n true false = refl
twice_faulted Active m n false true = refl
twice_faulted Active m n false false = refl
twice_faulted Inactive m n true true = refl
twice_faulted Inactive m n true false = refl
twice_faulted Inactive m n false true = refl
twice_faulted Inactive m n false false = refl
twice_faulted Stored m n true true = refl
twice_faulted Stored m n true false = refl
twice_faulted Stored m n false true = refl
twice_faulted Stored m n false false = refl

twice_marked : (x : Place) (m n : ℕ) (a b g : Bool) → (is_inactive (fault_if (a || b) n (put_at x m)).place && (if a || b then not (is_out x) else g)) ≡ (is_inactive (fault_if b n (fault_if a n (put_at x m))).place && ((b && is_inactive (fault_if a n (put_at x m)).place) || ((a && is_inactive x) || g)))
twice_marked Absent m n true true g = refl
twice_marked Absent m n true false g = refl
twice_marked Absent m n false true g = refl
twice_marked Absent m n false false g = refl
twice_marked Active m n true true g = refl
twice_marked Active m n true false g = refl
twice_marked Active m n false true g = refl
twice_marked Active m n false false g = refl
twice_marked Inactive m n true true g = refl
twice_marked Inactive m n true false g = refl
twice_marked Inactive m n false true g = refl
twice_marked Inactive m n false false g = refl
twice_marked Stored m n true true g = refl
twice_marked Stored m n true false g = refl
twice_marked Stored m n false true g = refl
twice_marked Stored m n false false g = refl

pub touched-twice : (n : ℕ) (p r : PageId) (f : PageId → Placed) (q : PageId) → faulted_at n r (faulted_at n p f) q ≡ (if (same_page p q || same_page r q) && is_out (f q).place then put_at Active n else f q)
touched-twice n p r f q = twice_faulted (f q).place (f q).number n (same_page p q) (same_page r q)

pub marked-twice : (n : ℕ) (p r : PageId) (f : PageId → Placed) (g : PageId → Bool) (q : PageId) → (is_inactive (if (same_page p q || same_page r q) && is_out (f q).place then put_at Active n else f q).place && (if same_page p q || same_page r q then not (is_out (f q).place) else g q)) ≡ (is_inactive (faulted_at n r (faulted_at n p f) q).place && marked_at r (faulted_at n p f) (marked_at p f g) q)
marked-twice n p r f g q = twice_marked (f q).place (f q).number n (same_page p q) (same_page r q) (g q)
