-- An access to a range of bytes of an object touches the pages of its first and its last byte: what the tables are afterwards.
use Rattle.std.proofs.Common.{◌≡◌, ℕ, ◌+◌, ◌-◌, ◌*◌, ◌/◌, ◌<◌, ◌≤◌, List, [], ◌∷◌, length, map, not, if◌then◌else◌, get_or, Some, None, nat_eq, count_by, refl, sym, ap, ap₂, ◌∙◌, subst, Bool, true, false, ◌&&◌, ◌||◌, inl, inr, arith, zero-le}
use Rattle.std.specs.Option.{option_map_or}
use Rattle.std.specs.List.{range_with_len}
use Rattle.std.proofs.lemmas.Bool.{cases_Bool, cases_lt, true≢false, eq-eqb, lt-ltb, or_right}
use Rattle.std.proofs.lemmas.Bool.Decides.{nat_tests}
use Rattle.std.proofs.lemmas.List.{length-map}
use Rattle.kern_ids.specs.declared.entries.Entry.{Entry}
use Rattle.kern_ids.specs.declared.ids.PageId.{PageId}
use Rattle.kernel_model.specs.declared.boot.ObjBoot.{ObjBoot}
use Rattle.kernel_model.specs.declared.place.Place.{Place}
use Rattle.kernel_model.specs.declared.place.Place.TheVariants.{Absent, Active, Inactive, Stored}
use Rattle.kernel_model.specs.declared.place.Placed.{Placed}
use Rattle.kernel_model.specs.System.{System}
use Rattle.kernel_model.specs.Valid.{IsValidBoot}
use Rattle.kernel_model.specs.Lists.{pair_lt}
use Rattle.kernel_model.specs.Events.{reaches_page}
use Rattle.kernel_model.specs.Pages.{place, placed, pages_of, pages_in, same_page, is_out, is_active, is_inactive, touches, touched_since, move_of, entered, left, free, inactive_pages, active_pages, is_deactivation}
use Rattle.kernel_model.specs.Answers.{needed}
use Rattle.kernel_model.specs.Histories.{IsLegal}
use Rattle.kernel_model.specs.Laws.Frames.{bit}
use Rattle.kernel_model.specs.Laws.Order.{Has}
use Rattle.kernel_model.proofs.Laws.Agree.{count_by-agree}
use Rattle.kernel_model.proofs.Laws.Frames.{same_page-is}
use Rattle.kernel_model.proofs.Laws.Kept.{entered-kept}
use Rattle.kernel_model.proofs.Laws.Kinds.{placed-faulted, placed-stays, touched_since-touched}
use Rattle.kernel_model.proofs.Laws.Pages.{free-is, left-is}
use Rattle.kernel_model.proofs.Laws.Queues.{pair_lt-newer, range-has}
use Rattle.kernel_model.proofs.Laws.Untouched.{pages-has}
use Rattle.kernel_model.specs.Laws.Present.{is_absent}
use Rattle.kernel_model.proofs.Laws.Present.{placed-since}
use Rattle.page_queues.specs.Pages.{Pages, IsPage, key_of, page_of, active as active_keys, inactive as inactive_keys, place as place_in, free as free_in, is_out as lacks_frame}
use Rattle.vm_object.specs.Objects.{Object, object_at, owner as owner_in}
use Rattle.task_ledger.specs.declared.account.Account.{Account}
use Rattle.kernel_tables.specs.Values.{TableValues}
use Rattle.kernel_tables.specs.Stands.{Stands, PagesStand, ObjectsStand, AccountsStand}
use Rattle.kernel_tables.specs.Moves.{recharged, touched, place_touched, touched_range, charged_touch, charged_range, first_page, last_page, IsChargeable, IsRange, CanTouch}
use Rattle.kernel_tables.proofs.Counting.{pages-count}
use Rattle.kernel_tables.proofs.Kept.{kept-dues}
use Rattle.kernel_tables.proofs.Lists.{at-some, get_or-mapped}
use Rattle.kernel_tables.proofs.PageMoves.{PagesHold, stamped, hold-agree, hold-stands, stands-hold}
use Rattle.kernel_tables.proofs.PageCharges.{ChargesHold, charges-stand, charges-agree, page-fits, has-counted}
use Rattle.kernel_tables.proofs.OnlyPages.{OnlyPages, none-emptied, none-unmapped, idle-placed, idle-touched, same-deadlines, charged-stand, only-pages-stand}
use Rattle.kernel_tables.proofs.Recharges.{recharge-can, recharge-does}
use Rattle.kernel_tables.proofs.Touches.{faulted_at, marked_at, put_at, same-out, faulted-other, faulted-here, faulted-stays, faulted-place, hold-touched, in_frames, IsTouched, is-touched, reaches-is, two-counted, touched-twice, marked-twice}

pair_lt-page : (n a b : ℕ) → a < b → pair_lt (n, a) (n, b) ≡ true
pair_lt-page n a b l = grind (arith, nat_tests)

and_or : (a x y : Bool) → (a && (x || y)) ≡ ((a && x) || (a && y))
and_or true x y = refl
and_or false x y = refl

none_in : (b : Bool) (x : Place) (m n : ℕ) → is_inactive (if b && is_out x then put_at Active n else put_at x m).place ≡ is_inactive x
none_in true Absent m n = refl
none_in true Active m n = refl
none_in true Inactive m n = refl
none_in true Stored m n = refl
none_in false x m n = refl

never_out : (x : Place) (m n : ℕ) → is_out (if true && is_out x then put_at Active n else put_at x m).place ≡ false
never_out Absent m n = refl
never_out Active m n = refl
never_out Inactive m n = refl
never_out Stored m n = refl

-- the account of the owner of a page that is touched
module _ (boot : System) (past : List Entry) (objects : List Object) (accounts : List Account) (n : ℕ) (p : PageId) (f : PageId → Placed) (g : PageId → Bool) (pages : Pages) (v : IsValidBoot boot) (s : ObjectsStand boot past objects) (w : Has (pages_of boot) p) (h : PagesHold boot f g pages) (c : ChargesHold boot past f accounts) where
  touch-can : (t : ℕ) → owner_in objects p.obj ≡ Some t → IsChargeable (object_at objects p.obj).state (place_in pages p) (place_touched (place_in pages p)) accounts t
  touch-can t owns =
      subst (λ x. IsChargeable (object_at objects p.obj).state x (place_touched x) accounts t) (sym (h.places p w))
      (subst (λ y. IsChargeable (object_at objects p.obj).state (f p).place y accounts t) (faulted-place n p f)
      (recharge-can boot past objects accounts f (faulted_at n p f) p v s w (faulted-other n p f) c t owns))

  touch-does : ChargesHold boot past (faulted_at n p f) (charged_touch (owner_in objects p.obj) (object_at objects p.obj).state pages p accounts)
  touch-does =
      subst (λ x. ChargesHold boot past (faulted_at n p f) (recharged (owner_in objects p.obj) (object_at objects p.obj).state x (place_touched x) accounts)) (sym (h.places p w))
      (subst (λ y. ChargesHold boot past (faulted_at n p f) (recharged (owner_in objects p.obj) (object_at objects p.obj).state (f p).place y accounts)) (faulted-place n p f)
      (recharge-does boot past objects accounts f (faulted_at n p f) p v s w (faulted-other n p f) c))

-- how many frames are taken, and how many are free
frames-taken : (boot : System) (past : List Entry) (pages : Pages) (m : ℕ) → PagesStand boot past pages m → in_frames pages ≡ active_pages boot past + inactive_pages boot past
frames-taken boot past pages m s =
    let a : active_pages boot past ≡ length (map page_of (active_keys pages)) = pages-count boot past is_active (map page_of (active_keys pages)) s.active_order in
    let i : inactive_pages boot past ≡ length (map page_of (inactive_keys pages)) = pages-count boot past is_inactive (map page_of (inactive_keys pages)) s.inactive_order in
    let b : length (map page_of (active_keys pages)) ≡ length (active_keys pages) = length-map (active_keys pages) page_of in
    let j : length (map page_of (inactive_keys pages)) ≡ length (inactive_keys pages) = length-map (inactive_keys pages) page_of in
    omega arith

sizes-of : (boot : System) (pages : Pages) (p : PageId) → pages.sizes ≡ map (λ object. object.pages) boot.objects → p.obj < length boot.objects → p.page < pages_in boot p.obj → IsPage pages p
sizes-of boot pages p sizes o k =
    let found = at-some boot.objects p.obj o in
    let size : get_or (map (λ (object : ObjBoot). object.pages) boot.objects) p.obj 0 ≡ pages_in boot p.obj = get_or-mapped (λ (object : ObjBoot). object.pages) boot.objects p.obj found.0 0 found.1 ∙ sym (ap (λ x. option_map_or (λ (object : ObjBoot). object.pages) x 0) found.1) in
    record {
      object = (let e : length pages.sizes ≡ length boot.objects = ap length sizes ∙ length-map boot.objects (λ (object : ObjBoot). object.pages) in omega arith);
      inside = subst (λ n. p.page < n) (sym (ap (λ ns. get_or ns p.obj 0) sizes ∙ size)) k;
    }

-- A range of an object, its first and its last page.
module _ (boot : System) (past : List Entry) (o off len : ℕ) (v : IsValidBoot boot) (r : IsRange boot o off len) where
  first-below : off / 4096 < pages_in boot o
  first-below = let s = r.some in let i = r.inside in omega arith

  last-below : (off + len - 1) / 4096 < pages_in boot o
  last-below = let s = r.some in let i = r.inside in omega arith

  pub first-has : Has (pages_of boot) (first_page o off)
  first-has = pages-has boot (first_page o off) (ap₂ (λ a b. a && b) (lt-ltb o (length boot.objects) r.object) (lt-ltb (off / 4096) (pages_in boot o) first-below))

  pub last-has : Has (pages_of boot) (last_page o off len)
  last-has = pages-has boot (last_page o off len) (ap₂ (λ a b. a && b) (lt-ltb o (length boot.objects) r.object) (lt-ltb ((off + len - 1) / 4096) (pages_in boot o) last-below))

  first-last : same_page (last_page o off len) (first_page o off) ≡ false → off / 4096 < (off + len - 1) / 4096
  first-last apart = elim (cases_lt (off / 4096) ((off + len - 1) / 4096)) [
    | inl below ↦ below
    | inr above ↦ absurd (
        let s = r.some in
        let same : (off + len - 1) / 4096 ≡ off / 4096 = omega arith in
        true≢false (sym (ap₂ (λ a b. a && b) (eq-eqb o o refl) (eq-eqb ((off + len - 1) / 4096) (off / 4096) same)) ∙ apart))
  ]

  -- Over tables that stand for the history.
  module _ (pages : Pages) (objects : List Object) (accounts : List Account) (m : ℕ) (three : length pages.queues ≡ 3) (marks : length pages.marks ≡ 256 * length pages.sizes) (stand : PagesStand boot past pages m) (s : ObjectsStand boot past objects) (a : AccountsStand boot past accounts) where
    abbrev f0 : PageId → Placed
    f0 = placed boot past

    abbrev f1 : PageId → Placed
    f1 = faulted_at (length past) (first_page o off) f0

    abbrev f2 : PageId → Placed
    f2 = faulted_at (length past) (last_page o off len) f1

    abbrev g0 : PageId → Bool
    g0 = touched_since boot past

    abbrev g1 : PageId → Bool
    g1 = marked_at (first_page o off) f0 g0

    abbrev g2 : PageId → Bool
    g2 = marked_at (last_page o off len) f1 g1

    abbrev pages1 : Pages
    pages1 = touched pages (first_page o off)

    abbrev accounts1 : List Account
    accounts1 = charged_touch (owner_in objects o) (object_at objects o).state pages (first_page o off) accounts

    size-fact : length pages.sizes ≡ length boot.objects
    size-fact = ap length stand.page_sizes ∙ length-map boot.objects (λ (object : ObjBoot). object.pages)

    first-inside : key_of (first_page o off) < length pages.marks
    first-inside = let e = size-fact in let l = r.object in let k = page-fits boot v (first_page o off) first-has in omega arith

    behind1 : (q : PageId) → same_page (first_page o off) q ≡ false → is_absent (f0 q).place ≡ false → pair_lt (stamped f0 q) (length past, off / 4096) ≡ true
    behind1 q apart k = pair_lt-newer (stamped f0 q) (length past, off / 4096) (placed-since boot past q k)

    hold0 : PagesHold boot f0 g0 pages
    hold0 = hold-stands boot past pages m stand

    hold1 : PagesHold boot f1 g1 pages1
    hold1 = hold-touched boot (length past) (first_page o off) f0 g0 pages (page-fits boot v) first-has three first-inside behind1 hold0

    touched1 : IsTouched pages pages1 (lacks_frame (place_in pages (first_page o off)))
    touched1 = is-touched pages (first_page o off) three

    earlier : (q : PageId) → is_absent (f1 q).place ≡ false → f1 q ≡ f0 q → pair_lt (stamped f1 q) (length past, (off + len - 1) / 4096) ≡ true
    earlier q k same = subst (λ (x : Placed). pair_lt (x.number, q.page) (length past, (off + len - 1) / 4096) ≡ true) (sym same) (pair_lt-newer (stamped f0 q) (length past, (off + len - 1) / 4096) (placed-since boot past q (subst (λ (x : Placed). is_absent x.place ≡ false) same k)))

    behind2 : (q : PageId) → same_page (last_page o off len) q ≡ false → is_absent (f1 q).place ≡ false → pair_lt (stamped f1 q) (length past, (off + len - 1) / 4096) ≡ true
    behind2 q apart k = elim (cases_Bool (same_page (first_page o off) q)) [
      | inr far ↦ earlier q k (faulted-other (length past) (first_page o off) f0 q far)
      | inl here ↦ elim (cases_Bool (is_out (f0 (first_page o off)).place)) [
        | inr held ↦ earlier q k (faulted-stays (length past) (first_page o off) f0 held q)
        | inl out ↦
            let is_first = same_page-is (first_page o off) q here in
            subst (λ x. pair_lt (stamped f1 x) (length past, (off + len - 1) / 4096) ≡ true) (sym is_first)
            (subst (λ (x : Placed). pair_lt (x.number, off / 4096) (length past, (off + len - 1) / 4096) ≡ true) (sym (faulted-here (length past) (first_page o off) f0 out))
            (pair_lt-page (length past) (off / 4096) ((off + len - 1) / 4096) (first-last (subst (λ x. same_page (last_page o off len) x ≡ false) is_first apart))))
      ]
    ]

    last-inside : key_of (last_page o off len) < length pages1.marks
    last-inside = let e = size-fact in let l = r.object in let k = page-fits boot v (last_page o off len) last-has in let t = touched1.marks in omega arith

    hold2 : PagesHold boot f2 g2 (touched_range pages o off len)
    hold2 = hold-touched boot (length past) (last_page o off len) f1 g1 pages1 (page-fits boot v) last-has touched1.three last-inside behind2 hold1

    charges0 : ChargesHold boot past f0 accounts
    charges0 = charges-stand boot past accounts a

    charges1 : ChargesHold boot past f1 accounts1
    charges1 = touch-does boot past objects accounts (length past) (first_page o off) f0 g0 pages v s first-has hold0 charges0

    charges2 : ChargesHold boot past f2 (charged_range (owner_in objects o) (object_at objects o).state pages o off len accounts)
    charges2 = touch-does boot past objects accounts1 (length past) (last_page o off len) f1 g1 pages1 v s last-has hold1 charges1

    -- enough frames are free
    module _ (enough : needed boot past o off len ≤ free boot past) where
      abbrev needs : ℕ → Bool
      needs k = reaches_page off len k && is_out (place boot past (record { obj = o; page = k }))

      first-listed : Has (range_with_len 0 (pages_in boot o)) (off / 4096)
      first-listed = let b = first-below in let l : off / 4096 < 0 + pages_in boot o = omega arith in range-has 0 (pages_in boot o) (off / 4096) zero-le l

      last-listed : Has (range_with_len 0 (pages_in boot o)) ((off + len - 1) / 4096)
      last-listed = let b = last-below in let l : (off + len - 1) / 4096 < 0 + pages_in boot o = omega arith in range-has 0 (pages_in boot o) ((off + len - 1) / 4096) zero-le l

      needs-first : needs (off / 4096) ≡ is_out (f0 (first_page o off)).place
      needs-first = ap (λ b. b && is_out (f0 (first_page o off)).place) (reaches-is off len (off / 4096) r.some r.few ∙ ap (λ b. b || nat_eq ((off + len - 1) / 4096) (off / 4096)) (eq-eqb (off / 4096) (off / 4096) refl))

      needs-last : needs ((off + len - 1) / 4096) ≡ is_out (f0 (last_page o off len)).place
      needs-last = ap (λ b. b && is_out (f0 (last_page o off len)).place) (reaches-is off len ((off + len - 1) / 4096) r.some r.few ∙ ap (λ b. nat_eq (off / 4096) ((off + len - 1) / 4096) || b) (eq-eqb ((off + len - 1) / 4096) ((off + len - 1) / 4096) refl) ∙ or_right (nat_eq (off / 4096) ((off + len - 1) / 4096)) true refl)

      free-fact : free_in pages ≡ free boot past
      free-fact = ap₂ (λ x y. x - y) stand.frames (frames-taken boot past pages m stand) ∙ sym (free-is boot past)

      needed-is : needed boot past o off len ≡ count_by needs (range_with_len 0 (pages_in boot o))
      unfolding needed
      needed-is = refl

      frame1 : lacks_frame (place_in pages (first_page o off)) ≡ true → 0 < free_in pages
      frame1 out =
          let gone : is_out (f0 (first_page o off)).place ≡ true = ap is_out (sym (hold0.places (first_page o off) first-has)) ∙ sym (same-out (place_in pages (first_page o off))) ∙ out in
          let one : bit (needs (off / 4096)) ≡ 1 = ap bit (needs-first ∙ gone) in
          let c : bit (needs (off / 4096)) ≤ count_by needs (range_with_len 0 (pages_in boot o)) = has-counted needs (range_with_len 0 (pages_in boot o)) (off / 4096) first-listed in
          let n = needed-is in
          let e = free-fact in
          omega arith

      -- where the last page lacks a frame after the first was touched, it is another one, and it did before
      still_out : is_out (f1 (last_page o off len)).place ≡ true → (is_out (f0 (last_page o off len)).place ≡ true) × ((off / 4096 ≡ (off + len - 1) / 4096 → ⊥))
      still_out out = elim (cases_Bool (same_page (first_page o off) (last_page o off len))) [
        | inr far ↦ (ap (λ (x : Placed). is_out x.place) (sym (faulted-other (length past) (first_page o off) f0 (last_page o off len) far)) ∙ out, λ same. true≢false (sym (ap₂ (λ a b. a && b) (eq-eqb o o refl) (eq-eqb (off / 4096) ((off + len - 1) / 4096) same)) ∙ far))
        | inl here ↦ absurd (true≢false (sym out ∙ ap (λ b. is_out (if b && is_out (f0 (last_page o off len)).place then put_at Active (length past) else f0 (last_page o off len)).place) here ∙ never_out (f0 (last_page o off len)).place (f0 (last_page o off len)).number (length past)))
      ]

      frame2 : lacks_frame (place_in pages1 (last_page o off len)) ≡ true → 0 < free_in pages1
      frame2 out =
          let gone : is_out (f1 (last_page o off len)).place ≡ true = ap is_out (sym (hold1.places (last_page o off len) last-has)) ∙ sym (same-out (place_in pages1 (last_page o off len))) ∙ out in
          let both = still_out gone in
          let first_lacks : lacks_frame (place_in pages (first_page o off)) ≡ is_out (f0 (first_page o off)).place = same-out (place_in pages (first_page o off)) ∙ ap is_out (hold0.places (first_page o off) first-has) in
          let one : bit (needs ((off + len - 1) / 4096)) ≡ 1 = ap bit (needs-last ∙ both.0) in
          let other : bit (needs (off / 4096)) ≡ bit (lacks_frame (place_in pages (first_page o off))) = ap bit (needs-first ∙ sym first_lacks) in
          let c : bit (needs (off / 4096)) + bit (needs ((off + len - 1) / 4096)) ≤ count_by needs (range_with_len 0 (pages_in boot o)) = two-counted needs (range_with_len 0 (pages_in boot o)) (off / 4096) ((off + len - 1) / 4096) both.1 first-listed last-listed in
          let n = needed-is in
          let e = free-fact in
          let t = touched1.taken in
          let k = touched1.frames in
          omega arith

      -- so both may be touched
      pub can-first : CanTouch pages objects accounts (first_page o off)
      can-first = record {
        page = sizes-of boot pages (first_page o off) stand.page_sizes r.object first-below;
        frame = frame1;
        object = (let c = s.object_count in let l = r.object in omega arith);
        charged = touch-can boot past objects accounts (length past) (first_page o off) f0 g0 pages v s first-has hold0 charges0;
      }

      pub can-last : CanTouch pages1 objects accounts1 (last_page o off len)
      can-last = record {
        page = sizes-of boot pages1 (last_page o off len) (touched1.sizes ∙ stand.page_sizes) r.object last-below;
        frame = frame2;
        object = (let c = s.object_count in let l = r.object in omega arith);
        charged = touch-can boot past objects accounts1 (length past) (last_page o off len) f1 g1 pages1 v s last-has hold1 charges1;
      }

    -- An entry that touches the pages of the range.
    module _ (e : Entry) (only : OnlyPages e) (still : (p : PageId) → move_of p e.reply ≡ None) (quiet : is_deactivation e.reply ≡ false) (covers : (p : PageId) → touches past e p ≡ (nat_eq o p.obj && reaches_page off len p.page)) where
      both-cover : (q : PageId) → touches past e q ≡ (same_page (first_page o off) q || same_page (last_page o off len) q)
      both-cover q = covers q ∙ ap (λ b. nat_eq o q.obj && b) (reaches-is off len q.page r.some r.few) ∙ and_or (nat_eq o q.obj) (nat_eq (off / 4096) q.page) (nat_eq ((off + len - 1) / 4096) q.page)

      placed-by : (q : PageId) (b : Bool) → touches past e q ≡ b → placed boot (e ∷ past) q ≡ (if b && is_out (f0 q).place then put_at Active (length past) else f0 q)
      placed-by q true t = elim (cases_Bool (is_out (f0 q).place)) [
        | inl out ↦ placed-faulted boot e past q (none-emptied boot e past only q.obj) (none-unmapped boot e past only q.obj) t out ∙ sym (ap (λ b. if b then put_at Active (length past) else f0 q) out)
        | inr held ↦ placed-stays boot e past q (none-emptied boot e past only q.obj) (none-unmapped boot e past only q.obj) held (still q) ∙ sym (ap (λ b. if b then put_at Active (length past) else f0 q) held)
      ]
      placed-by q false t = idle-placed boot e past only q t (still q)

      touched-by : (q : PageId) (b : Bool) → touches past e q ≡ b → touched_since boot (e ∷ past) q ≡ (if b then not (is_out (f0 q).place) else g0 q)
      touched-by q true t = touched_since-touched boot e past q (none-emptied boot e past only q.obj) (none-unmapped boot e past only q.obj) t
      touched-by q false t = idle-touched boot e past only q t (still q)

      placed-range : (q : PageId) → placed boot (e ∷ past) q ≡ f2 q
      placed-range q = placed-by q (same_page (first_page o off) q || same_page (last_page o off len) q) (both-cover q) ∙ sym (touched-twice (length past) (first_page o off) (last_page o off len) f0 q)

      marked-range : (q : PageId) → (is_inactive (place boot (e ∷ past) q) && touched_since boot (e ∷ past) q) ≡ (is_inactive (f2 q).place && g2 q)
      marked-range q =
          let both = same_page (first_page o off) q || same_page (last_page o off len) q in
          ap₂ (λ (x : Placed) b. is_inactive x.place && b) (placed-by q both (both-cover q)) (touched-by q both (both-cover q))
          ∙ marked-twice (length past) (first_page o off) (last_page o off len) f0 g0 q

      inactive-same : inactive_pages boot (e ∷ past) ≡ inactive_pages boot past
      inactive-same = count_by-agree (λ q. is_inactive (place boot (e ∷ past) q)) (λ q. is_inactive (place boot past q)) (λ q. ap (λ (x : Placed). is_inactive x.place) (placed-by q (touches past e q) refl) ∙ none_in (touches past e q) (f0 q).place (f0 q).number (length past)) (pages_of boot)

      left-same : left boot (e ∷ past) ≡ left boot past
      left-same = left-is boot (e ∷ past) ∙ ap₂ (λ x y. x - y) (entered-kept e past quiet) inactive-same ∙ sym (left-is boot past)

      -- the pages and the accounts stand for the history with it
      pub access-pages : PagesStand boot (e ∷ past) (touched_range pages o off len) m
      access-pages =
          let last = is-touched pages1 (last_page o off len) touched1.three in
          stands-hold boot (e ∷ past) (touched_range pages o off len) m
          (last.frames ∙ touched1.frames ∙ stand.frames) (last.sizes ∙ touched1.sizes ∙ stand.page_sizes)
          (stand.entered ∙ sym (entered-kept e past quiet))
          (hold-agree boot f2 (placed boot (e ∷ past)) g2 (touched_since boot (e ∷ past)) (touched_range pages o off len) placed-range marked-range hold2)

      pub access-accounts : AccountsStand boot (e ∷ past) (charged_range (owner_in objects o) (object_at objects o).state pages o off len accounts)
      access-accounts = charged-stand boot e past only _ (charges-agree boot past f2 (placed boot (e ∷ past)) _ (λ q. sym (placed-range q)) charges2)

-- the tables stand for the history with an accepted access, where the objects do
pub access-stands : (tables : TableValues) (past : List Entry) (o off len : ℕ) (e : Entry) (objects : List Object) → IsValidBoot tables.boot → IsRange tables.boot o off len → length tables.pages.queues ≡ 3 → length tables.pages.marks ≡ 256 * length tables.pages.sizes → OnlyPages e → ((p : PageId) → move_of p e.reply ≡ None) → is_deactivation e.reply ≡ false → ((p : PageId) → touches past e p ≡ (nat_eq o p.obj && reaches_page off len p.page)) → IsLegal tables.boot (e ∷ past) → Stands tables past → ObjectsStand tables.boot (e ∷ past) objects → Stands (record tables { pages = touched_range tables.pages o off len; objects = objects; accounts = charged_range (owner_in tables.objects o) (object_at tables.objects o).state tables.pages o off len tables.accounts }) (e ∷ past)
access-stands tables past o off len e objects v r three marks only still quiet covers legal s written =
    let boot = tables.boot in
    only-pages-stand tables e past (touched_range tables.pages o off len) tables.tokens objects _ tables.entered only legal s
    (access-pages boot past o off len v r tables.pages tables.objects tables.accounts tables.entered three marks s.pages s.objects s.accounts e only still quiet covers)
    (s.queues.ahead ∙ sym (inactive-same boot past o off len v r tables.pages tables.objects tables.accounts tables.entered three marks s.pages s.objects s.accounts e only still quiet covers))
    (kept-dues boot e past tables.tokens (same-deadlines boot e past only) (left-same boot past o off len v r tables.pages tables.objects tables.accounts tables.entered three marks s.pages s.objects s.accounts e only still quiet covers) s.queues.dues)
    written
    (access-accounts boot past o off len v r tables.pages tables.objects tables.accounts tables.entered three marks s.pages s.objects s.accounts e only still quiet covers)
