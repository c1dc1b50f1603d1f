-- Read and Write, where they are accepted: their ranges, their answers, and what the tables are afterwards.
use Rattle.std.proofs.Common.{◌≡◌, ℕ, ◌+◌, ◌-◌, ◌*◌, ◌/◌, ◌<◌, ◌≤◌, List, [], ◌∷◌, length, map, set, get_or, not, if◌then◌else◌, Option, Some, None, is_some, nat_eq, nat_lt, refl, sym, ap, ap₂, ◌∙◌, subst, Bool, true, false, ◌&&◌, ◌||◌, inl, inr, arith}
use Rattle.std.specs.Prelude.{IsTrue}
use Rattle.std.specs.Option.{unwrap_or}
use Rattle.std.specs.List.{range_with_len}
use Rattle.std.proofs.lemmas.Bool.{false≢true, true≢false, and_parts, or_parts, and_right, ltb-true, ltb-false, eq-eqb}
use Rattle.std.proofs.lemmas.Bool.Decides.{eqb_tells, nat_tests}
use Rattle.std.proofs.lemmas.List.{length-set, get_or-set_same, get_or-set_other}
use Rattle.kern_ids.specs.declared.entries.Entry.{Entry}
use Rattle.kern_ids.specs.declared.ids.PageId.{PageId}
use Rattle.kern_ids.specs.declared.calls.Call.{Call}
use Rattle.kern_ids.specs.declared.calls.Call.TheVariants.{Read, Write}
use Rattle.kern_ids.specs.declared.replies.Refusal.{Refusal}
use Rattle.kern_ids.specs.declared.replies.Refusal.TheVariants.{Range, Emptied, Shortage}
use Rattle.kern_ids.specs.declared.replies.Reply.{Reply}
use Rattle.kern_ids.specs.declared.replies.Reply.TheVariants.{Bytes, Wrote}
use Rattle.kernel_model.specs.System.{System}
use Rattle.kernel_model.specs.Valid.{IsValidBoot}
use Rattle.kernel_model.specs.Lists.{some_if}
use Rattle.kernel_model.specs.Events.{task_of, reaches_page}
use Rattle.kernel_model.specs.Mapping.{maps, mapped}
use Rattle.kernel_model.specs.State.{state, is_empty}
use Rattle.kernel_model.specs.Contents.{byte}
use Rattle.kernel_model.specs.Pages.{place, placed, pages_of, pages_in, touches, touched_since, move_of, written, free, entered, is_deactivation, is_inactive, left, inactive_pages}
use Rattle.kernel_model.specs.Answers.{answer, refusal, causes, out_of_range, bad_range, emptied, shortage, short_of, needed}
use Rattle.kernel_model.specs.Histories.{IsLegal, fits}
use Rattle.kernel_model.specs.Laws.Kinds.{read_entry, write_entry}
use Rattle.kernel_model.specs.Laws.Order.{Has}
use Rattle.kernel_model.proofs.Laws.Answers.{first_some-none, accepted-shortage, accepted-no_object}
use Rattle.kernel_model.proofs.Laws.Held.{declared_task, maps_mapped, not_false}
use Rattle.kernel_model.proofs.Laws.Kept.{written-kept, entered-kept, left-kept, counted-kept}
use Rattle.kernel_model.proofs.Laws.Kinds.{written-write}
use Rattle.vm_object.specs.Objects.{Object, object_at, no_object, changed, with_written, is_written, owner as owner_in, IsObject}
use Rattle.kernel_tables.specs.Values.{TableValues, entry_of}
use Rattle.kernel_tables.specs.Stands.{Stands, ObjectsStand}
use Rattle.kernel_tables.specs.Moves.{IsRange, touched_range, charged_range, written_range}
use Rattle.kernel_tables.proofs.Accepted.{accepted-answer, fitting-names, fitting-side}
use Rattle.kernel_tables.proofs.Kept.{kept-pages, kept-objects, kept-dues}
use Rattle.kernel_tables.proofs.Dropped.{pages_in-small}
use Rattle.kernel_tables.proofs.PageKeys.{and_true, or_false}
use Rattle.kernel_tables.proofs.PageCharges.{charges-stand, charges-agree}
use Rattle.kernel_tables.proofs.OnlyPages.{OnlyPages, same-maps, same-mapped, same-state, idle-placed, idle-touched, same-deadlines, charged-stand, only-pages-stand}
use Rattle.kernel_tables.proofs.Recharges.{page-object}
use Rattle.kernel_tables.proofs.Touches.{reaches-is}
use Rattle.kernel_tables.proofs.Accesses.{access-stands}

-- what an accepted access tells of its range

none_of : {A : Type 0} (b : Bool) (x : A) → some_if b x ≡ None → b ≡ false
none_of true x h = absurd (cc)
none_of false x h = refl

accepted-range : (boot : System) (past : List Entry) (who : ℕ) (call : Call) → refusal boot past who call ≡ None → out_of_range boot call ≡ false
unfolding refusal
accepted-range boot past who call h = none_of (out_of_range boot call) Range (first_some-none (causes boot past who call) (some_if (out_of_range boot call) Range) (inr (inr (inr (inr (inr (inl refl)))))) h)

accepted-full : (boot : System) (past : List Entry) (who : ℕ) (call : Call) → refusal boot past who call ≡ None → emptied past call ≡ false
unfolding refusal
accepted-full boot past who call h = none_of (emptied past call) Emptied (first_some-none (causes boot past who call) (some_if (emptied past call) Emptied) (inr (inr (inr (inr (inr (inr (inl refl))))))) h)

positive : (n : ℕ) → nat_eq n 0 ≡ false → 0 < n
positive n h = grind (arith, nat_tests)

in-range : (boot : System) (o off len : ℕ) → o < length boot.objects → bad_range boot o off len ≡ false → IsRange boot o off len
in-range boot o off len d h =
    let outer = or_parts (nat_eq len 0 || nat_lt 256 len) (nat_lt (4096 * pages_in boot o) (off + len)) h in
    let inner = or_parts (nat_eq len 0) (nat_lt 256 len) outer.0 in
    record { object = d; some = positive len inner.0; few = ltb-false 256 len inner.1; inside = ltb-false (4096 * pages_in boot o) (off + len) outer.1 }

pub read-range : (boot : System) (past : List Entry) (who o off len : ℕ) → IsTrue (fits boot who (Read o off len)) → refusal boot past who (Read o off len) ≡ None → IsRange boot o off len
read-range boot past who o off len f h = in-range boot o off len (ltb-true o (length boot.objects) (fitting-names boot past who (Read o off len) f)) (accepted-range boot past who (Read o off len) h)

pub write-range : (boot : System) (past : List Entry) (who o off : ℕ) (bytes : List ℕ) → IsTrue (fits boot who (Write o off bytes)) → refusal boot past who (Write o off bytes) ≡ None → IsRange boot o off (length bytes)
write-range boot past who o off bytes f h = in-range boot o off (length bytes) (ltb-true o (length boot.objects) (and_parts (nat_lt o (length boot.objects)) (nat_lt 0 (length bytes)) (fitting-names boot past who (Write o off bytes) f)).0) (accepted-range boot past who (Write o off bytes) h)

pub range-bound : (boot : System) (o off len : ℕ) → IsValidBoot boot → IsRange boot o off len → off + len ≤ 1048576
range-bound boot o off len v r = let f = pages_in-small boot v o in let i = r.inside in omega arith

enough_of : (boot : System) (past : List Entry) (n : ℕ) → short_of boot past n ≡ None → n ≤ free boot past
unfolding short_of
enough_of boot past n h = ltb-false (free boot past) n (none_of (nat_lt (free boot past) n) (Shortage n (free boot past)) h)

pub read-enough : (boot : System) (past : List Entry) (who o off len : ℕ) → refusal boot past who (Read o off len) ≡ None → is_empty (state past o) ≡ false → needed boot past o off len ≤ free boot past
read-enough boot past who o off len h full = enough_of boot past (needed boot past o off len) (sym (ap (λ b. if b then None else short_of boot past (needed boot past o off len)) full) ∙ accepted-shortage boot past who (Read o off len) h)

pub write-enough : (boot : System) (past : List Entry) (who o off : ℕ) (bytes : List ℕ) → refusal boot past who (Write o off bytes) ≡ None → needed boot past o off (length bytes) ≤ free boot past
write-enough boot past who o off bytes h = enough_of boot past (needed boot past o off (length bytes)) (accepted-shortage boot past who (Write o off bytes) h)

-- the object of an accepted access is mapped
pub read-mapped : (boot : System) (past : List Entry) (who o off len : ℕ) → IsValidBoot boot → IsTrue (fits boot who (Read o off len)) → refusal boot past who (Read o off len) ≡ None → mapped boot past o ≡ true
read-mapped boot past who o off len v f h = maps_mapped boot past o (unwrap_or (task_of boot who) 0) (declared_task boot who v (fitting-side boot past who (Read o off len) f)) (not_false (maps boot past o (unwrap_or (task_of boot who) 0)) (accepted-no_object boot past who (Read o off len) h))

-- what they get
pub read-reply : (boot : System) (past : List Entry) (who o off len : ℕ) (seen : List ℕ) → refusal boot past who (Read o off len) ≡ None → seen ≡ map (byte past o) (range_with_len off len) → Bytes seen ≡ answer boot past who (Read o off len)
read-reply boot past who o off len seen h is = ap Bytes is ∙ sym (accepted-answer boot past who (Read o off len) h)

pub write-reply : (boot : System) (past : List Entry) (who o off : ℕ) (bytes : List ℕ) → refusal boot past who (Write o off bytes) ≡ None → Wrote ≡ answer boot past who (Write o off bytes)
write-reply boot past who o off bytes h = sym (accepted-answer boot past who (Write o off bytes) h)

-- they say nothing but of pages, and touch those of the range
read-only : (who o off len : ℕ) (seen : List ℕ) → OnlyPages (read_entry who o off len seen)
read-only who o off len seen = record { map = λ o. refl; attach = λ o. refl; unmap = λ o. refl; exit = refl; tick = refl; wish = λ o. refl; set = refl; band = λ t. refl; active = refl; limits = λ t. refl; purged = refl; killed = refl; aged = refl }

write-only : (who o off : ℕ) (bytes : List ℕ) → OnlyPages (write_entry who o off bytes)
write-only who o off bytes = record { map = λ o. refl; attach = λ o. refl; unmap = λ o. refl; exit = refl; tick = refl; wish = λ o. refl; set = refl; band = λ t. refl; active = refl; limits = λ t. refl; purged = refl; killed = refl; aged = refl }

read-touches : (past : List Entry) (who o off len : ℕ) (seen : List ℕ) → is_empty (state past o) ≡ false → (p : PageId) → touches past (read_entry who o off len seen) p ≡ (nat_eq o p.obj && reaches_page off len p.page)
read-touches past who o off len seen full p = elim (eqb_tells o p.obj) [
  | inl same ↦ ap (λ b. (nat_eq o p.obj && reaches_page off len p.page) && not b) (ap (λ x. is_empty (state past x)) (sym same.1) ∙ full) ∙ and_true (nat_eq o p.obj && reaches_page off len p.page)
  | inr other ↦ ap (λ b. (b && reaches_page off len p.page) && not (is_empty (state past p.obj))) other.0 ∙ sym (ap (λ b. b && reaches_page off len p.page) other.0)
]

read-none : (past : List Entry) (who o off len : ℕ) (seen : List ℕ) → is_empty (state past o) ≡ true → (p : PageId) → touches past (read_entry who o off len seen) p ≡ false
read-none past who o off len seen none p = elim (eqb_tells o p.obj) [
  | inl same ↦ ap (λ b. (nat_eq o p.obj && reaches_page off len p.page) && not b) (ap (λ x. is_empty (state past x)) (sym same.1) ∙ none) ∙ and_right (nat_eq o p.obj && reaches_page off len p.page) false refl
  | inr other ↦ ap (λ b. (b && reaches_page off len p.page) && not (is_empty (state past p.obj))) other.0
]

write-touches : (past : List Entry) (who o off : ℕ) (bytes : List ℕ) (p : PageId) → touches past (write_entry who o off bytes) p ≡ (nat_eq o p.obj && reaches_page off (length bytes) p.page)
write-touches past who o off bytes p = or_false (nat_eq o p.obj && reaches_page off (length bytes) p.page)

-- a Read of an EMPTY object changes nothing
pub empty-read-stands : (tables : TableValues) (past : List Entry) (who o off len : ℕ) (seen : List ℕ) → IsLegal tables.boot (read_entry who o off len seen ∷ past) → is_empty (state past o) ≡ true → Stands tables past → Stands tables (read_entry who o off len seen ∷ past)
empty-read-stands tables past who o off len seen legal none s =
    let boot = tables.boot in
    let e = read_entry who o off len seen in
    let only = read-only who o off len seen in
    let still : (q : PageId) → placed boot (e ∷ past) q ≡ placed boot past q = λ q. idle-placed boot e past only q (read-none past who o off len seen none q) refl in
    let marks : (q : PageId) → touched_since boot (e ∷ past) q ≡ touched_since boot past q = λ q. idle-touched boot e past only q (read-none past who o off len seen none q) refl in
    let many : entered (e ∷ past) ≡ entered past = entered-kept e past refl in
    only-pages-stand tables e past tables.pages tables.tokens tables.objects tables.accounts tables.entered only legal s
    (kept-pages boot e past tables.pages tables.entered still marks many s.pages)
    (s.queues.ahead ∙ sym (counted-kept boot e past still is_inactive))
    (kept-dues boot e past tables.tokens (same-deadlines boot e past only) (left-kept boot e past still many) s.queues.dues)
    (kept-objects boot e past tables.objects (same-maps boot e past only) (same-mapped boot e past only) (same-state boot e past only) (λ q. written-kept e past q refl) s.objects)
    (charged-stand boot e past only tables.accounts (charges-agree boot past (placed boot past) (placed boot (e ∷ past)) tables.accounts (λ q. sym (still q)) (charges-stand boot past tables.accounts s.accounts)))

-- one of another object
pub full-read-stands : (tables : TableValues) (past : List Entry) (who o off len : ℕ) (seen : List ℕ) → IsValidBoot tables.boot → IsRange tables.boot o off len → length tables.pages.queues ≡ 3 → length tables.pages.marks ≡ 256 * length tables.pages.sizes → IsLegal tables.boot (read_entry who o off len seen ∷ past) → is_empty (state past o) ≡ false → Stands tables past → Stands (record tables { pages = touched_range tables.pages o off len; accounts = charged_range (owner_in tables.objects o) (object_at tables.objects o).state tables.pages o off len tables.accounts }) (read_entry who o off len seen ∷ past)
full-read-stands tables past who o off len seen v r three marks legal full s =
    let boot = tables.boot in
    let e = read_entry who o off len seen in
    let only = read-only who o off len seen in
    access-stands tables past o off len e tables.objects v r three marks only (λ p. refl) refl (read-touches past who o off len seen full) legal s
    (kept-objects boot e past tables.objects (same-maps boot e past only) (same-mapped boot e past only) (same-state boot e past only) (λ q. written-kept e past q refl) s.objects)

-- the objects after a page more was written

changed-at : (objects : List Object) (o : ℕ) (g : Object → Object) (x : ℕ) → o < length objects → object_at (changed objects o g) x ≡ (if nat_eq o x then g (object_at objects x) else object_at objects x)
changed-at objects o g x l = elim (eqb_tells o x) [
  | inl same ↦ subst (λ y. object_at (changed objects o g) y ≡ (if nat_eq o y then g (object_at objects y) else object_at objects y)) same.1 (get_or-set_same objects o (g (object_at objects o)) no_object l ∙ sym (ap (λ b. if b then g (object_at objects o) else object_at objects o) (eq-eqb o o refl)))
  | inr other ↦ get_or-set_other objects o x (g (object_at objects o)) no_object (λ e. other.1 (sym e)) ∙ sym (ap (λ b. if b then g (object_at objects x) else object_at objects x) other.0)
]

if_same : {A : Type 0} (field : Object → A) (b : Bool) (x y : Object) → field x ≡ field y → field (if b then x else y) ≡ field y
if_same field true x y h = h
if_same field false x y h = refl

field-kept : {A : Type 0} (objects : List Object) (o k x : ℕ) (field : Object → A) → o < length objects → ((y : Object) → field (with_written k y) ≡ field y) → field (object_at (changed objects o (with_written k)) x) ≡ field (object_at objects x)
field-kept objects o k x field l same = ap field (changed-at objects o (with_written k) x l) ∙ if_same field (nat_eq o x) (with_written k (object_at objects x)) (object_at objects x) (same (object_at objects x))

marked : (marks : List Bool) (k j : ℕ) → k < length marks → get_or (set marks k true) j false ≡ (nat_eq k j || get_or marks j false)
marked marks k j l = elim (eqb_tells k j) [
  | inl same ↦ subst (λ i. get_or (set marks k true) i false ≡ (nat_eq k i || get_or marks i false)) same.1 (get_or-set_same marks k true false l ∙ sym (ap (λ b. b || get_or marks k false) (eq-eqb k k refl)))
  | inr other ↦ get_or-set_other marks k j true false (λ e. other.1 (sym e)) ∙ sym (ap (λ b. b || get_or marks j false) other.0)
]

written-more_by : (b : Bool) (k j : ℕ) (y : Object) → (b ≡ true → k < length y.written) → get_or (if b then with_written k y else y).written j false ≡ ((b && nat_eq k j) || get_or y.written j false)
written-more_by true k j y l = marked y.written k j (l refl)
written-more_by false k j y l = refl

written-changed : (objects : List Object) (o k : ℕ) (p : PageId) → o < length objects → k < length (object_at objects o).written → is_written (changed objects o (with_written k)) p.obj p.page ≡ ((nat_eq o p.obj && nat_eq k p.page) || is_written objects p.obj p.page)
written-changed objects o k p l inside =
    ap (λ (x : Object). get_or x.written p.page false) (changed-at objects o (with_written k) p.obj l)
    ∙ written-more_by (nat_eq o p.obj) k p.page (object_at objects p.obj) (λ t. elim (eqb_tells o p.obj) [
      | inl same ↦ subst (λ x. k < length (object_at objects x).written) same.1 inside
      | inr other ↦ absurd (false≢true (sym other.0 ∙ t))
    ])

either_page : (a f l w : Bool) → ((a && l) || ((a && f) || w)) ≡ ((a && (f || l)) || w)
either_page false f l w = refl
either_page true true true w = refl
either_page true true false w = refl
either_page true false true w = refl
either_page true false false w = refl

module _ (boot : System) (past : List Entry) (who o off : ℕ) (bytes : List ℕ) (objects : List Object) (v : IsValidBoot boot) (r : IsRange boot o off (length bytes)) (is : IsObject (object_at objects o)) (s : ObjectsStand boot past objects) where
  declared : o < length objects
  declared = let c = s.object_count in let d = r.object in omega arith

  abbrev once : List Object
  once = changed objects o (with_written (off / 4096))

  declared-once : o < length once
  declared-once = let d = declared in let c : length once ≡ length objects = length-set objects o (with_written (off / 4096) (object_at objects o)) in omega arith

  first-small : off / 4096 < 256
  first-small = let f = pages_in-small boot v o in let i = r.inside in let n = r.some in omega arith

  last-small : (off + length bytes - 1) / 4096 < 256
  last-small = let f = pages_in-small boot v o in let i = r.inside in let n = r.some in omega arith

  length-once : length (object_at once o).written ≡ 256
  length-once =
      ap (λ (x : Object). length x.written) (changed-at objects o (with_written (off / 4096)) o declared ∙ ap (λ b. if b then with_written (off / 4096) (object_at objects o) else object_at objects o) (eq-eqb o o refl))
      ∙ length-set (object_at objects o).written (off / 4096) true ∙ is.written

  field-twice : {A : Type 0} (field : Object → A) (x : ℕ) → ((k : ℕ) (y : Object) → field (with_written k y) ≡ field y) → field (object_at (written_range o off (length bytes) objects) x) ≡ field (object_at objects x)
  field-twice field x same = field-kept once o ((off + length bytes - 1) / 4096) x field declared-once (same ((off + length bytes - 1) / 4096)) ∙ field-kept objects o (off / 4096) x field declared (same (off / 4096))

  written-twice : (p : PageId) → is_written (written_range o off (length bytes) objects) p.obj p.page ≡ ((nat_eq o p.obj && reaches_page off (length bytes) p.page) || is_written objects p.obj p.page)
  written-twice p =
      let inside : (off + length bytes - 1) / 4096 < length (object_at once o).written = let l = last-small in let c = length-once in omega arith in
      let begun : off / 4096 < length (object_at objects o).written = let l = first-small in let c = is.written in omega arith in
      written-changed once o ((off + length bytes - 1) / 4096) p declared-once inside
      ∙ ap (λ w. (nat_eq o p.obj && nat_eq ((off + length bytes - 1) / 4096) p.page) || w) (written-changed objects o (off / 4096) p declared begun)
      ∙ either_page (nat_eq o p.obj) (nat_eq (off / 4096) p.page) (nat_eq ((off + length bytes - 1) / 4096) p.page) (is_written objects p.obj p.page)
      ∙ ap (λ b. (nat_eq o p.obj && b) || is_written objects p.obj p.page) (sym (reaches-is off (length bytes) p.page r.some r.few))

  written-stand : ObjectsStand boot (write_entry who o off bytes ∷ past) (written_range o off (length bytes) objects)
  written-stand =
      let e = write_entry who o off bytes in
      let only = write-only who o off bytes in
      record {
        object_count = length-set once o (with_written ((off + length bytes - 1) / 4096) (object_at once o)) ∙ length-set objects o (with_written (off / 4096) (object_at objects o)) ∙ s.object_count;
        sharers = λ x t lx lt. ap (λ ts. get_or ts t false) (field-twice (λ (y : Object). y.tasks) x (λ k y. refl)) ∙ s.sharers x t lx lt;
        sizes = λ x lx. field-twice (λ (y : Object). y.pages) x (λ k y. refl) ∙ s.sizes x lx;
        mappers = λ x t lx. ap (λ ts. get_or ts t false) (field-twice (λ (y : Object). y.mapping) x (λ k y. refl)) ∙ s.mappers x t lx ∙ sym (same-maps boot e past only x t);
        states = λ x lx m. field-twice (λ (y : Object). y.state) x (λ k y. refl) ∙ s.states x lx (sym (same-mapped boot e past only x) ∙ m) ∙ sym (same-state boot e past only x);
        written = λ p h m.
            written-twice p
            ∙ ap (λ w. (nat_eq o p.obj && reaches_page off (length bytes) p.page) || w) (s.written p h (sym (same-mapped boot e past only p.obj) ∙ m))
            ∙ sym (written-write who o off bytes past p);
      }

-- a Write
pub write-stands : (tables : TableValues) (past : List Entry) (who o off : ℕ) (bytes : List ℕ) → IsValidBoot tables.boot → IsRange tables.boot o off (length bytes) → length tables.pages.queues ≡ 3 → length tables.pages.marks ≡ 256 * length tables.pages.sizes → IsObject (object_at tables.objects o) → IsLegal tables.boot (write_entry who o off bytes ∷ past) → Stands tables past → Stands (record tables { pages = touched_range tables.pages o off (length bytes); objects = written_range o off (length bytes) tables.objects; accounts = charged_range (owner_in tables.objects o) (object_at tables.objects o).state tables.pages o off (length bytes) tables.accounts }) (write_entry who o off bytes ∷ past)
write-stands tables past who o off bytes v r three marks is legal s =
    access-stands tables past o off (length bytes) (write_entry who o off bytes) (written_range o off (length bytes) tables.objects) v r three marks (write-only who o off bytes) (λ p. refl) refl (write-touches past who o off bytes) legal s
    (written-stand tables.boot past who o off bytes tables.objects v r is s.objects)
