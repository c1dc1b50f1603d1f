-- What a refusal asks of the tables: who is named, which pages are needed, how many frames are free.
use Rattle.std.proofs.Common.{◌≡◌, ℕ, zero, suc, ◌+◌, ◌-◌, ◌*◌, ◌/◌, ◌<◌, ◌≤◌, List, [], ◌∷◌, ◌++◌, length, map, filter, cond, Option, Some, None, slice_get, refl, sym, ap, ap₂, ◌∙◌, subst, Bool, true, false, ◌&&◌, ◌||◌, inl, inr, ◌⊎◌, arith, nat_eq, nat_lt, zero-le}
use Rattle.std.specs.Prelude.{count_by, IsTrue, IfSome, is_some, All, slice_index_or, option_and_then}
use Rattle.std.specs.List.{range_with_len}
use Rattle.std.specs.Option.{unwrap_or, option_map_or}
use Rattle.std.proofs.lemmas.Bool.{true≢false, false≢true, cases_eq, cases_lt, cases_Bool, and_parts}
use Rattle.std.proofs.lemmas.Bool.Decides.{nat_tests}
use Rattle.std.proofs.lemmas.List.{length-append, length-map}
use Rattle.std.proofs.lemmas.List.Sums.{length-filter}
use Rattle.kern_ids.specs.declared.calls.Call.{Call}
use Rattle.kern_ids.specs.declared.calls.Call.TheVariants.{Map, Unmap, Write, Read, SetState, GetState, Active, Ledger, Exit, PurgeOne, Forced, Scan, Tick, Jetsam, SetBand, SetLimits, Info, Purgeables, Attach}
use Rattle.kern_ids.specs.declared.entries.Entry.{Entry}
use Rattle.kern_ids.specs.declared.ids.PageId.{PageId}
use Rattle.kernel_model.specs.System.{System}
use Rattle.kernel_model.specs.Valid.{IsValidBoot}
use Rattle.kernel_model.specs.Events.{task_of, reaches_page}
use Rattle.kernel_model.specs.Pages.{place, pages_in, is_out, free, active_pages, inactive_pages}
use Rattle.kernel_model.specs.Histories.{fits, same, is_task_call, names_fit, limit_ok}
use Rattle.kern_ids.specs.declared.replies.Refusal.TheVariants.{Shortage}
use Rattle.kernel_model.specs.Lists.{some_if}
use Rattle.kernel_model.specs.Mapping.{maps, mapped}
use Rattle.kernel_model.specs.Answers.{object_of, named_task, no_object, bad_range, needed, short_of}
use Rattle.kernel_model.specs.Laws.Frames.{bit}
use Rattle.kernel_model.proofs.Laws.Held.{maps_mapped, not_false}
use Rattle.kernel_tables.proofs.Asked.{less}
use Rattle.kernel_model.proofs.Laws.Untouched.{pages-has}
use Rattle.page_queues.specs.Pages.{IsPage, free as free_in, place as place_in}
use Rattle.vm_object.specs.Objects.{object_at}
use Rattle.kernel_tables.specs.Values.{TableValues}
use Rattle.kernel_tables.specs.Stands.{Stands}
use Rattle.kernel_tables.specs.Asked.{IsAsked}
use Rattle.kernel_tables.proofs.Lists.{at-some, get_or-mapped, filter-more}
use Rattle.kernel_tables.proofs.AskLemmas.{active-are, inactive-are}

-- where at most two numbers pass, they alone count
pub count-two : (p : ℕ → Bool) (f n : ℕ) → ((k : ℕ) → k < n → p k ≡ true → (k ≡ f) ⊎ (k ≡ f + 1)) → count_by p (range_with_len 0 n) ≡ bit (nat_lt f n && p f) + bit (nat_lt (f + 1) n && p (f + 1))
count-two p f zero two =
    let a : nat_lt f 0 ≡ false = grind (arith, nat_tests) in
    let b : nat_lt (f + 1) 0 ≡ false = grind (arith, nat_tests) in
    rw (a, b) refl
count-two p f (suc n) two =
    let before : count_by p (range_with_len 0 n) ≡ bit (nat_lt f n && p f) + bit (nat_lt (f + 1) n && p (f + 1)) = count-two p f n (λ k l h. two k (omega arith) h) in
    let more : count_by p (range_with_len 0 (n + 1)) ≡ count_by p (range_with_len 0 n) + length (cond (p n) (n ∷ []) []) =
    sym (length-filter p (range_with_len 0 (n + 1))) ∙ ap length (filter-more p n) ∙ length-append (filter p (range_with_len 0 n)) (cond (p n) (n ∷ []) []) ∙ ap (λ m. m + length (cond (p n) (n ∷ []) [])) (length-filter p (range_with_len 0 n)) in
    let one : suc n ≡ n + 1 = omega arith in
    let last : (b : Bool) → length (cond b (n ∷ []) []) ≡ bit b = λ b. elim (cases_Bool b) [ inl h ↦ rw h refl | inr h ↦ rw h refl ] in
    let whole : count_by p (range_with_len 0 (suc n)) ≡ (bit (nat_lt f n && p f) + bit (nat_lt (f + 1) n && p (f + 1))) + bit (p n) =
    ap (λ m. count_by p (range_with_len 0 m)) one ∙ more ∙ ap₂ (λ a b. a + b) before (last (p n)) in
    elim (cases_eq n f) [
      | inl at ↦
          let a : nat_lt f n ≡ false = grind (arith, nat_tests) in
          let b : nat_lt (f + 1) n ≡ false = grind (arith, nat_tests) in
          let c : nat_lt f (suc n) ≡ true = grind (arith, nat_tests) in
          let d : nat_lt (f + 1) (suc n) ≡ false = grind (arith, nat_tests) in
          whole ∙ rw (a, b, c, d, at) (omega arith)
      | inr other ↦ elim (cases_eq n (f + 1)) [
        | inl at ↦
            let a : nat_lt f n ≡ true = grind (arith, nat_tests) in
            let b : nat_lt (f + 1) n ≡ false = grind (arith, nat_tests) in
            let c : nat_lt f (suc n) ≡ true = grind (arith, nat_tests) in
            let d : nat_lt (f + 1) (suc n) ≡ true = grind (arith, nat_tests) in
            whole ∙ rw (a, b, c, d, at) (omega arith)
        | inr further ↦
            let none : p n ≡ false = elim (cases_Bool (p n)) [
              | inl h ↦ absurd (elim (two n (omega arith) h) [ inl e ↦ other e | inr e ↦ further e ])
              | inr h ↦ h
            ] in
            let c : nat_lt f (suc n) ≡ nat_lt f n = grind (arith, nat_tests) in
            let d : nat_lt (f + 1) (suc n) ≡ nat_lt (f + 1) n = grind (arith, nat_tests) in
            whole ∙ rw (none, c, d) (omega arith)
      ]
    ]

-- bytes in range reach the page of their first byte and the one after it at most
reached : (off len k : ℕ) → len ≤ 256 → reaches_page off len k ≡ true → (k ≡ off / 4096) ⊎ (k ≡ off / 4096 + 1)
reached off len k most h =
    let parts = and_parts (nat_lt off (4096 * (k + 1)) && nat_lt (4096 * k) (off + len)) (nat_lt 0 len) h in
    let both = and_parts (nat_lt off (4096 * (k + 1))) (nat_lt (4096 * k) (off + len)) parts.0 in
    let before : off < 4096 * (k + 1) = less off (4096 * (k + 1)) both.0 in
    let after : 4096 * k < off + len = less (4096 * k) (off + len) both.1 in
    let f : ℕ = off / 4096 in
    elim (cases_eq k (off / 4096)) [
      | inl at ↦ inl at
      | inr other ↦ inr (omega (arith, other))
    ]

middle_false : (a b c : Bool) → a || b || c ≡ false → b ≡ false
middle_false a b c h = elim (cases_Bool b) [
  | inl held ↦ elim (cases_Bool a) [ inl x ↦ absurd (true≢false (sym (rw (held, x) refl) ∙ h)) | inr x ↦ absurd (true≢false (sym (rw (held, x) refl) ∙ h)) ]
  | inr not_held ↦ not_held
]

in_reach : (boot : System) (o off len : ℕ) → bad_range boot o off len ≡ false → len ≤ 256
in_reach boot o off len r = elim (cases_lt 256 len) [
  | inl l ↦
      let f : nat_lt 256 len ≡ true = grind (arith, nat_tests) in
      absurd (true≢false (sym f ∙ middle_false (nat_eq len 0) (nat_lt 256 len) (nat_lt (4096 * pages_in boot o) (off + len)) r))
  | inr m ↦ m
]

-- the pages that bytes in range need: of the two that they can reach
pub needed-is : (boot : System) (past : List Entry) (o off len x y : ℕ) → bad_range boot o off len ≡ false
    → x ≡ bit (nat_lt (off / 4096) (pages_in boot o) && (reaches_page off len (off / 4096) && is_out (place boot past (record { obj = o; page = off / 4096 }))))
    → y ≡ bit (nat_lt (off / 4096 + 1) (pages_in boot o) && (reaches_page off len (off / 4096 + 1) && is_out (place boot past (record { obj = o; page = off / 4096 + 1 }))))
    → x + y ≡ needed boot past o off len
unfolding needed
needed-is boot past o off len x y r a b =
    let p : ℕ → Bool = λ (k : ℕ). reaches_page off len k && is_out (place boot past (record { obj = o; page = k })) in
    ap₂ (λ n m. n + m) a b
    ∙ sym (count-two (λ k. reaches_page off len k && is_out (place boot past (record { obj = o; page = k }))) (off / 4096) (pages_in boot o)
    (λ k l h. reached off len k (in_reach boot o off len r) (and_parts (reaches_page off len k) (is_out (place boot past (record { obj = o; page = k }))) h).0))

-- a page of the object, reached, is needed where its place is out
pub page-needed : (tables : TableValues) (past : List Entry) (o k : ℕ) (reaches found : Bool) → Stands tables past → o < length tables.boot.objects → k < (object_at tables.objects o).pages
    → reaches ≡ true → found ≡ is_out (place_in tables.pages (record { obj = o; page = k }))
    → found ≡ (nat_lt k (pages_in tables.boot o) && (reaches && is_out (place tables.boot past (record { obj = o; page = k }))))
page-needed tables past o k reaches found s l inside r f =
    let size : (object_at tables.objects o).pages ≡ pages_in tables.boot o = s.objects.sizes o l in
    let here : nat_lt k (pages_in tables.boot o) ≡ true = (let m : k < pages_in tables.boot o = omega (arith, size, inside) in grind (arith, nat_tests)) in
    let declared : nat_lt o (length tables.boot.objects) ≡ true = grind (arith, nat_tests) in
    let has = pages-has tables.boot (record { obj = o; page = k }) (rw (declared, here) refl) in
    f ∙ ap is_out (s.pages.places (record { obj = o; page = k }) has) ∙ sym (rw (here, r) refl)

pub page-declared : (tables : TableValues) (past : List Entry) (o k : ℕ) → Stands tables past → o < length tables.boot.objects → k < (object_at tables.objects o).pages → IsPage tables.pages (record { obj = o; page = k })
page-declared tables past o k s l inside =
    let count : length tables.pages.sizes ≡ length tables.boot.objects = ap length s.pages.page_sizes ∙ length-map tables.boot.objects (λ object. object.pages) in
    let size : (object_at tables.objects o).pages ≡ pages_in tables.boot o = s.objects.sizes o l in
    let at = at-some tables.boot.objects o l in
    let told : slice_index_or tables.pages.sizes o 0 ≡ pages_in tables.boot o =
    ap (λ sizes. slice_index_or sizes o 0) s.pages.page_sizes ∙ get_or-mapped (λ object. object.pages) tables.boot.objects o at.0 0 at.1 ∙ sym (ap (λ x. option_map_or (λ object. object.pages) x 0) at.1) in
    record { object = omega (arith, count, l); inside = omega (arith, told, size, inside) }

-- the free frames
pub free-is : (tables : TableValues) (past : List Entry) → Stands tables past → free_in tables.pages ≡ free tables.boot past
unfolding free
free-is tables past s =
    ap₂ (λ a i. tables.pages.frames - (a + i)) (active-are tables past s) (inactive-are tables past s)
    ∙ ap (λ f. f - (active_pages tables.boot past + inactive_pages tables.boot past)) s.pages.frames

pub short-is : (boot : System) (past : List Entry) (n f : ℕ) → f ≡ free boot past → f < n → Some (Shortage n f) ≡ short_of boot past n
unfolding short_of
short-is boot past n f e l =
    let t : nat_lt f n ≡ true = grind (arith, nat_tests) in
    sym (ap (λ b. some_if b (Shortage n f)) t) ∙ ap (λ m. some_if (nat_lt m n) (Shortage n m)) e

pub enough-is : (boot : System) (past : List Entry) (n f : ℕ) → f ≡ free boot past → n ≤ f → None ≡ short_of boot past n
unfolding short_of
enough-is boot past n f e l =
    let t : nat_lt f n ≡ false = grind (arith, nat_tests) in
    sym (ap (λ b. some_if b (Shortage n f)) t) ∙ ap (λ m. some_if (nat_lt m n) (Shortage n m)) e

-- the object of a Write or a Read that its task maps
pub write-maps : (boot : System) (past : List Entry) (t : ℕ) (call : Call) (o off : ℕ) (bytes : List ℕ) → call ≡ Write o off bytes → IsAsked boot t call → no_object boot past t call ≡ false → (o < length boot.objects) × (mapped boot past o ≡ true)
write-maps boot past t call o off bytes is a n =
    let asked : IsAsked boot t (Write o off bytes) = subst (IsAsked boot t) is a in
    let maps_it : maps boot past o t ≡ true = not_false (maps boot past o t) (subst (λ c. no_object boot past t c ≡ false) is n) in
    (asked.object, maps_mapped boot past o t (asked.caller refl) maps_it)

pub read-maps : (boot : System) (past : List Entry) (t : ℕ) (call : Call) (o off len : ℕ) → call ≡ Read o off len → IsAsked boot t call → no_object boot past t call ≡ false → (o < length boot.objects) × (mapped boot past o ≡ true)
read-maps boot past t call o off len is a n =
    let asked : IsAsked boot t (Read o off len) = subst (IsAsked boot t) is a in
    let maps_it : maps boot past o t ≡ true = not_false (maps boot past o t) (subst (λ c. no_object boot past t c ≡ false) is n) in
    (asked.object, maps_mapped boot past o t (asked.caller refl) maps_it)
