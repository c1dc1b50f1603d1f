-- Entries that leave the bytes of an object, refused calls, and which pages there are.
use Rattle.std.proofs.Common.{◌≡◌, ℕ, ◌+◌, ◌<◌, List, [], ◌∷◌, length, map, Option, Some, None, refl, sym, ap, ◌∙◌, subst, Bool, true, false, ◌&&◌, ◌||◌, nat_lt, if◌then◌else◌, inl, inr, arith, zero-le}
use Rattle.std.specs.Prelude.{IsTrue, is_some}
use Rattle.std.specs.List.{range_with_len, flat_map}
use Rattle.std.proofs.lemmas.Bool.{false≢true, true≢false, and_parts}
use Rattle.std.proofs.lemmas.Bool.Decides.{nat_tests}
use Rattle.kern_ids.specs.declared.entries.Entry.{Entry}
use Rattle.kern_ids.specs.declared.ids.PageId.{PageId}
use Rattle.kern_ids.specs.declared.calls.Call.{Call}
use Rattle.kern_ids.specs.declared.calls.Call.TheVariants.{Write, Tick}
use Rattle.kern_ids.specs.declared.replies.Refusal.{Refusal}
use Rattle.kern_ids.specs.declared.replies.Reply.TheVariants.{Refused}
use Rattle.kernel_model.specs.System.{System}
use Rattle.kernel_model.specs.Events.{accepted, is_map, is_purge, byte_call, task_of}
use Rattle.kernel_model.specs.Contents.{byte, asks_empty}
use Rattle.kernel_model.specs.Answers.{refusal}
use Rattle.kernel_model.specs.Histories.{fits, names_fit, same, is_task_call}
use Rattle.kernel_model.specs.Bands.{is_tick_call}
use Rattle.kernel_model.specs.Pages.{pages_of, pages_of_size, pages_in}
use Rattle.kernel_model.specs.Laws.Frames.{is_page}
use Rattle.kernel_model.specs.Laws.Order.{Has}
use Rattle.kernel_model.specs.Laws.Kinds.{touches_bytes, is_write_call}
use Rattle.kernel_model.specs.Laws.Unchanged.{Unchanged}
use Rattle.kernel_model.proofs.Laws.Kept.{byte-kept, quiet-unchanged}
use Rattle.kernel_model.proofs.Laws.Order.{has-append_left, has-append_right, has-append_cases}
use Rattle.kernel_model.proofs.Laws.Queues.{range-has, has-range}

-- none of four holds where not one does
none_of : (a b c d : Bool) → (((a || b) || c) || d) ≡ false → (a ≡ false) × (b ≡ false) × (c ≡ false) × (d ≡ false)
none_of true b c d h = absurd (true≢false h)
none_of false true c d h = absurd (true≢false h)
none_of false false true d h = absurd (true≢false h)
none_of false false false true h = absurd (true≢false h)
none_of false false false false h = (refl, refl, refl, refl)

no_write : (acc : Bool) (o b : ℕ) (call : Call) → (acc && is_write_call o call) ≡ false → (if acc then byte_call o b call else None) ≡ None
no_write true o b (Write x off bytes) h = rw h refl
no_write true o b call h = refl
no_write false o b call h = refl

-- an entry that doesn't touch the bytes of an object leaves each of them
pub byte-untouched : (e : Entry) (before : List Entry) (o b : ℕ) → touches_bytes o e ≡ false → byte (e ∷ before) o b ≡ byte before o b
byte-untouched e before o b h =
    let n = none_of (is_map o e) (accepted e && is_write_call o e.call) (is_purge o e) (asks_empty o e) h in
    byte-kept e before o b (rw (n.0, n.2, n.3) refl) (no_write (accepted e) o b e.call n.1)

-- no Tick of a kernel thread is refused
refusal-tick : (boot : System) (past : List Entry) (who : ℕ) → task_of boot who ≡ None → refusal boot past who Tick ≡ None
unfolding refusal
refusal-tick boot past who h = rw h refl

no_task : {A : Type 0} (o : Option A) → IsTrue (same false (is_some o)) → o ≡ None
no_task (Some x) h = absurd (false≢true h)
no_task None h = refl

some_none : {A : Type 0} {x : A} → Some x ≡ None → ⊥
some_none h = cc

refused_tick : (boot : System) (past : List Entry) (who : ℕ) (call : Call) (why : Refusal) → IsTrue (fits boot who call) → refusal boot past who call ≡ Some why → is_tick_call call ≡ false
refused_tick boot past who Tick why f h =
    let p = and_parts (nat_lt who (length boot.sides) && same (is_task_call Tick) (is_some (task_of boot who))) (names_fit boot Tick) f in
    let q = and_parts (nat_lt who (length boot.sides)) (same (is_task_call Tick) (is_some (task_of boot who))) p.0 in
    absurd (some_none (sym h ∙ refusal-tick boot past who (no_task (task_of boot who) q.1)))
refused_tick boot past who call why f h = refl

-- a refused call that fits leaves every answer
pub refused-unchanged : (boot : System) (past : List Entry) (who : ℕ) (call : Call) (why : Refusal) → IsTrue (fits boot who call) → refusal boot past who call ≡ Some why → Unchanged boot (record { who = who; call = call; reply = Refused why }) past
refused-unchanged boot past who call why f h = quiet-unchanged boot (record { who = who; call = call; reply = Refused why }) past (rw (refused_tick boot past who call why f h) refl)

-- the pages are those of the declared objects
has_flat_map : {A B : Type 0} (h : A → List B) (xs : List A) (x : A) (y : B) → Has xs x → Has (h x) y → Has (flat_map h xs) y
has_flat_map h [] x y m n = absurd m
has_flat_map h (z ∷ xs) x y (inl e) n = has-append_left (h z) (flat_map h xs) y (subst (λ w. Has (h w) y) (sym e) n)
has_flat_map h (z ∷ xs) x y (inr m) n = has-append_right (h z) (flat_map h xs) y (has_flat_map h xs x y m n)

flat_map_has : {A B : Type 0} (h : A → List B) (xs : List A) (y : B) → Has (flat_map h xs) y → (x : A) × Has xs x × Has (h x) y
flat_map_has h [] y m = absurd m
flat_map_has h (z ∷ xs) y m = elim (has-append_cases (h z) (flat_map h xs) y m) [
  | inl l ↦ (z, inl refl, l)
  | inr r ↦ (let q = flat_map_has h xs y r in (q.0, inr q.1, q.2))
]

has_map : {A B : Type 0} (f : A → B) (xs : List A) (x : A) → Has xs x → Has (map f xs) (f x)
has_map f [] x m = absurd m
has_map f (z ∷ xs) x (inl e) = inl (ap f e)
has_map f (z ∷ xs) x (inr m) = inr (has_map f xs x m)

map_has : {A B : Type 0} (f : A → B) (xs : List A) (y : B) → Has (map f xs) y → (x : A) × Has xs x × (f x ≡ y)
map_has f [] y m = absurd m
map_has f (z ∷ xs) y (inl e) = (z, inl refl, e)
map_has f (z ∷ xs) y (inr m) = let q = map_has f xs y m in (q.0, inr q.1, q.2)

both_true : (a b : Bool) → (a && b) ≡ true → (a ≡ true) × (b ≡ true)
both_true true b h = (refl, h)
both_true false b h = absurd (false≢true h)

below : (m n : ℕ) → nat_lt m n ≡ true → m < n
below m n h = grind (arith, nat_tests)

is_below : (m n : ℕ) → m < n → nat_lt m n ≡ true
is_below m n h = grind (arith, nat_tests)

pub pages-has : (boot : System) (p : PageId) → is_page boot p ≡ true → Has (pages_of boot) p
unfolding pages_of_size
pages-has boot p h =
    let b = both_true (nat_lt p.obj (length boot.objects)) (nat_lt p.page (pages_in boot p.obj)) h in
    let l = below p.obj (length boot.objects) b.0 in
    let m = below p.page (pages_in boot p.obj) b.1 in
    let lo : p.obj < 0 + length boot.objects = omega arith in
    let mo : p.page < 0 + pages_in boot p.obj = omega arith in
    has_flat_map (λ o. pages_of_size o (pages_in boot o)) (range_with_len 0 (length boot.objects)) p.obj p (range-has 0 (length boot.objects) p.obj zero-le lo)
    (has_map (λ k. record { obj = p.obj; page = k }) (range_with_len 0 (pages_in boot p.obj)) p.page (range-has 0 (pages_in boot p.obj) p.page zero-le mo))

pub has-pages : (boot : System) (p : PageId) → Has (pages_of boot) p → is_page boot p ≡ true
unfolding pages_of_size
has-pages boot p h =
    let f = flat_map_has (λ o. pages_of_size o (pages_in boot o)) (range_with_len 0 (length boot.objects)) p h in
    let g = map_has (λ k. record { obj = f.0; page = k }) (range_with_len 0 (pages_in boot f.0)) p f.2 in
    let l = has-range 0 (length boot.objects) f.0 f.1 in
    let m = has-range 0 (pages_in boot f.0) g.0 g.1 in
    let lo : f.0 < length boot.objects = let x = l.1 in omega arith in
    let mo : g.0 < pages_in boot f.0 = let x = m.1 in omega arith in
    subst (λ q. is_page boot q ≡ true) g.2 (rw (is_below f.0 (length boot.objects) lo) (is_below g.0 (pages_in boot f.0) mo))
