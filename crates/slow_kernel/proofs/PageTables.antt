-- What is known of the pages of an object, one entry more.
use Rattle.std.proofs.Common.{◌≡◌, ℕ, ◌+◌, ◌<◌, List, [], ◌∷◌, ◌++◌, append_assoc, append-nil, subst, arith, length, map, reverse, get_or, Bool, false, ◌&&◌, ◌||◌, not, Option, None, refl, sym, ap, ap₂, ◌∙◌}
use Rattle.std.specs.List.{range_with_len}
use Rattle.std.proofs.lemmas.Bool.{or_parts, and_right}
use Rattle.kern_ids.specs.declared.entries.Entry.{Entry}
use Rattle.kern_ids.specs.declared.ids.PageId.{PageId}
use Rattle.kern_ids.specs.declared.calls.State.{State}
use Rattle.kern_ids.specs.declared.calls.Call.{Call}
use Rattle.kern_ids.specs.declared.calls.Call.TheVariants.{Write, Read}
use Rattle.kern_ids.specs.declared.replies.Reply.{Reply}
use Rattle.kern_ids.specs.declared.replies.Reply.TheVariants.{Moved}
use Rattle.kernel_model.specs.System.{System}
use Rattle.kernel_model.specs.Events.{accepted, write_covers, read_covers, reaches_page}
use Rattle.kernel_model.specs.Mapping.{unmaps, mapped, owner}
use Rattle.kernel_model.specs.State.{state}
use Rattle.kernel_model.specs.Contents.{empties_from}
use Rattle.kernel_model.specs.Pages.{placed, next_placed, touched_since, written, touches_from, move_of, pages_in, pages_of_size, pages_of, is_out, is_active, is_inactive, is_stored, active_pages, inactive_pages, stored_pages}
use Rattle.kernel_model.specs.Newest.{newest}
use Rattle.kernel_model.specs.Answers.{needed}
use Rattle.std.proofs.Common.{count_by}
use Rattle.slow_kernel.proofs.Maps.{count_by_map}
use Rattle.kernel_model.specs.declared.place.Place.{Place}
use Rattle.kernel_model.specs.declared.place.Place.TheVariants.{Absent}
use Rattle.kernel_model.specs.declared.place.Placed.{Placed}
use Rattle.kernel_model.proofs.Ranges.{pages_more, pages_none}
use Rattle.kernel_model.proofs.Laws.Pages.{placed-more, touched_since-more, written-more}
use Rattle.std.proofs.lemmas.List.{map_push, take_all}
use Rattle.slow_kernel.specs.declared.pages.PageFacts.{PageFacts}
use Rattle.slow_kernel.specs.declared.pages.PageRow.{PageRow}
use Rattle.slow_kernel.specs.declared.pages.ObjectPass.{ObjectPass}
use Rattle.slow_kernel.specs.Tables.{IsKnown, page, page_row, object_rows, all_rows, pages, facts, next_facts, next_touched, next_written, past_at, unmapped_at, tells_pages, is_access, moves_page_of}
use Rattle.slow_kernel.proofs.Loops.{placed_none, past_loop, past_length}
use Rattle.slow_kernel.proofs.Tables.{map_same}

pub unmaps_at : (boot : System) (h : List Entry) (i : ℕ) (e : Entry) (o : ℕ) → i < length h → e ≡ get_or h i e → unmaps boot (past_at h i) e o ≡ unmapped_at boot h i o
unfolding unmaps unmapped_at
unmaps_at boot h i e o l r = ap (λ past. mapped boot (past_at h i) o && not (mapped boot past o)) (sym (past_loop h i e l r))

quiet-write : (o k : ℕ) (call : Call) → is_access o call ≡ false → write_covers (page o k) call ≡ false
quiet-write o k (Write x off bytes) h = rw h refl
quiet-write o k _ h = refl

quiet-read : (o k : ℕ) (call : Call) → is_access o call ≡ false → read_covers (page o k) call ≡ false
quiet-read o k (Read x off len) h = rw h refl
quiet-read o k _ h = refl

quiet-move : (o k : ℕ) (reply : Reply) → moves_page_of o reply ≡ false → move_of (page o k) reply ≡ None
quiet-move o k (Moved move q) h = rw h refl
quiet-move o k _ h = refl

quiet-touch : (s : State) (o k : ℕ) (e : Entry) → is_access o e.call ≡ false → touches_from s (page o k) e ≡ false
quiet-touch s o k e h = rw (quiet-write o k e.call h, quiet-read o k e.call h) (and_right (accepted e) false refl)

pub facts_none : (boot : System) (p : PageId) → facts boot [] p ≡ record { placed = record { place = Absent; number = 0 }; touched = false; written = false }
unfolding touched_since written newest
facts_none boot p = ap (λ (w : Placed). record { placed = w; touched = false; written = false }) (placed_none boot p)

-- what is known of a page, one entry more
facts-more : (boot : System) (e : Entry) (before : List Entry) (p : PageId) → facts boot (e ∷ before) p ≡ next_facts (state before p.obj) (unmaps boot before e p.obj) (length before) p (facts boot before p) e
unfolding next_facts next_touched next_written
facts-more boot e before p =
    ap (λ (w : Placed). record { placed = w; touched = touched_since boot (e ∷ before) p; written = written (e ∷ before) p }) (placed-more boot e before p)
    ∙ ap (λ (b : Bool). record { placed = next_placed (state before p.obj) (unmaps boot before e p.obj) (length before) p (placed boot before p) e; touched = b; written = written (e ∷ before) p }) (touched_since-more boot e before p)
    ∙ ap (λ (b : Bool). record { placed = next_placed (state before p.obj) (unmaps boot before e p.obj) (length before) p (placed boot before p) e; touched = next_touched (state before p.obj) (unmaps boot before e p.obj) p (placed boot before p).place (touched_since boot before p) e; written = b }) (written-more e before p)

pub facts_at : (boot : System) (h : List Entry) (i : ℕ) (e : Entry) (p : PageId) → i < length h → e ≡ get_or h i e → facts boot (past_at h (i + 1)) p ≡ next_facts (state (past_at h i) p.obj) (unmapped_at boot h i p.obj) i p (facts boot (past_at h i) p) e
facts_at boot h i e p l r =
    ap (λ past. facts boot past p) (past_loop h i e l r)
    ∙ facts-more boot e (past_at h i) p
    ∙ ap₂ (λ u n. next_facts (state (past_at h i) p.obj) u n p (facts boot (past_at h i) p) e) (unmaps_at boot h i e p.obj l r) (past_length h i l)

-- the parts of an entry that tells nothing of the pages of o
record IsQuiet (s : State) (u : Bool) (o : ℕ) (e : Entry) : Type 0 where
  empties : empties_from s o e ≡ false
  unmaps : u ≡ false
  access : is_access o e.call ≡ false
  move : moves_page_of o e.reply ≡ false

is-quiet : (s : State) (u : Bool) (o : ℕ) (e : Entry) → tells_pages s u o e ≡ false → IsQuiet s u o e
unfolding tells_pages
is-quiet s u o e q =
    let m = or_parts (empties_from s o e || u || is_access o e.call) (moves_page_of o e.reply) q in
    let a = or_parts (empties_from s o e || u) (is_access o e.call) m.0 in
    let w = or_parts (empties_from s o e) u a.0 in
    record { empties = w.0; unmaps = w.1; access = a.1; move = m.1 }

quiet-placed : (s : State) (u : Bool) (n o k : ℕ) (was : Placed) (e : Entry) → IsQuiet s u o e → next_placed s u n (page o k) was e ≡ was
unfolding next_placed
quiet-placed s u n o k was e q = rw (q.empties, q.unmaps, quiet-touch s o k e q.access, quiet-move o k e.reply q.move) refl

quiet-touched : (s : State) (u : Bool) (o k : ℕ) (place : Place) (was : Bool) (e : Entry) → IsQuiet s u o e → next_touched s u (page o k) place was e ≡ was
unfolding next_touched
quiet-touched s u o k place was e q = rw (q.empties, q.unmaps, quiet-touch s o k e q.access, quiet-move o k e.reply q.move) refl

quiet-written : (s : State) (u : Bool) (o k : ℕ) (was : Bool) (e : Entry) → IsQuiet s u o e → next_written s (page o k) was e ≡ was
unfolding next_written
quiet-written s u o k was e q = rw (q.empties, quiet-write o k e.call q.access, and_right (accepted e) false refl) refl

-- an entry that tells nothing of the pages of o leaves them
facts-quiet : (s : State) (u : Bool) (n o k : ℕ) (was : PageFacts) (e : Entry) → IsQuiet s u o e → next_facts s u n (page o k) was e ≡ was
unfolding next_facts
facts-quiet s u n o k was e q =
    ap (λ (w : Placed). record { placed = w; touched = next_touched s u (page o k) was.placed.place was.touched e; written = next_written s (page o k) was.written e }) (quiet-placed s u n o k was.placed e q)
    ∙ ap₂ (λ (a b : Bool). record { placed = was.placed; touched = a; written = b }) (quiet-touched s u o k was.placed.place was.touched e q) (quiet-written s u o k was.written e q)

pub pages_quiet : (boot : System) (h : List Entry) (i : ℕ) (e : Entry) (o : ℕ) → i < length h → e ≡ get_or h i e → tells_pages (state (past_at h i) o) (unmapped_at boot h i o) o e ≡ false → pages boot (past_at h (i + 1)) o ≡ pages boot (past_at h i) o
pages_quiet boot h i e o l r q =
    map_same (λ k. facts boot (past_at h (i + 1)) (page o k)) (λ k. facts boot (past_at h i) (page o k))
    (λ k. facts_at boot h i e (page o k) l r ∙ facts-quiet (state (past_at h i) o) (unmapped_at boot h i o) i o k (facts boot (past_at h i) (page o k)) e (is-quiet (state (past_at h i) o) (unmapped_at boot h i o) o e q))
    (range_with_len 0 (pages_in boot o))

pub facts_step : (boot : System) (h : List Entry) (i : ℕ) (e : Entry) (o k : ℕ) (s : State) (u : Bool) (was now : PageFacts) → i < length h → e ≡ get_or h i e → now ≡ next_facts s u i (page o k) was e → s ≡ state (past_at h i) o → u ≡ unmapped_at boot h i o → was ≡ facts boot (past_at h i) (page o k) → now ≡ facts boot (past_at h (i + 1)) (page o k)
facts_step boot h i e o k s u was now l r n es eu ew = n ∙ rw (es, eu, ew) refl ∙ sym (facts_at boot h i e (page o k) l r)

pub row_from : (boot : System) (past : List Entry) (o k : ℕ) (row : PageRow) → row.page ≡ page o k → row.facts ≡ facts boot past (page o k) → row.state ≡ state past o → row.owner ≡ owner boot past o → row ≡ page_row boot past (page o k)
row_from boot past o k row p w s t =
    ap (λ (x : PageId). record { page = x; facts = row.facts; state = row.state; owner = row.owner }) p
    ∙ ap (λ (x : PageFacts). record { page = page o k; facts = x; state = row.state; owner = row.owner }) w
    ∙ ap (λ (x : State). record { page = page o k; facts = facts boot past (page o k); state = x; owner = row.owner }) s
    ∙ ap (λ (x : Option ℕ). record { page = page o k; facts = facts boot past (page o k); state = state past o; owner = x }) t

-- one row more
pub rows_more : (f : PageId → PageRow) (o k : ℕ) (base xs ys zs : List PageRow) (row : PageRow) → xs ≡ base ++ map f (pages_of_size o k) → ys ≡ xs → zs ≡ ys ++ row ∷ [] → row ≡ f (page o k) → zs ≡ base ++ map f (pages_of_size o (k + 1))
rows_more f o k base xs ys zs row e y z r =
    z ∙ ap₂ (λ (us : List PageRow) u. us ++ u ∷ []) (y ∙ e) r
    ∙ append_assoc base (map f (pages_of_size o k)) (f (page o k) ∷ [])
    ∙ ap (λ us. base ++ us) (sym (ap (map f) (pages_more o k) ∙ map_push f (pages_of_size o k) (page o k)))

pub rows_none : (f : PageId → PageRow) (o : ℕ) (base : List PageRow) → base ≡ base ++ map f (pages_of_size o 0)
rows_none f o base = sym (ap (λ ps. base ++ map f ps) (pages_none o) ∙ append-nil base)

pub known_all : (boot : System) (h : List Entry) (o : ℕ) (pass : ObjectPass) → IsKnown boot (past_at h (length h)) o pass → IsKnown boot (reverse h) o pass
known_all boot h o pass k = subst (λ (xs : List Entry). IsKnown boot (reverse xs) o pass) (take_all (length h) h (omega arith)) k

-- counts of pages are counts of their rows
pub active_rows : (boot : System) (past : List Entry) (rows : List PageRow) → rows ≡ all_rows boot past → count_by (λ row. is_active row.facts.placed.place) rows ≡ active_pages boot past
active_rows boot past rows e = ap (count_by (λ row. is_active row.facts.placed.place)) e ∙ count_by_map (λ row. is_active row.facts.placed.place) (page_row boot past) (pages_of boot)

pub inactive_rows : (boot : System) (past : List Entry) (rows : List PageRow) → rows ≡ all_rows boot past → count_by (λ row. is_inactive row.facts.placed.place) rows ≡ inactive_pages boot past
inactive_rows boot past rows e = ap (count_by (λ row. is_inactive row.facts.placed.place)) e ∙ count_by_map (λ row. is_inactive row.facts.placed.place) (page_row boot past) (pages_of boot)

pub stored_rows : (boot : System) (past : List Entry) (rows : List PageRow) → rows ≡ all_rows boot past → count_by (λ row. is_stored row.facts.placed.place) rows ≡ stored_pages boot past
stored_rows boot past rows e = ap (count_by (λ row. is_stored row.facts.placed.place)) e ∙ count_by_map (λ row. is_stored row.facts.placed.place) (page_row boot past) (pages_of boot)

pub needed_rows : (boot : System) (past : List Entry) (o off len : ℕ) → count_by (λ row. reaches_page off len row.page.page && is_out row.facts.placed.place) (object_rows boot past o) ≡ needed boot past o off len
unfolding needed pages_of_size
needed_rows boot past o off len =
    count_by_map (λ row. reaches_page off len row.page.page && is_out row.facts.placed.place) (page_row boot past) (map (page o) (range_with_len 0 (pages_in boot o)))
    ∙ count_by_map (λ p. reaches_page off len p.page && is_out (placed boot past p).place) (page o) (range_with_len 0 (pages_in boot o))
