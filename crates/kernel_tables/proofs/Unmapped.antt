-- All pages of an object that nobody maps are Absent, in every history that the kernel can have.
use Rattle.std.proofs.Common.{◌≡◌, ℕ, List, [], ◌∷◌, length, Option, Some, None, option_map, refl, sym, ap, ◌∙◌, Bool, true, false, ◌&&◌, ◌||◌, not, if◌then◌else◌, inl, inr, nat_eq}
use Rattle.std.specs.Option.{unwrap_or}
use Rattle.std.proofs.lemmas.Bool.{cases_Bool, false≢true, true≢false, and_parts}
use Rattle.kern_ids.specs.declared.entries.Entry.{Entry}
use Rattle.kern_ids.specs.declared.ids.PageId.{PageId}
use Rattle.kern_ids.specs.declared.calls.Call.{Call}
use Rattle.kern_ids.specs.declared.calls.Call.TheVariants.{Write, Read, Scan}
use Rattle.kern_ids.specs.declared.replies.Reply.{Reply}
use Rattle.kern_ids.specs.declared.replies.Reply.TheVariants.{Moved}
use Rattle.kernel_model.specs.declared.place.Place.{Place}
use Rattle.kernel_model.specs.declared.place.Place.TheVariants.{Absent, Active}
use Rattle.kernel_model.specs.declared.place.Placed.{Placed}
use Rattle.kernel_model.specs.System.{System}
use Rattle.kernel_model.specs.Valid.{IsValidBoot}
use Rattle.kernel_model.specs.Events.{is_reply, reaches_page, task_of}
use Rattle.kernel_model.specs.Mapping.{maps, mapped, unmaps}
use Rattle.kernel_model.specs.State.{state, is_empty}
use Rattle.kernel_model.specs.Contents.{empties}
use Rattle.kernel_model.specs.Pages.{place, placed, next_placed, touches, move_of, moved_to, same_page, is_out}
use Rattle.kernel_model.specs.Answers.{answer}
use Rattle.kernel_model.specs.Histories.{IsLegal}
use Rattle.kernel_model.specs.Laws.Frames.{is_in}
use Rattle.kernel_model.specs.Laws.Kinds.{tells}
use Rattle.kernel_model.proofs.Laws.Answers.{refused, gets, answer-cases, answer-tells, accepted-no_object}
use Rattle.kernel_model.proofs.Laws.Bounds.{scan-answer}
use Rattle.kernel_model.proofs.Laws.Frames.{same_page-is}
use Rattle.kernel_model.proofs.Laws.Held.{maps_mapped, not_false}
use Rattle.kernel_model.proofs.Laws.Kinds.{placed-unmapped}
use Rattle.kernel_model.proofs.Laws.Lost.{nat_is}
use Rattle.kernel_model.proofs.Laws.Mapping.{unmaps-is}
use Rattle.kernel_model.proofs.Laws.Pages.{placed-none, placed-more}
use Rattle.kernel_model.proofs.Laws.Scans.{scan-moved, scan_move-in}
use Rattle.kernel_tables.proofs.Objects.{maps-declared}

-- an object that a caller maps is mapped
pub caller-mapped : (boot : System) (past : List Entry) (o t : ℕ) → IsValidBoot boot → maps boot past o t ≡ true → mapped boot past o ≡ true
caller-mapped boot past o t v m = maps_mapped boot past o t (maps-declared boot past o t v m) m

pub unmapped-by : (boot : System) (past : List Entry) (o t : ℕ) → IsValidBoot boot → mapped boot past o ≡ false → maps boot past o t ≡ false
unmapped-by boot past o t v n = elim (cases_Bool (maps boot past o t)) [
  | inl m ↦ absurd (true≢false (sym (caller-mapped boot past o t v m) ∙ n))
  | inr m ↦ m
]

-- an entry that touches a page finds its object mapped
or_none : (a b : Bool) → (a || (false && b)) ≡ true → a ≡ true
or_none true b h = refl
or_none false b h = absurd (false≢true h)

no_touch : (a b : Bool) → (a && (false || (false && b))) ≡ true → ⊥
no_touch true b h = false≢true h
no_touch false b h = false≢true h

touched_mapped : (boot : System) (before : List Entry) (who : ℕ) (call : Call) (reply : Reply) (p : PageId) → IsValidBoot boot → reply ≡ answer boot before who call → touches before (record { who = who; call = call; reply = reply }) p ≡ true → mapped boot before p.obj ≡ true
touched_mapped boot before who (Write x off bytes) reply p v h t =
    let at = and_parts (is_reply reply) ((nat_eq x p.obj && reaches_page off (length bytes) p.page) || (false && not (is_empty (state before p.obj)))) t in
    let is = and_parts (nat_eq x p.obj) (reaches_page off (length bytes) p.page) (or_none (nat_eq x p.obj && reaches_page off (length bytes) p.page) (not (is_empty (state before p.obj))) at.1) in
    elim (answer-cases boot before who (Write x off bytes)) [
      | refused why r a ↦ absurd (false≢true (ap is_reply (sym (h ∙ a)) ∙ at.0))
      | gets r a ↦ ap (mapped boot before) (sym (nat_is x p.obj is.0)) ∙ caller-mapped boot before x (unwrap_or (task_of boot who) 0) v (not_false (maps boot before x (unwrap_or (task_of boot who) 0)) (accepted-no_object boot before who (Write x off bytes) r))
    ]
touched_mapped boot before who (Read x off len) reply p v h t =
    let at = and_parts (is_reply reply) ((nat_eq x p.obj && reaches_page off len p.page) && not (is_empty (state before p.obj))) t in
    let is = and_parts (nat_eq x p.obj) (reaches_page off len p.page) (and_parts (nat_eq x p.obj && reaches_page off len p.page) (not (is_empty (state before p.obj))) at.1).0 in
    elim (answer-cases boot before who (Read x off len)) [
      | refused why r a ↦ absurd (false≢true (ap is_reply (sym (h ∙ a)) ∙ at.0))
      | gets r a ↦ ap (mapped boot before) (sym (nat_is x p.obj is.0)) ∙ caller-mapped boot before x (unwrap_or (task_of boot who) 0) v (not_false (maps boot before x (unwrap_or (task_of boot who) 0)) (accepted-no_object boot before who (Read x off len) r))
    ]
touched_mapped boot before who call reply p v h t = absurd (no_touch (is_reply reply) (not (is_empty (state before p.obj))) t)

-- a page that moves is in a frame
moved_page : (b : Bool) (y x : Place) → (if b then Some y else None) ≡ Some x → b ≡ true
moved_page true y x h = refl
moved_page false y x h = absurd (cc)

moved_from : (boot : System) (before : List Entry) (who : ℕ) (call : Call) (reply : Reply) (p : PageId) (x : Place) → reply ≡ answer boot before who call → move_of p reply ≡ Some x → is_in (place boot before p) ≡ true
moved_from boot before who Scan (Moved move q) p x h m =
    let same : same_page p q ≡ true = moved_page (same_page p q) (moved_to move) x m in
    ap (λ (r : PageId). is_in (place boot before r)) (sym (same_page-is p q same)) ∙ scan_move-in boot before move q (scan-moved boot before move q (scan-answer boot before who move q h)).chosen
moved_from boot before who call (Moved move q) p x h m = absurd (false≢true (ap (λ r. tells r call) h ∙ answer-tells boot before who call))
moved_from boot before who call reply p x h m = absurd (cc)

none_or : {A : Type 0} (o : Option A) → ((x : A) → o ≡ Some x → ⊥) → o ≡ None
none_or (Some x) h = absurd (h x refl)
none_or None h = refl

still_absent : (gone faults : Bool) (moved : Option Place) (n : ℕ) (was : Placed) → faults ≡ false → moved ≡ None → was.place ≡ Absent → (unwrap_or (option_map (λ (x : Place). record { place = x; number = n }) (if gone then Some Absent else if faults then Some Active else moved)) was).place ≡ Absent
still_absent true faults moved n was f m a = refl
still_absent false faults moved n was f m a = rw (f, m) a

untouched : (t o : Bool) → (t ≡ true → ⊥) → (t && o) ≡ false
untouched true o h = absurd (h refl)
untouched false o h = refl

was_mapped : (b : Bool) → b ≡ true → (b && not false) ≡ true
was_mapped true h = refl
was_mapped false h = absurd (false≢true h)

pub absent-unmapped : (boot : System) (past : List Entry) (p : PageId) → IsValidBoot boot → IsLegal boot past → mapped boot past p.obj ≡ false → place boot past p ≡ Absent
unfolding next_placed
absent-unmapped boot [] p v l n = ap (λ (x : Placed). x.place) (placed-none boot p)
absent-unmapped boot (e ∷ before) p v l n = elim (cases_Bool (mapped boot before p.obj)) [
  | inl m ↦ ap (λ (x : Placed). x.place) (placed-unmapped boot e before p (unmaps-is boot e before p.obj ∙ ap (λ b. mapped boot before p.obj && not b) n ∙ was_mapped (mapped boot before p.obj) m))
  | inr m ↦
      let absent : place boot before p ≡ Absent = absent-unmapped boot before p v l.2 m in
      ap (λ (x : Placed). x.place) (placed-more boot e before p)
      ∙ still_absent (empties p.obj before e || unmaps boot before e p.obj) (touches before e p && is_out (place boot before p)) (move_of p e.reply) (length before) (placed boot before p)
      (untouched (touches before e p) (is_out (place boot before p)) (λ t. true≢false (sym (touched_mapped boot before e.who e.call e.reply p v l.1 t) ∙ m)))
      (none_or (move_of p e.reply) (λ x h. false≢true (ap is_in (sym absent) ∙ moved_from boot before e.who e.call e.reply p x l.1 h)))
      absent
]
