-- Of a mapped object an entry has decided whether its bytes are lost, and a SetState NONVOLATILE leaves the bytes.
use Rattle.std.proofs.Common.{◌≡◌, ℕ, List, [], ◌∷◌, length, Option, Some, None, refl, sym, ap, ◌∙◌, Bool, true, false, ◌&&◌, nat_eq, if◌then◌else◌, inl, inr, ◌⊎◌}
use Rattle.std.specs.Prelude.{is_some, IsTrue}
use Rattle.std.specs.Option.{unwrap_or}
use Rattle.std.proofs.lemmas.Bool.{false≢true, and_parts}
use Rattle.kern_ids.specs.declared.entries.Entry.{Entry}
use Rattle.kern_ids.specs.declared.calls.Call.{Call}
use Rattle.kern_ids.specs.declared.calls.Call.TheVariants.{Attach, SetState}
use Rattle.kern_ids.specs.declared.calls.Wish.{Wish}
use Rattle.kern_ids.specs.declared.calls.Wish.TheVariants.{Nonvolatile as ask_nonvolatile}
use Rattle.kern_ids.specs.declared.replies.Reply.{Reply}
use Rattle.kernel_model.specs.System.{System}
use Rattle.kernel_model.specs.Newest.{newest}
use Rattle.kernel_model.specs.Valid.{IsValidBoot}
use Rattle.kernel_model.specs.Events.{is_map, is_attach, is_attach_call, is_map_call, is_reply, asked, wish_call, purged_by, written_byte, task_of, accepted}
use Rattle.kernel_model.specs.Mapping.{live, maps, said_maps, mapped, tasks_of}
use Rattle.kernel_model.specs.Contents.{byte, empties}
use Rattle.kernel_model.specs.Answers.{answer}
use Rattle.kernel_model.specs.Histories.{IsLegal, fits, names_fit, same, is_task_call}
use Rattle.kernel_model.specs.Lists.{some_if}
use Rattle.kernel_model.specs.Laws.Legal.{decides}
use Rattle.kernel_model.specs.Laws.Literal.{newest_number, newest_gift, gift_after}
use Rattle.kernel_model.proofs.Literal.{byte-is}
use Rattle.kernel_model.proofs.Laws.Order.{any-none}
use Rattle.kernel_model.proofs.Laws.Answers.{refused, gets, answer-cases, accepted-no_object}
use Rattle.kernel_model.proofs.Laws.Kept.{byte-kept}
use Rattle.kernel_model.proofs.Laws.Lost.{set-answer, if_some, if_given, if_none, nat_is}
use Rattle.kernel_model.proofs.Laws.Tokens.{mapped_before}
use Rattle.kernel_model.proofs.Laws.Held.{declared_task, maps_mapped, not_false}

cases_bool : (b : Bool) → (b ≡ true) ⊎ (b ≡ false)
cases_bool true = inl refl
cases_bool false = inr refl

both_true : (a b : Bool) → (a && b) ≡ true → (a ≡ true) × (b ≡ true)
both_true true b h = (refl, h)
both_true false b h = absurd (false≢true h)

and_false : (b : Bool) → (b && false) ≡ false
and_false true = refl
and_false false = refl

-- nothing is mapped at the start
unmapped_start : (boot : System) (o : ℕ) → mapped boot [] o ≡ false
unfolding mapped maps said_maps newest
unmapped_start boot o = any-none (maps boot [] o) (tasks_of boot) (λ t m. and_false (live boot [] t))

-- an accepted Attach finds the object mapped
attached_before : (boot : System) (before : List Entry) (who : ℕ) (call : Call) (reply : Reply) (o : ℕ) → reply ≡ answer boot before who call → (is_reply reply && is_attach_call o call) ≡ true → mapped boot before o ≡ true
attached_before boot before who (Attach x) reply o h a = elim (answer-cases boot before who (Attach x)) [
  | refused why r k ↦ absurd (false≢true (ap is_reply (sym (h ∙ k)) ∙ (both_true (is_reply reply) (nat_eq x o) a).0))
  | gets r k ↦ ap (mapped boot before) (sym (nat_is x o (both_true (is_reply reply) (nat_eq x o) a).1)) ∙ not_false (mapped boot before x) (accepted-no_object boot before who (Attach x) r)
]
attached_before boot before who call reply o h a = absurd (false≢true (sym (and_false (is_reply reply)) ∙ a))

unmapping_call : (m p : Bool) (a : Option Bool) → (if m then Some false else if p then Some true else a) ≡ None → m ≡ false
unmapping_call true p a h = absurd (cc)
unmapping_call false p a h = refl

decided_next : (d : Option Bool) (n : ℕ) (was : Option ℕ) → (d ≡ None → is_some was ≡ true) → is_some (unwrap_or (some_if (is_some d) (Some n)) was) ≡ true
decided_next (Some b) n was h = refl
decided_next None n was h = h refl

-- an entry has decided of each mapped object
pub decided-mapped : (boot : System) (past : List Entry) (o : ℕ) → IsLegal boot past → mapped boot past o ≡ true → is_some (newest_number (λ before e. is_some (decides o e)) past) ≡ true
unfolding newest
decided-mapped boot [] o l m = absurd (false≢true (sym (unmapped_start boot o) ∙ m))
decided-mapped boot (e ∷ before) o l m =
    decided_next (decides o e) (length before) (newest_number (λ before e. is_some (decides o e)) before)
    (λ none. decided-mapped boot before o l.2 (elim (cases_bool (is_attach o e)) [
      | inl t ↦ attached_before boot before e.who e.call e.reply o l.1 t
      | inr f ↦ mapped_before boot e before o (unmapping_call (is_map o e) (Rattle.kernel_model.specs.Events.is_purge o e) _ none) f m
    ]))

-- the object of an accepted SetState is mapped
set_mapped : (boot : System) (before : List Entry) (who : ℕ) (call : Call) (reply : Reply) (o : ℕ) (w : Wish) → IsValidBoot boot → IsTrue (fits boot who call) → reply ≡ answer boot before who call → (if is_reply reply then wish_call o call else None) ≡ Some w → mapped boot before o ≡ true
set_mapped boot before who (SetState x word) reply o w v f h a = elim (answer-cases boot before who (SetState x word)) [
  | refused why r k ↦ absurd (false≢true (ap is_reply (sym (h ∙ k)) ∙ if_some (is_reply reply) (wish_call o (SetState x word)) w a))
  | gets r k ↦ (
      let e : x ≡ o = nat_is x o (if_some (nat_eq x o) (Rattle.kern_ids.specs.StateWord.decoded word) w (if_given (is_reply reply) (wish_call o (SetState x word)) w a)) in
      let p = and_parts (Rattle.std.specs.Prelude.nat_lt who (length boot.sides) && same (is_task_call (SetState x word)) (is_some (task_of boot who))) (names_fit boot (SetState x word)) f in
      let q = and_parts (Rattle.std.specs.Prelude.nat_lt who (length boot.sides)) (same (is_task_call (SetState x word)) (is_some (task_of boot who))) p.0 in
      let t = unwrap_or (task_of boot who) 0 in
      ap (mapped boot before) (sym e) ∙ maps_mapped boot before x t (declared_task boot who v q.1) (not_false (maps boot before x t) (accepted-no_object boot before who (SetState x word) r)))
]
set_mapped boot before who call reply o w v f h a = absurd (if_none (is_reply reply) w a)

-- so an entry has decided before a SetState
pub set-decided : (boot : System) (e : Entry) (before : List Entry) (o : ℕ) (w : Wish) → IsValidBoot boot → IsLegal boot (e ∷ before) → asked o e ≡ Some w → is_some (newest_number (λ before e. is_some (decides o e)) before) ≡ true
set-decided boot e before o w v l a = decided-mapped boot before o l.2 (set_mapped boot before e.who e.call e.reply o w v l.0 l.1 a)

-- a SetState NONVOLATILE leaves the bytes, which are those of the newest Writes since the newest emptying
set_no_map : (call : Call) (reply : Reply) (o : ℕ) (w : Wish) → (if is_reply reply then wish_call o call else None) ≡ Some w → (is_reply reply && is_map_call o call) ≡ false
set_no_map (SetState x word) reply o w a = and_false (is_reply reply)
set_no_map call reply o w a = absurd (if_none (is_reply reply) w a)

abbrev no_value : Option ℕ
no_value = None

no_byte : (b : Bool) → (if b then no_value else no_value) ≡ None
no_byte true = refl
no_byte false = refl

set_no_write : (call : Call) (reply : Reply) (o b : ℕ) (w : Wish) → (if is_reply reply then wish_call o call else None) ≡ Some w → (if is_reply reply then Rattle.kernel_model.specs.Events.byte_call o b call else None) ≡ None
set_no_write (SetState x word) reply o b w a = no_byte (is_reply reply)
set_no_write call reply o b w a = absurd (if_none (is_reply reply) w a)

pub set-bytes : (boot : System) (e : Entry) (before : List Entry) (o b : ℕ) → IsLegal boot (e ∷ before) → asked o e ≡ Some ask_nonvolatile → byte (e ∷ before) o b ≡ gift_after (newest_number (empties o) before) (newest_gift (written_byte o b) before)
set-bytes boot e before o b l a =
    let r : purged_by e.reply ≡ None = ap purged_by (set-answer boot e before o ask_nonvolatile l a) in
    byte-kept e before o b (rw (set_no_map e.call e.reply o ask_nonvolatile a, r, a) refl) (set_no_write e.call e.reply o b ask_nonvolatile a)
    ∙ byte-is before o b
