-- In a legal history each answer of the kinds that have a reason has one.
use Rattle.std.proofs.Common.{◌≡◌, ℕ, List, [], ◌∷◌, length, Bool, true, false, ◌&&◌, ◌||◌, not, if◌then◌else◌, Option, Some, None, is_some, option_map, refl, sym, ap, ◌∙◌}
use Rattle.std.specs.Option.{option_map_or, unwrap_or}
use Rattle.kern_ids.specs.declared.entries.Entry.{Entry}
use Rattle.kern_ids.specs.declared.calls.Call.{Call}
use Rattle.kern_ids.specs.declared.calls.Call.TheVariants.{SetState, GetState}
use Rattle.kern_ids.specs.declared.calls.Queue.{Queue}
use Rattle.kern_ids.specs.declared.calls.State.{State}
use Rattle.kern_ids.specs.declared.calls.State.TheVariants.{Nonvolatile, Volatile, Empty}
use Rattle.kern_ids.specs.declared.calls.Wish.{Wish}
use Rattle.kern_ids.specs.declared.calls.Wish.TheVariants.{Nonvolatile as ask_nonvolatile, Empty as ask_empty, Volatile as ask_volatile}
use Rattle.kern_ids.specs.declared.replies.Refusal.{Refusal}
use Rattle.kern_ids.specs.declared.replies.Reply.{Reply}
use Rattle.kern_ids.specs.declared.replies.Reply.TheVariants.{Old, Is, Purged, Killed, Refused}
use Rattle.kernel_model.specs.System.{System}
use Rattle.kernel_model.specs.Lists.{some_if}
use Rattle.kernel_model.specs.Events.{is_map, is_purge, asked}
use Rattle.kernel_model.specs.State.{state, next_state, state_asked, is_empty}
use Rattle.kernel_model.specs.Contents.{is_ask_empty}
use Rattle.kernel_model.specs.Deadlines.{ripe_queue}
use Rattle.kernel_model.specs.Answers.{answer}
use Rattle.kernel_model.specs.Histories.{IsLegal}
use Rattle.kernel_model.proofs.Laws.State.{state-more, state-none}
use Rattle.kernel_model.proofs.Laws.Answers.{answer-cases, refused, gets}
use Rattle.kernel_model.proofs.Laws.Purges.{PurgedBy, one, scan_one, force, purged-by, pick-chosen}
use Rattle.report_tables.specs.declared.reason.Reason.{Reason}
use Rattle.report_tables.specs.Reasons.{emptied_at, next_emptied, ripe_reason, purge_reason, state_reason, set_object, asked_object, reason_of, has_reason}
use Rattle.report_tables.proofs.Emptied.{emptied-more}

-- what an entry leaves EMPTY it emptied, or it was EMPTY before: by whether the entry maps or purges the object, and by what it asks for
by-kind : (m p : Bool) (w : Option Wish) (was : State) (n : ℕ) (found : Option ℕ) → (was ≡ Empty → is_some found ≡ true) → unwrap_or (if m then Some Nonvolatile else if p then Some Empty else option_map (state_asked was) w) was ≡ Empty → is_some (unwrap_or (some_if (p || (option_map_or is_ask_empty w false && not (is_empty was))) (Some n)) found) ≡ true
by-kind true p w was n found k h = absurd (cc)
by-kind false true w was n found k h = refl
by-kind false false None was n found k h = k h
by-kind false false (Some ask_nonvolatile) was n found k h = absurd (cc)
by-kind false false (Some ask_empty) Empty n found k h = k refl
by-kind false false (Some ask_empty) Nonvolatile n found k h = refl
by-kind false false (Some ask_empty) Volatile n found k h = refl
by-kind false false (Some (ask_volatile q g)) Empty n found k h = k refl
by-kind false false (Some (ask_volatile q g)) Nonvolatile n found k h = absurd (cc)
by-kind false false (Some (ask_volatile q g)) Volatile n found k h = absurd (cc)

next : (was : State) (o n : ℕ) (found : Option ℕ) (e : Entry) → (was ≡ Empty → is_some found ≡ true) → next_state o was e ≡ Empty → is_some (next_emptied was o n found e) ≡ true
unfolding next_state next_emptied
next was o n found e k h = by-kind (is_map o e) (is_purge o e) (asked o e) was n found k h

-- an object that is EMPTY was emptied
emptied-some : (past : List Entry) (o : ℕ) → state past o ≡ Empty → is_some (emptied_at past o) ≡ true
emptied-some [] o h = let n = sym (state-none o) ∙ h in absurd (cc)
emptied-some (e ∷ before) o h =
    ap is_some (emptied-more e before o)
    ∙ next (state before o) o (length before) (emptied_at before o) e (emptied-some before o) (sym (state-more e before o) ∙ h)

mapped-some : {A B : Type 0} (f : A → B) (x : Option A) → is_some x ≡ true → is_some (option_map f x) ≡ true
mapped-some f (Some x) h = refl
mapped-some f None h = h

ripe-some : (boot : System) (before : List Entry) (o : ℕ) (q : Queue) → ripe_queue boot before ≡ Some q → is_some (option_map (ripe_reason boot before o) (ripe_queue boot before)) ≡ true
ripe-some boot before o q h = ap (λ (r : Option Queue). is_some (option_map (ripe_reason boot before o) r)) h

purge-some : (boot : System) (before : List Entry) (o : ℕ) (call : Call) → PurgedBy boot before o call → is_some (purge_reason boot before call o) ≡ true
purge-some boot before o call (one h) = let c = pick-chosen boot before o h in ripe-some boot before o c.ripe c.is_ripe
purge-some boot before o call (scan_one h) = let c = pick-chosen boot before o h in ripe-some boot before o c.ripe c.is_ripe
purge-some boot before o call (force h) = refl

old_refused : {s : State} {why : Refusal} → Old s ≡ Refused why → ⊥
old_refused h = cc

is_refused : {s : State} {why : Refusal} → Is s ≡ Refused why → ⊥
is_refused h = cc

old-state : (a b : State) → Old a ≡ Old b → b ≡ a
old-state a b h = cc

is-state : (a b : State) → Is a ≡ Is b → b ≡ a
is-state a b h = cc

set-some : (boot : System) (before : List Entry) (who : ℕ) (call : Call) → Old Empty ≡ answer boot before who call → is_some (state_reason before Empty (set_object call)) ≡ is_some (set_object call)
set-some boot before who (SetState o word) h = elim (answer-cases boot before who (SetState o word)) [ refused why r a ↦ absurd (old_refused (h ∙ a)) | gets r a ↦ mapped-some Reason.Emptied (emptied_at before o) (emptied-some before o (old-state Empty (state before o) (h ∙ a))) ]
set-some boot before who _ h = refl

asked-some : (boot : System) (before : List Entry) (who : ℕ) (call : Call) → Is Empty ≡ answer boot before who call → is_some (state_reason before Empty (asked_object call)) ≡ is_some (asked_object call)
asked-some boot before who (GetState o) h = elim (answer-cases boot before who (GetState o)) [ refused why r a ↦ absurd (is_refused (h ∙ a)) | gets r a ↦ mapped-some Reason.Emptied (emptied_at before o) (emptied-some before o (is-state Empty (state before o) (h ∙ a))) ]
asked-some boot before who _ h = refl

explained : (boot : System) (before : List Entry) (who : ℕ) (call : Call) (reply : Reply) → reply ≡ answer boot before who call → is_some (reason_of boot before call reply) ≡ has_reason call reply
explained boot before who call (Purged o) h = purge-some boot before o call (purged-by boot before who call o h)
explained boot before who call (Killed t cause) h = refl
explained boot before who call (Old Empty) h = set-some boot before who call h
explained boot before who call (Old Nonvolatile) h = refl
explained boot before who call (Old Volatile) h = refl
explained boot before who call (Is Empty) h = asked-some boot before who call h
explained boot before who call (Is Nonvolatile) h = refl
explained boot before who call (Is Volatile) h = refl
explained boot before who call _ h = refl

pub legal-explained : (boot : System) (e : Entry) (before : List Entry) → IsLegal boot (e ∷ before) → is_some (reason_of boot before e.call e.reply) ≡ has_reason e.call e.reply
legal-explained boot e before h = explained boot before e.who e.call e.reply h.1
