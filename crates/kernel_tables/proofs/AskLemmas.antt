-- The calls that only ask: what they get, and that the tables stay as they have to be.
use Rattle.std.proofs.Common.{◌≡◌, ℕ, ◌+◌, ◌-◌, ◌≤◌, ◌<◌, not, List, [], ◌∷◌, length, map, Option, Some, None, refl, sym, ap, ap₂, ◌∙◌, subst, Bool, true, false, ◌&&◌, nat_lt}
use Rattle.std.specs.Prelude.{IsTrue, is_some}
use Rattle.std.specs.Option.{unwrap_or, option_map_or}
use Rattle.std.proofs.lemmas.Bool.{true≢false, and_parts}
use Rattle.std.proofs.lemmas.List.{length-map}
use Rattle.kern_ids.specs.declared.entries.Entry.{Entry}
use Rattle.kern_ids.specs.declared.calls.Call.{Call}
use Rattle.kern_ids.specs.declared.calls.Call.TheVariants.{Info, Purgeables, GetState, Ledger, Tick}
use Rattle.kern_ids.specs.declared.calls.State.{State}
use Rattle.kern_ids.specs.declared.replies.Refusal.{Refusal}
use Rattle.kern_ids.specs.declared.replies.Counts.{Counts}
use Rattle.kern_ids.specs.declared.calls.Queue.{Queue}
use Rattle.kern_ids.specs.declared.calls.Queue.TheVariants.{Obsolete, Lifo, Fifo}
use Rattle.kern_ids.specs.declared.replies.Reply.{Reply}
use Rattle.kern_ids.specs.declared.replies.Reply.TheVariants.{Frames, Tokens, Is, Refused, Pages as Told}
use Rattle.kern_ids.specs.declared.replies.FrameCounts.{FrameCounts}
use Rattle.kern_ids.specs.declared.replies.QueueCounts.{QueueCounts}
use Rattle.kern_ids.specs.declared.replies.TokenCounts.{TokenCounts}
use Rattle.kernel_model.specs.System.{System}
use Rattle.kernel_model.specs.Events.{task_of}
use Rattle.kernel_model.specs.Pages.{active_pages, inactive_pages, stored_pages, is_active, is_inactive, is_stored, free, left, entered}
use Rattle.kernel_model.specs.Deadlines.{deadlines, of_queue}
use Rattle.kernel_model.specs.Answers.{answer, refusal, accepted_answer, frames_reply, tokens_reply, queue_counts}
use Rattle.kernel_model.specs.Valid.{IsValidBoot}
use Rattle.kernel_model.specs.State.{state}
use Rattle.kernel_model.specs.Mapping.{maps, mapped}
use Rattle.kernel_model.specs.Bands.{is_tick_call}
use Rattle.kernel_model.proofs.Laws.Answers.{accepted-no_object}
use Rattle.kernel_model.proofs.Laws.Held.{maps_mapped, not_false}
use Rattle.task_ledger.specs.Accounts.{account_of}
use Rattle.kernel_tables.proofs.Accepted.{accepted-answer}
use Rattle.kernel_tables.proofs.Asked.{fits-asked}
use Rattle.kernel_model.specs.Histories.{fits, same, is_task_call, names_fit}
use Rattle.kernel_model.specs.Laws.Kinds.{is_quiet}
use Rattle.kernel_model.proofs.Laws.Kept.{quiet-unchanged}
use Rattle.page_queues.specs.Pages.{Pages, page_of, active as active_keys, inactive as inactive_keys, stored as stored_keys, free as free_in}
use Rattle.ripen_advance.specs.Queues.{dues_in}
use Rattle.token_list.specs.Dues.{counts_of}
use Rattle.kernel_tables.specs.Values.{TableValues, entry_of}
use Rattle.kernel_tables.specs.Stands.{Stands}
use Rattle.kernel_tables.proofs.Counting.{pages-count}
use Rattle.kernel_tables.proofs.Dues.{counts-dues}
use Rattle.kernel_tables.proofs.Kept.{unchanged-stands}

-- a call of kernel threads has no task
no_task : {A : Type 0} (o : Option A) → same false (is_some o) ≡ true → o ≡ None
no_task (Some x) h = absurd (true≢false (sym h))
no_task None h = refl

pub of_kernel : (boot : System) (who : ℕ) (call : Call) → is_task_call call ≡ false → IsTrue (fits boot who call) → task_of boot who ≡ None
of_kernel boot who call k f =
    let parts = and_parts (nat_lt who (length boot.sides) && same (is_task_call call) (is_some (task_of boot who))) (names_fit boot call) f in
    let side = and_parts (nat_lt who (length boot.sides)) (same (is_task_call call) (is_some (task_of boot who))) parts.0 in
    no_task (task_of boot who) (subst (λ b. same b (is_some (task_of boot who)) ≡ true) k side.1)

-- an answered call that changes nothing
pub asked-stands : (tables : TableValues) (past : List Entry) (who : ℕ) (call : Call) (reply : Reply) → IsTrue (fits tables.boot who call) → reply ≡ answer tables.boot past who call → is_quiet (entry_of who call reply) ≡ true → Stands tables past → Stands tables (entry_of who call reply ∷ past)
asked-stands tables past who call reply f answered quiet s =
    unchanged-stands tables (entry_of who call reply) past (quiet-unchanged tables.boot (entry_of who call reply) past quiet) (f, answered, s.legal) s

-- Info
info-answer : (boot : System) (past : List Entry) (who : ℕ) → task_of boot who ≡ None → answer boot past who Info ≡ frames_reply boot past
unfolding answer refusal
info-answer boot past who none = rw none refl

pub active-are : (tables : TableValues) (past : List Entry) → Stands tables past → length (active_keys tables.pages) ≡ active_pages tables.boot past
active-are tables past s = sym (length-map (active_keys tables.pages) page_of) ∙ sym (pages-count tables.boot past is_active _ s.pages.active_order)

pub inactive-are : (tables : TableValues) (past : List Entry) → Stands tables past → length (inactive_keys tables.pages) ≡ inactive_pages tables.boot past
inactive-are tables past s = sym (length-map (inactive_keys tables.pages) page_of) ∙ sym (pages-count tables.boot past is_inactive _ s.pages.inactive_order)

stored-are : (tables : TableValues) (past : List Entry) → Stands tables past → length (stored_keys tables.pages) ≡ stored_pages tables.boot past
stored-are tables past s = sym (length-map (stored_keys tables.pages) page_of) ∙ sym (pages-count tables.boot past is_stored _ s.pages.stored_order)

abbrev frames_told : ℕ → ℕ → ℕ → ℕ → ℕ → Reply
frames_told f a i s e = Frames (record { free = f - (a + i); active = a; inactive = i; stored = s; entered = e; left = e - i })

pub info-told : (tables : TableValues) (past : List Entry) → Stands tables past → frames_told tables.pages.frames (length (active_keys tables.pages)) (length (inactive_keys tables.pages)) (length (stored_keys tables.pages)) tables.entered ≡ frames_reply tables.boot past
unfolding free left
info-told tables past s =
    let boot = tables.boot in
    ap₂ (λ a i. frames_told tables.pages.frames a i (length (stored_keys tables.pages)) tables.entered) (active-are tables past s) (inactive-are tables past s)
    ∙ ap₂ (λ n e. frames_told tables.pages.frames (active_pages boot past) (inactive_pages boot past) n e) (stored-are tables past s) s.pages.entered
    ∙ ap (λ f. frames_told f (active_pages boot past) (inactive_pages boot past) (stored_pages boot past) (entered past)) s.pages.frames

pub info-is : (boot : System) (past : List Entry) (who : ℕ) (told : FrameCounts) → IsTrue (fits boot who Info) → Frames told ≡ frames_reply boot past → Frames told ≡ answer boot past who Info
info-is boot past who told f is = is ∙ sym (info-answer boot past who (of_kernel boot who Info refl f))

pub info-stands : (tables : TableValues) (past : List Entry) (who : ℕ) (reply : Reply) → IsTrue (fits tables.boot who Info) → reply ≡ answer tables.boot past who Info → Stands tables past → Stands tables (entry_of who Info reply ∷ past)
info-stands tables past who reply f answered s =
    let told = answered ∙ info-answer tables.boot past who (of_kernel tables.boot who Info refl f) in
    asked-stands tables past who Info reply f answered (subst (λ r. is_quiet (entry_of who Info r) ≡ true) (sym told) refl) s

-- Purgeables
purgeables-answer : (boot : System) (past : List Entry) (who : ℕ) → task_of boot who ≡ None → answer boot past who Purgeables ≡ tokens_reply boot past
unfolding answer refusal
purgeables-answer boot past who none = rw none refl

queue-told : (tables : TableValues) (past : List Entry) (q : Queue) → Stands tables past → counts_of (dues_in tables.tokens q) ≡ queue_counts (left tables.boot past) (of_queue (deadlines tables.boot past) q)
queue-told tables past q s = ap counts_of (s.queues.dues q) ∙ counts-dues (left tables.boot past) (of_queue (deadlines tables.boot past) q)

abbrev tokens_told : QueueCounts → QueueCounts → QueueCounts → Reply
tokens_told o l f = Tokens (record { obsolete = o; lifo = l; fifo = f })

pub purgeables-told : (tables : TableValues) (past : List Entry) (told : TokenCounts) → told.obsolete ≡ counts_of tables.tokens.obsolete → told.lifo ≡ counts_of tables.tokens.lifo → told.fifo ≡ counts_of tables.tokens.fifo → Stands tables past → Tokens told ≡ tokens_reply tables.boot past
purgeables-told tables past told o l f s =
    ap₂ (λ x y. tokens_told x y told.fifo) (o ∙ queue-told tables past Obsolete s) (l ∙ queue-told tables past Lifo s)
    ∙ ap (λ z. tokens_told (queue_counts (left tables.boot past) (of_queue (deadlines tables.boot past) Obsolete)) (queue_counts (left tables.boot past) (of_queue (deadlines tables.boot past) Lifo)) z) (f ∙ queue-told tables past Fifo s)

pub purgeables-is : (boot : System) (past : List Entry) (who : ℕ) (told : TokenCounts) → IsTrue (fits boot who Purgeables) → Tokens told ≡ tokens_reply boot past → Tokens told ≡ answer boot past who Purgeables
purgeables-is boot past who told f is = is ∙ sym (purgeables-answer boot past who (of_kernel boot who Purgeables refl f))

pub purgeables-stands : (tables : TableValues) (past : List Entry) (who : ℕ) (reply : Reply) → IsTrue (fits tables.boot who Purgeables) → reply ≡ answer tables.boot past who Purgeables → Stands tables past → Stands tables (entry_of who Purgeables reply ∷ past)
purgeables-stands tables past who reply f answered s =
    let told = answered ∙ purgeables-answer tables.boot past who (of_kernel tables.boot who Purgeables refl f) in
    asked-stands tables past who Purgeables reply f answered (subst (λ r. is_quiet (entry_of who Purgeables r) ≡ true) (sym told) refl) s

-- GetState
pub state-is : (boot : System) (past : List Entry) (who o : ℕ) (s : State) → refusal boot past who (GetState o) ≡ None → s ≡ state past o → Is s ≡ answer boot past who (GetState o)
state-is boot past who o s h e = ap Is e ∙ sym (accepted-answer boot past who (GetState o) h)

pub state-stands : (tables : TableValues) (past : List Entry) (who o : ℕ) (s : State) → IsTrue (fits tables.boot who (GetState o)) → Is s ≡ answer tables.boot past who (GetState o) → Stands tables past → Stands tables (entry_of who (GetState o) (Is s) ∷ past)
state-stands tables past who o s f answered st = asked-stands tables past who (GetState o) (Is s) f answered refl st

-- the object is declared, and mapped
pub state-asks : (boot : System) (past : List Entry) (who o : ℕ) → IsValidBoot boot → IsTrue (fits boot who (GetState o)) → refusal boot past who (GetState o) ≡ None → (o < length boot.objects) × (mapped boot past o ≡ true)
state-asks boot past who o v f h =
    let asked = fits-asked boot who (GetState o) v f in
    let maps_it : maps boot past o (unwrap_or (task_of boot who) 0) ≡ true = not_false (maps boot past o (unwrap_or (task_of boot who) 0)) (accepted-no_object boot past who (GetState o) h) in
    (asked.object, maps_mapped boot past o (unwrap_or (task_of boot who) 0) (asked.caller refl) maps_it)

-- Ledger
pub ledger-asks : (tables : TableValues) (past : List Entry) (who : ℕ) → IsValidBoot tables.boot → IsTrue (fits tables.boot who Ledger) → Stands tables past → unwrap_or (task_of tables.boot who) 0 < length tables.accounts
ledger-asks tables past who v f s = let l = (fits-asked tables.boot who Ledger v f).caller refl in rw (s.accounts.account_count) l

pub ledger-is : (tables : TableValues) (past : List Entry) (who : ℕ) (c : Counts) → IsValidBoot tables.boot → IsTrue (fits tables.boot who Ledger) → refusal tables.boot past who Ledger ≡ None → Stands tables past → c ≡ (account_of tables.accounts (unwrap_or (task_of tables.boot who) 0)).counts → Told c ≡ answer tables.boot past who Ledger
ledger-is tables past who c v f h s e =
    let l = (fits-asked tables.boot who Ledger v f).caller refl in
    ap Told (e ∙ (s.accounts.accounts (unwrap_or (task_of tables.boot who) 0) l).counts) ∙ sym (accepted-answer tables.boot past who Ledger h)

pub ledger-stands : (tables : TableValues) (past : List Entry) (who : ℕ) (c : Counts) → IsTrue (fits tables.boot who Ledger) → Told c ≡ answer tables.boot past who Ledger → Stands tables past → Stands tables (entry_of who Ledger (Told c) ∷ past)
ledger-stands tables past who c f answered s = asked-stands tables past who Ledger (Told c) f answered refl s

-- a refused call
tick-accepted : (boot : System) (past : List Entry) (who : ℕ) → IsTrue (fits boot who Tick) → refusal boot past who Tick ≡ None
unfolding refusal
tick-accepted boot past who f = rw (of_kernel boot who Tick refl f) refl

no_tick : (boot : System) (past : List Entry) (who : ℕ) (call : Call) (why : Refusal) → IsTrue (fits boot who call) → refusal boot past who call ≡ Some why → is_tick_call call ≡ false
no_tick boot past who Tick why f h = absurd (cc (tick-accepted boot past who f, h))
no_tick boot past who _ why f h = refl

pub refused-is : (boot : System) (past : List Entry) (who : ℕ) (call : Call) (why : Refusal) → refusal boot past who call ≡ Some why → Refused why ≡ answer boot past who call
unfolding answer
refused-is boot past who call why h = sym (ap (λ r. option_map_or Refused r (accepted_answer boot past (unwrap_or (task_of boot who) 0) call)) h)

pub refused-stands : (tables : TableValues) (past : List Entry) (who : ℕ) (call : Call) (why : Refusal) → IsTrue (fits tables.boot who call) → refusal tables.boot past who call ≡ Some why → Stands tables past → Stands tables (entry_of who call (Refused why) ∷ past)
refused-stands tables past who call why f h s =
    asked-stands tables past who call (Refused why) f (refused-is tables.boot past who call why h) (ap not (no_tick tables.boot past who call why f h)) s
