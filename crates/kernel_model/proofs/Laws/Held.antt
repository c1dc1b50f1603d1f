-- The lists of deadlines over a whole legal history.
use Rattle.std.proofs.Common.{◌≡◌, ℕ, ◌+◌, ◌<◌, List, [], ◌∷◌, length, Option, Some, None, refl, sym, ap, ◌∙◌, subst, Bool, true, false, not, ◌&&◌, nat_lt, ◌⊎◌, inl, inr, arith, zero-le}
use Rattle.std.specs.Prelude.{IsTrue, is_some, is_none, option_and_then, slice_get}
use Rattle.std.specs.Option.{unwrap_or}
use Rattle.std.proofs.lemmas.Bool.{false≢true, true≢false, and_parts, ltb-true}
use Rattle.std.proofs.lemmas.List.Elements.{All-get_or}
use Rattle.std.proofs.lemmas.Option.{slice_get_within, get_or_from_slice_get}
use Rattle.kern_ids.specs.declared.entries.Entry.{Entry}
use Rattle.kern_ids.specs.declared.calls.Call.{Call}
use Rattle.kern_ids.specs.declared.calls.Call.TheVariants.{Map, Attach, SetState, PurgeOne, Forced, Scan}
use Rattle.kern_ids.specs.declared.calls.Queue.{Queue}
use Rattle.kern_ids.specs.declared.calls.Queue.TheVariants.{Obsolete, Lifo, Fifo}
use Rattle.kern_ids.specs.declared.replies.Reply.{Reply}
use Rattle.kern_ids.specs.declared.replies.Reply.TheVariants.{Purged}
use Rattle.kern_ids.specs.StateWord.{decoded}
use Rattle.kernel_model.specs.declared.boot.Side.{Side}
use Rattle.kernel_model.specs.declared.boot.Side.TheVariants.{Task, Kernel}
use Rattle.kernel_model.specs.System.{System}
use Rattle.kernel_model.specs.Valid.{IsValidBoot, IsValidSide}
use Rattle.kernel_model.specs.Events.{task_of, task_of_side, is_reply, purged_by}
use Rattle.kernel_model.specs.Mapping.{maps, mapped, tasks_of}
use Rattle.kernel_model.specs.State.{state}
use Rattle.kernel_model.specs.Groups.{volatile, standing, same_queue, objects_of}
use Rattle.kernel_model.specs.Newest.{newest}
use Rattle.kernel_model.specs.Deadlines.{deadlines, of_queue}
use Rattle.kernel_model.specs.Answers.{answer}
use Rattle.kernel_model.specs.Histories.{IsLegal, fits, names_fit, same, is_task_call}
use Rattle.kernel_model.specs.Laws.Kinds.{tells}
use Rattle.kernel_model.specs.Deadlines.{Deadlines}
use Rattle.kernel_model.specs.Laws.Order.{Has}
use Rattle.kernel_model.specs.Laws.Legal.{HasTokens, Climbs, queue_objects}
use Rattle.kernel_model.proofs.Laws.Counting.{count_by-none}
use Rattle.kernel_model.proofs.Laws.Order.{any-has}
use Rattle.kernel_model.proofs.Laws.Queues.{range-has}
use Rattle.kernel_model.proofs.Laws.Purges.{purged-by}
use Rattle.kernel_model.proofs.Laws.Answers.{refused, gets, answer-cases, answer-tells, accepted-no_object, accepted-already, accepted-invalid, purge-none}
use Rattle.kernel_model.proofs.Laws.Tokens.{Stands, at_call, IsPlain, plain_sound, refused_plain, map_sound, attach_sound, setting_sound, purge_sound, and_false, wish_none, set_none}

-- the task of a thread that makes a task's call is declared
side_task : (n : ℕ) (o : Option Side) → ((side : Side) → o ≡ Some side → IsValidSide n side) → IsTrue (is_some (option_and_then task_of_side o)) → unwrap_or (option_and_then task_of_side o) 0 < n
side_task n (Some (Task t)) h s = h (Task t) refl
side_task n (Some Kernel) h s = absurd (false≢true s)
side_task n None h s = absurd (false≢true s)

pub declared_task : (boot : System) (who : ℕ) → IsValidBoot boot → IsTrue (is_some (task_of boot who)) → unwrap_or (task_of boot who) 0 < length boot.tasks
declared_task boot who v s = side_task (length boot.tasks) (slice_get boot.sides who)
    (λ side h. subst (IsValidSide (length boot.tasks)) (get_or_from_slice_get boot.sides who side side h) (All-get_or (IsValidSide (length boot.tasks)) boot.sides who side (slice_get_within boot.sides who side h) v.sides)) s

pub maps_mapped : (boot : System) (past : List Entry) (o t : ℕ) → t < length boot.tasks → maps boot past o t ≡ true → mapped boot past o ≡ true
unfolding mapped
maps_mapped boot past o t l m = any-has (maps boot past o) (tasks_of boot) t (let b : t < 0 + length boot.tasks = omega arith in range-has 0 (length boot.tasks) t zero-le b) m

pub not_false : (b : Bool) → not b ≡ false → b ≡ true
not_false true h = refl
not_false false h = absurd (true≢false h)

some_of : {A : Type 0} (o : Option A) → is_none o ≡ false → (x : A) × (o ≡ Some x)
some_of (Some x) h = (x, refl)
some_of None h = absurd (true≢false h)

-- calls that neither map nor set nor purge
purged_reply : (r : Reply) (o : Option ℕ) → purged_by r ≡ o → (purged_by r ≡ None) × (o ≡ None) ⊎ ((x : ℕ) × (r ≡ Purged x))
purged_reply (Purged x) o h = inr (x, refl)
purged_reply r o h = inl (refl, sym h)

module _ (boot : System) (before : List Entry) (who : ℕ) (valid : IsValidBoot boot) (k : Stands boot before) where
  map_step : (x : ℕ) (reply : Reply) → reply ≡ answer boot before who (Map x) → Stands boot (at_call who (Map x) reply ∷ before)
  map_step x reply h = elim (answer-cases boot before who (Map x)) [
    | refused why r a ↦ plain_sound boot (at_call who (Map x) reply) before (refused_plain who (Map x) reply why (h ∙ a)) k
    | gets r a ↦ subst (λ y. Stands boot (at_call who (Map x) y ∷ before)) (sym (h ∙ a)) (map_sound boot before who x (accepted-already boot before who (Map x) r) k)
  ]

  attach_step : (x : ℕ) (reply : Reply) → reply ≡ answer boot before who (Attach x) → Stands boot (at_call who (Attach x) reply ∷ before)
  attach_step x reply h = elim (answer-cases boot before who (Attach x)) [
    | refused why r a ↦ plain_sound boot (at_call who (Attach x) reply) before (refused_plain who (Attach x) reply why (h ∙ a)) k
    | gets r a ↦ subst (λ y. Stands boot (at_call who (Attach x) y ∷ before)) (sym (h ∙ a)) (attach_sound boot before who x (not_false (mapped boot before x) (accepted-no_object boot before who (Attach x) r)) k)
  ]

  set_step : (x word : ℕ) (reply : Reply) → IsTrue (fits boot who (SetState x word)) → reply ≡ answer boot before who (SetState x word) → Stands boot (at_call who (SetState x word) reply ∷ before)
  set_step x word reply f h = elim (answer-cases boot before who (SetState x word)) [
    | refused why r a ↦ plain_sound boot (at_call who (SetState x word) reply) before (refused_plain who (SetState x word) reply why (h ∙ a)) k
    | gets r a ↦ (
        let p = and_parts (nat_lt who (length boot.sides) && same (is_task_call (SetState x word)) (is_some (task_of boot who))) (names_fit boot (SetState x word)) f in
        let q = and_parts (nat_lt who (length boot.sides)) (same (is_task_call (SetState x word)) (is_some (task_of boot who))) p.0 in
        let w = some_of (decoded word) (accepted-invalid boot before who (SetState x word) r) in
        let t = unwrap_or (task_of boot who) 0 in
        let m = maps_mapped boot before x t (declared_task boot who valid q.1) (not_false (maps boot before x t) (accepted-no_object boot before who (SetState x word) r)) in
        subst (λ y. Stands boot (at_call who (SetState x word) y ∷ before)) (sym (h ∙ a)) (setting_sound boot before who x word (state before x) w.0 w.1 (ltb-true x (length boot.objects) p.1) m k))
  ]

  purging_step : (call : Call) (reply : Reply) → (purged_by reply ≡ None → IsPlain (at_call who call reply)) → reply ≡ answer boot before who call → Stands boot (at_call who call reply ∷ before)
  purging_step call reply plain h = elim (purged_reply reply (purged_by reply) refl) [
    | inl n ↦ plain_sound boot (at_call who call reply) before (plain n.0) k
    | inr o ↦ subst (λ y. Stands boot (at_call who call y ∷ before)) (sym o.1) (purge_sound boot before who o.0 k call (purged-by boot before who call o.0 (sym o.1 ∙ h)))
  ]

  step_sound : (call : Call) (reply : Reply) → IsTrue (fits boot who call) → reply ≡ answer boot before who call → Stands boot (at_call who call reply ∷ before)
  step_sound (Map x) reply f h = map_step x reply h
  step_sound (Attach x) reply f h = attach_step x reply h
  step_sound (SetState x word) reply f h = set_step x word reply f h
  step_sound PurgeOne reply f h = purging_step PurgeOne reply (λ n. record { map = λ o. and_false (is_reply reply); attach = λ o. and_false (is_reply reply); asks = λ o. wish_none (is_reply reply); set = set_none (is_reply reply); purge = n }) h
  step_sound Forced reply f h = purging_step Forced reply (λ n. record { map = λ o. and_false (is_reply reply); attach = λ o. and_false (is_reply reply); asks = λ o. wish_none (is_reply reply); set = set_none (is_reply reply); purge = n }) h
  step_sound Scan reply f h = purging_step Scan reply (λ n. record { map = λ o. and_false (is_reply reply); attach = λ o. and_false (is_reply reply); asks = λ o. wish_none (is_reply reply); set = set_none (is_reply reply); purge = n }) h
  step_sound call reply f h = plain_sound boot (at_call who call reply) before (record { map = λ o. and_false (is_reply reply); attach = λ o. and_false (is_reply reply); asks = λ o. wish_none (is_reply reply); set = set_none (is_reply reply); purge = purge-none reply call (ap (λ r. tells r call) h ∙ answer-tells boot before who call) refl }) k

none_volatile : (boot : System) (o : ℕ) → volatile boot [] o ≡ false
unfolding volatile state newest
none_volatile boot o = and_false (mapped boot [] o)

abbrev no_lists : Deadlines
no_lists = record { obsolete = []; lifo = []; fifo = [] }

no_deadlines : (q : Queue) → Climbs (of_queue no_lists q)
no_deadlines Obsolete = tt
no_deadlines Lifo = tt
no_deadlines Fifo = tt

no_length : (q : Queue) → length (of_queue no_lists q) ≡ 0
no_length Obsolete = refl
no_length Lifo = refl
no_length Fifo = refl

none_there : (q : Queue) (x : ℕ) → Has (of_queue no_lists q) x → ⊥
none_there Obsolete x h = h
none_there Lifo x h = h
none_there Fifo x h = h

start_sound : (boot : System) → Stands boot []
unfolding deadlines
start_sound boot =
    let none : (q : Queue) → 0 ≡ queue_objects boot [] q = λ q. sym (count_by-none (λ o. volatile boot [] o && same_queue (standing [] o).queue q) (λ o. rw (none_volatile boot o) refl) (objects_of boot)) in
    record { rising = λ q. no_deadlines q; count = λ q. no_length q ∙ none q; zero = λ x h. absurd h; bound = λ q x h. absurd (none_there q x h) }

-- the lists stand well over every legal history
pub tokens-stand : (boot : System) (past : List Entry) → IsValidBoot boot → IsLegal boot past → Stands boot past
tokens-stand boot [] v l = start_sound boot
tokens-stand boot (e ∷ before) v l = step_sound boot before e.who v (tokens-stand boot before v l.2) e.call e.reply l.0 l.1

pub tokens-hold : (boot : System) (past : List Entry) → IsValidBoot boot → IsLegal boot past → HasTokens boot past
tokens-hold boot past v l = let s = tokens-stand boot past v l in record { rising = s.rising; entered = s.bound; count = s.count }
