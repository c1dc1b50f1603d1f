-- A SetState that is not refused and empties its object.
use Rattle.std.proofs.Common.{◌≡◌, ℕ, ◌+◌, ◌-◌, List, ◌∷◌, map, Option, Some, None, refl, sym, ap, ◌∙◌, subst, Bool, true, false, not, ◌&&◌, if◌then◌else◌, inl, inr, nat_eq}
use Rattle.std.specs.Prelude.{IsTrue, IfSome, IsSome, is_none}
use Rattle.std.specs.Option.{option_map_or}
use Rattle.std.proofs.lemmas.Bool.{false≢true, true≢false}
use Rattle.std.proofs.lemmas.Bool.Decides.{eqb_tells}
use Rattle.kern_ids.specs.declared.entries.Entry.{Entry}
use Rattle.kern_ids.specs.declared.calls.Call.TheVariants.{SetState}
use Rattle.kern_ids.specs.declared.calls.Queue.{Queue}
use Rattle.kern_ids.specs.declared.calls.State.{State}
use Rattle.kern_ids.specs.declared.calls.State.TheVariants.{Nonvolatile, Volatile, Empty}
use Rattle.kern_ids.specs.declared.calls.Wish.{Wish}
use Rattle.kern_ids.specs.declared.calls.Wish.TheVariants.{Empty as ask_empty}
use Rattle.kern_ids.specs.declared.replies.Reply.TheVariants.{Old}
use Rattle.kern_ids.specs.StateWord.{decoded}
use Rattle.kernel_model.specs.System.{System}
use Rattle.kernel_model.specs.Valid.{IsValidBoot}
use Rattle.kernel_model.specs.State.{state, is_empty}
use Rattle.kernel_model.specs.Contents.{empties}
use Rattle.kernel_model.specs.Pages.{left, inactive_pages}
use Rattle.kernel_model.specs.Groups.{volatile, standing, is_volatile_state}
use Rattle.kernel_model.specs.Deadlines.{Deadlines, deadlines, without_first, after_set}
use Rattle.kernel_model.specs.Answers.{refusal}
use Rattle.kernel_model.specs.Histories.{fits}
use Rattle.kernel_model.specs.Laws.Kinds.{set_entry}
use Rattle.kernel_model.proofs.Laws.Answers.{accepted-invalid}
use Rattle.kernel_model.proofs.Laws.Kinds.{empties-set, state-set, standing-set, deadlines-set}
use Rattle.link_list.specs.KeyLists.{place_of, without}
use Rattle.volatile_groups.specs.Grouped.{queue_of, AreGroups}
use Rattle.token_list.specs.Dues.{lowered_by}
use Rattle.ripen_advance.specs.Queues.{QueueDues, dues_in}
use Rattle.purge_pick.specs.Follows.{Follows}
use Rattle.purge_pick.proofs.AsManyLemmas.{stands-somewhere}
use Rattle.vm_object.specs.Objects.{object_at}
use Rattle.kernel_tables.specs.Values.{TableValues, entry_of}
use Rattle.kernel_tables.specs.Emptying.{IsEmptying}
use Rattle.kernel_tables.specs.Settings.{token_taken}
use Rattle.kernel_tables.specs.Stands.{Stands, PagesStand, QueuesStand, ObjectsStand, AccountsStand, BandsStand}
use Rattle.kernel_tables.proofs.Choices.{tokens-follow}
use Rattle.kernel_tables.proofs.MapCall.{same-number}
use Rattle.kernel_tables.proofs.ObjectEntries.{spared-bands}
use Rattle.kernel_tables.proofs.Purged.{emptying-by, queues-emptied, stands-by}
use Rattle.kernel_tables.proofs.PurgeSteps.{ahead-first}
use Rattle.kernel_tables.proofs.SetEntry.{emptying, set-spares}
use Rattle.kernel_tables.proofs.SetQueues.{left-group, taken-follows}
use Rattle.kernel_tables.proofs.SetState.{nowhere, volatile-state, set-inside, set-found, set-state_at, set-legal, set-from_volatile, set-from_none}

-- what a word that empties asks for
decoded_some : (o : Option Wish) → is_none o ≡ false → (w : Wish) × (o ≡ Some w)
decoded_some (Some w) h = (w, refl)
decoded_some None h = absurd (true≢false h)

asked_empty : (w : Wish) (s : State) → emptying w s ≡ true → (w ≡ ask_empty) × (is_empty s ≡ false)
asked_empty ask_empty Nonvolatile h = (refl, refl)
asked_empty ask_empty Volatile h = (refl, refl)
asked_empty ask_empty Empty h = absurd (false≢true h)
asked_empty w s h = absurd (false≢true h)

pub word-asks : (boot : System) (past : List Entry) (who o word : ℕ) → refusal boot past who (SetState o word) ≡ None → (w : Wish) × (decoded word ≡ Some w)
word-asks boot past who o word a = decoded_some (decoded word) (accepted-invalid boot past who (SetState o word) a)

pub word-empties : (boot : System) (past : List Entry) (who o word : ℕ) (s : State) → refusal boot past who (SetState o word) ≡ None → IfSome (decoded word) (λ w. emptying w s ≡ true) → (decoded word ≡ Some ask_empty) × (is_empty s ≡ false)
word-empties boot past who o word s a h =
    let w = word-asks boot past who o word a in
    let e = asked_empty w.0 s (subst (λ (x : Option Wish). IfSome x (λ w. emptying w s ≡ true)) w.1 h) in
    (w.1 ∙ ap Some e.0, e.1)

either_same : {A : Type 0} (b : Bool) (x : A) → (if b then x else x) ≡ x
either_same true x = refl
either_same false x = refl

ahead_taken : (from : Option Queue) (v : QueueDues) → (token_taken true false from v).ahead ≡ v.ahead
ahead_taken None v = refl
ahead_taken (Some q) v = ahead-first v q

first_of : (boot : System) (past : List Entry) (o : ℕ) (x : State) (from : Option Queue) (d : Deadlines) → (x ≡ Volatile → from ≡ Some (standing past o).queue) → (is_volatile_state x ≡ false → from ≡ None) → option_map_or (λ q. without_first q d) from d ≡ after_set boot past o x ask_empty d
first_of boot past o Volatile from d h k = ap (λ (f : Option Queue). option_map_or (λ q. without_first q d) f d) (h refl)
first_of boot past o Nonvolatile from d h k = ap (λ (f : Option Queue). option_map_or (λ q. without_first q d) f d) (k refl)
first_of boot past o Empty from d h k = ap (λ (f : Option Queue). option_map_or (λ q. without_first q d) f d) (k refl)

module _ (tables : TableValues) (past : List Entry) (who o word : ℕ) (v : IsValidBoot tables.boot) (s : Stands tables past) (f : IsTrue (fits tables.boot who (SetState o word))) (a : refusal tables.boot past who (SetState o word) ≡ None) (is : decoded word ≡ Some ask_empty) (filled : is_empty (object_at tables.objects o).state ≡ false) where
  abbrev entry : Entry
  entry = set_entry who o word (state past o)

  filled_now : is_empty (state past o) ≡ false
  filled_now = ap is_empty (sym (set-state_at tables past who o word ask_empty v s f a is)) ∙ filled

  empties_it : (x : ℕ) → empties x past entry ≡ nat_eq o x
  empties_it x = empties-set who o word (state past o) ask_empty past x is ∙ elim (eqb_tells o x) [
    | inl same ↦ subst (λ (y : ℕ). ((nat_eq o y && true) && not (is_empty (state past y))) ≡ nat_eq o y) same.1 (ap (λ b. (nat_eq o o && true) && not b) filled_now ∙ ap (λ b. (b && true) && true) (same-number o) ∙ sym (same-number o))
    | inr other ↦ ap (λ b. (b && true) && not (is_empty (state past x))) other.0 ∙ sym other.0
  ]

  pub empties-whole : IsEmptying tables.boot entry past o
  empties-whole = emptying-by tables.boot entry past (λ t. refl) refl o empties_it (λ p. refl) (λ p. refl) (λ x. refl)
      (λ x. state-set who o word (state past o) ask_empty past x is) (λ p. refl) refl (λ x t. refl) (λ t. refl)

  stands_still : (x : ℕ) → standing (entry ∷ past) x ≡ standing past x
  stands_still x = standing-set who o word (state past o) ask_empty past x is ∙ either_same (nat_eq o x) (standing past x)

  module _ (are : AreGroups tables.groups) (from : Option Queue) (queue : from ≡ queue_of o tables.groups) (leaves : Bool) (left_it : leaves ≡ is_volatile_state (object_at tables.objects o).state) where
    volatile_is : leaves ≡ volatile tables.boot past o
    volatile_is = left_it ∙ ap is_volatile_state (set-state_at tables past who o word ask_empty v s f a is) ∙ sym (volatile-state tables.boot past o (set-found tables past who o word ask_empty v s f a is))

    pub emptied-stands : leaves ≡ true → IsSome (place_of o tables.groups)
    emptied-stands h = stands-somewhere o tables.groups (standing past o).queue (sym queue ∙ set-from_volatile tables past who o word ask_empty v s f a is are from queue (sym volatile_is ∙ h))

    module _ (taken : QueueDues) (took : taken ≡ token_taken true false from tables.tokens) where
      pub emptied-ahead : taken.ahead ≡ inactive_pages tables.boot past
      emptied-ahead = ap (λ (x : QueueDues). x.ahead) took ∙ ahead_taken from tables.tokens ∙ s.queues.ahead

      deadlines_are : option_map_or (λ q. without_first q (deadlines tables.boot past)) from (deadlines tables.boot past) ≡ deadlines tables.boot (entry ∷ past)
      deadlines_are =
          first_of tables.boot past o (state past o) from (deadlines tables.boot past)
          (λ h. set-from_volatile tables past who o word ask_empty v s f a is are from queue (volatile-state tables.boot past o (set-found tables past who o word ask_empty v s f a is) ∙ ap is_volatile_state h))
          (λ h. set-from_none tables past who o word ask_empty v s f a is are from queue (volatile-state tables.boot past o (set-found tables past who o word ask_empty v s f a is) ∙ h))
          ∙ sym (deadlines-set tables.boot who o word (state past o) ask_empty past is)

      follows_taken : Follows (deadlines tables.boot (entry ∷ past)) (left tables.boot past + tables.tokens.ahead) (left tables.boot past) taken
      follows_taken =
          subst (Follows (deadlines tables.boot (entry ∷ past)) (left tables.boot past + tables.tokens.ahead) (left tables.boot past)) (sym took)
          (subst (λ (d : Deadlines). Follows d (left tables.boot past + tables.tokens.ahead) (left tables.boot past) (token_taken true false from tables.tokens)) deadlines_are
          (taken-follows true false from (deadlines tables.boot past) (left tables.boot past + tables.tokens.ahead) (left tables.boot past) tables.tokens (tokens-follow tables past s)))

      pub emptied-done : (new : TableValues) (left_groups : List (List ℕ)) (old : State) → old ≡ (object_at tables.objects o).state
          → left_groups ≡ (if leaves then map (without o) tables.groups else tables.groups)
          → new.boot ≡ tables.boot → new.groups ≡ left_groups → new.bands ≡ tables.bands → new.ages ≡ tables.ages → new.wishes ≡ tables.wishes → new.entered ≡ tables.entered
          → ((e : Entry) → IsEmptying tables.boot e past o → PagesStand tables.boot (e ∷ past) new.pages tables.entered)
          → ((e : Entry) → IsEmptying tables.boot e past o → new.tokens.ahead ≡ inactive_pages tables.boot (e ∷ past))
          → ((e : Entry) → IsEmptying tables.boot e past o → (q : Queue) → dues_in new.tokens q ≡ lowered_by (left tables.boot (e ∷ past) - left tables.boot past) (dues_in taken q))
          → ((e : Entry) → IsEmptying tables.boot e past o → ObjectsStand tables.boot (e ∷ past) new.objects)
          → ((e : Entry) → IsEmptying tables.boot e past o → AccountsStand tables.boot (e ∷ past) new.accounts)
          → Stands new (entry_of who (SetState o word) (Old old) ∷ past)
      emptied-done new left_groups old e went boot groups bands ages wishes entered pages ahead dues objects accounts =
          let gone : new.groups ≡ map (without o) tables.groups = groups ∙ went ∙ left-group leaves o tables.groups (λ h. nowhere tables past o s are (sym volatile_is ∙ h)) in
          let all : Stands new (entry ∷ past) =
          stands-by new tables.boot (entry ∷ past) boot (set-legal tables past who o word ask_empty v s f a is)
          (subst (PagesStand tables.boot (entry ∷ past) new.pages) (sym entered) (pages entry empties-whole))
          (subst (λ (g : List (List ℕ)). QueuesStand tables.boot (entry ∷ past) g new.tokens) (sym gone)
          (queues-emptied tables.boot entry past o tables.groups taken new.tokens (left tables.boot past + tables.tokens.ahead) empties-whole stands_still s.queues.groups follows_taken (dues entry empties-whole) (ahead entry empties-whole)))
          (objects entry empties-whole)
          (accounts entry empties-whole)
          (subst (λ (w : List ℕ). BandsStand tables.boot (entry ∷ past) w new.bands new.ages) (sym wishes)
          (subst (λ (b : List (List ℕ)). BandsStand tables.boot (entry ∷ past) tables.wishes b new.ages) (sym bands)
          (subst (BandsStand tables.boot (entry ∷ past) tables.wishes tables.bands) (sym ages)
          (spared-bands tables.boot entry past (set-spares tables.boot who o word ask_empty past is (set-found tables past who o word ask_empty v s f a is) (set-inside tables past who o word ask_empty v s f a is)) tables.wishes tables.bands tables.ages s.bands)))) in
          subst (λ (x : State). Stands new (entry_of who (SetState o word) (Old x) ∷ past)) (sym (e ∙ set-state_at tables past who o word ask_empty v s f a is)) all
