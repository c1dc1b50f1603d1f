-- The purges over the tables: what each step asks, and that the tables stand for the history with the purge.
use Rattle.std.proofs.Common.{◌≡◌, ℕ, ◌+◌, ◌-◌, ◌<◌, ◌≤◌, List, [], ◌∷◌, length, map, filter, Option, Some, None, is_some, refl, sym, ap, ap₂, ◌∙◌, subst, Bool, true, false, not, ◌&&◌, nat_eq, if◌then◌else◌, arith, count_by}
use Rattle.std.specs.Prelude.{drop, option_map, IfSome, IsSome}
use Rattle.std.specs.Option.{option_map_or, unwrap_or}
use Rattle.std.proofs.lemmas.Bool.{false≢true}
use Rattle.std.proofs.lemmas.List.{length-map}
use Rattle.std.proofs.lemmas.List.Sums.{length-filter, count_by-le-length}
use Rattle.std.proofs.lemmas.Option.{same_Some}
use Rattle.kern_ids.specs.declared.entries.Entry.{Entry}
use Rattle.kern_ids.specs.declared.calls.Call.{Call}
use Rattle.kern_ids.specs.declared.calls.Call.TheVariants.{PurgeOne, Forced, Scan}
use Rattle.kern_ids.specs.declared.calls.Queue.{Queue}
use Rattle.kern_ids.specs.declared.calls.Queue.TheVariants.{Obsolete, Lifo, Fifo}
use Rattle.kern_ids.specs.declared.calls.State.{State}
use Rattle.kern_ids.specs.declared.replies.Counts.{Counts}
use Rattle.kern_ids.specs.declared.replies.Reply.{Reply}
use Rattle.kern_ids.specs.declared.replies.Reply.TheVariants.{Purged, Nothing}
use Rattle.kernel_model.specs.System.{System}
use Rattle.kernel_model.specs.Valid.{IsValidBoot}
use Rattle.kernel_model.specs.Mapping.{mapped, owner}
use Rattle.kernel_model.specs.State.{state}
use Rattle.kernel_model.specs.Pages.{left, inactive_pages, is_inactive, is_stored}
use Rattle.kernel_model.specs.Groups.{volatile, standing, is_volatile_state}
use Rattle.kernel_model.specs.Deadlines.{Deadlines, deadlines, ripe_queue, without_first, after_ripe as deadlines_ripe}
use Rattle.kernel_model.specs.Choice.{pick, forced}
use Rattle.kernel_model.specs.Answers.{answer, refusal}
use Rattle.kernel_model.specs.Histories.{IsLegal, fits}
use Rattle.kernel_model.specs.Laws.Frames.{is_in}
use Rattle.kernel_model.specs.Laws.Kinds.{is_purging_call}
use Rattle.kernel_model.specs.Laws.Legal.{is_ripe_call}
use Rattle.kernel_model.proofs.Laws.Kinds.{deadlines-forced, deadlines-purge, deadlines-scan_purge}
use Rattle.kernel_model.proofs.Laws.Purges.{IsRipeChoice, IsChosen, pick-chosen, forced-chosen, chosen-volatile, chosen-queue}
use Rattle.kernel_model.proofs.Laws.Queues.{has-range}
use Rattle.link_list.specs.KeyLists.{without, place_of}
use Rattle.page_queues.specs.Pages.{Pages, page_of, inactive as inactive_keys}
use Rattle.page_queues.specs.Tallies.{count_of, is_of}
use Rattle.volatile_groups.specs.Grouped.{queue_of, AreGroups}
use Rattle.token_list.specs.Dues.{lowered_by, begins_ripe}
use Rattle.ripen_advance.specs.Queues.{QueueDues, dues_in, with_dues, first_into, after_ripe, CanServe}
use Rattle.purge_pick.specs.declared.choice.Pick.{Pick}
use Rattle.purge_pick.specs.Picks.{HasTokens, HeadsGroup, picked, ripe_queue as ripe_in}
use Rattle.purge_pick.specs.Follows.{Follows}
use Rattle.purge_pick.proofs.FollowLemmas.{first-follows, purged-follows}
use Rattle.purge_pick.proofs.PickLemmas.{ripe_queue-begins}
use Rattle.purge_pick.proofs.AsManyLemmas.{own-token, stands-somewhere}
use Rattle.vm_object.specs.Objects.{Object, object_at, is_mapped, owner as owner_in}
use Rattle.task_ledger.specs.declared.account.Account.{Account}
use Rattle.task_ledger.specs.Accounts.{account_of, AreAtMost, with_counts, counts_less}
use Rattle.kernel_tables.specs.Values.{TableValues, entry_of}
use Rattle.kernel_tables.specs.Charges.{charge, charge_of, framed_of, stored_of, relieved}
use Rattle.kernel_tables.specs.Emptying.{IsEmptying}
use Rattle.kernel_tables.specs.Picked.{IsPicked}
use Rattle.kernel_tables.specs.Stands.{Stands, PagesStand, QueuesStand, ObjectsStand, AccountsStand, BandsStand}
use Rattle.kernel_tables.proofs.Accepted.{accepted-answer}
use Rattle.kernel_tables.proofs.Choices.{tokens-follow, ripe-is, has-tokens, pick-is, heads-queue, volatile-queue, serves-among}
use Rattle.kernel_tables.proofs.Counting.{pages-count}
use Rattle.kernel_tables.proofs.Emptied.{accounts-emptied}
use Rattle.kernel_tables.proofs.ObjectCharges.{framed-stands, stored-stands, charge-stands, object-few, relief-fits, owner-declared}
use Rattle.kernel_tables.proofs.Objects.{owner-stands, mapped-stands}
use Rattle.kernel_tables.proofs.Purged.{purge-empties, purge-bands, purge-standing, queues-emptied, stands-by}

both_true : (a b : Bool) → (a && b) ≡ true → (a ≡ true) × (b ≡ true)
both_true true b h = (refl, h)
both_true false b h = absurd (false≢true h)

-- What the emptying of a mapped object asks of the tables' parts.
module _ (boot : System) (past : List Entry) (valid : IsValidBoot boot) (o : ℕ) (l : o < length boot.objects) where
  module _ (pages : Pages) (n : ℕ) (s : PagesStand boot past pages n) where
    pub framed-few : framed_of pages o ≤ 256
    framed-few = (let is = framed-stands boot past pages n o l s in let few = object-few boot past is_in o valid in omega arith)

    pub stored-few : stored_of pages o ≤ 256
    stored-few = (let is = stored-stands boot past pages n o l s in let few = object-few boot past is_stored o valid in omega arith)

    pub inactive-ahead : (ahead : ℕ) → ahead ≡ inactive_pages boot past → count_of o (inactive_keys pages) ≤ ahead
    inactive-ahead ahead is =
        let list : inactive_pages boot past ≡ length (inactive_keys pages) = pages-count boot past is_inactive (map page_of (inactive_keys pages)) s.inactive_order ∙ length-map (inactive_keys pages) page_of in
        let part : count_of o (inactive_keys pages) ≡ count_by (is_of o) (inactive_keys pages) = length-filter (is_of o) (inactive_keys pages) in
        let most : count_by (is_of o) (inactive_keys pages) ≤ length (inactive_keys pages) = count_by-le-length (is_of o) (inactive_keys pages) in
        omega arith

  module _ (objects : List Object) (s : ObjectsStand boot past objects) (m : mapped boot past o ≡ true) where
    pub owner-some : (t : Option ℕ) → is_some t ≡ is_mapped objects o → IsSome t
    owner-some t h = h ∙ mapped-stands boot past objects valid s.mappers o l ∙ m

    pub owner-told : (t : ℕ) (found : Option ℕ) → found ≡ owner_in objects o → found ≡ Some t → owner boot past o ≡ Some t
    owner-told t found h is = sym (owner-stands boot past objects valid s.mappers o l) ∙ sym h ∙ is

    pub charge-told : (pages : Pages) (n : ℕ) → PagesStand boot past pages n → charge (object_at objects o).state (framed_of pages o) (stored_of pages o) ≡ charge_of boot past o
    charge-told pages n p = ap (λ (x : State). charge x (framed_of pages o) (stored_of pages o)) (s.states o l m) ∙ charge-stands boot past pages n o l p

  module _ (accounts : List Account) (s : AccountsStand boot past accounts) (t : ℕ) (is : owner boot past o ≡ Some t) (c : Counts) (told : c ≡ charge_of boot past o) where
    pub owner-account : t < length accounts
    owner-account = (let d = owner-declared boot past o t is in let n = s.account_count in omega arith)

    pub charge-fits : AreAtMost c (account_of accounts t).counts
    charge-fits = subst (λ (x : Counts). AreAtMost x (account_of accounts t).counts) (sym told) (relief-fits boot past accounts o t l s is)

    pub accounts-told : (e : Entry) → IsEmptying boot e past o → AccountsStand boot (e ∷ past) (with_counts accounts t (counts_less (account_of accounts t).counts c))
    accounts-told e i =
        subst (λ (x : Counts). AccountsStand boot (e ∷ past) (with_counts accounts t (counts_less (account_of accounts t).counts x))) (sym told)
        (subst (λ (x : Option ℕ). AccountsStand boot (e ∷ past) (relieved x (charge_of boot past o) accounts)) is (accounts-emptied boot e past o i accounts l s))

pub ahead-emptied : (ahead was now gone : ℕ) → ahead ≡ was → now + gone ≡ was → ahead - gone ≡ now
ahead-emptied ahead was now gone h k = omega arith

-- the pages ahead stay where a token goes
ahead_with : (v : QueueDues) (q : Queue) (ds : List ℕ) → (with_dues v q ds).ahead ≡ v.ahead
ahead_with v Obsolete ds = refl
ahead_with v Lifo ds = refl
ahead_with v Fifo ds = refl

pub ahead-first : (v : QueueDues) (q : Queue) → (with_dues v q (drop 1 (dues_in v q))).ahead ≡ v.ahead
ahead-first v q = ahead_with v q (drop 1 (dues_in v q))

pub ahead-ripe : (t q : Queue) (v : QueueDues) → (after_ripe t q v).ahead ≡ v.ahead
ahead-ripe t q v = elim (begins_ripe (dues_in v q)) as (λ b. (if b then with_dues v q (drop 1 (dues_in v q)) else with_dues (with_dues v q (drop 1 (dues_in v q))) t (first_into (dues_in v q) (drop 1 (dues_in v t)))).ahead ≡ v.ahead) [
  | true ↦ ahead_with v q (drop 1 (dues_in v q))
  | false ↦ ahead_with (with_dues v q (drop 1 (dues_in v q))) t (first_into (dues_in v q) (drop 1 (dues_in v t))) ∙ ahead_with v q (drop 1 (dues_in v q))
]

pub ripe_purging : (call : Call) → is_ripe_call call ≡ true → is_purging_call call ≡ true
ripe_purging PurgeOne h = refl
ripe_purging Scan h = refl
ripe_purging _ h = absurd (false≢true h)

chosen_declared : (boot : System) (past : List Entry) (q : Queue) (g o : ℕ) → IsChosen boot past q g o → o < length boot.objects
chosen_declared boot past q g o c = let r = has-range 0 (length boot.objects) o c.declared in omega (arith, r.1)

volatile_mapped : (boot : System) (past : List Entry) (o : ℕ) → volatile boot past o ≡ true → mapped boot past o ≡ true
unfolding volatile
volatile_mapped boot past o h = (both_true (mapped boot past o) (is_volatile_state (state past o)) h).0

-- what the tables tell of a choice for a ripe token
pub picked-is : (tables : TableValues) (past : List Entry) → Stands tables past → (p : Pick) → Some p.obj ≡ picked tables.tokens tables.groups → ripe_in tables.tokens ≡ Some p.token_queue → HeadsGroup tables.groups p.object_queue p.obj → IsPicked tables.boot past p
picked-is tables past s p object token heads = record {
  object = pick-is tables past s ∙ sym object;
  token_queue = ripe-is tables past s ∙ token;
  object_queue = heads-queue tables past s p.object_queue p.obj heads;
}

pub picked-told : (tables : TableValues) (past : List Entry) → Stands tables past → (r : Option Pick) → option_map (λ (p : Pick). p.obj) r ≡ picked tables.tokens tables.groups → IfSome r (λ (p : Pick). ripe_in tables.tokens ≡ Some p.token_queue) → IfSome r (λ (p : Pick). HeadsGroup tables.groups p.object_queue p.obj) → IfSome r (IsPicked tables.boot past)
picked-told tables past s (Some p) object token heads = picked-is tables past s p object token heads
picked-told tables past s None object token heads = tt

module _ (tables : TableValues) (past : List Entry) (s : Stands tables past) where
  module _ (p : Pick) (is : IsPicked tables.boot past p) where
    choice : IsRipeChoice tables.boot past p.obj
    choice = pick-chosen tables.boot past p.obj is.object

    pub picked-declared : p.obj < length tables.boot.objects
    picked-declared = chosen_declared tables.boot past choice.queue choice.group p.obj choice.chosen

    picked_volatile : volatile tables.boot past p.obj ≡ true
    picked_volatile = chosen-volatile tables.boot past choice.queue choice.group p.obj choice.chosen

    pub picked-mapped : mapped tables.boot past p.obj ≡ true
    picked-mapped = volatile_mapped tables.boot past p.obj picked_volatile

    pub picked-ripe : begins_ripe (dues_in tables.tokens p.token_queue) ≡ true
    picked-ripe = ripe_queue-begins tables.tokens p.token_queue (sym (ripe-is tables past s) ∙ is.token_queue)

    pub picked-serves : CanServe p.token_queue p.object_queue
    picked-serves =
        let ripe : choice.ripe ≡ p.token_queue = same_Some choice.ripe p.token_queue (sym choice.is_ripe ∙ is.token_queue) in
        let own : choice.queue ≡ p.object_queue = sym (chosen-queue tables.boot past choice.queue choice.group p.obj choice.chosen) ∙ is.object_queue in
        subst (λ (r : Queue). CanServe r p.object_queue) ripe (subst (CanServe choice.ripe) own (serves-among choice.ripe (choice.queue, choice.group) choice.among))

    module _ (are : AreGroups tables.groups) where
      picked_queue : queue_of p.obj tables.groups ≡ Some p.object_queue
      picked_queue = volatile-queue tables past s are p.obj picked-declared picked_volatile ∙ ap Some is.object_queue

      pub picked-token : IsValidBoot tables.boot → 0 < length (dues_in tables.tokens p.object_queue)
      picked-token valid = own-token tables.tokens tables.groups p.object_queue p.obj are picked_queue (has-tokens tables past s valid)

      pub picked-present : IsSome (place_of p.obj tables.groups)
      picked-present = stands-somewhere p.obj tables.groups p.object_queue picked_queue

    ripe_deadlines : (who : ℕ) (call : Call) → is_ripe_call call ≡ true → deadlines tables.boot (entry_of who call (Purged p.obj) ∷ past) ≡ deadlines_ripe (left tables.boot past) p.token_queue (standing past p.obj).queue (deadlines tables.boot past)
    ripe_deadlines who PurgeOne h = deadlines-purge tables.boot who p.obj p.token_queue past is.token_queue
    ripe_deadlines who Scan h = deadlines-scan_purge tables.boot who p.obj p.token_queue past is.token_queue
    ripe_deadlines who _ h = absurd (false≢true h)

    pub picked-follows : (who : ℕ) (call : Call) → is_ripe_call call ≡ true → Follows (deadlines tables.boot (entry_of who call (Purged p.obj) ∷ past)) (left tables.boot past + tables.tokens.ahead) (left tables.boot past) (after_ripe p.token_queue p.object_queue tables.tokens)
    picked-follows who call h =
        subst (λ (d : Deadlines). Follows d (left tables.boot past + tables.tokens.ahead) (left tables.boot past) (after_ripe p.token_queue p.object_queue tables.tokens))
        (sym (ripe_deadlines who call h ∙ ap (λ (q : Queue). deadlines_ripe (left tables.boot past) p.token_queue q (deadlines tables.boot past)) is.object_queue))
        (purged-follows (deadlines tables.boot past) (left tables.boot past + tables.tokens.ahead) (left tables.boot past) tables.tokens p.token_queue p.object_queue (tokens-follow tables past s) picked-ripe)

  module _ (o : ℕ) (is : forced tables.boot past ≡ Some o) where
    forced_choice : (queue : Queue) × (group : ℕ) × IsChosen tables.boot past queue group o
    forced_choice = forced-chosen tables.boot past o is

    pub forced-declared : o < length tables.boot.objects
    forced-declared = chosen_declared tables.boot past forced_choice.0 forced_choice.1 o forced_choice.2

    forced_volatile : volatile tables.boot past o ≡ true
    forced_volatile = chosen-volatile tables.boot past forced_choice.0 forced_choice.1 o forced_choice.2

    pub forced-mapped : mapped tables.boot past o ≡ true
    forced-mapped = volatile_mapped tables.boot past o forced_volatile

    module _ (are : AreGroups tables.groups) where
      forced_queue : queue_of o tables.groups ≡ Some (standing past o).queue
      forced_queue = volatile-queue tables past s are o forced-declared forced_volatile

      pub forced-present : IsSome (place_of o tables.groups)
      forced-present = stands-somewhere o tables.groups (standing past o).queue forced_queue

      module _ (q : Queue) (found : queue_of o tables.groups ≡ Some q) where
        pub forced-token : IsValidBoot tables.boot → 0 < length (dues_in tables.tokens q)
        forced-token valid = own-token tables.tokens tables.groups q o are found (has-tokens tables past s valid)

        pub forced-follows : (who : ℕ) → Follows (deadlines tables.boot (entry_of who Forced (Purged o) ∷ past)) (left tables.boot past + tables.tokens.ahead) (left tables.boot past) (with_dues tables.tokens q (drop 1 (dues_in tables.tokens q)))
        forced-follows who =
            let own : (standing past o).queue ≡ q = same_Some (standing past o).queue q (sym forced_queue ∙ found) in
            subst (λ (d : Deadlines). Follows d (left tables.boot past + tables.tokens.ahead) (left tables.boot past) (with_dues tables.tokens q (drop 1 (dues_in tables.tokens q))))
            (sym (deadlines-forced tables.boot who o past ∙ ap (λ (r : Queue). without_first r (deadlines tables.boot past)) own))
            (first-follows (deadlines tables.boot past) (left tables.boot past + tables.tokens.ahead) (left tables.boot past) tables.tokens q (tokens-follow tables past s))

-- after a purge the tables stand for the history with its entry
pub purge-stands : (old new : TableValues) (past : List Entry) (who o : ℕ) (call : Call) (taken told : QueueDues) (n : ℕ) → Stands old past → is_purging_call call ≡ true → IsLegal old.boot (entry_of who call (Purged o) ∷ past)
    → Follows (deadlines old.boot (entry_of who call (Purged o) ∷ past)) n (left old.boot past) taken → told ≡ taken
    → new.boot ≡ old.boot → new.groups ≡ map (without o) old.groups → new.bands ≡ old.bands → new.ages ≡ old.ages → new.wishes ≡ old.wishes → new.entered ≡ old.entered
    → ((e : Entry) → IsEmptying old.boot e past o → PagesStand old.boot (e ∷ past) new.pages old.entered)
    → ((e : Entry) → IsEmptying old.boot e past o → new.tokens.ahead ≡ inactive_pages old.boot (e ∷ past))
    → ((e : Entry) → IsEmptying old.boot e past o → (q : Queue) → dues_in new.tokens q ≡ lowered_by (left old.boot (e ∷ past) - left old.boot past) (dues_in told q))
    → ((e : Entry) → IsEmptying old.boot e past o → ObjectsStand old.boot (e ∷ past) new.objects)
    → ((e : Entry) → IsEmptying old.boot e past o → AccountsStand old.boot (e ∷ past) new.accounts)
    → Stands new (entry_of who call (Purged o) ∷ past)
purge-stands old new past who o call taken told n s purging legal follows same boot groups bands ages wishes entered pages ahead dues objects accounts =
    let e : Entry = entry_of who call (Purged o) in
    let is : IsEmptying old.boot e past o = purge-empties old.boot past who o call purging in
    stands-by new old.boot (e ∷ past) boot legal
    (subst (PagesStand old.boot (e ∷ past) new.pages) (sym entered) (pages e is))
    (subst (λ (g : List (List ℕ)). QueuesStand old.boot (e ∷ past) g new.tokens) (sym groups)
    (queues-emptied old.boot e past o old.groups told new.tokens n is (purge-standing old.boot past who o call purging) s.queues.groups (subst (Follows (deadlines old.boot (e ∷ past)) n (left old.boot past)) (sym same) follows) (dues e is) (ahead e is)))
    (objects e is)
    (accounts e is)
    (subst (λ (w : List ℕ). BandsStand old.boot (e ∷ past) w new.bands new.ages) (sym wishes)
    (subst (λ (b : List (List ℕ)). BandsStand old.boot (e ∷ past) old.wishes b new.ages) (sym bands)
    (subst (BandsStand old.boot (e ∷ past) old.wishes old.bands) (sym ages) (purge-bands old.boot past who o call purging old.wishes old.bands old.ages s.bands))))

-- the replies
pub one-answer : (boot : System) (past : List Entry) (who : ℕ) (o : Option ℕ) → pick boot past ≡ o → refusal boot past who PurgeOne ≡ None → option_map_or Purged o Nothing ≡ answer boot past who PurgeOne
one-answer boot past who o h r = sym (accepted-answer boot past who PurgeOne r ∙ ap (λ (x : Option ℕ). option_map_or Purged x Nothing) h)

pub forced-answer : (boot : System) (past : List Entry) (who : ℕ) (o : Option ℕ) → forced boot past ≡ o → refusal boot past who Forced ≡ None → option_map_or Purged o Nothing ≡ answer boot past who Forced
forced-answer boot past who o h r = sym (accepted-answer boot past who Forced r ∙ ap (λ (x : Option ℕ). option_map_or Purged x Nothing) h)
