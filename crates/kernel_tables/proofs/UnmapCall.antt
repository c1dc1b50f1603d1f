-- Unmap over the tables: what each step asks, and that the tables stand for the history with the Unmap.
use Rattle.std.proofs.Common.{◌≡◌, ℕ, ◌+◌, ◌-◌, ◌<◌, ◌≤◌, List, ◌∷◌, length, map, drop, Option, Some, None, refl, sym, ap, ap₂, ◌∙◌, subst, Bool, true, false, not, ◌&&◌, nat_eq, if◌then◌else◌, inl, inr, arith, zero-le}
use Rattle.std.specs.Prelude.{IsSome, IsTrue, slice_index_or}
use Rattle.std.proofs.lemmas.Bool.{cases_Bool}
use Rattle.std.proofs.lemmas.Bool.Decides.{nat_tests}
use Rattle.kern_ids.specs.declared.entries.Entry.{Entry}
use Rattle.kern_ids.specs.declared.calls.Call.TheVariants.{Unmap}
use Rattle.kern_ids.specs.declared.calls.Queue.{Queue}
use Rattle.kern_ids.specs.declared.replies.Counts.{Counts}
use Rattle.kern_ids.specs.declared.replies.Reply.TheVariants.{Unmapped}
use Rattle.kernel_model.specs.System.{System}
use Rattle.kernel_model.specs.Valid.{IsValidBoot}
use Rattle.kernel_model.specs.Events.{task_of}
use Rattle.kernel_model.specs.Mapping.{maps, mapped, owner}
use Rattle.kernel_model.specs.State.{state}
use Rattle.kernel_model.specs.Groups.{volatile, standing, stands_in, is_volatile_state}
use Rattle.kernel_model.specs.Pages.{inactive_pages}
use Rattle.kernel_model.specs.Answers.{answer, refusal}
use Rattle.kernel_model.specs.Histories.{fits, IsLegal}
use Rattle.kernel_model.specs.Laws.Kinds.{unmap_entry}
use Rattle.kernel_model.proofs.Laws.Answers.{accepted-no_object}
use Rattle.kernel_model.proofs.Laws.Held.{not_false}
use Rattle.kernel_model.proofs.Laws.Queues.{range-has}
use Rattle.kernel_model.proofs.Laws.Present.{standing-group}
use Rattle.link_list.specs.KeyLists.{place_of, without}
use Rattle.page_queues.specs.Pages.{Pages, is_marked, is_of_first, without_object, inactive as inactive_keys}
use Rattle.page_queues.specs.Tallies.{count_of}
use Rattle.purge_pick.specs.Picks.{HasTokens}
use Rattle.purge_pick.proofs.AsManyLemmas.{own-token, stands-somewhere}
use Rattle.ripen_advance.specs.Queues.{QueueDues, dues_in, with_dues}
use Rattle.token_list.specs.Dues.{lowered_by}
use Rattle.volatile_groups.specs.Grouped.{queue_of, AreGroups}
use Rattle.vm_object.specs.Objects.{Object, object_at, changed, unmapped_by, is_mapped, owner as owner_in}
use Rattle.task_ledger.specs.declared.account.Account.{Account}
use Rattle.task_ledger.specs.Accounts.{account_of, counts_plus, AreAtMost, AreWithin}
use Rattle.kernel_tables.specs.Values.{TableValues}
use Rattle.kernel_tables.specs.Charges.{charge, charge_of, framed_of, stored_of, relieved, burdened}
use Rattle.kernel_tables.specs.Ends.{StandsOver, first_taken}
use Rattle.kernel_tables.specs.Stands.{Stands, PagesStand, QueuesStand, ObjectsStand, AccountsStand}
use Rattle.kernel_tables.proofs.Accepted.{accepted-answer, fitting-names}
use Rattle.kernel_tables.proofs.Choices.{queue_of-member, same_queue-itself, has-tokens}
use Rattle.kernel_tables.proofs.ObjectCalls.{declared, caller}
use Rattle.kernel_tables.proofs.ObjectCharges.{owner-declared, length-relieved}
use Rattle.kernel_tables.proofs.ObjectEntries.{changed-here, spared-bands}
use Rattle.kernel_tables.proofs.Objects.{owner-stands, mapped-stands, task-declared}
use Rattle.kernel_tables.proofs.PurgeSteps.{framed-few, stored-few, inactive-ahead, charge-told, owner-account, charge-fits, ahead-emptied}
use Rattle.kernel_tables.proofs.UnmapSteps.{owner-none, unmap-spares, unmap-objects, unmap-accounts, unmap-fits, still-pages, still-queues, still-charge, last-pages, last-inactive, last-left, last-queues, tokens-left}
use Rattle.kernel_tables.proofs.Unmapped.{caller-mapped}

same_burden : (w : Option ℕ) (c d : Counts) (accounts : List Account) → ((u : ℕ) → w ≡ Some u → d ≡ c) → burdened w c accounts ≡ burdened w d accounts
same_burden None c d accounts h = refl
same_burden (Some u) c d accounts h = ap (λ x. burdened (Some u) x accounts) (sym (h u refl))

none_some : (o : Option ℕ) (u : ℕ) → o ≡ None → o ≡ Some u → ⊥
none_some o u n s = absurd (cc)

not_is : (b l : Bool) → l ≡ not b → (c : Bool) → b ≡ c → l ≡ not c
not_is b l h c e = h ∙ ap not e

taken_is : (b : Bool) (groups : List (List ℕ)) (o : ℕ) (q : Queue) (tokens : QueueDues) → (b ≡ true → queue_of o groups ≡ Some q) → (if b then first_taken (queue_of o groups) tokens else tokens) ≡ (if b then with_dues tokens q (drop 1 (dues_in tokens q)) else tokens)
taken_is true groups o q tokens found = ap (λ x. first_taken x tokens) (found refl)
taken_is false groups o q tokens found = refl

module _ (tables : TableValues) (past : List Entry) (who o t : ℕ) (v : IsValidBoot tables.boot) (s : StandsOver tables past) (by : task_of tables.boot who ≡ Some t) (inside : o < length tables.boot.objects) (own : maps tables.boot past o t ≡ true) where
  abbrev later : List Entry
  later = unmap_entry who o ∷ past

  abbrev boot : System
  boot = tables.boot

  pub leave-framed : framed_of tables.pages o ≤ 256
  leave-framed = framed-few boot past v o inside tables.pages tables.entered s.pages

  pub leave-stored : stored_of tables.pages o ≤ 256
  leave-stored = stored-few boot past v o inside tables.pages tables.entered s.pages

  found : mapped boot past o ≡ true
  found = caller-mapped boot past o t v own

  volatile_is : is_volatile_state (object_at tables.objects o).state ≡ volatile boot past o
  unfolding volatile
  volatile_is = ap is_volatile_state (s.objects.states o inside found) ∙ sym (ap (λ b. b && is_volatile_state (state past o)) found)

  in_queue : AreGroups tables.groups → volatile boot past o ≡ true → queue_of o tables.groups ≡ Some (standing past o).queue
  in_queue are vol =
      let g = (standing past o).group in
      let q = (standing past o).queue in
      let same : nat_eq g g ≡ true = grind (arith, nat_tests) in
      let stands : stands_in boot past q g o ≡ true = rw (vol, same_queue-itself q, same) refl in
      let below : o < 0 + length boot.objects = omega arith in
      queue_of-member tables.groups are q g o (standing-group past o) ((s.queues.groups q g (standing-group past o)).all o (range-has 0 (length boot.objects) o zero-le below) stands)

  pub leave-token : AreGroups tables.groups → (q : Queue) → queue_of o tables.groups ≡ Some q → 0 < length (dues_in tables.tokens q)
  leave-token are q at = own-token tables.tokens tables.groups q o are at s.tokens

  pub leave-ahead : count_of o (inactive_keys tables.pages) ≤ tables.tokens.ahead
  leave-ahead = inactive-ahead boot past v o inside tables.pages tables.entered s.pages tables.tokens.ahead s.queues.ahead

  module _ (before : Option ℕ) (c : Counts) (first : before ≡ owner_in tables.objects o) (counted : c ≡ charge (object_at tables.objects o).state (framed_of tables.pages o) (stored_of tables.pages o)) where
    c_is : c ≡ charge_of boot past o
    c_is = counted ∙ charge-told boot past v o inside tables.objects s.objects found tables.pages tables.entered s.pages

    before_is : before ≡ owner boot past o
    before_is = first ∙ owner-stands boot past tables.objects v s.objects.mappers o inside

    pub leave-relief : (u : ℕ) → before ≡ Some u → (u < length tables.accounts) × AreAtMost c (account_of tables.accounts u).counts
    leave-relief u is =
        let at : owner boot past o ≡ Some u = sym before_is ∙ is in
        (owner-account boot past v o inside tables.accounts s.accounts u at c c_is, charge-fits boot past v o inside tables.accounts s.accounts u at c c_is)

    module _ (whole : length (object_at tables.objects o).mapping ≡ 64) (after : Option ℕ) (objects : List Object) (off : List Account) (left_by : objects ≡ changed tables.objects o (unmapped_by t)) (taken : off ≡ relieved before c tables.accounts) (then_by : after ≡ owner_in objects o) where
      objects_stand : ObjectsStand boot later objects
      objects_stand =
          let few : t < 64 = (let d = task-declared boot who t v by in let m = v.few_tasks in omega (arith, d, m)) in
          subst (ObjectsStand boot later) (sym left_by) (unmap-objects boot who o t past v by inside own tables.objects whole few s.objects)

      after_is : after ≡ owner boot later o
      after_is = then_by ∙ owner-stands boot later objects v objects_stand.mappers o inside

      off_is : off ≡ relieved (owner boot past o) (charge_of boot past o) tables.accounts
      off_is = taken ∙ ap₂ (λ x y. relieved x y tables.accounts) before_is c_is

      charge_later : (u : ℕ) → owner boot later o ≡ Some u → charge_of boot later o ≡ c
      charge_later u is = elim (cases_Bool (mapped boot later o)) [
        | inl still ↦ still-charge boot who o t past v by inside own still ∙ sym c_is
        | inr last ↦ absurd (none_some (owner boot later o) u (owner-none boot later o v last) is)
      ]

      pub leave-burden : (u : ℕ) → after ≡ Some u → (u < length off) × AreWithin (counts_plus (account_of off u).counts c)
      leave-burden u is =
          let now : owner boot later o ≡ Some u = sym after_is ∙ is in
          let d = owner-declared boot later o u now in
          let n : length off ≡ length boot.tasks = ap length taken ∙ length-relieved before c tables.accounts ∙ s.accounts.account_count in (
            omega (arith, d, n),
            subst (λ (x : List Account). AreWithin (counts_plus (account_of x u).counts c)) (sym off_is)
                (subst (λ (x : Counts). AreWithin (counts_plus (account_of (relieved (owner boot past o) (charge_of boot past o) tables.accounts) u).counts x)) (charge_later u now)
                (unmap-fits boot who o t past v by inside own tables.accounts s.accounts u now)),
          )

      accounts_stand : (accounts : List Account) → accounts ≡ burdened after c off → AccountsStand boot later accounts
      accounts_stand accounts given =
          let by_definition : accounts ≡ burdened (owner boot later o) (charge_of boot later o) (relieved (owner boot past o) (charge_of boot past o) tables.accounts) =
          given ∙ ap₂ (λ x y. burdened x c y) after_is off_is ∙ same_burden (owner boot later o) c (charge_of boot later o) (relieved (owner boot past o) (charge_of boot past o) tables.accounts) charge_later in
          subst (AccountsStand boot later) (sym by_definition) (unmap-accounts boot who o t past v by inside own tables.accounts s.accounts)

      -- its state is as before
      state_left : (object_at objects o).state ≡ (object_at tables.objects o).state
      state_left =
          let l : o < length tables.objects = (let n = s.objects.object_count in omega (arith, n, inside)) in
          ap (λ (x : List Object). (object_at x o).state) left_by ∙ ap (λ (x : Object). x.state) (changed-here tables.objects o (unmapped_by t) l)

      volatile_left : is_volatile_state (object_at objects o).state ≡ volatile boot past o
      volatile_left = ap is_volatile_state state_left ∙ volatile_is

      pub leave-present : AreGroups tables.groups → is_volatile_state (object_at objects o).state ≡ true → IsSome (place_of o tables.groups)
      leave-present are h = stands-somewhere o tables.groups (standing past o).queue (in_queue are (sym volatile_left ∙ h))

      -- what was left of the object's parts
      module _ (are : AreGroups tables.groups) (last : Bool) (pages : Pages) (groups : List (List ℕ)) (tokens : QueueDues) (table : List Object) (accounts : List Account) (told : last ≡ not (is_mapped objects o)) (same : table ≡ objects) (charged : accounts ≡ burdened after c off) where
        last_is : (b : Bool) → mapped boot later o ≡ b → last ≡ not b
        last_is b h = told ∙ ap not (mapped-stands boot later objects v objects_stand.mappers o inside ∙ h)

        abbrev made : TableValues
        made = record tables { pages = pages; groups = groups; tokens = tokens; objects = table; accounts = accounts }

        table_stands : ObjectsStand boot later table
        table_stands = subst (ObjectsStand boot later) (sym same) objects_stand

        leave_still : mapped boot later o ≡ true → pages ≡ tables.pages → groups ≡ tables.groups → tokens ≡ tables.tokens → StandsOver made later
        leave_still still p g d = record {
          pages = subst (λ (x : Pages). PagesStand boot later x tables.entered) (sym p) (still-pages boot who o t past v by inside own still tables.pages tables.entered s.pages);
          queues = subst (λ (x : List (List ℕ)). QueuesStand boot later x tokens) (sym g) (subst (QueuesStand boot later tables.groups) (sym d) (still-queues boot who o t past v by inside own still tables.groups tables.tokens s.queues));
          objects = table_stands;
          accounts = accounts_stand accounts charged;
          tokens = subst (λ (x : List (List ℕ)). HasTokens tokens x) (sym g) (subst (λ (x : QueueDues). HasTokens x tables.groups) (sym d) s.tokens);
        }

        module _ (frames : pages.frames ≡ tables.pages.frames) (sizes : pages.sizes ≡ tables.pages.sizes) (queues : pages.queues ≡ without_object o (slice_index_or tables.pages.sizes o 0) tables.pages.queues) (marks : (key : ℕ) → is_marked pages key ≡ (is_marked tables.pages key && not (is_of_first o (slice_index_or tables.pages.sizes o 0) key)))
            (left_groups : groups ≡ (if is_volatile_state (object_at objects o).state then map (without o) tables.groups else tables.groups))
            (dues : (q : Queue) → dues_in tokens q ≡ lowered_by (count_of o (inactive_keys tables.pages)) (dues_in (if is_volatile_state (object_at objects o).state then first_taken (queue_of o tables.groups) tables.tokens else tables.tokens) q))
            (ahead : tokens.ahead ≡ tables.tokens.ahead - count_of o (inactive_keys tables.pages))
            (gone : mapped boot later o ≡ false)
          where
            pages_stand : PagesStand boot later pages tables.entered
            pages_stand = last-pages boot who o t past v by inside own gone tables.pages pages tables.entered queues s.pages frames sizes marks

            dues_taken : (q : Queue) → dues_in tokens q ≡ lowered_by (count_of o (inactive_keys tables.pages)) (dues_in (if volatile boot past o then with_dues tables.tokens (standing past o).queue (drop 1 (dues_in tables.tokens (standing past o).queue)) else tables.tokens) q)
            dues_taken q =
                dues q ∙ ap (λ (d : QueueDues). lowered_by (count_of o (inactive_keys tables.pages)) (dues_in d q))
                (ap (λ b. if b then first_taken (queue_of o tables.groups) tables.tokens else tables.tokens) volatile_left ∙ taken_is (volatile boot past o) tables.groups o (standing past o).queue tables.tokens (in_queue are))

            groups_are : groups ≡ (if volatile boot past o then map (without o) tables.groups else tables.groups)
            groups_are = left_groups ∙ ap (λ b. if b then map (without o) tables.groups else tables.groups) volatile_left

            ahead_is : tokens.ahead ≡ inactive_pages boot later
            ahead_is = ahead ∙ ahead-emptied tables.tokens.ahead (inactive_pages boot past) (inactive_pages boot later) (count_of o (inactive_keys tables.pages)) s.queues.ahead (last-inactive boot who o t past v by inside own gone tables.pages pages tables.entered queues s.pages pages_stand)

            leave_last : StandsOver made later
            leave_last = record {
              pages = pages_stand;
              queues = subst (λ (x : List (List ℕ)). QueuesStand boot later x tokens) (sym groups_are)
                  (last-queues boot who o t past v by inside own gone tables.groups tables.tokens tokens (count_of o (inactive_keys tables.pages)) s.queues
                  (last-left boot who o t past v by inside own gone tables.pages pages tables.entered queues s.pages pages_stand) ahead_is
                  (volatile boot past o) (standing past o).queue refl refl dues_taken);
              objects = table_stands;
              accounts = accounts_stand accounts charged;
              tokens = subst (λ (x : List (List ℕ)). HasTokens tokens x) (sym groups_are) (tokens-left tables.groups tables.tokens tokens (count_of o (inactive_keys tables.pages)) o (volatile boot past o) (standing past o).queue are (in_queue are) dues_taken s.tokens);
            }

        pub leave-done : (last ≡ false → pages ≡ tables.pages) → (last ≡ false → groups ≡ tables.groups) → (last ≡ false → tokens ≡ tables.tokens)
            → (last ≡ true → pages.frames ≡ tables.pages.frames) → (last ≡ true → pages.sizes ≡ tables.pages.sizes) → (last ≡ true → pages.queues ≡ without_object o (slice_index_or tables.pages.sizes o 0) tables.pages.queues)
            → (last ≡ true → (key : ℕ) → is_marked pages key ≡ (is_marked tables.pages key && not (is_of_first o (slice_index_or tables.pages.sizes o 0) key)))
            → (last ≡ true → groups ≡ (if is_volatile_state (object_at objects o).state then map (without o) tables.groups else tables.groups))
            → (last ≡ true → (q : Queue) → dues_in tokens q ≡ lowered_by (count_of o (inactive_keys tables.pages)) (dues_in (if is_volatile_state (object_at objects o).state then first_taken (queue_of o tables.groups) tables.tokens else tables.tokens) q))
            → (last ≡ true → tokens.ahead ≡ tables.tokens.ahead - count_of o (inactive_keys tables.pages))
            → StandsOver made later
        leave-done p g d frames sizes queues marks left_groups dues ahead = elim (cases_Bool (mapped boot later o)) [
          | inl still ↦ (let l = last_is true still in leave_still still (p l) (g l) (d l))
          | inr gone ↦ (let l = last_is false gone in leave_last (frames l) (sizes l) (queues l) (marks l) (left_groups l) (dues l) (ahead l) gone)
        ]

-- an Unmap that is not refused
module _ (tables : TableValues) (past : List Entry) (who o t : ℕ) (v : IsValidBoot tables.boot) (s : Stands tables past) (f : IsTrue (fits tables.boot who (Unmap o))) (a : refusal tables.boot past who (Unmap o) ≡ None) (by : task_of tables.boot who ≡ Some t) where
  pub unmap-inside : o < length tables.boot.objects
  unmap-inside = declared tables.boot o (fitting-names tables.boot past who (Unmap o) f)

  pub unmap-own : maps tables.boot past o t ≡ true
  unmap-own = ap (maps tables.boot past o) (sym (caller tables.boot who t by)) ∙ not_false (maps tables.boot past o _) (accepted-no_object tables.boot past who (Unmap o) a)

  pub unmap-reply : Unmapped ≡ answer tables.boot past who (Unmap o)
  unmap-reply = sym (accepted-answer tables.boot past who (Unmap o) a)

  pub unmap-done : (later : TableValues) → later.boot ≡ tables.boot → later.bands ≡ tables.bands → later.ages ≡ tables.ages → later.wishes ≡ tables.wishes → StandsOver later (unmap_entry who o ∷ past) → Stands later (unmap_entry who o ∷ past)
  unmap-done later same bands ages wishes over = record {
    legal = subst (λ (x : System). IsLegal x (unmap_entry who o ∷ past)) (sym same) (f, unmap-reply, s.legal);
    pages = over.pages;
    queues = over.queues;
    objects = over.objects;
    accounts = over.accounts;
    bands = rw (same, bands, ages, wishes) (spared-bands tables.boot (unmap_entry who o) past (unmap-spares tables.boot who o t past v by unmap-inside unmap-own) tables.wishes tables.bands tables.ages s.bands);
  }

-- the tables stand over the history that they stand for
pub stands-over : (tables : TableValues) (past : List Entry) → IsValidBoot tables.boot → Stands tables past → StandsOver tables past
stands-over tables past v s = record { pages = s.pages; queues = s.queues; objects = s.objects; accounts = s.accounts; tokens = has-tokens tables past s v }
