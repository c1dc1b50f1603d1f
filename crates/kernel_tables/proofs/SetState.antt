-- A SetState that is not refused and empties nothing: what the tables need, and what they are afterwards.
use Rattle.std.proofs.Common.{◌≡◌, ℕ, ◌+◌, ◌-◌, ◌<◌, ◌≤◌, List, ◌∷◌, length, map, Option, Some, None, option_map, refl, sym, ap, ap₂, ◌∙◌, subst, Bool, true, false, not, ◌&&◌, if◌then◌else◌, inl, inr, nat_eq, arith}
use Rattle.std.specs.Prelude.{IsTrue, is_some, IsNone, IsSome, bit_and, ◌/◌}
use Rattle.std.specs.Option.{unwrap_or}
use Rattle.std.proofs.lemmas.Bool.{cases_Bool, cases_lt, false≢true, true≢false}
use Rattle.std.proofs.lemmas.List.FromFn.{length-range_with_len}
use Rattle.std.proofs.lemmas.List.Sums.{count_by-le-length}
use Rattle.kern_ids.specs.declared.entries.Entry.{Entry}
use Rattle.kern_ids.specs.declared.calls.Call.TheVariants.{SetState}
use Rattle.kern_ids.specs.declared.calls.Queue.{Queue}
use Rattle.kern_ids.specs.declared.calls.Queue.TheVariants.{Obsolete, Lifo, Fifo}
use Rattle.kern_ids.specs.declared.calls.State.{State}
use Rattle.kern_ids.specs.declared.calls.State.TheVariants.{Volatile}
use Rattle.kern_ids.specs.declared.calls.Wish.{Wish}
use Rattle.kern_ids.specs.declared.calls.Wish.TheVariants.{Nonvolatile as ask_nonvolatile, Volatile as ask_volatile, Empty as ask_empty}
use Rattle.kern_ids.specs.declared.replies.Counts.{Counts}
use Rattle.kern_ids.specs.declared.replies.Reply.TheVariants.{Old}
use Rattle.kern_ids.specs.StateWord.{decoded}
use Rattle.kernel_model.specs.System.{System}
use Rattle.kernel_model.specs.Valid.{IsValidBoot}
use Rattle.kernel_model.specs.Events.{task_of}
use Rattle.kernel_model.specs.Mapping.{maps, mapped, owner}
use Rattle.kernel_model.specs.State.{state}
use Rattle.kernel_model.specs.Pages.{entered, left}
use Rattle.kernel_model.specs.Groups.{volatile, standing, same_queue, objects_of, is_volatile_state}
use Rattle.kernel_model.specs.Deadlines.{Deadlines, deadlines, of_queue}
use Rattle.kernel_model.specs.Answers.{answer, refusal}
use Rattle.kernel_model.specs.Histories.{fits, IsLegal}
use Rattle.kernel_model.specs.Laws.Legal.{queue_objects}
use Rattle.kernel_model.proofs.Laws.Answers.{accepted-no_object}
use Rattle.kernel_model.proofs.Laws.Held.{not_false, tokens-hold}
use Rattle.kernel_model.proofs.Laws.Kinds.{deadlines-set}
use Rattle.kernel_model.proofs.Laws.Pages.{left-is}
use Rattle.kernel_model.proofs.Laws.Present.{standing-group, inactive-entered}
use Rattle.link_list.specs.KeyLists.{has, list_at, place_of, without}
use Rattle.link_list.proofs.Places.{place_nowhere, place_of-removed}
use Rattle.volatile_groups.specs.Grouped.{first_list, members, queue_at, queue_of, AreGroups}
use Rattle.ripen_advance.specs.Queues.{QueueDues, dues_in}
use Rattle.purge_pick.specs.Follows.{Follows}
use Rattle.purge_pick.proofs.AsManyLemmas.{own-token, stands-somewhere}
use Rattle.purge_pick.proofs.PickLemmas.{none_to}
use Rattle.vm_object.specs.declared.answer.SetAnswer.{SetAnswer}
use Rattle.vm_object.specs.Objects.{Object, object_at, changed, set_by, row, is_mapped, owner as owner_in}
use Rattle.vm_object.specs.Rows.{deadlines_by, taken}
use Rattle.vm_object.proofs.RowLemmas.{row-deadlines}
use Rattle.task_ledger.specs.declared.account.Account.{Account}
use Rattle.task_ledger.specs.Accounts.{account_of, counts_plus, AreWithin}
use Rattle.kernel_tables.specs.Values.{TableValues, entry_of}
use Rattle.kernel_tables.specs.Charges.{charge, charge_of, framed_of, stored_of, relieved, burdened}
use Rattle.kernel_tables.specs.Settings.{entered_at, token_taken, token_added}
use Rattle.kernel_tables.specs.Stands.{Stands, ObjectsStand}
use Rattle.kernel_tables.proofs.Accepted.{accepted-answer, fitting-names}
use Rattle.kernel_tables.proofs.Choices.{has-tokens, volatile-queue}
use Rattle.kernel_tables.proofs.Lists.{has-fact}
use Rattle.kernel_tables.proofs.ObjectCalls.{declared}
use Rattle.kernel_tables.proofs.Objects.{owner-stands, mapped-stands}
use Rattle.kernel_tables.proofs.ObjectCharges.{burden-fits, owner-declared, charge-stands, table-charge, length-relieved}
use Rattle.kernel_tables.proofs.ObjectEntries.{spared-bands}
use Rattle.kernel_tables.proofs.SetEntry.{emptying, row-leaves, row-group, set-spares, set-mapped, set-owner, set-state_other, set-standing_other, set-stands_other, set-stands_here, set-stamp, set-group, set-placed, set-inactive, set-left, set-pages, set-accounts, set-objects, setting}
use Rattle.kernel_tables.proofs.SetQueues.{left-group, groups-set, taken-follows, token-added_follows, token-room}
use Rattle.kernel_tables.proofs.Unmapped.{caller-mapped}

-- an object that is asked to be OBSOLETE is asked to be in group 0
obsolete_bits : (a b c d o l : Bool) (k : ℕ) (q : Queue) (g : ℕ) → (if a then None else if b then Some ask_nonvolatile else if c then Some ask_empty else if d then Some (ask_volatile (if o then Obsolete else if l then Lifo else Fifo) (if o then 0 else k)) else None) ≡ Some (ask_volatile q g) → q ≡ Obsolete → g ≡ 0
obsolete_bits true b c d o l k q g h e = absurd (cc)
obsolete_bits false true c d o l k q g h e = absurd (cc)
obsolete_bits false false true d o l k q g h e = absurd (cc)
obsolete_bits false false false true true l k q g h e = cc
obsolete_bits false false false true false true k q g h e = absurd (cc)
obsolete_bits false false false true false false k q g h e = absurd (cc)
obsolete_bits false false false false o l k q g h e = absurd (cc)

word_obsolete : (word : ℕ) (q : Queue) (g : ℕ) → decoded word ≡ Some (ask_volatile q g) → q ≡ Obsolete → g ≡ 0
word_obsolete word q g h e = obsolete_bits (not (nat_eq (bit_and word 0x773) word)) (nat_eq (bit_and word 3) 0) (nat_eq (bit_and word 3) 2) (nat_eq (bit_and word 3) 1) (not (nat_eq (bit_and word 0x20) 0)) (not (nat_eq (bit_and word 0x40) 0)) (bit_and (word / 256) 7) q g h e

-- the queue and group of a list
list_of : (l : ℕ) → l < 24 → (q : Queue) × (g : ℕ) × (g < 8) × (first_list q + g ≡ l)
list_of l b = elim (cases_lt l 8) [
  | inl m ↦ (Obsolete, l, m, omega arith)
  | inr m ↦ elim (cases_lt l 16) [
    | inl n ↦ (Lifo, l - 8, omega arith, omega arith)
    | inr n ↦ (Fifo, l - 16, omega arith, omega arith)
  ]
]

pub volatile-state : (boot : System) (past : List Entry) (o : ℕ) → mapped boot past o ≡ true → volatile boot past o ≡ is_volatile_state (state past o)
unfolding volatile
volatile-state boot past o m = ap (λ b. b && is_volatile_state (state past o)) m

both_true : (a b : Bool) → (a && b) ≡ true → a ≡ true
both_true true b h = refl
both_true false b h = absurd (false≢true h)

-- an object that isn't volatile stands in no group
pub nowhere : (tables : TableValues) (past : List Entry) (o : ℕ) → Stands tables past → AreGroups tables.groups → volatile tables.boot past o ≡ false → place_of o tables.groups ≡ None
nowhere tables past o s are out = place_nowhere o tables.groups (λ l b.
    let at = list_of l (let n = are.count in omega (arith, n, b)) in
    elim (cases_Bool (has o (list_at tables.groups l))) [
      | inl there ↦ absurd (true≢false (sym (both_true (volatile tables.boot past o) (same_queue (standing past o).queue at.0) (both_true (volatile tables.boot past o && same_queue (standing past o).queue at.0) (nat_eq (standing past o).group at.1)
          ((s.queues.groups at.0 at.1 at.2).passes o (has-fact o (members tables.groups at.0 at.1) (ap (λ (k : ℕ). has o (list_at tables.groups k)) at.3 ∙ there))))) ∙ out))
      | inr absent ↦ absent
    ])

volatile_is : (x : State) → is_volatile_state x ≡ true → x ≡ Volatile
volatile_is Volatile h = refl
volatile_is _ h = absurd (false≢true h)

module _ (tables : TableValues) (past : List Entry) (who o word : ℕ) (wish : Wish) (v : IsValidBoot tables.boot) (s : Stands tables past) (f : IsTrue (fits tables.boot who (SetState o word))) (a : refusal tables.boot past who (SetState o word) ≡ None) (is : decoded word ≡ Some wish) where
  pub set-inside : o < length tables.boot.objects
  set-inside = declared tables.boot o (fitting-names tables.boot past who (SetState o word) f)

  pub set-found : mapped tables.boot past o ≡ true
  set-found = caller-mapped tables.boot past o (unwrap_or (task_of tables.boot who) 0) v (not_false (maps tables.boot past o (unwrap_or (task_of tables.boot who) 0)) (accepted-no_object tables.boot past who (SetState o word) a))

  pub set-is_mapped : is_mapped tables.objects o ≡ true
  set-is_mapped = mapped-stands tables.boot past tables.objects v s.objects.mappers o set-inside ∙ set-found

  pub set-state_at : (object_at tables.objects o).state ≡ state past o
  set-state_at = s.objects.states o set-inside set-found

  pub set-reply : (old : State) → old ≡ (object_at tables.objects o).state → Old old ≡ answer tables.boot past who (SetState o word)
  set-reply old e = ap Old (e ∙ set-state_at) ∙ sym (accepted-answer tables.boot past who (SetState o word) a)

  abbrev pub entry : Entry
  entry = setting tables.boot who o word wish past is set-found set-inside

  pub set-legal : IsLegal tables.boot (entry ∷ past)
  set-legal = (f, sym (accepted-answer tables.boot past who (SetState o word) a), s.legal)

  volatile_now : volatile tables.boot past o ≡ is_volatile_state (object_at tables.objects o).state
  volatile_now = volatile-state tables.boot past o set-found ∙ ap is_volatile_state (sym set-state_at)

  module _ (are : AreGroups tables.groups) (from : Option Queue) (queue : from ≡ queue_of o tables.groups) where
    pub set-from_volatile : volatile tables.boot past o ≡ true → from ≡ Some (standing past o).queue
    set-from_volatile h = queue ∙ volatile-queue tables past s are o set-inside h

    pub set-from_none : volatile tables.boot past o ≡ false → from ≡ None
    set-from_none h = queue ∙ ap (option_map queue_at) (nowhere tables past o s are h)

    pub set-from : is_some from ≡ is_volatile_state (object_at tables.objects o).state
    set-from = elim (cases_Bool (volatile tables.boot past o)) [
      | inl h ↦ ap is_some (set-from_volatile h) ∙ sym h ∙ volatile_now
      | inr h ↦ ap is_some (set-from_none h) ∙ sym h ∙ volatile_now
    ]

    pub set-token : (q : Queue) → from ≡ Some q → 0 < length (dues_in tables.tokens q)
    set-token q h = own-token tables.tokens tables.groups q o are (sym queue ∙ h) (has-tokens tables past s v)

    module _ (done : SetAnswer) (told : done ≡ row (object_at tables.objects o).state wish from) where
      done_is : done ≡ row (state past o) wish from
      done_is = told ∙ ap (λ x. row x wish from) set-state_at

      leaves_is : done.leave ≡ volatile tables.boot past o
      leaves_is = ap (λ (x : SetAnswer). x.leave) told ∙ row-leaves (object_at tables.objects o).state wish from ∙ sym volatile_now

      pub set-stands : done.leave ≡ true → IsSome (place_of o tables.groups)
      set-stands h = stands-somewhere o tables.groups (standing past o).queue (sym queue ∙ set-from_volatile (sym leaves_is ∙ h))

      entered_is : (at : Queue × ℕ) → done.enter ≡ Some at → (row (state past o) wish from).enter ≡ Some at
      entered_is at h = ap (λ (x : SetAnswer). x.enter) (sym done_is) ∙ h

      pub set-few : (at : Queue × ℕ) → done.enter ≡ Some at → at.1 < 8
      set-few at h = subst (λ (n : ℕ). n < 8) (set-group tables.boot who o word wish past is set-found set-inside from at (entered_is at h)) (standing-group (entry ∷ past) o)

      pub set-obsolete : (at : Queue × ℕ) → done.enter ≡ Some at → at.0 ≡ Obsolete → at.1 ≡ 0
      set-obsolete at h e = word_obsolete word at.0 at.1 (is ∙ ap Some (row-group (state past o) wish from at (entered_is at h))) e

      module _ (left_groups : List (List ℕ)) (went : left_groups ≡ (if done.leave then map (without o) tables.groups else tables.groups)) where
        went_is : left_groups ≡ map (without o) tables.groups
        went_is = went ∙ left-group done.leave o tables.groups (λ h. nowhere tables past o s are (sym leaves_is ∙ h))

        pub set-apart : IsNone (place_of o left_groups)
        set-apart = none_to (place_of o left_groups) (ap (place_of o) went_is ∙ place_of-removed o tables.groups)

        groups_after : (groups : List (List ℕ)) → groups ≡ entered_at done.enter o left_groups → Rattle.kernel_tables.specs.Stands.HasGroups tables.boot (entry ∷ past) groups
        groups_after groups g =
            subst (Rattle.kernel_tables.specs.Stands.HasGroups tables.boot (entry ∷ past)) (sym (g ∙ ap (entered_at done.enter o) went_is))
            (groups-set tables.boot entry past o set-inside tables.groups are.count s.queues.groups
            (set-stands_other tables.boot who o word wish past is set-found set-inside)
            (set-standing_other tables.boot who o word wish past is set-found set-inside)
            done.enter set-few
            (λ q k. set-stands_here tables.boot who o word wish past is set-found set-inside from q k ∙ ap (λ (x : SetAnswer). Rattle.kernel_tables.proofs.SetQueues.enters x.enter q k) (sym done_is))
            (λ at h. set-stamp tables.boot who o word wish past is set-found set-inside from at (entered_is at h)))

      -- the tokens
      deadlines_are : deadlines_by past done from (deadlines tables.boot past) ≡ deadlines tables.boot (entry ∷ past)
      deadlines_are =
          ap (λ (x : SetAnswer). deadlines_by past x from (deadlines tables.boot past)) done_is
          ∙ row-deadlines tables.boot past o (state past o) wish from (deadlines tables.boot past) (λ h. set-from_volatile (volatile-state tables.boot past o set-found ∙ ap is_volatile_state h))
          ∙ sym (deadlines-set tables.boot who o word (state past o) wish past is)

      follows_now : Follows (deadlines tables.boot past) (entered past) (left tables.boot past) tables.tokens
      follows_now = record {
        dues = s.queues.dues;
        ahead = (let few = inactive-entered tables.boot past in let l = left-is tables.boot past in let h = s.queues.ahead in omega (arith, few, l, h));
      }

      few_deadlines : (q : Queue) → length (of_queue (deadlines_by past done from (deadlines tables.boot past)) q) ≤ 256
      few_deadlines q =
          let n : length (of_queue (deadlines tables.boot (entry ∷ past)) q) ≡ queue_objects tables.boot (entry ∷ past) q = (tokens-hold tables.boot (entry ∷ past) v set-legal).count q in
          let most : queue_objects tables.boot (entry ∷ past) q ≤ length (objects_of tables.boot) = count_by-le-length (λ x. volatile tables.boot (entry ∷ past) x && same_queue (standing (entry ∷ past) x).queue q) (objects_of tables.boot) in
          let all : length (objects_of tables.boot) ≡ length tables.boot.objects = length-range_with_len 0 (length tables.boot.objects) in
          let objects : length tables.boot.objects ≤ 256 = v.few_objects in
          let same : length (of_queue (deadlines_by past done from (deadlines tables.boot past)) q) ≡ length (of_queue (deadlines tables.boot (entry ∷ past)) q) = ap (λ (d : Deadlines). length (of_queue d q)) deadlines_are in
          omega arith

      module _ (fewer : QueueDues) (took : fewer ≡ token_taken done.first_goes done.last_goes from tables.tokens) where
        follows_taken : Follows (taken done from (deadlines tables.boot past)) (entered past) (left tables.boot past) fewer
        follows_taken = subst (Follows (taken done from (deadlines tables.boot past)) (entered past) (left tables.boot past)) (sym took) (taken-follows done.first_goes done.last_goes from (deadlines tables.boot past) (entered past) (left tables.boot past) tables.tokens follows_now)

        pub set-room : (at : Queue × ℕ) → done.enter ≡ Some at → done.new_token ≡ true → length (dues_in fewer at.0) < 256
        set-room at h new = token-room past done.new_token done.enter (taken done from (deadlines tables.boot past)) (entered past) (left tables.boot past) fewer follows_taken few_deadlines at h new

        follows_after : (tokens : QueueDues) → tokens ≡ token_added done.new_token done.enter fewer → Follows (deadlines tables.boot (entry ∷ past)) (entered past) (left tables.boot past) tokens
        follows_after tokens g =
            subst (Follows (deadlines tables.boot (entry ∷ past)) (entered past) (left tables.boot past)) (sym g)
            (subst (λ (d : Deadlines). Follows d (entered past) (left tables.boot past) (token_added done.new_token done.enter fewer)) deadlines_are
            (token-added_follows past done.new_token done.enter (taken done from (deadlines tables.boot past)) (left tables.boot past) fewer follows_taken))

      -- where nothing is emptied
      module _ (keeps : emptying wish (object_at tables.objects o).state ≡ false) (objects : List Object) (set : objects ≡ changed tables.objects o (set_by wish from)) where
        keeps_state : emptying wish (state past o) ≡ false
        keeps_state = ap (emptying wish) (sym set-state_at) ∙ keeps

        objects_after : ObjectsStand tables.boot (entry ∷ past) objects
        objects_after = subst (ObjectsStand tables.boot (entry ∷ past)) (sym set) (set-objects tables.boot who o word wish past is set-found set-inside keeps_state tables.objects from set-state_at s.objects)

        mapped_after : mapped tables.boot (entry ∷ past) o ≡ true
        mapped_after = set-mapped tables.boot who o word wish past is set-found set-inside o ∙ set-found

        pub set-kept : o < length objects
        set-kept = let n = objects_after.object_count in let l = set-inside in omega (arith, n, l)

        charge_after : (c : Counts) → c ≡ charge (object_at objects o).state (framed_of tables.pages o) (stored_of tables.pages o) → c ≡ charge_of tables.boot (entry ∷ past) o
        charge_after c h =
            h ∙ ap (λ x. charge x (framed_of tables.pages o) (stored_of tables.pages o)) (objects_after.states o set-inside mapped_after)
            ∙ charge-stands tables.boot (entry ∷ past) tables.pages tables.entered o set-inside (set-pages tables.boot who o word wish past is set-found set-inside keeps_state tables.pages tables.entered s.pages)

        module _ (own still : Option ℕ) (before after : Counts) (off : List Account) (mine : own ≡ owner_in tables.objects o) (counted : before ≡ charge (object_at tables.objects o).state (framed_of tables.pages o) (stored_of tables.pages o)) (later : after ≡ charge (object_at objects o).state (framed_of tables.pages o) (stored_of tables.pages o)) (relief : off ≡ relieved own before tables.accounts) (same : still ≡ owner_in objects o) where
          own_is : own ≡ owner tables.boot past o
          own_is = mine ∙ owner-stands tables.boot past tables.objects v s.objects.mappers o set-inside

          own_then : still ≡ owner tables.boot (entry ∷ past) o
          own_then = same ∙ owner-stands tables.boot (entry ∷ past) objects v objects_after.mappers o set-inside

          before_is : before ≡ charge_of tables.boot past o
          before_is = counted ∙ table-charge tables past s o set-inside set-found

          off_is : off ≡ relieved (owner tables.boot past o) (charge_of tables.boot past o) tables.accounts
          off_is = relief ∙ ap₂ (λ x y. relieved x y tables.accounts) own_is before_is

          pub set-burden : (u : ℕ) → still ≡ Some u → (u < length off) × AreWithin (counts_plus (account_of off u).counts after)
          set-burden u h =
              let now : owner tables.boot (entry ∷ past) o ≡ Some u = sym own_then ∙ h in
              let d = owner-declared tables.boot (entry ∷ past) o u now in
              let n : length off ≡ length tables.boot.tasks = ap length relief ∙ length-relieved own before tables.accounts ∙ s.accounts.account_count in (
                omega (arith, d, n),
                subst (λ (x : List Account). AreWithin (counts_plus (account_of x u).counts after)) (sym off_is)
                    (subst (λ (x : Counts). AreWithin (counts_plus (account_of (relieved (owner tables.boot past o) (charge_of tables.boot past o) tables.accounts) u).counts x)) (sym (charge_after after later))
                    (burden-fits tables.boot entry past o set-inside (λ x d. set-owner tables.boot who o word wish past is set-found set-inside x) (set-state_other tables.boot who o word wish past is set-found set-inside) (λ x d n. ap (λ (y : Rattle.kernel_model.specs.declared.place.Placed.Placed). y.place) (set-placed tables.boot who o word wish past is set-found set-inside keeps_state (record { obj = x; page = n }))) tables.accounts s.accounts u v now)),
              )

          pub set-done : (old : State) → old ≡ (object_at tables.objects o).state → (left_groups groups : List (List ℕ)) → left_groups ≡ (if done.leave then map (without o) tables.groups else tables.groups) → groups ≡ entered_at done.enter o left_groups → (fewer tokens : QueueDues) → fewer ≡ token_taken done.first_goes done.last_goes from tables.tokens → tokens ≡ token_added done.new_token done.enter fewer → (accounts : List Account) → accounts ≡ burdened still after off → Stands (record tables { groups = groups; tokens = tokens; objects = objects; accounts = accounts }) (entry_of who (SetState o word) (Old old) ∷ past)
          set-done old e left_groups groups went entered_g fewer tokens took more accounts given =
              let by_definition : accounts ≡ burdened (owner tables.boot (entry ∷ past) o) (charge_of tables.boot (entry ∷ past) o) (relieved (owner tables.boot past o) (charge_of tables.boot past o) tables.accounts) =
              given ∙ ap₂ (λ x y. burdened x y off) own_then (charge_after after later) ∙ ap (burdened (owner tables.boot (entry ∷ past) o) (charge_of tables.boot (entry ∷ past) o)) off_is in
              let follows = follows_after fewer took tokens more in
              let inactive = set-inactive tables.boot who o word wish past is set-found set-inside keeps_state in
              let gone = set-left tables.boot who o word wish past is set-found set-inside keeps_state in
              let all : Stands (record tables { groups = groups; tokens = tokens; objects = objects; accounts = accounts }) (entry ∷ past) =
              record {
                legal = set-legal;
                pages = set-pages tables.boot who o word wish past is set-found set-inside keeps_state tables.pages tables.entered s.pages;
                queues = record {
                  groups = groups_after left_groups went groups entered_g;
                  ahead = (let few = inactive-entered tables.boot past in let l = left-is tables.boot past in let h = follows.ahead in omega (arith, few, l, h, inactive));
                  dues = λ q. follows.dues q ∙ ap (λ (n : ℕ). map (λ x. x - n) (of_queue (deadlines tables.boot (entry ∷ past)) q)) (sym gone);
                };
                objects = objects_after;
                accounts = subst (Rattle.kernel_tables.specs.Stands.AccountsStand tables.boot (entry ∷ past)) (sym by_definition) (set-accounts tables.boot who o word wish past is set-found set-inside keeps_state tables.accounts s.accounts);
                bands = spared-bands tables.boot entry past (set-spares tables.boot who o word wish past is set-found set-inside) tables.wishes tables.bands tables.ages s.bands;
              } in
              subst (λ (x : State). Stands (record tables { groups = groups; tokens = tokens; objects = objects; accounts = accounts }) (entry_of who (SetState o word) (Old x) ∷ past)) (sym (e ∙ set-state_at)) all
