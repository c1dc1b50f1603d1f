-- The entries of purges: each empties its object and leaves the tasks; what they make of the groups and of the dues.
use Rattle.std.proofs.Common.{◌≡◌, ℕ, ◌+◌, ◌-◌, ◌<◌, ◌≤◌, List, [], ◌∷◌, length, map, Option, Some, None, is_some, option_map, refl, sym, ap, ap₂, ◌∙◌, subst, Bool, true, false, not, ◌&&◌, ◌||◌, nat_eq, if◌then◌else◌, inl, inr, arith}
use Rattle.std.specs.Option.{option_map_or}
use Rattle.std.proofs.lemmas.Bool.{cases_Bool, false≢true}
use Rattle.kern_ids.specs.declared.entries.Entry.{Entry}
use Rattle.kern_ids.specs.declared.ids.PageId.{PageId}
use Rattle.kern_ids.specs.declared.calls.Call.{Call}
use Rattle.kern_ids.specs.declared.calls.Call.TheVariants.{PurgeOne, Forced, Scan}
use Rattle.kern_ids.specs.declared.calls.Queue.{Queue}
use Rattle.kern_ids.specs.declared.calls.State.{State}
use Rattle.kern_ids.specs.declared.calls.State.TheVariants.{Empty}
use Rattle.kern_ids.specs.declared.replies.Reply.TheVariants.{Purged}
use Rattle.kernel_model.specs.declared.place.Place.{Place}
use Rattle.kernel_model.specs.declared.place.Place.TheVariants.{Absent, Active}
use Rattle.kernel_model.specs.declared.place.Placed.{Placed}
use Rattle.kernel_model.specs.System.{System}
use Rattle.kernel_model.specs.Events.{accepted, write_covers, is_unmap, is_end}
use Rattle.kernel_model.specs.Mapping.{live, mapped, says_maps}
use Rattle.kernel_model.specs.State.{state}
use Rattle.kernel_model.specs.Contents.{empties}
use Rattle.kernel_model.specs.Pages.{touches, move_of, is_out, is_deactivation, place, touched_since, left, inactive_pages}
use Rattle.kernel_model.specs.Groups.{volatile, standing, stands_in, same_queue, is_volatile_state}
use Rattle.kernel_model.specs.Deadlines.{Deadlines, deadlines, of_queue, due_of}
use Rattle.kernel_model.specs.Bands.{active_call, limits_call, sets_band, aged_place, is_tick_call, Placing, wish, active, differs}
use Rattle.kernel_model.specs.Histories.{IsLegal}
use Rattle.kernel_model.specs.Lists.{some_if}
use Rattle.kernel_model.specs.Laws.Kinds.{is_purging_call}
use Rattle.kernel_model.specs.Laws.Queues.{KeepsGroup}
use Rattle.kernel_model.proofs.Laws.Bounds.{nat_eq-swap, left-rises}
use Rattle.kernel_model.proofs.Laws.Kept.{live-kept, maps-kept, placed-kept, touched_since-kept, written-kept, entered-kept, active-kept, limits-kept, wish-kept, placing-kept, band-kept, ticks-kept, counts_for_ageing-kept, standing-kept, volatile-kept, stands_in-kept}
use Rattle.kernel_model.proofs.Laws.Kinds.{placed-emptied, written-emptied, state-purge, sets_active-none}
use Rattle.kernel_model.proofs.Laws.Mapping.{unmaps-no}
use Rattle.kernel_model.proofs.Laws.Queues.{group-filter}
use Rattle.link_list.specs.KeyLists.{without}
use Rattle.volatile_groups.specs.Grouped.{first_list, members}
use Rattle.token_list.specs.Dues.{lowered_by}
use Rattle.ripen_advance.specs.Queues.{QueueDues, dues_in}
use Rattle.purge_pick.specs.Follows.{Follows}
use Rattle.idle_ageing.specs.Ageing.{Ageing}
use Rattle.kernel_tables.specs.Values.{TableValues, entry_of}
use Rattle.kernel_tables.specs.Emptying.{IsEmptying}
use Rattle.kernel_tables.specs.Stands.{Stands, PagesStand, QueuesStand, ObjectsStand, AccountsStand, BandsStand, HasGroups}
use Rattle.kernel_tables.proofs.Kept.{kept-bands}
use Rattle.kernel_tables.proofs.Lists.{removed-at}
use Rattle.kernel_tables.proofs.Emptied.{mapped-emptied}

-- an entry that says nothing of a page or of a task
no_place : (a u t o : Bool) (m : Option Place) → a ≡ false → u ≡ false → t ≡ false → m ≡ None → (if a || u then Some Absent else if t && o then Some Active else m) ≡ None
no_place a u t o m ha hu ht hm = rw (ha, hu, ht, hm) refl

no_mark : (a u t b : Bool) (m : Option Place) → a ≡ false → u ≡ false → t ≡ false → m ≡ None → (if a || u then Some false else if t then Some b else some_if (is_some m) false) ≡ None
no_mark a u t b m ha hu ht hm = rw (ha, hu, ht, hm) refl

no_write : (a w : Bool) → a ≡ false → w ≡ false → (if a then Some false else some_if w true) ≡ None
no_write a w ha hw = rw (ha, hw) refl

no_placing : (b : Option ℕ) (c : Option Bool) (d : Bool → Bool) (w : Bool) (f : Placing) (g : ℕ → Placing) (a : Option ℕ) → b ≡ None → c ≡ None → a ≡ None → (if is_some b || (option_map_or d c false && w) then Some f else option_map g a) ≡ None
no_placing b c d w f g a hb hc ha = rw (hb, hc, ha) refl

no_restart : (c : Option Bool) (d : Bool → Bool) (b : Option ℕ) (f : ℕ → Bool) → c ≡ None → b ≡ None → (option_map_or d c false || option_map_or f b false) ≡ false
no_restart c d b f hc hb = rw (hc, hb) refl

module _ (boot : System) (e : Entry) (before : List Entry) (ends : (t : ℕ) → is_end boot t e ≡ false) (acts : active_call e.call ≡ None) where
  -- an entry that ends no task, sets no activity and no band, ages no task and is no Tick
  pub bands-left : (wishes : List ℕ) (bands : List (List ℕ)) (ages : Ageing) → ((t : ℕ) → sets_band t e ≡ None) → ((t : ℕ) → aged_place t e ≡ None) → is_tick_call e.call ≡ false → BandsStand boot before wishes bands ages → BandsStand boot (e ∷ before) wishes bands ages
  bands-left wishes bands ages sets aged tick s =
      let lives : (t : ℕ) → live boot (e ∷ before) t ≡ live boot before t = λ t. live-kept boot e before t (ends t) in
      let wished : (t : ℕ) → wish boot (e ∷ before) t ≡ wish boot before t = λ t. wish-kept boot e before t (sets t) in
      let on : (t : ℕ) → active boot (e ∷ before) t ≡ active boot before t = λ t. active-kept boot e before t (sets_active-none boot e t acts) in
      let since = λ (t : ℕ). placing-kept boot e before t (no_placing (sets_band t e) _ (differs (active boot before t)) (nat_eq (wish boot before t) 0) _ _ (aged_place t e) (sets t) (sets_active-none boot e t acts) (aged t)) in
      let same = λ (t : ℕ). band-kept boot e before t (since t) (wished t) in
      kept-bands boot e before wishes bands ages lives wished same since
      (λ t. ticks-kept boot e before t (no_restart _ _ (sets_band t e) (nat_eq 0) (sets_active-none boot e t acts) (sets t)) tick)
      (λ t. counts_for_ageing-kept boot e before t (lives t) (on t) (wished t) (same t)) s

  module _ (o : ℕ)
      (emptied : (x : ℕ) → empties x before e ≡ nat_eq o x)
      (touched : (p : PageId) → touches before e p ≡ false)
      (moved : (p : PageId) → move_of p e.reply ≡ None)
      (unmapped : (x : ℕ) → is_unmap x e ≡ false)
    where
      empties_other : (p : PageId) → nat_eq o p.obj ≡ false → empties p.obj before e ≡ false
      empties_other p h = emptied p.obj ∙ h

      -- an entry that empties o, and neither touches or moves a page nor maps or unmaps an object
      pub emptying-by : ((x : ℕ) → state (e ∷ before) x ≡ (if nat_eq o x then Empty else state before x)) → ((p : PageId) → (accepted e && write_covers p e.call) ≡ false) → is_deactivation e.reply ≡ false → ((x t : ℕ) → says_maps boot x t [] true e ≡ None) → ((t : ℕ) → (if accepted e then limits_call t e.call else None) ≡ None) → IsEmptying boot e before o
      emptying-by states wrote deactivated mapping bounds = record {
        gone = λ p h. ap (λ (x : Placed). x.place) (placed-emptied boot e before p (emptied p.obj ∙ h));
        unwritten = λ p h. written-emptied e before p (emptied p.obj ∙ h);
        states = states;
        places_kept = λ p h. placed-kept boot e before p (no_place (empties p.obj before e) _ (touches before e p) (is_out (place boot before p)) (move_of p e.reply) (empties_other p h) (unmaps-no boot e before p.obj ends (unmapped p.obj)) (touched p) (moved p));
        marks_kept = λ p h. touched_since-kept boot e before p (no_mark (empties p.obj before e) _ (touches before e p) _ (move_of p e.reply) (empties_other p h) (unmaps-no boot e before p.obj ends (unmapped p.obj)) (touched p) (moved p));
        written_kept = λ p h. written-kept e before p (no_write (empties p.obj before e) (accepted e && write_covers p e.call) (empties_other p h) (wrote p));
        none_entered = entered-kept e before deactivated;
        mappers_kept = λ x t. maps-kept boot e before x t (ends t) (mapping x t);
        lives_kept = λ t. live-kept boot e before t (ends t);
        activity_kept = λ t. active-kept boot e before t (sets_active-none boot e t acts);
        limits_kept = λ t. limits-kept boot e before t (bounds t);
      }

or-false : (b : Bool) → (b || false) ≡ b
or-false true = refl
or-false false = refl

state_purged : (e : Entry) (o : ℕ) (before : List Entry) (x : ℕ) → state (e ∷ before) x ≡ (if nat_eq x o then Empty else state before x) → state (e ∷ before) x ≡ (if nat_eq o x then Empty else state before x)
state_purged e o before x h = h ∙ ap (λ b. if b then Empty else state before x) (nat_eq-swap x o)

module _ (boot : System) (before : List Entry) (who o : ℕ) where
  -- a purge empties its object
  pub purge-empties : (call : Call) → is_purging_call call ≡ true → IsEmptying boot (entry_of who call (Purged o)) before o
  purge-empties PurgeOne c =
      let e : Entry = entry_of who PurgeOne (Purged o) in
      emptying-by boot e before (λ t. refl) refl o (λ x. or-false (nat_eq x o) ∙ nat_eq-swap x o) (λ p. refl) (λ p. refl) (λ x. refl) (λ x. state_purged e o before x (state-purge e o before x refl refl refl)) (λ p. refl) refl (λ x t. refl) (λ t. refl)
  purge-empties Forced c =
      let e : Entry = entry_of who Forced (Purged o) in
      emptying-by boot e before (λ t. refl) refl o (λ x. or-false (nat_eq x o) ∙ nat_eq-swap x o) (λ p. refl) (λ p. refl) (λ x. refl) (λ x. state_purged e o before x (state-purge e o before x refl refl refl)) (λ p. refl) refl (λ x t. refl) (λ t. refl)
  purge-empties Scan c =
      let e : Entry = entry_of who Scan (Purged o) in
      emptying-by boot e before (λ t. refl) refl o (λ x. or-false (nat_eq x o) ∙ nat_eq-swap x o) (λ p. refl) (λ p. refl) (λ x. refl) (λ x. state_purged e o before x (state-purge e o before x refl refl refl)) (λ p. refl) refl (λ x t. refl) (λ t. refl)
  purge-empties _ c = absurd (false≢true c)

  -- and leaves the tasks in their bands
  pub purge-bands : (call : Call) → is_purging_call call ≡ true → (wishes : List ℕ) (bands : List (List ℕ)) (ages : Ageing) → BandsStand boot before wishes bands ages → BandsStand boot (entry_of who call (Purged o) ∷ before) wishes bands ages
  purge-bands PurgeOne c wishes bands ages s = bands-left boot (entry_of who PurgeOne (Purged o)) before (λ t. refl) refl wishes bands ages (λ t. refl) (λ t. refl) refl s
  purge-bands Forced c wishes bands ages s = bands-left boot (entry_of who Forced (Purged o)) before (λ t. refl) refl wishes bands ages (λ t. refl) (λ t. refl) refl s
  purge-bands Scan c wishes bands ages s = bands-left boot (entry_of who Scan (Purged o)) before (λ t. refl) refl wishes bands ages (λ t. refl) (λ t. refl) refl s
  purge-bands _ c wishes bands ages s = absurd (false≢true c)

  pub purge-standing : (call : Call) → is_purging_call call ≡ true → (x : ℕ) → standing (entry_of who call (Purged o) ∷ before) x ≡ standing before x
  purge-standing PurgeOne c x = standing-kept (entry_of who PurgeOne (Purged o)) before x refl
  purge-standing Forced c x = standing-kept (entry_of who Forced (Purged o)) before x refl
  purge-standing Scan c x = standing-kept (entry_of who Scan (Purged o)) before x refl
  purge-standing _ c x = absurd (false≢true c)

and-false : (b : Bool) → (b && false) ≡ false
and-false true = refl
and-false false = refl

-- an object that is EMPTY is in no group
module _ (boot : System) (e : Entry) (before : List Entry) (o : ℕ) (is : IsEmptying boot e before o) (since : (x : ℕ) → standing (e ∷ before) x ≡ standing before x) where
  stands-emptied : (q : Queue) (g x : ℕ) → stands_in boot (e ∷ before) q g x ≡ (not (nat_eq o x) && stands_in boot before q g x)
  unfolding volatile
  stands-emptied q g x = elim (cases_Bool (nat_eq o x)) [
    | inl here ↦ (
        let none : is_volatile_state (state (e ∷ before) x) ≡ false = ap is_volatile_state (is.states x ∙ ap (λ b. if b then Empty else state before x) here) in
        let out : volatile boot (e ∷ before) x ≡ false = ap (λ b. mapped boot (e ∷ before) x && b) none ∙ and-false (mapped boot (e ∷ before) x) in
        rw (here, out) refl)
    | inr other ↦ (
        let same : state (e ∷ before) x ≡ state before x = is.states x ∙ ap (λ b. if b then Empty else state before x) other in
        rw other (stands_in-kept boot e before q g x (volatile-kept boot e before x (mapped-emptied boot e before o is x) same) (since x)))
  ]

  pub groups-emptied : (groups : List (List ℕ)) → HasGroups boot before groups → HasGroups boot (e ∷ before) (map (without o) groups)
  groups-emptied groups s q g l =
      subst (KeepsGroup boot (e ∷ before) q g) (sym (removed-at groups o (first_list q + g)))
      (group-filter boot e before q g (λ x. not (nat_eq o x)) (members groups q g) (stands-emptied q g) (λ x h. since x) (s q g l))

-- dues that were lowered by the pages that left since
lowered-more : (l k : ℕ) (xs : List ℕ) → lowered_by k (map (λ x. x - l) xs) ≡ map (λ x. x - (l + k)) xs
lowered-more l k [] = refl
lowered-more l k (x ∷ xs) = ap₂ (λ (y : ℕ) (ys : List ℕ). y ∷ ys) (omega arith) (lowered-more l k xs)

pub queues-emptied : (boot : System) (e : Entry) (before : List Entry) (o : ℕ) (groups : List (List ℕ)) (taken tokens : QueueDues) (n : ℕ) → IsEmptying boot e before o → ((x : ℕ) → standing (e ∷ before) x ≡ standing before x) → HasGroups boot before groups
    → Follows (deadlines boot (e ∷ before)) n (left boot before) taken
    → ((q : Queue) → dues_in tokens q ≡ lowered_by (left boot (e ∷ before) - left boot before) (dues_in taken q))
    → tokens.ahead ≡ inactive_pages boot (e ∷ before)
    → QueuesStand boot (e ∷ before) (map (without o) groups) tokens
queues-emptied boot e before o groups taken tokens n is since s follows dues ahead =
    let l = left boot before in
    let later : l + (left boot (e ∷ before) - l) ≡ left boot (e ∷ before) = (let r = left-rises boot e before in omega arith) in
    record {
      groups = groups-emptied boot e before o is since groups s;
      ahead = ahead;
      dues = λ q.
          dues q ∙ ap (lowered_by (left boot (e ∷ before) - l)) (follows.dues q) ∙ lowered-more l (left boot (e ∷ before) - l) (of_queue (deadlines boot (e ∷ before)) q)
          ∙ ap (λ (m : ℕ). map (λ x. x - m) (of_queue (deadlines boot (e ∷ before)) q)) later;
    }

-- the tables by their parts
pub stands-by : (tables : TableValues) (boot : System) (past : List Entry) → tables.boot ≡ boot → IsLegal boot past → PagesStand boot past tables.pages tables.entered → QueuesStand boot past tables.groups tables.tokens → ObjectsStand boot past tables.objects → AccountsStand boot past tables.accounts → BandsStand boot past tables.wishes tables.bands tables.ages → Stands tables past
stands-by tables boot past same legal pages queues objects accounts bands = record {
  legal = subst (λ (b : System). IsLegal b past) (sym same) legal;
  pages = subst (λ (b : System). PagesStand b past tables.pages tables.entered) (sym same) pages;
  queues = subst (λ (b : System). QueuesStand b past tables.groups tables.tokens) (sym same) queues;
  objects = subst (λ (b : System). ObjectsStand b past tables.objects) (sym same) objects;
  accounts = subst (λ (b : System). AccountsStand b past tables.accounts) (sym same) accounts;
  bands = subst (λ (b : System). BandsStand b past tables.wishes tables.bands tables.ages) (sym same) bands;
}
