-- What an entry leaves alone stays as it has to be, part by part; an entry that changes nothing leaves all of it.
use Rattle.std.proofs.Common.{◌≡◌, ℕ, ◌-◌, List, ◌∷◌, map, if◌then◌else◌, Some, None, refl, sym, ap, ap₂, ◌∙◌, Bool, ◌&&◌, nat_eq, nat_lt}
use Rattle.std.specs.Prelude.{min}
use Rattle.kern_ids.specs.declared.entries.Entry.{Entry}
use Rattle.kern_ids.specs.declared.ids.PageId.{PageId}
use Rattle.kern_ids.specs.declared.calls.Queue.{Queue}
use Rattle.kernel_model.specs.declared.place.Place.{Place}
use Rattle.kernel_model.specs.declared.place.Placed.{Placed}
use Rattle.kernel_model.specs.declared.place.Standing.{Standing}
use Rattle.kernel_model.specs.System.{System}
use Rattle.kernel_model.specs.Lists.{pair_lt}
use Rattle.kernel_model.specs.Mapping.{live, maps, mapped, tasks_of}
use Rattle.kernel_model.specs.State.{state}
use Rattle.kernel_model.specs.Pages.{place, placed, pages_of, is_active, is_inactive, is_stored, left, entered, inactive_pages, touched_since, written}
use Rattle.kernel_model.specs.Groups.{standing, stands_in, objects_of, is_lifo}
use Rattle.kernel_model.specs.Deadlines.{Deadlines, deadlines, of_queue}
use Rattle.kernel_model.specs.Counted.{counts}
use Rattle.kernel_model.specs.Bands.{Placing, Limits, band, placing, active, limits, wish, ticks, counts_for_ageing, of_task}
use Rattle.kernel_model.specs.Scan.{stamp_lt}
use Rattle.kernel_model.specs.Histories.{IsLegal}
use Rattle.kernel_model.specs.Laws.Unchanged.{Unchanged}
use Rattle.kernel_model.specs.Laws.Queues.{KeepsPages, KeepsGroup, KeepsBand, nearer, bstamp_lt}
use Rattle.kernel_model.proofs.Laws.Order.{keeps-same}
use Rattle.page_queues.specs.Pages.{Pages}
use Rattle.ripen_advance.specs.Queues.{QueueDues}
use Rattle.vm_object.specs.Objects.{Object}
use Rattle.task_ledger.specs.declared.account.Account.{Account}
use Rattle.idle_ageing.specs.Ageing.{Ageing}
use Rattle.kernel_tables.specs.Values.{TableValues}
use Rattle.kernel_tables.specs.Stands.{Stands, PagesStand, QueuesStand, ObjectsStand, AccountsStand, BandsStand, IsAccount, HasGroups, HasDues}

-- Each part stays as it has to be over an entry that leaves alone what the part is tied to.
module _ (boot : System) (e : Entry) (before : List Entry) where
  kept-order : (k : Place → Bool) (ps : List PageId) → ((p : PageId) → placed boot (e ∷ before) p ≡ placed boot before p) → KeepsPages boot before k ps → KeepsPages boot (e ∷ before) k ps
  unfolding stamp_lt
  kept-order k ps same = keeps-same (pages_of boot) (λ p. k (place boot before p)) (λ p. k (place boot (e ∷ before) p)) (stamp_lt boot before) (stamp_lt boot (e ∷ before)) ps
      (λ p. ap (λ (x : Placed). k x.place) (same p))
      (λ p q hp hq. ap₂ (λ (x y : Placed). pair_lt (x.number, p.page) (y.number, q.page)) (same p) (same q))

  -- no page moves, none is touched, and none is deactivated
  pub kept-pages : (pages : Pages) (n : ℕ) → ((p : PageId) → placed boot (e ∷ before) p ≡ placed boot before p) → ((p : PageId) → touched_since boot (e ∷ before) p ≡ touched_since boot before p) → entered (e ∷ before) ≡ entered before → PagesStand boot before pages n → PagesStand boot (e ∷ before) pages n
  kept-pages pages n same touched none s = record {
    frames = s.frames;
    page_sizes = s.page_sizes;
    places = λ p m. s.places p m ∙ sym (ap (λ (x : Placed). x.place) (same p));
    active_order = kept-order is_active _ same s.active_order;
    inactive_order = kept-order is_inactive _ same s.inactive_order;
    stored_order = kept-order is_stored _ same s.stored_order;
    marks = λ p m. s.marks p m ∙ sym (ap₂ (λ (x : Placed) b. is_inactive x.place && b) (same p) (touched p));
    entered = s.entered ∙ sym none;
  }

  -- one group keeps its objects
  pub kept-group : (q : Queue) (g : ℕ) (os : List ℕ) → ((o : ℕ) → stands_in boot (e ∷ before) q g o ≡ stands_in boot before q g o) → ((o : ℕ) → standing (e ∷ before) o ≡ standing before o) → KeepsGroup boot before q g os → KeepsGroup boot (e ∷ before) q g os
  kept-group q g os same since = keeps-same (objects_of boot) (stands_in boot before q g) (stands_in boot (e ∷ before) q g) (nearer before q) (nearer (e ∷ before) q) os
      same
      (λ a b ha hb. ap₂ (λ (x y : Standing). if is_lifo q then nat_lt y.vstamp x.vstamp else nat_lt x.vstamp y.vstamp) (since a) (since b))

  -- no object becomes volatile or ends to be it
  pub kept-groups : (groups : List (List ℕ)) → ((q : Queue) (g o : ℕ) → stands_in boot (e ∷ before) q g o ≡ stands_in boot before q g o) → ((o : ℕ) → standing (e ∷ before) o ≡ standing before o) → HasGroups boot before groups → HasGroups boot (e ∷ before) groups
  kept-groups groups same since s q g l = kept-group q g _ (same q g) since (s q g l)

  -- no deadline is added or taken, and no page leaves the inactive queue
  pub kept-dues : (tokens : QueueDues) → deadlines boot (e ∷ before) ≡ deadlines boot before → left boot (e ∷ before) ≡ left boot before → HasDues boot before tokens → HasDues boot (e ∷ before) tokens
  kept-dues tokens same gone s q = s q ∙ sym (ap₂ (λ (n : ℕ) (ds : Deadlines). map (λ d. d - n) (of_queue ds q)) gone same)

  pub kept-queues : (groups : List (List ℕ)) (tokens : QueueDues) → ((q : Queue) (g o : ℕ) → stands_in boot (e ∷ before) q g o ≡ stands_in boot before q g o) → ((o : ℕ) → standing (e ∷ before) o ≡ standing before o) → deadlines boot (e ∷ before) ≡ deadlines boot before → left boot (e ∷ before) ≡ left boot before → inactive_pages boot (e ∷ before) ≡ inactive_pages boot before → QueuesStand boot before groups tokens → QueuesStand boot (e ∷ before) groups tokens
  kept-queues groups tokens same since due gone inactive s = record {
    groups = kept-groups groups same since s.groups;
    ahead = s.ahead ∙ sym inactive;
    dues = kept-dues tokens due gone s.dues;
  }

  -- no object is mapped or unmapped, changes its state or is written
  pub kept-objects : (objects : List Object) → ((o t : ℕ) → maps boot (e ∷ before) o t ≡ maps boot before o t) → ((o : ℕ) → mapped boot (e ∷ before) o ≡ mapped boot before o) → ((o : ℕ) → state (e ∷ before) o ≡ state before o) → ((p : PageId) → written (e ∷ before) p ≡ written before p) → ObjectsStand boot before objects → ObjectsStand boot (e ∷ before) objects
  kept-objects objects by any states pages s = record {
    object_count = s.object_count;
    sharers = s.sharers;
    sizes = s.sizes;
    mappers = λ o t l. s.mappers o t l ∙ sym (by o t);
    states = λ o l m. s.states o l (sym (any o) ∙ m) ∙ sym (states o);
    written = λ p h m. s.written p h (sym (any p.obj) ∙ m) ∙ sym (pages p);
  }

  -- a task lives on, is charged the same, and keeps its activity and its limits
  pub kept-account : (t : ℕ) (account : Account) → live boot (e ∷ before) t ≡ live boot before t → counts boot (e ∷ before) t ≡ counts boot before t → active boot (e ∷ before) t ≡ active boot before t → limits boot (e ∷ before) t ≡ limits boot before t → IsAccount boot before t account → IsAccount boot (e ∷ before) t account
  kept-account t account lives charged on bound a = record {
    live = a.live ∙ sym lives;
    counts = a.counts ∙ sym charged;
    active = a.active ∙ sym on;
    when_active = a.when_active ∙ sym (ap (λ (x : Limits). x.when_active) bound);
    when_inactive = a.when_inactive ∙ sym (ap (λ (x : Limits). x.when_inactive) bound);
    internal = a.internal;
  }

  pub kept-accounts : (accounts : List Account) → ((t : ℕ) → live boot (e ∷ before) t ≡ live boot before t) → ((t : ℕ) → counts boot (e ∷ before) t ≡ counts boot before t) → ((t : ℕ) → active boot (e ∷ before) t ≡ active boot before t) → ((t : ℕ) → limits boot (e ∷ before) t ≡ limits boot before t) → AccountsStand boot before accounts → AccountsStand boot (e ∷ before) accounts
  kept-accounts accounts lives charged on bound s = record {
    account_count = s.account_count;
    accounts = λ t l. kept-account t _ (lives t) (charged t) (on t) (bound t) (s.accounts t l);
  }

  -- one band keeps its tasks
  pub kept-band : (b : ℕ) (ts : List ℕ) → ((t : ℕ) → live boot (e ∷ before) t ≡ live boot before t) → ((t : ℕ) → band boot (e ∷ before) t ≡ band boot before t) → ((t : ℕ) → placing boot (e ∷ before) t ≡ placing boot before t) → KeepsBand boot before b ts → KeepsBand boot (e ∷ before) b ts
  kept-band b ts lives same since = keeps-same (tasks_of boot) (λ t. live boot before t && nat_eq (band boot before t) b) (λ t. live boot (e ∷ before) t && nat_eq (band boot (e ∷ before) t) b) (bstamp_lt boot before) (bstamp_lt boot (e ∷ before)) ts
      (λ t. ap₂ (λ l n. l && nat_eq n b) (lives t) (same t))
      (λ t v ht hv. ap₂ (λ (x y : Placing). pair_lt x.bstamp y.bstamp) (since t) (since v))

  -- no task ends, enters a band, wishes another one or ages
  pub kept-bands : (wishes : List ℕ) (bands : List (List ℕ)) (ages : Ageing) → ((t : ℕ) → live boot (e ∷ before) t ≡ live boot before t) → ((t : ℕ) → wish boot (e ∷ before) t ≡ wish boot before t) → ((t : ℕ) → band boot (e ∷ before) t ≡ band boot before t) → ((t : ℕ) → placing boot (e ∷ before) t ≡ placing boot before t) → ((t : ℕ) → ticks boot (e ∷ before) t ≡ ticks boot before t) → ((t : ℕ) → counts_for_ageing boot (e ∷ before) t ≡ counts_for_ageing boot before t) → BandsStand boot before wishes bands ages → BandsStand boot (e ∷ before) wishes bands ages
  kept-bands wishes bands ages lives wished same since ticked counting s = record {
    wish_count = s.wish_count;
    wishes = λ t l. s.wishes t l ∙ sym (wished t);
    bands = λ b l. kept-band b _ lives same since (s.bands b l);
    delays = s.delays;
    ages = λ t l. s.ages t l ∙ sym (ap₂ (λ c n. if c then Some (min n (of_task (λ task. task.delay) boot t 0)) else None) (counting t) (ticked t));
  }

pub unchanged-stands : (tables : TableValues) (e : Entry) (before : List Entry) → Unchanged tables.boot e before → IsLegal tables.boot (e ∷ before) → Stands tables before → Stands tables (e ∷ before)
unchanged-stands tables e before u legal s =
    let boot = tables.boot in
    record {
      legal = legal;
      pages = kept-pages boot e before _ _ u.placed u.touched_since u.entered s.pages;
      queues = kept-queues boot e before _ _ u.stands_in u.standing u.deadlines u.left u.inactive_pages s.queues;
      objects = kept-objects boot e before _ u.maps u.mapped u.state u.written s.objects;
      accounts = kept-accounts boot e before _ u.live u.counts u.active u.limits s.accounts;
      bands = kept-bands boot e before _ _ _ u.live u.wish u.band u.placing u.ticks u.counts_for_ageing s.bands;
    }
