-- Entries that change pages alone: accepted reads and writes, and the scan's moves. All that isn't said of pages stays.
use Rattle.std.proofs.Common.{◌≡◌, ℕ, ◌-◌, ◌≤◌, List, [], ◌∷◌, map, Option, Some, None, refl, sym, ap, ◌∙◌, Bool, true, false, ◌&&◌, if◌then◌else◌}
use Rattle.std.proofs.lemmas.Bool.{true≢false}
use Rattle.kern_ids.specs.declared.entries.Entry.{Entry}
use Rattle.kern_ids.specs.declared.ids.PageId.{PageId}
use Rattle.kern_ids.specs.declared.calls.Queue.{Queue}
use Rattle.kernel_model.specs.System.{System}
use Rattle.kernel_model.specs.Events.{accepted, is_map_call, is_attach_call, is_unmap_call, is_exit_call, is_purge, is_end, is_by, wish_call, purged_by, killed_by}
use Rattle.kernel_model.specs.Mapping.{live, maps, says_maps, mapped, unmaps, owner}
use Rattle.kernel_model.specs.State.{state}
use Rattle.kernel_model.specs.Contents.{empties}
use Rattle.kernel_model.specs.Groups.{standing, stands_in, volatile}
use Rattle.kernel_model.specs.Deadlines.{deadlines, set_by}
use Rattle.kernel_model.specs.Pages.{placed, touched_since, touches, move_of, inactive_pages}
use Rattle.kernel_model.specs.Bands.{wish, active, limits, placing, band, ticks, counts_for_ageing, sets_band, sets_active, band_call, active_call, limits_call, aged_tasks, is_tick_call}
use Rattle.kernel_model.specs.Histories.{IsLegal}
use Rattle.kernel_model.proofs.Laws.Kept.{live-kept, maps-kept, mapped-kept, owner-kept, unmaps-kept, placed-kept, touched_since-kept, standing-kept, volatile-kept, stands_in-kept, deadlines-kept, wish-kept, active-kept, limits-kept, placing-kept, band-kept, ticks-kept, counts_for_ageing-kept}
use Rattle.kernel_model.proofs.Laws.State.{state-kept}
use Rattle.page_queues.specs.Pages.{Pages}
use Rattle.ripen_advance.specs.Queues.{QueueDues}
use Rattle.vm_object.specs.Objects.{Object}
use Rattle.task_ledger.specs.declared.account.Account.{Account}
use Rattle.kernel_tables.specs.Values.{TableValues}
use Rattle.kernel_tables.specs.Stands.{Stands, PagesStand, ObjectsStand, AccountsStand, HasDues}
use Rattle.kernel_tables.proofs.Kept.{kept-groups, kept-bands}
use Rattle.kernel_tables.proofs.PageCharges.{ChargesHold, accounts-later}

-- an entry that says nothing but of pages
pub record OnlyPages (e : Entry) : Type 0 where
  pub map : (o : ℕ) → (accepted e && is_map_call o e.call) ≡ false
  pub attach : (o : ℕ) → (accepted e && is_attach_call o e.call) ≡ false
  pub unmap : (o : ℕ) → (accepted e && is_unmap_call o e.call) ≡ false
  pub exit : (accepted e && is_exit_call e.call) ≡ false
  pub tick : is_tick_call e.call ≡ false
  pub wish : (o : ℕ) → (if accepted e then wish_call o e.call else None) ≡ None
  pub set : (if accepted e then set_by e.call else None) ≡ None
  pub band : (t : ℕ) → (if accepted e then band_call t e.call else None) ≡ None
  pub active : (if accepted e then active_call e.call else None) ≡ None
  pub limits : (t : ℕ) → (if accepted e then limits_call t e.call else None) ≡ None
  pub purged : purged_by e.reply ≡ None
  pub killed : killed_by e.reply ≡ None
  pub aged : aged_tasks e.reply ≡ None

and-assoc : (a b c : Bool) → (a && b) ≡ false → (a && b && c) ≡ false
and-assoc true true c h = absurd (true≢false h)
and-assoc true false c h = refl
and-assoc false b c h = refl

active-off : (a b : Bool) (s : Option Bool) → (if a then s else None) ≡ None → (if a && b then s else None) ≡ None
active-off true true s h = h
active-off true false s h = refl
active-off false b s h = refl

module _ (boot : System) (e : Entry) (before : List Entry) (s : OnlyPages e) where
  pages_end : (t : ℕ) → is_end boot t e ≡ false
  pages_end t = rw (s.killed, and-assoc (accepted e) (is_exit_call e.call) (is_by boot t e) s.exit) refl

  pub same-live : (t : ℕ) → live boot (e ∷ before) t ≡ live boot before t
  same-live t = live-kept boot e before t (pages_end t)

  pages_says_maps : (o t : ℕ) → says_maps boot o t [] true e ≡ None
  pages_says_maps o t = rw (s.map o, s.attach o, s.unmap o) refl

  pub same-maps : (o t : ℕ) → maps boot (e ∷ before) o t ≡ maps boot before o t
  same-maps o t = maps-kept boot e before o t (pages_end t) (pages_says_maps o t)

  pub same-mapped : (o : ℕ) → mapped boot (e ∷ before) o ≡ mapped boot before o
  same-mapped o = mapped-kept boot e before o (same-maps o)

  pub none-unmapped : (o : ℕ) → unmaps boot before e o ≡ false
  none-unmapped o = unmaps-kept boot e before o (same-mapped o)

  pub same-owner : (o : ℕ) → owner boot (e ∷ before) o ≡ owner boot before o
  same-owner o = owner-kept boot e before o (same-maps o)

  pages_purge : (o : ℕ) → is_purge o e ≡ false
  pages_purge o = rw s.purged refl

  pub same-state : (o : ℕ) → state (e ∷ before) o ≡ state before o
  same-state o = state-kept e before o (s.map o) (pages_purge o) (s.wish o)

  pub none-emptied : (o : ℕ) → empties o before e ≡ false
  none-emptied o = rw (s.map o, s.purged, s.wish o) refl

  -- a page that it neither touches nor moves stays
  pub idle-placed : (q : PageId) → touches before e q ≡ false → move_of q e.reply ≡ None → placed boot (e ∷ before) q ≡ placed boot before q
  idle-placed q t m = placed-kept boot e before q (rw (none-emptied q.obj, none-unmapped q.obj, t, m) refl)

  pub idle-touched : (q : PageId) → touches before e q ≡ false → move_of q e.reply ≡ None → touched_since boot (e ∷ before) q ≡ touched_since boot before q
  idle-touched q t m = touched_since-kept boot e before q (rw (none-emptied q.obj, none-unmapped q.obj, t, m) refl)

  same-standing : (o : ℕ) → standing (e ∷ before) o ≡ standing before o
  same-standing o = standing-kept e before o (rw (s.wish o) refl)

  same-stands_in : (q : Queue) (g o : ℕ) → stands_in boot (e ∷ before) q g o ≡ stands_in boot before q g o
  same-stands_in q g o = stands_in-kept boot e before q g o (volatile-kept boot e before o (same-mapped o) (same-state o)) (same-standing o)

  pub same-deadlines : deadlines boot (e ∷ before) ≡ deadlines boot before
  same-deadlines = deadlines-kept boot e before s.set s.purged none-unmapped

  same-wish : (t : ℕ) → wish boot (e ∷ before) t ≡ wish boot before t
  same-wish t = wish-kept boot e before t (s.band t)

  pages_sets_active : (t : ℕ) → sets_active boot t e ≡ None
  pages_sets_active t = active-off (accepted e) (is_by boot t e) (active_call e.call) s.active

  same-active : (t : ℕ) → active boot (e ∷ before) t ≡ active boot before t
  same-active t = active-kept boot e before t (pages_sets_active t)

  same-limits : (t : ℕ) → limits boot (e ∷ before) t ≡ limits boot before t
  same-limits t = limits-kept boot e before t (s.limits t)

  same-placing : (t : ℕ) → placing boot (e ∷ before) t ≡ placing boot before t
  same-placing t = placing-kept boot e before t (rw (s.band t, pages_sets_active t, s.aged) refl)

  same-band : (t : ℕ) → band boot (e ∷ before) t ≡ band boot before t
  same-band t = band-kept boot e before t (same-placing t) (same-wish t)

  same-ticks : (t : ℕ) → ticks boot (e ∷ before) t ≡ ticks boot before t
  same-ticks t = ticks-kept boot e before t (rw (pages_sets_active t, s.band t) refl) s.tick

  same-counting : (t : ℕ) → counts_for_ageing boot (e ∷ before) t ≡ counts_for_ageing boot before t
  same-counting t = counts_for_ageing-kept boot e before t (same-live t) (same-active t) (same-wish t) (same-band t)

  -- the accounts stand for it where they are charged by its places
  pub charged-stand : (accounts : List Account) → ChargesHold boot before (placed boot (e ∷ before)) accounts → AccountsStand boot (e ∷ before) accounts
  charged-stand accounts h = accounts-later boot e before same-owner same-state accounts same-live same-active same-limits h

-- the tables stand for it with other pages, tokens, written pages, accounts and another number of deactivated pages
pub only-pages-stand : (tables : TableValues) (e : Entry) (before : List Entry) (pages : Pages) (tokens : QueueDues) (objects : List Object) (accounts : List Account) (n : ℕ) → OnlyPages e → IsLegal tables.boot (e ∷ before) → Stands tables before → PagesStand tables.boot (e ∷ before) pages n → tokens.ahead ≡ inactive_pages tables.boot (e ∷ before) → HasDues tables.boot (e ∷ before) tokens → ObjectsStand tables.boot (e ∷ before) objects → AccountsStand tables.boot (e ∷ before) accounts → Stands (record tables { pages = pages; tokens = tokens; objects = objects; accounts = accounts; entered = n }) (e ∷ before)
only-pages-stand tables e before pages tokens objects accounts n s legal stood p a d o c =
    let boot = tables.boot in
    record {
      legal = legal;
      pages = p;
      queues = record {
        groups = kept-groups boot e before tables.groups (same-stands_in boot e before s) (same-standing boot e before s) stood.queues.groups;
        ahead = a;
        dues = d;
      };
      objects = o;
      accounts = c;
      bands = kept-bands boot e before _ _ _ (same-live boot e before s) (same-wish boot e before s) (same-band boot e before s) (same-placing boot e before s) (same-ticks boot e before s) (same-counting boot e before s) stood.bands;
    }
