-- Entries that change tasks alone: SetLimits, SetBand, Active and Tick. All that isn't said of tasks stays.
use Rattle.std.proofs.Common.{◌≡◌, ℕ, ◌<◌, List, [], ◌∷◌, set, None, refl, sym, ◌∙◌, subst, Bool, true, false, ◌&&◌, ◌||◌, not, if◌then◌else◌, inl, inr, length}
use Rattle.std.proofs.lemmas.Bool.{cases_eq}
use Rattle.std.proofs.lemmas.List.{get_or-set_same, get_or-set_other, length-set}
use Rattle.kern_ids.specs.declared.entries.Entry.{Entry}
use Rattle.kern_ids.specs.declared.ids.PageId.{PageId}
use Rattle.kern_ids.specs.declared.calls.Queue.{Queue}
use Rattle.kernel_model.specs.System.{System}
use Rattle.kernel_model.specs.Events.{accepted, is_map_call, is_attach_call, is_unmap_call, is_exit_call, is_purge, is_end, is_by, wish_call, write_covers, read_covers, purged_by, killed_by}
use Rattle.kernel_model.specs.Mapping.{live, maps, says_maps, mapped, unmaps, owner}
use Rattle.kernel_model.specs.State.{state, is_empty}
use Rattle.kernel_model.specs.Contents.{empties}
use Rattle.kernel_model.specs.Pages.{placed, touches_from, move_of, is_deactivation, entered, touched_since, written, is_inactive}
use Rattle.kernel_model.specs.Groups.{standing, stands_in}
use Rattle.kernel_model.specs.Deadlines.{set_by}
use Rattle.kernel_model.specs.Counted.{counts}
use Rattle.kernel_model.specs.Histories.{IsLegal}
use Rattle.kernel_model.proofs.Laws.Kept.{live-kept, maps-kept, mapped-kept, owner-kept, unmaps-kept, placed-kept, touched_since-kept, written-kept, entered-kept, standing-kept, volatile-kept, stands_in-kept, counted-kept, left-kept, counts-kept, deadlines-kept}
use Rattle.kernel_model.proofs.Laws.State.{state-kept}
use Rattle.task_ledger.specs.declared.account.Account.{Account}
use Rattle.task_ledger.specs.Accounts.{account_of, no_account}
use Rattle.idle_ageing.specs.Ageing.{Ageing}
use Rattle.kernel_tables.specs.Values.{TableValues}
use Rattle.kernel_tables.specs.Stands.{Stands, AccountsStand, BandsStand, IsAccount}
use Rattle.kernel_tables.proofs.Kept.{kept-pages, kept-queues, kept-objects}

-- an entry that says nothing but of tasks
pub record OnlyTasks (e : Entry) : Type 0 where
  pub map : (o : ℕ) → (accepted e && is_map_call o e.call) ≡ false
  pub attach : (o : ℕ) → (accepted e && is_attach_call o e.call) ≡ false
  pub unmap : (o : ℕ) → (accepted e && is_unmap_call o e.call) ≡ false
  pub exit : (accepted e && is_exit_call e.call) ≡ false
  pub write : (p : PageId) → (accepted e && write_covers p e.call) ≡ false
  pub read : (p : PageId) → (accepted e && read_covers p e.call) ≡ false
  pub wish : (o : ℕ) → (if accepted e then wish_call o e.call else None) ≡ None
  pub set : (if accepted e then set_by e.call else None) ≡ None
  pub purged : purged_by e.reply ≡ None
  pub killed : killed_by e.reply ≡ None
  pub move : (p : PageId) → move_of p e.reply ≡ None
  pub deactivation : is_deactivation e.reply ≡ false

and-assoc : (a b c : Bool) → (a && b) ≡ false → (a && b && c) ≡ false
and-assoc true true c h = absurd (Rattle.std.proofs.lemmas.Bool.true≢false h)
and-assoc true false c h = refl
and-assoc false b c h = refl

touches-off : (a w r x : Bool) → (a && w) ≡ false → (a && r) ≡ false → (a && (w || (r && x))) ≡ false
touches-off false w r x h k = refl
touches-off true w r x h k = rw (h, k) refl

module _ (boot : System) (e : Entry) (before : List Entry) (s : OnlyTasks e) where
  only_end : (t : ℕ) → is_end boot t e ≡ false
  only_end t = rw (s.killed, and-assoc (accepted e) (is_exit_call e.call) (is_by boot t e) s.exit) refl

  pub only-live : (t : ℕ) → live boot (e ∷ before) t ≡ live boot before t
  only-live t = live-kept boot e before t (only_end t)

  only_says_maps : (o t : ℕ) → says_maps boot o t [] true e ≡ None
  only_says_maps o t = rw (s.map o, s.attach o, s.unmap o) refl

  only_maps : (o t : ℕ) → maps boot (e ∷ before) o t ≡ maps boot before o t
  only_maps o t = maps-kept boot e before o t (only_end t) (only_says_maps o t)

  only_mapped : (o : ℕ) → mapped boot (e ∷ before) o ≡ mapped boot before o
  only_mapped o = mapped-kept boot e before o (only_maps o)

  only_unmaps : (o : ℕ) → unmaps boot before e o ≡ false
  only_unmaps o = unmaps-kept boot e before o (only_mapped o)

  only_owner : (o : ℕ) → owner boot (e ∷ before) o ≡ owner boot before o
  only_owner o = owner-kept boot e before o (only_maps o)

  only_purge : (o : ℕ) → is_purge o e ≡ false
  only_purge o = rw s.purged refl

  only_state : (o : ℕ) → state (e ∷ before) o ≡ state before o
  only_state o = state-kept e before o (s.map o) (only_purge o) (s.wish o)

  only_empties : (o : ℕ) → empties o before e ≡ false
  only_empties o = rw (s.map o, s.purged, s.wish o) refl

  only_touches : (p : PageId) → touches_from (state before p.obj) p e ≡ false
  only_touches p = touches-off (accepted e) (write_covers p e.call) (read_covers p e.call) (not (is_empty (state before p.obj))) (s.write p) (s.read p)

  only_placed : (p : PageId) → placed boot (e ∷ before) p ≡ placed boot before p
  only_placed p = placed-kept boot e before p (rw (only_empties p.obj, only_unmaps p.obj, only_touches p, s.move p) refl)

  only_touched : (p : PageId) → touched_since boot (e ∷ before) p ≡ touched_since boot before p
  only_touched p = touched_since-kept boot e before p (rw (only_empties p.obj, only_unmaps p.obj, only_touches p, s.move p) refl)

  only_written : (p : PageId) → written (e ∷ before) p ≡ written before p
  only_written p = written-kept e before p (rw (only_empties p.obj, s.write p) refl)

  only_entered : entered (e ∷ before) ≡ entered before
  only_entered = entered-kept e before s.deactivation

  only_standing : (o : ℕ) → standing (e ∷ before) o ≡ standing before o
  only_standing o = standing-kept e before o (rw (s.wish o) refl)

  only_stands_in : (q : Queue) (g o : ℕ) → stands_in boot (e ∷ before) q g o ≡ stands_in boot before q g o
  only_stands_in q g o = stands_in-kept boot e before q g o (volatile-kept boot e before o (only_mapped o) (only_state o)) (only_standing o)

  pub only-counts : (t : ℕ) → counts boot (e ∷ before) t ≡ counts boot before t
  only-counts t = counts-kept boot e before only_placed t only_owner only_state

-- the tables stand for it with other accounts, bands, ages and wishes
pub only-stands : (tables : TableValues) (e : Entry) (before : List Entry) (accounts : List Account) (bands : List (List ℕ)) (ages : Ageing) (wishes : List ℕ) → OnlyTasks e → IsLegal tables.boot (e ∷ before) → Stands tables before → AccountsStand tables.boot (e ∷ before) accounts → BandsStand tables.boot (e ∷ before) wishes bands ages → Stands (record tables { accounts = accounts; bands = bands; ages = ages; wishes = wishes }) (e ∷ before)
only-stands tables e before accounts bands ages wishes o legal s a b =
    let boot = tables.boot in
    record {
      legal = legal;
      pages = kept-pages boot e before _ _ (only_placed boot e before o) (only_touched boot e before o) (only_entered boot e before o) s.pages;
      queues = kept-queues boot e before _ _ (only_stands_in boot e before o) (only_standing boot e before o) (deadlines-kept boot e before o.set o.purged (only_unmaps boot e before o)) (left-kept boot e before (only_placed boot e before o) (only_entered boot e before o)) (counted-kept boot e before (only_placed boot e before o) is_inactive) s.queues;
      objects = kept-objects boot e before _ (only_maps boot e before o) (only_mapped boot e before o) (only_state boot e before o) (only_written boot e before o) s.objects;
      accounts = a;
      bands = b;
    }

-- one account becomes another, and the others stay
pub accounts-set : (boot : System) (e : Entry) (before : List Entry) (accounts : List Account) (t : ℕ) (account : Account) → t < length accounts → IsAccount boot (e ∷ before) t account → ((u : ℕ) (other : Account) → (u ≡ t → ⊥) → IsAccount boot before u other → IsAccount boot (e ∷ before) u other) → AccountsStand boot before accounts → AccountsStand boot (e ∷ before) (set accounts t account)
accounts-set boot e before accounts t account l now others s = record {
  account_count = length-set accounts t account ∙ s.account_count;
  accounts = λ u lu. elim (cases_eq u t) [
    | inl same ↦ subst (λ v. IsAccount boot (e ∷ before) v (account_of (set accounts t account) v)) (sym same) (subst (IsAccount boot (e ∷ before) t) (sym (get_or-set_same accounts t account no_account l)) now)
    | inr differs ↦ subst (IsAccount boot (e ∷ before) u) (sym (get_or-set_other accounts t u account no_account differs)) (others u _ differs (s.accounts u lu))
  ];
}
