-- One page goes to another place: the account of its object's owner, by the table of objects.
use Rattle.std.proofs.Common.{◌≡◌, ℕ, ◌<◌, List, length, Option, Some, None, nat_lt, refl, sym, ap, ap₂, ◌∙◌, subst, Bool, true, false, ◌&&◌, arith}
use Rattle.std.proofs.lemmas.Bool.{false≢true, and_parts, ltb-true}
use Rattle.kern_ids.specs.declared.entries.Entry.{Entry}
use Rattle.kern_ids.specs.declared.ids.PageId.{PageId}
use Rattle.kernel_model.specs.declared.place.Place.{Place}
use Rattle.kernel_model.specs.declared.place.Placed.{Placed}
use Rattle.kernel_model.specs.System.{System}
use Rattle.kernel_model.specs.Valid.{IsValidBoot}
use Rattle.kernel_model.specs.Mapping.{owner, mapped, maps, tasks_of}
use Rattle.kernel_model.specs.State.{state}
use Rattle.kernel_model.specs.Pages.{pages_of, pages_in, same_page}
use Rattle.kernel_model.specs.Laws.Order.{Has}
use Rattle.kernel_model.proofs.Laws.Order.{any-has, find-has}
use Rattle.kernel_model.proofs.Laws.Untouched.{has-pages}
use Rattle.task_ledger.specs.declared.account.Account.{Account}
use Rattle.vm_object.specs.Objects.{Object, object_at, owner as owner_in}
use Rattle.kernel_tables.specs.Stands.{ObjectsStand}
use Rattle.kernel_tables.specs.Moves.{recharged, IsChargeable}
use Rattle.kernel_tables.proofs.PageCharges.{ChargesHold, charged-page, recharged-room, recharge-holds}
use Rattle.kernel_tables.proofs.ObjectCharges.{owner-declared}
use Rattle.kernel_tables.proofs.Objects.{owner-stands}

-- the owner of an object and its state, by the table
module _ (boot : System) (past : List Entry) (objects : List Object) (o : ℕ) (valid : IsValidBoot boot) (s : ObjectsStand boot past objects) (declared : o < length boot.objects) where
  -- an object that has an owner is mapped
  pub owned-mapped : (t : ℕ) → owner boot past o ≡ Some t → mapped boot past o ≡ true
  unfolding owner mapped
  owned-mapped t h = let q = find-has (maps boot past o) (tasks_of boot) t h in any-has (maps boot past o) (tasks_of boot) t q.0 q.1

  recharged_by : (w : Option ℕ) (x y : Place) (accounts : List Account) → owner boot past o ≡ w → recharged w (object_at objects o).state x y accounts ≡ recharged w (state past o) x y accounts
  recharged_by None x y accounts h = refl
  recharged_by (Some t) x y accounts h = ap (λ s. recharged (Some t) s x y accounts) (s.states o declared (owned-mapped t h))

  -- so the table tells whom a page of it is charged to
  pub recharged-is : (x y : Place) (accounts : List Account) → recharged (owner_in objects o) (object_at objects o).state x y accounts ≡ recharged (owner boot past o) (state past o) x y accounts
  recharged-is x y accounts = ap (λ w. recharged w (object_at objects o).state x y accounts) (owner-stands boot past objects valid s.mappers o declared) ∙ recharged_by (owner boot past o) x y accounts refl

pub page-object : (boot : System) (p : PageId) → Has (pages_of boot) p → p.obj < length boot.objects
page-object boot p m = ltb-true p.obj (length boot.objects) (and_parts (nat_lt p.obj (length boot.objects)) (nat_lt p.page (pages_in boot p.obj)) (has-pages boot p m)).0

pub page-inside : (boot : System) (p : PageId) → Has (pages_of boot) p → p.page < pages_in boot p.obj
page-inside boot p m = ltb-true p.page (pages_in boot p.obj) (and_parts (nat_lt p.obj (length boot.objects)) (nat_lt p.page (pages_in boot p.obj)) (has-pages boot p m)).1

module _ (boot : System) (past : List Entry) (objects : List Object) (accounts : List Account) (f f' : PageId → Placed) (p : PageId) (valid : IsValidBoot boot) (s : ObjectsStand boot past objects) (w : Has (pages_of boot) p) (other : (q : PageId) → same_page p q ≡ false → f' q ≡ f q) (h : ChargesHold boot past f accounts) where
  pub recharge-can : (t : ℕ) → owner_in objects p.obj ≡ Some t → IsChargeable (object_at objects p.obj).state (f p).place (f' p).place accounts t
  recharge-can t found =
      let here = page-object boot p w in
      let owns : owner boot past p.obj ≡ Some t = sym (owner-stands boot past objects valid s.mappers p.obj here) ∙ found in
      let below : t < length boot.tasks = owner-declared boot past p.obj t owns in
      let inside : t < length accounts = (let c = h.account_count in omega arith) in
      let now : (object_at objects p.obj).state ≡ state past p.obj = s.states p.obj here (owned-mapped boot past objects p.obj valid s here t owns) in
      subst (λ x. IsChargeable x (f p).place (f' p).place accounts t) (sym now) (record {
        task = inside;
        charged = charged-page boot past f f' p w other t _ owns (h.accounts t below);
        room = recharged-room boot past f f' p w other t _ valid owns (h.accounts t below);
      })

  pub recharge-does : ChargesHold boot past f' (recharged (owner_in objects p.obj) (object_at objects p.obj).state (f p).place (f' p).place accounts)
  recharge-does =
      subst (ChargesHold boot past f') (sym (recharged-is boot past objects p.obj valid s (page-object boot p w) (f p).place (f' p).place accounts))
      (recharge-holds boot past f f' p w other accounts h)
