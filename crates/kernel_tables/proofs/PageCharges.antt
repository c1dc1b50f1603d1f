-- The accounts of the tasks while pages stand in places: what one page more in another place makes of them.
use Rattle.std.proofs.Common.{◌≡◌, ℕ, zero, suc, ◌+◌, ◌-◌, ◌*◌, ◌<◌, ◌≤◌, List, [], ◌∷◌, length, set, get_or, cond, if◌then◌else◌, Option, Some, None, slice_get, nat_eq, nat_lt, count_by, All, refl, sym, ap, ap₂, ◌∙◌, subst, Bool, true, false, ◌&&◌, ◌||◌, inl, inr, ◌⊎◌, arith, zero-le}
use Rattle.std.specs.Prelude.{sum_by}
use Rattle.std.specs.Option.{option_map_or}
use Rattle.std.specs.List.{range_with_len}
use Rattle.std.proofs.lemmas.Bool.{and_parts, ltb-true, eq-eqb}
use Rattle.std.proofs.lemmas.Bool.Decides.{eqb_tells, nat_tests}
use Rattle.std.proofs.lemmas.List.{length-set, get_or-set_same, get_or-set_other}
use Rattle.std.proofs.lemmas.List.Elements.{All-get_or}
use Rattle.std.proofs.lemmas.List.FromFn.{length-range_with_len}
use Rattle.std.proofs.lemmas.List.Sums.{sum_by-cons, count_by-le-length}
use Rattle.std.proofs.lemmas.Option.{slice_get_within, get_or_from_slice_get}
use Rattle.kern_ids.specs.declared.entries.Entry.{Entry}
use Rattle.kern_ids.specs.declared.ids.PageId.{PageId}
use Rattle.kern_ids.specs.declared.calls.State.{State}
use Rattle.kern_ids.specs.declared.replies.Counts.{Counts}
use Rattle.kernel_model.specs.declared.boot.ObjBoot.{ObjBoot}
use Rattle.kernel_model.specs.declared.place.Place.{Place}
use Rattle.kernel_model.specs.declared.place.Place.TheVariants.{Absent, Active, Inactive, Stored}
use Rattle.kernel_model.specs.declared.place.Placed.{Placed}
use Rattle.kernel_model.specs.System.{System}
use Rattle.kernel_model.specs.Valid.{IsValidBoot, IsValidObject}
use Rattle.kernel_model.specs.Mapping.{live, owner, maps, tasks_of}
use Rattle.kernel_model.specs.State.{state}
use Rattle.kernel_model.specs.Groups.{is_volatile_state}
use Rattle.kernel_model.specs.Pages.{place, placed, pages_of, pages_in, same_page, is_stored}
use Rattle.kernel_model.specs.Counted.{counts, owned_by, is_nonvolatile_state}
use Rattle.kernel_model.specs.Bands.{active, limits, of_task, Limits}
use Rattle.kernel_model.specs.Laws.Frames.{is_page, is_in, bit}
use Rattle.kernel_model.specs.Laws.Order.{Has}
use Rattle.kernel_model.proofs.Laws.Agree.{count_by-agree, count_by-cons}
use Rattle.kernel_model.proofs.Laws.Counting.{count_by-once, count_by-both}
use Rattle.kernel_model.proofs.Laws.Frames.{same_page-is, pages-once, pages-by_objects}
use Rattle.kernel_model.proofs.Laws.Order.{find-has}
use Rattle.kernel_model.proofs.Laws.Queues.{has-range}
use Rattle.kernel_model.proofs.Laws.Untouched.{has-pages}
use Rattle.task_ledger.specs.declared.account.Account.{Account}
use Rattle.task_ledger.specs.Accounts.{account_of, no_account, counts_plus, counts_less, with_counts, AreWithin, AreAtMost, IsSummed}
use Rattle.kernel_tables.specs.Stands.{AccountsStand, IsAccount}
use Rattle.kernel_tables.specs.Moves.{one_page, recounted, recharged}
use Rattle.kernel_tables.proofs.Dropped.{pages_in-small}
use Rattle.kernel_tables.proofs.ObjectCharges.{counted-few, owner-declared}

-- what is counted for a task while pages stand so
abbrev pub tally : System → List Entry → (PageId → Placed) → ℕ → (Place → Bool) → (State → Bool) → ℕ
tally boot past f t k what = count_by (λ p. owned_by boot past t p && k (f p).place && what (state past p.obj)) (pages_of boot)

abbrev pub counts_by : System → List Entry → (PageId → Placed) → ℕ → Counts
counts_by boot past f t = record {
  res_non = tally boot past f t is_in is_nonvolatile_state;
  res_vol = tally boot past f t is_in is_volatile_state;
  com_non = tally boot past f t is_stored is_nonvolatile_state;
  com_vol = tally boot past f t is_stored is_volatile_state;
  footprint = tally boot past f t is_in is_nonvolatile_state + tally boot past f t is_stored is_nonvolatile_state;
}

pub record IsCharged (boot : System) (past : List Entry) (f : PageId → Placed) (t : ℕ) (account : Account) : Type 0 where
  pub live : account.live ≡ live boot past t
  pub counts : account.counts ≡ counts_by boot past f t
  pub active : account.active ≡ active boot past t
  pub when_active : account.when_active ≡ (limits boot past t).when_active
  pub when_inactive : account.when_inactive ≡ (limits boot past t).when_inactive
  pub internal : account.internal ≡ of_task (λ task. task.internal) boot t Bool.false

pub record ChargesHold (boot : System) (past : List Entry) (f : PageId → Placed) (ledgers : List Account) : Type 0 where
  pub account_count : length ledgers ≡ length boot.tasks
  pub accounts : (t : ℕ) → t < length boot.tasks → IsCharged boot past f t (account_of ledgers t)

-- the accounts as they stand over a history
charged-is : (boot : System) (past : List Entry) (t : ℕ) (account : Account) → IsAccount boot past t account → IsCharged boot past (placed boot past) t account
unfolding counts
charged-is boot past t account a = record { live = a.live; counts = a.counts; active = a.active; when_active = a.when_active; when_inactive = a.when_inactive; internal = a.internal }

pub charges-stand : (boot : System) (past : List Entry) (accounts : List Account) → AccountsStand boot past accounts → ChargesHold boot past (placed boot past) accounts
charges-stand boot past accounts s = record { account_count = s.account_count; accounts = λ t l. charged-is boot past t (account_of accounts t) (s.accounts t l) }

-- over an entry more that changes no owner, no state, no life, no activity and no limit
abbrev mk_counts : ℕ → ℕ → ℕ → ℕ → ℕ → Counts
mk_counts a b c d e = record { res_non = a; res_vol = b; com_non = c; com_vol = d; footprint = e }

module _ (boot : System) (e : Entry) (before : List Entry) (owned : (o : ℕ) → owner boot (e ∷ before) o ≡ owner boot before o) (states : (o : ℕ) → state (e ∷ before) o ≡ state before o) where
  tally-later : (f : PageId → Placed) (t : ℕ) (k : Place → Bool) (what : State → Bool) → tally boot before f t k what ≡ tally boot (e ∷ before) f t k what
  tally-later f t k what = count_by-agree (λ p. owned_by boot before t p && k (f p).place && what (state before p.obj)) (λ p. owned_by boot (e ∷ before) t p && k (f p).place && what (state (e ∷ before) p.obj))
      (λ p. ap₂ (λ (o : Option ℕ) s. option_map_or (nat_eq t) o false && k (f p).place && what s) (sym (owned p.obj)) (sym (states p.obj))) (pages_of boot)

  counts-later : (f : PageId → Placed) (t : ℕ) → counts_by boot before f t ≡ counts_by boot (e ∷ before) f t
  counts-later f t =
      ap₂ (λ a c. mk_counts a (tally boot before f t is_in is_volatile_state) c (tally boot before f t is_stored is_volatile_state) (a + c)) (tally-later f t is_in is_nonvolatile_state) (tally-later f t is_stored is_nonvolatile_state)
      ∙ ap₂ (λ b d. mk_counts (tally boot (e ∷ before) f t is_in is_nonvolatile_state) b (tally boot (e ∷ before) f t is_stored is_nonvolatile_state) d (tally boot (e ∷ before) f t is_in is_nonvolatile_state + tally boot (e ∷ before) f t is_stored is_nonvolatile_state)) (tally-later f t is_in is_volatile_state) (tally-later f t is_stored is_volatile_state)

  account-later : (t : ℕ) (account : Account) → live boot (e ∷ before) t ≡ live boot before t → active boot (e ∷ before) t ≡ active boot before t → limits boot (e ∷ before) t ≡ limits boot before t → IsCharged boot before (placed boot (e ∷ before)) t account → IsAccount boot (e ∷ before) t account
  unfolding counts
  account-later t account lives on bound a = record {
    live = a.live ∙ sym lives;
    counts = a.counts ∙ counts-later (placed boot (e ∷ before)) t;
    active = a.active ∙ sym on;
    when_active = a.when_active ∙ sym (ap (λ (x : Limits). x.when_active) bound);
    when_inactive = a.when_inactive ∙ sym (ap (λ (x : Limits). x.when_inactive) bound);
    internal = a.internal;
  }

  pub accounts-later : (accounts : List Account) → ((t : ℕ) → live boot (e ∷ before) t ≡ live boot before t) → ((t : ℕ) → active boot (e ∷ before) t ≡ active boot before t) → ((t : ℕ) → limits boot (e ∷ before) t ≡ limits boot before t) → ChargesHold boot before (placed boot (e ∷ before)) accounts → AccountsStand boot (e ∷ before) accounts
  accounts-later accounts lives on bound h = record { account_count = h.account_count; accounts = λ t l. account-later t (account_of accounts t) (lives t) (on t) (bound t) (h.accounts t l) }

-- the same places are charged the same
pub charges-agree : (boot : System) (past : List Entry) (f f' : PageId → Placed) (accounts : List Account) → ((q : PageId) → f q ≡ f' q) → ChargesHold boot past f accounts → ChargesHold boot past f' accounts
charges-agree boot past f f' accounts same h =
    let by : (t : ℕ) (k : Place → Bool) (what : State → Bool) → tally boot past f t k what ≡ tally boot past f' t k what = λ t k what. count_by-agree (λ q. owned_by boot past t q && k (f q).place && what (state past q.obj)) (λ q. owned_by boot past t q && k (f' q).place && what (state past q.obj)) (λ q. ap (λ (x : Placed). owned_by boot past t q && k x.place && what (state past q.obj)) (same q)) (pages_of boot) in
    let counted : (t : ℕ) → counts_by boot past f t ≡ counts_by boot past f' t = λ t.
    ap₂ (λ a c. mk_counts a (tally boot past f t is_in is_volatile_state) c (tally boot past f t is_stored is_volatile_state) (a + c)) (by t is_in is_nonvolatile_state) (by t is_stored is_nonvolatile_state)
    ∙ ap₂ (λ b d. mk_counts (tally boot past f' t is_in is_nonvolatile_state) b (tally boot past f' t is_stored is_nonvolatile_state) d (tally boot past f' t is_in is_nonvolatile_state + tally boot past f' t is_stored is_nonvolatile_state)) (by t is_in is_volatile_state) (by t is_stored is_volatile_state) in
    record {
      account_count = h.account_count;
      accounts = λ t l. (let a = h.accounts t l in record { live = a.live; counts = a.counts ∙ counted t; active = a.active; when_active = a.when_active; when_inactive = a.when_inactive; internal = a.internal });
    }

-- no page's number passes 255, and no count 65,536
pub page-fits : (boot : System) → IsValidBoot boot → (p : PageId) → Has (pages_of boot) p → p.page < 256
page-fits boot v p m =
    let is = and_parts (nat_lt p.obj (length boot.objects)) (nat_lt p.page (pages_in boot p.obj)) (has-pages boot p m) in
    let few : pages_in boot p.obj ≤ 256 = pages_in-small boot v p.obj in
    let below : p.page < pages_in boot p.obj = ltb-true p.page (pages_in boot p.obj) is.1 in
    omega arith

bit_apart : (a w : Bool) (x : Place) → bit ((a && is_in x && w) || (a && is_stored x && w)) ≡ bit (a && is_in x && w) + bit (a && is_stored x && w)
bit_apart false w x = omega arith
bit_apart true w Absent = omega arith
bit_apart true true Active = omega arith
bit_apart true false Active = omega arith
bit_apart true true Inactive = omega arith
bit_apart true false Inactive = omega arith
bit_apart true true Stored = omega arith
bit_apart true false Stored = omega arith

pub counts-within : (boot : System) (past : List Entry) (f : PageId → Placed) (t : ℕ) → IsValidBoot boot → AreWithin (counts_by boot past f t)
counts-within boot past f t v =
    let inside : PageId → Bool = λ p. owned_by boot past t p && is_in (f p).place && is_nonvolatile_state (state past p.obj) in
    let outside : PageId → Bool = λ p. owned_by boot past t p && is_stored (f p).place && is_nonvolatile_state (state past p.obj) in
    let sum : count_by (λ p. inside p || outside p) (pages_of boot) ≡ count_by inside (pages_of boot) + count_by outside (pages_of boot) = count_by-both (λ p. inside p || outside p) inside outside (λ p. bit_apart (owned_by boot past t p) (is_nonvolatile_state (state past p.obj)) (f p).place) (pages_of boot) in
    let few : count_by (λ p. inside p || outside p) (pages_of boot) ≤ 65536 = counted-few boot past (λ p. inside p || outside p) v in
    record {
      res_non = counted-few boot past inside v;
      res_vol = counted-few boot past (λ p. owned_by boot past t p && is_in (f p).place && is_volatile_state (state past p.obj)) v;
      com_non = counted-few boot past outside v;
      com_vol = counted-few boot past (λ p. owned_by boot past t p && is_stored (f p).place && is_volatile_state (state past p.obj)) v;
      footprint = omega arith;
    }

-- what one page adds is in the count
pub has-counted : {A : Type 0} (f : A → Bool) (xs : List A) (x : A) → Has xs x → bit (f x) ≤ count_by f xs
has-counted f [] x h = absurd h
has-counted f (y ∷ ys) x (inl e) = let c : count_by f (y ∷ ys) ≡ bit (f y) + count_by f ys = count_by-cons f y ys in let s : bit (f y) ≡ bit (f x) = ap (λ z. bit (f z)) e in omega arith
has-counted f (y ∷ ys) x (inr m) = let c : count_by f (y ∷ ys) ≡ bit (f y) + count_by f ys = count_by-cons f y ys in let r : bit (f x) ≤ count_by f ys = has-counted f ys x m in omega arith

owned_bit : (a b c : Bool) → a ≡ true → bit (a && b && c) ≡ bit (b && c)
owned_bit a b c h = ap (λ x. bit (x && b && c)) h

other_bit : (a b c : Bool) → a ≡ false → bit (a && b && c) ≡ 0
other_bit a b c h = ap (λ x. bit (x && b && c)) h

-- counts less those of a page in one place, and with those of it in another
less_more : (n b b' n' : ℕ) → n' + b ≡ n + b' → b ≤ n → n - b + b' ≡ n'
less_more n b b' n' h l = omega arith

both_more : (m n a b a' b' m' n' : ℕ) → m' + a ≡ m + a' → n' + b ≡ n + b' → a ≤ m → b ≤ n → (m + n) - (a + b) + (a' + b') ≡ m' + n'
both_more m n a b a' b' m' n' h k l o = omega arith

moved_counts : (rn rv cn cv brn brv bcn bcv xrn xrv xcn xcv rn' rv' cn' cv' : ℕ) → rn' + brn ≡ rn + xrn → rv' + brv ≡ rv + xrv → cn' + bcn ≡ cn + xcn → cv' + bcv ≡ cv + xcv → brn ≤ rn → brv ≤ rv → bcn ≤ cn → bcv ≤ cv
    → counts_plus (counts_less (mk_counts rn rv cn cv (rn + cn)) (mk_counts brn brv bcn bcv (brn + bcn))) (mk_counts xrn xrv xcn xcv (xrn + xcn)) ≡ mk_counts rn' rv' cn' cv' (rn' + cn')
moved_counts rn rv cn cv brn brv bcn bcv xrn xrv xcn xcv rn' rv' cn' cv' h1 h2 h3 h4 l1 l2 l3 l4 =
    ap₂ (λ a b. mk_counts a b (cn - bcn + xcn) (cv - bcv + xcv) ((rn + cn) - (brn + bcn) + (xrn + xcn))) (less_more rn brn xrn rn' h1 l1) (less_more rv brv xrv rv' h2 l2)
    ∙ ap₂ (λ a b. mk_counts rn' rv' a b ((rn + cn) - (brn + bcn) + (xrn + xcn))) (less_more cn bcn xcn cn' h3 l3) (less_more cv bcv xcv cv' h4 l4)
    ∙ ap (mk_counts rn' rv' cn' cv') (both_more rn cn brn bcn xrn xcn rn' cn' h1 h3 l1 l3)

-- One page goes to another place.
module _ (boot : System) (past : List Entry) (f f' : PageId → Placed) (p : PageId) (w : Has (pages_of boot) p) (other : (q : PageId) → same_page p q ≡ false → f' q ≡ f q) where
  tally-page : (t : ℕ) (k : Place → Bool) (what : State → Bool) → tally boot past f' t k what + bit (owned_by boot past t p && k (f p).place && what (state past p.obj)) ≡ tally boot past f t k what + bit (owned_by boot past t p && k (f' p).place && what (state past p.obj))
  tally-page t k what = count_by-once (same_page p) p (λ q. owned_by boot past t q && k (f' q).place && what (state past q.obj)) (λ q. owned_by boot past t q && k (f q).place && what (state past q.obj)) (λ q s. same_page-is p q s)
      (λ q off. ap (λ (x : Placed). owned_by boot past t q && k x.place && what (state past q.obj)) (other q off)) (pages_of boot) (pages-once boot p (has-pages boot p w))

  tally-owner : (t : ℕ) (k : Place → Bool) (what : State → Bool) → owned_by boot past t p ≡ true → (tally boot past f' t k what + bit (k (f p).place && what (state past p.obj)) ≡ tally boot past f t k what + bit (k (f' p).place && what (state past p.obj))) × (bit (k (f p).place && what (state past p.obj)) ≤ tally boot past f t k what)
  tally-owner t k what owns =
      let a : bit (owned_by boot past t p && k (f p).place && what (state past p.obj)) ≡ bit (k (f p).place && what (state past p.obj)) = owned_bit (owned_by boot past t p) (k (f p).place) (what (state past p.obj)) owns in
      let b : bit (owned_by boot past t p && k (f' p).place && what (state past p.obj)) ≡ bit (k (f' p).place && what (state past p.obj)) = owned_bit (owned_by boot past t p) (k (f' p).place) (what (state past p.obj)) owns in
      let c = tally-page t k what in
      let d = has-counted (λ q. owned_by boot past t q && k (f q).place && what (state past q.obj)) (pages_of boot) p w in
      (omega arith, omega arith)

  tally-other : (t : ℕ) (k : Place → Bool) (what : State → Bool) → owned_by boot past t p ≡ false → tally boot past f t k what ≡ tally boot past f' t k what
  tally-other t k what not =
      let a : bit (owned_by boot past t p && k (f p).place && what (state past p.obj)) ≡ 0 = other_bit (owned_by boot past t p) (k (f p).place) (what (state past p.obj)) not in
      let b : bit (owned_by boot past t p && k (f' p).place && what (state past p.obj)) ≡ 0 = other_bit (owned_by boot past t p) (k (f' p).place) (what (state past p.obj)) not in
      let c = tally-page t k what in
      omega arith

  counts-other : (t : ℕ) → owned_by boot past t p ≡ false → counts_by boot past f t ≡ counts_by boot past f' t
  counts-other t not =
      ap₂ (λ a c. mk_counts a (tally boot past f t is_in is_volatile_state) c (tally boot past f t is_stored is_volatile_state) (a + c)) (tally-other t is_in is_nonvolatile_state not) (tally-other t is_stored is_nonvolatile_state not)
      ∙ ap₂ (λ b d. mk_counts (tally boot past f' t is_in is_nonvolatile_state) b (tally boot past f' t is_stored is_nonvolatile_state) d (tally boot past f' t is_in is_nonvolatile_state + tally boot past f' t is_stored is_nonvolatile_state)) (tally-other t is_in is_volatile_state not) (tally-other t is_stored is_volatile_state not)

  counts-owner : (t : ℕ) → owned_by boot past t p ≡ true → recounted (state past p.obj) (f p).place (f' p).place (counts_by boot past f t) ≡ counts_by boot past f' t
  counts-owner t owns =
      let n = λ (k : Place → Bool) (what : State → Bool). tally boot past f t k what in
      let n' = λ (k : Place → Bool) (what : State → Bool). tally boot past f' t k what in
      let b = λ (k : Place → Bool) (what : State → Bool). bit (k (f p).place && what (state past p.obj)) in
      let b' = λ (k : Place → Bool) (what : State → Bool). bit (k (f' p).place && what (state past p.obj)) in
      let rn = tally-owner t is_in is_nonvolatile_state owns in
      let rv = tally-owner t is_in is_volatile_state owns in
      let cn = tally-owner t is_stored is_nonvolatile_state owns in
      let cv = tally-owner t is_stored is_volatile_state owns in
      moved_counts (n is_in is_nonvolatile_state) (n is_in is_volatile_state) (n is_stored is_nonvolatile_state) (n is_stored is_volatile_state)
      (b is_in is_nonvolatile_state) (b is_in is_volatile_state) (b is_stored is_nonvolatile_state) (b is_stored is_volatile_state)
      (b' is_in is_nonvolatile_state) (b' is_in is_volatile_state) (b' is_stored is_nonvolatile_state) (b' is_stored is_volatile_state)
      (n' is_in is_nonvolatile_state) (n' is_in is_volatile_state) (n' is_stored is_nonvolatile_state) (n' is_stored is_volatile_state)
      rn.0 rv.0 cn.0 cv.0 rn.1 rv.1 cn.1 cv.1

  -- the page is in the account of its owner, and its account is still within bounds
  pub charged-page : (t : ℕ) (account : Account) → owner boot past p.obj ≡ Some t → IsCharged boot past f t account → AreAtMost (one_page (state past p.obj) (f p).place) account.counts
  charged-page t account is a =
      let owns : owned_by boot past t p ≡ true = ap (λ (o : Option ℕ). option_map_or (nat_eq t) o false) is ∙ eq-eqb t t refl in
      let rn = tally-owner t is_in is_nonvolatile_state owns in
      let cn = tally-owner t is_stored is_nonvolatile_state owns in
      subst (AreAtMost (one_page (state past p.obj) (f p).place)) (sym a.counts) (record {
        res_non = rn.1;
        res_vol = (tally-owner t is_in is_volatile_state owns).1;
        com_non = cn.1;
        com_vol = (tally-owner t is_stored is_volatile_state owns).1;
        footprint = (let x = rn.1 in let y = cn.1 in omega arith);
      })

  charged-owner : (t : ℕ) (account : Account) → owner boot past p.obj ≡ Some t → IsCharged boot past f t account → recounted (state past p.obj) (f p).place (f' p).place account.counts ≡ counts_by boot past f' t
  charged-owner t account is a =
      let owns : owned_by boot past t p ≡ true = ap (λ (o : Option ℕ). option_map_or (nat_eq t) o false) is ∙ eq-eqb t t refl in
      ap (recounted (state past p.obj) (f p).place (f' p).place) a.counts ∙ counts-owner t owns

  pub recharged-room : (t : ℕ) (account : Account) → IsValidBoot boot → owner boot past p.obj ≡ Some t → IsCharged boot past f t account → AreWithin (recounted (state past p.obj) (f p).place (f' p).place account.counts)
  recharged-room t account v is a = subst AreWithin (sym (charged-owner t account is a)) (counts-within boot past f' t v)

  -- a task that doesn't own the page is charged as before
  charged-other : (t : ℕ) (account : Account) → owned_by boot past t p ≡ false → IsCharged boot past f t account → IsCharged boot past f' t account
  charged-other t account not a = record { live = a.live; counts = a.counts ∙ counts-other t not; active = a.active; when_active = a.when_active; when_inactive = a.when_inactive; internal = a.internal }

  recharge-some : (u : ℕ) (accounts : List Account) → owner boot past p.obj ≡ Some u → ChargesHold boot past f accounts → ChargesHold boot past f' (recharged (Some u) (state past p.obj) (f p).place (f' p).place accounts)
  recharge-some u accounts is h =
      let now : Account = record (account_of accounts u) { counts = recounted (state past p.obj) (f p).place (f' p).place (account_of accounts u).counts } in
      let here : u < length boot.tasks = owner-declared boot past p.obj u is in
      let inside : u < length accounts = (let c = h.account_count in omega arith) in
      let was = h.accounts u here in
      record {
        account_count = length-set accounts u now ∙ h.account_count;
        accounts = λ t l. elim (eqb_tells t u) [
          | inl same ↦
              subst (λ v. IsCharged boot past f' v (account_of (set accounts u now) v)) (sym same.1)
              (subst (IsCharged boot past f' u) (sym (get_or-set_same accounts u now no_account inside))
              (record { live = was.live; counts = charged-owner u (account_of accounts u) is was; active = was.active; when_active = was.when_active; when_inactive = was.when_inactive; internal = was.internal }))
          | inr apart ↦
              subst (IsCharged boot past f' t) (sym (get_or-set_other accounts u t now no_account apart.1))
              (charged-other t (account_of accounts t) (ap (λ (o : Option ℕ). option_map_or (nat_eq t) o false) is ∙ apart.0) (h.accounts t l))
        ];
      }

  recharge-by : (o : Option ℕ) (accounts : List Account) → owner boot past p.obj ≡ o → ChargesHold boot past f accounts → ChargesHold boot past f' (recharged o (state past p.obj) (f p).place (f' p).place accounts)
  recharge-by (Some u) accounts is h = recharge-some u accounts is h
  recharge-by None accounts is h = record { account_count = h.account_count; accounts = λ t l. charged-other t (account_of accounts t) (ap (λ (o : Option ℕ). option_map_or (nat_eq t) o false) is) (h.accounts t l) }

  pub recharge-holds : (accounts : List Account) → ChargesHold boot past f accounts → ChargesHold boot past f' (recharged (owner boot past p.obj) (state past p.obj) (f p).place (f' p).place accounts)
  recharge-holds accounts h = recharge-by (owner boot past p.obj) accounts refl h
