-- What an object counts for its owner: by the queues of the pages and by the definitions, and what an entry that changes one object
-- makes of the counts and of the accounts.
use Rattle.std.proofs.Common.{◌≡◌, ℕ, ◌+◌, ◌-◌, ◌<◌, ◌≤◌, List, [], ◌∷◌, length, map, filter, Option, Some, None, refl, sym, ap, ap₂, ◌∙◌, subst, Bool, true, false, ◌&&◌, ◌||◌, ◌*◌, suc, if◌then◌else◌, inl, inr, arith, nat_eq, zero-le, slice_get}
use Rattle.std.specs.Prelude.{count_by, sum_by}
use Rattle.std.specs.List.{range_with_len}
use Rattle.std.specs.Option.{option_map_or}
use Rattle.std.proofs.lemmas.Bool.{cases_Bool}
use Rattle.std.proofs.lemmas.Bool.Decides.{nat_tests, eqb_tells}
use Rattle.std.proofs.lemmas.List.{length-map, length-set, get_or-set_same, get_or-set_other}
use Rattle.std.proofs.lemmas.List.Elements.{All-get_or}
use Rattle.std.proofs.lemmas.List.FromFn.{length-range_with_len}
use Rattle.std.proofs.lemmas.List.Sums.{count_by-le-length, sum_by-cons}
use Rattle.std.proofs.lemmas.Option.{slice_get_within, get_or_from_slice_get}
use Rattle.kern_ids.specs.declared.entries.Entry.{Entry}
use Rattle.kern_ids.specs.declared.ids.PageId.{PageId}
use Rattle.kern_ids.specs.declared.calls.State.{State}
use Rattle.kern_ids.specs.declared.calls.State.TheVariants.{Nonvolatile, Volatile, Empty}
use Rattle.kern_ids.specs.declared.replies.Counts.{Counts}
use Rattle.kernel_model.specs.declared.boot.ObjBoot.{ObjBoot}
use Rattle.kernel_model.specs.declared.place.Place.{Place}
use Rattle.kernel_model.specs.declared.place.Place.TheVariants.{Absent, Active, Inactive, Stored}
use Rattle.kernel_model.specs.System.{System}
use Rattle.kernel_model.specs.Valid.{IsValidBoot, IsValidObject}
use Rattle.kernel_model.specs.Mapping.{live, maps, mapped, owner, tasks_of}
use Rattle.kernel_model.specs.State.{state}
use Rattle.kernel_model.specs.Groups.{is_volatile_state}
use Rattle.kernel_model.specs.Pages.{place, stamp, pages_of, pages_in, is_active, is_inactive, is_stored}
use Rattle.kernel_model.specs.Counted.{counts, count_of, owned_by, is_nonvolatile_state}
use Rattle.kernel_model.specs.Bands.{active, limits, Limits}
use Rattle.kernel_model.specs.Scan.{stamp_lt}
use Rattle.kernel_model.specs.Laws.Frames.{bit, is_in, pages_at, share_of}
use Rattle.kernel_model.specs.Laws.Order.{Has, Keeps}
use Rattle.kernel_model.specs.Laws.Queues.{KeepsPages}
use Rattle.kernel_model.proofs.Laws.Counting.{count_by-both, count_by-weaker, count_by-and, sum_by-agree, sum_by-once, sum_by-none}
use Rattle.kernel_model.proofs.Laws.Frames.{pages-by_objects, pages_at-absent, count_of-by_objects, count_of-object, share_of-kept, counts-res_non, counts-res_vol, counts-com_non, counts-com_vol, counts-footprint}
use Rattle.kernel_model.proofs.Laws.Order.{keeps-filter, find-has}
use Rattle.kernel_model.proofs.Laws.Queues.{range-has, has-range}
use Rattle.page_queues.specs.Pages.{Pages, page_of, active as active_keys, inactive as inactive_keys, stored as stored_keys}
use Rattle.page_queues.specs.Tallies.{is_of, count_of as count_in}
use Rattle.task_ledger.specs.declared.account.Account.{Account}
use Rattle.task_ledger.specs.Accounts.{account_of, with_counts, counts_plus, counts_less, no_pages, AreAtMost, AreWithin, IsSummed}
use Rattle.kernel_tables.specs.Charges.{charge, charge_of, framed_of, stored_of, is_owner, owed, relieved, burdened}
use Rattle.vm_object.specs.Objects.{object_at, owner as owner_in}
use Rattle.kernel_tables.specs.Values.{TableValues}
use Rattle.kernel_tables.specs.Stands.{Stands, PagesStand, AccountsStand, IsAccount}
use Rattle.kernel_tables.proofs.Objects.{owner-stands}
use Rattle.kernel_tables.proofs.Counting.{keeps-count, pages-distinct, pair_lt-itself}

-- the pages of an object in a place, by the list of the place
filter-mapped : {A B : Type 0} (f : A → B) (p : B → Bool) (xs : List A) → filter p (map f xs) ≡ map f (filter (λ x. p (f x)) xs)
filter-mapped f p [] = refl
filter-mapped f p (x ∷ xs) = elim (cases_Bool (p (f x))) [
  | inl holds ↦ rw holds (ap (λ ys. f x ∷ ys) (filter-mapped f p xs))
  | inr fails ↦ rw fails (filter-mapped f p xs)
]

object_part : (b : Bool) (n : ℕ) → b ≡ false → (if b then n else 0) ≡ 0
object_part true n h = absurd (Rattle.std.proofs.lemmas.Bool.true≢false h)
object_part false n h = refl

-- of all pages those of one object
pub pages-of_object : (boot : System) (past : List Entry) (k : Place → Bool) (o : ℕ) → o < length boot.objects → count_by (λ p. nat_eq p.obj o && k (place boot past p)) (pages_of boot) ≡ pages_at boot past k o
pages-of_object boot past k o l =
    let here : ℕ → ℕ = λ x. if nat_eq x o then pages_at boot past k x else 0 in
    let parts : count_by (λ p. nat_eq p.obj o && k (place boot past p)) (pages_of boot) ≡ sum_by here (range_with_len 0 (length boot.objects)) =
    pages-by_objects boot (λ p. nat_eq p.obj o && k (place boot past p))
    ∙ sum_by-agree (λ x. count_by (λ n. nat_eq x o && k (place boot past (record { obj = x; page = n }))) (range_with_len 0 (pages_in boot x))) here (λ x. count_by-and (nat_eq x o) (λ n. k (place boot past (record { obj = x; page = n }))) (range_with_len 0 (pages_in boot x))) (range_with_len 0 (length boot.objects)) in
    let apart : (x : ℕ) → nat_eq o x ≡ false → here x ≡ 0 = λ x h. object_part (nat_eq x o) (pages_at boot past k x) (grind (arith, nat_tests)) in
    let below : o < 0 + length boot.objects = omega arith in
    let one : sum_by here (range_with_len 0 (length boot.objects)) + 0 ≡ sum_by (λ x. 0) (range_with_len 0 (length boot.objects)) + here o = sum_by-once here (λ x. 0) o apart 0 (length boot.objects) zero-le below in
    let zeros : sum_by (λ x. 0) (range_with_len 0 (length boot.objects)) ≡ 0 = sum_by-none (range_with_len 0 (length boot.objects)) in
    let same : nat_eq o o ≡ true = grind (arith, nat_tests) in
    let is : here o ≡ pages_at boot past k o = ap (λ b. if b then pages_at boot past k o else 0) same in
    omega arith

pub object-count : (boot : System) (past : List Entry) (k : Place → Bool) (keys : List ℕ) (o : ℕ) → o < length boot.objects → KeepsPages boot past k (map page_of keys) → count_in o keys ≡ pages_at boot past k o
unfolding stamp_lt
object-count boot past k keys o l keeps =
    let mine : PageId → Bool = λ p. nat_eq p.obj o in
    let test : PageId → Bool = λ p. mine p && k (place boot past p) in
    let of_object : Keeps (pages_of boot) test (stamp_lt boot past) (filter mine (map page_of keys)) = keeps-filter (pages_of boot) (λ p. k (place boot past p)) test (stamp_lt boot past) (stamp_lt boot past) mine (map page_of keys) (λ p. refl) (λ x y hx hy. refl) keeps in
    sym (length-map (filter (is_of o) keys) page_of) ∙ sym (ap length (filter-mapped page_of mine keys))
    ∙ sym (keeps-count (pages_of boot) test (stamp_lt boot past) (filter mine (map page_of keys)) (pages-distinct boot) (λ p. pair_lt-itself (stamp boot past p)) of_object)
    ∙ pages-of_object boot past k o l

in_parts : (x : Place) → bit (is_in x) ≡ bit (is_active x) + bit (is_inactive x)
in_parts Absent = omega arith
in_parts Active = omega arith
in_parts Inactive = omega arith
in_parts Stored = omega arith

module _ (boot : System) (past : List Entry) (pages : Pages) (n o : ℕ) (l : o < length boot.objects) (s : PagesStand boot past pages n) where
  pub framed-stands : framed_of pages o ≡ pages_at boot past is_in o
  framed-stands =
      ap₂ (λ (a b : ℕ). a + b) (object-count boot past is_active (active_keys pages) o l s.active_order) (object-count boot past is_inactive (inactive_keys pages) o l s.inactive_order)
      ∙ sym (count_by-both (λ k. is_in (place boot past (record { obj = o; page = k }))) (λ k. is_active (place boot past (record { obj = o; page = k }))) (λ k. is_inactive (place boot past (record { obj = o; page = k }))) (λ k. in_parts (place boot past (record { obj = o; page = k }))) (range_with_len 0 (pages_in boot o)))

  pub stored-stands : stored_of pages o ≡ pages_at boot past is_stored o
  stored-stands = object-count boot past is_stored (stored_keys pages) o l s.stored_order

  -- so the charge by the tables is that by the definitions
  pub charge-stands : charge (state past o) (framed_of pages o) (stored_of pages o) ≡ charge_of boot past o
  charge-stands = ap₂ (charge (state past o)) framed-stands stored-stands

-- an object has 256 pages at most
size_of : (o : Option ObjBoot) → ((x : ObjBoot) → o ≡ Some x → x.pages ≤ 256) → option_map_or (λ (x : ObjBoot). x.pages) o 0 ≤ 256
size_of (Some x) h = h x refl
size_of None h = zero-le

pub object-few : (boot : System) (past : List Entry) (k : Place → Bool) (o : ℕ) → IsValidBoot boot → pages_at boot past k o ≤ 256
object-few boot past k o v =
    let most : pages_at boot past k o ≤ length (range_with_len 0 (pages_in boot o)) = count_by-le-length (λ n. k (place boot past (record { obj = o; page = n }))) (range_with_len 0 (pages_in boot o)) in
    let n : length (range_with_len 0 (pages_in boot o)) ≡ pages_in boot o = length-range_with_len 0 (pages_in boot o) in
    let small : pages_in boot o ≤ 256 = size_of (slice_get boot.objects o) (λ x h. (subst (IsValidObject (length boot.tasks)) (get_or_from_slice_get boot.objects o x x h) (All-get_or (IsValidObject (length boot.tasks)) boot.objects o x (slice_get_within boot.objects o x h) v.objects)).pages) in
    omega arith

-- a charge has its footprint
pub charge-summed : (s : State) (n m : ℕ) → IsSummed (charge s n m)
charge-summed Nonvolatile n m = refl
charge-summed Volatile n m = refl
charge-summed Empty n m = refl

-- what an object adds to the pages of a task is a part of what it is owed
share_owed : (b w : Bool) (n : ℕ) → (if b && w then n else 0) ≡ (if b then (if w then n else 0) else 0)
share_owed true w n = refl
share_owed false w n = refl

owed_part : (f : Counts → ℕ) → f no_pages ≡ 0 → (b : Bool) (c : Counts) → (if b then f c else 0) ≡ f (if b then c else no_pages)
owed_part f z true c = refl
owed_part f z false c = sym z

module _ (boot : System) (past : List Entry) (t o : ℕ) where
  abbrev mine : Counts
  mine = owed (owner boot past o) (charge_of boot past o) t

  share-res_non : share_of boot past t is_in is_nonvolatile_state o ≡ mine.res_non
  share-res_non = share_owed (is_owner (owner boot past o) t) (is_nonvolatile_state (state past o)) (pages_at boot past is_in o) ∙ owed_part (λ (c : Counts). c.res_non) refl (is_owner (owner boot past o) t) (charge_of boot past o)

  share-res_vol : share_of boot past t is_in is_volatile_state o ≡ mine.res_vol
  share-res_vol = share_owed (is_owner (owner boot past o) t) (is_volatile_state (state past o)) (pages_at boot past is_in o) ∙ owed_part (λ (c : Counts). c.res_vol) refl (is_owner (owner boot past o) t) (charge_of boot past o)

  share-com_non : share_of boot past t is_stored is_nonvolatile_state o ≡ mine.com_non
  share-com_non = share_owed (is_owner (owner boot past o) t) (is_nonvolatile_state (state past o)) (pages_at boot past is_stored o) ∙ owed_part (λ (c : Counts). c.com_non) refl (is_owner (owner boot past o) t) (charge_of boot past o)

  share-com_vol : share_of boot past t is_stored is_volatile_state o ≡ mine.com_vol
  share-com_vol = share_owed (is_owner (owner boot past o) t) (is_volatile_state (state past o)) (pages_at boot past is_stored o) ∙ owed_part (λ (c : Counts). c.com_vol) refl (is_owner (owner boot past o) t) (charge_of boot past o)

  owed_summed : mine.footprint ≡ mine.res_non + mine.com_non
  owed_summed = elim (is_owner (owner boot past o) t) as (λ b. IsSummed (if b then charge_of boot past o else no_pages)) [ true ↦ charge-summed (state past o) (pages_at boot past is_in o) (pages_at boot past is_stored o) | false ↦ refl ]

-- what is owed is in the counts
sum-has : (f : ℕ → ℕ) (xs : List ℕ) (x : ℕ) → Has xs x → f x ≤ sum_by f xs
sum-has f [] x h = absurd h
sum-has f (y ∷ ys) x (inl e) = let c : sum_by f (y ∷ ys) ≡ f y + sum_by f ys = sum_by-cons f y ys in let same : f y ≡ f x = ap f e in omega arith
sum-has f (y ∷ ys) x (inr m) = let c : sum_by f (y ∷ ys) ≡ f y + sum_by f ys = sum_by-cons f y ys in let r : f x ≤ sum_by f ys = sum-has f ys x m in omega arith

share_counted : (boot : System) (past : List Entry) (t : ℕ) (k : Place → Bool) (what : State → Bool) (o : ℕ) → o < length boot.objects → share_of boot past t k what o ≤ count_of boot past t (λ p. k (place boot past p)) what
share_counted boot past t k what o l =
    let below : o < 0 + length boot.objects = omega arith in
    let parts : count_of boot past t (λ p. k (place boot past p)) what ≡ sum_by (share_of boot past t k what) (range_with_len 0 (length boot.objects)) = count_of-by_objects boot past t k what in
    let part : share_of boot past t k what o ≤ sum_by (share_of boot past t k what) (range_with_len 0 (length boot.objects)) = sum-has (share_of boot past t k what) (range_with_len 0 (length boot.objects)) o (range-has 0 (length boot.objects) o zero-le below) in
    omega arith

-- counts by their parts
abbrev mk : ℕ → ℕ → ℕ → ℕ → ℕ → Counts
mk a b c d e = record { res_non = a; res_vol = b; com_non = c; com_vol = d; footprint = e }

same_counts : (c d : Counts) → c.res_non ≡ d.res_non → c.res_vol ≡ d.res_vol → c.com_non ≡ d.com_non → c.com_vol ≡ d.com_vol → c.footprint ≡ d.footprint → c ≡ d
same_counts c d rn rv cn cv f =
    ap₂ (λ x y. mk x y c.com_non c.com_vol c.footprint) rn rv
    ∙ ap₂ (λ x y. mk d.res_non d.res_vol x y c.footprint) cn cv
    ∙ ap (mk d.res_non d.res_vol d.com_non d.com_vol) f

at_most : (c d : Counts) → IsSummed c → IsSummed d → c.res_non ≤ d.res_non → c.res_vol ≤ d.res_vol → c.com_non ≤ d.com_non → c.com_vol ≤ d.com_vol → AreAtMost c d
at_most c d s t rn rv cn cv = record { res_non = rn; res_vol = rv; com_non = cn; com_vol = cv; footprint = omega (arith, s, t, rn, cn) }

le_by : (a b c d : ℕ) → a ≡ b → c ≡ d → a ≤ d → b ≤ c
le_by a b c d h k l = omega arith

pub owed-counted : (boot : System) (past : List Entry) (t o : ℕ) → o < length boot.objects → AreAtMost (owed (owner boot past o) (charge_of boot past o) t) (counts boot past t)
owed-counted boot past t o l =
    at_most (owed (owner boot past o) (charge_of boot past o) t) (counts boot past t) (owed_summed boot past t o) (counts-footprint boot past t)
    (le_by _ _ _ _ (share-res_non boot past t o) (counts-res_non boot past t) (share_counted boot past t is_in is_nonvolatile_state o l))
    (le_by _ _ _ _ (share-res_vol boot past t o) (counts-res_vol boot past t) (share_counted boot past t is_in is_volatile_state o l))
    (le_by _ _ _ _ (share-com_non boot past t o) (counts-com_non boot past t) (share_counted boot past t is_stored is_nonvolatile_state o l))
    (le_by _ _ _ _ (share-com_vol boot past t o) (counts-com_vol boot past t) (share_counted boot past t is_stored is_volatile_state o l))

-- no count passes 65,536
sum-few : (f : ℕ → ℕ) → ((x : ℕ) → f x ≤ 256) → (xs : List ℕ) → sum_by f xs ≤ 256 * length xs
sum-few f few [] = zero-le
sum-few f few (x ∷ xs) =
    let c : sum_by f (x ∷ xs) ≡ f x + sum_by f xs = sum_by-cons f x xs in
    let a : f x ≤ 256 = few x in
    let r : sum_by f xs ≤ 256 * length xs = sum-few f few xs in
    let n : length (x ∷ xs) ≡ suc (length xs) = refl in
    omega arith

pub counted-few : (boot : System) (past : List Entry) (f : PageId → Bool) → IsValidBoot boot → count_by f (pages_of boot) ≤ 65536
counted-few boot past f v =
    let every : ℕ → ℕ = λ x. pages_at boot past (λ y. true) x in
    let all : count_by f (pages_of boot) ≤ count_by (λ p. true) (pages_of boot) = count_by-weaker f (λ p. true) (λ p h. refl) (pages_of boot) in
    let parts : count_by (λ p. true) (pages_of boot) ≡ sum_by every (range_with_len 0 (length boot.objects)) = pages-by_objects boot (λ p. true) in
    let few : sum_by every (range_with_len 0 (length boot.objects)) ≤ 256 * length (range_with_len 0 (length boot.objects)) = sum-few every (λ x. object-few boot past (λ y. true) x v) (range_with_len 0 (length boot.objects)) in
    let n : length (range_with_len 0 (length boot.objects)) ≡ length boot.objects = length-range_with_len 0 (length boot.objects) in
    let o : length boot.objects ≤ 256 = v.few_objects in
    omega arith

one_place : (a w : Bool) (x : Place) → bit ((a && is_in x && w) || (a && is_stored x && w)) ≡ bit (a && is_in x && w) + bit (a && is_stored x && w)
one_place false w x = omega arith
one_place true w Absent = omega arith
one_place true true Active = omega arith
one_place true false Active = omega arith
one_place true true Inactive = omega arith
one_place true false Inactive = omega arith
one_place true true Stored = omega arith
one_place true false Stored = omega arith

pub counts-few : (boot : System) (past : List Entry) (t : ℕ) → IsValidBoot boot → AreWithin (counts boot past t)
counts-few boot past t v =
    let inside : PageId → Bool = λ p. owned_by boot past t p && is_in (place boot past p) && is_nonvolatile_state (state past p.obj) in
    let outside : PageId → Bool = λ p. owned_by boot past t p && is_stored (place boot past p) && is_nonvolatile_state (state past p.obj) in
    let sum : count_by (λ p. inside p || outside p) (pages_of boot) ≡ count_by inside (pages_of boot) + count_by outside (pages_of boot) = count_by-both (λ p. inside p || outside p) inside outside (λ p. one_place (owned_by boot past t p) (is_nonvolatile_state (state past p.obj)) (place boot past p)) (pages_of boot) in
    let few : count_by (λ p. inside p || outside p) (pages_of boot) ≤ 65536 = counted-few boot past (λ p. inside p || outside p) v in
    let rn : (counts boot past t).res_non ≡ count_by inside (pages_of boot) = counts-res_non boot past t in
    let cn : (counts boot past t).com_non ≡ count_by outside (pages_of boot) = counts-com_non boot past t in
    let f : (counts boot past t).footprint ≡ (counts boot past t).res_non + (counts boot past t).com_non = counts-footprint boot past t in
    record {
      res_non = omega arith;
      res_vol = subst (λ (n : ℕ). n ≤ 65536) (sym (counts-res_vol boot past t)) (counted-few boot past (λ p. owned_by boot past t p && is_in (place boot past p) && is_volatile_state (state past p.obj)) v);
      com_non = omega arith;
      com_vol = subst (λ (n : ℕ). n ≤ 65536) (sym (counts-com_vol boot past t)) (counted-few boot past (λ p. owned_by boot past t p && is_stored (place boot past p) && is_volatile_state (state past p.obj)) v);
      footprint = omega arith;
    }

-- the counts of a task after an entry that changes one object: less what it was owed, and with what it is owed
less_more : (n' b n b' : ℕ) → n' + b ≡ n + b' → b ≤ n → n' ≡ (n - b) + b'
less_more n' b n b' h l = omega arith

both_more : (f' a' c' f a c g x y g' x' y' : ℕ) → f' ≡ a' + c' → f ≡ a + c → g ≡ x + y → g' ≡ x' + y' → a' + x ≡ a + x' → c' + y ≡ c + y' → g ≤ f → f' ≡ (f - g) + g'
both_more f' a' c' f a c g x y g' x' y' h i j k m n l = omega arith

module _ (boot : System) (e : Entry) (before : List Entry) (o : ℕ) (l : o < length boot.objects) (owners : (x : ℕ) → nat_eq o x ≡ false → owner boot (e ∷ before) x ≡ owner boot before x) (states : (x : ℕ) → nat_eq o x ≡ false → state (e ∷ before) x ≡ state before x) (places : (x : ℕ) → nat_eq o x ≡ false → (n : ℕ) → place boot (e ∷ before) (record { obj = x; page = n }) ≡ place boot before (record { obj = x; page = n })) where
  abbrev owed_before : ℕ → Counts
  owed_before t = owed (owner boot before o) (charge_of boot before o) t

  abbrev owed_after : ℕ → Counts
  owed_after t = owed (owner boot (e ∷ before) o) (charge_of boot (e ∷ before) o) t

  one_object : (t : ℕ) (k : Place → Bool) (what : State → Bool) → count_of boot (e ∷ before) t (λ p. k (place boot (e ∷ before) p)) what + share_of boot before t k what o ≡ count_of boot before t (λ p. k (place boot before p)) what + share_of boot (e ∷ before) t k what o
  one_object t k what = count_of-object boot e before t k what o l (λ x h. share_of-kept boot e before t k what x (owners x h) (states x h) (places x h))

  res_non_moves : (t : ℕ) → (counts boot (e ∷ before) t).res_non + (owed_before t).res_non ≡ (counts boot before t).res_non + (owed_after t).res_non
  res_non_moves t = ap₂ (λ (x y : ℕ). x + y) (counts-res_non boot (e ∷ before) t) (sym (share-res_non boot before t o)) ∙ one_object t is_in is_nonvolatile_state ∙ sym (ap₂ (λ (x y : ℕ). x + y) (counts-res_non boot before t) (sym (share-res_non boot (e ∷ before) t o)))

  res_vol_moves : (t : ℕ) → (counts boot (e ∷ before) t).res_vol + (owed_before t).res_vol ≡ (counts boot before t).res_vol + (owed_after t).res_vol
  res_vol_moves t = ap₂ (λ (x y : ℕ). x + y) (counts-res_vol boot (e ∷ before) t) (sym (share-res_vol boot before t o)) ∙ one_object t is_in is_volatile_state ∙ sym (ap₂ (λ (x y : ℕ). x + y) (counts-res_vol boot before t) (sym (share-res_vol boot (e ∷ before) t o)))

  com_non_moves : (t : ℕ) → (counts boot (e ∷ before) t).com_non + (owed_before t).com_non ≡ (counts boot before t).com_non + (owed_after t).com_non
  com_non_moves t = ap₂ (λ (x y : ℕ). x + y) (counts-com_non boot (e ∷ before) t) (sym (share-com_non boot before t o)) ∙ one_object t is_stored is_nonvolatile_state ∙ sym (ap₂ (λ (x y : ℕ). x + y) (counts-com_non boot before t) (sym (share-com_non boot (e ∷ before) t o)))

  com_vol_moves : (t : ℕ) → (counts boot (e ∷ before) t).com_vol + (owed_before t).com_vol ≡ (counts boot before t).com_vol + (owed_after t).com_vol
  com_vol_moves t = ap₂ (λ (x y : ℕ). x + y) (counts-com_vol boot (e ∷ before) t) (sym (share-com_vol boot before t o)) ∙ one_object t is_stored is_volatile_state ∙ sym (ap₂ (λ (x y : ℕ). x + y) (counts-com_vol boot before t) (sym (share-com_vol boot (e ∷ before) t o)))

  pub counts-object : (t : ℕ) → counts boot (e ∷ before) t ≡ counts_plus (counts_less (counts boot before t) (owed_before t)) (owed_after t)
  counts-object t =
      let c = counts boot before t in
      let d = counts boot (e ∷ before) t in
      let m = owed-counted boot before t o l in
      same_counts d (counts_plus (counts_less c (owed_before t)) (owed_after t))
      (less_more d.res_non (owed_before t).res_non c.res_non (owed_after t).res_non (res_non_moves t) m.res_non)
      (less_more d.res_vol (owed_before t).res_vol c.res_vol (owed_after t).res_vol (res_vol_moves t) m.res_vol)
      (less_more d.com_non (owed_before t).com_non c.com_non (owed_after t).com_non (com_non_moves t) m.com_non)
      (less_more d.com_vol (owed_before t).com_vol c.com_vol (owed_after t).com_vol (com_vol_moves t) m.com_vol)
      (both_more d.footprint d.res_non d.com_non c.footprint c.res_non c.com_non (owed_before t).footprint (owed_before t).res_non (owed_before t).com_non (owed_after t).footprint (owed_after t).res_non (owed_after t).com_non (counts-footprint boot (e ∷ before) t) (counts-footprint boot before t) (owed_summed boot before t o) (owed_summed boot (e ∷ before) t o) (res_non_moves t) (com_non_moves t) m.footprint)

-- the accounts once counts were taken off an owner's account, and once they were added to it
abbrev counting : Account → Counts → Account
counting account c = record account { counts = c }

pub less_none : (c : Counts) → counts_less c no_pages ≡ c
less_none c = same_counts (counts_less c no_pages) c (omega arith) (omega arith) (omega arith) (omega arith) (omega arith)

pub plus_none : (c : Counts) → counts_plus c no_pages ≡ c
plus_none c = same_counts (counts_plus c no_pages) c (omega arith) (omega arith) (omega arith) (omega arith) (omega arith)

charged_at : (f : Counts → Counts → Counts) → ((c : Counts) → f c no_pages ≡ c) → (u : ℕ) (c : Counts) (accounts : List Account) (t : ℕ) → t < length accounts → account_of (with_counts accounts u (f (account_of accounts u).counts c)) t ≡ counting (account_of accounts t) (f (account_of accounts t).counts (owed (Some u) c t))
charged_at f none u c accounts t l = elim (eqb_tells t u) [
  | inl same ↦
      let a = account_of accounts t in
      ap (λ (m : ℕ). account_of (with_counts accounts m (f (account_of accounts m).counts c)) t) (sym same.1)
      ∙ get_or-set_same accounts t (counting a (f a.counts c)) Rattle.task_ledger.specs.Accounts.no_account l
      ∙ ap (λ (b : Bool). counting a (f a.counts (if b then c else no_pages))) (sym same.0)
  | inr other ↦
      let a = account_of accounts t in
      get_or-set_other accounts u t (counting (account_of accounts u) (f (account_of accounts u).counts c)) Rattle.task_ledger.specs.Accounts.no_account other.1
      ∙ ap (counting a) (sym (none a.counts))
      ∙ ap (λ (b : Bool). counting a (f a.counts (if b then c else no_pages))) (sym other.0)
]

pub relieved-at : (o : Option ℕ) (c : Counts) (accounts : List Account) (t : ℕ) → t < length accounts → account_of (relieved o c accounts) t ≡ counting (account_of accounts t) (counts_less (account_of accounts t).counts (owed o c t))
relieved-at None c accounts t l = ap (counting (account_of accounts t)) (sym (less_none (account_of accounts t).counts))
relieved-at (Some u) c accounts t l = charged_at counts_less less_none u c accounts t l

burdened-at : (o : Option ℕ) (c : Counts) (accounts : List Account) (t : ℕ) → t < length accounts → account_of (burdened o c accounts) t ≡ counting (account_of accounts t) (counts_plus (account_of accounts t).counts (owed o c t))
burdened-at None c accounts t l = ap (counting (account_of accounts t)) (sym (plus_none (account_of accounts t).counts))
burdened-at (Some u) c accounts t l = charged_at counts_plus plus_none u c accounts t l

pub length-relieved : (o : Option ℕ) (c : Counts) (accounts : List Account) → length (relieved o c accounts) ≡ length accounts
length-relieved None c accounts = refl
length-relieved (Some u) c accounts = length-set accounts u _

length-burdened : (o : Option ℕ) (c : Counts) (accounts : List Account) → length (burdened o c accounts) ≡ length accounts
length-burdened None c accounts = refl
length-burdened (Some u) c accounts = length-set accounts u _

-- the owner of an object is declared
pub owner-declared : (boot : System) (past : List Entry) (o t : ℕ) → owner boot past o ≡ Some t → t < length boot.tasks
unfolding owner
owner-declared boot past o t h = let q = has-range 0 (length boot.tasks) t (find-has (maps boot past o) (tasks_of boot) t h).0 in omega (arith, q.1)

owed_whole : (o : Option ℕ) (c : Counts) (t : ℕ) → o ≡ Some t → owed o c t ≡ c
owed_whole o c t h = let same : nat_eq t t ≡ true = grind (arith, nat_tests) in ap (λ (x : Option ℕ). owed x c t) h ∙ ap (λ (b : Bool). if b then c else no_pages) same

-- an object's charge can be taken off the account of its owner
pub relief-fits : (boot : System) (past : List Entry) (accounts : List Account) (o t : ℕ) → o < length boot.objects → AccountsStand boot past accounts → owner boot past o ≡ Some t → AreAtMost (charge_of boot past o) (account_of accounts t).counts
relief-fits boot past accounts o t l s h =
    subst (λ (c : Counts). AreAtMost c (account_of accounts t).counts) (owed_whole (owner boot past o) (charge_of boot past o) t h)
    (subst (AreAtMost (owed (owner boot past o) (charge_of boot past o) t)) (sym (s.accounts t (owner-declared boot past o t h)).counts) (owed-counted boot past t o l))

-- an object with no page in a place counts nothing
charge_none : (s : State) → charge s 0 0 ≡ no_pages
charge_none Nonvolatile = refl
charge_none Volatile = refl
charge_none Empty = refl

pub charge-absent : (boot : System) (past : List Entry) (o : ℕ) → ((n : ℕ) → place boot past (record { obj = o; page = n }) ≡ Absent) → charge_of boot past o ≡ no_pages
charge-absent boot past o a = ap₂ (charge (state past o)) (pages_at-absent boot past is_in o refl a) (pages_at-absent boot past is_stored o refl a) ∙ charge_none (state past o)

nothing_owed : (o : Option ℕ) (c : Counts) (t : ℕ) → c ≡ no_pages → owed o c t ≡ no_pages
nothing_owed o c t h = ap (λ x. owed o x t) h ∙ elim (is_owner o t) as (λ b. (if b then no_pages else no_pages) ≡ no_pages) [ true ↦ refl | false ↦ refl ]

-- the accounts after an entry that changes one object
module _ (boot : System) (e : Entry) (before : List Entry) (o : ℕ) (l : o < length boot.objects) (owners : (x : ℕ) → nat_eq o x ≡ false → owner boot (e ∷ before) x ≡ owner boot before x) (states : (x : ℕ) → nat_eq o x ≡ false → state (e ∷ before) x ≡ state before x) (places : (x : ℕ) → nat_eq o x ≡ false → (n : ℕ) → place boot (e ∷ before) (record { obj = x; page = n }) ≡ place boot before (record { obj = x; page = n })) (accounts : List Account) (s : AccountsStand boot before accounts) where
  abbrev off : List Account
  off = relieved (owner boot before o) (charge_of boot before o) accounts

  abbrev on : List Account
  on = burdened (owner boot (e ∷ before) o) (charge_of boot (e ∷ before) o) off

  off_counts : (t : ℕ) → t < length boot.tasks → counts_plus (account_of off t).counts (owed (owner boot (e ∷ before) o) (charge_of boot (e ∷ before) o) t) ≡ counts boot (e ∷ before) t
  off_counts t m =
      let inside : t < length accounts = (let n = s.account_count in omega (arith, n)) in
      ap (λ (a : Account). counts_plus a.counts (owed (owner boot (e ∷ before) o) (charge_of boot (e ∷ before) o) t)) (relieved-at (owner boot before o) (charge_of boot before o) accounts t inside)
      ∙ ap (λ (c : Counts). counts_plus (counts_less c (owed (owner boot before o) (charge_of boot before o) t)) (owed (owner boot (e ∷ before) o) (charge_of boot (e ∷ before) o) t)) (s.accounts t m).counts
      ∙ sym (counts-object boot e before o l owners states places t)

  -- the charge can be added to the account of the owner after it
  pub burden-fits : (t : ℕ) → IsValidBoot boot → owner boot (e ∷ before) o ≡ Some t → AreWithin (counts_plus (account_of off t).counts (charge_of boot (e ∷ before) o))
  burden-fits t v h =
      subst AreWithin (sym (off_counts t (owner-declared boot (e ∷ before) o t h)) ∙ ap (counts_plus (account_of off t).counts) (owed_whole (owner boot (e ∷ before) o) (charge_of boot (e ∷ before) o) t h)) (counts-few boot (e ∷ before) t v)

  on_at : (t : ℕ) → t < length boot.tasks → account_of on t ≡ counting (account_of accounts t) (counts boot (e ∷ before) t)
  on_at t m =
      let inside : t < length accounts = (let n = s.account_count in omega (arith, n)) in
      let within : t < length off = (let n = length-relieved (owner boot before o) (charge_of boot before o) accounts in omega (arith, n, inside)) in
      burdened-at (owner boot (e ∷ before) o) (charge_of boot (e ∷ before) o) off t within
      ∙ ap (counting (account_of off t)) (off_counts t m)
      ∙ ap (λ (a : Account). counting a (counts boot (e ∷ before) t)) (relieved-at (owner boot before o) (charge_of boot before o) accounts t inside)

  pub accounts-object : ((t : ℕ) → live boot (e ∷ before) t ≡ live boot before t) → ((t : ℕ) → active boot (e ∷ before) t ≡ active boot before t) → ((t : ℕ) → limits boot (e ∷ before) t ≡ limits boot before t) → AccountsStand boot (e ∷ before) on
  accounts-object lives actives bounds = record {
    account_count = length-burdened (owner boot (e ∷ before) o) (charge_of boot (e ∷ before) o) off ∙ length-relieved (owner boot before o) (charge_of boot before o) accounts ∙ s.account_count;
    accounts = λ t m. subst (IsAccount boot (e ∷ before) t) (sym (on_at t m)) (let a = s.accounts t m in record {
      live = a.live ∙ sym (lives t);
      counts = refl;
      active = a.active ∙ sym (actives t);
      when_active = a.when_active ∙ sym (ap (λ (x : Limits). x.when_active) (bounds t));
      when_inactive = a.when_inactive ∙ sym (ap (λ (x : Limits). x.when_inactive) (bounds t));
      internal = a.internal;
    });
  }

-- where an object counts nothing before and after, the counts stay
pub counts-uncharged : (boot : System) (e : Entry) (before : List Entry) (o : ℕ) → o < length boot.objects → ((x : ℕ) → nat_eq o x ≡ false → owner boot (e ∷ before) x ≡ owner boot before x) → ((x : ℕ) → nat_eq o x ≡ false → state (e ∷ before) x ≡ state before x) → ((p : PageId) → place boot (e ∷ before) p ≡ place boot before p) → ((n : ℕ) → place boot before (record { obj = o; page = n }) ≡ Absent) → (t : ℕ) → counts boot (e ∷ before) t ≡ counts boot before t
counts-uncharged boot e before o l owners states places absent t =
    let c = counts boot before t in
    counts-object boot e before o l owners states (λ x h n. places (record { obj = x; page = n })) t
    ∙ ap₂ (λ x y. counts_plus (counts_less c x) y) (nothing_owed (owner boot before o) (charge_of boot before o) t (charge-absent boot before o absent)) (nothing_owed (owner boot (e ∷ before) o) (charge_of boot (e ∷ before) o) t (charge-absent boot (e ∷ before) o (λ n. places (record { obj = o; page = n }) ∙ absent n)))
    ∙ plus_none (counts_less c no_pages) ∙ less_none c

-- the charge of a mapped object by the tables
module _ (tables : TableValues) (past : List Entry) (s : Stands tables past) (o : ℕ) (l : o < length tables.boot.objects) where
  pub table-charge : mapped tables.boot past o ≡ true → charge (object_at tables.objects o).state (framed_of tables.pages o) (stored_of tables.pages o) ≡ charge_of tables.boot past o
  table-charge m = ap (λ x. charge x (framed_of tables.pages o) (stored_of tables.pages o)) (s.objects.states o l m) ∙ charge-stands tables.boot past tables.pages tables.entered o l s.pages

  pub framed-few : IsValidBoot tables.boot → framed_of tables.pages o ≤ 256
  framed-few v = subst (λ (n : ℕ). n ≤ 256) (sym (framed-stands tables.boot past tables.pages tables.entered o l s.pages)) (object-few tables.boot past is_in o v)

  pub stored-few : IsValidBoot tables.boot → stored_of tables.pages o ≤ 256
  stored-few v = subst (λ (n : ℕ). n ≤ 256) (sym (stored-stands tables.boot past tables.pages tables.entered o l s.pages)) (object-few tables.boot past is_stored o v)

  pub object-sized : o < length tables.pages.sizes
  object-sized = let n : length tables.pages.sizes ≡ length tables.boot.objects = ap length s.pages.page_sizes ∙ length-map tables.boot.objects (λ (x : ObjBoot). x.pages) in omega (arith, n, l)

  pub object-kept : o < length tables.objects
  object-kept = let n = s.objects.object_count in omega (arith, n, l)

  -- what it counts can be taken off its owner's account
  pub table-relief : IsValidBoot tables.boot → mapped tables.boot past o ≡ true → (from : Option ℕ) (c : Counts) → from ≡ owner_in tables.objects o → c ≡ charge (object_at tables.objects o).state (framed_of tables.pages o) (stored_of tables.pages o) → (u : ℕ) → from ≡ Some u → (u < length tables.accounts) × AreAtMost c (account_of tables.accounts u).counts
  table-relief v m from c f h u is =
      let by : owner tables.boot past o ≡ Some u = sym (owner-stands tables.boot past tables.objects v s.objects.mappers o l) ∙ sym f ∙ is in
      let n = s.accounts.account_count in
      let d = owner-declared tables.boot past o u by in
      (omega (arith, n, d), subst (λ (x : Counts). AreAtMost x (account_of tables.accounts u).counts) (sym (h ∙ table-charge m)) (relief-fits tables.boot past tables.accounts o u l s.accounts by))
