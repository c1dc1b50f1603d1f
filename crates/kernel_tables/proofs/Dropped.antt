-- All pages of one object leave their places: the lists, the places and the marks of the rest stay.
use Rattle.std.proofs.Common.{◌≡◌, ℕ, zero, suc, zero-le, ◌+◌, ◌*◌, ◌/◌, ◌%◌, ◌<◌, ◌≤◌, List, [], ◌∷◌, length, map, filter, get_or, cond, Option, Some, None, slice_get, refl, sym, ap, ap₂, ◌∙◌, subst, Bool, true, false, not, ◌&&◌, nat_eq, nat_lt, inl, inr, arith}
use Rattle.std.specs.Prelude.{slice_index_or}
use Rattle.std.specs.Option.{option_map_or}
use Rattle.std.specs.List.{list_any, position_or_len}
use Rattle.std.proofs.Math.ListN.{get_or-map}
use Rattle.std.proofs.lemmas.Bool.{cases_Bool, true≢false, false≢true}
use Rattle.std.proofs.lemmas.Bool.Decides.{eqb_tells, nat_tests}
use Rattle.std.proofs.lemmas.List.{length-map}
use Rattle.std.proofs.lemmas.List.Filters.{length-filter_both}
use Rattle.std.proofs.lemmas.List.Elements.{All-get_or}
use Rattle.std.proofs.lemmas.Option.{slice_get_within, get_or_from_slice_get}
use Rattle.std.proofs.lemmas.Map.Views.{any-filter_same}
use Rattle.kern_ids.specs.declared.entries.Entry.{Entry}
use Rattle.kern_ids.specs.declared.ids.PageId.{PageId}
use Rattle.kernel_model.specs.declared.boot.ObjBoot.{ObjBoot}
use Rattle.kernel_model.specs.declared.place.Place.{Place}
use Rattle.kernel_model.specs.declared.place.Place.TheVariants.{Absent}
use Rattle.kernel_model.specs.declared.place.Placed.{Placed}
use Rattle.kernel_model.specs.System.{System}
use Rattle.kernel_model.specs.Valid.{IsValidBoot, IsValidObject}
use Rattle.kernel_model.specs.Pages.{place, placed, pages_of, pages_in, is_active, is_inactive, is_stored, touched_since, entered, inactive_pages, left}
use Rattle.kernel_model.specs.Laws.Frames.{is_page}
use Rattle.kernel_model.specs.Laws.Order.{Has}
use Rattle.kernel_model.specs.Laws.Queues.{KeepsPages}
use Rattle.kernel_model.proofs.Laws.Bounds.{nat_eq-swap}
use Rattle.kernel_model.proofs.Laws.Queues.{pages-filter}
use Rattle.kernel_model.proofs.Laws.Untouched.{has-pages}
use Rattle.link_list.specs.KeyLists.{list_at, has, place_of}
use Rattle.link_list.proofs.Places.{place_nowhere}
use Rattle.page_queues.specs.Tallies.{is_of, count_of}
use Rattle.page_queues.specs.Pages.{Pages, key_of, page_of, is_marked, is_of_first, place_at, without_object, active as active_keys, inactive as inactive_keys, stored as stored_keys, place as place_in}
use Rattle.kernel_tables.specs.Stands.{PagesStand}
use Rattle.kernel_tables.proofs.Counting.{pages-count}

both_true : (a b : Bool) → (a && b) ≡ true → (a ≡ true) × (b ≡ true)
both_true true b h = (refl, h)
both_true false b h = absurd (false≢true h)

and-false : (b : Bool) → (b && false) ≡ false
and-false true = refl
and-false false = refl

and-true : (b : Bool) → (b && true) ≡ b
and-true true = refl
and-true false = refl

-- lists without some of their elements
pub has-map : {A B : Type 0} (f : A → B) (xs : List A) (x : A) → Has xs x → Has (map f xs) (f x)
has-map f [] x h = absurd h
has-map f (y ∷ ys) x (inl e) = inl (ap f e)
has-map f (y ∷ ys) x (inr m) = inr (has-map f ys x m)

-- a test that agrees with another one on the elements of a list keeps the same
pub map-filter : {A B : Type 0} (g : A → B) (f : A → Bool) (h : B → Bool) (xs : List A) → ((x : A) → Has xs x → f x ≡ h (g x)) → map g (filter f xs) ≡ filter h (map g xs)
map-filter g f h [] e = refl
map-filter {A} {B} g f h (x ∷ xs) e =
    let rest : map g (filter f xs) ≡ filter h (map g xs) = map-filter g f h xs (λ y m. e y (inr m)) in
    elim (cases_Bool (f x)) [
      | inl holds ↦ (let there : h (g x) ≡ true = sym (e x (inl refl)) ∙ holds in rw (holds, there) (ap (λ (ys : List B). g x ∷ ys) rest))
      | inr fails ↦ (let there : h (g x) ≡ false = sym (e x (inl refl)) ∙ fails in rw (fails, there) rest)
    ]

pub filter-within : (f h : ℕ → Bool) (xs : List ℕ) → ((x : ℕ) → Has xs x → f x ≡ h x) → filter f xs ≡ filter h xs
filter-within f h [] e = refl
filter-within f h (x ∷ xs) e =
    let rest : filter f xs ≡ filter h xs = filter-within f h xs (λ y m. e y (inr m)) in
    elim (cases_Bool (f x)) [
      | inl holds ↦ (let there : h x ≡ true = sym (e x (inl refl)) ∙ holds in rw (holds, there) (ap (λ (ys : List ℕ). x ∷ ys) rest))
      | inr fails ↦ (let there : h x ≡ false = sym (e x (inl refl)) ∙ fails in rw (fails, there) rest)
    ]

-- where a key stands in lists that keep some keys
nat_is : (a b : ℕ) → nat_eq a b ≡ true → b ≡ a
nat_is a b h = elim (eqb_tells a b) [ inl same ↦ sym same.1 | inr other ↦ absurd (false≢true (sym other.0 ∙ h)) ]

has-filtered : (f : ℕ → Bool) (key : ℕ) (b : Bool) (xs : List ℕ) → f key ≡ b → has key (filter f xs) ≡ (b && has key xs)
has-filtered f key b xs h = any-filter_same (nat_eq key) f b (λ k e. ap f (nat_is key k e) ∙ h) xs

position_or_len-map : (p : List ℕ → Bool) (h : List ℕ → List ℕ) → ((x : List ℕ) → p (h x) ≡ p x) → (xs : List (List ℕ)) → position_or_len p (map h xs) ≡ position_or_len p xs
position_or_len-map p h e [] = refl
position_or_len-map p h e (x ∷ xs) = rw (e x, position_or_len-map p h e xs) refl

place_of-kept : (f : ℕ → Bool) (key : ℕ) (lists : List (List ℕ)) → f key ≡ true → place_of key (map (filter f) lists) ≡ place_of key lists
place_of-kept f key lists h =
    ap₂ (λ (n m : ℕ). cond (nat_lt n m) (Some n) None) (position_or_len-map (has key) (filter f) (λ xs. has-filtered f key true xs h) lists) (length-map lists (filter f))

place_of-gone : (f : ℕ → Bool) (key : ℕ) (lists : List (List ℕ)) → f key ≡ false → place_of key (map (filter f) lists) ≡ None
place_of-gone f key lists h = place_nowhere key (map (filter f) lists) (λ l lt. ap (has key) (get_or-map (filter f) lists l []) ∙ has-filtered f key false (list_at lists l) h)

-- the size of an object
size-at : (objects : List ObjBoot) (o : ℕ) → get_or (map (λ object. object.pages) objects) o 0 ≡ option_map_or (λ object. object.pages) (slice_get objects o) 0
size-at [] o = refl
size-at (x ∷ xs) zero = refl
size-at (x ∷ xs) (suc o) = size-at xs o

size_few : (object : Option ObjBoot) → ((x : ObjBoot) → object ≡ Some x → x.pages ≤ 256) → option_map_or (λ (x : ObjBoot). x.pages) object 0 ≤ 256
size_few (Some x) h = h x refl
size_few None h = zero-le

pub pages_in-small : (boot : System) → IsValidBoot boot → (o : ℕ) → pages_in boot o ≤ 256
pages_in-small boot v o = size_few (slice_get boot.objects o) (λ x is. (subst (IsValidObject (length boot.tasks)) (get_or_from_slice_get boot.objects o x x is) (All-get_or (IsValidObject (length boot.tasks)) boot.objects o x (slice_get_within boot.objects o x is) v.objects)).pages)

-- the object and the number of a page, from its key
key-object : (p : PageId) → p.page < 256 → key_of p / 256 ≡ p.obj
key-object p l = omega arith

key-page : (p : PageId) → p.page < 256 → key_of p % 256 ≡ p.page
key-page p l = omega arith

nat_below : (a b : ℕ) → nat_lt a b ≡ true → a < b
nat_below a b h = grind (arith, nat_tests)

-- what is kept is what isn't of the object
abbrev stays : ℕ → ℕ → ℕ → Bool
stays o n key = not (is_of_first o n key)

first_of_object : (o n key : ℕ) → key % 256 < n → is_of_first o n key ≡ is_of o key
first_of_object o n key l = (let t : nat_lt (key % 256) n ≡ true = grind (arith, nat_tests) in ap (λ b. is_of o key && b) t) ∙ and-true (is_of o key)

module _ (boot : System) (valid : IsValidBoot boot) (e : Entry) (before : List Entry) (o : ℕ) where
  page_small : (p : PageId) → Has (pages_of boot) p → (p.page < pages_in boot p.obj) × (p.page < 256)
  page_small p m =
      let is = both_true (nat_lt p.obj (length boot.objects)) (nat_lt p.page (pages_in boot p.obj)) (has-pages boot p m) in
      let below : p.page < pages_in boot p.obj = nat_below p.page (pages_in boot p.obj) is.1 in
      let few : pages_in boot p.obj ≤ 256 = pages_in-small boot valid p.obj in
      (below, omega arith)

  -- of the keys of a list those stay that aren't of the object
  key_stays : (k : Place → Bool) (keys : List ℕ) (key : ℕ) → KeepsPages boot before k (map page_of keys) → Has keys key → stays o (pages_in boot o) key ≡ not (is_of o key)
  key_stays k keys key s m = elim (eqb_tells (key / 256) o) [
    | inl same ↦ (
        let small : key % 256 < pages_in boot (key / 256) = (page_small (page_of key) (s.within (page_of key) (has-map page_of keys key m))).0 in
        ap not (first_of_object o (pages_in boot o) key (subst (λ (x : ℕ). key % 256 < pages_in boot x) same.1 small)))
    | inr other ↦ rw other.0 refl
  ]

  order-dropped : (k : Place → Bool) (keys : List ℕ) → k Absent ≡ false → ((p : PageId) → nat_eq o p.obj ≡ true → place boot (e ∷ before) p ≡ Absent) → ((p : PageId) → nat_eq o p.obj ≡ false → placed boot (e ∷ before) p ≡ placed boot before p) → KeepsPages boot before k (map page_of keys) → KeepsPages boot (e ∷ before) k (map page_of (filter (stays o (pages_in boot o)) keys))
  order-dropped k keys out gone rest s =
      subst (KeepsPages boot (e ∷ before) k)
      (sym (map-filter page_of (stays o (pages_in boot o)) (λ p. not (nat_eq o p.obj)) keys (λ key m. key_stays k keys key s m ∙ ap not (nat_eq-swap (key / 256) o))))
      (pages-filter boot e before k (λ p. not (nat_eq o p.obj)) (map page_of keys)
      (λ p. elim (cases_Bool (nat_eq o p.obj)) [
        | inl of_it ↦ rw of_it (ap k (gone p of_it) ∙ out)
        | inr other ↦ rw other (ap (λ (x : Placed). k x.place) (rest p other))
      ])
      (λ p t. elim (cases_Bool (nat_eq o p.obj)) [
        | inl of_it ↦ absurd (true≢false (sym t ∙ ap k (gone p of_it) ∙ out))
        | inr other ↦ rest p other
      ])
      s)

  -- how many of a list's keys went
  length-dropped : (k : Place → Bool) (keys : List ℕ) → KeepsPages boot before k (map page_of keys) → length (filter (stays o (pages_in boot o)) keys) + count_of o keys ≡ length keys
  length-dropped k keys s =
      let same : length (filter (stays o (pages_in boot o)) keys) ≡ length (filter (λ key. not (is_of o key)) keys) = ap length (filter-within (stays o (pages_in boot o)) (λ key. not (is_of o key)) keys (λ key m. key_stays k keys key s m)) in
      let both : length (filter (is_of o) keys) + length (filter (λ key. not (is_of o key)) keys) ≡ length keys = length-filter_both (is_of o) (λ key. not (is_of o key)) (λ key. refl) keys in
      omega arith

  module _ (old new : Pages) (n : ℕ)
      (gone : (p : PageId) → nat_eq o p.obj ≡ true → place boot (e ∷ before) p ≡ Absent)
      (rest : (p : PageId) → nat_eq o p.obj ≡ false → placed boot (e ∷ before) p ≡ placed boot before p)
      (queues : new.queues ≡ without_object o (slice_index_or old.sizes o 0) old.queues)
      (s : PagesStand boot before old n)
    where
      size : slice_index_or old.sizes o 0 ≡ pages_in boot o
      size = ap (λ (sizes : List ℕ). get_or sizes o 0) s.page_sizes ∙ size-at boot.objects o

      list-dropped : (l : ℕ) → list_at new.queues l ≡ filter (stays o (pages_in boot o)) (list_at old.queues l)
      list-dropped l = ap (λ (qs : List (List ℕ)). list_at qs l) (queues ∙ ap (λ (m : ℕ). without_object o m old.queues) size) ∙ get_or-map (filter (stays o (pages_in boot o))) old.queues l []

      page_stays : (p : PageId) → Has (pages_of boot) p → stays o (pages_in boot o) (key_of p) ≡ not (nat_eq o p.obj)
      page_stays p m =
          let small = page_small p m in
          let obj : key_of p / 256 ≡ p.obj = key-object p small.1 in
          elim (eqb_tells o p.obj) [
            | inl same ↦ (
                let page : key_of p % 256 ≡ p.page = key-page p small.1 in
                let here : p.page < pages_in boot o = subst (λ (x : ℕ). p.page < pages_in boot x) (sym same.1) small.0 in
                let below : key_of p % 256 < pages_in boot o = omega arith in
                ap not (first_of_object o (pages_in boot o) (key_of p) below) ∙ ap (λ (x : ℕ). not (nat_eq x o)) obj ∙ ap not (nat_eq-swap p.obj o))
            | inr other ↦ (
                let off : nat_eq (key_of p / 256) o ≡ false = ap (λ (x : ℕ). nat_eq x o) obj ∙ nat_eq-swap p.obj o ∙ other.0 in
                rw (off, other.0) refl)
          ]

      place-dropped : (p : PageId) → Has (pages_of boot) p → place_in new p ≡ place boot (e ∷ before) p
      place-dropped p m =
          let lists : new.queues ≡ map (filter (stays o (pages_in boot o))) old.queues = queues ∙ ap (λ (k : ℕ). without_object o k old.queues) size in
          ap (λ (qs : List (List ℕ)). place_at (place_of (key_of p) qs)) lists
          ∙ elim (cases_Bool (nat_eq o p.obj)) [
            | inl of_it ↦ ap place_at (place_of-gone (stays o (pages_in boot o)) (key_of p) old.queues (page_stays p m ∙ ap not of_it)) ∙ sym (gone p of_it)
            | inr other ↦ ap place_at (place_of-kept (stays o (pages_in boot o)) (key_of p) old.queues (page_stays p m ∙ ap not other)) ∙ s.places p m ∙ sym (ap (λ (x : Placed). x.place) (rest p other))
          ]

      -- the pages of one object go, and all else of the pages stays
      pub pages-dropped : new.frames ≡ old.frames → new.sizes ≡ old.sizes → ((key : ℕ) → is_marked new key ≡ (is_marked old key && not (is_of_first o (slice_index_or old.sizes o 0) key)))
          → ((p : PageId) → nat_eq o p.obj ≡ false → touched_since boot (e ∷ before) p ≡ touched_since boot before p)
          → entered (e ∷ before) ≡ entered before → PagesStand boot (e ∷ before) new n
      pages-dropped frames sizes marks touched none = record {
        frames = frames ∙ s.frames;
        page_sizes = sizes ∙ s.page_sizes;
        places = place-dropped;
        active_order = subst (λ (keys : List ℕ). KeepsPages boot (e ∷ before) is_active (map page_of keys)) (sym (list-dropped 0)) (order-dropped is_active (active_keys old) refl gone rest s.active_order);
        inactive_order = subst (λ (keys : List ℕ). KeepsPages boot (e ∷ before) is_inactive (map page_of keys)) (sym (list-dropped 1)) (order-dropped is_inactive (inactive_keys old) refl gone rest s.inactive_order);
        stored_order = subst (λ (keys : List ℕ). KeepsPages boot (e ∷ before) is_stored (map page_of keys)) (sym (list-dropped 2)) (order-dropped is_stored (stored_keys old) refl gone rest s.stored_order);
        marks = λ p m.
            marks (key_of p) ∙ ap (λ (k : ℕ). is_marked old (key_of p) && stays o k (key_of p)) size ∙ ap (λ b. is_marked old (key_of p) && b) (page_stays p m)
            ∙ elim (cases_Bool (nat_eq o p.obj)) [
              | inl of_it ↦ ap (λ b. is_marked old (key_of p) && not b) of_it ∙ and-false (is_marked old (key_of p)) ∙ sym (ap (λ (x : Place). is_inactive x && touched_since boot (e ∷ before) p) (gone p of_it))
              | inr other ↦ ap (λ b. is_marked old (key_of p) && not b) other ∙ and-true (is_marked old (key_of p)) ∙ s.marks p m ∙ sym (ap₂ (λ (x : Placed) b. is_inactive x.place && b) (rest p other) (touched p other))
            ];
        entered = s.entered ∙ sym none;
      }

      -- and the Inactive ones of them have left
      pub inactive-dropped : PagesStand boot (e ∷ before) new n → inactive_pages boot (e ∷ before) + count_of o (inactive_keys old) ≡ inactive_pages boot before
      inactive-dropped later =
          let was : inactive_pages boot before ≡ length (inactive_keys old) = pages-count boot before is_inactive (map page_of (inactive_keys old)) s.inactive_order ∙ length-map (inactive_keys old) page_of in
          let now : inactive_pages boot (e ∷ before) ≡ length (inactive_keys new) = pages-count boot (e ∷ before) is_inactive (map page_of (inactive_keys new)) later.inactive_order ∙ length-map (inactive_keys new) page_of in
          let list : length (inactive_keys new) ≡ length (filter (stays o (pages_in boot o)) (inactive_keys old)) = ap length (list-dropped 1) in
          let all = length-dropped is_inactive (inactive_keys old) s.inactive_order in
          omega (arith, was, now, list, all)
