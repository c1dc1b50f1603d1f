-- Lists, as the tables' parts have them.
use Rattle.std.proofs.Common.{◌≡◌, ◌≢◌, ℕ, zero, suc, ◌+◌, ◌<◌, ◌≤◌, List, [], ◌∷◌, ◌++◌, length, map, filter, replicate, set, get_or, cond, Option, Some, None, slice_get, option_map, refl, sym, ap, ◌∙◌, subst, Bool, true, false, inl, inr, arith, nat_eq, nat_lt, ap₂}
use Rattle.std.specs.Prelude.{count_by}
use Rattle.std.specs.List.{range_with_len}
use Rattle.std.proofs.Math.ListN.{get_or-map}
use Rattle.std.proofs.lemmas.Bool.{cases_lt, cases_eq, cases_Bool, false≢true}
use Rattle.std.proofs.lemmas.Bool.Decides.{eqb_tells, nat_tests}
use Rattle.std.proofs.lemmas.List.{get_or-set_same, get_or-set_other, get_or-replicate, get_or_past, length-replicate, length-map, length-set, append-nil}
use Rattle.std.proofs.lemmas.List.Elements.{filter-append}
use Rattle.std.proofs.lemmas.Option.{slice_get-map, get_or_from_slice_get}
use Rattle.link_list.specs.KeyLists.{list_at, has, without}
use Rattle.link_list.proofs.Ranges.{range_more}
use Rattle.link_list.proofs.Members.{other_in_rest, has_at_head, has_in_rest, without_absent}
use Rattle.priority_bands.specs.Banded.{placed, removed}
use Rattle.std.specs.Option.{option_map_or}
use Rattle.kernel_model.specs.Lists.{some_if}
use Rattle.kernel_model.specs.declared.boot.TaskBoot.{TaskBoot}
use Rattle.kernel_model.specs.Laws.Order.{Has, Rising}
use Rattle.kernel_tables.specs.Start.{first_band, begins_in, first_count}
use Rattle.kernel_model.proofs.Laws.Order.{filter-has}
use Rattle.kernel_model.proofs.Laws.Queues.{has-range}

-- a list within its length has an element
pub at-some : {A : Type 0} (xs : List A) (k : ℕ) → k < length xs → (x : A) × (slice_get xs k ≡ Some x)
at-some [] k l = absurd (omega arith)
at-some (x ∷ xs) zero l = (x, refl)
at-some (x ∷ xs) (suc k) l = at-some xs k (omega arith)

-- an element of a mapped list
pub get_or-mapped : {A B : Type 0} (f : A → B) (xs : List A) (k : ℕ) (x : A) (d : B) → slice_get xs k ≡ Some x → get_or (map f xs) k d ≡ f x
get_or-mapped f xs k x d is = get_or_from_slice_get (map f xs) k (f x) d (slice_get-map f xs k ∙ ap (option_map f) is)

-- a list of one element throughout
pub get_or-same : {A : Type 0} (n k : ℕ) (x : A) → get_or (replicate n x) k x ≡ x
get_or-same n k x = elim (cases_lt k n) [
  | inl below ↦ get_or-replicate n k x x below
  | inr past ↦ get_or_past (replicate n x) k x (let e : length (replicate n x) ≡ n = length-replicate n x in omega arith)
]

-- no element passes
pub count-none : {A : Type 0} (p : A → Bool) (xs : List A) → ((x : A) → p x ≡ false) → count_by p xs ≡ 0
count-none p [] none = refl
count-none p (x ∷ xs) none = rw (none x) (count-none p xs none)

-- a range is in rising order
pub range-rising : (less : ℕ → ℕ → Bool) (a n : ℕ) → ((x y : ℕ) → x < y → less x y ≡ true) → Rising less (range_with_len a n)
range-rising less a zero up = tt
range-rising less a (suc n) up = ((λ y m. up a y (let q = has-range (a + 1) n y m in omega (arith, q.0))), range-rising less (a + 1) n up)

-- has, as a test and as a fact
pub has-fact : (x : ℕ) (xs : List ℕ) → has x xs ≡ true → Has xs x
has-fact x [] h = absurd (false≢true h)
has-fact x (y ∷ ys) h = elim (cases_eq x y) [
  | inl same ↦ inl (sym same)
  | inr differs ↦ inr (has-fact x ys (other_in_rest x y ys h differs))
]

pub fact-has : (x : ℕ) (xs : List ℕ) → Has xs x → has x xs ≡ true
fact-has x [] h = absurd h
fact-has x (y ∷ ys) (inl e) = has_at_head x y ys (sym e)
fact-has x (y ∷ ys) (inr m) = has_in_rest x y ys (fact-has x ys m)

-- a number at the end of a range stands in none of its parts
pub end-absent : (p : ℕ → Bool) (n : ℕ) → has n (filter p (range_with_len 0 n)) ≡ false
end-absent p n = elim (cases_Bool (has n (filter p (range_with_len 0 n)))) [
  | inl there ↦ absurd (let q = has-range 0 n n (filter-has p (range_with_len 0 n) n (has-fact n _ there)).0 in omega (arith, q.1))
  | inr absent ↦ absent
]

pub filter-more : (p : ℕ → Bool) (n : ℕ) → filter p (range_with_len 0 (n + 1)) ≡ filter p (range_with_len 0 n) ++ cond (p n) (n ∷ []) []
filter-more p n = ap (filter p) (range_more n) ∙ filter-append p (range_with_len 0 n) (n ∷ [])

-- the lists without a number
pub removed-at : (bands : List (List ℕ)) (t b : ℕ) → list_at (removed bands t) b ≡ without t (list_at bands b)
removed-at bands t b = get_or-map (without t) bands b []

-- the lists after a number was placed at the tail of one
pub placed-at : (bands : List (List ℕ)) (t l b : ℕ) → l < length bands → list_at (placed bands t l) b ≡ without t (list_at bands b) ++ cond (nat_eq l b) (t ∷ []) []
placed-at bands t l b inside =
    let gone = removed bands t in
    let tail = list_at gone l ++ t ∷ [] in
    let within : l < length gone = (let e : length (map (without t) bands) ≡ length bands = length-map bands (without t) in omega arith) in
    elim (eqb_tells l b) [
      | inl same ↦
          ap (λ m. get_or (set gone l tail) m []) (sym same.1) ∙ get_or-set_same gone l tail [] within
          ∙ ap (λ xs. xs ++ t ∷ []) (removed-at bands t l)
          ∙ ap (λ m. without t (list_at bands m) ++ t ∷ []) same.1
          ∙ ap (λ x. without t (list_at bands b) ++ cond x (t ∷ []) []) (sym same.0)
      | inr other ↦
          get_or-set_other gone l b tail [] (λ e. other.1 (sym e)) ∙ removed-at bands t b
          ∙ sym (append-nil (without t (list_at bands b)))
          ∙ ap (λ x. without t (list_at bands b) ++ cond x (t ∷ []) []) (sym other.0)
    ]

-- the bands after one task more was placed
pub bands-more : (tasks : List TaskBoot) (bands : List (List ℕ)) (n : ℕ) (task : TaskBoot) → slice_get tasks n ≡ Some task → length bands ≡ 21 → first_band task < 21
    → ((b : ℕ) → b < 21 → list_at bands b ≡ filter (begins_in tasks b) (range_with_len 0 n))
    → (b : ℕ) → b < 21 → list_at (placed bands n (first_band task)) b ≡ filter (begins_in tasks b) (range_with_len 0 (n + 1))
bands-more tasks bands n task is count small each b l =
    let inside : first_band task < length bands = omega arith in
    placed-at bands n (first_band task) b inside
    ∙ ap₂ (λ xs x. xs ++ cond x (n ∷ []) []) (ap (without n) (each b l) ∙ without_absent n _ (end-absent (begins_in tasks b) n)) (sym (ap (λ x. option_map_or (λ task. nat_eq (first_band task) b) x false) is))
    ∙ sym (filter-more (begins_in tasks b) n)

count_set : (b : Bool) (counts : List (Option ℕ)) (n : ℕ) → n < length counts → get_or counts n None ≡ None → get_or (cond b (set counts n (Some 0)) counts) n None ≡ some_if b 0
count_set true counts n l now = get_or-set_same counts n (Some 0) None l
count_set false counts n l now = now

count_other : (b : Bool) (counts : List (Option ℕ)) (n t : ℕ) → (t ≡ n → ⊥) → get_or (cond b (set counts n (Some 0)) counts) t None ≡ get_or counts t None
count_other true counts n t differs = get_or-set_other counts n t (Some 0) None differs
count_other false counts n t differs = refl

pub length-begun : (b : Bool) (counts : List (Option ℕ)) (n : ℕ) → length (cond b (set counts n (Some 0)) counts) ≡ length counts
length-begun true counts n = length-set counts n (Some 0)
length-begun false counts n = refl

-- the counts after one task more counts, or doesn't
pub counts-more : (tasks : List TaskBoot) (counts : List (Option ℕ)) (n : ℕ) (task : TaskBoot) → slice_get tasks n ≡ Some task → length counts ≡ length tasks → n < length tasks
    → ((t : ℕ) → t < length tasks → get_or counts t None ≡ cond (nat_lt t n) (first_count tasks t) None)
    → (t : ℕ) → t < length tasks → get_or (cond (nat_eq task.band 0) (set counts n (Some 0)) counts) t None ≡ cond (nat_lt t (n + 1)) (first_count tasks t) None
counts-more tasks counts n task is count inside each t l =
    let here : first_count tasks n ≡ some_if (nat_eq task.band 0) 0 = ap (λ x. option_map_or (λ task. some_if (nat_eq task.band 0) 0) x None) is in
    elim (cases_eq t n) [
      | inl same ↦
          let e : nat_lt n (n + 1) ≡ true = grind (arith, nat_tests) in
          let f : nat_lt n n ≡ false = grind (arith, nat_tests) in
          let now : get_or counts n None ≡ None = each n inside ∙ ap (λ x. cond x (first_count tasks n) None) f in
          subst (λ m. get_or (cond (nat_eq task.band 0) (set counts n (Some 0)) counts) m None ≡ cond (nat_lt m (n + 1)) (first_count tasks m) None) (sym same)
          (count_set (nat_eq task.band 0) counts n (omega arith) now ∙ sym here ∙ sym (ap (λ x. cond x (first_count tasks n) None) e))
      | inr differs ↦
          let e : nat_lt t (n + 1) ≡ nat_lt t n = grind (arith, nat_tests) in
          count_other (nat_eq task.band 0) counts n t differs ∙ each t l ∙ sym (ap (λ x. cond x (first_count tasks t) None) e)
    ]
