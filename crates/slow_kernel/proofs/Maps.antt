-- A search, a filter or a count over a table is that over what it is made of.
use Rattle.std.proofs.Common.{◌≡◌, ◌+◌, List, [], ◌∷◌, ◌++◌, map, filter, find, count_by, cond, not, Bool, true, false, ◌||◌, ◌&&◌, Option, Some, None, option_map, refl, sym, ap, ap₂, ◌∙◌}
use Rattle.std.specs.List.{list_any, flat_map}
use Rattle.std.proofs.lemmas.List.{map-append}
use Rattle.std.proofs.lemmas.List.Sums.{sum_by-cons}
use Rattle.kernel_model.specs.Lists.{least, put, in_order}

pub list_any_map : {A B : Type 0} (p : B → Bool) (f : A → B) (xs : List A) → list_any p (map f xs) ≡ list_any (λ x. p (f x)) xs
list_any_map p f [] = refl
list_any_map p f (x ∷ xs) = ap (λ b. p (f x) || b) (list_any_map p f xs)

pub find_map : {A B : Type 0} (p : B → Bool) (f : A → B) (xs : List A) → find p (map f xs) ≡ option_map f (find (λ x. p (f x)) xs)
find_map p f [] = refl
find_map p f (x ∷ xs) = elim (p (f x)) as (λ b. cond b (Some (f x)) (find p (map f xs)) ≡ option_map f (cond b (Some x) (find (λ x. p (f x)) xs))) [ true ↦ refl | false ↦ find_map p f xs ]

pub filter_map : {A B : Type 0} (p : B → Bool) (f : A → B) (xs : List A) → filter p (map f xs) ≡ map f (filter (λ x. p (f x)) xs)
filter_map p f [] = refl
filter_map p f (x ∷ xs) =
    let rest = filter_map p f xs in
    elim (p (f x)) as (λ b. cond b (f x ∷ filter p (map f xs)) (filter p (map f xs)) ≡ map f (cond b (x ∷ filter (λ x. p (f x)) xs) (filter (λ x. p (f x)) xs))) [ true ↦ ap (λ ys. f x ∷ ys) rest | false ↦ rest ]

pub count_by_map : {A B : Type 0} (p : B → Bool) (f : A → B) (xs : List A) → count_by p (map f xs) ≡ count_by (λ x. p (f x)) xs
count_by_map p f [] = refl
count_by_map p f (x ∷ xs) =
    sum_by-cons (λ y. cond (p y) 1 0) (f x) (map f xs)
    ∙ ap (λ n. cond (p (f x)) 1 0 + n) (count_by_map p f xs)
    ∙ sym (sum_by-cons (λ y. cond (p (f y)) 1 0) x xs)

pub find_same : {A : Type 0} (p q : A → Bool) → ((x : A) → p x ≡ q x) → (xs : List A) → find p xs ≡ find q xs
find_same p q h [] = refl
find_same p q h (x ∷ xs) = ap₂ (λ b o. cond b (Some x) o) (h x) (find_same p q h xs)

pub least_map : {A B : Type 0} (less : B → B → Bool) (f : A → B) (xs : List A) → least less (map f xs) ≡ option_map f (least (λ a b. less (f a) (f b)) xs)
least_map less f xs =
    find_map (λ x. not (list_any (λ y. less y x) (map f xs))) f xs
    ∙ ap (option_map f) (find_same (λ x. not (list_any (λ y. less y (f x)) (map f xs))) (λ x. not (list_any (λ y. less (f y) (f x)) xs)) (λ x. ap not (list_any_map (λ y. less y (f x)) f xs)) xs)

put_map : {A B : Type 0} (less : B → B → Bool) (f : A → B) (x : A) (xs : List A) → put less (f x) (map f xs) ≡ map f (put (λ a b. less (f a) (f b)) x xs)
put_map less f x [] = refl
put_map less f x (y ∷ ys) =
    elim (less (f x) (f y)) as (λ b. cond b (f x ∷ f y ∷ map f ys) (f y ∷ put less (f x) (map f ys)) ≡ map f (cond b (x ∷ y ∷ ys) (y ∷ put (λ a b. less (f a) (f b)) x ys))) [ true ↦ refl | false ↦ ap (λ zs. f y ∷ zs) (put_map less f x ys) ]

pub in_order_map : {A B : Type 0} (less : B → B → Bool) (f : A → B) (xs : List A) → in_order less (map f xs) ≡ map f (in_order (λ a b. less (f a) (f b)) xs)
in_order_map less f [] = refl
in_order_map less f (x ∷ xs) = ap (put less (f x)) (in_order_map less f xs) ∙ put_map less f x (in_order (λ a b. less (f a) (f b)) xs)

pub map_flat_map : {A B C : Type 0} (f : B → C) (g : A → List B) (xs : List A) → map f (flat_map g xs) ≡ flat_map (λ x. map f (g x)) xs
map_flat_map f g [] = refl
map_flat_map f g (x ∷ xs) = map-append f (g x) (flat_map g xs) ∙ ap (λ ys. map f (g x) ++ ys) (map_flat_map f g xs)

find_filter : {A : Type 0} (p q : A → Bool) (xs : List A) → find q (filter p xs) ≡ find (λ x. p x && q x) xs
find_filter p q [] = refl
find_filter p q (x ∷ xs) =
    elim (p x) as (λ b. find q (cond b (x ∷ filter p xs) (filter p xs)) ≡ cond (b && q x) (Some x) (find (λ x. p x && q x) xs))
    [ true ↦ ap (λ o. cond (q x) (Some x) o) (find_filter p q xs) | false ↦ find_filter p q xs ]

list_any_filter : {A : Type 0} (p q : A → Bool) (xs : List A) → list_any q (filter p xs) ≡ list_any (λ x. p x && q x) xs
list_any_filter p q [] = refl
list_any_filter p q (x ∷ xs) =
    elim (p x) as (λ b. list_any q (cond b (x ∷ filter p xs) (filter p xs)) ≡ ((b && q x) || list_any (λ x. p x && q x) xs))
    [ true ↦ ap (λ b. q x || b) (list_any_filter p q xs) | false ↦ list_any_filter p q xs ]

-- the least of those that pass, without a list of them
pub least_filter : {A : Type 0} (less : A → A → Bool) (p : A → Bool) (xs : List A) → find (λ x. p x && not (list_any (λ y. p y && less y x) xs)) xs ≡ least less (filter p xs)
least_filter less p xs =
    find_same (λ x. p x && not (list_any (λ y. p y && less y x) xs)) (λ x. p x && not (list_any (λ y. less y x) (filter p xs))) (λ x. ap (λ b. p x && not b) (sym (list_any_filter p (λ y. less y x) xs))) xs
    ∙ sym (find_filter p (λ x. not (list_any (λ y. less y x) (filter p xs))) xs)

option_map_back : {A B : Type 0} (f : A → B) (g : B → A) → ((x : A) → g (f x) ≡ x) → (o : Option A) → option_map g (option_map f o) ≡ o
option_map_back f g h None = refl
option_map_back f g h (Some x) = ap Some (h x)

-- the same over a table, whose rows tell what they are of
pub least_filter_map : {A B : Type 0} (less : B → B → Bool) (p : B → Bool) (f : A → B) (g : B → A) → ((x : A) → g (f x) ≡ x) → (xs : List A) → option_map g (find (λ x. p x && not (list_any (λ y. p y && less y x) (map f xs))) (map f xs)) ≡ least (λ a b. less (f a) (f b)) (filter (λ x. p (f x)) xs)
least_filter_map less p f g h xs =
    ap (option_map g) (least_filter less p (map f xs) ∙ ap (least less) (filter_map p f xs) ∙ least_map less f (filter (λ x. p (f x)) xs))
    ∙ option_map_back f g h (least (λ a b. less (f a) (f b)) (filter (λ x. p (f x)) xs))
