-- Tables that are rewritten in place, a row at a time.
use Rattle.std.proofs.Common.{◌≡◌, ℕ, ◌+◌, ◌<◌, ◌≤◌, List, [], ◌∷◌, ◌++◌, length, drop, get_or, set, map, refl, sym, ap, ap₂, ◌∙◌, arith, append_assoc, append-nil}
use Rattle.std.specs.List.{range_with_len}
use Rattle.std.proofs.lemmas.List.{drop_all, drop_more, get_or_at, set_at, length-append, length-drop}
use Rattle.std.proofs.lemmas.List.FromFn.{length-map-range_with_len, get_or-map-range_with_len, map-range_with_len_more}
use Rattle.slow_kernel.specs.Tables.{mixed}

pub mixed_start : {A : Type 0} (f g : ℕ → A) (n : ℕ) → mixed f g n 0 ≡ map f (range_with_len 0 n)
unfolding mixed
mixed_start f g n = refl

pub mixed_end : {A : Type 0} (f g : ℕ → A) (n : ℕ) → mixed f g n n ≡ map g (range_with_len 0 n)
unfolding mixed
mixed_end f g n =
    let l = length-map-range_with_len f 0 n in
    ap (λ ys. map g (range_with_len 0 n) ++ ys) (drop_all n (map f (range_with_len 0 n)) (omega arith)) ∙ append-nil (map g (range_with_len 0 n))

pub mixed_length : {A : Type 0} (f g : ℕ → A) (n i : ℕ) → i ≤ n → length (mixed f g n i) ≡ n
unfolding mixed
mixed_length f g n i h =
    let lf = length-map-range_with_len f 0 n in
    let lg = length-map-range_with_len g 0 i in
    let a = length-append (map g (range_with_len 0 i)) (drop i (map f (range_with_len 0 n))) in
    let d = length-drop i (map f (range_with_len 0 n)) in
    omega arith

-- the rows from i on begin with that of f
rest-more : {A : Type 0} (f : ℕ → A) (n i : ℕ) → i < n → drop i (map f (range_with_len 0 n)) ≡ f i ∷ drop (i + 1) (map f (range_with_len 0 n))
rest-more f n i h =
    let l = length-map-range_with_len f 0 n in
    drop_more (map f (range_with_len 0 n)) i (f i) (omega arith)
    ∙ ap (λ x. x ∷ drop (i + 1) (map f (range_with_len 0 n))) (get_or-map-range_with_len f 0 n i i (f i) h (omega arith))

pub mixed_read : {A : Type 0} (f g : ℕ → A) (n i : ℕ) (d : A) → i < n → get_or (mixed f g n i) i d ≡ f i
unfolding mixed
mixed_read f g n i d h =
    ap (λ ys. get_or (map g (range_with_len 0 i) ++ ys) i d) (rest-more f n i h)
    ∙ get_or_at (map g (range_with_len 0 i)) (f i) (drop (i + 1) (map f (range_with_len 0 n))) d i (length-map-range_with_len g 0 i)

pub mixed_write : {A : Type 0} (f g : ℕ → A) (n i : ℕ) (y : A) → i < n → y ≡ g i → set (mixed f g n i) i y ≡ mixed f g n (i + 1)
unfolding mixed
mixed_write f g n i y h e =
    let rest = drop (i + 1) (map f (range_with_len 0 n)) in
    ap (λ ys. set (map g (range_with_len 0 i) ++ ys) i y) (rest-more f n i h)
    ∙ set_at (map g (range_with_len 0 i)) (f i) rest y i (length-map-range_with_len g 0 i)
    ∙ ap (λ x. map g (range_with_len 0 i) ++ x ∷ rest) e
    ∙ sym (ap (λ xs. xs ++ rest) (map-range_with_len_more g 0 i i (omega arith)) ∙ append_assoc (map g (range_with_len 0 i)) (g i ∷ []) rest)

-- two functions that agree make one table
pub map_same : {A B : Type 0} (f g : A → B) → ((x : A) → f x ≡ g x) → (xs : List A) → map f xs ≡ map g xs
map_same f g h [] = refl
map_same f g h (x ∷ xs) = ap₂ (λ y ys. y ∷ ys) (h x) (map_same f g h xs)

-- one row more
pub table_more : {A : Type 0} (f : ℕ → A) (k : ℕ) → map f (range_with_len 0 (k + 1)) ≡ map f (range_with_len 0 k) ++ f k ∷ []
table_more f k = map-range_with_len_more f 0 k k (omega arith)

-- the same for a list that is the table
pub mixed_at : {A : Type 0} (f g : ℕ → A) (n i : ℕ) (xs : List A) (x : A) → xs ≡ mixed f g n i → i < n → x ≡ get_or xs i x → x ≡ f i
mixed_at f g n i xs x e h r = r ∙ ap (λ ys. get_or ys i x) e ∙ mixed_read f g n i x h

pub mixed_step : {A : Type 0} (f g : ℕ → A) (n i : ℕ) (xs : List A) (y : A) → xs ≡ mixed f g n i → i < n → y ≡ g i → set xs i y ≡ mixed f g n (i + 1)
mixed_step f g n i xs y e h r = ap (λ ys. set ys i y) e ∙ mixed_write f g n i y h r

pub mixed_all : {A : Type 0} (f g : ℕ → A) (n i : ℕ) (xs : List A) → xs ≡ mixed f g n i → i ≡ n → xs ≡ map g (range_with_len 0 n)
mixed_all f g n i xs e h = e ∙ ap (mixed f g n) h ∙ mixed_end f g n

pub table_length : {A : Type 0} (f : ℕ → A) (n : ℕ) (xs : List A) → xs ≡ map f (range_with_len 0 n) → length xs ≡ n
table_length f n xs e = ap length e ∙ length-map-range_with_len f 0 n

pub table_at : {A : Type 0} (f : ℕ → A) (n k : ℕ) (xs : List A) (x : A) → xs ≡ map f (range_with_len 0 n) → k < n → x ≡ get_or xs k x → x ≡ f k
table_at f n k xs x e h r = r ∙ ap (λ ys. get_or ys k x) e ∙ get_or-map-range_with_len f 0 n k k x h (omega arith)
