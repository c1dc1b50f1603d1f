-- The keys of pages, and the lists of pages that the keys of the queues stand for.
use Rattle.std.proofs.Common.{◌≡◌, ℕ, zero, suc, ◌+◌, ◌*◌, ◌/◌, ◌%◌, ◌<◌, ◌≤◌, List, [], ◌∷◌, ◌++◌, length, map, filter, set, get_or, cond, if◌then◌else◌, not, Option, Some, None, nat_eq, refl, sym, ap, ap₂, ◌∙◌, subst, Bool, true, false, ◌&&◌, ◌||◌, inl, inr, arith}
use Rattle.std.proofs.lemmas.Bool.{cases_eq, cases_lt, cases_Bool, true≢false, false≢true, eq-eqb, ne_eqb}
use Rattle.std.proofs.lemmas.Bool.Decides.{eqb_tells, nat_tests}
use Rattle.std.proofs.lemmas.List.{map-append, append-nil, length-set, get_or-map, get_or-set_same, get_or-set_other, get_or_past}
use Rattle.kern_ids.specs.declared.ids.PageId.{PageId}
use Rattle.kernel_model.specs.Pages.{same_page}
use Rattle.kernel_model.specs.Laws.Order.{Has}
use Rattle.kernel_model.proofs.Laws.Frames.{same_page-is}
use Rattle.link_list.specs.KeyLists.{list_at, has, place_of, without}
use Rattle.link_list.proofs.Members.{without_head, without_other, has_push_new, has_push_other, has_without_other, has_without_none, has_without}
use Rattle.page_queues.specs.Tallies.{taken, moved}
use Rattle.page_queues.specs.Pages.{key_of, page_of}

pub same_itself : (p : PageId) → same_page p p ≡ true
same_itself p = ap₂ (λ a b. a && b) (eq-eqb p.obj p.obj refl) (eq-eqb p.page p.page refl)

pub and_true : (b : Bool) → (b && true) ≡ b
and_true true = refl
and_true false = refl

pub or_false : (b : Bool) → (b || false) ≡ b
or_false true = refl
or_false false = refl

-- the page of a page's key, and the key of a key's page
pub page_of-key : (p : PageId) → p.page < 256 → page_of (key_of p) ≡ p
page_of-key p l =
    let o : (256 * p.obj + p.page) / 256 ≡ p.obj = omega arith in
    let k : (256 * p.obj + p.page) % 256 ≡ p.page = omega arith in
    ap₂ (λ o k. record { obj = o; page = k }) o k

pub key_of-page : (key : ℕ) → key_of (page_of key) ≡ key
key_of-page key = omega arith

-- two pages are one where their keys are
pub other-key : (p q : PageId) → p.page < 256 → q.page < 256 → same_page p q ≡ false → key_of q ≡ key_of p → ⊥
other-key p q lp lq differs same =
    let o : q.obj ≡ p.obj = omega arith in
    let k : q.page ≡ p.page = omega arith in
    true≢false (ap₂ (λ a b. a && b) (sym (eq-eqb p.obj q.obj (sym o))) (sym (eq-eqb p.page q.page (sym k))) ∙ differs)

same-page_of : (p : PageId) (x : ℕ) → p.page < 256 → key_of p ≡ x → same_page p (page_of x) ≡ true
same-page_of p x l same =
    let o : p.obj ≡ x / 256 = omega arith in
    let k : p.page ≡ x % 256 = omega arith in
    ap₂ (λ a b. a && b) (eq-eqb p.obj (x / 256) o) (eq-eqb p.page (x % 256) k)

apart-page_of : (p : PageId) (x : ℕ) → (key_of p ≡ x → ⊥) → same_page p (page_of x) ≡ false
apart-page_of p x differs = elim (cases_Bool (same_page p (page_of x))) [
  | inl same ↦ absurd (differs (sym (ap key_of (same_page-is p (page_of x) same)) ∙ key_of-page x))
  | inr other ↦ other
]

kept_head : (p : PageId) (x : ℕ) (xs : List ℕ) → same_page p (page_of x) ≡ false → filter (λ q. not (same_page p q)) (map page_of (x ∷ xs)) ≡ page_of x ∷ filter (λ q. not (same_page p q)) (map page_of xs)
kept_head p x xs b = ap (λ t. cond (not t) (page_of x ∷ filter (λ q. not (same_page p q)) (map page_of xs)) (filter (λ q. not (same_page p q)) (map page_of xs))) b

gone_head : (p : PageId) (x : ℕ) (xs : List ℕ) → same_page p (page_of x) ≡ true → filter (λ q. not (same_page p q)) (map page_of (x ∷ xs)) ≡ filter (λ q. not (same_page p q)) (map page_of xs)
gone_head p x xs b = ap (λ t. cond (not t) (page_of x ∷ filter (λ q. not (same_page p q)) (map page_of xs)) (filter (λ q. not (same_page p q)) (map page_of xs))) b

-- the pages of keys without one
map-without : (p : PageId) (keys : List ℕ) → p.page < 256 → map page_of (without (key_of p) keys) ≡ filter (λ q. not (same_page p q)) (map page_of keys)
map-without p [] l = refl
map-without p (x ∷ xs) l = elim (cases_eq (key_of p) x) [
  | inl same ↦ ap (map page_of) (without_head (key_of p) x xs same) ∙ map-without p xs l ∙ sym (gone_head p x xs (same-page_of p x l same))
  | inr other ↦ ap (map page_of) (without_other (key_of p) x xs other) ∙ ap (λ ps. page_of x ∷ ps) (map-without p xs l) ∙ sym (kept_head p x xs (apart-page_of p x other))
]

-- and with it at the end, or not
pub map-moved : (p : PageId) (keys : List ℕ) (comes : Bool) → p.page < 256 → map page_of (without (key_of p) keys ++ cond comes (key_of p ∷ []) []) ≡ filter (λ q. not (same_page p q)) (map page_of keys) ++ cond comes (p ∷ []) []
map-moved p keys true l = map-append page_of (without (key_of p) keys) (key_of p ∷ []) ∙ ap₂ (λ ps q. ps ++ q ∷ []) (map-without p keys l) (page_of-key p l)
map-moved p keys false l = map-append page_of (without (key_of p) keys) [] ∙ ap (λ ps. ps ++ []) (map-without p keys l)

-- the three lists
pub three-lists : (queues : List (List ℕ)) → length queues ≡ 3 → (a : List ℕ) × (b : List ℕ) × (c : List ℕ) × (queues ≡ a ∷ b ∷ c ∷ [])
three-lists [] h = absurd (omega arith)
three-lists (a ∷ []) h = absurd (omega arith)
three-lists (a ∷ b ∷ []) h = absurd (omega arith)
three-lists (a ∷ b ∷ c ∷ []) h = (a, b, c, refl)
three-lists (a ∷ b ∷ c ∷ d ∷ rest) h = absurd (omega arith)

-- where a key stands after a move of another one, and after its own
abbrev first_place : Bool → Bool → Bool → Option ℕ
first_place x y z = if x then Some 0 else if y then Some 1 else if z then Some 2 else None

place-three : (key : ℕ) (a b c : List ℕ) → place_of key (a ∷ b ∷ c ∷ []) ≡ first_place (has key a) (has key b) (has key c)
place-three key a b c = elim (cases_Bool (has key a)) [
  | inl x ↦ rw x refl
  | inr x ↦ elim (cases_Bool (has key b)) [
    | inl y ↦ rw (x, y) refl
    | inr y ↦ elim (cases_Bool (has key c)) [
      | inl z ↦ rw (x, y, z) refl
      | inr z ↦ rw (x, y, z) refl
    ]
  ]
]

has-without_other : (x key : ℕ) (xs : List ℕ) → (x ≡ key → ⊥) → has x (without key xs) ≡ has x xs
has-without_other x key xs differs = elim (cases_Bool (has x xs)) [
  | inl there ↦ has_without_other x key xs differs there ∙ sym there
  | inr absent ↦ has_without_none x key xs absent ∙ sym absent
]

has-without_same : (key : ℕ) (xs : List ℕ) → has key (without key xs) ≡ false
has-without_same key xs = elim (cases_Bool (has key (without key xs))) [
  | inl there ↦ absurd ((has_without key key xs there).0 refl)
  | inr absent ↦ absent
]

has-come : (x key : ℕ) (xs : List ℕ) → (x ≡ key → ⊥) → has x (without key xs ++ key ∷ []) ≡ has x xs
has-come x key xs differs = has_push_other x key (without key xs) differs ∙ has-without_other x key xs differs

pub place-taken_other : (queues : List (List ℕ)) (x key : ℕ) → length queues ≡ 3 → (x ≡ key → ⊥) → place_of x (taken queues key) ≡ place_of x queues
place-taken_other queues x key three differs =
    let q = three-lists queues three in
    ap (λ qs. place_of x (taken qs key)) q.3
    ∙ place-three x (without key q.0) (without key q.1) (without key q.2)
    ∙ rw (has-without_other x key q.0 differs, has-without_other x key q.1 differs, has-without_other x key q.2 differs) (sym (place-three x q.0 q.1 q.2))
    ∙ sym (ap (place_of x) q.3)

pub place-taken_same : (queues : List (List ℕ)) (key : ℕ) → length queues ≡ 3 → place_of key (taken queues key) ≡ None
place-taken_same queues key three =
    let q = three-lists queues three in
    ap (λ qs. place_of key (taken qs key)) q.3
    ∙ place-three key (without key q.0) (without key q.1) (without key q.2)
    ∙ rw (has-without_same key q.0, has-without_same key q.1, has-without_same key q.2) refl

three-moved_other : (l : ℕ) (a b c : List ℕ) (x key : ℕ) → l < 3 → (x ≡ key → ⊥) → place_of x (moved (a ∷ b ∷ c ∷ []) key l) ≡ place_of x (a ∷ b ∷ c ∷ [])
three-moved_other zero a b c x key l differs =
    place-three x (without key a ++ key ∷ []) (without key b) (without key c)
    ∙ rw (has-come x key a differs, has-without_other x key b differs, has-without_other x key c differs) (sym (place-three x a b c))
three-moved_other (suc zero) a b c x key l differs =
    place-three x (without key a) (without key b ++ key ∷ []) (without key c)
    ∙ rw (has-without_other x key a differs, has-come x key b differs, has-without_other x key c differs) (sym (place-three x a b c))
three-moved_other (suc (suc zero)) a b c x key l differs =
    place-three x (without key a) (without key b) (without key c ++ key ∷ [])
    ∙ rw (has-without_other x key a differs, has-without_other x key b differs, has-come x key c differs) (sym (place-three x a b c))
three-moved_other (suc (suc (suc n))) a b c x key l differs = absurd (omega arith)

three-moved_same : (l : ℕ) (a b c : List ℕ) (key : ℕ) → l < 3 → place_of key (moved (a ∷ b ∷ c ∷ []) key l) ≡ Some l
three-moved_same zero a b c key l =
    place-three key (without key a ++ key ∷ []) (without key b) (without key c) ∙ rw (has_push_new key (without key a)) refl
three-moved_same (suc zero) a b c key l =
    place-three key (without key a) (without key b ++ key ∷ []) (without key c) ∙ rw (has-without_same key a, has_push_new key (without key b)) refl
three-moved_same (suc (suc zero)) a b c key l =
    place-three key (without key a) (without key b) (without key c ++ key ∷ []) ∙ rw (has-without_same key a, has-without_same key b, has_push_new key (without key c)) refl
three-moved_same (suc (suc (suc n))) a b c key l = absurd (omega arith)

pub place-moved_other : (queues : List (List ℕ)) (x key l : ℕ) → length queues ≡ 3 → l < 3 → (x ≡ key → ⊥) → place_of x (moved queues key l) ≡ place_of x queues
place-moved_other queues x key l three small differs =
    let q = three-lists queues three in
    ap (λ qs. place_of x (moved qs key l)) q.3 ∙ three-moved_other l q.0 q.1 q.2 x key small differs ∙ sym (ap (place_of x) q.3)

pub place-moved_same : (queues : List (List ℕ)) (key l : ℕ) → length queues ≡ 3 → l < 3 → place_of key (moved queues key l) ≡ Some l
place-moved_same queues key l three small =
    let q = three-lists queues three in
    ap (λ qs. place_of key (moved qs key l)) q.3 ∙ three-moved_same l q.0 q.1 q.2 key small

-- a mark that is taken away is away, wherever the key is
pub unmarked : (marks : List Bool) (key : ℕ) → get_or (set marks key false) key false ≡ false
unmarked marks key = elim (cases_lt key (length marks)) [
  | inl below ↦ get_or-set_same marks key false false below
  | inr past ↦ get_or_past (set marks key false) key false (let e : length (set marks key false) ≡ length marks = length-set marks key false in omega arith)
]
