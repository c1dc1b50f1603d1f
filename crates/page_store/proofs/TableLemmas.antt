-- The pages that keys have in a slab.
use Rattle.std.proofs.Common.{◌≡◌, ◌≢◌, ℕ, ◌<◌, List, [], length, set, replicate, get_or, Option, Some, None, option_map, option_and_then, is_some, IsNone, cond, count_by, refl, sym, ap, ◌∙◌, inl, inr, arith, ◌+◌}
use Rattle.std.proofs.Math.ListN.{get_or-map}
use Rattle.std.proofs.lemmas.Bool.{cases_eq, cases_lt}
use Rattle.std.proofs.lemmas.List.{ext_get_or, length-map, length-set, get_or-set_other, set-get_or, get_or_past, length-replicate, get_or-replicate, get_or_default}
use Rattle.std.proofs.lemmas.List.Sums.{sum_by-set}
use Rattle.std.proofs.lemmas.List.Folds.{sum_by-replicate}
use Rattle.std.proofs.lemmas.Grind.{get_or-set_at}
use Rattle.std.proofs.lemmas.Option.{none-some}
use Rattle.slab.specs.Slab.{Slab, get, Updates, slab_len}
use Rattle.page_store.specs.Tables.{page_at, key_at, pages_in, key_count, ArePages, IsKept}

pub page_at-pages_in : (slab : Slab (List ℕ)) (keys : List (Option ℕ)) (page : ℕ) → page_at (pages_in slab keys) page ≡ option_and_then (get slab) (key_at keys page)
page_at-pages_in slab keys page = get_or-map (option_and_then (get slab)) keys page None

-- what a key other than k has is as before
others_kept : (old new : Slab (List ℕ)) (k : ℕ) (slot : Option (List ℕ)) → Updates old new k slot → (key : Option ℕ) → (key ≡ Some k → ⊥) → option_and_then (get new) key ≡ option_and_then (get old) key
others_kept old new k slot updates None other = refl
others_kept old new k slot updates (Some key) other = updates.others key (λ same. other (ap (λ x. Some x) same))

-- one page has the key k, at which the slab was changed
pub pages_in-set : (old new : Slab (List ℕ)) (keys : List (Option ℕ)) (page k : ℕ) (slot : Option (List ℕ)) → page < length keys → Updates old new k slot → ((other : ℕ) → other ≢ page → key_at keys other ≡ Some k → ⊥) → pages_in new (set keys page (Some k)) ≡ set (pages_in old keys) page slot
pages_in-set old new keys page k slot inside updates alone =
    let before = length-map keys (option_and_then (get old)) in
    let within : page < length (pages_in old keys) = omega (arith, before) in
    ext_get_or None _ _
    (length-map (set keys page (Some k)) (option_and_then (get new)) ∙ length-set keys page (Some k) ∙ sym (length-set (pages_in old keys) page slot ∙ before))
    (λ other _. elim (cases_eq other page) [
      | inl same ↦
          page_at-pages_in new (set keys page (Some k)) other
          ∙ ap (option_and_then (get new)) (get_or-set_at keys page other (Some k) None same inside)
          ∙ updates.changed
          ∙ sym (get_or-set_at (pages_in old keys) page other slot None same within)
      | inr differs ↦
          page_at-pages_in new (set keys page (Some k)) other
          ∙ ap (option_and_then (get new)) (get_or-set_other keys page other (Some k) None differs)
          ∙ others_kept old new k slot updates (key_at keys other) (alone other differs)
          ∙ sym (page_at-pages_in old keys other)
          ∙ sym (get_or-set_other (pages_in old keys) page other slot None differs)
    ])

-- a page gets a key that had nothing
pub pages_in-added : (old new : Slab (List ℕ)) (keys : List (Option ℕ)) (page k : ℕ) (bytes : List ℕ) → IsKept old keys → page < 256 → get old k ≡ None → Updates old new k (Some bytes) → pages_in new (set keys page (Some k)) ≡ set (pages_in old keys) page (Some bytes)
pages_in-added old new keys page k bytes kept inside vacant updates =
    pages_in-set old new keys page k (Some bytes) (omega (arith, kept.count)) updates (λ other differs has. let some = kept.held other k has in cc)

-- the bytes of a page change
pub pages_in-changed : (old new : Slab (List ℕ)) (keys : List (Option ℕ)) (page k : ℕ) (f : List ℕ → List ℕ) → IsKept old keys → page < 256 → key_at keys page ≡ Some k → Updates old new k (option_map f (get old k)) → pages_in new keys ≡ set (pages_in old keys) page (option_map f (page_at (pages_in old keys) page))
pages_in-changed old new keys page k f kept inside has updates =
    let same : set keys page (Some k) ≡ keys = ap (λ x. set keys page x) (sym has) ∙ set-get_or keys page None in
    let there : page_at (pages_in old keys) page ≡ get old k = page_at-pages_in old keys page ∙ ap (option_and_then (get old)) has in
    sym (ap (pages_in new) same)
    ∙ pages_in-set old new keys page k (option_map f (get old k)) (omega (arith, kept.count)) updates (λ other differs also. differs (kept.apart other page k also has))
    ∙ ap (λ x. set (pages_in old keys) page (option_map f x)) (sym there)

-- what a key has is full
full_of : (slab : Slab (List ℕ)) (keys : List (Option ℕ)) → IsKept slab keys → (bytes : List ℕ) (key : Option ℕ) → option_and_then (get slab) key ≡ Some bytes → length bytes ≡ 4096
full_of slab keys kept bytes None is = cc
full_of slab keys kept bytes (Some key) is = kept.full key bytes is

pub kept_pages : (slab : Slab (List ℕ)) (keys : List (Option ℕ)) → IsKept slab keys → ArePages (pages_in slab keys)
kept_pages slab keys kept = record {
  count = length-map keys (option_and_then (get slab)) ∙ kept.count;
  full = λ page bytes is. full_of slab keys kept bytes (key_at keys page) (sym (page_at-pages_in slab keys page) ∙ is);
}

-- no page has a key
key_at-none : (n page : ℕ) → key_at (replicate n None) page ≡ None
key_at-none n page = elim (cases_lt page n) [
  | inl inside ↦ get_or-replicate n page None None inside
  | inr past ↦ get_or_past (replicate n None) page None (let long = length-replicate {A = Option ℕ} n None in omega arith)
]

-- a page gets a key
pub key_count-set : (keys : List (Option ℕ)) (page k : ℕ) → page < length keys → key_at keys page ≡ None → key_count (set keys page (Some k)) ≡ key_count keys + 1
key_count-set keys page k inside none =
    let counts : Option ℕ → ℕ = λ (key : Option ℕ). cond (is_some key) 1 0 in
    omega (arith, ap counts none, sum_by-set counts keys page (Some k) None inside)

-- the key that a page was given, and that of another page
given_key : (keys : List (Option ℕ)) (page other k key : ℕ) → page < length keys → other ≡ page → key_at (set keys page (Some k)) other ≡ Some key → key ≡ k
given_key keys page other k key inside same is = let given = get_or-set_at keys page other (Some k) None same inside in cc

old_key : (keys : List (Option ℕ)) (page other k key : ℕ) → other ≢ page → key_at (set keys page (Some k)) other ≡ Some key → key_at keys other ≡ Some key
old_key keys page other k key differs is = sym (get_or-set_other keys page other (Some k) None differs) ∙ is

-- a key that has nothing is no page's
not_vacant : (slab : Slab (List ℕ)) (keys : List (Option ℕ)) (k page key : ℕ) → IsKept slab keys → get slab k ≡ None → key_at keys page ≡ Some key → key ≡ k → ⊥
not_vacant slab keys k page key kept vacant is same = let there = kept.held page key is in cc

-- an absent page has no key
key_of_absent : (slab : Slab (List ℕ)) (keys : List (Option ℕ)) (page : ℕ) (key : Option ℕ) → IsKept slab keys → IsNone (page_at (pages_in slab keys) page) → key_at keys page ≡ key → key ≡ None
key_of_absent slab keys page None kept absent is = refl
key_of_absent slab keys page (Some key) kept absent is =
    let there = kept.held page key is in
    let here : page_at (pages_in slab keys) page ≡ get slab key = page_at-pages_in slab keys page ∙ ap (option_and_then (get slab)) is in
    absurd (cc)

-- an absent page gets a new key with a page
pub kept_added : (old new : Slab (List ℕ)) (keys : List (Option ℕ)) (page k : ℕ) (bytes : List ℕ) → IsKept old keys → page < 256 → IsNone (page_at (pages_in old keys) page) → get old k ≡ None → Updates old new k (Some bytes) → length bytes ≡ 4096 → slab_len new ≡ slab_len old + 1 → IsKept new (set keys page (Some k))
kept_added old new keys page k bytes kept inside absent vacant updates long more =
    let within : page < length keys = omega (arith, kept.count) in
    record {
      count = length-set keys page (Some k) ∙ kept.count;
      held = λ other key is. elim (cases_eq other page) [
        | inl same ↦ ap (λ (n : ℕ). is_some (get new n)) (given_key keys page other k key within same is) ∙ ap is_some updates.changed
        | inr differs ↦
            let was = old_key keys page other k key differs is in
            ap is_some (updates.others key (not_vacant old keys k other key kept vacant was)) ∙ kept.held other key was
      ];
      full = λ key found is. elim (cases_eq key k) [
        | inl same ↦ let new_page = updates.changed in let it : bytes ≡ found = cc in ap length (sym it) ∙ long
        | inr differs ↦ kept.full key found (sym (updates.others key differs) ∙ is)
      ];
      apart = λ one other key is also. elim (cases_eq one page) [
        | inl here ↦ elim (cases_eq other page) [
          | inl there ↦ here ∙ sym there
          | inr differs ↦ absurd (not_vacant old keys k other key kept vacant (old_key keys page other k key differs also) (given_key keys page one k key within here is))
        ]
        | inr elsewhere ↦ elim (cases_eq other page) [
          | inl there ↦ absurd (not_vacant old keys k one key kept vacant (old_key keys page one k key elsewhere is) (given_key keys page other k key within there also))
          | inr differs ↦ kept.apart one other key (old_key keys page one k key elsewhere is) (old_key keys page other k key differs also)
        ]
      ];
      whole = omega (arith, more, kept.whole, key_count-set keys page k within (key_of_absent old keys page (key_at keys page) kept absent refl));
    }

key_count-none : (n : ℕ) → key_count (replicate n None) ≡ 0
key_count-none n = omega (arith, sum_by-replicate (λ (key : Option ℕ). cond (is_some key) 1 0) n None)

pub kept_none : (slab : Slab (List ℕ)) (keys : List (Option ℕ)) → slab.slots ≡ [] → keys ≡ replicate 256 None → IsKept slab keys
kept_none slab keys empty none =
    let no_key : (page : ℕ) → key_at keys page ≡ None = λ (page : ℕ). ap (λ (ks : List (Option ℕ)). key_at ks page) none ∙ key_at-none 256 page in
    let no_slot : (key : ℕ) → get slab key ≡ None = λ (key : ℕ). ap (λ (slots : List (Option (List ℕ))). get_or slots key None) empty in
    record {
      count = ap length none ∙ length-replicate {A = Option ℕ} 256 None;
      held = λ page key is. absurd (none-some key (sym (no_key page) ∙ is));
      full = λ key bytes is. absurd (none-some bytes (sym (no_slot key) ∙ is));
      apart = λ page other key is also. absurd (none-some key (sym (no_key page) ∙ is));
      whole = ap (λ (slots : List (Option (List ℕ))). count_by is_some slots) empty ∙ sym (ap key_count none ∙ key_count-none 256);
    }

-- what is read at a page of the keys
pub key_read : (keys : List (Option ℕ)) (page k : ℕ) (read : Option ℕ) → page < length keys → read ≡ get_or keys page read → read ≡ Some k → key_at keys page ≡ Some k
key_read keys page k read inside from is = get_or_default keys page None read inside ∙ sym from ∙ is
