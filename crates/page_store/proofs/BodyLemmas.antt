-- The bytes and the prepared places that pages have.
use Rattle.std.proofs.Common.{◌≡◌, ℕ, ◌+◌, ◌-◌, ◌*◌, ◌/◌, ◌%◌, ◌<◌, ◌≤◌, Bool, true, false, List, ◌++◌, length, map, set, take, drop, replicate, get_or, Option, Some, None, is_some, unwrap_or, option_map, refl, sym, ap, ap₂, ◌∙◌, inl, inr, arith}
use Rattle.std.proofs.Math.ListN.{get_or-map}
use Rattle.std.proofs.Math.Seq.{map-set_same}
use Rattle.std.proofs.lemmas.Bool.{cases_eq, cases_lt}
use Rattle.std.proofs.lemmas.List.{get_or_append_left, get_or-append_right, get_or-take, get_or-drop, length-take-le, get_or_past, get_or-set_other, get_or-set_same, get_or-replicate, set-get_or, map-set}
use Rattle.std.specs.Option.{option_map_or}
use Rattle.page_store.specs.Contents.{Contents, bytes_of, written_at, overwritten, IsRangePrepared, nothing}
use Rattle.page_store.specs.Tables.{page_at, byte_in, page_with, ArePages}
use Rattle.page_store.proofs.ContentsLemmas.{written_at-before, written_at-past, written_at-inside, bytes_of-alike, byte_at-bytes_of, bytes_of-zero, overwritten-append}

-- a byte of a page after a write of some bytes from a place in it on
get_or-page_with : (page : List ℕ) (start : ℕ) (bytes : List ℕ) (k : ℕ) → start + length bytes ≤ length page → get_or (page_with page start bytes) k 0 ≡ unwrap_or (written_at start bytes k) (get_or page k 0)
get_or-page_with page start bytes k fits =
    let front = length-take-le start page (omega arith) in
    let after = drop (start + length bytes) page in
    elim (cases_lt k start) [
      | inl before ↦ rw (written_at-before start bytes k before) (get_or_append_left (take start page) (bytes ++ after) 0 k (omega arith) ∙ get_or-take start page k 0 before)
      | inr from ↦
          let second = get_or-append_right (take start page) (bytes ++ after) start k 0 front from in
          elim (cases_lt k (start + length bytes)) [
            | inl below ↦ rw (written_at-inside start bytes k from below) (second ∙ get_or_append_left bytes after 0 (k - start) (omega arith))
            | inr past ↦
                let place : start + length bytes + (k - start - length bytes) ≡ k = omega arith in
                rw (written_at-past start bytes k past) (second ∙ get_or-append_right bytes after (length bytes) (k - start) 0 refl (omega arith) ∙ get_or-drop (start + length bytes) page (k - start - length bytes) 0 ∙ ap (λ i. get_or page i 0) place)
          ]
    ]

-- the same write seen from another first place
written_at-shift : (n off : ℕ) (bytes : List ℕ) (place : ℕ) → written_at (n + off) bytes (n + place) ≡ written_at off bytes place
written_at-shift n off bytes place = elim (cases_lt place off) [
  | inl before ↦ written_at-before (n + off) bytes (n + place) (omega arith) ∙ sym (written_at-before off bytes place before)
  | inr from ↦ elim (cases_lt place (off + length bytes)) [
    | inl below ↦
        let same : n + place - (n + off) ≡ place - off = omega arith in
        written_at-inside (n + off) bytes (n + place) (omega arith) (omega arith) ∙ ap (λ i. Some (get_or bytes i 0)) same ∙ sym (written_at-inside off bytes place from below)
    | inr past ↦ written_at-past (n + off) bytes (n + place) (omega arith) ∙ sym (written_at-past off bytes place past)
  ]
]

byte_in-here : (pages : List (Option (List ℕ))) (place n : ℕ) (page : List ℕ) → place / 4096 ≡ n → page_at pages n ≡ Some page → byte_in pages place ≡ get_or page (place % 4096) 0
byte_in-here pages place n page same is = ap (λ o. option_map_or (λ (bytes : List ℕ). get_or bytes (place % 4096) 0) o 0) (ap (page_at pages) same ∙ is)

-- a page keeps its number of bytes
written_outside : (off : ℕ) (bytes : List ℕ) (place : ℕ) → off % 4096 + length bytes ≤ 4096 → (place / 4096 ≡ off / 4096 → ⊥) → written_at off bytes place ≡ None
written_outside off bytes place fits differs = elim (cases_lt place off) [
  | inl before ↦ written_at-before off bytes place before
  | inr from ↦ elim (cases_lt place (off + length bytes)) [
    | inl below ↦ absurd (differs (omega arith))
    | inr past ↦ written_at-past off bytes place past
  ]
]

-- bytes are written into one page
pub byte_in-written : (pages : List (Option (List ℕ))) (page : List ℕ) (off : ℕ) (bytes : List ℕ) (place : ℕ) → off / 4096 < length pages → page_at pages (off / 4096) ≡ Some page → length page ≡ 4096 → off % 4096 + length bytes ≤ 4096 → byte_in (set pages (off / 4096) (Some (page_with page (off % 4096) bytes))) place ≡ unwrap_or (written_at off bytes place) (byte_in pages place)
byte_in-written pages page off bytes place there is full fits =
    let changed = page_with page (off % 4096) bytes in
    elim (cases_eq (place / 4096) (off / 4096)) [
      | inl same ↦
          let whole : 4096 * (off / 4096) + off % 4096 ≡ off = omega arith in
          let whole_place : 4096 * (off / 4096) + place % 4096 ≡ place = omega arith in
          let shifted : written_at (off % 4096) bytes (place % 4096) ≡ written_at off bytes place =
          sym (written_at-shift (4096 * (off / 4096)) (off % 4096) bytes (place % 4096)) ∙ ap₂ (λ (a b : ℕ). written_at a bytes b) whole whole_place in
          byte_in-here (set pages (off / 4096) (Some changed)) place (off / 4096) changed same (get_or-set_same pages (off / 4096) (Some changed) None there)
          ∙ get_or-page_with page (off % 4096) bytes (place % 4096) (omega arith)
          ∙ ap₂ (λ (o : Option ℕ) (b : ℕ). unwrap_or o b) shifted (sym (byte_in-here pages place (off / 4096) page same is))
      | inr differs ↦
          let other = get_or-set_other pages (off / 4096) (place / 4096) (Some changed) None differs in
          ap (λ o. option_map_or (λ (bytes : List ℕ). get_or bytes (place % 4096) 0) o 0) other
          ∙ ap (λ o. unwrap_or o (byte_in pages place)) (sym (written_outside off bytes place fits differs))
    ]

-- the write as one of the whole map
pub bytes_of-written : (pages : List (Option (List ℕ))) (page : List ℕ) (off : ℕ) (bytes : List ℕ) → off / 4096 < length pages → page_at pages (off / 4096) ≡ Some page → length page ≡ 4096 → off % 4096 + length bytes ≤ 4096 → bytes_of (byte_in (set pages (off / 4096) (Some (page_with page (off % 4096) bytes)))) ≡ overwritten (bytes_of (byte_in pages)) off bytes
bytes_of-written pages page off bytes there is full fits =
    bytes_of-alike _ _ (λ place inside.
    byte_in-written pages page off bytes place there is full fits
    ∙ ap (unwrap_or (written_at off bytes place)) (sym (byte_at-bytes_of (byte_in pages) place inside)))

-- a page of zeros in the place of none
byte_in-added : (pages : List (Option (List ℕ))) (n : ℕ) (place : ℕ) → n < length pages → page_at pages n ≡ None → byte_in (set pages n (Some (replicate 4096 0))) place ≡ byte_in pages place
byte_in-added pages n place there none =
    elim (cases_eq (place / 4096) n) [
      | inl same ↦
          let was : byte_in pages place ≡ 0 = ap (λ o. option_map_or (λ (bytes : List ℕ). get_or bytes (place % 4096) 0) o 0) (ap (page_at pages) same ∙ none) in
          byte_in-here (set pages n (Some (replicate 4096 0))) place n (replicate 4096 0) same (get_or-set_same pages n (Some (replicate 4096 0)) None there)
          ∙ get_or-replicate 4096 (place % 4096) 0 0 (omega arith) ∙ sym was
      | inr differs ↦ ap (λ o. option_map_or (λ (bytes : List ℕ). get_or bytes (place % 4096) 0) o 0) (get_or-set_other pages n (place / 4096) (Some (replicate 4096 0)) None differs)
    ]

pub bytes_of-added : (pages : List (Option (List ℕ))) (n : ℕ) → n < length pages → page_at pages n ≡ None → bytes_of (byte_in (set pages n (Some (replicate 4096 0)))) ≡ bytes_of (byte_in pages)
bytes_of-added pages n there none = bytes_of-alike _ _ (λ place inside. byte_in-added pages n place there none)

-- whether a page is there
pub prepared-there : (pages : List (Option (List ℕ))) (n : ℕ) → get_or (map is_some pages) n false ≡ is_some (page_at pages n)
prepared-there pages n = get_or-map is_some pages n None

-- no page is there
pub nothing_there : ◌≡◌ {A = Contents} (record { bytes = bytes_of (byte_in (replicate 256 None)); prepared = map is_some (replicate {A = Option (List ℕ)} 256 None) }) nothing
nothing_there =
    let none : (place : ℕ) → byte_in (replicate 256 None) place ≡ 0 = λ (place : ℕ). elim (cases_lt (place / 4096) 256) [
      | inl below ↦ ap (λ o. option_map_or (λ (bytes : List ℕ). get_or bytes (place % 4096) 0) o 0) (get_or-replicate 256 (place / 4096) None None below)
      | inr past ↦ ap (λ o. option_map_or (λ (bytes : List ℕ). get_or bytes (place % 4096) 0) o 0) (get_or_past (replicate 256 None) (place / 4096) None past)
    ] in
    ap (λ (bytes : List (ℕ × ℕ)). record { bytes = bytes; prepared = replicate 256 false }) (bytes_of-alike (byte_in (replicate 256 None)) (λ _. 0) (λ place inside. none place) ∙ bytes_of-zero)

-- a range of prepared places lies on pages that are prepared already
pub set_there : (prepared : List Bool) (n : ℕ) → get_or prepared n false ≡ true → prepared ≡ set prepared n true
set_there prepared n is = sym (set-get_or prepared n false) ∙ ap (λ x. set prepared n x) is

changed_page : (pages : List (Option (List ℕ))) (off : ℕ) (bytes : List ℕ) → ArePages pages → off % 4096 + length bytes ≤ 4096 → (page : Option (List ℕ)) → page_at pages (off / 4096) ≡ page → is_some page ≡ true → bytes_of (byte_in (set pages (off / 4096) (option_map (λ old. page_with old (off % 4096) bytes) page))) ≡ overwritten (bytes_of (byte_in pages)) off bytes
changed_page pages off bytes are fits None is some = cc
changed_page pages off bytes are fits (Some page) is some =
    elim (cases_lt (off / 4096) 256) [
      | inl below ↦ bytes_of-written pages page off bytes (omega (arith, are.count)) is (are.full (off / 4096) page is) fits
      | inr past ↦ absurd (let none = get_or_past pages (off / 4096) None (omega (arith, are.count)) in cc)
    ]

-- bytes are written into one page that is there
pub bytes_of-changed : (pages new : List (Option (List ℕ))) (off : ℕ) (bytes : List ℕ) → ArePages pages → off % 4096 + length bytes ≤ 4096 → is_some (page_at pages (off / 4096)) ≡ true → new ≡ set pages (off / 4096) (option_map (λ old. page_with old (off % 4096) bytes) (page_at pages (off / 4096))) → bytes_of (byte_in new) ≡ overwritten (bytes_of (byte_in pages)) off bytes
bytes_of-changed pages new off bytes are fits some is = ap (λ (p : List (Option (List ℕ))). bytes_of (byte_in p)) is ∙ changed_page pages off bytes are fits (page_at pages (off / 4096)) refl some

is_some-option_map : (f : List ℕ → List ℕ) (o : Option (List ℕ)) → is_some (option_map f o) ≡ is_some o
is_some-option_map f None = refl
is_some-option_map f (Some x) = refl

-- and the same pages are there
pub there-changed : (pages new : List (Option (List ℕ))) (n : ℕ) (f : List ℕ → List ℕ) → new ≡ set pages n (option_map f (page_at pages n)) → map is_some new ≡ map is_some pages
there-changed pages new n f is = ap (map is_some) is ∙ map-set_same is_some pages n (option_map f (page_at pages n)) None (is_some-option_map f (page_at pages n))

-- a page is there after it was added
pub there-added : (pages new : List (Option (List ℕ))) (n : ℕ) (page : List ℕ) → new ≡ set pages n (Some page) → map is_some new ≡ set (map is_some pages) n true
there-added pages new n page is = ap (map is_some) is ∙ map-set is_some pages n (Some page)

pub absent_page : (page : Option (List ℕ)) → is_some page ≡ false → page ≡ None
absent_page None is = refl
absent_page (Some x) is = cc

-- one step of a write: a piece is written, and the others are left
pub written_step : (first now next : Contents) (off place count : ℕ) (bytes rest piece others : List ℕ) → rest ≡ piece ++ others → length piece ≡ count → next.bytes ≡ overwritten now.bytes place piece → overwritten now.bytes place rest ≡ overwritten first.bytes off bytes → overwritten next.bytes (place + count) others ≡ overwritten first.bytes off bytes
written_step first now next off place count bytes rest piece others parts long is whole =
    ap₂ (λ (b : List (ℕ × ℕ)) (n : ℕ). overwritten b (place + n) others) is (sym long)
    ∙ overwritten-append now.bytes place piece others
    ∙ ap (overwritten now.bytes place) (sym parts) ∙ whole

pub range_step : (now next : Contents) (place count len rest : ℕ) → next.prepared ≡ now.prepared → count + rest ≡ len → IsRangePrepared now place len → IsRangePrepared next (place + count) rest
range_step now next place count len rest same whole range = record {
  each = λ p from below. ap (λ (prepared : List Bool). get_or prepared (p / 4096) false) same ∙ range.each p (omega arith) (omega arith);
}
