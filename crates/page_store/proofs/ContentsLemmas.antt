-- The bytes of an object as a finite map.
use Rattle.std.proofs.Common.{◌≡◌, ◌⊎◌, ℕ, zero, suc, ◌+◌, ◌-◌, ◌<◌, ◌≤◌, List, [], ◌∷◌, ◌++◌, length, get_or, slice_get, Some, None, unwrap_or, refl, sym, ap, ap₂, ◌∙◌, inl, inr, arith}
use Rattle.std.proofs.Math.Dec.{ltb}
use Rattle.std.proofs.lemmas.Bool.{cases_eq, cases_lt, le-leb, lt-leb, eq-eqb, ne_eqb, cases_Bool, ltb-false}
use Rattle.std.proofs.lemmas.List.{get_or_append_left, get_or-append_right, length-append}
use Rattle.std.proofs.lemmas.Option.{slice_get-get_or, slice_get_cases}
use Rattle.page_store.specs.Contents.{bytes_between, bytes_of, byte_at, written_at, overwritten}

-- a place before the first, or past the last
byte_at-outside : (f : ℕ → ℕ) (first n place : ℕ) → (place < first) ⊎ (first + n ≤ place) → byte_at (bytes_between f first n) place ≡ 0
byte_at-outside f first zero place out = refl
byte_at-outside f first (suc n) place out =
    let differs : first ≡ place → ⊥ = λ (same : first ≡ place). elim out [ inl before ↦ omega arith | inr past ↦ omega arith ] in
    let later : (place < first + 1) ⊎ (first + 1 + n ≤ place) = elim out [ inl before ↦ inl (omega arith) | inr past ↦ inr (omega arith) ] in
    let rest = byte_at-outside f (first + 1) n place later in
    elim (cases_Bool (ltb 0 (f first))) [
      | inl some ↦ rw (some, ne_eqb first place differs) rest
      | inr none ↦ rw none rest
    ]

byte_at-inside : (f : ℕ → ℕ) (first n place : ℕ) → first ≤ place → place < first + n → byte_at (bytes_between f first n) place ≡ f place
byte_at-inside f first zero place from below = absurd (omega arith)
byte_at-inside f first (suc n) place from below =
    elim (cases_eq first place) [
      | inl same ↦ elim (cases_Bool (ltb 0 (f first))) [
        | inl some ↦ rw (some, eq-eqb first place same) (ap f same)
        | inr none ↦
            let zero_there : f first ≡ 0 = omega (arith, ltb-false 0 (f first) none) in
            rw none (byte_at-outside f (first + 1) n place (inl (omega arith)) ∙ sym zero_there ∙ ap f same)
      ]
      | inr differs ↦
          let rest = byte_at-inside f (first + 1) n place (omega arith) (omega arith) in
          elim (cases_Bool (ltb 0 (f first))) [
            | inl some ↦ rw (some, ne_eqb first place differs) rest
            | inr none ↦ rw none rest
          ]
    ]

-- the byte that the map of some bytes has at a place
pub byte_at-bytes_of : (f : ℕ → ℕ) (place : ℕ) → place < 1048576 → byte_at (bytes_of f) place ≡ f place
unfolding bytes_of
byte_at-bytes_of f place inside = byte_at-inside f 0 1048576 place (omega arith) (omega arith)

bytes_between-alike : (f g : ℕ → ℕ) (first n : ℕ) → ((place : ℕ) → first ≤ place → place < first + n → f place ≡ g place) → bytes_between f first n ≡ bytes_between g first n
bytes_between-alike f g first zero alike = refl
bytes_between-alike f g first (suc n) alike =
    let here = alike first (omega arith) (omega arith) in
    let rest = bytes_between-alike f g (first + 1) n (λ place from below. alike place (omega arith) (omega arith)) in
    elim (cases_Bool (ltb 0 (f first))) [
      | inl some ↦ let also = ap (ltb 0) (sym here) ∙ some in rw (some, also) (ap₂ (λ (b : ℕ) (es : List (ℕ × ℕ)). (first, b) ∷ es) here rest)
      | inr none ↦ let also = ap (ltb 0) (sym here) ∙ none in rw (none, also) rest
    ]

-- two maps of the same bytes are one
pub bytes_of-alike : (f g : ℕ → ℕ) → ((place : ℕ) → place < 1048576 → f place ≡ g place) → bytes_of f ≡ bytes_of g
unfolding bytes_of
bytes_of-alike f g alike = bytes_between-alike f g 0 1048576 (λ place from below. alike place (omega arith))

bytes_between-zero : (first n : ℕ) → bytes_between (λ _. 0) first n ≡ []
bytes_between-zero first zero = refl
bytes_between-zero first (suc n) = bytes_between-zero (first + 1) n

-- the map of bytes that are all 0
pub bytes_of-zero : bytes_of (λ _. 0) ≡ []
unfolding bytes_of
bytes_of-zero = bytes_between-zero 0 1048576

-- a map of bytes is that of the bytes which it has
pub bytes_of-byte_at : (f : ℕ → ℕ) → bytes_of (byte_at (bytes_of f)) ≡ bytes_of f
bytes_of-byte_at f = bytes_of-alike (byte_at (bytes_of f)) f (byte_at-bytes_of f)

slice_get-past : (xs : List ℕ) (i : ℕ) → length xs ≤ i → slice_get xs i ≡ None
slice_get-past xs i past = elim (slice_get_cases xs i).1 [
  | inl found ↦ absurd (let h = found.1 in omega arith)
  | inr none ↦ none.1
]

pub written_at-before : (off : ℕ) (bytes : List ℕ) (place : ℕ) → place < off → written_at off bytes place ≡ None
written_at-before off bytes place before = rw (lt-leb off place before) refl

pub written_at-past : (off : ℕ) (bytes : List ℕ) (place : ℕ) → off + length bytes ≤ place → written_at off bytes place ≡ None
written_at-past off bytes place past = rw (le-leb off place (omega arith)) (slice_get-past bytes (place - off) (omega arith))

pub written_at-inside : (off : ℕ) (bytes : List ℕ) (place : ℕ) → off ≤ place → place < off + length bytes → written_at off bytes place ≡ Some (get_or bytes (place - off) 0)
written_at-inside off bytes place from below = rw (le-leb off place from) (slice_get-get_or bytes (place - off) 0 (omega arith))

-- one write after the other is a write of both
overwritten_twice-at : (off : ℕ) (xs ys : List ℕ) (place was : ℕ) → unwrap_or (written_at (off + length xs) ys place) (unwrap_or (written_at off xs place) was) ≡ unwrap_or (written_at off (xs ++ ys) place) was
overwritten_twice-at off xs ys place was =
    let long = length-append xs ys in
    elim (cases_lt place off) [
      | inl before ↦ rw (written_at-before (off + length xs) ys place (omega arith), written_at-before off xs place before, written_at-before off (xs ++ ys) place before) refl
      | inr from ↦ elim (cases_lt place (off + length xs)) [
        | inl below ↦
            let first = get_or_append_left xs ys 0 (place - off) (omega arith) in
            rw (written_at-before (off + length xs) ys place below, written_at-inside off xs place from below, written_at-inside off (xs ++ ys) place from (omega arith)) (sym first)
        | inr past ↦ elim (cases_lt place (off + length xs + length ys)) [
          | inl below ↦
              let second = get_or-append_right xs ys (length xs) (place - off) 0 refl (omega arith) in
              let same : place - off - length xs ≡ place - (off + length xs) = omega arith in
              rw (written_at-inside (off + length xs) ys place past below, written_at-inside off (xs ++ ys) place from (omega arith)) (ap (λ i. get_or ys i 0) (sym same) ∙ sym second)
          | inr after ↦ rw (written_at-past (off + length xs) ys place after, written_at-past off xs place past, written_at-past off (xs ++ ys) place (omega arith)) refl
        ]
      ]
    ]

pub overwritten-append : (old : List (ℕ × ℕ)) (off : ℕ) (xs ys : List ℕ) → overwritten (overwritten old off xs) (off + length xs) ys ≡ overwritten old off (xs ++ ys)
overwritten-append old off xs ys =
    bytes_of-alike _ _ (λ place inside.
    ap (unwrap_or (written_at (off + length xs) ys place)) (byte_at-bytes_of (λ p. unwrap_or (written_at off xs p) (byte_at old p)) place inside)
    ∙ overwritten_twice-at off xs ys place (byte_at old place))
