-- What the readers of a list of tokens answer.
use Rattle.std.proofs.Common.{◌≡◌, ◌≢◌, ℕ, ◌+◌, ◌-◌, ◌<◌, ◌≤◌, zero, suc, List, [], ◌∷◌, length, get_or, cond, eqb, ltb, true, false, ◌⊎◌, refl, ap, ap₂, sym, ◌∙◌, subst, inl, inr, arith}
use Rattle.std.specs.Prelude.{find, count_by, unwrap_or, All}
use Rattle.std.specs.List.Sorted.{IsNonDecreasing}
use Rattle.std.proofs.lemmas.Bool.{cases_lt}
use Rattle.std.proofs.lemmas.Bool.Decides.{nat_tests}
use Rattle.std.proofs.lemmas.List.{get_or_past, get_or_default}
use Rattle.std.proofs.lemmas.List.Sums.{sum_by-cons}
use Rattle.kern_ids.specs.declared.replies.QueueCounts.{QueueCounts}
use Rattle.token_list.specs.declared.TokenList.TheInside.{Inside}
use Rattle.token_list.specs.Slots.{StandsAt, number_at}
use Rattle.token_list.specs.Dues.{Tokens, begins_ripe, last_or, counts_of}
use Rattle.token_list.specs.Gaps.{running, tokens_of, IsTokens}
use Rattle.token_list.proofs.GapLemmas.{running-zeros, running-gap, running-rises, running-first}
use Rattle.token_list.proofs.MarkLemmas.{sum_before-mark}
use Rattle.token_list.proofs.TokenLemmas.{end-row, due-sum, last-sum}
use Rattle.token_list.proofs.CallLemmas.{view-dues, length-tokens, last-due, due-within}
use Rattle.token_list.proofs.PassLemmas.{mark-below}

-- a list that begins with r zeros and has none behind them
pub record HasZeros (ds : List ℕ) (r : ℕ) : Type 0 where
  pub within : r ≤ length ds
  pub zeros : (i : ℕ) → i < r → get_or ds i 0 ≡ 0
  pub later : (i : ℕ) → r ≤ i → i < length ds → 0 < get_or ds i 0

count_by-zeros : (ds : List ℕ) (r : ℕ) → HasZeros ds r → count_by (λ d. eqb d 0) ds ≡ r
count_by-zeros [] zero h = refl
count_by-zeros [] (suc r) h = absurd (omega (arith, h.within))
count_by-zeros (d ∷ ds) zero h =
    let some = h.later 0 (omega arith) (omega arith) in
    let rest = count_by-zeros ds zero (record { within = omega arith; zeros = λ i lt. absurd (omega arith); later = λ i le lt. h.later (suc i) (omega arith) (omega arith) }) in
    sum_by-cons (λ x. cond (eqb x 0) 1 0) d ds ∙ grind (arith, nat_tests)
count_by-zeros (d ∷ ds) (suc r) h =
    let none = h.zeros 0 (omega arith) in
    let rest = count_by-zeros ds r (record { within = omega (arith, h.within); zeros = λ i lt. h.zeros (suc i) (omega arith); later = λ i le lt. h.later (suc i) (omega arith) (omega arith) }) in
    sum_by-cons (λ x. cond (eqb x 0) 1 0) d ds ∙ grind (arith, nat_tests)

find-zeros : (ds : List ℕ) (r : ℕ) → HasZeros ds r → unwrap_or (find (λ d. ltb 0 d) ds) 0 ≡ get_or ds r 0
find-zeros [] r h = refl
find-zeros (d ∷ ds) zero h =
    let some = h.later 0 (omega arith) (omega arith) in
    let test : ltb 0 d ≡ true = grind (arith, nat_tests) in
    rw test refl
find-zeros (d ∷ ds) (suc r) h =
    let none = h.zeros 0 (omega arith) in
    let test : ltb 0 d ≡ false = grind (arith, nat_tests) in
    rw test (find-zeros ds r (record { within = omega (arith, h.within); zeros = λ i lt. h.zeros (suc i) (omega arith); later = λ i le lt. h.later (suc i) (omega arith) (omega arith) }))

begins_ripe-zeros : (ds : List ℕ) (r : ℕ) → HasZeros ds r → ltb 0 r ≡ begins_ripe ds
begins_ripe-zeros [] zero h = refl
begins_ripe-zeros [] (suc r) h = absurd (omega (arith, h.within))
begins_ripe-zeros (d ∷ ds) zero h = let some = h.later 0 (omega arith) (omega arith) in grind (arith, nat_tests)
begins_ripe-zeros (d ∷ ds) (suc r) h = let none = h.zeros 0 (omega arith) in grind (arith, nat_tests)

last_or-is : (ds : List ℕ) (p d : ℕ) → p + 1 ≡ length ds → last_or ds d ≡ get_or ds p 0
last_or-is [] p d h = absurd (omega arith)
last_or-is (x ∷ []) zero d h = refl
last_or-is (x ∷ []) (suc p) d h = absurd (omega arith)
last_or-is (x ∷ y ∷ ds) zero d h = absurd (omega arith)
last_or-is (x ∷ y ∷ ds) (suc p) d h = last_or-is (y ∷ ds) p x (omega arith)

pub due-read : (a : Inside) (t : Tokens) (p : ℕ) → IsTokens a → tokens_of a ≡ t → p < length t.dues → get_or t.dues p 0 ≡ get_or (running 0 a.ring.numbers) p 0
due-read a t p i view h =
    let size = length-tokens a t i view in
    ap (λ ds. get_or ds p 0) (sym (view-dues a t view)) ∙ due-sum a.ring.numbers a.ahead p i.total (omega (arith, i.row.size))

pub has-zeros : (a : Inside) (t : Tokens) → IsTokens a → tokens_of a ≡ t → HasZeros t.dues a.ripe
has-zeros a t i view =
    let size = length-tokens a t i view in
    let gs = a.ring.numbers in
    let row_size = i.row.size in
    let m = i.marked in
    record {
      within = omega (arith, m.stands.below);
      zeros = λ p lt. due-read a t p i view (omega (arith, m.stands.below)) ∙ running-zeros gs a.ripe m.zeros p lt (omega (arith, m.stands.below));
      later = λ p le lt. omega (arith, due-read a t p i view lt, running-gap 0 gs a.ripe p le (omega arith), m.unripe (omega arith));
    }

pub ripe-is : (a : Inside) (t : Tokens) → IsTokens a → tokens_of a ≡ t → ltb 0 a.ripe ≡ begins_ripe t.dues
ripe-is a t i view = begins_ripe-zeros t.dues a.ripe (has-zeros a t i view)

pub rising-dues : (a : Inside) (t : Tokens) → IsTokens a → tokens_of a ≡ t → IsNonDecreasing t.dues
rising-dues a t i view = λ p q d le lt.
    let size = length-tokens a t i view in
    let row_size = i.row.size in
    omega (
      arith,
      get_or_default t.dues p d 0 (omega arith),
      get_or_default t.dues q d 0 lt,
      due-read a t p i view (omega arith),
      due-read a t q i view lt,
      running-rises 0 a.ring.numbers p q le (omega arith),
    )

pub within-dues : (a : Inside) (t : Tokens) → IsTokens a → tokens_of a ≡ t → All (λ d. d ≤ t.ahead) t.dues
within-dues a t i view = λ p d lt. omega (arith, get_or_default t.dues p d 0 lt, due-within a t p i view lt)

-- the due of the first token that isn't ripe
next-end : (a : Inside) (t : Tokens) → IsTokens a → tokens_of a ≡ t → a.mark ≡ 256 → get_or t.dues a.ripe 0 ≡ 0
next-end a t i view end =
    let size = length-tokens a t i view in
    elim (cases_lt (a.ripe + 1) (length a.ring.slots)) as (λ _. get_or t.dues a.ripe 0 ≡ 0) [
      | inl inner ↦ absurd (omega (arith, i.row.below a.ripe inner, i.marked.stands.is))
      | inr last ↦ get_or_past t.dues a.ripe 0 (omega arith)
    ]

next-unripe : (a : Inside) (t : Tokens) → IsTokens a → tokens_of a ≡ t → a.mark ≢ 256 → get_or t.dues a.ripe 0 ≡ get_or a.ring.numbers a.ripe 0
next-unripe a t i view other =
    let size = length-tokens a t i view in
    let row_size = i.row.size in
    let inner = mark-below a.ring a.mark a.ripe i.row i.marked.stands other in
    let sum = sum_before-mark a.ring.numbers a.ring.slots a.mark a.ripe i.marked (omega arith) in
    omega (arith, due-read a t a.ripe i view (omega arith), running-gap 0 a.ring.numbers a.ripe a.ripe (omega arith) (omega arith))

last_or-none : (ds : List ℕ) (d : ℕ) → length ds ≡ 0 → last_or ds d ≡ d
last_or-none [] d h = refl
last_or-none (x ∷ ds) d h = absurd (omega arith)

last-is : (a : Inside) (t : Tokens) (rest : ℕ) → IsTokens a → tokens_of a ≡ t → ((p : ℕ) → StandsAt a.ring.slots p 256 → rest ≡ number_at a.ring.numbers p) → a.ahead - rest ≡ last_or t.dues 0
last-is a t rest i view is =
    let size = length-tokens a t i view in
    elim (cases_lt 0 (length t.dues)) as (λ _. a.ahead - rest ≡ last_or t.dues 0) [
      | inl some ↦ last-due a t rest (length t.dues - 1) i view (omega arith) is ∙ sym (last_or-is t.dues (length t.dues - 1) 0 (omega arith))
      | inr none ↦
          let row_size = i.row.size in
          let end : StandsAt a.ring.slots 0 256 = subst (λ p. StandsAt a.ring.slots p 256) (omega arith) (end-row a.ring i.row) in
          let all = last-sum a.ring.numbers a.ahead 0 i.total (omega arith) in
          omega (arith, is 0 end, running-first a.ring.numbers, last_or-none t.dues 0 (omega arith))
    ]

abbrev pub counts : ℕ → ℕ → ℕ → ℕ → QueueCounts
counts x y z w = record { tokens = x; ripe = y; next = z; last = w }

pub counts-are : (a : Inside) (t : Tokens) (n rest next : ℕ) → IsTokens a → tokens_of a ≡ t → n + 1 ≡ length a.ring.slots
    → ((p : ℕ) → StandsAt a.ring.slots p 256 → rest ≡ number_at a.ring.numbers p)
    → ((a.mark ≡ 256) × (next ≡ 0)) ⊎ ((a.mark ≢ 256) × ((p : ℕ) → StandsAt a.ring.slots p a.mark → next ≡ number_at a.ring.numbers p))
    → counts n a.ripe next (a.ahead - rest) ≡ counts_of t.dues
counts-are a t n rest next i view len rest_is next_is =
    let size = length-tokens a t i view in
    let zs = has-zeros a t i view in
    let next_due : next ≡ get_or t.dues a.ripe 0 = elim next_is as (λ _. next ≡ get_or t.dues a.ripe 0) [
      | inl h ↦ h.1 ∙ sym (next-end a t i view h.0)
      | inr h ↦ h.1 a.ripe i.marked.stands ∙ sym (next-unripe a t i view h.0)
    ] in
    let tokens : n ≡ length t.dues = omega arith in
    ap₂ (λ x y. counts x y next (a.ahead - rest)) tokens (sym (count_by-zeros t.dues a.ripe zs))
    ∙ ap₂ (λ z w. counts (length t.dues) (count_by (λ d. eqb d 0) t.dues) z w) (next_due ∙ sym (find-zeros t.dues a.ripe zs)) (last-is a t rest i view rest_is)
