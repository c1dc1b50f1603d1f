-- The walk of `advance` over the tokens that become ripe.
use Rattle.std.proofs.Common.{◌≡◌, ◌≢◌, ℕ, ◌+◌, ◌-◌, ◌<◌, ◌≤◌, zero, suc, List, [], ◌∷◌, length, get_or, set, ◌⊎◌, refl, ap, ap₂, sym, ◌∙◌, subst, inl, inr, arith}
use Rattle.std.proofs.lemmas.Bool.{cases_lt}
use Rattle.std.proofs.lemmas.List.{length-set, get_or-set_other, get_or-set_same}
use Rattle.token_list.specs.declared.TokenList.TheInside.{Inside}
use Rattle.token_list.specs.Slots.{Row, StandsAt, number_at}
use Rattle.token_list.specs.Dues.{Tokens, lowered_by}
use Rattle.token_list.specs.Gaps.{running, dues_of, tokens_of, IsRow, IsMarked, IsTokens}
use Rattle.token_list.proofs.GapLemmas.{lowered, lowered-step, lowered-end, running-zeros, running-step, running-first}
use Rattle.token_list.proofs.TokenLemmas.{IsRow-set, last-sum, shows-lowered}
use Rattle.token_list.proofs.CallLemmas.{Is, view-dues, view-ahead}

running-more : (s x : ℕ) (gs : List ℕ) (q : ℕ) → q < length gs → get_or (running (s + x) gs) q 0 ≡ get_or (running s gs) q 0 + x
running-more s x [] q h = absurd (omega arith)
running-more s x (g ∷ gs) zero h = omega arith
running-more s x (g ∷ gs) (suc q) h =
    let e : s + x + g ≡ s + g + x = omega arith in
    ap (λ y. get_or (running y gs) q 0) e ∙ running-more (s + g) x gs q (omega arith)

-- a gap that becomes 0
running-set_zero : (s : ℕ) (gs : List ℕ) (p q : ℕ) → p ≤ q → q < length gs → get_or (running s (set gs p 0)) q 0 + get_or gs p 0 ≡ get_or (running s gs) q 0
running-set_zero s [] p q le h = absurd (omega arith)
running-set_zero s (g ∷ gs) zero zero le h = omega arith
running-set_zero s (g ∷ gs) zero (suc q) le h = omega (arith, running-more s 0 gs q (omega arith), running-more s g gs q (omega arith))
running-set_zero s (g ∷ gs) (suc p) zero le h = absurd (omega arith)
running-set_zero s (g ∷ gs) (suc p) (suc q) le h = running-set_zero (s + g) gs p q (omega arith) (omega arith)

-- so many of n pages are left once the tokens before the mark are ripe; `first` are the gaps at the start
pub record Passing (first : List ℕ) (n : ℕ) (v : Row) (mark ripe left gap : ℕ) : Type 0 where
  pub row : IsRow v
  pub stands : StandsAt v.slots ripe mark
  pub zeros : (p : ℕ) → p < ripe → number_at v.numbers p ≡ 0
  pub gap_is : gap ≡ number_at v.numbers ripe
  pub rest : lowered left v.numbers ≡ lowered n first
  pub enough : left ≤ get_or (running 0 v.numbers) (length v.numbers - 1) 0

pub passing-first : (a : Inside) (t : Tokens) (n gap : ℕ) → IsTokens a → tokens_of a ≡ t → n ≤ t.ahead → ((p : ℕ) → StandsAt a.ring.slots p a.mark → gap ≡ number_at a.ring.numbers p)
    → Passing a.ring.numbers n a.ring a.mark a.ripe n gap
passing-first a t n gap i view le is = record {
  row = i.row;
  stands = i.marked.stands;
  zeros = i.marked.zeros;
  gap_is = is a.ripe i.marked.stands;
  rest = refl;
  enough = omega (arith, last-sum a.ring.numbers a.ahead (length a.ring.numbers - 1) i.total (omega (arith, i.row.some, i.row.size)), view-ahead a t view);
}

-- a mark that isn't the end stands before it
pub mark-below : (v : Row) (mark ripe : ℕ) → IsRow v → StandsAt v.slots ripe mark → mark ≢ 256 → ripe + 1 < length v.slots
mark-below v mark ripe r at other = elim (cases_lt (ripe + 1) (length v.slots)) as (λ _. ripe + 1 < length v.slots) [
  | inl h ↦ h
  | inr past ↦
      let last : ripe ≡ length v.slots - 1 = omega (arith, at.below) in
      absurd (other (sym at.is ∙ ap (λ p. get_or v.slots p 256) last ∙ r.end))
]

pub passing-step : {first : List ℕ} {n : ℕ} {v : Row} {mark ripe left gap : ℕ} → Passing first n v mark ripe left gap → gap ≤ left → mark ≢ 256
    → (w : Row) → w.slots ≡ v.slots → ((p : ℕ) → StandsAt v.slots p mark → w.numbers ≡ set v.numbers p 0)
    → (mark' : ℕ) → ((p : ℕ) → StandsAt w.slots p mark → StandsAt w.slots (p + 1) mark')
    → (gap' : ℕ) → ((p : ℕ) → StandsAt w.slots p mark' → gap' ≡ number_at w.numbers p)
    → Passing first n w mark' (ripe + 1) (left - gap) gap'
passing-step {first} {n} {v} {mark} {ripe} {left} {gap} g le other w slots writes mark' next gap' reads =
    let gs = v.numbers in
    let numbers = writes ripe g.stands in
    let inner = mark-below v mark ripe g.row g.stands other in
    let place : ripe < length gs = omega (arith, g.row.size) in
    let at' = next ripe (subst (λ ss. StandsAt ss ripe mark) (sym slots) g.stands) in
    let size = length-set gs ripe 0 in
    let zero_sum = running-set_zero 0 gs ripe (length gs - 1) (omega arith) (omega arith) in
    record {
      row = IsRow-set v w g.row slots (ap length numbers ∙ size);
      stands = at';
      zeros = λ p lt. ap (λ ns. get_or ns p 0) numbers ∙ elim (cases_lt p ripe) as (λ _. get_or (set gs ripe 0) p 0 ≡ 0) [
        | inl under ↦ get_or-set_other gs ripe p 0 0 (omega arith) ∙ g.zeros p under
        | inr past ↦
            let here : p ≡ ripe = omega arith in
            ap (λ q. get_or (set gs ripe 0) q 0) here ∙ get_or-set_same gs ripe 0 0 place
      ];
      gap_is = reads (ripe + 1) at';
      rest = ap₂ (λ x ns. lowered (left - x) ns) g.gap_is numbers ∙ lowered-step left gs ripe place g.zeros (omega (arith, g.gap_is)) ∙ g.rest;
      enough = rw (numbers, size) (omega (arith, g.enough, g.gap_is));
    }

-- what is left at the end is within the gap
pub passing-end : {first : List ℕ} {n : ℕ} {v : Row} {mark ripe left gap : ℕ} → Passing first n v mark ripe left gap → (left < gap) ⊎ (mark ≡ 256) → left ≤ gap
passing-end {first} {n} {v} {mark} {ripe} {left} {gap} g (inl lt) = omega arith
passing-end {first} {n} {v} {mark} {ripe} {left} {gap} g (inr end) =
    elim (cases_lt (ripe + 1) (length v.slots)) as (λ _. left ≤ gap) [
      | inl inner ↦ absurd (omega (arith, g.row.below ripe inner, g.stands.is))
      | inr last ↦
          let place : length v.numbers - 1 ≡ ripe = omega (arith, g.row.size, g.stands.below) in
          let sum : get_or (running 0 v.numbers) ripe 0 ≡ get_or v.numbers ripe 0 = only v.numbers ripe (omega (arith, g.row.size, g.stands.below)) g.zeros in
          omega (arith, g.enough, ap (λ p. get_or (running 0 v.numbers) p 0) place, g.gap_is)
    ]
  where
    only : (gs : List ℕ) (r : ℕ) → r < length gs → ((p : ℕ) → p < r → get_or gs p 0 ≡ 0) → get_or (running 0 gs) r 0 ≡ get_or gs r 0
    only gs zero h zeros = running-first gs
    only gs (suc r) h zeros = running-step 0 gs r h ∙ ap (λ x. x + get_or gs (suc r) 0) (running-zeros gs (suc r) zeros r (omega arith) (omega arith)) ∙ omega arith

pub advanced : (a b : Inside) (t : Tokens) (n : ℕ) (v : Row) (mark ripe left gap : ℕ) → IsTokens a → tokens_of a ≡ t
    → Passing a.ring.numbers n v mark ripe left gap → (left < gap) ⊎ (mark ≡ 256)
    → b.ring.slots ≡ v.slots → ((p : ℕ) → StandsAt v.slots p mark → b.ring.numbers ≡ set v.numbers p (gap - left))
    → b.mark ≡ mark → b.ripe ≡ ripe → b.ahead ≡ a.ahead - n → Is b (lowered_by n t.dues)
advanced a b t n v mark ripe left gap i view g stop slots writes mark_is ripe_is ahead_is =
    let gs = v.numbers in
    let numbers = writes ripe g.stands in
    let place : ripe < length gs = omega (arith, g.row.size, g.stands.below) in
    let le = passing-end g stop in
    let all : b.ring.numbers ≡ lowered n a.ring.numbers =
    numbers ∙ ap (λ x. set gs ripe (x - left)) g.gap_is ∙ lowered-end left gs ripe place g.zeros (omega (arith, g.gap_is)) ∙ g.rest in
    let shown = shows-lowered a.ring.numbers a.ahead n i.total in
    let size = length-set gs ripe (gap - left) in
    let m : IsMarked (set gs ripe (gap - left)) v.slots mark ripe = record {
      stands = g.stands;
      zeros = λ p lt. get_or-set_other gs ripe p (gap - left) 0 (omega arith) ∙ g.zeros p lt;
      unripe = λ inner.
          let some : left < gap = elim stop as (λ _. left < gap) [
            | inl lt ↦ lt
            | inr end ↦ absurd (omega (arith, g.row.below ripe (omega (arith, g.row.size)), g.stands.is))
          ] in
          omega (arith, get_or-set_same gs ripe (gap - left) 0 place);
    } in
    record {
      dues = ap dues_of all ∙ shown.dues ∙ ap (lowered_by n) (view-dues a t view);
      tokens = record {
        row = IsRow-set v b.ring g.row slots (ap length numbers ∙ size);
        total = rw (all, ahead_is) shown.total;
        bound = omega (arith, i.bound);
        marked = rw (numbers, slots, mark_is, ripe_is) m;
      };
    }
