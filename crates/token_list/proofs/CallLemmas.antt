-- A list of tokens after one of its calls: a has the fields before, b those after.
use Rattle.std.proofs.Common.{◌≡◌, ℕ, ◌+◌, ◌-◌, ◌^◌, ◌<◌, ◌≤◌, zero, suc, List, [], ◌∷◌, ◌++◌, length, get_or, set, refl, ap, ap₂, sym, ◌∙◌, subst, inl, inr, Bool, true, false, leb, arith, add-one}
use Rattle.std.specs.List.{insert, remove}
use Rattle.std.proofs.lemmas.List.{length-set, get_or_past}
use Rattle.std.proofs.lemmas.Bool.{cases_lt}
use Rattle.std.proofs.lemmas.Bool.Decides.{nat_tests}
use Rattle.std.proofs.lemmas.List.Edits.{length-insert, insert_end}
use Rattle.token_list.specs.declared.TokenList.TheInside.{Inside}
use Rattle.token_list.specs.Slots.{StandsAt, number_at}
use Rattle.token_list.specs.Dues.{Tokens, put_due}
use Rattle.token_list.specs.Gaps.{running, dues_of, tokens_of, IsMarked, IsTokens}
use Rattle.token_list.proofs.MarkLemmas.{IsMarked-set, IsMarked-removed, IsMarked-inserted, joined, length-joined, sum_before, sum_before-first, sum_before-suc}
use Rattle.token_list.proofs.GapLemmas.{running-first, running-step, running-rises, running-gap, running-zeros}
use Rattle.token_list.proofs.TokenLemmas.{length-dues_of, end-row, shows-entered, shows-removed, shows-inserted, IsRow-set, IsRow-remove, IsRow-insert, gap-within, last-sum, due-sum}

pub record Is (b : Inside) (ds : List ℕ) : Type 0 where
  pub tokens : IsTokens b
  pub dues : dues_of b.ring.numbers ≡ ds

-- what a caller sees
pub view-dues : (a : Inside) (t : Tokens) → tokens_of a ≡ t → dues_of a.ring.numbers ≡ t.dues
view-dues a t h = ap (λ (x : Tokens). x.dues) h

pub view-ahead : (a : Inside) (t : Tokens) → tokens_of a ≡ t → a.ahead ≡ t.ahead
view-ahead a t h = ap (λ (x : Tokens). x.ahead) h

pub rest-within : (a : Inside) → IsTokens a → (rest : ℕ) → ((p : ℕ) → StandsAt a.ring.slots p 256 → rest ≡ number_at a.ring.numbers p) → rest ≤ a.ahead
rest-within a i rest is =
    let last = length a.ring.slots - 1 in
    omega (arith, is last (end-row a.ring i.row), gap-within a.ring.numbers a.ahead last i.total (omega (arith, i.row.some, i.row.size)))

pub entered : (a b : Inside) (t : Tokens) (rest n : ℕ) → IsTokens a → tokens_of a ≡ t → t.ahead + n < 2 ^ 32
    → ((p : ℕ) → StandsAt a.ring.slots p 256 → rest ≡ number_at a.ring.numbers p)
    → b.ring.slots ≡ a.ring.slots → ((p : ℕ) → StandsAt a.ring.slots p 256 → b.ring.numbers ≡ set a.ring.numbers p (rest + n))
    → b.mark ≡ a.mark → b.ripe ≡ a.ripe → b.ahead ≡ a.ahead + n → Is b t.dues
entered a b t rest n i view bound rest_is slots_is writes mark_is ripe_is ahead_is =
    let gs = a.ring.numbers in
    let last = length a.ring.slots - 1 in
    let end = end-row a.ring i.row in
    let some = i.row.some in
    let size = i.row.size in
    let numbers_is : b.ring.numbers ≡ set gs last (get_or gs last 0 + n) = writes last end ∙ ap (λ x. set gs last (x + n)) (rest_is last end) in
    let s = shows-entered gs a.ahead n last i.total (omega arith) in
    let m : IsMarked (set gs last (get_or gs last 0 + n)) a.ring.slots a.mark a.ripe =
    IsMarked-set gs a.ring.slots a.mark a.ripe last (get_or gs last 0 + n) i.marked (omega (arith, i.marked.stands.below)) (omega arith) (λ _ h. absurd (omega arith)) in
    record {
      dues = ap dues_of numbers_is ∙ s.dues ∙ view-dues a t view;
      tokens = record {
        row = IsRow-set a.ring b.ring i.row slots_is (ap length numbers_is ∙ length-set gs last (get_or gs last 0 + n));
        total = rw (numbers_is, ahead_is) s.total;
        bound = omega (arith, view-ahead a t view);
        marked = rw (numbers_is, slots_is, mark_is, ripe_is) m;
      };
    }

-- any gap
pub gap-below : (a : Inside) → IsTokens a → (p : ℕ) → get_or a.ring.numbers p 0 < 2 ^ 32
gap-below a i p = elim (cases_lt p (length a.ring.numbers)) as (λ _. get_or a.ring.numbers p 0 < 2 ^ 32) [
  | inl h ↦ omega (arith, gap-within a.ring.numbers a.ahead p i.total h, i.bound)
  | inr past ↦ omega (arith, get_or_past a.ring.numbers p 0 past)
]

pub length-tokens : (a : Inside) (t : Tokens) → IsTokens a → tokens_of a ≡ t → length t.dues + 1 ≡ length a.ring.slots
length-tokens a t i view = omega (arith, length-dues_of a.ring.numbers a.ahead i.total, ap length (view-dues a t view), i.row.size)

-- the token at place p goes
pub dropped : (a b : Inside) (t : Tokens) (p slot : ℕ) → IsTokens a → tokens_of a ≡ t → p < length t.dues → StandsAt a.ring.slots p slot
    → ((q : ℕ) → StandsAt a.ring.slots q slot → b.ring.slots ≡ remove a.ring.slots q)
    → ((q : ℕ) → StandsAt a.ring.slots q slot → b.ring.numbers ≡ joined a.ring.numbers q)
    → (after : ℕ) → ((q : ℕ) → StandsAt a.ring.slots q slot → StandsAt a.ring.slots (q + 1) after)
    → (p < a.ripe → (b.ripe ≡ a.ripe - 1) × (b.mark ≡ a.mark)) → (p ≡ a.ripe → (b.ripe ≡ a.ripe) × (b.mark ≡ after)) → (a.ripe < p → (b.ripe ≡ a.ripe) × (b.mark ≡ a.mark))
    → b.ahead ≡ a.ahead → Is b (remove t.dues p)
dropped a b t p slot i view h at slots_is numbers_is after next one here past ahead_is =
    let gs = a.ring.numbers in
    let size = length-tokens a t i view in
    let room : p + 1 < length gs = omega (arith, i.row.size) in
    let shown = shows-removed gs a.ahead p i.total room in
    let m = IsMarked-removed gs a.ring.slots a.mark a.ripe p after b.mark b.ripe i.marked i.row.size room (next p at) one here past in
    record {
      dues = ap dues_of (numbers_is p at) ∙ shown.dues ∙ ap (λ ds. remove ds p) (view-dues a t view);
      tokens = record {
        row = IsRow-remove a.ring b.ring p i.row (omega (arith, i.row.size)) (slots_is p at) (ap (λ ns. length ns + 1) (numbers_is p at) ∙ length-joined gs p room);
        total = rw (numbers_is p at, ahead_is) shown.total;
        bound = omega (arith, i.bound);
        marked = rw (numbers_is p at, slots_is p at) m;
      };
    }

-- a list by its first element, and by its last
pub list-first : (ds : List ℕ) → 0 < length ds → ds ≡ get_or ds 0 0 ∷ remove ds 0
list-first [] h = absurd (omega arith)
list-first (d ∷ ds) h = refl

pub list-last : (ds : List ℕ) (p : ℕ) → p + 1 ≡ length ds → ds ≡ remove ds p ++ get_or ds p 0 ∷ []
list-last [] p h = absurd (omega arith)
list-last (d ∷ []) zero h = refl
list-last (d ∷ []) (suc p) h = absurd (omega arith)
list-last (d ∷ e ∷ ds) zero h = absurd (omega arith)
list-last (d ∷ e ∷ ds) (suc p) h = ap (λ r. d ∷ r) (list-last (e ∷ ds) p (omega arith))

-- the due of the first token, and that of the last
pub first-due : (a : Inside) (t : Tokens) (slot due : ℕ) → IsTokens a → tokens_of a ≡ t → 0 < length t.dues → StandsAt a.ring.slots 0 slot
    → ((p : ℕ) → StandsAt a.ring.slots p slot → due ≡ number_at a.ring.numbers p) → due ≡ get_or t.dues 0 0
first-due a t slot due i view h at is =
    let size = length-tokens a t i view in
    is 0 at ∙ sym (running-first a.ring.numbers) ∙ sym (due-sum a.ring.numbers a.ahead 0 i.total (omega (arith, i.row.size))) ∙ ap (λ ds. get_or ds 0 0) (view-dues a t view)

pub last-due : (a : Inside) (t : Tokens) (rest p : ℕ) → IsTokens a → tokens_of a ≡ t → p + 1 ≡ length t.dues
    → ((q : ℕ) → StandsAt a.ring.slots q 256 → rest ≡ number_at a.ring.numbers q) → a.ahead - rest ≡ get_or t.dues p 0
last-due a t rest p i view h is =
    let size = length-tokens a t i view in
    let gs = a.ring.numbers in
    let end : StandsAt a.ring.slots (p + 1) 256 = subst (λ q. StandsAt a.ring.slots q 256) (omega arith) (end-row a.ring i.row) in
    let read = is (p + 1) end in
    let sum = last-sum gs a.ahead (p + 1) i.total (omega (arith, i.row.size)) in
    let step : get_or (running 0 gs) (p + 1) 0 ≡ get_or (running 0 gs) p 0 + get_or gs (p + 1) 0 = rw add-one (running-step 0 gs p (omega (arith, i.row.size))) in
    let due : get_or (dues_of gs) p 0 ≡ get_or (running 0 gs) p 0 = due-sum gs a.ahead p i.total (omega (arith, i.row.size)) in
    let seen : get_or (dues_of gs) p 0 ≡ get_or t.dues p 0 = ap (λ ds. get_or ds p 0) (view-dues a t view) in
    omega arith

-- no due is above the pages ahead
pub due-within : (a : Inside) (t : Tokens) (p : ℕ) → IsTokens a → tokens_of a ≡ t → p < length t.dues → get_or t.dues p 0 ≤ t.ahead
due-within a t p i view h =
    let size = length-tokens a t i view in
    let gs = a.ring.numbers in
    omega (
      arith,
      due-sum gs a.ahead p i.total (omega (arith, i.row.size)),
      ap (λ ds. get_or ds p 0) (view-dues a t view),
      view-ahead a t view,
      running-rises 0 gs p (length gs - 1) (omega (arith, i.row.size)) (omega (arith, i.row.size)),
      last-sum gs a.ahead (length gs - 1) i.total (omega (arith, i.row.size)),
    )

-- a due at the place where it goes
pub insert-put_due : (x : ℕ) (ds : List ℕ) (p : ℕ) → p ≤ length ds → ((i : ℕ) → i < p → get_or ds i 0 ≤ x) → (p < length ds → x < get_or ds p 0) → insert ds p x ≡ put_due x ds
insert-put_due x [] zero h low high = refl
insert-put_due x [] (suc p) h low high = absurd (omega arith)
insert-put_due x (d ∷ ds) zero h low high =
    let less = high (omega arith) in
    let test : leb d x ≡ false = grind (arith, nat_tests) in
    rw test refl
insert-put_due x (d ∷ ds) (suc p) h low high =
    let more = low 0 (omega arith) in
    let test : leb d x ≡ true = grind (arith, nat_tests) in
    rw test (ap (λ r. d ∷ r) (insert-put_due x ds p (omega arith) (λ i lt. low (suc i) (omega arith)) (λ lt. high (omega arith))))

-- one place back
pub record IsBack (gs : List ℕ) (p : ℕ) : Type 0 where
  pub sum : get_or (running 0 gs) (p - 1) 0 ≡ sum_before gs p
  pub gap : get_or gs (p - 1) 0 ≤ sum_before gs p
  pub before : sum_before gs p - get_or gs (p - 1) 0 ≡ sum_before gs (p - 1)

pub back : (gs : List ℕ) (p : ℕ) → 0 < p → p < length gs → IsBack gs p
back gs zero some h = absurd (omega arith)
back gs (suc p) some h =
    let sum = sum_before-suc gs p h in
    let one : suc p - 1 ≡ p = omega arith in
    let gap = running-gap 0 gs p p (omega arith) (omega arith) in
    record {
      sum = rw one (sym sum);
      gap = rw one (omega arith);
      before = rw one (ap (λ x. x - get_or gs p 0) sum);
    }

pub sum_before-some : (gs : List ℕ) (p : ℕ) → 0 < sum_before gs p → 0 < p
sum_before-some gs zero h = absurd (omega (arith, sum_before-first gs))
sum_before-some gs (suc p) h = omega arith

-- what `insert` finds: where the due goes
pub record Finds (a : Inside) (t : Tokens) (p at due before : ℕ) : Type 0 where
  pub tokens : IsTokens a
  pub view : tokens_of a ≡ t
  pub room : length t.dues < 256
  pub within : due ≤ t.ahead
  pub stands : StandsAt a.ring.slots p at
  pub start : before ≡ sum_before a.ring.numbers p
  pub after_less : before ≤ due
  pub greater : p + 1 < length a.ring.numbers → due < get_or (running 0 a.ring.numbers) p 0

pub gap-fits : (a : Inside) (t : Tokens) (p at due before : ℕ) → Finds a t p at due before → due - before ≤ get_or a.ring.numbers p 0
gap-fits a t p at due before f =
    let gs = a.ring.numbers in
    let i = f.tokens in
    let place : p < length gs = omega (arith, f.stands.below, i.row.size) in
    let gap = running-gap 0 gs p p (omega arith) place in
    elim (cases_lt (p + 1) (length gs)) as (λ _. due - before ≤ get_or gs p 0) [
      | inl inner ↦ omega (arith, f.greater inner, f.start)
      | inr last ↦ omega (arith, last-sum gs a.ahead p i.total (omega arith), view-ahead a t f.view, f.within, f.start)
    ]

pub inserted : (a b : Inside) (t : Tokens) (p at due before slot : ℕ) (is_ripe : Bool) → Finds a t p at due before → slot < 256
    → b.ring.slots ≡ insert a.ring.slots p slot → b.ring.numbers ≡ insert (set a.ring.numbers p (get_or a.ring.numbers p 0 - (due - before))) p (due - before)
    → (due ≡ 0 → is_ripe ≡ true) → (is_ripe ≡ true → due ≡ 0)
    → (is_ripe ≡ true → (b.ripe ≡ a.ripe + 1) × (b.mark ≡ a.mark)) → (is_ripe ≡ false → p ≡ a.ripe → (b.ripe ≡ a.ripe) × (b.mark ≡ slot)) → (is_ripe ≡ false → a.ripe < p → (b.ripe ≡ a.ripe) × (b.mark ≡ a.mark))
    → b.ahead ≡ a.ahead → Is b (put_due due t.dues)
inserted a b t p at due before slot is_ripe f below slots_is numbers_is to from one here past ahead_is =
    let gs = a.ring.numbers in
    let i = f.tokens in
    let size = length-tokens a t i f.view in
    let row_size = i.row.size in
    let place : p < length gs = omega (arith, f.stands.below) in
    let fits = gap-fits a t p at due before f in
    let shown = shows-inserted gs a.ahead p (due - before) i.total place fits in
    let whole : sum_before gs p + (due - before) ≡ due = omega (arith, f.start, f.after_less) in
    let seen = view-dues a t f.view in
    let marked_before : a.ripe ≤ p = elim (cases_lt p a.ripe) as (λ _. a.ripe ≤ p) [
      | inl lt ↦ absurd (omega (arith, f.greater (omega (arith, i.marked.stands.below)), running-zeros gs a.ripe i.marked.zeros p lt place))
      | inr le ↦ le
    ] in
    let low : (j : ℕ) → j < p → get_or t.dues j 0 ≤ due = λ j lt.
    let b = back gs p (omega arith) place in
    omega (arith, ap (λ ds. get_or ds j 0) seen, due-sum gs a.ahead j i.total (omega arith), running-rises 0 gs j (p - 1) (omega arith) (omega arith), b.sum, f.start, f.after_less) in
    let high : p < length t.dues → due < get_or t.dues p 0 = λ lt.
    omega (arith, ap (λ ds. get_or ds p 0) seen, due-sum gs a.ahead p i.total (omega arith), f.greater (omega arith)) in
    let m = IsMarked-inserted gs a.ring.slots a.mark a.ripe p slot (due - before) b.mark b.ripe is_ripe i.marked row_size place
    (λ none. to (omega arith)) (λ yes. omega (arith, from yes)) marked_before one here past in
    record {
      dues =
          ap dues_of numbers_is ∙ shown.dues
          ∙ ap₂ (λ ds x. insert ds p x) seen whole
          ∙ insert-put_due due t.dues p (omega arith) low high;
      tokens = record {
        row = IsRow-insert a.ring b.ring p slot i.row f.stands.below (omega (arith, f.room)) below slots_is
            (ap length numbers_is ∙ length-insert (set gs p (get_or gs p 0 - (due - before))) p (due - before) (omega (arith, length-set gs p (get_or gs p 0 - (due - before)))) ∙ ap (λ n. n + 1) (length-set gs p (get_or gs p 0 - (due - before))));
        total = rw (numbers_is, ahead_is) shown.total;
        bound = omega (arith, i.bound);
        marked = rw (numbers_is, slots_is) m;
      };
    }

pub put_due-ahead : (a : Inside) (t : Tokens) → IsTokens a → tokens_of a ≡ t → put_due t.ahead t.dues ≡ t.dues ++ t.ahead ∷ []
put_due-ahead a t i view =
    sym (insert-put_due t.ahead t.dues (length t.dues) (omega arith) (λ p lt. due-within a t p i view lt) (λ lt. absurd (omega arith)))
    ∙ insert_end t.dues t.ahead
