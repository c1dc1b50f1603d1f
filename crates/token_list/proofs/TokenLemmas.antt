-- A list of tokens after one of its calls: v is its row before, w that after.
use Rattle.std.proofs.Common.{◌≡◌, ℕ, ◌+◌, ◌-◌, ◌<◌, ◌≤◌, List, [], ◌∷◌, ◌++◌, length, get_or, set, map, ap, ap₂, sym, ◌∙◌, inl, inr, arith, add-one}
use Rattle.std.specs.List.{insert, remove}
use Rattle.std.proofs.lemmas.Bool.{cases_lt}
use Rattle.std.proofs.lemmas.List.{length-append, set_at, map-append, get_or_append_left, get_or_at}
use Rattle.std.proofs.lemmas.List.Edits.{get_or-insert_below, get_or-insert_at, get_or-insert_above, get_or-remove_below, get_or-remove_above, length-insert, length-remove, insert-append_left, remove-append_left}
use Rattle.token_list.specs.Slots.{Row, StandsAt, slot_at}
use Rattle.token_list.specs.Dues.{lowered_by}
use Rattle.token_list.specs.Gaps.{running, dues_of, IsRow}
use Rattle.token_list.proofs.GapLemmas.{length-running, running-gap, running-insert, running-remove, running-set_last, running-lowered, lowered, dues-is}
use Rattle.token_list.proofs.MarkLemmas.{joined, sum_before}

pub length-dues_of : (gs : List ℕ) (a : ℕ) → running 0 gs ≡ dues_of gs ++ a ∷ [] → length (dues_of gs) + 1 ≡ length gs
length-dues_of gs a h = omega (arith, ap length h, length-running 0 gs, length-append (dues_of gs) (a ∷ []))

-- the end
pub end-row : (v : Row) → IsRow v → StandsAt v.slots (length v.slots - 1) 256
end-row v r = record { below = omega (arith, r.some); is = r.end }

-- the sums give the dues, once they are known
pub record Shows (gs ds : List ℕ) (a : ℕ) : Type 0 where
  pub dues : dues_of gs ≡ ds
  pub total : running 0 gs ≡ dues_of gs ++ a ∷ []

pub shows : (gs ds : List ℕ) (a : ℕ) → running 0 gs ≡ ds ++ a ∷ [] → Shows gs ds a
shows gs ds a h =
    let is = dues-is gs ds a h in
    record { dues = is; total = h ∙ ap (λ l. l ++ a ∷ []) (sym is) }

pub shows-entered : (gs : List ℕ) (a n p : ℕ) → running 0 gs ≡ dues_of gs ++ a ∷ [] → p + 1 ≡ length gs
    → Shows (set gs p (get_or gs p 0 + n)) (dues_of gs) (a + n)
shows-entered gs a n p total h =
    let size = length-dues_of gs a total in
    let last : get_or (running 0 gs) p 0 ≡ a = ap (λ l. get_or l p 0) total ∙ get_or_at (dues_of gs) a [] 0 p (omega arith) in
    shows _ (dues_of gs) (a + n)
    (running-set_last 0 gs p n (omega arith)
    ∙ ap₂ (λ l x. set l p (x + n)) total last
    ∙ set_at (dues_of gs) a [] (a + n) p (omega arith))

pub shows-inserted : (gs : List ℕ) (a p d : ℕ) → running 0 gs ≡ dues_of gs ++ a ∷ [] → p < length gs → d ≤ get_or gs p 0
    → Shows (insert (set gs p (get_or gs p 0 - d)) p d) (insert (dues_of gs) p (sum_before gs p + d)) a
shows-inserted gs a p d total h le =
    let size = length-dues_of gs a total in
    shows _ _ a
    (running-insert 0 gs p d h le
    ∙ ap (λ l. insert l p (sum_before gs p + d)) total
    ∙ insert-append_left (dues_of gs) (a ∷ []) p (sum_before gs p + d) (omega arith))

pub shows-removed : (gs : List ℕ) (a p : ℕ) → running 0 gs ≡ dues_of gs ++ a ∷ [] → p + 1 < length gs
    → Shows (joined gs p) (remove (dues_of gs) p) a
shows-removed gs a p total h =
    let size = length-dues_of gs a total in
    shows _ _ a
    ((rw add-one (running-remove 0 gs p (omega arith)))
    ∙ ap (λ l. remove l p) total
    ∙ remove-append_left (dues_of gs) (a ∷ []) p (omega arith))

pub shows-lowered : (gs : List ℕ) (a n : ℕ) → running 0 gs ≡ dues_of gs ++ a ∷ [] → Shows (lowered n gs) (lowered_by n (dues_of gs)) (a - n)
shows-lowered gs a n total =
    shows _ _ (a - n)
    (ap₂ (λ s m. running s (lowered m gs)) (omega arith) (omega arith)
    ∙ running-lowered 0 n gs
    ∙ ap (map (λ d. d - n)) total
    ∙ map-append (λ d. d - n) (dues_of gs) (a ∷ []))

-- what stays of a row
pub IsRow-set : (v w : Row) → IsRow v → w.slots ≡ v.slots → length w.numbers ≡ length v.numbers → IsRow w
IsRow-set v w r slots size = record {
  size = ap length slots ∙ r.size ∙ sym size;
  few = omega (arith, ap length slots, r.few);
  some = omega (arith, ap length slots, r.some);
  end = ap (λ ss. slot_at ss (length ss - 1)) slots ∙ r.end;
  below = λ p h. omega (arith, ap (λ ss. slot_at ss p) slots, r.below p (omega (arith, ap length slots)));
}

pub IsRow-insert : (v w : Row) (p k : ℕ) → IsRow v → p < length v.slots → length v.slots ≤ 256 → k < 256 → w.slots ≡ insert v.slots p k → length w.numbers ≡ length v.numbers + 1 → IsRow w
IsRow-insert v w p k r h room slot slots size =
    let longer = ap length slots ∙ length-insert v.slots p k (omega arith) in
    let above : (i : ℕ) → p ≤ i → slot_at w.slots (i + 1) ≡ slot_at v.slots i = λ i le. ap (λ ss. slot_at ss (i + 1)) slots ∙ get_or-insert_above v.slots p k 256 i le (omega arith) in
    record {
      size = omega (arith, r.size);
      few = omega arith;
      some = omega (arith, r.some);
      end =
          let last : length w.slots - 1 ≡ length v.slots - 1 + 1 = omega (arith, r.some) in
          ap (slot_at w.slots) last ∙ above (length v.slots - 1) (omega arith) ∙ r.end;
      below = λ i lt. elim (cases_lt i p) as (λ _. slot_at w.slots i < 256) [
        | inl under ↦ omega (arith, ap (λ ss. slot_at ss i) slots ∙ get_or-insert_below v.slots p k 256 i under (omega arith), r.below i (omega arith))
        | inr past ↦ elim (cases_lt p i) as (λ _. slot_at w.slots i < 256) [
          | inl over ↦
              let one_more : i ≡ i - 1 + 1 = omega arith in
              omega (arith, ap (slot_at w.slots) one_more ∙ above (i - 1) (omega arith), r.below (i - 1) (omega arith))
          | inr same ↦
              let here : i ≡ p = omega arith in
              omega (arith, ap₂ (λ ss j. slot_at ss j) slots here ∙ get_or-insert_at v.slots p k 256 (omega arith))
        ]
      ];
    }

pub IsRow-remove : (v w : Row) (p : ℕ) → IsRow v → p + 1 < length v.slots → w.slots ≡ remove v.slots p → length w.numbers + 1 ≡ length v.numbers → IsRow w
IsRow-remove v w p r h slots size =
    let shorter : length w.slots + 1 ≡ length v.slots = ap (λ ss. length ss + 1) slots ∙ length-remove v.slots p (omega arith) in
    let above : (i : ℕ) → p ≤ i → slot_at w.slots i ≡ slot_at v.slots (i + 1) = λ i le. ap (λ ss. slot_at ss i) slots ∙ get_or-remove_above v.slots p 256 i le (omega arith) in
    record {
      size = omega (arith, r.size);
      few = omega (arith, r.few);
      some = omega arith;
      end =
          let last : length w.slots - 1 + 1 ≡ length v.slots - 1 = omega arith in
          above (length w.slots - 1) (omega arith) ∙ ap (slot_at v.slots) last ∙ r.end;
      below = λ i lt. elim (cases_lt i p) as (λ _. slot_at w.slots i < 256) [
        | inl under ↦ omega (arith, ap (λ ss. slot_at ss i) slots ∙ get_or-remove_below v.slots p 256 i under (omega arith), r.below i (omega arith))
        | inr past ↦ omega (arith, above i (omega arith), r.below (i + 1) (omega arith))
      ];
    }

-- the last sum is the number of pages ahead, and no gap is more
pub last-sum : (gs : List ℕ) (a p : ℕ) → running 0 gs ≡ dues_of gs ++ a ∷ [] → p + 1 ≡ length gs → get_or (running 0 gs) p 0 ≡ a
last-sum gs a p total h =
    let size = length-dues_of gs a total in
    ap (λ l. get_or l p 0) total ∙ get_or_at (dues_of gs) a [] 0 p (omega arith)

pub gap-within : (gs : List ℕ) (a p : ℕ) → running 0 gs ≡ dues_of gs ++ a ∷ [] → p < length gs → get_or gs p 0 ≤ a
gap-within gs a p total h = omega (arith, running-gap 0 gs p (length gs - 1) (omega arith) (omega arith), last-sum gs a (length gs - 1) total (omega arith))

-- a due is a sum
pub due-sum : (gs : List ℕ) (a p : ℕ) → running 0 gs ≡ dues_of gs ++ a ∷ [] → p + 1 < length gs → get_or (dues_of gs) p 0 ≡ get_or (running 0 gs) p 0
due-sum gs a p total h =
    let size = length-dues_of gs a total in
    sym (get_or_append_left (dues_of gs) (a ∷ []) 0 p (omega arith)) ∙ ap (λ l. get_or l p 0) (sym total)
