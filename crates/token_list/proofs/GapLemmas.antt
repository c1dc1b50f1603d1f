-- Running sums of gaps, after a change of the gaps.
use Rattle.std.proofs.Common.{◌≡◌, ℕ, ◌+◌, ◌-◌, ◌<◌, ◌≤◌, zero, suc, List, [], ◌∷◌, ◌++◌, length, get_or, take, set, map, refl, ap, ap₂, sym, ◌∙◌, arith}
use Rattle.std.specs.List.{insert, remove}
use Rattle.std.proofs.lemmas.List.{length-append, take_at}
use Rattle.token_list.specs.Gaps.{running, dues_of}

pub length-running : (s : ℕ) (gs : List ℕ) → length (running s gs) ≡ length gs
length-running s [] = refl
length-running s (g ∷ gs) = ap suc (length-running (s + g) gs)

pub running-insert : (s : ℕ) (gs : List ℕ) (p d : ℕ) → p < length gs → d ≤ get_or gs p 0
    → running s (insert (set gs p (get_or gs p 0 - d)) p d) ≡ insert (running s gs) p (get_or (running s gs) p 0 - get_or gs p 0 + d)
running-insert s [] p d h le = absurd (omega arith)
running-insert s (g ∷ gs) zero d h le =
    let whole : s + d + (g - d) ≡ s + g = omega arith in
    let first : s + d ≡ s + g - g + d = omega arith in
    ap₂ (λ x y. x ∷ y ∷ running y gs) first whole
running-insert s (g ∷ gs) (suc p) d h le = ap (λ r. (s + g) ∷ r) (running-insert (s + g) gs p d (omega arith) le)

pub running-remove : (s : ℕ) (gs : List ℕ) (p : ℕ) → suc p < length gs
    → running s (remove (set gs (suc p) (get_or gs p 0 + get_or gs (suc p) 0)) p) ≡ remove (running s gs) p
running-remove s [] p h = absurd (omega arith)
running-remove s (g ∷ []) p h = absurd (omega arith)
running-remove s (g ∷ k ∷ gs) zero h =
    let whole : s + (g + k) ≡ s + g + k = omega arith in
    ap (λ x. x ∷ running x gs) whole
running-remove s (g ∷ k ∷ gs) (suc p) h = ap (λ r. (s + g) ∷ r) (running-remove (s + g) (k ∷ gs) p (omega arith))

-- more in the last gap
pub running-set_last : (s : ℕ) (gs : List ℕ) (p m : ℕ) → suc p ≡ length gs
    → running s (set gs p (get_or gs p 0 + m)) ≡ set (running s gs) p (get_or (running s gs) p 0 + m)
running-set_last s [] p m h = absurd (omega arith)
running-set_last s (g ∷ []) zero m h = ap (λ x. x ∷ []) (omega arith)
running-set_last s (g ∷ []) (suc p) m h = absurd (omega arith)
running-set_last s (g ∷ k ∷ gs) zero m h = absurd (omega arith)
running-set_last s (g ∷ k ∷ gs) (suc p) m h = ap (λ r. (s + g) ∷ r) (running-set_last (s + g) (k ∷ gs) p m (omega arith))

-- the gaps once n pages have left
abbrev pub lowered : ℕ → List ℕ → List ℕ
lowered n [] = []
lowered n (g ∷ gs) = (g - n) ∷ lowered (n - g) gs

pub running-lowered : (s n : ℕ) (gs : List ℕ) → running (s - n) (lowered (n - s) gs) ≡ map (λ d. d - n) (running s gs)
running-lowered s n [] = refl
running-lowered s n (g ∷ gs) =
    let first : s - n + (g - (n - s)) ≡ s + g - n = omega arith in
    let rest : n - s - g ≡ n - (s + g) = omega arith in
    ap₂ (λ x m. x ∷ running x (lowered m gs)) first rest ∙ ap (λ r. (s + g - n) ∷ r) (running-lowered (s + g) n gs)

pub lowered-none : (gs : List ℕ) → lowered 0 gs ≡ gs
lowered-none [] = refl
lowered-none (g ∷ gs) = ap₂ (λ x m. x ∷ lowered m gs) (omega arith) (omega arith) ∙ ap (λ r. g ∷ r) (lowered-none gs)

-- a step over the first gap that isn't 0
pub lowered-step : (n : ℕ) (gs : List ℕ) (p : ℕ) → p < length gs → ((k : ℕ) → k < p → get_or gs k 0 ≡ 0) → get_or gs p 0 ≤ n
    → lowered (n - get_or gs p 0) (set gs p 0) ≡ lowered n gs
lowered-step n [] p h zeros le = absurd (omega arith)
lowered-step n (g ∷ gs) zero h zeros le =
    ap₂ (λ x m. x ∷ lowered m gs) (omega arith) (omega arith)
lowered-step n (g ∷ gs) (suc p) h zeros le =
    let first : g ≡ 0 = zeros 0 (omega arith) in
    let here = get_or gs p 0 in
    ap₂ (λ x m. x ∷ lowered m (set gs p 0)) (omega arith) (omega arith)
    ∙ ap (λ r. (g - n) ∷ r) (lowered-step (n - g) gs p (omega arith) (λ k lt. zeros (suc k) (omega arith)) (omega arith))

-- the last step, within a gap
pub lowered-end : (n : ℕ) (gs : List ℕ) (p : ℕ) → p < length gs → ((k : ℕ) → k < p → get_or gs k 0 ≡ 0) → n ≤ get_or gs p 0
    → set gs p (get_or gs p 0 - n) ≡ lowered n gs
lowered-end n [] p h zeros le = absurd (omega arith)
lowered-end n (g ∷ gs) zero h zeros le =
    let none : n - g ≡ 0 = omega arith in
    ap (λ r. (g - n) ∷ r) (sym (ap (λ m. lowered m gs) none ∙ lowered-none gs))
lowered-end n (g ∷ gs) (suc p) h zeros le =
    let first : g ≡ 0 = zeros 0 (omega arith) in
    let same : n - g ≡ n = omega arith in
    ap₂ (λ x r. x ∷ r) (omega arith) (lowered-end n gs p (omega arith) (λ k lt. zeros (suc k) (omega arith)) le ∙ ap (λ m. lowered m gs) (sym same))

-- the dues, where the sums are known
pub dues-is : (gs ds : List ℕ) (a : ℕ) → running 0 gs ≡ ds ++ a ∷ [] → dues_of gs ≡ ds
dues-is gs ds a h =
    let size = ap length h in
    ap (take (length gs - 1)) h ∙ take_at ds (a ∷ []) (length gs - 1) (omega (arith, length-running 0 gs, length-append ds (a ∷ [])))

-- sums rise, and none is below a gap that it has
pub running-above : (s : ℕ) (gs : List ℕ) (p : ℕ) → p < length gs → s ≤ get_or (running s gs) p 0
running-above s [] p h = absurd (omega arith)
running-above s (g ∷ gs) zero h = omega arith
running-above s (g ∷ gs) (suc p) h = omega (arith, running-above (s + g) gs p (omega arith))

pub running-gap : (s : ℕ) (gs : List ℕ) (i j : ℕ) → i ≤ j → j < length gs → get_or gs i 0 ≤ get_or (running s gs) j 0
running-gap s [] i j le h = absurd (omega arith)
running-gap s (g ∷ gs) zero zero le h = omega arith
running-gap s (g ∷ gs) zero (suc j) le h = omega (arith, running-above (s + g) gs j (omega arith))
running-gap s (g ∷ gs) (suc i) zero le h = absurd (omega arith)
running-gap s (g ∷ gs) (suc i) (suc j) le h = running-gap (s + g) gs i j (omega arith) (omega arith)

pub running-rises : (s : ℕ) (gs : List ℕ) (i j : ℕ) → i ≤ j → j < length gs → get_or (running s gs) i 0 ≤ get_or (running s gs) j 0
running-rises s [] i j le h = absurd (omega arith)
running-rises s (g ∷ gs) zero zero le h = omega arith
running-rises s (g ∷ gs) zero (suc j) le h = running-above (s + g) gs j (omega arith)
running-rises s (g ∷ gs) (suc i) zero le h = absurd (omega arith)
running-rises s (g ∷ gs) (suc i) (suc j) le h = running-rises (s + g) gs i j (omega arith) (omega arith)

-- a sum is the one before it and its gap
pub running-step : (s : ℕ) (gs : List ℕ) (p : ℕ) → suc p < length gs → get_or (running s gs) (suc p) 0 ≡ get_or (running s gs) p 0 + get_or gs (suc p) 0
running-step s [] p h = absurd (omega arith)
running-step s (g ∷ []) p h = absurd (omega arith)
running-step s (g ∷ k ∷ gs) zero h = refl
running-step s (g ∷ k ∷ gs) (suc p) h = running-step (s + g) (k ∷ gs) p (omega arith)

pub running-first : (gs : List ℕ) → get_or (running 0 gs) 0 0 ≡ get_or gs 0 0
running-first [] = refl
running-first (g ∷ gs) = omega arith

-- sums of gaps of 0
pub running-zeros : (gs : List ℕ) (r : ℕ) → ((p : ℕ) → p < r → get_or gs p 0 ≡ 0) → (p : ℕ) → p < r → p < length gs → get_or (running 0 gs) p 0 ≡ 0
running-zeros gs r zeros zero lt h = running-first gs ∙ zeros zero lt
running-zeros gs r zeros (suc p) lt h =
    omega (arith, running-step 0 gs p h, running-zeros gs r zeros p (omega arith) (omega arith), zeros (suc p) lt)
