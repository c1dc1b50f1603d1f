-- What is told of a queue's tokens: the same by their deadlines and by their dues.
use Rattle.std.proofs.Common.{◌≡◌, ℕ, ◌+◌, ◌-◌, ◌<◌, ◌≤◌, List, [], ◌∷◌, length, map, find, cond, Option, Some, None, refl, sym, ap, ap₂, ◌∙◌, Bool, true, false, nat_lt, nat_le, inl, inr, ◌⊎◌, arith}
use Rattle.std.specs.Prelude.{count_by, ◌==◌}
use Rattle.std.specs.Option.{option_map_or, unwrap_or}
use Rattle.std.proofs.lemmas.Bool.{cases_Bool}
use Rattle.std.proofs.lemmas.Bool.Decides.{nat_tests}
use Rattle.std.proofs.lemmas.List.{length-map}
use Rattle.kern_ids.specs.declared.replies.QueueCounts.{QueueCounts}
use Rattle.kernel_model.specs.Answers.{queue_counts, last_or as last_deadline}
use Rattle.kernel_model.proofs.Laws.Agree.{count_by-agree}
use Rattle.kernel_model.proofs.Laws.Counting.{count_by-map}
use Rattle.token_list.specs.Dues.{counts_of, last_or}

-- a deadline is ripe where its due is 0
ripe-due : (n d : ℕ) → (d - n == 0) ≡ nat_le d n
ripe-due n d = grind (arith, nat_tests)

unripe-due : (n d : ℕ) → nat_lt 0 (d - n) ≡ nat_lt n d
unripe-due n d = grind (arith, nat_tests)

next-due : (n : ℕ) (ds : List ℕ) → unwrap_or (find (λ d. nat_lt 0 d) (map (λ d. d - n) ds)) 0 ≡ option_map_or (λ d. d - n) (find (λ d. nat_lt n d) ds) 0
next-due n [] = refl
next-due n (d ∷ ds) = elim (cases_Bool (nat_lt n d)) [
  | inl later ↦ rw (unripe-due n d, later) refl
  | inr ripe ↦ rw (unripe-due n d, ripe) (next-due n ds)
]

last-due : (n : ℕ) (ds : List ℕ) (d : ℕ) → last_or (map (λ d. d - n) ds) (d - n) ≡ last_deadline ds d - n
last-due n [] d = refl
last-due n (x ∷ xs) d = last-due n xs x

last-none : (n : ℕ) (ds : List ℕ) → last_or (map (λ d. d - n) ds) 0 ≡ last_deadline ds 0 - n
last-none n [] = omega arith
last-none n (x ∷ xs) = last-due n xs x

abbrev told : ℕ → ℕ → ℕ → ℕ → QueueCounts
told a b c d = record { tokens = a; ripe = b; next = c; last = d }

pub counts-dues : (n : ℕ) (ds : List ℕ) → counts_of (map (λ d. d - n) ds) ≡ queue_counts n ds
counts-dues n ds =
    let ripe = count_by-map (λ d. d == 0) (λ d. d - n) ds ∙ count_by-agree (λ d. d - n == 0) (λ d. nat_le d n) (ripe-due n) ds in
    let dues : List ℕ = map (λ d. d - n) ds in
    ap₂ (λ a b. told a b (unwrap_or (find (λ d. nat_lt 0 d) dues) 0) (last_or dues 0)) (length-map ds (λ d. d - n)) ripe
    ∙ ap₂ (λ c d. told (length ds) (count_by (λ d. nat_le d n) ds) c d) (next-due n ds) (last-none n ds)
