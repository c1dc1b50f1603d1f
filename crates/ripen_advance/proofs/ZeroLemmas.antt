-- Dues that are all 0.
use Rattle.std.proofs.Common.{◌≡◌, ℕ, zero, suc, List, [], ◌∷◌, ◌++◌, get_or, leb, true, refl, ap, arith}
use Rattle.std.proofs.lemmas.Bool.Decides.{nat_tests}
use Rattle.token_list.specs.Dues.{lowered_by, put_due}

abbrev pub AreZero : List ℕ → Type 0
AreZero ds = (k : ℕ) → get_or ds k 0 ≡ 0

pub AreZero-lowered : (n : ℕ) (ds : List ℕ) → AreZero ds → AreZero (lowered_by n ds)
AreZero-lowered n [] h k = h k
AreZero-lowered n (d ∷ ds) h zero = omega (arith, h 0)
AreZero-lowered n (d ∷ ds) h (suc k) = AreZero-lowered n ds (λ i. h (suc i)) k

pub AreZero-push : (ds : List ℕ) → AreZero ds → AreZero (ds ++ 0 ∷ [])
AreZero-push [] h zero = refl
AreZero-push [] h (suc k) = h k
AreZero-push (d ∷ ds) h zero = h 0
AreZero-push (d ∷ ds) h (suc k) = AreZero-push ds (λ i. h (suc i)) k

pub put_due-zero : (ds : List ℕ) → AreZero ds → put_due 0 ds ≡ ds ++ 0 ∷ []
put_due-zero [] h = refl
put_due-zero (d ∷ ds) h =
    let none = h 0 in
    let test : leb d 0 ≡ true = grind (arith, nat_tests) in
    rw test (ap (λ r. d ∷ r) (put_due-zero ds (λ i. h (suc i))))
