use Rattle.std.proofs.Common.{◌≡◌, ℕ, ◌+◌, ◌<◌, List, [], ◌∷◌, ◌++◌, Option, refl, reverse, take, length, get_or, ap, ◌∙◌}
use Rattle.std.specs.Option.{unwrap_or}
use Rattle.std.proofs.lemmas.List.{reverse-append, take_more}
use Rattle.kernel_model.specs.Newest.{newest}

-- one entry more in order is one more in front, newest first
pub past-push : {E : Type 0} (h : List E) (e : E) → reverse (h ++ e ∷ []) ≡ e ∷ reverse h
past-push h e = reverse-append h (e ∷ [])

-- what the newest entry says is what the last one says, or what was said before it
pub newest-more : {E A : Type 0} (speaks : List E → A → E → Option A) (start : A) (e : E) (before : List E) → newest speaks start (e ∷ before) ≡ unwrap_or (speaks before (newest speaks start before) e) (newest speaks start before)
unfolding newest
newest-more speaks start e before = refl

-- one more of the first entries, newest first
pub past-take : {E : Type 0} (h : List E) (i : ℕ) (e : E) → i < length h → e ≡ get_or h i e → reverse (take (i + 1) h) ≡ e ∷ reverse (take i h)
past-take h i e l r = ap reverse (take_more h i e l) ∙ rw (← r) (past-push (take i h) e)
