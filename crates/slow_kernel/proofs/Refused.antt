-- What is known of a call that isn't refused.
use Rattle.std.proofs.Common.{◌≡◌, ℕ, ◌+◌, ◌*◌, ◌≤◌, List, [], ◌∷◌, Bool, true, false, ◌||◌, Option, Some, None, refl, zero, suc, get_or, nat_eq, nat_lt, arith}
use Rattle.std.proofs.lemmas.Bool.Decides.{nat_tests}
use Rattle.kern_ids.specs.declared.entries.Entry.{Entry}
use Rattle.kern_ids.specs.declared.calls.Call.{Call}
use Rattle.kern_ids.specs.declared.replies.Refusal.TheVariants.{Range}
use Rattle.kernel_model.specs.System.{System}
use Rattle.kernel_model.specs.Lists.{first_some, some_if}
use Rattle.kernel_model.specs.Answers.{refusal, causes, out_of_range, bad_range}
use Rattle.kernel_model.specs.Pages.{pages_in}

none_at : {A : Type 0} (os : List (Option A)) → first_some (λ x. x) os ≡ None → (k : ℕ) → get_or os k None ≡ None
none_at [] h k = refl
none_at (None ∷ os) h zero = refl
none_at (None ∷ os) h (suc k) = none_at os h k
none_at (Some x ∷ os) h k = cc

some_if-none : {A : Type 0} (b : Bool) (x : A) → some_if b x ≡ None → b ≡ false
some_if-none true x h = cc
some_if-none false x h = refl

pub in_range : (boot : System) (past : List Entry) (who : ℕ) (call : Call) → refusal boot past who call ≡ None → out_of_range boot call ≡ false
unfolding refusal
in_range boot past who call h = some_if-none (out_of_range boot call) Range (none_at (causes boot past who call) h 5)

or-parts : (a b : Bool) → (a || b) ≡ false → (a ≡ false) × (b ≡ false)
or-parts true b h = cc
or-parts false b h = (refl, h)

pub range-bound : (boot : System) (o off len : ℕ) → bad_range boot o off len ≡ false → off + len ≤ 4096 * pages_in boot o
range-bound boot o off len h =
    let p = (or-parts (nat_eq len 0 || nat_lt 256 len) (nat_lt (4096 * pages_in boot o) (off + len)) h).1 in
    grind (arith, nat_tests, p)
