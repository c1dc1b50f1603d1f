-- Runs of calls.
use Rattle.std.proofs.Common.{◌≡◌, ℕ, zero, suc, ◌+◌, ◌<◌, List, [], ◌∷◌, ◌++◌, length, take, drop, get_or, Result, Ok, Err, OnErr, refl, sym, ap, ap₂, ◌∙◌, arith, append_assoc, append-nil}
use Rattle.std.proofs.lemmas.List.{map-append, take_more}
use Rattle.kern_ids.specs.declared.entries.Entry.{Entry}
use Rattle.kern_ids.specs.declared.calls.Call.{Call}
use Rattle.kern_ids.specs.declared.replies.Reply.{Reply}
use Rattle.kernel_shared.specs.Calls.{KernelTable, KernelPass, HasMade, entry_of}
use Rattle.thread_runner.specs.Runs.{HasRun, HasRunSome}

pub on-err : {A B : Type 0} (r : Result A B) (P : Type 0) → P → OnErr r P
on-err (Ok x) P p = tt {0}
on-err (Err e) P p = p

pub ran-none : (p : KernelPass) → HasRun p p []
ran-none p = ([], sym (append-nil p.mine), refl)

-- one call more
pub ran-more : (t : KernelTable) (old mid new : KernelPass) (calls : List Call) (k : ℕ) (call : Call) (reply : Reply) → HasRun old mid (take k calls) → HasMade t mid new call reply
    → k < length calls → call ≡ get_or calls k call → HasRun old new (take (k + 1) calls)
ran-more t old mid new calls k call reply ran made l is =
    let e = entry_of mid call reply in (
      ran.0 ++ e ∷ [],
      made.mine ∙ (ap (λ (es : List Entry). es ++ e ∷ []) ran.1 ∙ append_assoc old.mine ran.0 (e ∷ [])),
      map-append (λ (x : Entry). x.call) ran.0 (e ∷ []) ∙ (ap₂ (λ (xs : List Call) (c : Call). xs ++ c ∷ []) ran.2 is ∙ sym (take_more calls k call l)),
    )

take_drop : {A : Type 0} (k : ℕ) (xs : List A) → xs ≡ take k xs ++ drop k xs
take_drop zero xs = refl
take_drop (suc k) [] = refl
take_drop (suc k) (x ∷ xs) = ap (λ ys. x ∷ ys) (take_drop k xs)

-- a call that was not made ends the run
pub ran-some : (old mid new : KernelPass) (calls : List Call) (k : ℕ) → HasRun old mid (take k calls) → new.mine ≡ mid.mine → HasRunSome old new calls
ran-some old mid new calls k ran same = (take k calls, drop k calls, take_drop k calls, (ran.0, same ∙ ran.1, ran.2))

pub same-item : {A : Type 0} (xs : List A) (k : ℕ) (d e : A) → k < length xs → get_or xs k d ≡ get_or xs k e
same-item [] k d e l = absurd (omega arith)
same-item (x ∷ xs) zero d e l = refl
same-item (x ∷ xs) (suc k) d e l = same-item xs k d e (omega arith)
