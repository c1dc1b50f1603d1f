-- A list of calls, made one after the other.
use Rattle.std.proofs.Common.{◌≡◌, ℕ, ◌+◌, ◌<◌, List, [], ◌∷◌, ◌++◌, length, get_or, take, reverse, refl, sym, ap, ◌∙◌}
use Rattle.std.proofs.lemmas.List.{reverse-append, take_more}
use Rattle.kern_ids.specs.declared.calls.Call.{Call}
use Rattle.kern_ids.specs.declared.entries.Entry.{Entry}
use Rattle.kern_ids.specs.declared.replies.Reply.{Reply}
use Rattle.kernel_model.specs.System.{System}
use Rattle.kernel_model.specs.Answers.{answer}
use Rattle.kernel_model.specs.Turns.{answered, run_from}

pub run_from-none : (boot : System) (past : List Entry) → run_from boot past [] ≡ past
unfolding run_from
run_from-none boot past = refl

-- one call more
pub run_from-more : (boot : System) (past : List Entry) (turns : List (ℕ × Call)) (turn : ℕ × Call) → run_from boot past (turns ++ turn ∷ []) ≡ answered boot (run_from boot past turns) turn ∷ run_from boot past turns
unfolding run_from
run_from-more boot past [] turn = refl
run_from-more boot past (t ∷ ts) turn = run_from-more boot (answered boot past t ∷ past) ts turn

-- the history after call i of the list, where it was that of the calls before
pub run_from-next : (first boot : System) (past h later : List Entry) (calls : List (ℕ × Call)) (i : ℕ) (turn : ℕ × Call) (reply : Reply) → i < length calls → turn ≡ get_or calls i turn → boot ≡ first → reverse h ≡ run_from first past (take i calls)
    → reply ≡ answer boot (reverse h) turn.0 turn.1 → later ≡ h ++ record { who = turn.0; call = turn.1; reply = reply } ∷ [] → reverse later ≡ run_from first past (take (i + 1) calls)
run_from-next first boot past h later calls i turn reply within is same before r made =
    let done = run_from first past (take i calls) in
    let e : Entry = record { who = turn.0; call = turn.1; reply = reply } in
    let longer : reverse later ≡ e ∷ reverse h = ap reverse made ∙ reverse-append h (e ∷ []) in
    let answer_is : e ∷ reverse h ≡ answered boot (reverse h) turn ∷ reverse h = ap (λ (x : Reply). record { who = turn.0; call = turn.1; reply = x } ∷ reverse h) r in
    let from_first : answered boot (reverse h) turn ∷ reverse h ≡ answered first done turn ∷ done =
    ap (λ (b : System). answered b (reverse h) turn ∷ reverse h) same ∙ ap (λ (p : List Entry). answered first p turn ∷ p) before in
    let listed : run_from first past (take (i + 1) calls) ≡ answered first done turn ∷ done =
    ap (run_from first past) (take_more calls i turn within) ∙ (run_from-more first past (take i calls) (get_or calls i turn) ∙ ap (λ (t : ℕ × Call). answered first done t ∷ done) (sym is)) in
    longer ∙ (answer_is ∙ (from_first ∙ sym listed))
