use Rattle.std.proofs.Common.{ℕ, List, Some, ap, sym, ◌∙◌, arith}
use Rattle.line_text.specs.Words.{reference}
use Rattle.line_text.proofs.GrammarLemmas.{ok_is}
use Rattle.line_text.proofs.WordLaws.{reference_again}
use Rattle.replay_check.proofs.lines.thread_of.Goals as goal

pub returns-in-Ok : goal.returns-in-Ok
returns-in-Ok c = λ who ws small is.
    let read = ap (reference 31 32) (c.new-words.ensures ∙ is) ∙ reference_again 31 32 who ws (omega arith) (omega (arith, small)) small in
    ap Some (ap (λ (x : ℕ × List (List ℕ)). x.0) (ok_is _ _ (sym c.in-Ok.ensures.value ∙ read)))

pub returns-in-Err : goal.returns-in-Err
returns-in-Err c = λ who ws small is.
    let read = ap (reference 31 32) (c.new-words.ensures ∙ is) ∙ reference_again 31 32 who ws (omega arith) (omega (arith, small)) small in
    let both = sym c.in-Err.ensures.value ∙ read in
    absurd cc
