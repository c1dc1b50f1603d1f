use Rattle.std.proofs.Common.{ℕ, List, reverse, IsTrue, refl, sym, ap, ◌∙◌, arith}
use Rattle.std.proofs.lemmas.List.{reverse-reverse}
use Rattle.std.proofs.lemmas.List.Elements.{All-tail}
use Rattle.kern_ids.specs.declared.calls.Call.{Call}
use Rattle.kern_ids.specs.declared.entries.Entry.{Entry}
use Rattle.kernel_model.specs.Histories.{fits}
use Rattle.kernel_model.specs.Turns.{run_from}
use Rattle.thread_runner.proofs.Fits.{turns-fit, run-turn, run-none}
use Rattle.thread_runner.proofs.serial.run_kernel.Goals as goal

pub turns-init : goal.turns-init
turns-init c =
    let s = c.args.scenario.now in
    rw (c.in_ok-kernel.ensures.empty, c.in_ok-turns.ensures) (record {
      boot = c.in_ok-kernel.ensures.boot ∙ c.boot.ensures;
      said = refl;
      fit = turns-fit s c.valid.ensures;
    })

pub take_turn-requires : goal.take_turn-requires
take_turn-requires c =
    let fit = rw c.in-Some.ensures at c.turns.invariant.fit in
    rw c.turns.invariant.boot (fit 0 (c.in-Some.turn.0, c.in-Some.turn.1.now) (omega arith))

pub turns-preserved : goal.turns-preserved
turns-preserved c =
    let boot = c.args.scenario.now.boot in
    let turn : ℕ × Call = (c.in-Some.turn.0, c.in-Some.turn.1.now) in
    let fit = rw c.in-Some.ensures at c.turns.invariant.fit in
    let said = rw c.in-Some.ensures at c.turns.invariant.said in
    let after = rw c.turns.invariant.boot at c.in_ok-take_turn.ensures.ok in
    record {
      boot = c.take_turn.ensures.boot ∙ c.turns.invariant.boot;
      said = ap (λ (past : List Entry). run_from boot past c.next.new.self) after ∙ sym (run-turn boot (reverse c.turns.kernel.history) turn c.next.new.self) ∙ said;
      fit = All-tail (λ (t : ℕ × Call). IsTrue (fits boot t.0 t.1)) turn c.next.new.self fit;
    }

pub returns-clause-serial : goal.returns-clause-serial
returns-clause-serial c =
    let boot = c.args.scenario.now.boot in
    let list = c.turns.kernel.history in
    let said = rw c.in_default.ensures.0 at c.turns.invariant.said in
    sym (reverse-reverse list) ∙ ap reverse (sym (run-none boot (reverse list)) ∙ said)
