use Rattle.std.proofs.Common.{Some, refl, sym, subst}
use Rattle.std.proofs.lemmas.List.Elements.{All-pop}
use Rattle.turn_lock.specs.Passes.{IsNewPassOf}
use Rattle.kernel_shared.specs.Calls.{KernelPass, IsIdleOf}
use Rattle.refused_calls.proofs.take_pass.Goals as goal

pub returns-in-Some-clause-idle : goal.returns-in-Some-clause-idle
returns-in-Some-clause-idle c =
    let new = (All-pop (λ (p : KernelPass). IsNewPassOf c.args.kernel.now p) c.args.list.now c.take_last.new.self (Some c.in-Some.pass) c.in-Some.ensures c.requires).1 in
    subst (λ (p : KernelPass). IsIdleOf c.args.kernel.now p) (sym new.2) ((refl, refl), (refl, refl))

pub returns-in-Some-clause-left : goal.returns-in-Some-clause-left
returns-in-Some-clause-left c =
    (All-pop (λ (p : KernelPass). IsNewPassOf c.args.kernel.now p) c.args.list.now c.take_last.new.self (Some c.in-Some.pass) c.in-Some.ensures c.requires).0
