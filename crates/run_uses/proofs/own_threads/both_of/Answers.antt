use Rattle.std.proofs.Common.{◌≡◌, ◌++◌, ◌∷◌, [], rules}
use Rattle.kernel_shared.specs.Calls.{IsIdleOf}
use Rattle.thread_runner.proofs.Joining.{popped}
use Rattle.run_uses.proofs.own_threads.both_of.Goals as goal

pub returns-clause-first : goal.returns-clause-first
returns-clause-first c =
    let last : c.args.passes.items ≡ c.pop.new.self.items ++ c.in-Some.second ∷ [] = search rules in
    let before : c.pop.new.self.items ≡ c.pop-2.new.self.items ++ c.in-Some-pop.first ∷ [] = search rules in
    (popped (IsIdleOf c.args.kernel.now) c.pop.new.self.items c.pop-2.new.self.items c.in-Some-pop.first before (popped (IsIdleOf c.args.kernel.now) c.args.passes.items c.pop.new.self.items c.in-Some.second last c.requires.idle).0).1

pub returns-clause-second : goal.returns-clause-second
returns-clause-second c =
    let last : c.args.passes.items ≡ c.pop.new.self.items ++ c.in-Some.second ∷ [] = search rules in
    (popped (IsIdleOf c.args.kernel.now) c.args.passes.items c.pop.new.self.items c.in-Some.second last c.requires.idle).1
