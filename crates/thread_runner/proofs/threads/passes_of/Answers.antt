use Rattle.std.proofs.Common.{◌≡◌, ◌+◌, ◌∷◌, [], ◌++◌, length, sym, subst, rules, arith}
use Rattle.std.specs.List.{All}
use Rattle.std.proofs.lemmas.List.Elements.{All-push}
use Rattle.turn_lock.specs.Passes.{IsNewPassOf}
use Rattle.kernel_shared.specs.Calls.{KernelPass}
use Rattle.thread_runner.proofs.Joining.{popped, popped-length}
use Rattle.thread_runner.proofs.threads.passes_of.Goals as goal

pub loop-pass-preserved : goal.loop-pass-preserved
loop-pass-preserved c =
    let P = λ (p : KernelPass). IsNewPassOf c.args.kernel.now p in
    let taken = popped P c.loop-pass.list c.take_last.new.self c.in-Some.pass c.in-Some.ensures c.loop-pass.invariant.left in
    let less = popped-length c.loop-pass.list c.take_last.new.self c.in-Some.pass c.in-Some.ensures in
    let pushed : c.push.new.self.items ≡ c.loop-pass.passes.items ++ c.in-Some.pass ∷ [] = search rules in
    let one : length c.push.new.self.items ≡ length c.loop-pass.passes.items + 1 = popped-length c.push.new.self.items c.loop-pass.passes.items c.in-Some.pass pushed in
    let count = c.loop-pass.invariant.count in
    record {
      left = taken.0;
      taken = subst (All P) (sym pushed) (All-push P c.loop-pass.passes.items c.in-Some.pass c.loop-pass.invariant.taken taken.1);
      count = omega arith;
    }
