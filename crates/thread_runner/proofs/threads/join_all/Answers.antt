use Rattle.std.proofs.Common.{◌≡◌, ◌+◌, ◌∷◌, [], ◌++◌, rules, arith}
use Rattle.turn_lock.specs.Passes.{weight_of}
use Rattle.thread_runner.specs.Threads.{IsFinished}
use Rattle.thread_runner.proofs.Joining.{popped, popped-length, not-false, alone-distinct, alone-weight, alone-scripted, joined-idle, joined-scripted}
use Rattle.thread_runner.proofs.threads.join_all.Goals as goal

pub loop-other-init : goal.loop-other-init
loop-other-init c =
    let t = c.args.kernel.now in
    let s = c.args.s.now in
    let first = c.in-Some.first in
    let was : c.args.finished.items ≡ c.pop.new.self.items ++ first ∷ [] = search rules in
    let taken = popped (IsFinished t s) c.args.finished.items c.pop.new.self.items first was c.requires.finished in
    let less = popped-length c.args.finished.items c.pop.new.self.items first was in
    let one : weight_of first.pass ≡ 1 = alone-weight t s first taken.1 in
    record {
      idle = taken.1.idle;
      weight = omega arith;
      distinct = alone-distinct t s first taken.1;
      scripted = alone-scripted t s first taken.1 c.if-not-whole.false;
      left = taken.0;
    }

pub join-requires-clause-other : goal.join-requires-clause-other
join-requires-clause-other c =
    let was : c.loop-other.finished.items ≡ c.pop-in-loop-other.new.self.items ++ c.in-Some-pop.other ∷ [] = search rules in
    (popped (IsFinished c.args.kernel.now c.args.s.now) c.loop-other.finished.items c.pop-in-loop-other.new.self.items c.in-Some-pop.other was c.loop-other.invariant.left).1.idle

pub loop-other-preserved : goal.loop-other-preserved
loop-other-preserved c =
    let t = c.args.kernel.now in
    let s = c.args.s.now in
    let other = c.in-Some-pop.other in
    let old = c.loop-other.pass in
    let new = c.join.new.into in
    let was : c.loop-other.finished.items ≡ c.pop-in-loop-other.new.self.items ++ other ∷ [] = search rules in
    let taken = popped (IsFinished t s) c.loop-other.finished.items c.pop-in-loop-other.new.self.items other was c.loop-other.invariant.left in
    let less = popped-length c.loop-other.finished.items c.pop-in-loop-other.new.self.items other was in
    let one : weight_of other.pass ≡ 1 = alone-weight t s other taken.1 in
    let both : weight_of new ≡ weight_of old + weight_of other.pass = c.join.ensures.weight in
    let before = c.loop-other.invariant.weight in
    record {
      idle = joined-idle t s old new new.seen new.others c.join.ensures.same c.loop-other.invariant.idle;
      weight = omega arith;
      distinct = c.join.ensures.distinct;
      scripted = joined-scripted t s old new other.pass new.seen new.others c.join.ensures.same c.join.ensures.others c.loop-other.invariant.scripted (alone-scripted t s other taken.1 (not-false other.whole c.if-not-other.false));
      left = taken.0;
    }
