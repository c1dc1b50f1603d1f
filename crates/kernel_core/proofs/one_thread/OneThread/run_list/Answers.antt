use Rattle.std.proofs.Common.{reverse, refl, sym, ◌∙◌, subst}
use Rattle.kernel_core.specs.Runs.{FitsIn}
use Rattle.kernel_core.proofs.Listed.{run_from-none, run_from-next}
use Rattle.kernel_core.proofs.one_thread.OneThread.run_list.Goals as goal

pub loop-turn-init : goal.loop-turn-init
loop-turn-init g c = record { boot = refl; made = sym (run_from-none c.args.self.now.boot (reverse c.args.self.now.history)) }

pub call-requires : goal.call-requires
call-requires g c =
    let turn = c.turn-item.result in
    let fit : FitsIn c.args.self.now.boot turn = subst (FitsIn c.args.self.now.boot) (sym c.turn-item.is) (c.requires c.loop-turn.turn-index turn c.loop-turn-test.true) in
    subst (λ b. FitsIn b turn) (sym c.loop-turn.invariant.boot) fit

pub loop-turn-preserved : goal.loop-turn-preserved
loop-turn-preserved g c =
    let first = c.args.self.now.boot in
    record {
      boot = c.call.ensures.boot ∙ c.loop-turn.invariant.boot;
      made = run_from-next first c.loop-turn.self.boot (reverse c.args.self.now.history) c.loop-turn.self.history c.call.new.self.history c.args.calls.now c.loop-turn.turn-index c.turn-item.result c.call.new.reply
          c.loop-turn-test.true c.turn-item.is c.loop-turn.invariant.boot c.loop-turn.invariant.made c.in_ok-call.ensures.reply c.in_ok-call.ensures.entry;
    }
