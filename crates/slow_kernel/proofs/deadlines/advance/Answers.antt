use Rattle.std.proofs.Common.{◌∙◌, sym, ap}
use Rattle.std.proofs.lemmas.Result.{on_ok_weaker}
use Rattle.kernel_model.specs.State.{state}
use Rattle.kernel_model.specs.Deadlines.{after_set, after_purge}
use Rattle.slow_kernel.specs.Tables.{past_at}
use Rattle.slow_kernel.specs.DeadlineSteps.{after_to}
use Rattle.slow_kernel.proofs.DeadlineLists.{changed_set, changed_purge, changed_unmaps}
use Rattle.std.proofs.Common.{length}
use Rattle.slow_kernel.proofs.deadlines.advance.Goals as goal

pub returns-in-Some : goal.returns-in-Some
returns-in-Some c =
    on_ok_weaker c.after_set.result
    (λ e. e
    ∙ ap (after_set c.args.boot.now (past_at c.args.entries.now c.args.i) c.in-Some.set.0 (state (past_at c.args.entries.now c.args.i) c.in-Some.set.0) c.in-Some.set.1) c.requires.before
    ∙ sym (changed_set c.args.boot.now c.args.entries.now c.args.i c.index-entries-i.result c.in-Some.set c.requires.at c.index-entries-i.is (sym c.set_by.ensures ∙ c.in-Some.is)))
    c.after_set.ensures

pub returns-in-Some-purged_by : goal.returns-in-Some-purged_by
returns-in-Some-purged_by c =
    on_ok_weaker c.after_purge.result
    (λ e. e
    ∙ ap (after_purge c.args.boot.now (past_at c.args.entries.now c.args.i) c.index-entries-i.result.call c.in-Some-purged_by.o) c.requires.before
    ∙ sym (changed_purge c.args.boot.now c.args.entries.now c.args.i c.index-entries-i.result c.in-Some-purged_by.o c.requires.at c.index-entries-i.is (sym c.set_by.ensures ∙ c.in-None.is) (sym c.purged_by.ensures ∙ c.in-Some-purged_by.is)))
    c.after_purge.ensures

pub returns-in-None-purged_by : goal.returns-in-None-purged_by
returns-in-None-purged_by c =
    c.after_unmappings.ensures
    ∙ ap (after_to c.args.boot.now c.args.entries.now c.args.i (length c.args.boot.now.objects)) c.requires.before
    ∙ sym (changed_unmaps c.args.boot.now c.args.entries.now c.args.i c.index-entries-i.result c.requires.at c.index-entries-i.is (sym c.set_by.ensures ∙ c.in-None.is) (sym c.purged_by.ensures ∙ c.in-None-purged_by.is))
