use Rattle.std.proofs.Common.{◌≡◌, ◌<◌, ℕ, List, sym, subst}
use Rattle.std.specs.List.{AllByRecursion}
use Rattle.kern_ids.specs.declared.entries.Entry.{Entry}
use Rattle.kernel_model.specs.System.{System}
use Rattle.turn_lock.specs.Histories.{StartsWith, entries_of, list_in}
use Rattle.turn_lock.specs.Passes.{TableView, gathered_by}
use Rattle.kernel_shared.proofs.shared.SharedKernel.close.Goals as goal

pub returns-clause-seen : goal.returns-clause-seen
returns-clause-seen c = subst (λ (h : List Entry). StartsWith h c.args.pass.seen) (sym c.into_log.ensures) c.close-kernel.ensures.seen

pub returns-clause-numbers : goal.returns-clause-numbers
returns-clause-numbers c =
    subst (λ (h : List Entry). AllByRecursion (λ e. e.who < c.args.self.passes) h) (sym c.into_log.ensures)
    (subst (λ (t : TableView System). AllByRecursion (λ e. e.who < t.passes) c.close-kernel.result.kernel.history) c.self.view_is c.close-kernel.ensures.numbers)

pub returns-clause-lists : goal.returns-clause-lists
returns-clause-lists c = λ n l.
    subst (λ (h : List Entry). entries_of (λ e. e.who) n h ≡ list_in n (gathered_by c.args.pass)) (sym c.into_log.ensures)
    (c.close-kernel.ensures.lists n (subst (λ (t : TableView System). n < t.passes) (sym c.self.view_is) l))
