use Rattle.std.proofs.Common.{◌+◌, sym, ap, ◌∙◌, slice_get}
use Rattle.std.proofs.lemmas.Option.{none-some}
use Rattle.priority_bands.specs.Banded.{tasks_from}
use Rattle.priority_bands.proofs.TasksFrom.{after_in_band, after_above, band_of_task}
use Rattle.priority_bands.proofs.Bands.following.Goals as goal

pub returns-in-Some : goal.returns-in-Some
returns-in-Some c = λ from in_tasks. sym (after_in_band c.args.self.now c.are_bands.ensures.once c.args.t from c.in-Some.behind in_tasks (sym c.in-Some.ensures))

pub returns-in-Some-band_of : goal.returns-in-Some-band_of
returns-in-Some-band_of c = λ from in_tasks.
    c.head_from.ensures
    ∙ ap (λ i. slice_get (tasks_from c.args.self.now (i + 1)) 0) c.get.ensures.value
    ∙ sym (after_above c.args.self.now c.are_bands.ensures.once c.args.t from c.in-Some-band_of.b in_tasks (sym c.in-None.ensures) (sym c.in-Some-band_of.ensures))

pub returns-in-None-band_of : goal.returns-in-None-band_of
returns-in-None-band_of c = λ from in_tasks.
    let found = band_of_task c.args.self.now c.are_bands.ensures.once c.args.t from in_tasks in
    absurd (none-some found.0 (c.in-None-band_of.ensures ∙ found.3))
