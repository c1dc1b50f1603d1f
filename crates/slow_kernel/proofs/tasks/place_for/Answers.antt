use Rattle.std.proofs.Common.{◌∙◌, sym, arith, reverse}
use Rattle.kernel_model.specs.Victims.{band_lt}
use Rattle.slow_kernel.proofs.Positions.{position_at, position_past, position_bound}
use Rattle.slow_kernel.proofs.tasks.place_for.Goals as goal

pub returns-in-Some-clause-place : goal.returns-in-Some-clause-place
returns-in-Some-clause-place c = position_at (band_lt c.args.boot.now (reverse c.args.entries.now) c.args.t) c.args.due.now c.in-Some.i (sym c.first_above.ensures ∙ c.in-Some.is)

pub returns-in-Some-clause-bound : goal.returns-in-Some-clause-bound
returns-in-Some-clause-bound c =
    let e = position_at (band_lt c.args.boot.now (reverse c.args.entries.now) c.args.t) c.args.due.now c.in-Some.i (sym c.first_above.ensures ∙ c.in-Some.is) in
    let b = position_bound (band_lt c.args.boot.now (reverse c.args.entries.now) c.args.t) c.args.due.now in
    omega arith

pub returns-in-None-clause-place : goal.returns-in-None-clause-place
returns-in-None-clause-place c = position_past (band_lt c.args.boot.now (reverse c.args.entries.now) c.args.t) c.args.due.now (sym c.first_above.ensures ∙ c.in-None.is)
