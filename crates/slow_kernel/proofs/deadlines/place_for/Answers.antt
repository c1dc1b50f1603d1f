use Rattle.std.proofs.Common.{◌∙◌, sym, nat_lt, arith}
use Rattle.slow_kernel.proofs.Positions.{position_at, position_past, position_bound}
use Rattle.slow_kernel.proofs.deadlines.place_for.Goals as goal

pub returns-in-Some-clause-place : goal.returns-in-Some-clause-place
returns-in-Some-clause-place c = position_at (λ d. nat_lt c.args.deadline d) c.args.list.now c.in-Some.i (sym c.first_greater.ensures ∙ c.in-Some.is)

pub returns-in-Some-clause-bound : goal.returns-in-Some-clause-bound
returns-in-Some-clause-bound c =
    let e = position_at (λ d. nat_lt c.args.deadline d) c.args.list.now c.in-Some.i (sym c.first_greater.ensures ∙ c.in-Some.is) in
    let b = position_bound (λ d. nat_lt c.args.deadline d) c.args.list.now in
    omega arith

pub returns-in-None-clause-place : goal.returns-in-None-clause-place
returns-in-None-clause-place c = position_past (λ d. nat_lt c.args.deadline d) c.args.list.now (sym c.first_greater.ensures ∙ c.in-None.is)
