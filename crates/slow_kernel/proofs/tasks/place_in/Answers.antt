use Rattle.std.proofs.Common.{◌∙◌, sym, nat_eq, length, arith}
use Rattle.std.proofs.lemmas.List.Sums.{position_or_len_is}
use Rattle.slow_kernel.proofs.tasks.place_in.Goals as goal

pub returns-then-is_task_at-clause-place : goal.returns-then-is_task_at-clause-place
returns-then-is_task_at-clause-place c =
    let e = c.len-i-end.ensures.value in
    sym (position_or_len_is (nat_eq c.args.t) c.args.line.now c.loop-i.i 0 (omega arith) c.loop-i.invariant (λ l. sym c.is_task_at.ensures ∙ c.if-is_task_at.true))

pub returns-clause-place : goal.returns-clause-place
returns-clause-place c =
    let e = c.len-i-end.ensures.value in
    c.len.ensures.value
    ∙ sym (position_or_len_is (nat_eq c.args.t) c.args.line.now (length c.args.line.now) 0 (omega arith) (λ k l. c.loop-i.invariant k (omega arith)) (λ l. absurd (omega arith)))
