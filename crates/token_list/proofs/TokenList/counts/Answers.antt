use Rattle.std.proofs.Common.{inl, inr, ◌∙◌}
use Rattle.token_list.proofs.CallLemmas.{rest-within}
use Rattle.token_list.proofs.CountLemmas.{rising-dues, within-dues, counts-are}
use Rattle.token_list.proofs.TokenList.counts.Goals as goal
use Rattle.token_list.proofs.TokenList.counts.Goals.{then-self-eq-END, else-self-eq-END}

pub overflow_sub-result : goal.overflow_sub-result
overflow_sub-result c = rest-within c.self.inside c.self.invariant c.number-2.result c.number-2.ensures

pub returns-clause-counts : goal.returns-clause-counts
returns-clause-counts c =
    counts-are c.self.inside c.args.self.now c.len.result c.number-2.result c.if-self-eq-END.result c.self.invariant c.self.view_is c.len.ensures.value c.number-2.ensures
    (elim c.if-self-eq-END.branch [ then-self-eq-END w ↦ inl (w.if-self-eq-END.true, w.result-is) | else-self-eq-END w ↦ inr (w.if-self-eq-END.false, λ p at. w.result-is ∙ w.number.ensures p at) ])

pub returns-clause-rising : goal.returns-clause-rising
returns-clause-rising c = rising-dues c.self.inside c.args.self.now c.self.invariant c.self.view_is

pub returns-clause-within : goal.returns-clause-within
returns-clause-within c = within-dues c.self.inside c.args.self.now c.self.invariant c.self.view_is
