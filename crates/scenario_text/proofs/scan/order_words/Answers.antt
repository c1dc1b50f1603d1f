use Rattle.std.proofs.Common.{length, sym, ap, ◌∙◌, refl}
use Rattle.std.proofs.lemmas.Bool.{false≢true}
use Rattle.std.proofs.lemmas.Result.{err_from_is_err_and}
use Rattle.kernel_model.specs.Scenario.{Plan}
use Rattle.scenario_text.proofs.OrderLemmas.{order-more, order-bad, order-none}
use Rattle.scenario_text.proofs.scan.order_words.Goals as goal

pub returns-in_err-who : goal.returns-in_err-who
returns-in_err-who c =
    let p = err_from_is_err_and c.from_residual.result c.from_residual.ensures.1 in
    let bad = rw c.order_len-count.ensures.value at c.in_err-who.ensures.value in
    rw (p.1, p.2, ← c.words.invariant.threads) (sym c.words.invariant.said ∙ order-bad _ _ _ _ (λ none. false≢true (c.words-test.ensures.1 none)) bad)

pub words-preserved : goal.words-preserved
words-preserved c =
    let i = c.words.invariant in
    let said = rw c.order_len-count.ensures.value at c.in_ok-who.ensures.value in
    record {
      said = rw c.in_ok-add_order.ensures.ok (sym (order-more (length c.sides.result.now) c.words.scenario c.words.words (c.in_ok-who.who, c.turn.new.words) said) ∙ i.said);
      boot = ap (λ (s : Plan). s.boot) c.in_ok-add_order.ensures.ok ∙ i.boot;
      threads = i.threads;
    }

pub returns : goal.returns
returns c = rw (← c.words.invariant.threads) (sym c.words.invariant.said ∙ order-none _ _ _ (c.words-test.ensures.0 refl))
