use Rattle.std.proofs.Common.{◌≡◌, length}
use Rattle.scenario_text.specs.Grammar.{order_words}
use Rattle.scenario_text.proofs.scan.order_words.Given as goal

abbrev pub invariant-words : goal.invariant-words
invariant-words l = record {
  said : order_words l.threads l.scenario l.words ≡ order_words l.threads l.fn.scenario l.fn.words;
  boot : l.scenario.boot ≡ l.fn.scenario.boot;
  threads : l.threads ≡ length l.fn.scenario.boot.sides;
}

abbrev pub decreases-words : goal.decreases-words
decreases-words l = length l.words
