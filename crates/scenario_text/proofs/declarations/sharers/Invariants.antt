use Rattle.std.proofs.Common.{◌≡◌, ◌≤◌, ◌<◌, ◌+◌, ◌∷◌, [], length, All}
use Rattle.kernel_model.specs.Valid.{IsRisingFrom}
use Rattle.scenario_text.specs.Grammar.{sharers}
use Rattle.scenario_text.specs.Gives.{front_sharers}
use Rattle.scenario_text.proofs.declarations.sharers.Given as goal

abbrev pub invariant-loop-t : goal.invariant-loop-t
invariant-loop-t l = record {
  said : front_sharers l.line (sharers l.tasks l.bound l.words) ≡ front_sharers (l.fn.first ∷ []) (sharers l.tasks (l.fn.first + 1) l.fn.words);
  shared : 0 < length l.line;
  rising : IsRisingFrom 0 l.line;
  declared : All (λ t. t < l.tasks) l.line;
  below : All (λ t. t < l.bound) l.line;
  few : length l.line ≤ l.bound;
}

abbrev pub decreases-loop-t : goal.decreases-loop-t
decreases-loop-t l = length l.words
