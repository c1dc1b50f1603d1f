use Rattle.std.proofs.Common.{◌≡◌, ◌-◌, length}
use Rattle.token_list.proofs.PassLemmas.{Passing}
use Rattle.token_list.proofs.TokenList.advance.Given as goal

abbrev pub decreases-loop-gap : goal.decreases-loop-gap
decreases-loop-gap l = length l.self-inside.ring.slots - l.self-inside.ripe

abbrev pub invariant-loop-gap : goal.invariant-loop-gap
invariant-loop-gap l = record {
  ahead : l.self-inside.ahead ≡ l.initial.self-inside.ahead;
  passing : Passing l.initial.self-inside.ring.numbers l.n l.self-inside.ring l.self-inside.mark l.self-inside.ripe l.left l.gap;
}
