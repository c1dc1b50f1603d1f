use Rattle.std.proofs.Common.{◌≡◌, ◌+◌, ◌<◌, ◌≤◌, length, get_or}
use Rattle.token_list.specs.Slots.{StandsAt}
use Rattle.token_list.specs.Gaps.{running}
use Rattle.token_list.proofs.MarkLemmas.{sum_before}
use Rattle.token_list.proofs.TokenList.insert.Given as goal

abbrev pub decreases-loop-before : goal.decreases-loop-before
decreases-loop-before l = l.place

abbrev pub invariant-loop-before : goal.invariant-loop-before
invariant-loop-before l = record {
  bound : l.at ≤ 256;
  stands : StandsAt l.self-inside.ring.slots l.place l.at;
  before : l.before ≡ sum_before l.self-inside.ring.numbers l.place;
  greater : l.place + 1 < length l.self-inside.ring.numbers → l.due < get_or (running 0 l.self-inside.ring.numbers) l.place 0;
}
