use Rattle.std.proofs.Common.{◌≡◌, ◌≤◌, get_or}
use Rattle.token_list.specs.Slots.{StandsAt}
use Rattle.token_list.specs.Gaps.{running}
use Rattle.token_list.proofs.TokenList.due_at.Given as goal

abbrev pub invariant-loop-place : goal.invariant-loop-place
invariant-loop-place l = record {
  bound : l.slot ≤ 256;
  stands : StandsAt l.self-inside.ring.slots l.place l.slot;
  due : l.due ≡ get_or (running 0 l.self-inside.ring.numbers) l.place 0;
}
