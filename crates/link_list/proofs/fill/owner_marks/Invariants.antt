use Rattle.std.proofs.Common.{◌≡◌, ◌++◌, replicate}
use Rattle.std.specs.List.{range_with_len}
use Rattle.link_list.proofs.fill.owner_marks.Given as goal

abbrev pub invariant-loop : goal.invariant-loop
invariant-loop l = l.owners.items ≡ replicate l.counter l.n

abbrev pub invariant-loop-l : goal.invariant-loop-l
invariant-loop-l l = l.owners.items ≡ replicate l.cap l.n ++ range_with_len 0 l.l
