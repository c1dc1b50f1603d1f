use Rattle.std.proofs.Common.{◌≡◌, ◌-◌}
use Rattle.std.specs.List.{range_with_len}
use Rattle.purge_pick.specs.Picks.{first_of, both_places}
use Rattle.purge_pick.proofs.first_of_both.Given as goal

-- nothing has been found so far
abbrev pub invariant-loop-group : goal.invariant-loop-group
invariant-loop-group l =
    first_of l.g (both_places l.own l.other (range_with_len 0 8)) ≡ first_of l.g (both_places l.own l.other (range_with_len l.group (8 - l.group)))
