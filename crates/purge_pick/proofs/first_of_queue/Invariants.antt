use Rattle.std.proofs.Common.{◌≡◌, ◌-◌, map}
use Rattle.std.specs.List.{range_with_len}
use Rattle.kernel_model.specs.Choice.{groups_of}
use Rattle.purge_pick.specs.Picks.{first_of}
use Rattle.purge_pick.proofs.first_of_queue.Given as goal

-- nothing has been found so far
abbrev pub invariant-loop-group : goal.invariant-loop-group
invariant-loop-group l =
    first_of l.g (groups_of l.q) ≡ first_of l.g (map (λ n. (l.q, n)) (range_with_len l.group (8 - l.group)))
