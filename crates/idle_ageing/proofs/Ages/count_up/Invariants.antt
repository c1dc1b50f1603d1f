use Rattle.std.proofs.Common.{◌≡◌, ℕ, ◌<◌, ◌≤◌, length, get_or, None}
use Rattle.std.specs.Option.{option_map}
use Rattle.idle_ageing.specs.Ageing.{one_more}
use Rattle.idle_ageing.proofs.Ages.count_up.Given as goal

-- the counts below t have one tick more, those from t on are as they were
abbrev pub invariant-loop-t : goal.invariant-loop-t
invariant-loop-t l =
    (l.self-inside.delays.items ≡ l.initial.self-inside.delays.items)
    × (length l.self-inside.counts.items ≡ length l.initial.self-inside.counts.items)
    × ((k : ℕ) → k < l.t → get_or l.self-inside.counts.items k None ≡ option_map (one_more (get_or l.initial.self-inside.delays.items k 0)) (get_or l.initial.self-inside.counts.items k None))
    × ((k : ℕ) → l.t ≤ k → get_or l.self-inside.counts.items k None ≡ get_or l.initial.self-inside.counts.items k None)
