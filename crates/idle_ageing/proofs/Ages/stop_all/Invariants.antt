use Rattle.std.proofs.Common.{◌≡◌, ℕ, ◌<◌, length, get_or, take, cond, None}
use Rattle.link_list.specs.KeyLists.{has}
use Rattle.idle_ageing.proofs.Ages.stop_all.Given as goal

-- the first i tasks of the line count no more
abbrev pub invariant-loop-i : goal.invariant-loop-i
invariant-loop-i l =
    (l.self.delays ≡ l.initial.self.delays)
    × (length l.self.counts ≡ length l.initial.self.counts)
    × ((k : ℕ) → k < length l.self.counts → get_or l.self.counts k None ≡ cond (has k (take l.i l.tasks)) None (get_or l.initial.self.counts k None))
