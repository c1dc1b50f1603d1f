use Rattle.std.proofs.Common.{◌≡◌}
use Rattle.kernel_tables.specs.Ends.{StandsOver, parted}
use Rattle.kernel_tables.specs.Values.{values}
use Rattle.kernel_tables.proofs.parts.Parts.leave_all.Given as goal

abbrev pub ghost-leave_if : goal.ghost-leave_if
ghost-leave_if g a = g.past

-- the task was parted from the first i objects, and the bands, the ages and the wishes stay
abbrev pub invariant-loop-i : goal.invariant-loop-i
invariant-loop-i g l = StandsOver (values l.self) (parted l.initial.self.boot g.past l.t l.i)
    × (l.self.boot ≡ l.initial.self.boot) × (l.self.tasks.bands ≡ l.initial.self.tasks.bands) × (l.self.tasks.ages ≡ l.initial.self.tasks.ages) × (l.self.tasks.wishes.items ≡ l.initial.self.tasks.wishes.items)
