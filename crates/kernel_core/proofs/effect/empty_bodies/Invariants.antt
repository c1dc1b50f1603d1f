use Rattle.std.proofs.Common.{◌≡◌, length}
use Rattle.std.specs.List.{AllByRecursion}
use Rattle.page_store.specs.Contents.{nothing}
use Rattle.kernel_core.proofs.effect.empty_bodies.Given as goal

abbrev pub invariant-loop-i : goal.invariant-loop-i
invariant-loop-i l = record {
  count : length l.bodies.items ≡ l._i;
  empty : AllByRecursion (λ body. body ≡ nothing) l.bodies.items;
}
