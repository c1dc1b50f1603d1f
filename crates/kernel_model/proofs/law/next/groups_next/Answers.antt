use Rattle.kernel_model.proofs.Laws.Next.{state-after, standing-after, volatile-after, stands_in-after, first-after}
use Rattle.kernel_model.proofs.law.next.groups_next.Goals as goal

pub returns : goal.returns
returns g c = record {
  state = state-after g.s;
  standing = standing-after g.s;
  volatile = volatile-after g.s;
  has = stands_in-after g.s;
  first = first-after g.s;
}
