use Rattle.kernel_model.proofs.Laws.Next.{maps-after, owner-after, mapped-after, unmaps-after}
use Rattle.kernel_model.proofs.law.next.mapping_next.Goals as goal

pub returns : goal.returns
returns g c = record {
  maps = maps-after g.s;
  owner = owner-after g.s;
  mapped = mapped-after g.s;
  unmaps = unmaps-after g.s;
}
