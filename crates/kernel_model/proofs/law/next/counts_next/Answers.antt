use Rattle.kernel_model.proofs.Laws.Next.{counts-after}
use Rattle.kernel_model.proofs.law.next.counts_next.Goals as goal

pub returns : goal.returns
returns g c = record {
  counts = counts-after g.s;
}
