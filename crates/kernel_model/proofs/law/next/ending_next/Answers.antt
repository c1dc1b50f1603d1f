use Rattle.kernel_model.proofs.Laws.Ends.{ending-maps, ending-owner, ending-gone, ending-stays, ending-loses, ending-free, ending-counts}
use Rattle.kernel_model.proofs.law.next.ending_next.Goals as goal

pub returns : goal.returns
returns g c = record {
  maps = ending-maps g.s;
  owner = ending-owner g.s;
  gone = ending-gone g.s;
  stay = ending-stays g.s;
  pages = ending-loses g.s;
  free = ending-free g.s;
  counts = ending-counts g.s;
}
