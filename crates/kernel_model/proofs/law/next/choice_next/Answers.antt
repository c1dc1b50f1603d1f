use Rattle.kernel_model.proofs.Laws.Next.{deadlines-after, ripe_queue-after, pick-after, forced-after}
use Rattle.kernel_model.proofs.law.next.choice_next.Goals as goal

pub returns : goal.returns
returns g c = record {
  deadlines = deadlines-after g.s;
  ripe = ripe_queue-after g.s;
  pick = pick-after g.s;
  forced = forced-after g.s;
}
