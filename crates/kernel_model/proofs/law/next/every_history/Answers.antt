use Rattle.kernel_model.proofs.Laws.Ends.{counts-dead}
use Rattle.kernel_model.proofs.Laws.Present.{placed-since, held-mapped, standing-group, inactive-entered}
use Rattle.kernel_model.proofs.law.next.every_history.Goals as goal

pub returns : goal.returns
returns g c = record {
  placed = λ boot p h. placed-since boot g.past p h;
  mapped = λ boot v l p h. held-mapped boot g.past p v l h;
  dead = λ boot t h. counts-dead boot g.past t h;
  group = standing-group g.past;
  inactive = λ boot. inactive-entered boot g.past;
}
