use Rattle.kernel_model.proofs.Laws.Pressed.{killed-pressed, bstamps-differ}
use Rattle.kernel_model.proofs.law.legal.pressure.Goals as goal

pub returns : goal.returns
returns c = record {
  pressed = killed-pressed;
  stamps_differ = bstamps-differ;
}
