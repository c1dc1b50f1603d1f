use Rattle.kernel_model.proofs.Laws.Bounds.{frames-hold, free-frames, store-holds, left-rises, ripe-stays}
use Rattle.kernel_model.proofs.law.legal.frames.Goals as goal

pub returns : goal.returns
returns c = record {
  hold = frames-hold;
  free = free-frames;
  store = store-holds;
  left = left-rises;
  ripe = ripe-stays;
}
