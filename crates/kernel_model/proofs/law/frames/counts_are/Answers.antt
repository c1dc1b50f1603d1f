use Rattle.kernel_model.proofs.Laws.Frames.{counts-res_non, counts-res_vol, counts-com_non, counts-com_vol, counts-footprint}
use Rattle.kernel_model.proofs.law.frames.counts_are.Goals as goal

pub returns : goal.returns
returns c = record {
  res_non = counts-res_non;
  res_vol = counts-res_vol;
  com_non = counts-com_non;
  com_vol = counts-com_vol;
  footprint = counts-footprint;
}
