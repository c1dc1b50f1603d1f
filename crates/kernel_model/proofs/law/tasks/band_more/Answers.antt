use Rattle.kernel_model.proofs.Laws.Whole.{band-is, band-more, bstamp-more}
use Rattle.kernel_model.proofs.law.tasks.band_more.Goals as goal

pub returns : goal.returns
returns c = record {
  is = band-is;
  one_more = band-more;
  stamp = bstamp-more;
}
