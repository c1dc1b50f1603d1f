use Rattle.kernel_model.proofs.Laws.Untouched.{pages-has, has-pages}
use Rattle.kernel_model.proofs.law.frames.pages_are.Goals as goal

pub returns : goal.returns
returns c = record {
  declared = pages-has;
  only = has-pages;
}
