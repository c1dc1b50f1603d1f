use Rattle.kernel_model.proofs.Laws.Frames.{pages-once, pages-by_objects, pages-page, pages-object, pages_at-absent}
use Rattle.kernel_model.proofs.law.frames.pages_more.Goals as goal

pub returns : goal.returns
returns c = record {
  once = pages-once;
  by_objects = pages-by_objects;
  page = pages-page;
  object = pages-object;
  absent = pages_at-absent;
}
