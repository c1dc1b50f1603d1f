use Rattle.kernel_model.proofs.Laws.Next.{placed-after, pages-after, free-after, entered-after, left-after}
use Rattle.kernel_model.specs.Pages.{is_active, is_inactive, is_stored}
use Rattle.kernel_model.proofs.law.next.frames_next.Goals as goal

pub returns : goal.returns
returns g c = record {
  placed = placed-after g.s;
  active = pages-after g.s is_active;
  inactive = pages-after g.s is_inactive;
  stored = pages-after g.s is_stored;
  free = free-after g.s;
  entered = entered-after g.s;
  left = left-after g.s;
}
