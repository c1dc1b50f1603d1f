use Rattle.kernel_model.proofs.Laws.Next.{first_active-after, first_inactive-after, touched-after, written-after, scan-after}
use Rattle.kernel_model.proofs.law.next.scan_next.Goals as goal

pub returns : goal.returns
returns g c = record {
  first_active = first_active-after g.s;
  first_inactive = first_inactive-after g.s;
  touched = touched-after g.s;
  written = written-after g.s;
  scan = scan-after g.s;
}
