use Rattle.std.proofs.Common.{List, refl, sym, subst}
use Rattle.kern_ids.specs.declared.entries.Entry.{Entry}
use Rattle.kernel_tables.specs.Ends.{StandsOver}
use Rattle.kernel_tables.specs.Values.{values}
use Rattle.kernel_tables.proofs.Parting.{parted-zero}
use Rattle.kernel_tables.proofs.parts.Parts.leave_all.Goals as goal

pub loop-i-init : goal.loop-i-init
loop-i-init g c = (subst (λ (h : List Entry). StandsOver (values c.args.self.now) h) (sym (parted-zero c.args.self.now.boot g.past c.args.t)) c.requires, refl, refl, refl, refl)
