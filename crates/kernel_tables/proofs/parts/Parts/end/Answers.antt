use Rattle.kernel_tables.specs.Values.{values}
use Rattle.kernel_tables.proofs.EndCall.{end-stands}
use Rattle.kernel_tables.proofs.UnmapCall.{stands-over}
use Rattle.kernel_tables.proofs.parts.Parts.end.Goals as goal

pub leave_all-requires : goal.leave_all-requires
leave_all-requires g c = stands-over (values c.args.self.now) g.past c.valid.ensures c.requires.0

pub returns-clause-stands : goal.returns-clause-stands
returns-clause-stands g c =
    let e = c.end.ensures in
    let l = c.leave_all.ensures in
    end-stands (values c.args.self.now) (values c.leave_all.new.self) g.past c.args.t c.valid.ensures c.requires.0 c.requires.1 l.boot l.over
    c.end.new.self.ledgers c.end.new.self.bands c.end.new.self.ages c.end.new.self.wishes.items l.bands l.ages l.wishes
    e.ledgers e.wishes e.bands e.delays e.here e.others
