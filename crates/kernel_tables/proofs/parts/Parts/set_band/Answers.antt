use Rattle.kernel_tables.specs.Values.{values}
use Rattle.kernel_tables.proofs.BandCall.{band-reply, band-stand}
use Rattle.kernel_tables.proofs.parts.Parts.set_band.Goals as goal

pub returns-clause-reply : goal.returns-clause-reply
returns-clause-reply g c = band-reply c.args.self.now.boot g.past c.args.who c.args.t c.args.band c.requires.1.1

pub returns-clause-stands : goal.returns-clause-stands
returns-clause-stands g c =
    let e = c.set_wish.ensures in
    band-stand (values c.args.self.now) g.past c.args.who c.args.t c.args.band _ _ _ _ _ c.requires.1.0 c.requires.1.1 c.requires.0 c.ageing_of-ageing.ensures e.ledgers e.wishes e.bands e.delays e.here e.others
