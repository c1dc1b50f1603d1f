use Rattle.std.proofs.Common.{sym, ◌∙◌}
use Rattle.kernel_tables.specs.Values.{values}
use Rattle.kernel_tables.proofs.MapCall.{map-unmapped, map-shares, map-reply, map-done}
use Rattle.kernel_tables.proofs.parts.Parts.map.Goals as goal

pub map-requires-clause-unmapped : goal.map-requires-clause-unmapped
map-requires-clause-unmapped g c =
    map-unmapped (values c.args.self.now) g.past c.args.who c.args.o c.unwrap-t.result c.valid.ensures c.requires.0 c.requires.1.0 c.requires.1.1 (sym c.task_of.ensures ∙ c.unwrap-t.ensures)

pub map-requires-clause-shares : goal.map-requires-clause-shares
map-requires-clause-shares g c =
    map-shares (values c.args.self.now) g.past c.args.who c.args.o c.unwrap-t.result c.valid.ensures c.requires.0 c.requires.1.0 c.requires.1.1 (sym c.task_of.ensures ∙ c.unwrap-t.ensures)

pub returns-clause-reply : goal.returns-clause-reply
returns-clause-reply g c =
    map-reply (values c.args.self.now) g.past c.args.who c.args.o c.unwrap-t.result c.valid.ensures c.requires.0 c.requires.1.0 c.requires.1.1 (sym c.task_of.ensures ∙ c.unwrap-t.ensures)

pub returns-clause-stands : goal.returns-clause-stands
returns-clause-stands g c =
    map-done (values c.args.self.now) g.past c.args.who c.args.o c.unwrap-t.result c.valid.ensures c.requires.0 c.requires.1.0 c.requires.1.1 (sym c.task_of.ensures ∙ c.unwrap-t.ensures) c.map.new.self c.map.ensures
