use Rattle.std.proofs.Common.{◌≡◌, ◌+◌, sym, ◌∙◌, ap, ap₂, ◌&&◌, not}
use Rattle.std.specs.List.{list_any}
use Rattle.slow_kernel.specs.Tables.{is_mapping, mappers, past_at}
use Rattle.slow_kernel.proofs.Mappers.{mappers_quiet, unmapped_quiet, unmapped_from}
use Rattle.slow_kernel.proofs.mapping.advance_mappers.Goals as goal
use Rattle.slow_kernel.proofs.mapping.advance_mappers.Goals.{Then-not-tells_mapping}

still : (c : Then-not-tells_mapping) → mappers c.args.boot.now (past_at c.args.entries.now (c.args.i + 1)) c.args.o ≡ mappers c.args.boot.now (past_at c.args.entries.now c.args.i) c.args.o
still c = mappers_quiet c.args.boot.now c.args.entries.now c.args.i c.index-entries-i.result c.args.o c.requires.at c.index-entries-i.is (sym c.tells_mapping.ensures ∙ c.if-not-tells_mapping.true)

pub returns-then-not-tells_mapping-clause-after : goal.returns-then-not-tells_mapping-clause-after
returns-then-not-tells_mapping-clause-after c = c.requires.before ∙ sym (still c)

pub returns-then-not-tells_mapping-clause-unmapped : goal.returns-then-not-tells_mapping-clause-unmapped
returns-then-not-tells_mapping-clause-unmapped c = sym (unmapped_quiet c.args.boot.now c.args.entries.now c.args.i c.args.o (still c))

pub returns-clause-unmapped : goal.returns-clause-unmapped
returns-clause-unmapped c =
    c.and_not.ensures
    ∙ ap₂ (λ a b. a && not b) (c.is_mapped-was.ensures ∙ ap (list_any is_mapping) c.requires.before) (c.is_mapped.ensures ∙ ap (list_any is_mapping) c.update_mappers.ensures)
    ∙ sym (unmapped_from c.args.boot.now c.args.entries.now c.args.i c.args.o)
