use Rattle.std.proofs.Common.{get_or, sym, ap, ◌∙◌, arith}
use Rattle.std.proofs.lemmas.List.{take_all}
use Rattle.std.proofs.lemmas.Option.{slice_get-get_or}
use Rattle.priority_bands.specs.Banded.{placed}
use Rattle.kernel_tables.proofs.Positions.{placed_all, placed_all-more}
use Rattle.kernel_tables.proofs.ticks.place_all.Goals.{in-Some, in_default}
use Rattle.kernel_tables.proofs.ticks.place_all.Goals as goal

pub loop-i-preserved : goal.loop-i-preserved
loop-i-preserved c = elim c.match-get.branch [
  | in-Some w ↦
      w.bands-is ∙ w.place.ensures
      ∙ ap (λ at. placed at w.in-Some.t c.args.band) c.loop-i.invariant
      ∙ sym (placed_all-more c.args.bands.now c.args.line.now c.args.band c.loop-i.i w.in-Some.t (sym w.in-Some.ensures))
  | in_default w ↦ absurd (w.in_default.not-Some (get_or c.args.line.now c.loop-i.i 0) (c.get.ensures ∙ slice_get-get_or c.args.line.now c.loop-i.i 0 (omega arith)))
]

pub returns : goal.returns
returns c = c.loop-i.invariant ∙ ap (λ xs. placed_all c.args.bands.now xs c.args.band) (take_all c.loop-i.i c.args.line.now (omega arith))
