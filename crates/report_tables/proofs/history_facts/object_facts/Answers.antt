use Rattle.std.proofs.Common.{◌≡◌, ℕ, ◌<◌, length, Option, sym, ap, ◌∙◌, subst}
use Rattle.kernel_model.specs.System.{System}
use Rattle.kernel_model.specs.Lists.{some_if}
use Rattle.kernel_model.specs.Mapping.{mapped}
use Rattle.kernel_tables.specs.Standing.{mapped_object}
use Rattle.kernel_tables.specs.declared.standing.MappedObject.{MappedObject}
use Rattle.report_tables.specs.Facts.{Tell, first_task}
use Rattle.report_tables.specs.declared.rows.ObjectFacts.{ObjectFacts}
use Rattle.report_tables.proofs.history_facts.object_facts.Goals as goal

abbrev facts : ℕ → ℕ → Option MappedObject → ObjectFacts
facts n first held = record { object = n; first = first; held = held }

pub object-requires : goal.object-requires
unfolding Tell
object-requires g c = (c.requires.0, subst (λ (b : System). c.args.o < length b.objects) (sym c.requires.1.0) c.requires.1.1)

pub returns : goal.returns
returns g c =
    let o = c.args.o in
    let boot = c.args.boot.now in
    let held : c.object.result ≡ some_if (mapped boot g.past o) (mapped_object boot g.past o) =
    subst (λ (b : System). c.object.result ≡ some_if (mapped b g.past o) (mapped_object b g.past o)) c.requires.1.0 c.object.ensures in
    ap (λ (n : ℕ). facts n c.first_task.result c.object.result) c.get.ensures.value
    ∙ ap (λ (n : ℕ). facts o n c.object.result) c.first_task.ensures
    ∙ ap (facts o (first_task boot o)) held
