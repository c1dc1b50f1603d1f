use Rattle.std.proofs.Common.{◌<◌, ℕ, List, length, subst, sym}
use Rattle.std.specs.List.{AllByRecursion}
use Rattle.kern_ids.specs.declared.calls.Call.{Call}
use Rattle.line_text.specs.Calls.{HasLine}
use Rattle.scenario_text.proofs.TypeLaws.{write_has_line, read_has_line}
use Rattle.scenario_text.proofs.law.call_has_line.Goals as goal

pub returns-in-Write : goal.returns-in-Write
returns-in-Write c =
    let b = c.args.boot.now in
    let w = c.in-Write in
    let said = c.as_slice.ensures in
    subst (λ (x : Call). HasLine (length b.tasks) (length b.objects) x) (sym w.is)
    (write_has_line b w.obj w.off w.bytes (rw w.is at c.requires) c.number_has_word.ensures (rw said.value at said.bound) (subst (λ (bs : List ℕ). AllByRecursion (λ x. x < 256) bs) said.value c.bytes_have_word.ensures))

pub returns-in-Read : goal.returns-in-Read
returns-in-Read c =
    let b = c.args.boot.now in
    let r = c.in-Read in
    subst (λ (x : Call). HasLine (length b.tasks) (length b.objects) x) (sym r.is)
    (read_has_line b r.obj r.off r.len (rw r.is at c.requires) c.number_has_word-in-Read.ensures c.number_has_word-in-Read-2.ensures)
