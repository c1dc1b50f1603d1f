use Rattle.std.proofs.Common.{◌≡◌, ◌++◌, take, map}
use Rattle.line_text.specs.Cut.{text_of}
use Rattle.report_tables.specs.Table.{object_words}
use Rattle.report_tables.proofs.table.add_objects.Given as goal

abbrev pub invariant-loop-object : goal.invariant-loop-object
invariant-loop-object l = l.out.items ≡ l.fn.out.items ++ text_of (map object_words (take l.object-index l.objects))
