use Rattle.report_tables.proofs.LineLaws.{spaced_reply}
use Rattle.report_tables.proofs.lines.push_spaced_reply.Goals as goal

pub returns-clause-bytes : goal.returns-clause-bytes
returns-clause-bytes c = spaced_reply c.args.line.now c.push.new.self c.push_reply.new.line c.args.reply.now c.push.ensures.bytes c.push_reply.ensures.bytes
