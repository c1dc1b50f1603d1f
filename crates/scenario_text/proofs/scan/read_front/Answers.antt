use Rattle.std.proofs.Common.{length, ◌-◌, Ok, Err}
use Rattle.scenario_text.proofs.FrontLaws.{front-takes, taken-is, taken-within, taken-written, taken-again, taken-fails}
use Rattle.scenario_text.proofs.Within.{front-never}
use Rattle.scenario_text.proofs.scan.read_front.Goals as goal

pub returns-in-Err-clause-exact : goal.returns-in-Err-clause-exact
returns-in-Err-clause-exact c = taken-fails c.in-Err.fault c.args.text.now c.in-Err.ensures

pub returns-in-Err-clause-again : goal.returns-in-Err-clause-again
returns-in-Err-clause-again c = λ s rest h e. taken-again (Err c.in-Err.fault) c.args.text.now rest s (taken-fails c.in-Err.fault c.args.text.now c.in-Err.ensures) h e

pub overflow_sub-result : goal.overflow_sub-result
overflow_sub-result c = let r = c.in-Ok.parts in let w = taken-within c.args.text.now r.1.now r.0 r.2 c.in-Ok.ensures in w.0

pub overflow_sub-result-2 : goal.overflow_sub-result-2
overflow_sub-result-2 c = let r = c.in-Ok.parts in let w = taken-within c.args.text.now r.1.now r.0 r.2 c.in-Ok.ensures in w.1

pub returns-clause-exact : goal.returns-clause-exact
returns-clause-exact c = let r = c.in-Ok.parts in taken-is c.args.text.now r.1.now r.0 r.2 c.in-Ok.ensures

pub returns-clause-written : goal.returns-clause-written
returns-clause-written c = let r = c.in-Ok.parts in taken-written c.args.text.now r.1.now r.0 r.2 c.in-Ok.ensures

pub returns-clause-bytes : goal.returns-clause-bytes
returns-clause-bytes c = let r = c.in-Ok.parts in let w = taken-within c.args.text.now r.1.now r.0 r.2 c.in-Ok.ensures in w.2

pub returns-clause-lines : goal.returns-clause-lines
returns-clause-lines c = let r = c.in-Ok.parts in let w = taken-within c.args.text.now r.1.now r.0 r.2 c.in-Ok.ensures in w.3

pub returns-clause-valid : goal.returns-clause-valid
returns-clause-valid c = let r = c.in-Ok.parts in let t = front-takes c.args.text.now r.1.now r.0 r.2 c.in-Ok.ensures in t.1

pub returns-clause-again : goal.returns-clause-again
returns-clause-again c = let r = c.in-Ok.parts in λ s rest h e. taken-again (Ok (r.0, length c.args.text.now - length r.1.now, r.2 - 1)) c.args.text.now rest s (taken-is c.args.text.now r.1.now r.0 r.2 c.in-Ok.ensures) h e

pub returns-in-Err-clause-within : goal.returns-in-Err-clause-within
returns-in-Err-clause-within c = λ line e. front-never (Err c.in-Err.fault) c.args.text.now line (taken-fails c.in-Err.fault c.args.text.now c.in-Err.ensures) e
