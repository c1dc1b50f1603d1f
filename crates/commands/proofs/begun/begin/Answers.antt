use Rattle.std.proofs.Common.{◌≡◌, ◌-◌, length, arith}
use Rattle.commands.proofs.Begins.{gathered-begins, gathered-lines}
use Rattle.commands.proofs.begun.begin.Goals as goal

pub check_of-requires-clause-lines : goal.check_of-requires-clause-lines
check_of-requires-clause-lines g c =
    let opened = rw c.in-Scenario.is at c.in_ok-scenario.ensures.opened in
    gathered-lines _ _ _ _ _ _ _ opened c.requires.few

pub returns-in-Scenario-clause-begun : goal.returns-in-Scenario-clause-begun
returns-in-Scenario-clause-begun g c =
    let opened = rw c.in-Scenario.is at c.in_ok-scenario.ensures.opened in
    let bytes = c.read_opening.new.bytes.items in
    let left : c.args.limit - c.len.result ≡ c.args.limit - length bytes = omega (arith, c.len.ensures, c.read_opening.new.bytes.ok.0) in
    let stands = rw c.deref.ensures.value at c.in_ok-check-in-Scenario.ensures.stands in
    let fits = rw c.deref.ensures.value at c.in_ok-check-in-Scenario.ensures.room in
    gathered-begins bytes _ _ _ _ _ _ _ _ opened c.requires.few left stands fits
