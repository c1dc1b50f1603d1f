use Rattle.scenario_text.proofs.RoundTrip.{read-written, read-valid, read-again}
use Rattle.scenario_text.proofs.scan.read_scenario.Goals as goal

pub returns : goal.returns
returns c =
    let said = c.read_whole.ensures in
    record {
      exact = said;
      written = read-written c.read_whole.result c.args.text.now said;
      valid = read-valid c.read_whole.result c.args.text.now said;
      again = λ s h e. read-again c.read_whole.result c.args.text.now s said h e;
    }
