use Rattle.scenario_text.proofs.RoundTrip.{scenario_of-takes, scenario_of-again, two-text}
use Rattle.scenario_text.proofs.law.reading_undoes_writing.Goals as goal

pub returns : goal.returns
returns c = record {
  written = λ bytes s e. let t = scenario_of-takes bytes s e in t.0;
  valid = λ bytes s e. let t = scenario_of-takes bytes s e in t.1;
  again = scenario_of-again;
  second = two-text;
}
