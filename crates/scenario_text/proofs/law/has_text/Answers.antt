use Rattle.scenario_text.specs.Text.{HasText}
use Rattle.scenario_text.proofs.RoundTrip.{scenario_of-again}
use Rattle.scenario_text.proofs.law.has_text.Goals as goal

pub returns : goal.returns
returns c =
    let has : HasText c.args.scenario.now = record { valid = c.valid.ensures; bands = rw (c.tasks.ensures.value, c.boot.ensures) at c.bands_have_words.ensures; calls = c.scripts_have_lines.ensures } in
    record { text = has; again = scenario_of-again c.args.scenario.now has }
