use Rattle.kernel_model.proofs.Laws.Serial.{run_of-two}
use Rattle.kernel_model.proofs.law.histories.second_form.Goals as goal

pub returns : goal.returns
returns c = run_of-two
