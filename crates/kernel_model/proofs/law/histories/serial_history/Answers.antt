use Rattle.kernel_model.proofs.Laws.Serial.{serial-turns, serial-legal, legal-serial, serial-whole}
use Rattle.kernel_model.proofs.law.histories.serial_history.Goals as goal

pub returns : goal.returns
returns c = record {
  turns = serial-turns;
  legal = serial-legal;
  only = legal-serial;
  whole = serial-whole;
}
