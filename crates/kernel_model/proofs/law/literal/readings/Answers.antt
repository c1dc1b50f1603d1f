use Rattle.kernel_model.proofs.Literal.{byte-is, touched_since-is}
use Rattle.kernel_model.proofs.law.literal.readings.Goals as goal

pub returns : goal.returns
returns c = record {
  byte = byte-is;
  touched = touched_since-is;
}
