use Rattle.scenario_text.proofs.FaultStays.{fault-stays}
use Rattle.scenario_text.proofs.FrontLaws.{front-stays}
use Rattle.scenario_text.proofs.law.front_stays.Goals as goal

pub returns : goal.returns
returns c = record { read = front-stays; fault = fault-stays }
