use Rattle.std.proofs.Common.{refl, sym, ◌∙◌}
use Rattle.std.proofs.lemmas.List.{get_or-replicate}
use Rattle.replay_check.proofs.Faults.{first_fault-none}
use Rattle.replay_check.proofs.replays.Replay.new.Goals as goal

pub returns : goal.returns
returns c = record {
  boot = c.in_ok-boot.ensures.boot ∙ c.boot.ensures;
  threads = refl;
  fault = sym (first_fault-none c.args.scenario.now);
  history = λ _. c.in_ok-boot.ensures.empty;
  made = λ _ n l. get_or-replicate 32 n 0 0 l;
}
