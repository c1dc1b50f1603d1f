use Rattle.replay_check.proofs.Begun.{verdict-legal, verdict-whole, legal-verdict}
use Rattle.replay_check.proofs.law.legal_is_whole.Goals as goal

pub returns : goal.returns
returns c = record { legal = verdict-legal; whole = verdict-whole; only = legal-verdict }
