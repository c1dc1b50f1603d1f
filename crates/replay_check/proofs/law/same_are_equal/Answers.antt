use Rattle.std.proofs.Common.{ap, sym, ◌∙◌}
use Rattle.replay_check.specs.Same.{same_call, same_reply}
use Rattle.replay_check.proofs.Sames.{same_call-true, same_call-refl, same_reply-true, same_reply-refl}
use Rattle.replay_check.proofs.law.same_are_equal.Goals as goal

pub returns : goal.returns
returns c = record {
  calls = λ a b. (same_call-true a b, λ e. ap (same_call a) (sym e) ∙ same_call-refl a);
  replies = λ a b. (same_reply-true a b, λ e. ap (same_reply a) (sym e) ∙ same_reply-refl a);
}
