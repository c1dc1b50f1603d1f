use Rattle.std.proofs.Common.{◌∙◌, ℕ, ◌-◌, ap, min, length}
use Rattle.history_feed.proofs.KeptLaws.{kept-pushed}
use Rattle.history_feed.proofs.kept_line.KeptLine.push.Goals as goal

pub returns-clause-value : goal.returns-clause-value
returns-clause-value c =
    let part = c.args.part.now in
    λ line e.
    kept-pushed c.args.self.now line part c.push.new.self c.split_at.result.0.now c.split_at.result.1.now c.min.result c.spaced_with-self.result c.digits_with-self.result e
    (c.min.ensures ∙ ap (λ (n : ℕ). min (1100 - n) (length part)) (ap length c.as_slice.ensures.value))
    c.split_at.ensures.front c.split_at.ensures.back c.push.ensures.bytes c.spaced_with-self.ensures c.digits_with-self.ensures
