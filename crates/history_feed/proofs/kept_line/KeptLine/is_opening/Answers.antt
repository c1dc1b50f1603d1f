use Rattle.std.proofs.Common.{◌∙◌, ℕ, List, ap}
use Rattle.std.specs.Prelude.{codes}
use Rattle.std.specs.Str.{bytes_eq}
use Rattle.history_feed.proofs.KeptLaws.{kept-opening}
use Rattle.history_feed.proofs.kept_line.KeptLine.is_opening.Goals as goal

pub returns : goal.returns
returns c = λ line e. c.is_word.ensures ∙ ap (λ (t : List ℕ). bytes_eq t (codes "history")) c.as_slice.ensures.value ∙ kept-opening c.args.self.now line e
