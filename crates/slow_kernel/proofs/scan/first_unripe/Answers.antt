use Rattle.std.proofs.Common.{◌∙◌, sym, ap}
use Rattle.std.specs.Option.{option_copied}
use Rattle.slow_kernel.proofs.scan.first_unripe.Goals as goal

pub returns-in-Some : goal.returns-in-Some
returns-in-Some c = sym (ap option_copied c.in-Some.is) ∙ c.unripe_in.ensures

pub returns-in-None : goal.returns-in-None
returns-in-None c = sym (ap option_copied c.in-None.is) ∙ c.unripe_in.ensures
