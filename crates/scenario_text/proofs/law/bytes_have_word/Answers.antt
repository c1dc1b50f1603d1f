use Rattle.std.proofs.Common.{◌<◌, arith}
use Rattle.std.proofs.lemmas.List.Elements.{recursion_from_All, All-from_get_or}
use Rattle.scenario_text.proofs.law.bytes_have_word.Goals as goal

pub returns : goal.returns
returns c = recursion_from_All (λ b. b < 256) c.args.bytes.now (All-from_get_or (λ b. b < 256) c.args.bytes.now 0 (λ k l. let h = c.type_inv.bytes k in omega (arith, h)))
