use Rattle.token_list.proofs.CountLemmas.{ripe-is}
use Rattle.token_list.proofs.TokenList.first_is_ripe.Goals as goal

pub returns : goal.returns
returns c = ripe-is c.self.inside c.args.self.now c.self.invariant c.self.view_is
