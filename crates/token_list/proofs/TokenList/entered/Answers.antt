use Rattle.std.proofs.Common.{◌+◌, refl, rules}
use Rattle.token_list.specs.declared.TokenList.TheInside.{Inside}
use Rattle.token_list.proofs.CallLemmas.{entered, rest-within}
use Rattle.token_list.proofs.TokenList.entered.Goals as goal

pub overflow_add-rest : goal.overflow_add-rest
overflow_add-rest c =
    let within = rest-within c.self.inside c.self.invariant c.number-rest.result c.number-rest.ensures in
    let bound = c.self.invariant.bound in
    search (rules, within, bound)

pub invariant_of-self : goal.invariant_of-self
invariant_of-self c =
    let b : Inside = record { ring = c.set_number.new.self; mark = c.self.inside.mark; ripe = c.self.inside.ripe; ahead = c.self.inside.ahead + c.args.n } in
    (entered c.self.inside b c.args.self.now c.number-rest.result c.args.n c.self.invariant c.self.view_is c.requires c.number-rest.ensures c.set_number.ensures.slots c.set_number.ensures.numbers refl refl refl).tokens

pub returns-clause-dues : goal.returns-clause-dues
returns-clause-dues c =
    let b : Inside = record { ring = c.set_number.new.self; mark = c.self.inside.mark; ripe = c.self.inside.ripe; ahead = c.self.inside.ahead + c.args.n } in
    (entered c.self.inside b c.args.self.now c.number-rest.result c.args.n c.self.invariant c.self.view_is c.requires c.number-rest.ensures c.set_number.ensures.slots c.set_number.ensures.numbers refl refl refl).dues
