use Rattle.std.proofs.Common.{◌≡◌, ◌≤◌, length, None, sym, ap, ◌∙◌, subst, arith}
use Rattle.replay_check.specs.Replays.{ReplayView, StandsFor, first_unspent}
use Rattle.replay_check.proofs.Begun.{parts-legal}
use Rattle.replay_check.proofs.Standing.{first_unspent-all, verdict-fault, verdict-end}
use Rattle.replay_check.proofs.replays.Replay.verdict.Goals as goal

pub returns-in-Some-clause-verdict : goal.returns-in-Some-clause-verdict
returns-in-Some-clause-verdict c = λ es stands.
    verdict-fault c.args.scenario.now es c.in-Some.fault (sym stands.fault ∙ ap (λ (v : ReplayView). v.fault) (sym c.self.view_is) ∙ c.in-Some.is)

pub returns-in-Some-clause-history : goal.returns-in-Some-clause-history
returns-in-Some-clause-history c = λ es stands legal.
    let s = c.args.scenario.now in
    let is = verdict-fault s es c.in-Some.fault (sym stands.fault ∙ ap (λ (v : ReplayView). v.fault) (sym c.self.view_is) ∙ c.in-Some.is) in
    stands.history (stands.fault ∙ (parts-legal s es (sym is ∙ legal)).0)

pub returns-in-None-clause-verdict : goal.returns-in-None-clause-verdict
returns-in-None-clause-verdict c = λ es stands.
    let s = c.args.scenario.now in
    let inside = c.self.inside in
    let r : ReplayView = record { boot = inside.kernel.boot; history = inside.kernel.history; made = inside.made; fault = inside.fault } in
    let held : StandsFor s es r = subst (StandsFor s es) (sym c.self.view_is) stands in
    let none : r.fault ≡ None = c.in-None.is in
    let few : length s.scripts ≤ 32 = let sides = c.valid.ensures.boot.few_sides in let scripts = c.valid.ensures.scripts in omega arith in
    c.end.ensures ∙ verdict-end s es (first_unspent s inside.made (length s.scripts)) (sym held.fault ∙ none) (first_unspent-all s es inside.made few (held.made none))

pub returns-in-None-clause-history : goal.returns-in-None-clause-history
returns-in-None-clause-history c = λ es stands legal.
    stands.history (ap (λ (v : ReplayView). v.fault) (sym c.self.view_is) ∙ c.in-None.is)
