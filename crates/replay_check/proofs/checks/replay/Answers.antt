use Rattle.std.proofs.Common.{◌≡◌, ◌+◌, ◌<◌, ◌^◌, [], ◌∷◌, ◌++◌, length, min, take, sym, ap, ◌∙◌, subst, arith}
use Rattle.std.proofs.lemmas.List.{take_all, take_more, length-take}
use Rattle.replay_check.specs.Replays.{StandsFor}
use Rattle.replay_check.proofs.checks.replay.Goals as goal

pub feed-requires : goal.feed-requires
feed-requires c =
    let xs = c.as_slice-entries.result.now in
    let i = c.loop-entry.entry-index in
    let cut : length (take i xs) ≡ min i (length xs) = length-take i xs in
    let all : length xs ≡ length c.args.history.now.list = ap length c.as_slice-entries.ensures in
    let few : length (take i xs) < 2 ^ 32 = omega (arith, cut, all, c.requires) in
    record { entries = take i xs; few = few; for_them = c.loop-entry.invariant }

pub loop-entry-preserved : goal.loop-entry-preserved
loop-entry-preserved c =
    let xs = c.as_slice-entries.result.now in
    let i = c.loop-entry.entry-index in
    let more : take (i + 1) xs ≡ take i xs ++ c.entry-item.result ∷ [] = take_more xs i c.entry-item.result c.loop-entry-test.true ∙ ap (λ e. take i xs ++ e ∷ []) (sym c.entry-item.is) in
    subst (λ es. StandsFor c.args.scenario.now es c.feed.new.self) (sym more) (c.in_ok-feed.ensures.fed (take i xs) c.loop-entry.invariant)

pub returns : goal.returns
returns c =
    let all = take_all c.loop-entry.entry-index c.as_slice-entries.result.now c.loop-entry-test.false ∙ c.as_slice-entries.ensures in
    subst (λ es. StandsFor c.args.scenario.now es c.loop-entry.replay) all c.loop-entry.invariant
