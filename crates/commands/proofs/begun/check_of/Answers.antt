use Rattle.std.proofs.Common.{◌<◌, ◌+◌, ◌++◌, ◌^◌, ℕ, List, [], length}
use Rattle.std.proofs.lemmas.Result.{IfOk-weaker}
use Rattle.kernel_model.specs.Scenario.{Plan}
use Rattle.replay_check.specs.Pieces.{HasRoom, StandsFor}
use Rattle.commands.proofs.begun.check_of.Goals as goal

pub feed-requires : goal.feed-requires
feed-requires c = c.in_ok-check.ensures.room (length c.args.bytes.now) c.requires.few

pub returns-clause-stands : goal.returns-clause-stands
returns-clause-stands c =
    let bytes = c.args.bytes.now in
    IfOk-weaker c.feed.result (λ v. (s : Plan) (n : ℕ) (text : List ℕ) → StandsFor s n text c.in_ok-check.check → StandsFor s n (text ++ bytes) v)
    (λ v. StandsFor c.args.scenario (c.args.lines + 1) bytes v) (λ v takes. takes c.args.scenario (c.args.lines + 1) [] c.in_ok-check.ensures.stands) c.feed.ensures.stands

pub returns-clause-room : goal.returns-clause-room
returns-clause-room c =
    let bytes = c.args.bytes.now in
    IfOk-weaker c.feed.result (λ v. (more : ℕ) → HasRoom c.in_ok-check.check (length bytes + more) → HasRoom v more)
    (λ v. (more : ℕ) → length bytes + more < 2 ^ 31 → HasRoom v more) (λ v room. λ more few. room more (c.in_ok-check.ensures.room (length bytes + more) few)) c.feed.ensures.room
