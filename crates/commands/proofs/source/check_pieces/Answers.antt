use Rattle.std.proofs.lemmas.Result.{IfErr-weaker, IfOk-weaker}
use Rattle.commands.specs.Stops.{Stops}
use Rattle.commands.specs.Checks.{IsChecked, IsEnded}
use Rattle.commands.proofs.Found.{begun-stops, found-behind}
use Rattle.commands.proofs.source.check_pieces.Goals as goal

pub returns-in-Checks-clause-checked : goal.returns-in-Checks-clause-checked
returns-in-Checks-clause-checked g c =
    let old = g.S.Source.left c.args.source.now in
    let mid = g.S.Source.left c.begin.new.source in
    let new = g.S.Source.left c.feed_rest.new.source in
    let begun = rw c.in-Checks.is at c.in_ok-check.ensures.begun in
    IfOk-weaker c.feed_rest.result (λ end. IsEnded c.in-Checks.check end mid new c.in-Checks.room) (λ end. IsChecked old new c.args.limit end)
    (λ end ended. found-behind c.in-Checks.check c.in-Checks.room c.args.limit end old mid new begun ended) c.feed_rest.ensures.ended

pub returns-in-Checks-clause-stops : goal.returns-in-Checks-clause-stops
returns-in-Checks-clause-stops g c =
    let old = g.S.Source.left c.args.source.now in
    let mid = g.S.Source.left c.begin.new.source in
    let new = g.S.Source.left c.feed_rest.new.source in
    let before = g.S.Source.fault_count c.args.source.now in
    let between = g.S.Source.fault_count c.begin.new.source in
    let after = g.S.Source.fault_count c.feed_rest.new.source in
    let begun = rw c.in-Checks.is at c.in_ok-check.ensures.begun in
    IfErr-weaker c.feed_rest.result (λ e. Stops e mid new between after c.in-Checks.room) (λ e. Stops e old new before after c.args.limit)
    (λ e stops. begun-stops e c.in-Checks.check c.in-Checks.room c.args.limit old mid new before between after begun c.in_ok-check.ensures.grows stops) c.feed_rest.ensures.stops
