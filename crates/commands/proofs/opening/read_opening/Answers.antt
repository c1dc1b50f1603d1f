use Rattle.std.proofs.Common.{rules, ◌≡◌, ◌≤◌, ◌+◌, ◌-◌, ◌++◌, ℕ, List, length, take, arith, length-append, sym, ap, subst, ◌∙◌}
use Rattle.std.proofs.KnownBytes.{Consumes-trans}
use Rattle.std.proofs.lemmas.List.{length-take}
use Rattle.std.proofs.lemmas.Result.{IfErr-weaker, IfOk-weaker, err_from_is_err_and}
use Rattle.std.specs.Io.KnownBytes.{Consumes}
use Rattle.commands.specs.Openings.{IsOpened, ReadsPast, Says, Stays}
use Rattle.commands.specs.Stops.{Stops}
use Rattle.commands.proofs.Opened.{opened-read}
use Rattle.commands.proofs.Stopped.{IsTaken, gathered, taken-memory, taken-stops}
use Rattle.commands.proofs.opening.read_opening.Goals as goal

pub returns-in_err-n-clause-stops : goal.returns-in_err-n-clause-stops
returns-in_err-n-clause-stops g c =
    let p = err_from_is_err_and c.from_residual.result c.from_residual.ensures.1 in
    let bytes = c.pieces.bytes.items in
    let count : length bytes + (c.args.limit - c.len.result) ≡ c.args.limit = omega (arith, c.pieces.invariant.within, c.len.ensures, c.pieces.bytes.ok.0) in
    rw (p.1, p.2) (taken-stops _ _ _ _ _ _ _ _ _ (gathered _ _ bytes _ _ c.pieces.invariant.took count) c.pieces.invariant.grows c.in_err-n.ensures.stops)

pub returns-in_err-gather-clause-stops : goal.returns-in_err-gather-clause-stops
returns-in_err-gather-clause-stops g c =
    let p = err_from_is_err_and c.from_residual-in_err-gather.result c.from_residual-in_err-gather.ensures.1 in
    let bytes = c.pieces.bytes.items in
    let count : length bytes + (c.args.limit - c.len.result) ≡ c.args.limit = omega (arith, c.pieces.invariant.within, c.len.ensures, c.pieces.bytes.ok.0) in
    rw (p.1, p.2) (taken-memory _ _ _ 0 0 _ _ _ _ (gathered _ _ bytes _ _ c.pieces.invariant.took count) c.in_ok-n.ensures.bytes c.in_ok-n.ensures.within)

pub returns-in-Some-clause-opened : goal.returns-in-Some-clause-opened
returns-in-Some-clause-opened g c =
    let old = g.S.Source.left c.args.source.now in
    let mid = g.S.Source.left c.next_piece.new.source in
    let new = g.S.Source.left c.read_past.new.source in
    let bytes = c.pieces.bytes.items in
    let piece = take c.in_ok-n.n c.next_piece.new.piece in
    let all = c.gather.new.bytes.items in
    let room = c.args.limit - c.len-in-Some.result in
    let first = c.in-Some.opening in
    let grown : all ≡ bytes ++ piece = search rules in
    let took : Consumes old mid all = subst (Consumes old mid) (sym grown) (Consumes-trans old (g.S.Source.left c.pieces.source) mid bytes piece c.pieces.invariant.took c.in_ok-n.ensures.bytes) in
    let long : length all ≡ length bytes + length piece = ap length grown ∙ length-append bytes piece in
    let count : length all + room ≡ c.args.limit =
    omega (arith, long, length-take c.in_ok-n.n c.next_piece.new.piece, c.in_ok-n.ensures.within, c.pieces.invariant.within, c.len.ensures, c.len-in-Some.ensures, c.pieces.bytes.ok.0, c.gather.new.bytes.ok.0) in
    let said : Says first all × Stays first = rw (c.in-Some.is, c.deref-in-pieces.ensures.value) at c.in_ok-opening.ensures in
    IfOk-weaker c.read_past.result (λ o. (o ≡ first) × ReadsPast o mid new room) (λ o. IsOpened o all old new c.args.limit)
    (λ o past. opened-read o first all old mid new room c.args.limit said took count past) c.read_past.ensures.past

pub returns-in-Some-clause-stops : goal.returns-in-Some-clause-stops
returns-in-Some-clause-stops g c =
    let old = g.S.Source.left c.args.source.now in
    let mid = g.S.Source.left c.next_piece.new.source in
    let new = g.S.Source.left c.read_past.new.source in
    let before = g.S.Source.fault_count c.args.source.now in
    let between = g.S.Source.fault_count c.next_piece.new.source in
    let after = g.S.Source.fault_count c.read_past.new.source in
    let bytes = c.pieces.bytes.items in
    let piece = take c.in_ok-n.n c.next_piece.new.piece in
    let all = c.gather.new.bytes.items in
    let room = c.args.limit - c.len-in-Some.result in
    let grown : all ≡ bytes ++ piece = search rules in
    let took : Consumes old mid all = subst (Consumes old mid) (sym grown) (Consumes-trans old (g.S.Source.left c.pieces.source) mid bytes piece c.pieces.invariant.took c.in_ok-n.ensures.bytes) in
    let long : length all ≡ length bytes + length piece = ap length grown ∙ length-append bytes piece in
    let count : length all + room ≡ c.args.limit =
    omega (arith, long, length-take c.in_ok-n.n c.next_piece.new.piece, c.in_ok-n.ensures.within, c.pieces.invariant.within, c.len.ensures, c.len-in-Some.ensures, c.pieces.bytes.ok.0, c.gather.new.bytes.ok.0) in
    let grows : before ≤ between = omega (arith, c.pieces.invariant.grows, c.in_ok-n.ensures.grows) in
    IfErr-weaker c.read_past.result (λ e. Stops e mid new between after room) (λ e. Stops e old new before after c.args.limit)
    (λ e s. taken-stops e old mid new before between after c.args.limit room (gathered old mid all c.args.limit room took count) grows s) c.read_past.ensures.stops
