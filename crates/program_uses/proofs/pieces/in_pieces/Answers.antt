use Rattle.std.proofs.Common.{◌≡◌, ℕ, ◌+◌, ◌-◌, List, ◌++◌, length, take, drop, sym, ap, ◌∙◌, arith, subst, length-drop}
use Rattle.std.proofs.lemmas.List.{take_all, length-take}
use Rattle.std.proofs.Math.Seq.{take-add}
use Rattle.history_text.specs.HistoryReading.{history_of}
use Rattle.replay_check.specs.Pieces.{HasRoom, StandsFor, end_of}
use Rattle.program_uses.proofs.pieces.in_pieces.Goals as goal

pub bytes-init : goal.bytes-init
bytes-init c =
    let few = c.requires.few in
    let new = c.in_ok-check.ensures.room (length c.args.text.now) few in
    record {
      within = omega arith;
      room = λ sound. let room = new sound in omega (arith, room);
      stands = c.in_ok-check.ensures.stands;
    }

pub bytes-preserved : goal.bytes-preserved
bytes-preserved c =
    let text = c.args.text.now in
    let at = c.bytes.at in
    let end = c.piece_end-end.result in
    let after = c.piece_end-end.ensures.after in
    let within = c.piece_end-end.ensures.within in
    let long : length (take (end - at) (drop at text)) ≡ end - at = rw (length-take, length-drop) (omega (arith, within)) in
    let same : length text - at ≡ length (take (end - at) (drop at text)) + (length text - end) = omega (arith, long, after, within) in
    let step : at + (end - at) ≡ end = omega (arith, after) in
    let bytes : take at text ++ take (end - at) (drop at text) ≡ take end text = sym (take-add at (end - at) text) ∙ ap (λ (n : ℕ). take n text) step in
    let s = c.args.scenario in
    let n = c.args.first_line in
    record {
      within = within;
      room = c.in_ok-check-2.ensures.room (length text - end) (subst (HasRoom c.bytes.check) same c.bytes.invariant.room);
      stands = subst (λ (xs : List ℕ). StandsFor s n xs c.in_ok-check-2.check) bytes (c.in_ok-check-2.ensures.stands s n (take at text) c.bytes.invariant.stands);
    }

pub returns : goal.returns
returns c =
    let text = c.args.text.now in
    let s = c.args.scenario in
    let n = c.args.first_line in
    c.finish.ensures s n (take c.bytes.at text) c.bytes.invariant.stands
    ∙ ap (λ (xs : List ℕ). end_of s (history_of n xs)) (take_all c.bytes.at text c.bytes-test.false)
