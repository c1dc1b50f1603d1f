use Rattle.std.proofs.Common.{◌≡◌, ℕ, ◌+◌, ◌-◌, ◌≤◌, List, ◌++◌, length, take, drop, sym, ap, ◌∙◌, subst, arith, append_assoc, length-drop}
use Rattle.std.proofs.lemmas.List.{take_all, length-take}
use Rattle.std.proofs.Math.Seq.{take-add}
use Rattle.replay_check.specs.Pieces.{HasRoom, StandsFor, parts}
use Rattle.replay_check.proofs.pieces.take_all.Goals as goal

-- the bytes before a place, and some of those behind it
joined : (text piece : List ℕ) (at taken : ℕ) → (text ++ take at piece) ++ take taken (take (length piece - at) (drop at piece)) ≡ text ++ take (at + taken) piece
joined text piece at taken =
    let whole : take (length piece - at) (drop at piece) ≡ drop at piece = take_all (length piece - at) (drop at piece) (omega (arith, length-drop at piece)) in
    append_assoc text (take at piece) (take taken (take (length piece - at) (drop at piece)))
    ∙ ap (λ (xs : List ℕ). text ++ xs) (ap (λ (xs : List ℕ). take at piece ++ take taken xs) whole ∙ sym (take-add at taken piece))

pub take_some-requires-clause-stands : goal.take_some-requires-clause-stands
take_some-requires-clause-stands c =
    let h = c.requires.stands in
    record {
      scenario = h.scenario;
      first = h.first;
      text = h.text ++ take c.bytes.at c.args.piece.now;
      for_them = c.bytes.invariant.stands h.scenario h.first h.text h.for_them;
    }

pub take_some-requires-clause-room : goal.take_some-requires-clause-room
take_some-requires-clause-room c = λ sound.
    let all : HasRoom (parts c.args.scenario.now c.args.feed.now c.args.replay.now) (length c.args.piece.now + 0) = λ before. let r = c.requires.room before in omega (arith, r) in
    let room = c.bytes.invariant.room 0 all sound in
    rw (length-take, length-drop) (omega (arith, room))

pub bytes-preserved : goal.bytes-preserved
bytes-preserved c =
    let i = c.bytes.invariant in
    let piece = c.args.piece.now in
    let at = c.bytes.at in
    let taken = c.in_ok-taken.taken in
    let inside = i.within in
    let some = simp (length-take, length-drop) at c.in_ok-taken.ensures.within in
    let le : at + taken ≤ length piece = omega (arith, some, inside) in
    record {
      within = le;
      room = λ more all.
          let same : length piece - at + more ≡ taken + (length piece - (at + taken) + more) = omega arith in
          c.in_ok-taken.ensures.room (length piece - (at + taken) + more)
          (subst (HasRoom (parts c.args.scenario.now c.bytes.feed c.bytes.replay)) same (i.room more all));
      stands = λ s n text h.
          subst (λ (xs : List ℕ). StandsFor s n xs (parts c.args.scenario.now c.take_some.new.feed c.take_some.new.replay)) (joined text piece at taken)
          (c.in_ok-taken.ensures.stands s n (text ++ take at piece) (i.stands s n text h));
    }

pub returns-clause-room : goal.returns-clause-room
returns-clause-room c = λ more all sound.
    let end = c.bytes-test.false in
    let room = c.bytes.invariant.room more all sound in
    omega (arith, room, end)

pub returns-clause-stands : goal.returns-clause-stands
returns-clause-stands c = λ s n text h.
    subst (λ (xs : List ℕ). StandsFor s n (text ++ xs) (parts c.args.scenario.now c.bytes.feed c.bytes.replay)) (take_all c.bytes.at c.args.piece.now c.bytes-test.false)
    (c.bytes.invariant.stands s n text h)
