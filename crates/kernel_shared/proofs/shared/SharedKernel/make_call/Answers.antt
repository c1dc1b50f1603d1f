use Rattle.std.proofs.Common.{ℕ, refl, sym, ◌∙◌, subst, IsTrue, Result, Ok, Err, OnErr}
use Rattle.kernel_model.specs.Histories.{fits}
use Rattle.kernel_shared.specs.Steps.{IsWanted, IsTried, IsLooked}
use Rattle.kernel_shared.proofs.Passing.{same-pass, same-on, made-on, wanted-first}
use Rattle.kernel_shared.proofs.shared.SharedKernel.make_call.Goals as goal

on_err : {A B : Type 0} (r : Result A B) (P : Type 0) → P → OnErr r P
on_err (Ok x) P p = tt {0}
on_err (Err e) P p = p

pub loop-init : goal.loop-init
loop-init g c = record {
  same = same-pass c.args.self.now c.args.pass.now c.requires.idle;
  mine = refl;
  wanted = subst (IsWanted c.args.self.now.base c.args.call) (sym c.named_number-wanted.ensures) (wanted-first c.args.self.now.base c.args.pass.now.number c.args.call c.requires.fits);
}

pub attempt-requires-clause-idle : goal.attempt-requires-clause-idle
attempt-requires-clause-idle g c = c.loop.invariant.same.idle

pub attempt-requires-clause-fits : goal.attempt-requires-clause-fits
attempt-requires-clause-fits g c = subst (λ (n : ℕ). IsTrue (fits c.args.self.now.base n c.args.call)) (sym c.loop.invariant.same.number) c.requires.fits

pub attempt-requires-clause-object : goal.attempt-requires-clause-object
attempt-requires-clause-object g c = (subst (IsWanted c.args.self.now.base c.args.call) c.in-Some-wanted.is c.loop.invariant.wanted).0

pub attempt-requires-clause-named : goal.attempt-requires-clause-named
attempt-requires-clause-named g c = (subst (IsWanted c.args.self.now.base c.args.call) c.in-Some-wanted.is c.loop.invariant.wanted).1

pub returns-in_err-reply-in-Some-wanted-clause-kept : goal.returns-in_err-reply-in-Some-wanted-clause-kept
returns-in_err-reply-in-Some-wanted-clause-kept g c = same-on c.args.self.now c.args.pass.now c.loop.pass c.attempt.new.pass c.loop.invariant.same c.attempt.ensures.kept

pub returns-in_err-reply-in-Some-wanted-clause-none : goal.returns-in_err-reply-in-Some-wanted-clause-none
returns-in_err-reply-in-Some-wanted-clause-none g c = on_err c.from_residual.result _ (c.in_err-reply-in-Some-wanted.ensures.none ∙ c.loop.invariant.mine)

pub returns-in-Some-2-clause-kept : goal.returns-in-Some-2-clause-kept
returns-in-Some-2-clause-kept g c = same-on c.args.self.now c.args.pass.now c.loop.pass c.attempt.new.pass c.loop.invariant.same c.attempt.ensures.kept

pub returns-in-Some-2-clause-made : goal.returns-in-Some-2-clause-made
returns-in-Some-2-clause-made g c =
    made-on c.args.self.now c.args.pass.now c.loop.pass c.attempt.new.pass c.args.call c.in-Some-2.reply c.loop.invariant.same c.loop.invariant.mine
    (subst (IsTried c.args.self.now c.loop.pass c.attempt.new.pass c.args.call) c.in-Some-2.is c.in_ok-reply-in-Some-wanted.ensures.tried)

pub loop-preserved-in-None-2 : goal.loop-preserved-in-None-2
loop-preserved-in-None-2 g c = record {
  same = same-on c.args.self.now c.args.pass.now c.loop.pass c.attempt.new.pass c.loop.invariant.same c.attempt.ensures.kept;
  mine = subst (IsTried c.args.self.now c.loop.pass c.attempt.new.pass c.args.call) c.in-None-2.is c.in_ok-reply-in-Some-wanted.ensures.tried ∙ c.loop.invariant.mine;
  wanted = tt {0};
}

pub first_look-requires-clause-idle : goal.first_look-requires-clause-idle
first_look-requires-clause-idle g c = c.loop.invariant.same.idle

pub first_look-requires-clause-fits : goal.first_look-requires-clause-fits
first_look-requires-clause-fits g c = subst (λ (n : ℕ). IsTrue (fits c.args.self.now.base n c.args.call)) (sym c.loop.invariant.same.number) c.requires.fits

pub returns-in_err-reply-in-None-wanted-clause-kept : goal.returns-in_err-reply-in-None-wanted-clause-kept
returns-in_err-reply-in-None-wanted-clause-kept g c = same-on c.args.self.now c.args.pass.now c.loop.pass c.first_look.new.pass c.loop.invariant.same c.first_look.ensures.kept

pub returns-in_err-reply-in-None-wanted-clause-none : goal.returns-in_err-reply-in-None-wanted-clause-none
returns-in_err-reply-in-None-wanted-clause-none g c = on_err c.from_residual-in_err-reply-in-None-wanted.result _ (c.in_err-reply-in-None-wanted.ensures.none ∙ c.loop.invariant.mine)

pub returns-in-Made-clause-kept : goal.returns-in-Made-clause-kept
returns-in-Made-clause-kept g c = same-on c.args.self.now c.args.pass.now c.loop.pass c.first_look.new.pass c.loop.invariant.same c.first_look.ensures.kept

pub returns-in-Made-clause-made : goal.returns-in-Made-clause-made
returns-in-Made-clause-made g c =
    made-on c.args.self.now c.args.pass.now c.loop.pass c.first_look.new.pass c.args.call c.in-Made.reply c.loop.invariant.same c.loop.invariant.mine
    (subst (IsLooked c.args.self.now c.loop.pass c.first_look.new.pass c.args.call) c.in-Made.is c.in_ok-reply-in-None-wanted.ensures.looked)

pub loop-preserved : goal.loop-preserved
loop-preserved g c =
    let looked = subst (IsLooked c.args.self.now c.loop.pass c.first_look.new.pass c.args.call) c.in-Needs.is c.in_ok-reply-in-None-wanted.ensures.looked in
    record {
      same = same-on c.args.self.now c.args.pass.now c.loop.pass c.first_look.new.pass c.loop.invariant.same c.first_look.ensures.kept;
      mine = looked.0 ∙ c.loop.invariant.mine;
      wanted = looked.1;
    }
