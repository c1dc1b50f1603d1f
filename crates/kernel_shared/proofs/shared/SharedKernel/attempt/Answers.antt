use Rattle.std.proofs.Common.{◌≡◌, [], ◌∷◌, ◌++◌, reverse, Some, ap, sym, ◌∙◌, subst, rules}
use Rattle.std.specs.Prelude.{Result, Ok, Err, OnOk, false}
use Rattle.std.specs.Result.{is_err}
use Rattle.turn_lock.specs.Histories.{StartsWith}
use Rattle.kernel_shared.specs.Calls.{entry_of}
use Rattle.kernel_core.specs.Touches.{bytes_left, NeedsAtMost, needed_number}
use Rattle.kernel_core.specs.Ranges.{IsWriteInRange, IsSeenOf, IsPreparedFor}
use Rattle.kernel_core.proofs.Seen.{sees-held, write-in_range}
use Rattle.kernel_shared.proofs.Passing.{put-held, starts-more}
use Rattle.kernel_shared.proofs.shared.SharedKernel.attempt.Goals as goal

not_err : {A E : Type 0} (r : Result A E) (P : Type 0) → OnOk r P → is_err r ≡ false → P
not_err (Ok x) P p e = p
not_err (Err x) P p e = absurd (cc)

pub make-requires-clause-seen : goal.make-requires-clause-seen
make-requires-clause-seen g c =
    let o = c.args.o in
    let p = c.enter-turn.new.pass in
    let held : p.object ≡ Some (o, c.take_object-held.result.bytes) = search rules in
    let now : c.body-2.result.now.bytes ≡ c.take_object-held.result.bytes = search rules in
    let base : c.self.inside.boot ≡ c.args.self.now.base = search rules in
    let s = subst (λ b. IsSeenOf b c.args.call.now c.body-2.result.now.bytes c.look-seen.result) base c.look-seen.ensures.seen in
    sees-held c.args.self.now.base p.seen c.args.call.now o c.body-2.result.now.bytes c.look-seen.result c.requires.named (now ∙ c.enter-turn.ensures.current o c.take_object-held.result.bytes held) s

pub apply-requires-clause-range : goal.apply-requires-clause-range
apply-requires-clause-range g c =
    let p = c.enter-turn.new.pass in
    let base : c.args.self.now.base ≡ c.self.inside.boot = search rules in
    subst (λ b. IsWriteInRange b c.args.call.now c.in-Ok.reply) base
    (write-in_range c.args.self.now.base (reverse p.seen) p.number c.args.call.now c.in-Ok.reply c.in-Ok.ensures.made.answered)

pub put_object-requires-in-Ok-clause-object : goal.put_object-requires-in-Ok-clause-object
put_object-requires-in-Ok-clause-object g c =
    let o = c.args.o in
    let base = c.args.self.now.base in
    let call = c.args.call.now in
    let p = c.enter-turn.new.pass in
    let was = c.take_object-held.result.bytes in
    let held : p.object ≡ Some (o, was) = search rules in
    let body : c.body-in-Ok.result.now.bytes ≡ was = search rules in
    let left : c.apply.new.body.bytes ≡ bytes_left call c.in-Ok.reply was = c.apply.ensures ∙ ap (bytes_left call c.in-Ok.reply) body in
    let is : c.needed_number-needed.result ≡ needed_number base (reverse p.seen) p.number call = search rules in
    let only : NeedsAtMost o c.needed_number-needed.result = c.needs_other.ensures c.if-needs_other.false in
    put-held base p.seen c.make.new.pass.seen p.number o call c.in-Ok.reply was c.apply.new.body.bytes p.object c.make.new.pass.object
    (subst (NeedsAtMost o) is only) c.in-Ok.ensures.made.answered c.in-Ok.ensures.made.seen held c.in-Ok.ensures.made.object (c.enter-turn.ensures.current o was held) left

pub returns-in-Ok-clause-kept : goal.returns-in-Ok-clause-kept
returns-in-Ok-clause-kept g c =
    let new = c.put_object-in-Ok.new.pass in
    let seen : StartsWith c.enter-turn.new.pass.seen c.args.pass.now.seen = search rules in
    let later : new.seen ≡ c.enter-turn.new.pass.seen ++ entry_of c.enter-turn.new.pass c.args.call.now c.in-Ok.reply ∷ [] = search rules in
    record {
      idle = search rules;
      number = search rules;
      others = search rules;
      seen = starts-more new.seen c.enter-turn.new.pass.seen c.args.pass.now.seen (entry_of c.enter-turn.new.pass c.args.call.now c.in-Ok.reply ∷ []) later seen;
    }

pub apply-requires-clause-prepared : goal.apply-requires-clause-prepared
apply-requires-clause-prepared g c =
    let ready : IsPreparedFor c.self.inside.boot c.args.call.now c.prepare.new.body = not_err c.prepare.result _ c.prepare.ensures.prepared (sym c.is_err.ensures.value ∙ c.if-is_err.false) in
    let now : c.body-in-Ok.result.now ≡ c.prepare.new.body = search rules in
    subst (IsPreparedFor c.self.inside.boot c.args.call.now) (sym now) ready
