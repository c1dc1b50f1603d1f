use Rattle.std.proofs.Common.{◌≡◌, ◌+◌, ◌-◌, ◌^◌, ◌<◌, length, get_or, Some, ap, ap₂, sym, ◌∙◌, arith, rules, add-one}
use Rattle.std.proofs.lemmas.Option.{slice_get-get_or}
use Rattle.token_list.specs.Gaps.{running}
use Rattle.token_list.proofs.GapLemmas.{running-step, running-rises}
use Rattle.token_list.proofs.TokenLemmas.{last-sum}
use Rattle.token_list.proofs.CallLemmas.{gap-below, length-tokens}
use Rattle.token_list.proofs.CountLemmas.{due-read}
use Rattle.token_list.proofs.TokenList.due_at.Goals as goal

pub overflow_add-due : goal.overflow_add-due
overflow_add-due c =
    let gs = c.self.inside.ring.numbers in
    let inv = c.loop-place.invariant in
    let i = c.self.invariant in
    let within : c.loop-place.place + 1 < length gs = omega (arith, c.loop-place-test.true, c.if-k-len.false, c.len.ensures.numbers) in
    let due : c.loop-place.due < 2 ^ 32 = omega (arith, inv.due, i.bound, running-rises 0 gs c.loop-place.place (length gs - 1) (omega arith) (omega arith), last-sum gs c.self.inside.ahead (length gs - 1) i.total (omega arith)) in
    let gap : c.number-due-in-loop-place.result < 2 ^ 32 = omega (arith, c.number-due-in-loop-place.ensures (c.loop-place.place + 1) (c.after-slot.ensures.place c.loop-place.place inv.stands), gap-below c.self.inside i (c.loop-place.place + 1)) in
    search (rules, due, gap)

pub loop-place-preserved : goal.loop-place-preserved
loop-place-preserved c =
    let gs = c.self.inside.ring.numbers in
    let inv = c.loop-place.invariant in
    let there = c.after-slot.ensures.place c.loop-place.place inv.stands in
    let within : c.loop-place.place + 1 < length gs = omega (arith, c.loop-place-test.true, c.if-k-len.false, c.len.ensures.numbers) in
    let step = running-step 0 gs c.loop-place.place (omega arith) in
    record {
      bound = c.after-slot.ensures.bound;
      stands = there;
      due = ap₂ (λ x y. x + y) inv.due (c.number-due-in-loop-place.ensures (c.loop-place.place + 1) there) ∙ rw add-one (sym step);
    }

pub returns : goal.returns
returns c =
    let inv = c.loop-place.invariant in
    let size = length-tokens c.self.inside c.args.self.now c.self.invariant c.self.view_is in
    let k : c.loop-place.place ≡ c.args.k = omega (arith, c.loop-place-test.false, c.loop-place.auto.place-end) in
    let within : c.args.k < length c.args.self.now.dues = omega (arith, c.if-k-len.false, c.len.ensures.value) in
    let due : c.loop-place.due ≡ get_or c.args.self.now.dues c.args.k 0 =
    inv.due ∙ ap (λ p. get_or (running 0 c.self.inside.ring.numbers) p 0) k ∙ sym (due-read c.self.inside c.args.self.now c.args.k c.self.invariant c.self.view_is within) in
    ap Some due ∙ sym (slice_get-get_or c.args.self.now.dues c.args.k 0 within)
