use Rattle.std.proofs.Common.{◌≡◌, ◌+◌, ◌≤◌, sym, ap, ◌∙◌, false, true, arith}
use Rattle.kernel_model.specs.State.{is_empty, state}
use Rattle.kernel_tables.specs.Values.{values}
use Rattle.kernel_tables.proofs.Accesses.{can-first, can-last}
use Rattle.kernel_tables.proofs.ReadWrite.{read-range, range-bound, read-enough, read-mapped, read-reply, empty-read-stands, full-read-stands}
use Rattle.kernel_tables.proofs.parts.Parts.read.Goals as goal

pub returns-then-is_empty-clause-reply : goal.returns-then-is_empty-clause-reply
returns-then-is_empty-clause-reply g c = read-reply c.args.self.now.boot g.past c.args.who c.args.o c.args.off c.args.len c.args.seen c.requires.1.1.0 c.requires.1.1.1

pub returns-then-is_empty-clause-stands : goal.returns-then-is_empty-clause-stands
returns-then-is_empty-clause-stands g c =
    let t = values c.args.self.now in
    let r = read-range t.boot g.past c.args.who c.args.o c.args.off c.args.len c.requires.1.0 c.requires.1.1.0 in
    let stood = c.requires.0.objects.states c.args.o r.object (read-mapped t.boot g.past c.args.who c.args.o c.args.off c.args.len c.valid.ensures c.requires.1.0 c.requires.1.1.0) in
    let none : is_empty (state g.past c.args.o) ≡ true = sym (c.is_empty.ensures ∙ ap is_empty (c.state.ensures ∙ stood)) ∙ c.if-is_empty.true in
    empty-read-stands t g.past c.args.who c.args.o c.args.off c.args.len c.args.seen
    (c.requires.1.0, read-reply t.boot g.past c.args.who c.args.o c.args.off c.args.len c.args.seen c.requires.1.1.0 c.requires.1.1.1, c.requires.0.legal) none c.requires.0

pub touch_range-requires-clause-some : goal.touch_range-requires-clause-some
touch_range-requires-clause-some g c = (read-range c.args.self.now.boot g.past c.args.who c.args.o c.args.off c.args.len c.requires.1.0 c.requires.1.1.0).some

pub touch_range-requires-clause-bound : goal.touch_range-requires-clause-bound
touch_range-requires-clause-bound g c =
    let r = read-range c.args.self.now.boot g.past c.args.who c.args.o c.args.off c.args.len c.requires.1.0 c.requires.1.1.0 in
    let b : c.args.off + c.args.len ≤ 1048576 = range-bound c.args.self.now.boot c.args.o c.args.off c.args.len c.valid.ensures r in
    omega arith

pub touch_range-requires-clause-first : goal.touch_range-requires-clause-first
touch_range-requires-clause-first g c =
    let t = values c.args.self.now in
    let s = c.requires.0 in
    let r = read-range t.boot g.past c.args.who c.args.o c.args.off c.args.len c.requires.1.0 c.requires.1.1.0 in
    let stood = s.objects.states c.args.o r.object (read-mapped t.boot g.past c.args.who c.args.o c.args.off c.args.len c.valid.ensures c.requires.1.0 c.requires.1.1.0) in
    let full : is_empty (state g.past c.args.o) ≡ false = sym (c.is_empty.ensures ∙ ap is_empty (c.state.ensures ∙ stood)) ∙ c.if-is_empty.false in
    can-first t.boot g.past c.args.o c.args.off c.args.len c.valid.ensures r t.pages t.objects t.accounts t.entered c.are_pages.ensures.three c.are_pages.ensures.marks s.pages s.objects s.accounts
    (read-enough t.boot g.past c.args.who c.args.o c.args.off c.args.len c.requires.1.1.0 full)

pub touch_range-requires-clause-last : goal.touch_range-requires-clause-last
touch_range-requires-clause-last g c =
    let t = values c.args.self.now in
    let s = c.requires.0 in
    let r = read-range t.boot g.past c.args.who c.args.o c.args.off c.args.len c.requires.1.0 c.requires.1.1.0 in
    let stood = s.objects.states c.args.o r.object (read-mapped t.boot g.past c.args.who c.args.o c.args.off c.args.len c.valid.ensures c.requires.1.0 c.requires.1.1.0) in
    let full : is_empty (state g.past c.args.o) ≡ false = sym (c.is_empty.ensures ∙ ap is_empty (c.state.ensures ∙ stood)) ∙ c.if-is_empty.false in
    can-last t.boot g.past c.args.o c.args.off c.args.len c.valid.ensures r t.pages t.objects t.accounts t.entered c.are_pages.ensures.three c.are_pages.ensures.marks s.pages s.objects s.accounts
    (read-enough t.boot g.past c.args.who c.args.o c.args.off c.args.len c.requires.1.1.0 full)

pub returns-clause-reply : goal.returns-clause-reply
returns-clause-reply g c = read-reply c.args.self.now.boot g.past c.args.who c.args.o c.args.off c.args.len c.args.seen c.requires.1.1.0 c.requires.1.1.1

pub returns-clause-stands : goal.returns-clause-stands
returns-clause-stands g c =
    let t = values c.args.self.now in
    let s = c.requires.0 in
    let r = read-range t.boot g.past c.args.who c.args.o c.args.off c.args.len c.requires.1.0 c.requires.1.1.0 in
    let stood = s.objects.states c.args.o r.object (read-mapped t.boot g.past c.args.who c.args.o c.args.off c.args.len c.valid.ensures c.requires.1.0 c.requires.1.1.0) in
    let full : is_empty (state g.past c.args.o) ≡ false = sym (c.is_empty.ensures ∙ ap is_empty (c.state.ensures ∙ stood)) ∙ c.if-is_empty.false in
    rw (c.touch_range.ensures.pages, c.touch_range.ensures.ledgers)
    (full-read-stands t g.past c.args.who c.args.o c.args.off c.args.len c.args.seen c.valid.ensures r c.are_pages.ensures.three c.are_pages.ensures.marks
    (c.requires.1.0, read-reply t.boot g.past c.args.who c.args.o c.args.off c.args.len c.args.seen c.requires.1.1.0 c.requires.1.1.1, s.legal) full s)
