use Rattle.std.proofs.Common.{◌≡◌, ℕ, ◌+◌, ◌<◌, ◌≤◌, length, sym, subst, arith}
use Rattle.kernel_tables.specs.Values.{values}
use Rattle.kernel_tables.specs.Moves.{CanTouch, first_page, last_page, touched, charged_touch}
use Rattle.kernel_tables.proofs.Accesses.{can-first, can-last}
use Rattle.kernel_tables.proofs.ReadWrite.{write-range, range-bound, write-enough, write-reply, write-stands}
use Rattle.kernel_tables.proofs.parts.Parts.write.Goals as goal

pub touch_range-requires-clause-some : goal.touch_range-requires-clause-some
touch_range-requires-clause-some g c =
    subst (λ n. 0 < n) (sym c.length_of-len.ensures) (write-range c.args.self.now.boot g.past c.args.who c.args.o c.args.off c.args.bytes c.requires.1.0 c.requires.1.1).some

pub touch_range-requires-clause-bound : goal.touch_range-requires-clause-bound
touch_range-requires-clause-bound g c =
    let r = write-range c.args.self.now.boot g.past c.args.who c.args.o c.args.off c.args.bytes c.requires.1.0 c.requires.1.1 in
    let b : c.args.off + length c.args.bytes ≤ 1048576 = range-bound c.args.self.now.boot c.args.o c.args.off (length c.args.bytes) c.valid.ensures r in
    let e : c.length_of-len.result ≡ length c.args.bytes = c.length_of-len.ensures in
    omega arith

pub touch_range-requires-clause-first : goal.touch_range-requires-clause-first
touch_range-requires-clause-first g c =
    let t = values c.args.self.now in
    let s = c.requires.0 in
    let r = write-range t.boot g.past c.args.who c.args.o c.args.off c.args.bytes c.requires.1.0 c.requires.1.1 in
    can-first t.boot g.past c.args.o c.args.off (length c.args.bytes) c.valid.ensures r t.pages t.objects t.accounts t.entered c.are_pages.ensures.three c.are_pages.ensures.marks s.pages s.objects s.accounts
    (write-enough t.boot g.past c.args.who c.args.o c.args.off c.args.bytes c.requires.1.1)

pub touch_range-requires-clause-last : goal.touch_range-requires-clause-last
touch_range-requires-clause-last g c =
    let t = values c.args.self.now in
    let s = c.requires.0 in
    let r = write-range t.boot g.past c.args.who c.args.o c.args.off c.args.bytes c.requires.1.0 c.requires.1.1 in
    rw c.length_of-len.ensures
    (can-last t.boot g.past c.args.o c.args.off (length c.args.bytes) c.valid.ensures r t.pages t.objects t.accounts t.entered c.are_pages.ensures.three c.are_pages.ensures.marks s.pages s.objects s.accounts
    (write-enough t.boot g.past c.args.who c.args.o c.args.off c.args.bytes c.requires.1.1))

pub mark_range-requires-clause-some : goal.mark_range-requires-clause-some
mark_range-requires-clause-some g c =
    subst (λ n. 0 < n) (sym c.length_of-len.ensures) (write-range c.args.self.now.boot g.past c.args.who c.args.o c.args.off c.args.bytes c.requires.1.0 c.requires.1.1).some

pub mark_range-requires-clause-inside : goal.mark_range-requires-clause-inside
mark_range-requires-clause-inside g c =
    let r = write-range c.args.self.now.boot g.past c.args.who c.args.o c.args.off c.args.bytes c.requires.1.0 c.requires.1.1 in
    let b : c.args.off + length c.args.bytes ≤ 1048576 = range-bound c.args.self.now.boot c.args.o c.args.off (length c.args.bytes) c.valid.ensures r in
    let e : c.length_of-len.result ≡ length c.args.bytes = c.length_of-len.ensures in
    omega arith

pub returns-clause-reply : goal.returns-clause-reply
returns-clause-reply g c = write-reply c.args.self.now.boot g.past c.args.who c.args.o c.args.off c.args.bytes c.requires.1.1

pub returns-clause-stands : goal.returns-clause-stands
returns-clause-stands g c =
    let t = values c.args.self.now in
    let s = c.requires.0 in
    let r = write-range t.boot g.past c.args.who c.args.o c.args.off c.args.bytes c.requires.1.0 c.requires.1.1 in
    rw (c.touch_range.ensures.pages, c.touch_range.ensures.ledgers, c.mark_range.ensures, c.length_of-len.ensures)
    (write-stands t g.past c.args.who c.args.o c.args.off c.args.bytes c.valid.ensures r c.are_pages.ensures.three c.are_pages.ensures.marks c.is_object.ensures
    (c.requires.1.0, write-reply t.boot g.past c.args.who c.args.o c.args.off c.args.bytes c.requires.1.1, s.legal) s)
