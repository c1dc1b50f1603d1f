use Rattle.std.proofs.Common.{◌≡◌, ℕ, ◌+◌, ◌*◌, ◌<◌, List, refl, sym, ap, ◌∙◌, arith, length, get_or, false}
use Rattle.std.proofs.lemmas.List.{length-set}
use Rattle.page_queues.specs.Tallies.{taken}
use Rattle.page_queues.specs.Pages.{Pages, absented}
use Rattle.page_queues.proofs.DropLemmas.{without_object_none, without_object_more, marks_none, marks_more}
use Rattle.page_queues.proofs.PageQueues.drop_object.Goals as goal

pub loop-page-init : goal.loop-page-init
loop-page-init c = (refl, refl, refl, sym (without_object_none c.args.o c.args.self.now.queues), λ key. marks_none c.args.o key (get_or c.args.self.now.marks key false))

pub loop-page-preserved : goal.loop-page-preserved
loop-page-preserved c =
    let key = 256 * c.args.o + c.loop-page.page in
    let is : c.make_absent.new.self ≡ absented c.loop-page.self (256 * c.args.o + c.loop-page.page) = c.make_absent.ensures ∙ ap (absented c.loop-page.self) c.key_of.ensures in
    let small : c.loop-page.page < 256 = omega (arith, c.size-page-end.ensures.few, c.loop-page-test.true) in (
      ap (λ (p : Pages). p.frames) is ∙ c.loop-page.invariant.0,
      ap (λ (p : Pages). p.sizes) is ∙ c.loop-page.invariant.1,
      ap (λ (p : Pages). length p.marks) is ∙ length-set c.loop-page.self.marks key false ∙ c.loop-page.invariant.2,
      ap (λ (p : Pages). p.queues) is ∙ ap (λ (qs : List (List ℕ)). taken qs key) c.loop-page.invariant.3 ∙ without_object_more c.args.o c.loop-page.page c.args.self.now.queues small,
      λ k. ap (λ (p : Pages). get_or p.marks k false) is ∙ marks_more c.args.o c.loop-page.page c.args.self.now.marks c.loop-page.self.marks small c.loop-page.invariant.4 k,
    )
