use Rattle.std.proofs.Common.{◌+◌, ◌-◌, ◌*◌, ◌/◌, ◌<◌, ap, sym, ◌∙◌, arith}
use Rattle.std.proofs.lemmas.List.{get_or_read}
use Rattle.link_list.specs.KeyLists.{place_of}
use Rattle.link_list.proofs.Places.{without_nowhere}
use Rattle.page_queues.proofs.TallyLemmas.{count_positive, tallied_take}
use Rattle.page_queues.proofs.tallied.Tallied.take.Goals as goal

pub overflow_sub-index_mut-in-Some : goal.overflow_sub-index_mut-in-Some
overflow_sub-index_mut-in-Some c =
    let h = c.self.invariant in
    let objects = ap (λ v. v.objects) c.self.view_is in
    let object : c.args.key / 256 < c.self.inside.objects = omega (arith, c.requires.key) in
    let is = get_or_read c.self.inside.counts.items (3 * (c.args.key / 256) + c.in-Some.l) _ (omega (arith, h.each_count, c.in-Some.ensures.bound)) c.index_mut-in-Some.ensures.value 0 in
    omega (arith, count_positive h c.each_once.ensures.once c.each_once.ensures.below c.args.key c.in-Some.l object (sym c.in-Some.ensures.place))

pub invariant_of-self : goal.invariant_of-self
invariant_of-self c =
    let h = c.self.invariant in
    let objects = ap (λ v. v.objects) c.self.view_is in
    let object : c.args.key / 256 < c.self.inside.objects = omega (arith, c.requires.key) in
    let length_is = get_or_read c.self.inside.lengths.items c.in-Some.l _ (omega (arith, h.each_length, c.in-Some.ensures.bound)) c.index_mut.ensures.value 0 in
    let count_is = get_or_read c.self.inside.counts.items (3 * (c.args.key / 256) + c.in-Some.l) _ (omega (arith, h.each_count, c.in-Some.ensures.bound)) c.index_mut-in-Some.ensures.value 0 in
    tallied_take h c.each_once.ensures.once c.each_once.ensures.below c.remove.new.self c.in-Some.l c.args.key _ _ object (sym c.in-Some.ensures.place) c.remove.ensures.cap c.remove.ensures.lists (ap (λ x. x - 1) length_is) (ap (λ x. x - 1) count_is)

pub returns-in-None-clause-lists : goal.returns-in-None-clause-lists
returns-in-None-clause-lists c = sym (without_nowhere c.args.key c.args.self.now.lists (ap (λ v. place_of c.args.key v.lists) (sym c.self.view_is) ∙ sym c.in-None.ensures.place))
