use Rattle.std.proofs.Common.{◌+◌, ◌*◌, ◌/◌, ◌<◌, ap, arith}
use Rattle.std.proofs.lemmas.List.{get_or_read}
use Rattle.page_queues.proofs.TallyLemmas.{length_small, count_small, tallied_push}
use Rattle.page_queues.proofs.tallied.Tallied.push_back.Goals as goal

pub overflow_add-index_mut : goal.overflow_add-index_mut
overflow_add-index_mut c =
    let h = c.self.invariant in
    let is = get_or_read c.self.inside.lengths.items c.args.l _ (omega (arith, h.each_length)) c.index_mut.ensures.value 0 in
    omega (arith, length_small h c.each_once.ensures.once c.each_once.ensures.below c.args.l c.requires.list)

pub overflow_add-index_mut-2 : goal.overflow_add-index_mut-2
overflow_add-index_mut-2 c =
    let h = c.self.invariant in
    let objects = ap (λ v. v.objects) c.self.view_is in
    let object : c.args.key / 256 < c.self.inside.objects = omega (arith, c.requires.key) in
    let is = get_or_read c.self.inside.counts.items (3 * (c.args.key / 256) + c.args.l) _ (omega (arith, h.each_count)) c.index_mut-2.ensures.value 0 in
    omega (arith, count_small h c.each_once.ensures.once c.each_once.ensures.below (c.args.key / 256) c.args.l object c.requires.list)

pub invariant_of-self : goal.invariant_of-self
invariant_of-self c =
    let h = c.self.invariant in
    let objects = ap (λ v. v.objects) c.self.view_is in
    let object : c.args.key / 256 < c.self.inside.objects = omega (arith, c.requires.key) in
    let length_is = get_or_read c.self.inside.lengths.items c.args.l _ (omega (arith, h.each_length)) c.index_mut.ensures.value 0 in
    let count_is = get_or_read c.self.inside.counts.items (3 * (c.args.key / 256) + c.args.l) _ (omega (arith, h.each_count)) c.index_mut-2.ensures.value 0 in
    tallied_push h c.each_once.ensures.once c.each_once.ensures.below c.push_back.new.self c.args.l c.args.key _ _ c.requires.list object c.push_back.ensures.cap c.push_back.ensures.lists (ap (λ x. x + 1) length_is) (ap (λ x. x + 1) count_is)
