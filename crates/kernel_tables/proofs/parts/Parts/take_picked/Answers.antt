use Rattle.std.proofs.Common.{◌≡◌, sym, ap, ◌∙◌}
use Rattle.ripen_advance.specs.Queues.{QueueDues}
use Rattle.kernel_tables.specs.Values.{values}
use Rattle.kernel_tables.proofs.PurgeSteps.{picked-ripe, picked-token, picked-serves, picked-present, picked-declared, picked-mapped, picked-follows, ahead-ripe, ripe_purging, purge-stands}
use Rattle.kernel_tables.proofs.parts.Parts.take_picked.Goals as goal

pub take_ripe-requires-clause-ripe : goal.take_ripe-requires-clause-ripe
take_ripe-requires-clause-ripe g c = picked-ripe (values c.args.self.now) g.past c.requires.0 c.args.p c.requires.1

pub take_ripe-requires-clause-object : goal.take_ripe-requires-clause-object
take_ripe-requires-clause-object g c = picked-token (values c.args.self.now) g.past c.requires.0 c.args.p c.requires.1 c.are_groups.ensures c.valid.ensures

pub take_ripe-requires-clause-queues : goal.take_ripe-requires-clause-queues
take_ripe-requires-clause-queues g c = picked-serves (values c.args.self.now) g.past c.requires.0 c.args.p c.requires.1

pub remove-queue-requires : goal.remove-queue-requires
remove-queue-requires g c = record { present = picked-present (values c.args.self.now) g.past c.requires.0 c.args.p c.requires.1 c.are_groups.ensures }

pub empty_object-requires : goal.empty_object-requires
empty_object-requires g c =
    let s = c.requires.0 in
    let ahead = ap (λ (v : QueueDues). v.ahead) c.take_ripe.ensures ∙ ahead-ripe c.args.p.token_queue c.args.p.object_queue c.args.self.now.objects.tokens ∙ s.queues.ahead in
    (s.pages, (ahead, (s.objects, (s.accounts, (picked-declared (values c.args.self.now) g.past s c.args.p c.requires.1, picked-mapped (values c.args.self.now) g.past s c.args.p c.requires.1)))))

pub returns-clause-stands : goal.returns-clause-stands
returns-clause-stands g c = λ who call ripe legal.
    purge-stands (values c.args.self.now) _ g.past who c.args.p.obj call _ c.take_ripe.new.self _ c.requires.0 (ripe_purging call ripe) legal
    (picked-follows (values c.args.self.now) g.past c.requires.0 c.args.p c.requires.1 who call ripe) c.take_ripe.ensures
    c.empty_object.ensures.boot (c.empty_object.ensures.groups ∙ c.remove-queue.ensures.groups) c.empty_object.ensures.bands c.empty_object.ensures.ages c.empty_object.ensures.wishes c.empty_object.ensures.entered
    c.empty_object.ensures.pages c.empty_object.ensures.ahead c.empty_object.ensures.dues c.empty_object.ensures.objects c.empty_object.ensures.accounts
