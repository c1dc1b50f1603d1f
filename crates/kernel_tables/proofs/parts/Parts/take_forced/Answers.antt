use Rattle.std.proofs.Common.{◌≡◌, refl, sym, ap, ◌∙◌}
use Rattle.kern_ids.specs.declared.calls.Call.TheVariants.{Forced}
use Rattle.ripen_advance.specs.Queues.{QueueDues}
use Rattle.kernel_tables.specs.Values.{values}
use Rattle.kernel_tables.proofs.PurgeSteps.{forced-present, forced-token, forced-declared, forced-mapped, forced-follows, ahead-first, purge-stands}
use Rattle.kernel_tables.proofs.parts.Parts.take_forced.Goals as goal

pub remove-queue-requires : goal.remove-queue-requires
remove-queue-requires g c = record { present = forced-present (values c.args.self.now) g.past c.requires.0 c.args.o c.requires.1 c.are_groups.ensures }

pub drop_first-requires : goal.drop_first-requires
drop_first-requires g c = forced-token (values c.args.self.now) g.past c.requires.0 c.args.o c.requires.1 c.are_groups.ensures c.remove-queue.result c.remove-queue.ensures.queue c.valid.ensures

pub empty_object-requires : goal.empty_object-requires
empty_object-requires g c =
    let s = c.requires.0 in
    let ahead = ap (λ (v : QueueDues). v.ahead) c.drop_first.ensures ∙ ahead-first c.args.self.now.objects.tokens c.remove-queue.result ∙ s.queues.ahead in
    (s.pages, (ahead, (s.objects, (s.accounts, (forced-declared (values c.args.self.now) g.past s c.args.o c.requires.1, forced-mapped (values c.args.self.now) g.past s c.args.o c.requires.1)))))

pub returns-clause-stands : goal.returns-clause-stands
returns-clause-stands g c = λ who legal.
    purge-stands (values c.args.self.now) _ g.past who c.args.o Forced _ c.drop_first.new.self _ c.requires.0 refl legal
    (forced-follows (values c.args.self.now) g.past c.requires.0 c.args.o c.requires.1 c.are_groups.ensures c.remove-queue.result c.remove-queue.ensures.queue who) c.drop_first.ensures
    c.empty_object.ensures.boot (c.empty_object.ensures.groups ∙ c.remove-queue.ensures.groups) c.empty_object.ensures.bands c.empty_object.ensures.ages c.empty_object.ensures.wishes c.empty_object.ensures.entered
    c.empty_object.ensures.pages c.empty_object.ensures.ahead c.empty_object.ensures.dues c.empty_object.ensures.objects c.empty_object.ensures.accounts
