use Rattle.std.proofs.Common.{◌≡◌, ℕ, List, ◌∷◌, map, sym, ap, ◌∙◌, subst}
use Rattle.kern_ids.specs.declared.entries.Entry.{Entry}
use Rattle.kern_ids.specs.declared.calls.Queue.{Queue}
use Rattle.kernel_model.specs.Pages.{left, inactive_pages}
use Rattle.page_queues.specs.Pages.{inactive}
use Rattle.page_queues.specs.Tallies.{count_of}
use Rattle.token_list.specs.Dues.{lowered_by}
use Rattle.ripen_advance.specs.Queues.{dues_in}
use Rattle.vm_object.specs.Objects.{Object}
use Rattle.task_ledger.specs.declared.account.Account.{Account}
use Rattle.kernel_tables.specs.Emptying.{IsEmptying}
use Rattle.kernel_tables.specs.Stands.{PagesStand, ObjectsStand, AccountsStand}
use Rattle.kernel_tables.proofs.Emptied.{pages-emptied, inactive-emptied, left-emptied, objects-emptied}
use Rattle.kernel_tables.proofs.PurgeSteps.{framed-few, stored-few, inactive-ahead, owner-some, owner-told, charge-told, owner-account, charge-fits, accounts-told, ahead-emptied}
use Rattle.kernel_tables.proofs.parts.Parts.empty_object.Goals as goal

pub charge-charge-requires-clause-framed : goal.charge-charge-requires-clause-framed
charge-charge-requires-clause-framed g c = framed-few c.args.self.now.boot g.past c.valid.ensures c.args.o c.requires.1.1.1.1.0 c.args.self.now.objects.pages c.args.self.now.entered c.requires.0

pub charge-charge-requires-clause-stored : goal.charge-charge-requires-clause-stored
charge-charge-requires-clause-stored g c = stored-few c.args.self.now.boot g.past c.valid.ensures c.args.o c.requires.1.1.1.1.0 c.args.self.now.objects.pages c.args.self.now.entered c.requires.0

pub unwrap-t-requires : goal.unwrap-t-requires
unwrap-t-requires g c = owner-some c.args.self.now.boot g.past c.valid.ensures c.args.o c.requires.1.1.1.1.0 c.args.self.now.objects.table c.requires.1.1.0 c.requires.1.1.1.1.1 c.owner.result c.owner.ensures.mapped

pub take-requires-clause-task : goal.take-requires-clause-task
take-requires-clause-task g c =
    let is = owner-told c.args.self.now.boot g.past c.valid.ensures c.args.o c.requires.1.1.1.1.0 c.args.self.now.objects.table c.requires.1.1.0 c.requires.1.1.1.1.1 c.unwrap-t.result c.owner.result c.owner.ensures.owner c.unwrap-t.ensures in
    let told = c.charge-charge.ensures.value ∙ charge-told c.args.self.now.boot g.past c.valid.ensures c.args.o c.requires.1.1.1.1.0 c.args.self.now.objects.table c.requires.1.1.0 c.requires.1.1.1.1.1 c.args.self.now.objects.pages c.args.self.now.entered c.requires.0 in
    owner-account c.args.self.now.boot g.past c.valid.ensures c.args.o c.requires.1.1.1.1.0 c.args.self.now.tasks.ledgers c.requires.1.1.1.0 c.unwrap-t.result is c.charge-charge.result told

pub take-requires-clause-charged : goal.take-requires-clause-charged
take-requires-clause-charged g c =
    let is = owner-told c.args.self.now.boot g.past c.valid.ensures c.args.o c.requires.1.1.1.1.0 c.args.self.now.objects.table c.requires.1.1.0 c.requires.1.1.1.1.1 c.unwrap-t.result c.owner.result c.owner.ensures.owner c.unwrap-t.ensures in
    let told = c.charge-charge.ensures.value ∙ charge-told c.args.self.now.boot g.past c.valid.ensures c.args.o c.requires.1.1.1.1.0 c.args.self.now.objects.table c.requires.1.1.0 c.requires.1.1.1.1.1 c.args.self.now.objects.pages c.args.self.now.entered c.requires.0 in
    charge-fits c.args.self.now.boot g.past c.valid.ensures c.args.o c.requires.1.1.1.1.0 c.args.self.now.tasks.ledgers c.requires.1.1.1.0 c.unwrap-t.result is c.charge-charge.result told

pub empty-requires-clause-ahead : goal.empty-requires-clause-ahead
empty-requires-clause-ahead g c = inactive-ahead c.args.self.now.boot g.past c.valid.ensures c.args.o c.requires.1.1.1.1.0 c.args.self.now.objects.pages c.args.self.now.entered c.requires.0 c.args.self.now.objects.tokens.ahead c.requires.1.0

pub returns-clause-pages : goal.returns-clause-pages
returns-clause-pages g c = λ e is. pages-emptied c.args.self.now.boot e g.past c.args.o is c.valid.ensures c.args.self.now.objects.pages _ c.args.self.now.entered c.empty.ensures.queues c.requires.0 c.empty.ensures.frames c.empty.ensures.sizes c.empty.ensures.marks

pub returns-clause-ahead : goal.returns-clause-ahead
returns-clause-ahead g c = λ e is.
    let later = pages-emptied c.args.self.now.boot e g.past c.args.o is c.valid.ensures c.args.self.now.objects.pages _ c.args.self.now.entered c.empty.ensures.queues c.requires.0 c.empty.ensures.frames c.empty.ensures.sizes c.empty.ensures.marks in
    c.empty.ensures.ahead ∙ ahead-emptied _ _ _ _ c.requires.1.0 (inactive-emptied c.args.self.now.boot e g.past c.args.o is c.valid.ensures c.args.self.now.objects.pages _ c.args.self.now.entered c.empty.ensures.queues c.requires.0 later)

pub returns-clause-dues : goal.returns-clause-dues
returns-clause-dues g c = λ e is q.
    let later = pages-emptied c.args.self.now.boot e g.past c.args.o is c.valid.ensures c.args.self.now.objects.pages _ c.args.self.now.entered c.empty.ensures.queues c.requires.0 c.empty.ensures.frames c.empty.ensures.sizes c.empty.ensures.marks in
    c.empty.ensures.dues q ∙ ap (λ (n : ℕ). lowered_by n (dues_in c.args.self.now.objects.tokens q)) (sym (left-emptied c.args.self.now.boot e g.past c.args.o is c.valid.ensures c.args.self.now.objects.pages _ c.args.self.now.entered c.empty.ensures.queues c.requires.0 later))

pub returns-clause-objects : goal.returns-clause-objects
returns-clause-objects g c = λ e is. subst (λ (objects : List Object). ObjectsStand c.args.self.now.boot (e ∷ g.past) objects) (sym c.empty.ensures.objects) (objects-emptied c.args.self.now.boot e g.past c.args.o is c.args.self.now.objects.table c.requires.1.1.1.1.0 c.requires.1.1.0)

pub returns-clause-accounts : goal.returns-clause-accounts
returns-clause-accounts g c = λ e is.
    let own = owner-told c.args.self.now.boot g.past c.valid.ensures c.args.o c.requires.1.1.1.1.0 c.args.self.now.objects.table c.requires.1.1.0 c.requires.1.1.1.1.1 c.unwrap-t.result c.owner.result c.owner.ensures.owner c.unwrap-t.ensures in
    let told = c.charge-charge.ensures.value ∙ charge-told c.args.self.now.boot g.past c.valid.ensures c.args.o c.requires.1.1.1.1.0 c.args.self.now.objects.table c.requires.1.1.0 c.requires.1.1.1.1.1 c.args.self.now.objects.pages c.args.self.now.entered c.requires.0 in
    subst (λ (accounts : List Account). AccountsStand c.args.self.now.boot (e ∷ g.past) accounts) (sym c.take.ensures) (accounts-told c.args.self.now.boot g.past c.valid.ensures c.args.o c.requires.1.1.1.1.0 c.args.self.now.tasks.ledgers c.requires.1.1.1.0 c.unwrap-t.result own c.charge-charge.result told e is)
