use Rattle.std.proofs.Common.{◌≡◌, ℕ, ◌<◌, List, length, set, set-set, ap, ap₂, ◌∙◌}
use Rattle.std.proofs.lemmas.List.{get_or-set_same}
use Rattle.kern_ids.specs.declared.replies.Counts.{Counts}
use Rattle.task_ledger.specs.declared.account.Account.{Account}
use Rattle.task_ledger.specs.Accounts.{account_of, no_account, counts_plus, counts_less, with_counts}
use Rattle.kernel_tables.specs.Moves.{one_page}
use Rattle.kernel_tables.proofs.page_charges.recount.Goals as goal

-- counts that become others twice
twice : (accounts : List Account) (t : ℕ) (a : Counts) (g : Counts → Counts) → t < length accounts → with_counts (with_counts accounts t a) t (g (account_of (with_counts accounts t a) t).counts) ≡ with_counts accounts t (g a)
twice accounts t a g l =
    let now : Account = record (account_of accounts t) { counts = a } in
    let back : account_of (with_counts accounts t a) t ≡ now = get_or-set_same accounts t now no_account l in
    let then : Account = record now { counts = g a } in
    ap (λ (x : Account). set (set accounts t now) t (record x { counts = g x.counts })) back ∙ set-set accounts t now then

pub returns : goal.returns
returns c =
    let accounts = c.args.ledgers.now in
    c.add.ensures
    ∙ ap₂ (λ (ls : List Account) (x : Counts). with_counts ls c.args.t (counts_plus (account_of ls c.args.t).counts x))
    (c.take.ensures ∙ ap (λ (x : Counts). with_counts accounts c.args.t (counts_less (account_of accounts c.args.t).counts x)) c.one_page.ensures.value)
    c.one_page-2.ensures.value
    ∙ twice accounts c.args.t (counts_less (account_of accounts c.args.t).counts (one_page c.args.state c.args.was)) (λ y. counts_plus y (one_page c.args.state c.args.now)) c.requires.task
