use Rattle.std.proofs.Common.{◌+◌, sym, ◌∙◌, arith}
use Rattle.kernel_model.specs.Pages.{pages_in}
use Rattle.slow_kernel.specs.Tables.{page, facts, past_at}
use Rattle.slow_kernel.proofs.Tables.{mixed_start, mixed_all, mixed_at, mixed_step, table_length}
use Rattle.slow_kernel.proofs.PageTables.{facts_step}
use Rattle.slow_kernel.proofs.pages.update_pages.Goals as goal
use Rattle.slow_kernel.proofs.pages.update_pages.Goals.{In-loop-k}

pub loop-k-init : goal.loop-k-init
loop-k-init c =
    c.requires.before
    ∙ sym (mixed_start (λ k. facts c.args.boot.now (past_at c.args.entries.now c.args.i) (page c.args.o k)) (λ k. facts c.args.boot.now (past_at c.args.entries.now (c.args.i + 1)) (page c.args.o k)) (pages_in c.args.boot.now c.args.o))

pub facts_in-was-requires : goal.facts_in-was-requires
facts_in-was-requires c =
    let l = table_length (λ k. facts c.args.boot.now (past_at c.args.entries.now c.args.i) (page c.args.o k)) (pages_in c.args.boot.now c.args.o) c.args.pages.now c.requires.before in
    omega arith

pub bounds-pages-k : goal.bounds-pages-k
bounds-pages-k c = facts_in-was-requires (goal.at.bounds-pages-k c).In-loop-k

pub loop-k-preserved : goal.loop-k-preserved
loop-k-preserved c =
    let r = mixed_at (λ k. facts c.args.boot.now (past_at c.args.entries.now c.args.i) (page c.args.o k)) (λ k. facts c.args.boot.now (past_at c.args.entries.now (c.args.i + 1)) (page c.args.o k)) (pages_in c.args.boot.now c.args.o) c.loop-k.k c.loop-k.pages c.facts_in-was.result c.loop-k.invariant (omega arith) c.facts_in-was.ensures in
    mixed_step (λ k. facts c.args.boot.now (past_at c.args.entries.now c.args.i) (page c.args.o k)) (λ k. facts c.args.boot.now (past_at c.args.entries.now (c.args.i + 1)) (page c.args.o k)) (pages_in c.args.boot.now c.args.o) c.loop-k.k c.loop-k.pages c.next_facts.result c.loop-k.invariant (omega arith)
    (facts_step c.args.boot.now c.args.entries.now c.args.i c.index-entries-i.result c.args.o c.loop-k.k c.args.state c.args.unmapped c.facts_in-was.result c.next_facts.result c.requires.at c.index-entries-i.is c.next_facts.ensures c.requires.state c.requires.unmapped r)

pub returns : goal.returns
returns c = mixed_all (λ k. facts c.args.boot.now (past_at c.args.entries.now c.args.i) (page c.args.o k)) (λ k. facts c.args.boot.now (past_at c.args.entries.now (c.args.i + 1)) (page c.args.o k)) (pages_in c.args.boot.now c.args.o) c.loop-k.k c.loop-k.pages c.loop-k.invariant (omega arith)
