use Rattle.std.proofs.Common.{◌≡◌, ◌+◌, length, sym, ap, ◌∙◌, arith}
use Rattle.slow_kernel.specs.declared.mapping.Mapper.{Mapper}
use Rattle.slow_kernel.specs.Tables.{mapper, past_at}
use Rattle.slow_kernel.proofs.Tables.{mixed_start, mixed_all, mixed_at, mixed_step, table_length}
use Rattle.slow_kernel.proofs.mapping.update_mappers.Goals as goal
use Rattle.slow_kernel.proofs.mapping.update_mappers.Goals.{After-index-mappers-k}

pub loop-k-init : goal.loop-k-init
loop-k-init c = c.requires.before ∙ sym (mixed_start (mapper c.args.boot.now (past_at c.args.entries.now c.args.i) c.args.o) (mapper c.args.boot.now (past_at c.args.entries.now (c.args.i + 1)) c.args.o) (length c.args.boot.now.tasks))

-- the row that was read
row : (c : After-index-mappers-k) → c.index-mappers-k.result ≡ mapper c.args.boot.now (past_at c.args.entries.now c.args.i) c.args.o c.loop-k.k
row c =
    let l : length c.args.mappers.now ≡ length c.args.boot.now.tasks = table_length (mapper c.args.boot.now (past_at c.args.entries.now c.args.i) c.args.o) (length c.args.boot.now.tasks) c.args.mappers.now c.requires.before in
    mixed_at (mapper c.args.boot.now (past_at c.args.entries.now c.args.i) c.args.o) (mapper c.args.boot.now (past_at c.args.entries.now (c.args.i + 1)) c.args.o) (length c.args.boot.now.tasks) c.loop-k.k c.loop-k.mappers c.index-mappers-k.result c.loop-k.invariant (omega arith) c.index-mappers-k.is

pub next_mapper-requires-clause-before : goal.next_mapper-requires-clause-before
next_mapper-requires-clause-before c =
    row c ∙ ap (mapper c.args.boot.now (past_at c.args.entries.now c.args.i) c.args.o) (sym (ap (λ (m : Mapper). m.task) (row c)))

pub loop-k-preserved : goal.loop-k-preserved
loop-k-preserved c =
    let r = row (goal.at.loop-k-preserved c).After-index-mappers-k in
    let l : length c.args.mappers.now ≡ length c.args.boot.now.tasks = table_length (mapper c.args.boot.now (past_at c.args.entries.now c.args.i) c.args.o) (length c.args.boot.now.tasks) c.args.mappers.now c.requires.before in
    mixed_step (mapper c.args.boot.now (past_at c.args.entries.now c.args.i) c.args.o) (mapper c.args.boot.now (past_at c.args.entries.now (c.args.i + 1)) c.args.o) (length c.args.boot.now.tasks) c.loop-k.k c.loop-k.mappers c.next_mapper.result c.loop-k.invariant (omega arith)
    (c.next_mapper.ensures ∙ ap (mapper c.args.boot.now (past_at c.args.entries.now (c.args.i + 1)) c.args.o) (ap (λ (m : Mapper). m.task) r))

pub returns : goal.returns
returns c =
    let l : length c.args.mappers.now ≡ length c.args.boot.now.tasks = table_length (mapper c.args.boot.now (past_at c.args.entries.now c.args.i) c.args.o) (length c.args.boot.now.tasks) c.args.mappers.now c.requires.before in
    mixed_all (mapper c.args.boot.now (past_at c.args.entries.now c.args.i) c.args.o) (mapper c.args.boot.now (past_at c.args.entries.now (c.args.i + 1)) c.args.o) (length c.args.boot.now.tasks) c.loop-k.k c.loop-k.mappers c.loop-k.invariant (omega arith)
