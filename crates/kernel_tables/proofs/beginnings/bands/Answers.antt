use Rattle.std.proofs.Common.{◌≡◌, ℕ, ◌+◌, ◌<◌, List, [], length, filter, replicate, get_or, Some, slice_get, sym, ap, ap₂, ◌∙◌, subst, rules, arith}
use Rattle.std.specs.List.{range_with_len}
use Rattle.std.proofs.lemmas.Option.{slice_get-get_or}
use Rattle.link_list.specs.KeyLists.{list_at}
use Rattle.priority_bands.specs.Banded.{placed}
use Rattle.kernel_tables.specs.Start.{begins_in, first_band}
use Rattle.kernel_tables.proofs.Lists.{get_or-same, bands-more}
use Rattle.kernel_tables.proofs.beginnings.bands.Goals as goal

pub loop-i-init : goal.loop-i-init
loop-i-init c = λ b l. ap (λ bs. list_at bs b) c.in_ok-bands.ensures ∙ get_or-same {A = List ℕ} 21 b []

pub loop-i-preserved : goal.loop-i-preserved
loop-i-preserved c =
    let task = c.index-tasks-i.result in
    let is : slice_get c.args.tasks.now c.loop-i.i ≡ Some task = slice_get-get_or c.args.tasks.now c.loop-i.i task c.loop-i-test.true ∙ ap Some (sym c.index-tasks-i.is) in
    let same : c.unwrap-t.result ≡ c.loop-i.i = search rules in
    let small : first_band task < 21 = subst (λ (n : ℕ). n < 21) c.first_band.ensures (search rules) in
    λ b l. ap (λ bs. list_at bs b) (c.place.ensures ∙ ap₂ (λ t n. placed c.loop-i.bands t n) same c.first_band.ensures)
    ∙ bands-more c.args.tasks.now c.loop-i.bands c.loop-i.i task is c.are_bands.ensures.count small c.loop-i.invariant b l

pub returns-clause-each : goal.returns-clause-each
returns-clause-each c =
    let end : c.loop-i.i ≡ length c.args.tasks.now = omega (arith, c.loop-i-test.false, c.loop-i.auto.i-end) in
    λ b l. c.loop-i.invariant b l ∙ ap (λ n. filter (begins_in c.args.tasks.now b) (range_with_len 0 n)) end
