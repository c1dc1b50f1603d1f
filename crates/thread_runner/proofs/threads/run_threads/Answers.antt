use Rattle.std.proofs.Common.{◌≡◌, length, sym, ◌∙◌, subst, rules}
use Rattle.std.proofs.lemmas.List.Elements.{All-from_recursion}
use Rattle.turn_lock.specs.Passes.{IsNewPassOf}
use Rattle.kernel_shared.specs.Calls.{KernelPass, pass_count}
use Rattle.thread_runner.proofs.Joining.{whole-history}
use Rattle.thread_runner.proofs.threads.run_threads.Goals as goal

pub passes_of-requires : goal.passes_of-requires
passes_of-requires g c = All-from_recursion (λ (p : KernelPass). IsNewPassOf c.in_ok-kernel.kernel p) c.in_ok-kernel.list c.in_ok-kernel.ensures.passes.1

pub map_vec-requires-after_bounds : goal.map_vec-requires-after_bounds
map_vec-requires-after_bounds g c = λ _ _ i x l e.
    (c.in_ok-kernel.ensures.kernel.0 ∙ search rules, subst (λ (p : KernelPass). IsNewPassOf c.in_ok-kernel.kernel p) (sym e) (c.in_ok-passes.ensures.new i x l))

pub returns-clause-whole : goal.returns-clause-whole
returns-clause-whole g c =
    let s = c.args.s.now in
    let t = c.in_ok-kernel.kernel in
    let base : t.base ≡ s.boot = search rules in
    let passes : t.passes ≡ pass_count s.boot.sides = search rules in
    let count : length c.in-Ok.finished.items ≡ t.passes = search rules in
    whole-history s t c.in_ok-pass.pass c.close.result.list (length c.in-Ok.finished.items) c.valid.ensures base passes count c.in_ok-pass.ensures c.close.ensures.legal c.close.ensures.lists
