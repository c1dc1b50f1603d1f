use Rattle.std.proofs.Common.{◌≡◌, ℕ, ◌+◌, List, ap, ◌∙◌, arith}
use Rattle.std.specs.List.{range_with_len}
use Rattle.std.proofs.lemmas.Grind.{common_steps}
use Rattle.link_list.specs.Linked.{lists_of}
use Rattle.link_list.proofs.LinkedSteps.{lists_of_linked, linked_walks, linked_new}
use Rattle.link_list.proofs.Lists.new.Goals as goal

-- the arrays as they were made
pub invariant_of-result : goal.invariant_of-result
invariant_of-result g c =
    let size : c.in_ok-size.size ≡ c.args.cap + g.row.N = grind (arith, common_steps) in
    rw (c.in_ok-count_up.ensures, c.in_ok-count_up-2.ensures, c.in_ok-owner_marks.ensures, size) (linked_walks (linked_new g.row.N c.args.cap))

pub returns : goal.returns
returns g c =
    let size : c.in_ok-size.size ≡ c.args.cap + g.row.N = grind (arith, common_steps) in
    let links : c.in_ok-count_up.field-0.items ≡ range_with_len 0 (c.args.cap + g.row.N) = rw (← size) c.in_ok-count_up.ensures in
    ap (λ (ls : List (List ℕ)). record { cap = c.args.cap; lists = ls }) (ap (λ xs. lists_of g.row.N xs c.args.cap) links ∙ lists_of_linked (linked_new g.row.N c.args.cap))
