use Rattle.std.proofs.Common.{ℕ, List, Option, None, length, get_or, ap, ◌∙◌, arith}
use Rattle.std.specs.Option.{option_map}
use Rattle.std.proofs.lemmas.List.FromFn.{fill_by_all}
use Rattle.idle_ageing.specs.Ageing.{one_more, counted}
use Rattle.idle_ageing.proofs.Ages.count_up.Goals as goal

pub returns : goal.returns
returns c =
    let old = c.self.inside in
    let counts = fill_by_all (λ t. option_map (one_more (get_or old.delays.items t 0)) (get_or old.counts.items t None)) c.loop-t.self-inside.counts.items (length old.counts.items) None c.loop-t.invariant.1 (λ k lt. c.loop-t.invariant.2 k (omega arith)) in
    ap (λ (ds : List ℕ). record { delays = ds; counts = c.loop-t.self-inside.counts.items }) c.loop-t.invariant.0
    ∙ ap (λ (cs : List (Option ℕ)). record { delays = old.delays.items; counts = cs }) counts
    ∙ ap counted c.self.view_is
