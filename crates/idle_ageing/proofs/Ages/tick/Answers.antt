use Rattle.std.proofs.Common.{inl, inr, ◌++◌, filter, length, sym, ap, ◌∙◌, arith}
use Rattle.std.proofs.lemmas.List.{length-append}
use Rattle.link_list.specs.KeyLists.{has, list_at}
use Rattle.link_list.proofs.Members.{has_append}
use Rattle.idle_ageing.specs.Ageing.{has_reached, counted, stopped}
use Rattle.idle_ageing.proofs.AgeingLemmas.{length-two_bands, length-filter_le, has_filter, reached_in, aged_lines, two_lines}
use Rattle.idle_ageing.proofs.Ages.tick.Goals as goal

pub list_reached-requires-clause-room : goal.list_reached-requires-clause-room
list_reached-requires-clause-room c =
    let two = length-two_bands c.args.b.now c.are_bands.ensures in
    let both = length-append (list_at c.args.b.now 1) (list_at c.args.b.now 2) in
    let none = ap length c.new-line.ensures in
    omega arith

pub list_reached-requires-2-clause-room : goal.list_reached-requires-2-clause-room
list_reached-requires-2-clause-room c =
    let two = length-two_bands c.args.b.now c.are_bands.ensures in
    let both = length-append (list_at c.args.b.now 1) (list_at c.args.b.now 2) in
    let kept = length-filter_le (has_reached c.count_up.new.self) (list_at c.args.b.now 1) in
    let line = ap length (c.list_reached.ensures ∙ ap (λ xs. xs ++ filter (has_reached c.count_up.new.self) (list_at c.args.b.now 1)) c.new-line.ensures) in
    omega arith

pub stop_all-requires : goal.stop_all-requires
stop_all-requires c = λ t m.
    let line = two_lines c.count_up.new.self c.args.b.now _ _ _ c.new-line.ensures c.list_reached.ensures c.list_reached-2.ensures in
    reached_in c.count_up.new.self t (elim (has_append t (filter (has_reached c.count_up.new.self) (list_at c.args.b.now 1)) (filter (has_reached c.count_up.new.self) (list_at c.args.b.now 2)) (sym (ap (has t) line) ∙ m)) [
      | inl e ↦ has_filter (has_reached c.count_up.new.self) t (list_at c.args.b.now 1) e
      | inr e ↦ has_filter (has_reached c.count_up.new.self) t (list_at c.args.b.now 2) e
    ])

pub returns-clause-aged : goal.returns-clause-aged
returns-clause-aged c =
    two_lines c.count_up.new.self c.args.b.now _ _ _ c.new-line.ensures c.list_reached.ensures c.list_reached-2.ensures
    ∙ ap (λ a. filter (has_reached a) (list_at c.args.b.now 1) ++ filter (has_reached a) (list_at c.args.b.now 2)) c.count_up.ensures
    ∙ aged_lines c.args.self.now c.args.b.now

pub returns-clause-counts : goal.returns-clause-counts
returns-clause-counts c =
    c.stop_all.ensures
    ∙ ap (λ a. stopped a c.list_reached-2.new.line) c.count_up.ensures
    ∙ ap (stopped (counted c.args.self.now)) (returns-clause-aged c)
