use Rattle.std.proofs.Common.{◌+◌, ◌∷◌, [], get_or, ap, sym, ◌∙◌}
use Rattle.token_list.specs.Ring.{order}
use Rattle.token_list.proofs.LinkLemmas.{length-walk}
use Rattle.std.proofs.lemmas.List.{length-append, length-map}
use Rattle.token_list.proofs.slot_ring.SlotRing.len.Goals as goal

pub returns-clause-value : goal.returns-clause-value
returns-clause-value c = rw (← c.self.view_is) (sym (length-append (order c.self.inside) (256 ∷ []) ∙ ap (λ n. n + 1) (length-walk c.self.inside.used c.self.inside.next.value (get_or c.self.inside.next.value 256 0))))

pub returns-clause-numbers : goal.returns-clause-numbers
returns-clause-numbers c = rw (← c.self.view_is) (simp (length-map, length-append, length-walk))
