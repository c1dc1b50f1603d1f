-- The invariant of the groups after a change of their lists.
use Rattle.std.proofs.Common.{◌≡◌, ℕ, ◌+◌, [], length, map, replicate, refl, ap, ◌∙◌, arith}
use Rattle.std.proofs.lemmas.List.{get_or-map, get_or-replicate, length-map}
use Rattle.link_list.specs.KeyLists.{KeyLists, without}
use Rattle.volatile_groups.specs.Grouped.{IsKept}

-- no object in any group
pub IsKept-empty : IsKept (record { cap = 256; lists = replicate 24 [] })
IsKept-empty = record {
  cap = refl;
  count = refl;
  obsolete = λ group positive below. get_or-replicate 24 (0 + group) [] [] (omega arith);
}

-- an object is taken out
pub IsKept-without : (o : ℕ) (before after : KeyLists) → IsKept before → after.cap ≡ before.cap → after.lists ≡ map (without o) before.lists → IsKept after
IsKept-without o before after h cap lists = record {
  cap = cap ∙ h.cap;
  count = ap length lists ∙ length-map before.lists (without o) ∙ h.count;
  obsolete = λ group positive below.
      rw lists (get_or-map (without o) before.lists (0 + group) [] [] (omega (arith, h.count)) ∙ ap (without o) (h.obsolete group positive below));
}
