-- A walk along the links gives the list that they run through.
use Rattle.std.proofs.Common.{◌≡◌, ℕ, true, false, ◌<◌, ◌≤◌, zero, suc, List, [], ◌∷◌, length, get_or, refl, ap, arith, eqb}
use Rattle.std.specs.List.{IsDistinct, AllByRecursion}
use Rattle.std.proofs.lemmas.Bool.{lt-ltb, le-ltb}
use Rattle.std.proofs.lemmas.Map.Keys.{IsDistinct-cons}
use Rattle.std.proofs.lemmas.Map.Steps.{length-le_from_distinct_below}
use Rattle.link_list.specs.KeyLists.{has, IsOnce}
use Rattle.link_list.specs.Linked.{Runs, walk}
use Rattle.link_list.proofs.Members.{has_at_head, has_in_rest}
use Rattle.std.proofs.lemmas.Bool.{or_parts}

each_apart : (key : ℕ) (xs : List ℕ) → has key xs ≡ false → AllByRecursion (λ y. eqb key y ≡ false) xs
each_apart key [] h = tt
each_apart key (x ∷ xs) h = let p = or_parts (eqb key x) (has key xs) h in (p.0, each_apart key xs p.1)

distinct_from_once : (xs : List ℕ) → IsOnce xs → IsDistinct eqb xs
unfolding IsDistinct
distinct_from_once [] o = tt
distinct_from_once (x ∷ xs) o = IsDistinct-cons eqb x xs (each_apart x xs o.0) (distinct_from_once xs o.1)

pub length_le_cap : (cap : ℕ) (xs : List ℕ) → IsOnce xs → ((x : ℕ) → has x xs ≡ true → x < cap) → length xs ≤ cap
length_le_cap cap xs o b = length-le_from_distinct_below xs cap (distinct_from_once xs o) b

pub walk_runs : (next prev : List ℕ) (cap most a : ℕ) (xs : List ℕ) (z : ℕ) → Runs next prev a xs z → ((x : ℕ) → has x xs ≡ true → x < cap) → cap ≤ z → length xs ≤ most → walk next cap most (get_or next a 0) ≡ xs
walk_runs next prev cap zero a [] z r b cz l = refl
walk_runs next prev cap (suc most) a [] z r b cz l = rw (r.0, le-ltb z cap cz) refl
walk_runs next prev cap zero a (x ∷ xs) z r b cz l = absurd (omega arith)
walk_runs next prev cap (suc most) a (x ∷ xs) z r b cz l =
    rw (r.0, lt-ltb x cap (b x (has_at_head x x xs refl))) (ap (λ ys. x ∷ ys) (walk_runs next prev cap most x xs z r.2 (λ y m. b y (has_in_rest y x xs m)) cz (omega arith)))
