use Rattle.std.proofs.Common.{ℕ, ◌≤◌, inl, inr, length, get_or, refl, arith}
use Rattle.std.proofs.lemmas.List.{get_or_past}
use Rattle.std.proofs.lemmas.Bool.{cases_lt}
use Rattle.page_queues.proofs.KeptLemmas.{kept_new}
use Rattle.page_queues.proofs.PageQueues.new.Goals as goal

pub invariant_of-result : goal.invariant_of-result
invariant_of-result c =
    let small : (o : ℕ) → get_or c.args.sizes.now o 0 ≤ 256 = λ (o : ℕ). elim (cases_lt o (length c.args.sizes.now)) [
      | inl lt ↦ c.requires.pages o 0 lt
      | inr past ↦ let none = get_or_past c.args.sizes.now o 0 past in omega arith
    ] in
    rw (c.in_ok-new.ensures, c.in_ok-copied.ensures, c.in_ok-all_false.ensures) (kept_new c.args.frames (length c.args.sizes.now) c.args.sizes.now c.requires.objects refl small)
