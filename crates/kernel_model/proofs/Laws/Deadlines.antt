use Rattle.std.proofs.Common.{◌≡◌, List, ◌∷◌, refl}
use Rattle.kern_ids.specs.declared.entries.Entry.{Entry}
use Rattle.kernel_model.specs.System.{System}
use Rattle.kernel_model.specs.Deadlines.{deadlines, changed}

pub deadlines-more : (boot : System) (e : Entry) (before : List Entry) → deadlines boot (e ∷ before) ≡ changed boot before e (deadlines boot before)
unfolding deadlines
deadlines-more boot e before = refl
