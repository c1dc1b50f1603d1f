use Rattle.std.proofs.Common.{◌≡◌, ℕ, List, ◌∷◌, refl}
use Rattle.std.specs.Option.{unwrap_or}
use Rattle.kern_ids.specs.declared.entries.Entry.{Entry}
use Rattle.kernel_model.specs.Groups.{standing, says_standing}
use Rattle.kernel_model.specs.Newest.{newest}

pub standing-more : (e : Entry) (before : List Entry) (o : ℕ) → standing (e ∷ before) o ≡ unwrap_or (says_standing o before (standing before o) e) (standing before o)
unfolding standing newest
standing-more e before o = refl
