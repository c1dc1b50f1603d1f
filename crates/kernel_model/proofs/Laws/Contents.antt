use Rattle.std.proofs.Common.{◌≡◌, ℕ, List, [], ◌∷◌, refl}
use Rattle.kern_ids.specs.declared.entries.Entry.{Entry}
use Rattle.kernel_model.specs.Contents.{byte, next_byte}
use Rattle.kernel_model.specs.State.{state}
use Rattle.kernel_model.specs.Newest.{newest}

-- the bytes after one entry more
pub byte-more : (e : Entry) (before : List Entry) (o b : ℕ) → byte (e ∷ before) o b ≡ next_byte (state before o) o b (byte before o b) e
unfolding byte newest next_byte
byte-more e before o b = refl

pub byte-none : (o b : ℕ) → byte [] o b ≡ 0
unfolding byte newest
byte-none o b = refl
