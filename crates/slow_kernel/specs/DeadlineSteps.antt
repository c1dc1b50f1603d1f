-- What is done with the lists of deadlines.
use Rattle.std.specs.Prelude.{ℕ, List, [], ◌∷◌, fold, filter, Bool, ◌&&◌, Option, Some, None, if◌then◌else◌}
use Rattle.std.specs.List.{range_with_len}
use Rattle.kern_ids.specs.declared.entries.Entry.{Entry}
use Rattle.kernel_model.specs.System.{System}
use Rattle.kernel_model.specs.Deadlines.{Deadlines, put_deadline, without_first}
use Rattle.kernel_model.specs.Groups.{volatile, standing}
use Rattle.slow_kernel.specs.Tables.{past_at, unmapped_at}

abbrev pub first_of : List ℕ → Option ℕ
first_of [] = None
first_of (x ∷ xs) = Some x

abbrev pub put_some : Option ℕ → List ℕ → List ℕ
put_some None xs = xs
put_some (Some x) xs = put_deadline x xs

-- o is VOLATILE before entry i, which unmaps it
abbrev pub leaves : System → List Entry → ℕ → ℕ → Bool
leaves boot h i o = volatile boot (past_at h i) o && unmapped_at boot h i o

-- without the first of its queue, if o leaves
unfoldable pub after_one : System → List Entry → ℕ → ℕ → Deadlines → Deadlines
after_one boot h i o d = if leaves boot h i o then without_first (standing (past_at h i) o).queue d else d

-- what the unmappings of entry i make of the lists, of the first n objects
unfoldable pub after_to : System → List Entry → ℕ → ℕ → Deadlines → Deadlines
after_to boot h i n d = fold (λ d' o. without_first (standing (past_at h i) o).queue d') d (filter (leaves boot h i) (range_with_len 0 n))
