-- Why a line of more than 1,100 bytes is refused after the opening line: by the words of its first 1,100 bytes, whether a space and whether digits alone come after them.
use Rattle.std.specs.Prelude.{List, [], ◌∷◌, Bool, ◌&&◌, codes, if◌then◌else◌}
use Rattle.std.specs.Str.{bytes_eq}
use Rattle.kern_ids.specs.declared.faults.Why.{Why}
use Rattle.kern_ids.specs.declared.faults.Why.TheVariants as why
use Rattle.line_text.specs.Cut.{Word}
use Rattle.line_text.specs.Numbers.{is_plain}

-- a closing line has exactly two words; a second word as long as that counts wrongly
abbrev pub long_done : List Word → Bool → Bool → Why
long_done [] spaced digits = why.Word
long_done (w ∷ []) spaced digits = if spaced then why.Word else if digits && is_plain w then why.Count else why.Number
long_done (w ∷ v ∷ ws) spaced digits = why.Word

-- no entry is as long as that
abbrev pub long_fault : List Word → Bool → Bool → Why
long_fault [] spaced digits = why.Entry
long_fault (w ∷ ws) spaced digits = if bytes_eq w (codes "done") then long_done ws spaced digits else why.Entry
