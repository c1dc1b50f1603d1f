-- What a Read is given.
use Rattle.std.specs.Prelude.{◌≡◌, ℕ, List, false, map}
use Rattle.std.specs.List.{range_with_len}
use Rattle.kern_ids.specs.declared.entries.Entry.{Entry}
use Rattle.kern_ids.specs.declared.calls.Call.{Call}
use Rattle.kern_ids.specs.declared.calls.Call.TheVariants.{Read}
use Rattle.kernel_model.specs.System.{System}
use Rattle.kernel_model.specs.Answers.{bad_range}
use Rattle.kernel_model.specs.Contents.{byte}

-- the bytes that were seen are those that the history, newest first, gives to the object of a Read, where its range is in the object
abbrev pub SeesBytes : System → List Entry → Call → List ℕ → Type 0
SeesBytes boot past (Read o off len) seen = bad_range boot o off len ≡ false → seen ≡ map (byte past o) (range_with_len off len)
SeesBytes boot past _ seen = Unit {0}
