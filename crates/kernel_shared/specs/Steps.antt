-- What the parts of a call do to a pass.
use Rattle.std.specs.Prelude.{◌≡◌, ℕ, ◌<◌, length, false, List, [], ◌∷◌, ◌++◌, reverse, Option, Some, None}
use Rattle.kern_ids.specs.declared.entries.Entry.{Entry}
use Rattle.kern_ids.specs.declared.calls.Call.{Call}
use Rattle.kern_ids.specs.declared.replies.Reply.{Reply}
use Rattle.kernel_model.specs.System.{System}
use Rattle.kernel_model.specs.Answers.{answer}
use Rattle.kernel_model.specs.Histories.{Legal}
use Rattle.kernel_shared.specs.declared.shared.Look.{Look}
use Rattle.kernel_shared.specs.declared.shared.Look.TheVariants.{Made, Needs}
use Rattle.kernel_core.specs.Bodies.{content}
use Rattle.kernel_core.specs.Touches.{NeedsAtMost, named_number}
use Rattle.kernel_shared.specs.Calls.{Bytes, KernelTable, KernelPass, HasMade, entry_of}

-- the bytes that the call needs are those of the object that is held
abbrev pub MayTouch : Option ℕ → Option (ℕ × Bytes) → Type 0
MayTouch None object = Unit {0}
MayTouch (Some o) object = (c : Bytes) × (object ≡ Some (o, c))

-- a held object, with its bytes after the history h
abbrev pub held_after : List Entry → Option (ℕ × Bytes) → Option (ℕ × Bytes)
held_after h None = None
held_after h (Some o) = Some (o.0, content h o.0)

-- the turn was left with the entry of this call, and the history is legal
pub record IsEntryMade (boot : System) (old new : KernelPass) (call : Call) (reply : Reply) : Type 0 where
  pub answered : reply ≡ answer boot (reverse old.seen) old.number call
  pub seen : new.seen ≡ old.seen ++ entry_of old call reply ∷ []
  pub mine : new.mine ≡ old.mine ++ entry_of old call reply ∷ []
  pub legal : Legal boot new.seen
  pub object : new.object ≡ held_after new.seen old.object
  pub same : new ≡ record old { seen = new.seen; mine = new.mine; turn = false; object = new.object }

-- an object that the call may want is declared, and is the one that it names if it names one
abbrev pub IsWanted : System → Call → Option ℕ → Type 0
IsWanted boot call None = Unit {0}
IsWanted boot call (Some o) = (o < length boot.objects) × NeedsAtMost o (named_number call)

-- the entry was made, or the call needs an object that is declared, which is the one that it names if it names one
abbrev pub IsLooked : KernelTable → KernelPass → KernelPass → Call → Look → Type 0
IsLooked t old new call (Made reply) = HasMade t old new call reply
IsLooked t old new call (Needs o) = (new.mine ≡ old.mine) × IsWanted t.base call (Some o)

-- the entry was made, or none was
abbrev pub IsTried : KernelTable → KernelPass → KernelPass → Call → Option Reply → Type 0
IsTried t old new call None = new.mine ≡ old.mine
IsTried t old new call (Some reply) = HasMade t old new call reply
