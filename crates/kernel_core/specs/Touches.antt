-- Which objects an entry touches, and what a call does to the bytes of the object that it needs.
use Rattle.std.specs.Prelude.{◌≡◌, ◌<◌, length, ℕ, List, [], ◌∷◌, ◌++◌, Bool, false, ◌&&◌, not, if◌then◌else◌, is_some, Option, Some, None}
use Rattle.std.specs.Option.{option_map_or}
use Rattle.kern_ids.specs.declared.entries.Entry.{Entry}
use Rattle.kern_ids.specs.declared.calls.Call.{Call}
use Rattle.kern_ids.specs.declared.calls.Call.TheVariants.{Map, Write, SetState}
use Rattle.kern_ids.specs.declared.replies.Reply.{Reply}
use Rattle.kern_ids.specs.declared.replies.Reply.TheVariants.{Old}
use Rattle.kern_ids.specs.StateWord.{decoded}
use Rattle.kernel_model.specs.Contents.{is_ask_empty}
use Rattle.kernel_model.specs.Events.{is_reply, purged_by}
use Rattle.kernel_model.specs.State.{is_empty}
use Rattle.kernel_core.specs.declared.need.Need.{Need}
use Rattle.kernel_core.specs.declared.need.Need.TheVariants.{Nothing, Bytes}
use Rattle.kernel_core.specs.Need.{named, need}
use Rattle.kernel_model.specs.System.{System}
use Rattle.page_store.specs.Contents.{overwritten}

-- the number of the object that is needed
abbrev pub number_of : Need → Option ℕ
number_of Nothing = None
number_of (Bytes o) = Some o

-- the object whose bytes the call names
abbrev pub named_number : Call → Option ℕ
named_number call = number_of (named call)

-- the object whose bytes the call needs after these entries
abbrev pub needed_number : System → List Entry → ℕ → Call → Option ℕ
needed_number boot past who call = number_of (need boot past who call)

abbrev pub objects_in : Option ℕ → List ℕ
objects_in None = []
objects_in (Some o) = o ∷ []

-- the object whose bytes the call names, and the one that the reply purges
abbrev pub touched : Entry → List ℕ
touched e = objects_in (named_number e.call) ++ objects_in (purged_by e.reply)

-- no object is needed but o
abbrev pub NeedsAtMost : ℕ → Option ℕ → Type 0
NeedsAtMost o None = Unit {0}
NeedsAtMost o (Some x) = x ≡ o

-- the reply says that the object wasn't EMPTY
abbrev pub wasnt_empty : Reply → Bool
wasnt_empty (Old state) = not (is_empty state)
wasnt_empty _ = false

-- the bytes of the object that the call needs, after the call with this reply: an accepted Map, an emptying and a purge leave none, an accepted Write its own over the old ones
abbrev pub bytes_left : Call → Reply → List (ℕ × ℕ) → List (ℕ × ℕ)
bytes_left (Map o) reply old = if is_reply reply then [] else old
bytes_left (Write o off bytes) reply old = if is_reply reply then overwritten old off bytes else old
bytes_left (SetState o word) reply old = if option_map_or is_ask_empty (decoded word) false && wasnt_empty reply then [] else old
bytes_left call reply old = if is_some (purged_by reply) then [] else old

-- an object that is needed is declared
abbrev pub IsDeclared : System → Option ℕ → Type 0
IsDeclared boot None = Unit {0}
IsDeclared boot (Some o) = o < length boot.objects
