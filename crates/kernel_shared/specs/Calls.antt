-- What a call does to a pass.
use Rattle.std.specs.Prelude.{◌≡◌, ℕ, List, [], ◌∷◌, ◌++◌, length, if◌then◌else◌, nat_eq}
use Rattle.kern_ids.specs.declared.entries.Entry.{Entry}
use Rattle.kern_ids.specs.declared.calls.Call.{Call}
use Rattle.kern_ids.specs.declared.replies.Reply.{Reply}
use Rattle.kernel_model.specs.System.{System}
use Rattle.kernel_model.specs.Histories.{Legal}
use Rattle.turn_lock.specs.Histories.{StartsWith, entries_of}
use Rattle.turn_lock.specs.Passes.{TableView, PassView, IsPassOf, HoldsNothing}

-- the bytes of an object, as a list of the places whose byte isn't 0
abbrev pub Bytes : Type 0
Bytes = List (ℕ × ℕ)

abbrev pub KernelTable : Type 0
KernelTable = TableView System

abbrev pub KernelPass : Type 0
KernelPass = PassView System Entry Bytes

-- a pass of the kernel that holds nothing
abbrev pub IsIdleOf : KernelTable → KernelPass → Type 0
IsIdleOf t p = IsPassOf t p × HoldsNothing p

-- what no call changes: whose pass it is, its number, and what it keeps of the passes that were joined into it
pub record IsSamePass (t : KernelTable) (old new : KernelPass) : Type 0 where
  pub idle : IsIdleOf t new
  pub number : new.number ≡ old.number
  pub others : new.others ≡ old.others
  pub seen : StartsWith new.seen old.seen

-- the entry of a call of the pass
abbrev pub entry_of : KernelPass → Call → Reply → Entry
entry_of p call reply = record { who = p.number; call = call; reply = reply }

-- after the call: a legal history that begins with all that the pass had seen, and ends with the entry of this call
pub record HasMade (t : KernelTable) (old new : KernelPass) (call : Call) (reply : Reply) : Type 0 where
  pub before : List Entry
  pub starts : StartsWith before old.seen
  pub seen : new.seen ≡ before ++ entry_of old call reply ∷ []
  pub mine : new.mine ≡ old.mine ++ entry_of old call reply ∷ []
  pub legal : Legal t.base new.seen

-- what the pass has seen of its own number is just what it made
abbrev pub KnowsOwn : KernelPass → Type 0
KnowsOwn p = entries_of (λ e. e.who) p.number p.seen ≡ p.mine

-- how many passes a kernel has: one a thread, and at least one
abbrev pub pass_count : List Rattle.kernel_model.specs.declared.boot.Side.Side → ℕ
pass_count sides = if nat_eq (length sides) 0 then 1 else length sides
