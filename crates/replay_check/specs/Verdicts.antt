-- The verdict on a history of a scenario.
use Rattle.std.specs.Prelude.{◌≡◌, ℕ, ◌<◌, List, ◌++◌, length, take, reverse, Bool, true, false, ◌&&◌, Option, Some, None, nat_lt, slice_get}
use Rattle.std.specs.Option.{option_map_or, option_and_then, unwrap_or}
use Rattle.std.specs.List.{range_with_len, AllByRecursion}
use Rattle.kern_ids.specs.declared.entries.Entry.{Entry}
use Rattle.kern_ids.specs.declared.calls.Call.{Call}
use Rattle.kern_ids.specs.declared.replies.Reply.{Reply}
use Rattle.kernel_model.specs.Answers.{answer}
use Rattle.kernel_model.specs.Histories as histories
use Rattle.kernel_model.specs.Lists.{first_some, some_if}
use Rattle.kernel_model.specs.Scenario.{Plan, script}
use Rattle.kernel_model.specs.Whole.{calls_of, of_thread}
use Rattle.replay_check.specs.declared.verdicts.Verdict.{Verdict}
use Rattle.replay_check.specs.declared.verdicts.Verdict.TheVariants.{Legal, WrongReply, WrongCall, Missing}
use Rattle.replay_check.specs.Same.{same_call, same_reply}

-- thread n is declared, and call k of its script is this one
unfoldable pub is_call_at : Plan → ℕ → Call → ℕ → Bool
is_call_at s n call k = nat_lt n (length s.scripts) && option_map_or (same_call call) (slice_get (script s n) k) false

-- the thread of an entry after these is declared, and its call is the next of its script
abbrev pub is_next : Plan → List Entry → Entry → Bool
is_next s before e = is_call_at s e.who e.call (length (of_thread e.who before))

-- what the kernel answers to the call of an entry after these
abbrev pub reply_due : Plan → List Entry → Entry → Reply
reply_due s before e = answer s.boot (reverse before) e.who e.call

-- what is wrong at a place: first whether the call is right, then whether the reply is
abbrev pub judged : Bool → Bool → ℕ → Reply → Option Verdict
judged false reply_right place due = Some (WrongCall place)
judged true false place due = Some (WrongReply place due)
judged true true place due = None

-- what is wrong with an entry after these
unfoldable pub entry_fault : Plan → List Entry → Entry → Option Verdict
entry_fault s before e = judged (is_next s before e) (same_reply e.reply (reply_due s before e)) (length before) (reply_due s before e)

-- what is wrong at place n
abbrev pub fault_at : Plan → List Entry → ℕ → Option Verdict
fault_at s h n = option_and_then (entry_fault s (take n h)) (slice_get h n)

-- what is wrong at the first wrong place
unfoldable pub first_fault : Plan → List Entry → Option Verdict
first_fault s h = first_some (fault_at s h) (range_with_len 0 (length h))

-- a thread that has made so many calls has more in its script
abbrev pub has_more : Plan → ℕ → ℕ → Bool
has_more s n made = nat_lt made (length (script s n))

-- the least thread whose script isn't spent
unfoldable pub unspent : Plan → List Entry → Option ℕ
unspent s h = first_some (λ n. some_if (has_more s n (length (of_thread n h))) n) (range_with_len 0 (length s.scripts))

-- what is wrong at the first wrong place; where no place is wrong, the least thread whose script isn't spent
unfoldable pub verdict_of : Plan → List Entry → Verdict
verdict_of s h = unwrap_or (first_fault s h) (option_map_or Missing (unspent s h) Legal)

-- the script begins with these calls
abbrev pub AreFirst : List Call → List Call → Type 0
AreFirst calls whole = (rest : List Call) × (whole ≡ calls ++ rest)

-- each thread of the history is declared, and its script begins with its calls
pub record IsBegun (s : Plan) (h : List Entry) : Type 0 where
  pub declared : AllByRecursion (λ e. e.who < length s.scripts) h
  pub scripts : (n : ℕ) → n < length s.scripts → AreFirst (calls_of (of_thread n h)) (script s n)

-- the verdict says that place n is wrong
abbrev pub IsFaultAt : ℕ → Verdict → Type 0
IsFaultAt n (WrongCall place) = place ≡ n
IsFaultAt n (WrongReply place due) = place ≡ n
IsFaultAt n _ = ⊥

-- place n is the first that is wrong, and this is wrong there: the entries before it are legal, and scripts begin with their calls
pub record IsFirstWrong (s : Plan) (h : List Entry) (n : ℕ) (v : Verdict) : Type 0 where
  pub within : n < length h
  pub wrong : fault_at s h n ≡ Some v
  pub legal : histories.Legal s.boot (take n h)
  pub begun : IsBegun s (take n h)

-- no place is wrong, the script of thread n isn't spent, and those of the threads before it are
pub record IsFirstUnspent (s : Plan) (h : List Entry) (n : ℕ) : Type 0 where
  pub legal : histories.Legal s.boot h
  pub begun : IsBegun s h
  pub declared : n < length s.scripts
  pub more : length (of_thread n h) < length (script s n)
  pub spent : (m : ℕ) → m < n → calls_of (of_thread m h) ≡ script s m
