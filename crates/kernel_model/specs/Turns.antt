-- The calls of a scenario in the order of its turns, and its one serial history.
use Rattle.std.specs.Prelude.{ℕ, ◌+◌, List, [], ◌∷◌, ◌++◌, map, reverse, drop, Option, Some, None, slice_get, slice_index_or, slice_set}
use Rattle.kern_ids.specs.declared.entries.Entry.{Entry}
use Rattle.kern_ids.specs.declared.calls.Call.{Call}
use Rattle.kernel_model.specs.System.{System}
use Rattle.kernel_model.specs.Answers.{answer}
use Rattle.kernel_model.specs.Scenario.{Plan}

-- all calls of the scripts, by rising thread number from n on
abbrev pub rest_turns : ℕ → List (List Call) → List (ℕ × Call)
rest_turns n [] = []
rest_turns n (script ∷ scripts) = map (λ call. (n, call)) script ++ rest_turns (n + 1) scripts

-- the next call of thread n
abbrev pub next_call : List (List Call) → ℕ → Option Call
next_call scripts n = slice_get (slice_index_or scripts n []) 0

-- the scripts once thread n has made its next call
abbrev pub after_turn : List (List Call) → ℕ → List (List Call)
after_turn scripts n = slice_set scripts n (drop 1 (slice_index_or scripts n []))

-- for each word of the order that thread's next call, if it has one, and then all calls that are left
unfoldable pub turns_from : List ℕ → List (List Call) → List (ℕ × Call)
turns_from [] scripts = rest_turns 0 scripts
turns_from (n ∷ order) scripts = elim (next_call scripts n) [
  | Some call ↦ (n, call) ∷ turns_from order (after_turn scripts n)
  | None ↦ turns_from order scripts
]

abbrev pub turns : Plan → List (ℕ × Call)
turns s = turns_from s.order s.scripts

-- the entry of a call that is answered after these entries, newest first
abbrev pub answered : System → List Entry → ℕ × Call → Entry
answered boot past turn = record { who = turn.0; call = turn.1; reply = answer boot past turn.0 turn.1 }

-- the history, newest first, once these turns are taken too
unfoldable pub run_from : System → List Entry → List (ℕ × Call) → List Entry
run_from boot past [] = past
run_from boot past (turn ∷ rest) = run_from boot (answered boot past turn ∷ past) rest

-- the history of the turns, each answered over the entries before it
abbrev pub serial : Plan → List Entry
serial s = reverse (run_from s.boot [] (turns s))
