-- Which histories are those of a scenario.
use Rattle.std.specs.Prelude.{◌≡◌, ℕ, ◌<◌, List, length, map, filter, nat_eq}
use Rattle.std.specs.List.{AllByRecursion}
use Rattle.kern_ids.specs.declared.calls.Call.{Call}
use Rattle.kern_ids.specs.declared.entries.Entry.{Entry}
use Rattle.kernel_model.specs.Histories.{Legal}
use Rattle.kernel_model.specs.Scenario.{Plan, script}

-- the entries of thread n, in order
abbrev pub of_thread : ℕ → List Entry → List Entry
of_thread n h = filter (λ e. nat_eq e.who n) h

-- the calls of some entries
abbrev pub calls_of : List Entry → List Call
calls_of es = map (λ e. e.call) es

-- the turns that some entries are: each entry's thread and its call
abbrev pub turns_of : List Entry → List (ℕ × Call)
turns_of es = map (λ e. (e.who, e.call)) es

-- each thread of the history is declared, and its calls are its script: each once, and in order
pub record IsWhole (s : Plan) (h : List Entry) : Type 0 where
  pub declared : AllByRecursion (λ e. e.who < length s.scripts) h
  pub scripts : (n : ℕ) → n < length s.scripts → calls_of (of_thread n h) ≡ script s n

-- h is a history of the scenario: each reply is the answer over the entries before it, and each thread's calls are its script
abbrev pub IsRunOf : Plan → List Entry → Type 0
IsRunOf s h = Legal s.boot h × IsWhole s h
