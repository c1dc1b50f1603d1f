-- What is left of a scenario's text.
use Rattle.std.specs.Prelude.{ℕ, ◌+◌, ◌≤◌, List, [], ◌∷◌, ◌++◌, length, map, codes}
use Rattle.std.specs.Fmt.{decimal}
use Rattle.line_text.specs.Cut.{text_of, spaced}
use Rattle.line_text.specs.Calls.{call_words}
use Rattle.scenario_text.specs.declared.stage.Stage.{Stage}
use Rattle.scenario_text.specs.declared.stage.Stage.TheVariants as stage
use Rattle.scenario_text.specs.Text.{system_words, task_lines, object_lines, thread_lines, last_lines, later_lines, scenario_text}

abbrev pub end_text : List ℕ
end_text = codes "end" ++ 10 ∷ []

abbrev pub text_left : Stage → List ℕ
text_left (stage.Head s) = scenario_text s.now
text_left (stage.System s) = text_of (system_words s.now.form s.now.boot.params ∷ (task_lines s.now.form 0 s.now.boot.tasks ++ later_lines s.now))
text_left (stage.Tasks s tasks n) = text_of (task_lines s.now.form n tasks.now ++ later_lines s.now)
text_left (stage.Objects s objects n) = text_of (object_lines n objects.now ++ (thread_lines 0 s.now.boot.sides s.now.scripts ++ last_lines s.now.order))
text_left (stage.Threads order sides scripts n) = text_of (thread_lines n sides.now scripts.now ++ last_lines order.now)
text_left (stage.Calls calls order sides scripts n) = text_of (map call_words calls.now ++ (thread_lines n sides.now scripts.now ++ last_lines order.now))
text_left (stage.Order order) = spaced (map decimal order.now) ++ 10 ∷ end_text
text_left stage.End = end_text
text_left stage.Closed = []

-- the things that are left have numbers in range
abbrev pub IsNumbered : Stage → Type 0
IsNumbered (stage.Tasks s tasks n) = n + length tasks.now ≤ 64
IsNumbered (stage.Objects s objects n) = n + length objects.now ≤ 256
IsNumbered (stage.Threads order sides scripts n) = n + length sides.now ≤ 32
IsNumbered (stage.Calls calls order sides scripts n) = n + length sides.now ≤ 32
IsNumbered _ = Unit {0}
