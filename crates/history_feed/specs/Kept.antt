-- What is kept of a line: a fixed number of its bytes, and facts on the others.
use Rattle.std.specs.Prelude.{ℕ, List, length, take, drop, ◌==◌}
use Rattle.std.specs.List.{list_any, list_all}
use Rattle.std.specs.Char.{is_ascii_digit}
use Rattle.history_feed.specs.declared.kept_line.KeptLine.{KeptLine}

-- its first 1,100 bytes, its length, and of the bytes after them whether one is a space and whether all are digits
unfoldable pub kept_of : List ℕ → KeptLine
kept_of line = record { head = take 1100 line; len = length line; spaced = list_any (λ b. b == 32) (drop 1100 line); digits = list_all is_ascii_digit (drop 1100 line) }
