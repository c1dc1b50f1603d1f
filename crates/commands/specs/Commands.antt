-- The lists of words that the program takes.
use Rattle.std.specs.Prelude.{ℕ, ◌<◌, ◌≤◌, ◌^◌, List, [], ◌∷◌, Bool, true, false, Option, Some, None, option_map, option_and_then, codes, if◌then◌else◌}
use Rattle.std.specs.Result.{result_ok}
use Rattle.std.specs.Str.{bytes_eq}
use Rattle.line_text.specs.Cut.{Word}
use Rattle.line_text.specs.Numbers.{number_in}
use Rattle.report_tables.specs.declared.report.Judging.TheVariants.{Check, Table, Json, Why}
use Rattle.commands.specs.declared.command.Rewriting.TheVariants.{Serial, Migrate}
use Rattle.commands.specs.declared.command.Reading.{Reading}
use Rattle.commands.specs.declared.command.Reading.TheVariants.{Rewrite, Judge}
use Rattle.commands.specs.declared.command.Making.{Making}
use Rattle.commands.specs.declared.command.Making.TheVariants.{Text, Trial}
use Rattle.commands.specs.declared.command.Command.{Command}
use Rattle.commands.specs.declared.command.Command.TheVariants.{Read, Make}

-- the command of a single word: what is done with what is read
abbrev pub named : Word → Option Reading
named word =
    if bytes_eq word (codes "serial") then Some (Rewrite Serial)
    else if bytes_eq word (codes "migrate") then Some (Rewrite Migrate)
    else if bytes_eq word (codes "check") then Some (Judge Check)
    else if bytes_eq word (codes "table") then Some (Judge Table)
    else if bytes_eq word (codes "json") then Some (Judge Json)
    else None

-- the first word of a command that makes a scenario
abbrev pub making_named : Word → Option Making
making_named word =
    if bytes_eq word (codes "make") then Some Text
    else if bytes_eq word (codes "trial") then Some Trial
    else None

-- a plain decimal of at most this
abbrev pub number_to : ℕ → Word → Option ℕ
number_to high word = result_ok (number_in 0 high word)

-- the command of such a word, a seed and a number of turns
abbrev pub made_by : Word → Word → Word → Option Command
made_by word seed n =
    option_and_then (λ making. option_and_then (λ s. option_map (λ k. Make making s k) (number_to 200000 n)) (number_to 2147483647 seed)) (making_named word)

-- the command of a word and the number of an entry
abbrev pub asked_why : Word → Word → Option Command
asked_why word n = if bytes_eq word (codes "why") then option_map (λ k. Read (Judge (Why k))) (number_to 4294967295 n) else None

-- the command that the words ask for
abbrev pub command_of : List Word → Option Command
command_of [] = None
command_of (word ∷ []) = option_map (λ r. Read r) (named word)
command_of (word ∷ n ∷ []) = asked_why word n
command_of (word ∷ seed ∷ n ∷ []) = made_by word seed n
command_of (word ∷ seed ∷ n ∷ other ∷ words) = None

-- the numbers of a command are in their ranges
abbrev pub IsInRange : Command → Type 0
IsInRange (Read r) = Unit {0}
IsInRange (Make making seed n) = (seed < 2 ^ 31) × (n ≤ 200000)

-- whether there is a command, and it reads
abbrev pub reads : Option Command → Bool
reads None = false
reads (Some (Read r)) = true
reads (Some (Make making seed n)) = false

-- whether the words ask for reading
abbrev pub asks_reading : List Word → Bool
asks_reading words = reads (command_of words)

-- the most bytes of input that a command reads: a scenario, or a scenario with a history
unfoldable pub limit_of : Reading → ℕ
limit_of (Rewrite rewriting) = 67108864
limit_of (Judge judging) = 268435456
