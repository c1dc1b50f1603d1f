-- How the check of an input ends, from how it was begun and fed.
use Rattle.std.proofs.Common.{◌≡◌, ◌≤◌, ◌+◌, ◌++◌, ℕ, List, [], length, drop, Option, Some, None, Result, Ok, Err, refl, sym, ap, ◌∙◌, subst, arith, length-append, append-nil}
use Rattle.std.proofs.lemmas.List.{drop-append-le}
use Rattle.std.specs.Io.KnownBytes.{Consumes, IsAtEnd}
use Rattle.std.proofs.KnownBytes.{Consumes-trans}
use Rattle.edge.specs.Ends.{ReadWhole}
use Rattle.edge.specs.declared.reading.InputFault.{InputFault}
use Rattle.kern_ids.specs.declared.faults.Why.{Why}
use Rattle.kernel_model.specs.Scenario.{Plan}
use Rattle.history_text.specs.HistoryReading.{history_of}
use Rattle.scenario_text.specs.Fronts.{front_taken}
use Rattle.scenario_text.proofs.FrontLaws.{front-stays}
use Rattle.replay_check.specs.declared.end.PieceEnd.{PieceEnd}
use Rattle.replay_check.specs.declared.end.PieceEnd.TheVariants.{Bad}
use Rattle.replay_check.specs.Pieces.{CheckView, end_of}
use Rattle.commands.specs.Openings.{IsBad}
use Rattle.commands.specs.Stops.{Stops}
use Rattle.commands.proofs.Stopped.{stops-behind}
use Rattle.commands.specs.Checks.{IsBegun, IsEnded, IsChecked, ended_by, check_of}

read_whole : (old new : Option (List ℕ)) (bytes : List ℕ) → Consumes old new bytes → IsAtEnd new → ReadWhole old new bytes
read_whole None new bytes took whole = tt
read_whole (Some xs) None bytes took whole = absurd took
read_whole (Some xs) (Some ys) bytes took whole = (sym (append-nil bytes) ∙ ap (λ (l : List ℕ). bytes ++ l) (sym whole) ∙ sym took, ap (λ (l : List ℕ). Some l) whole)

check_behind : (bytes more : List ℕ) (s : Plan) (taken lines : ℕ) → front_taken bytes ≡ Ok (s, taken, lines) → taken ≤ length bytes
    → check_of (bytes ++ more) ≡ end_of s (history_of (lines + 1) (drop taken bytes ++ more))
check_behind bytes more s taken lines front within =
    ap (ended_by (bytes ++ more)) (front-stays bytes more (s, taken, lines) front) ∙ ap (λ (rest : List ℕ). end_of s (history_of (lines + 1) rest)) (drop-append-le taken bytes more within)

-- an input that begins with a scenario
pub found-behind : (check : CheckView) (room limit : ℕ) (found : PieceEnd) (old mid new : Option (List ℕ)) → IsBegun check room old mid limit → IsEnded check found mid new room → IsChecked old new limit found
found-behind check room limit found old mid new b e =
    let count = b.count in
    let few = e.few in
    record {
      bytes = b.bytes ++ e.rest;
      few = omega (arith, count, few, length-append b.bytes e.rest);
      whole = read_whole old new (b.bytes ++ e.rest) (Consumes-trans old mid new b.bytes e.rest b.took e.took) e.whole;
      ends = e.ends b.plan (b.lines + 1) (drop b.taken b.bytes) b.stands ∙ sym (check_behind b.bytes e.rest b.plan b.taken b.lines b.front b.within);
    }

-- an input that begins with none
pub found-bad : (line : ℕ) (why : Why) (old new : Option (List ℕ)) (limit : ℕ) → IsBad line why old new limit → IsChecked old new limit (Bad line why)
found-bad line why old new limit b = record {
  bytes = b.bytes;
  few = b.few;
  whole = read_whole old new b.bytes b.took b.whole;
  ends = sym (ap (ended_by b.bytes) b.fault);
}

-- the rest was not read on behind a check that was begun
pub begun-stops : (e : InputFault) (check : CheckView) (room limit : ℕ) (old mid new : Option (List ℕ)) (before between after : ℕ) → IsBegun check room old mid limit → before ≤ between
    → Stops e mid new between after room → Stops e old new before after limit
begun-stops e check room limit old mid new before between after b grows stops = stops-behind e old mid new before between after room limit b.bytes b.took b.count grows stops
