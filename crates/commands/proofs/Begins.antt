-- A check that is begun with the bytes behind a scenario.
use Rattle.std.proofs.Common.{◌≡◌, ◌≤◌, ◌<◌, ◌+◌, ◌-◌, ◌++◌, ◌^◌, ℕ, List, [], ◌∷◌, length, take, drop, Option, sym, ap, subst, arith, zero-le, length-append, length-drop}
use Rattle.std.proofs.lemmas.List.{length-take, take_rest}
use Rattle.kernel_model.specs.Scenario.{Plan}
use Rattle.line_text.specs.Cut.{Word, line_of, text_of}
use Rattle.scenario_text.specs.Text.{scenario_text, scenario_lines}
use Rattle.replay_check.specs.Pieces.{CheckView, HasRoom, StandsFor}
use Rattle.commands.specs.Openings.{IsGathered}
use Rattle.commands.specs.Checks.{IsBegun}

-- a text has no more lines than bytes
lines_few : (lines : List (List Word)) → length lines ≤ length (text_of lines)
lines_few [] = zero-le
lines_few (l ∷ lines) =
    let rest : length lines ≤ length (text_of lines) = lines_few lines in
    let one : length (line_of l ++ 10 ∷ []) ≡ length (line_of l) + 1 = length-append (line_of l) (10 ∷ []) in
    let whole : length (text_of (l ∷ lines)) ≡ length (line_of l ++ 10 ∷ []) + length (text_of lines) = length-append (line_of l ++ 10 ∷ []) (text_of lines) in
    omega arith

front_lines : (x : List ℕ) (s : Plan) (n m : ℕ) → take n x ≡ scenario_text s → m ≡ length (scenario_lines s) → length x < 2 ^ 31 → m + 1 ≤ 2 ^ 31
front_lines x s n m is lines few =
    let most : length (scenario_lines s) ≤ length (scenario_text s) = lines_few (scenario_lines s) in
    let cut : length (scenario_text s) ≡ length (take n x) = ap length (sym is) in
    let within : length (take n x) ≤ length x = (let l = length-take n x in omega (arith, l)) in
    omega (arith, most, cut, within, lines, few)

-- a scenario that was read has few lines
pub gathered-lines : (bytes : List ℕ) (plan : Plan) (taken lines : ℕ) (old new : Option (List ℕ)) (limit : ℕ) → IsGathered bytes plan taken lines old new limit → limit < 2 ^ 31 → lines + 1 ≤ 2 ^ 31
gathered-lines bytes plan taken lines old new limit g small =
    let few = g.few in
    front_lines bytes plan taken lines g.front.text g.front.count (omega (arith, few, small))

pub gathered-begins : (bytes : List ℕ) (plan : Plan) (taken lines : ℕ) (old new : Option (List ℕ)) (limit room : ℕ) (check : CheckView) → IsGathered bytes plan taken lines old new limit
    → limit < 2 ^ 31 → room ≡ limit - length bytes → StandsFor plan (lines + 1) (take (length bytes - taken) (drop taken bytes)) check
    → ((more : ℕ) → length (take (length bytes - taken) (drop taken bytes)) + more < 2 ^ 31 → HasRoom check more) → IsBegun check room old new limit
gathered-begins bytes plan taken lines old new limit room check g small left stands fits =
    let few = g.few in
    let short : length (take (length bytes - taken) (drop taken bytes)) + room < 2 ^ 31 = rw (take_rest bytes taken) (omega (arith, small, left, few, length-drop taken bytes)) in
    record {
      bytes = bytes;
      took = g.took;
      count = omega (arith, left, few);
      plan = plan;
      taken = taken;
      lines = lines;
      front = g.front.read;
      within = g.front.within;
      stands = subst (λ (xs : List ℕ). StandsFor plan (lines + 1) xs check) (take_rest bytes taken) stands;
      fits = fits room short;
    }
