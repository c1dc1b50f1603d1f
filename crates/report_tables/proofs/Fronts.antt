-- How much of an input a scenario takes, and what stands behind it.
use Rattle.std.proofs.Common.{◌≡◌, ℕ, ◌+◌, ◌<◌, ◌≤◌, ◌^◌, List, [], ◌∷◌, ◌++◌, length, take, drop, ◌-◌, refl, sym, ap, ◌∙◌, subst, arith, zero-le}
use Rattle.std.specs.Prelude.{Result, Ok, Err}
use Rattle.std.proofs.lemmas.List.{length-append, length-take, length-drop}
use Rattle.std.proofs.Math.Seq.{take-length}
use Rattle.kern_ids.specs.declared.entries.Entry.{Entry}
use Rattle.kern_ids.specs.declared.faults.Why.{Why}
use Rattle.kern_ids.specs.declared.faults.ReadFault.{ReadFault}
use Rattle.kern_ids.specs.declared.faults.ReadFault.TheVariants as read
use Rattle.kernel_model.specs.Scenario.{Plan}
use Rattle.line_text.specs.Cut.{Word, line_of, text_of}
use Rattle.history_text.specs.HistoryReading.{history_of, ReadFails}
use Rattle.scenario_text.specs.Fronts.{Taken, front_taken}
use Rattle.scenario_text.specs.Text.{scenario_text, scenario_lines}
use Rattle.report_tables.specs.Reports.{input_of, Fails}

-- a text has no more lines than bytes
pub text_of-lines : (lines : List (List Word)) → length lines ≤ length (text_of lines)
text_of-lines [] = zero-le
text_of-lines (l ∷ lines) =
    let rest : length lines ≤ length (text_of lines) = text_of-lines lines in
    let one : length (line_of l ++ 10 ∷ []) ≡ length (line_of l) + 1 = length-append (line_of l) (10 ∷ []) in
    let whole : length (text_of (l ∷ lines)) ≡ length (line_of l ++ 10 ∷ []) + length (text_of lines) = length-append (line_of l ++ 10 ∷ []) (text_of lines) in
    omega arith

pub front-lines : (x : List ℕ) (s : Plan) (n m : ℕ) → take n x ≡ scenario_text s → m ≡ length (scenario_lines s) → length x < 2 ^ 31 → m + 1 ≤ 2 ^ 31
front-lines x s n m is lines few =
    let most : length (scenario_lines s) ≤ length (scenario_text s) = text_of-lines (scenario_lines s) in
    let cut : length (scenario_text s) ≡ length (take n x) = ap length (sym is) in
    let within : length (take n x) ≤ length x = (let l = length-take n x in omega (arith, l)) in
    omega (arith, most, cut, within, lines, few)

-- the bytes from n on
from : (n : ℕ) (x : List ℕ) → take (length x - n) (drop n x) ≡ drop n x
from n x = ap (λ m. take m (drop n x)) (sym (length-drop n x)) ∙ take-length (drop n x)

pub input-is : (x : List ℕ) (t : Taken) (h : List Entry) → front_taken x ≡ Ok t → history_of (t.2 + 1) (take (length x - t.1) (drop t.1 x)) ≡ Ok h → input_of x ≡ Ok (t.0, h)
unfolding input_of
input-is x t h f g = let g' = subst (λ ys. history_of (t.2 + 1) ys ≡ Ok h) (from t.1 x) g in rw (f, g') refl

pub input-fails : (x : List ℕ) (t : Taken) (fault : ReadFault) → front_taken x ≡ Ok t → ReadFails fault (history_of (t.2 + 1) (take (length x - t.1) (drop t.1 x))) → Fails fault (input_of x)
unfolding input_of
input-fails x t read.NoMemory f g = tt
input-fails x t (read.Bad n d) f g = let g' = subst (λ ys. history_of (t.2 + 1) ys ≡ Err (n, d)) (from t.1 x) g in rw (f, g') refl
