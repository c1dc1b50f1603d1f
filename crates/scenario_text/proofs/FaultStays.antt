-- A fault of a line that is ended stays where more bytes follow.
use Rattle.std.proofs.Common.{◌≡◌, ◌≢◌, ℕ, ◌+◌, Bool, true, false, cond, eqb, List, [], ◌∷◌, ◌++◌, Result, Ok, Err, refl, sym, ap, ◌∙◌, inl, inr}
use Rattle.std.specs.List.{onto_first}
use Rattle.kern_ids.specs.declared.faults.Why.{Why}
use Rattle.kern_ids.specs.declared.faults.Why.TheVariants as why
use Rattle.kernel_model.specs.Scenario.{Plan}
use Rattle.line_text.specs.Cut.{lines_of, words_of}
use Rattle.line_text.proofs.CutLemmas.{some_part}
use Rattle.scenario_text.specs.declared.place.Place.TheVariants as place
use Rattle.scenario_text.specs.Grammar.{Front, start, reading, step, Read, front_from, front_of}
use Rattle.scenario_text.specs.Fronts.{Taken, taken_of, front_taken}
use Rattle.scenario_text.proofs.LineLemmas.{go, front-last, front-next, front-ended}
use Rattle.scenario_text.proofs.Runs.{open_or}

-- ---- the lines of a text, and those of a text that goes on

-- the ended lines are the same, and more may follow
record Grows (lines grown : List (List ℕ)) : Type 0 where
  ended : List (List ℕ)
  last : List ℕ
  first : List ℕ
  others : List (List ℕ)
  before : lines ≡ ended ++ last ∷ []
  after : grown ≡ ended ++ first ∷ others

some_first : (parts : List (List ℕ)) → (parts ≡ [] → ⊥) → (first : List ℕ) × (others : List (List ℕ)) × (parts ≡ first ∷ others)
some_first [] some = absurd (some refl)
some_first (p ∷ ps) some = (p, ps, refl)

byte_grows : (b : ℕ) (lines grown ended : List (List ℕ)) (last first : List ℕ) (others : List (List ℕ)) → lines ≡ ended ++ last ∷ [] → grown ≡ ended ++ first ∷ others → Grows (onto_first b lines) (onto_first b grown)
byte_grows b lines grown [] last first others x y = record { ended = []; last = b ∷ last; first = b ∷ first; others = others; before = ap (onto_first b) x; after = ap (onto_first b) y }
byte_grows b lines grown (p ∷ ps) last first others x y = record { ended = (b ∷ p) ∷ ps; last = last; first = first; others = others; before = ap (onto_first b) x; after = ap (onto_first b) y }

line_grows : (ends : Bool) (b : ℕ) (lines grown : List (List ℕ)) → Grows lines grown → Grows (cond ends ([] ∷ lines) (onto_first b lines)) (cond ends ([] ∷ grown) (onto_first b grown))
line_grows true b lines grown g = record {
  ended = [] ∷ g.ended;
  last = g.last;
  first = g.first;
  others = g.others;
  before = ap (λ (ls : List (List ℕ)). [] ∷ ls) g.before;
  after = ap (λ (ls : List (List ℕ)). [] ∷ ls) g.after;
}
line_grows false b lines grown g = byte_grows b lines grown g.ended g.last g.first g.others g.before g.after

lines_grow : (text more : List ℕ) → Grows (lines_of text) (lines_of (text ++ more))
lines_grow [] more =
    let s = some_first (lines_of more) (some_part (λ b. eqb b 10) more) in
    record { ended = []; last = []; first = s.0; others = s.1; before = refl; after = s.2 }
lines_grow (b ∷ bs) more = line_grows (eqb b 10) b (lines_of bs) (lines_of (bs ++ more)) (lines_grow bs more)

-- ---- reading them

abbrev read_ok : Read → Result Read (ℕ × Why)
read_ok r = Ok r

abbrev fault : ℕ → Why → ℕ × Why
fault n y = (n, y)

abbrev read_err : ℕ × Why → Result Read (ℕ × Why)
read_err x = Err x

ended_reads : (f : Front) (n : ℕ) (line : List ℕ) (lines : List (List ℕ)) (s : Plan) (x : ℕ × Why) → f ≡ reading place.Ended s → front_from f n (line ∷ lines) ≡ Err x → ⊥
ended_reads f n line lines s x ended e =
    let both : read_ok (record { plan = s; behind = line ∷ lines; number = n }) ≡ read_err x = sym (front-ended s n line lines) ∙ ap (λ (g : Front). front_from g n (line ∷ lines)) (sym ended) ∙ e in
    absurd cc

last_faults : (f : Front) (n : ℕ) (last : List ℕ) (m : ℕ) (y : Why) → y ≢ why.NoEnd → front_from f n (last ∷ []) ≡ Err (m, y) → ⊥
last_faults f n last m y other e = elim (open_or f) [
  | inl o ↦
      let both : read_err (n, why.NoEnd) ≡ read_err (m, y) = sym (front-last f n last o) ∙ e in
      let pairs : fault n why.NoEnd ≡ fault m y = cc in
      other (sym (ap (λ (x : ℕ × Why). x.1) pairs))
  | inr d ↦ ended_reads f n last [] d.0 (m, y) d.1 e
]

go_stays : (said : Result Front Why) (n : ℕ) (lines grown : List (List ℕ)) (x : ℕ × Why) → ((g : Front) → front_from g (n + 1) lines ≡ Err x → front_from g (n + 1) grown ≡ Err x) → go said n lines ≡ Err x → go said n grown ≡ Err x
go_stays (Ok g) n lines grown x more e = more g e
go_stays (Err y) n lines grown x more e = e

lines_stay : (ended : List (List ℕ)) (f : Front) (n : ℕ) (last first : List ℕ) (others : List (List ℕ)) (m : ℕ) (y : Why) → y ≢ why.NoEnd
    → front_from f n (ended ++ last ∷ []) ≡ Err (m, y) → front_from f n (ended ++ first ∷ others) ≡ Err (m, y)
lines_stay [] f n last first others m y other e = absurd (last_faults f n last m y other e)
lines_stay (line ∷ []) f n last first others m y other e = elim (open_or f) [
  | inl o ↦
      front-next f n line first others o
      ∙ go_stays (step f (words_of line)) n (last ∷ []) (first ∷ others) (m, y) (λ g. lines_stay [] g (n + 1) last first others m y other) (sym (front-next f n line last [] o) ∙ e)
  | inr d ↦ absurd (ended_reads f n line (last ∷ []) d.0 (m, y) d.1 e)
]
lines_stay (line ∷ next ∷ ended) f n last first others m y other e = elim (open_or f) [
  | inl o ↦
      front-next f n line next (ended ++ first ∷ others) o
      ∙ go_stays (step f (words_of line)) n (next ∷ (ended ++ last ∷ [])) (next ∷ (ended ++ first ∷ others)) (m, y) (λ g. lines_stay (next ∷ ended) g (n + 1) last first others m y other)
      (sym (front-next f n line next (ended ++ last ∷ []) o) ∙ e)
  | inr d ↦ absurd (ended_reads f n line (next ∷ (ended ++ last ∷ [])) d.0 (m, y) d.1 e)
]

-- ---- so the fault stays

abbrev taken_err : ℕ × Why → Result Taken (ℕ × Why)
taken_err x = Err x

fault_read : (text : List ℕ) (said : Result Read (ℕ × Why)) (x : ℕ × Why) → taken_of text said ≡ taken_err x → said ≡ read_err x
fault_read text (Ok r) x e = absurd cc
fault_read text (Err y) x e = let same : y ≡ x = cc in ap read_err same

pub fault-stays : (text more : List ℕ) (n : ℕ) (y : Why) → y ≢ why.NoEnd → front_taken text ≡ Err (n, y) → front_taken (text ++ more) ≡ Err (n, y)
fault-stays text more n y other e =
    let g = lines_grow text more in
    let read = fault_read text (front_of text) (n, y) e in
    let here = sym (ap (front_from start 1) g.before) ∙ read in
    let there : front_of (text ++ more) ≡ read_err (n, y) = ap (front_from start 1) g.after ∙ lines_stay g.ended start 1 g.last g.first g.others n y other here in
    ap (taken_of (text ++ more)) there
