-- A text begins with a scenario exactly where its first bytes are that scenario's text.
use Rattle.std.proofs.Common.{◌≡◌, ℕ, ◌+◌, ◌-◌, ◌≤◌, false, eqb, List, [], ◌∷◌, ◌++◌, length, map, take, Result, Ok, Err, refl, sym, ap, ◌∙◌, arith, subst, append_assoc, inl, inr}
use Rattle.std.specs.List.{AllByRecursion, join_with_byte}
use Rattle.std.proofs.Math.Seq.{take-append_seam}
use Rattle.std.proofs.lemmas.Bool.{ne_eqb}
use Rattle.std.proofs.lemmas.List.{length-append}
use Rattle.std.proofs.lemmas.List.Splits.{join_with_byte-slice_split}
use Rattle.kern_ids.specs.declared.faults.Why.{Why}
use Rattle.kern_ids.specs.declared.faults.ReadFault.{ReadFault}
use Rattle.kernel_model.specs.Scenario.{Plan}
use Rattle.line_text.specs.Cut.{Word, lines_of, words_of, line_of, text_of}
use Rattle.line_text.proofs.GrammarLemmas.{bind_ok, ok_is}
use Rattle.line_text.proofs.CutLaws.{IsClean, IsOneLine, words_again, one_line}
use Rattle.line_text.proofs.CutLemmas.{some_part}
use Rattle.scenario_text.specs.declared.place.Place.TheVariants as place
use Rattle.scenario_text.specs.Grammar.{Front, start, reading, step, Read, front_from, front_of}
use Rattle.scenario_text.specs.Text.{scenario_lines, scenario_text, HasText}
use Rattle.kern_ids.specs.declared.faults.ReadFault.TheVariants as faults
use Rattle.scenario_text.specs.Gives.{ReadFails}
use Rattle.scenario_text.specs.Fronts.{Taken, taken_of, front_taken, FrontGives}
use Rattle.scenario_text.proofs.LineLemmas.{front-last, front-next, front-ended, line-taken, line-ended, behind}
use Rattle.scenario_text.proofs.Runs.{run, run-first, not-ok, step-open, open_or, go_takes, no_words, none_read, read_is}
use Rattle.scenario_text.proofs.Told.{run-lines}
use Rattle.scenario_text.proofs.Written.{scenario-lines-run}
use Rattle.scenario_text.proofs.Clean.{scenario-clean}

-- ---- a text that begins with lines that lead to the end

line_then : (line rest : List ℕ) → IsOneLine line → lines_of (line ++ 10 ∷ rest) ≡ line ∷ lines_of rest
line_then [] rest one = refl
line_then (b ∷ bs) rest one =
    let no : eqb b 10 ≡ false = ne_eqb b 10 (λ e. absurd (omega (arith, one.0))) in
    rw (no, line_then bs rest one.1) refl

front_run : (f : Front) (n m : ℕ) (ls : List (List Word)) (rest : List ℕ) (s : Plan) → AllByRecursion (AllByRecursion IsClean) ls → m ≡ n + length ls → run f ls ≡ Ok (reading place.Ended s) → front_from f n (lines_of (text_of ls ++ rest)) ≡ Ok (behind s (lines_of rest) m)
front_run f n m [] rest s clean count e =
    let ended : f ≡ reading place.Ended s = ok_is f (reading place.Ended s) e in
    let same : n ≡ m = omega (arith, count) in
    ap (λ (g : Front). front_from g n (lines_of rest)) ended ∙ line-ended place.Ended s n rest refl ∙ ap (λ (k : ℕ). Ok (behind s (lines_of rest) k)) same
front_run f n m ([] ∷ ls) rest s clean count e =
    let b = bind_ok (step f []) (λ g. run g ls) (reading place.Ended s) e in
    absurd (no_words f b.0 b.1)
front_run f n m ((w ∷ ws) ∷ ls) rest s clean count e =
    let b = bind_ok (step f (w ∷ ws)) (λ g. run g ls) (reading place.Ended s) e in
    let line = line_of (w ∷ ws) in
    let all : text_of ((w ∷ ws) ∷ ls) ++ rest ≡ line ++ 10 ∷ (text_of ls ++ rest) =
    append_assoc (line ++ 10 ∷ []) (text_of ls) rest ∙ append_assoc line (10 ∷ []) (text_of ls ++ rest) in
    let cut : lines_of (text_of ((w ∷ ws) ∷ ls) ++ rest) ≡ line ∷ lines_of (text_of ls ++ rest) =
    ap lines_of all ∙ line_then line (text_of ls ++ rest) (one_line (w ∷ ws) clean.0) in
    line-taken f b.0 n (text_of ((w ∷ ws) ∷ ls) ++ rest) line (text_of ls ++ rest) (step-open f b.0 (w ∷ ws) b.1) cut (ap (step f) (words_again w ws clean.0.0 clean.0.1) ∙ b.1)
    ∙ front_run b.0 (n + 1) m ls rest s clean.1 (omega (arith, count)) b.2

-- ---- and the other way round

abbrev Led : Front → ℕ → List (List ℕ) → Read → Type 0
Led f n lines r = (ls : List (List Word)) × (lines ≡ map line_of ls ++ r.behind) × (run f ls ≡ Ok (reading place.Ended r.plan)) × (r.number ≡ n + length ls)

led_ended : (f : Front) (n : ℕ) (line : List ℕ) (lines : List (List ℕ)) (r : Read) (t : Plan) → f ≡ reading place.Ended t → front_from f n (line ∷ lines) ≡ Ok r → Led f n (line ∷ lines) r
led_ended f n line lines r t ended e =
    let same : behind t (line ∷ lines) n ≡ r = read_is _ r (sym (front-ended t n line lines) ∙ ap (λ (g : Front). front_from g n (line ∷ lines)) (sym ended) ∙ e) in
    subst (Led f n (line ∷ lines)) same ([], refl, ap (λ (g : Front). Ok g) ended, omega arith)

led : (f : Front) (n : ℕ) (lines : List (List ℕ)) (r : Read) → front_from f n lines ≡ Ok r → Led f n lines r
led f n [] r e = absurd (none_read f n r e)
led f n (line ∷ []) r e = elim (open_or f) [
  | inl o ↦ absurd (not-ok _ r (sym (front-last f n line o) ∙ e))
  | inr d ↦ led_ended f n line [] r d.0 d.1 e
]
led f n (line ∷ next ∷ lines) r e = elim (open_or f) [
  | inl o ↦
      let g = go_takes (step f (words_of line)) n (next ∷ lines) r (sym (front-next f n line next lines o) ∙ e) in
      let t = led g.0 (n + 1) (next ∷ lines) r g.2 in
      let same : line ≡ line_of (words_of line) = sym (join_with_byte-slice_split 32 line) in
      (words_of line ∷ t.0, ap (λ (x : List ℕ). x ∷ next ∷ lines) same ∙ ap (λ (x : List (List ℕ)). line_of (words_of line) ∷ x) t.1, run-first f g.0 (words_of line) t.0 g.1 ∙ t.2, let c = t.3 in omega (arith, c))
  | inr d ↦ led_ended f n line (next ∷ lines) r d.0 d.1 e
]

joined_line : (line : List ℕ) (parts : List (List ℕ)) → (parts ≡ [] → ⊥) → join_with_byte 10 (line ∷ parts) ≡ line ++ 10 ∷ join_with_byte 10 parts
joined_line line [] some = absurd (some refl)
joined_line line (part ∷ parts) some = refl

some_parts : (ls : List (List Word)) (parts : List (List ℕ)) → (parts ≡ [] → ⊥) → map line_of ls ++ parts ≡ [] → ⊥
some_parts [] parts some e = some e
some_parts (l ∷ ls) parts some e = absurd cc

joined_before : (ls : List (List Word)) (parts : List (List ℕ)) → (parts ≡ [] → ⊥) → join_with_byte 10 (map line_of ls ++ parts) ≡ text_of ls ++ join_with_byte 10 parts
joined_before [] parts some = refl
joined_before (l ∷ ls) parts some =
    joined_line (line_of l) (map line_of ls ++ parts) (some_parts ls parts some) ∙ ap (λ (x : List ℕ). line_of l ++ 10 ∷ x) (joined_before ls parts some)
    ∙ sym (append_assoc (line_of l ++ 10 ∷ []) (text_of ls) (join_with_byte 10 parts) ∙ append_assoc (line_of l) (10 ∷ []) (text_of ls ++ join_with_byte 10 parts))

joined : (ls : List (List Word)) (rest : List ℕ) → join_with_byte 10 (map line_of ls ++ lines_of rest) ≡ text_of ls ++ rest
joined ls rest = joined_before ls (lines_of rest) (some_part (λ b. eqb b 10) rest) ∙ ap (λ (x : List ℕ). text_of ls ++ x) (join_with_byte-slice_split 10 rest)

-- something is behind the end line: at least no bytes that no line feed ends
some_ended : (f : Front) (n : ℕ) (line : List ℕ) (lines : List (List ℕ)) (r : Read) (t : Plan) → f ≡ reading place.Ended t → front_from f n (line ∷ lines) ≡ Ok r → r.behind ≡ [] → ⊥
some_ended f n line lines r t ended e none =
    let same : behind t (line ∷ lines) n ≡ r = read_is _ r (sym (front-ended t n line lines) ∙ ap (λ (g : Front). front_from g n (line ∷ lines)) (sym ended) ∙ e) in
    let nothing : line ∷ lines ≡ [] = ap (λ (x : Read). x.behind) same ∙ none in
    absurd cc

some_behind : (f : Front) (n : ℕ) (lines : List (List ℕ)) (r : Read) → front_from f n lines ≡ Ok r → r.behind ≡ [] → ⊥
some_behind f n [] r e none = absurd (none_read f n r e)
some_behind f n (line ∷ []) r e none = elim (open_or f) [
  | inl o ↦ absurd (not-ok _ r (sym (front-last f n line o) ∙ e))
  | inr d ↦ some_ended f n line [] r d.0 d.1 e none
]
some_behind f n (line ∷ next ∷ lines) r e none = elim (open_or f) [
  | inl o ↦
      let g = go_takes (step f (words_of line)) n (next ∷ lines) r (sym (front-next f n line next lines o) ∙ e) in
      some_behind g.0 (n + 1) (next ∷ lines) r g.2 none
  | inr d ↦ some_ended f n line (next ∷ lines) r d.0 d.1 e none
]

-- ---- both, of scenarios

abbrev FrontIs : List ℕ → Plan → List ℕ → ℕ → Type 0
FrontIs text s rest n = (text ≡ scenario_text s ++ rest) × HasText s × (n ≡ length (scenario_lines s) + 1)

pub front-takes : (text rest : List ℕ) (s : Plan) (n : ℕ) → front_of text ≡ Ok (behind s (lines_of rest) n) → (text ≡ scenario_text s ++ rest) × HasText s × (n ≡ length (scenario_lines s) + 1)
front-takes text rest s n e =
    let t = led start 1 (lines_of text) (behind s (lines_of rest) n) e in
    let r = run-lines s t.0 t.2 in
    let whole : text ≡ text_of t.0 ++ rest = sym (join_with_byte-slice_split 10 text) ∙ ap (join_with_byte 10) t.1 ∙ joined t.0 rest in
    let count = ap (λ (ls : List (List Word)). length ls) r.0 in
    let c = t.3 in
    (whole ∙ ap (λ (ls : List (List Word)). text_of ls ++ rest) r.0, r.1, omega (arith, c, count))

pub front-again : (s : Plan) (rest : List ℕ) → HasText s → front_of (scenario_text s ++ rest) ≡ Ok (behind s (lines_of rest) (length (scenario_lines s) + 1))
front-again s rest h = front_run start 1 (length (scenario_lines s) + 1) (scenario_lines s) rest s (scenario-clean s h) (omega arith) (scenario-lines-run s h)

-- ---- what is taken

pub taken-is : (text rest : List ℕ) (s : Plan) (n : ℕ) → front_of text ≡ Ok (behind s (lines_of rest) n) → front_taken text ≡ Ok (s, length text - length rest, n - 1)
taken-is text rest s n e = rw (e, join_with_byte-slice_split 10 rest) refl

pub taken-within : (text rest : List ℕ) (s : Plan) (n : ℕ) → front_of text ≡ Ok (behind s (lines_of rest) n) → (length rest ≤ length text) × (1 ≤ n) × (length text - length rest ≡ length (scenario_text s)) × (n - 1 ≡ length (scenario_lines s))
taken-within text rest s n e =
    let t = front-takes text rest s n e in
    let all : length text ≡ length (scenario_text s) + length rest = ap length t.0 ∙ length-append (scenario_text s) rest in
    let lines = t.2 in
    (omega (arith, all), omega (arith, lines), omega (arith, all), omega (arith, lines))

pub taken-written : (text rest : List ℕ) (s : Plan) (n : ℕ) → front_of text ≡ Ok (behind s (lines_of rest) n) → take (length text - length rest) text ≡ scenario_text s
taken-written text rest s n e =
    let t = front-takes text rest s n e in
    let w = taken-within text rest s n e in
    ap (λ (k : ℕ). take k text) w.2 ∙ ap (take (length (scenario_text s))) t.0 ∙ take-append_seam (scenario_text s) rest

taken_text : (s : Plan) (rest : List ℕ) → HasText s → front_taken (scenario_text s ++ rest) ≡ Ok (s, length (scenario_text s), length (scenario_lines s))
taken_text s rest h =
    let n = length (scenario_lines s) + 1 in
    let front = front-again s rest h in
    let w = taken-within (scenario_text s ++ rest) rest s n front in
    taken-is (scenario_text s ++ rest) rest s n front ∙ rw (w.2, w.3) refl

pub taken-again : (r : Result Taken ReadFault) (text rest : List ℕ) (s : Plan) → FrontGives r (front_taken text) → HasText s → text ≡ scenario_text s ++ rest → FrontGives r (Ok (s, length (scenario_text s), length (scenario_lines s)))
taken-again r text rest s g h e = subst (FrontGives r) (ap front_taken e ∙ taken_text s rest h) g

pub taken-fails : (fault : ReadFault) (text : List ℕ) → ReadFails fault (front_of text) → ReadFails fault (front_taken text)
taken-fails faults.NoMemory text h = tt
taken-fails (faults.Bad n why) text h = ap (taken_of text) h

-- ---- more bytes behind a front

taken_read : (text : List ℕ) (said : Result Read (ℕ × Why)) (t : Taken) → taken_of text said ≡ Ok t → (r : Read) × (said ≡ Ok r)
taken_read text (Ok r) t e = (r, refl)
taken_read text (Err x) t e = absurd cc

front_begins : (text : List ℕ) (r : Read) → front_of text ≡ Ok r → (text ≡ scenario_text r.plan ++ join_with_byte 10 r.behind) × HasText r.plan
front_begins text r e =
    let t = led start 1 (lines_of text) r e in
    let told = run-lines r.plan t.0 t.2 in
    let whole : text ≡ text_of t.0 ++ join_with_byte 10 r.behind =
    sym (join_with_byte-slice_split 10 text) ∙ ap (join_with_byte 10) t.1 ∙ joined_before t.0 r.behind (some_behind start 1 (lines_of text) r e) in
    (whole ∙ ap (λ (ls : List (List Word)). text_of ls ++ join_with_byte 10 r.behind) told.0, told.1)

pub front-stays : (text more : List ℕ) (t : Taken) → front_taken text ≡ Ok t → front_taken (text ++ more) ≡ Ok t
front-stays text more t e =
    let r = taken_read text (front_of text) t e in
    let s = r.0.plan in
    let rest = join_with_byte 10 r.0.behind in
    let b = front_begins text r.0 r.1 in
    let longer : text ++ more ≡ scenario_text s ++ (rest ++ more) = ap (λ (x : List ℕ). x ++ more) b.0 ∙ append_assoc (scenario_text s) rest more in
    ap front_taken longer ∙ taken_text s (rest ++ more) b.1 ∙ sym (ap front_taken b.0 ∙ taken_text s rest b.1) ∙ e
