-- One line more of a text, as the reader's loop meets it.
use Rattle.std.proofs.Common.{◌≡◌, ℕ, ◌+◌, Bool, true, false, List, [], ◌∷◌, Result, Ok, Err, refl, sym, ap, ◌∙◌, eqb, length, arith}
use Rattle.std.proofs.lemmas.Bool.{eqb-true}
use Rattle.std.specs.List.{slice_split}
use Rattle.kern_ids.specs.declared.faults.Why.{Why}
use Rattle.kern_ids.specs.declared.faults.Why.TheVariants as why
use Rattle.kernel_model.specs.Scenario.{Plan}
use Rattle.line_text.specs.Cut.{lines_of, words_of}
use Rattle.line_text.proofs.CutLemmas.{some_part}
use Rattle.scenario_text.specs.declared.place.Place.{Place}
use Rattle.scenario_text.specs.declared.place.Place.TheVariants as place
use Rattle.kern_ids.specs.declared.faults.ReadFault.{ReadFault}
use Rattle.kern_ids.specs.declared.faults.ReadFault.TheVariants as faults
use Rattle.scenario_text.specs.declared.fault.LineFault.{LineFault}
use Rattle.scenario_text.specs.declared.fault.LineFault.TheVariants as line
use Rattle.scenario_text.specs.Grammar.{Front, start, headed, reading, is_ended, step, Read, front_from, front_of, alone, whole, scenario_of}
use Rattle.scenario_text.specs.Gives.{LineFails, ReadFails, fault_at}

-- the end line is still ahead
abbrev pub is_open : Front → Bool
is_open start = true
is_open (headed first) = true
is_open (reading place.Tasks s) = true
is_open (reading place.Objects s) = true
is_open (reading place.Script s) = true
is_open (reading place.Ordered s) = true
is_open (reading place.Ended s) = false

pub reading-open : (p : Place) (s : Plan) → is_ended p ≡ false → is_open (reading p s) ≡ true
reading-open place.Tasks s e = refl
reading-open place.Objects s e = refl
reading-open place.Script s e = refl
reading-open place.Ordered s e = refl
reading-open place.Ended s e = absurd cc

abbrev pub go : Result Front Why → ℕ → List (List ℕ) → Result Read (ℕ × Why)
go said n lines = elim said [ Ok g ↦ front_from g (n + 1) lines | Err e ↦ Err (n, e) ]

pub front-last : (f : Front) (n : ℕ) (last : List ℕ) → is_open f ≡ true → front_from f n (last ∷ []) ≡ Err (n, why.NoEnd)
unfolding front_from
front-last start n last o = refl
front-last (headed first) n last o = refl
front-last (reading place.Tasks s) n last o = refl
front-last (reading place.Objects s) n last o = refl
front-last (reading place.Script s) n last o = refl
front-last (reading place.Ordered s) n last o = refl
front-last (reading place.Ended s) n last o = absurd cc

pub front-next : (f : Front) (n : ℕ) (line next : List ℕ) (lines : List (List ℕ)) → is_open f ≡ true → front_from f n (line ∷ next ∷ lines) ≡ go (step f (words_of line)) n (next ∷ lines)
unfolding front_from
front-next start n line next lines o = refl
front-next (headed first) n line next lines o = refl
front-next (reading place.Tasks s) n line next lines o = refl
front-next (reading place.Objects s) n line next lines o = refl
front-next (reading place.Script s) n line next lines o = refl
front-next (reading place.Ordered s) n line next lines o = refl
front-next (reading place.Ended s) n line next lines o = absurd cc

pub front-ended : (s : Plan) (n : ℕ) (line : List ℕ) (lines : List (List ℕ)) → front_from (reading place.Ended s) n (line ∷ lines) ≡ Ok (record { plan = s; behind = line ∷ lines; number = n })
unfolding front_from
front-ended s n line lines = refl

next_by : (f : Front) (n : ℕ) (line others : List ℕ) (lines : List (List ℕ)) → lines_of others ≡ lines → is_open f ≡ true → front_from f n (line ∷ lines) ≡ go (step f (words_of line)) n lines
next_by f n line others [] e o = absurd (some_part (λ b. eqb b 10) others e)
next_by f n line others (next ∷ lines) e o = front-next f n line next lines o

-- a line with more behind it
pub line-next : (f : Front) (n : ℕ) (rest line others : List ℕ) → is_open f ≡ true → lines_of rest ≡ line ∷ lines_of others → front_from f n (lines_of rest) ≡ go (step f (words_of line)) n (lines_of others)
line-next f n rest line others o cut = ap (front_from f n) cut ∙ next_by f n line others (lines_of others) refl o

pub line-taken : (f g : Front) (n : ℕ) (rest line others : List ℕ) → is_open f ≡ true → lines_of rest ≡ line ∷ lines_of others → step f (words_of line) ≡ Ok g → front_from f n (lines_of rest) ≡ front_from g (n + 1) (lines_of others)
line-taken f g n rest line others o cut h = line-next f n rest line others o cut ∙ ap (λ (r : Result Front Why). go r n (lines_of others)) h

pub line-bad : (f : Front) (n : ℕ) (rest line others : List ℕ) (e : Why) → is_open f ≡ true → lines_of rest ≡ line ∷ lines_of others → step f (words_of line) ≡ Err e → front_from f n (lines_of rest) ≡ Err (n, e)
line-bad f n rest line others e o cut h = line-next f n rest line others o cut ∙ ap (λ (r : Result Front Why). go r n (lines_of others)) h

pub line-none : (f : Front) (n : ℕ) (rest : List ℕ) → is_open f ≡ true → lines_of rest ≡ rest ∷ [] → front_from f n (lines_of rest) ≡ Err (n, why.NoEnd)
line-none f n rest o cut = ap (front_from f n) cut ∙ front-last f n rest o

pub line-fails : (fault : LineFault) (f : Front) (n : ℕ) (rest line others : List ℕ) → is_open f ≡ true → lines_of rest ≡ line ∷ lines_of others → LineFails fault (step f (words_of line)) → ReadFails (fault_at fault n) (front_from f n (lines_of rest))
line-fails line.NoMemory f n rest l others o cut h = tt
line-fails (line.Bad why) f n rest l others o cut h = line-bad f n rest l others why o cut h

ended_by : (s : Plan) (n : ℕ) (rest : List ℕ) (lines : List (List ℕ)) → lines_of rest ≡ lines → front_from (reading place.Ended s) n lines ≡ Ok (record { plan = s; behind = lines; number = n })
ended_by s n rest [] e = absurd (some_part (λ b. eqb b 10) rest e)
ended_by s n rest (line ∷ lines) e = front-ended s n line lines

pub line-ended : (p : Place) (s : Plan) (n : ℕ) (rest : List ℕ) → is_ended p ≡ true → front_from (reading p s) n (lines_of rest) ≡ Ok (record { plan = s; behind = lines_of rest; number = n })
line-ended place.Ended s n rest e = ended_by s n rest (lines_of rest) refl
line-ended place.Tasks s n rest e = absurd cc
line-ended place.Objects s n rest e = absurd cc
line-ended place.Script s n rest e = absurd cc
line-ended place.Ordered s n rest e = absurd cc

-- ---- nothing may follow

abbrev pub behind : Plan → List (List ℕ) → ℕ → Read
behind s lines n = record { plan = s; behind = lines; number = n }

pub alone-nothing : (s : Plan) (n : ℕ) → alone (behind s (lines_of []) n) ≡ Ok s
unfolding alone
alone-nothing s n = refl

alone_parts : (s : Plan) (n : ℕ) (c : Bool) (b : ℕ) (parts : List (List ℕ)) → (parts ≡ [] → ⊥) → alone (behind s (Rattle.std.proofs.Common.cond c ([] ∷ parts) (Rattle.std.specs.List.onto_first b parts)) n) ≡ Err (n, why.AfterEnd)
unfolding alone
alone_parts s n c b [] some = absurd (some refl)
alone_parts s n true b (part ∷ parts) some = refl
alone_parts s n false b (part ∷ parts) some = refl

pub alone-more : (s : Plan) (n b : ℕ) (bs : List ℕ) → alone (behind s (lines_of (b ∷ bs)) n) ≡ Err (n, why.AfterEnd)
alone-more s n b bs = alone_parts s n (eqb b 10) b (lines_of bs) (λ e. some_part (λ c. eqb c 10) bs e)

pub alone-empty : (s : Plan) (n : ℕ) (rest : List ℕ) → eqb (length rest) 0 ≡ true → alone (behind s (lines_of rest) n) ≡ Ok s
alone-empty s n [] e = alone-nothing s n
alone-empty s n (b ∷ bs) e = let none : length (b ∷ bs) ≡ 0 = eqb-true _ _ e in absurd (omega arith)

pub alone-rest : (s : Plan) (n : ℕ) (rest : List ℕ) → eqb (length rest) 0 ≡ false → alone (behind s (lines_of rest) n) ≡ Err (n, why.AfterEnd)
alone-rest s n [] e = absurd cc
alone-rest s n (b ∷ bs) e = alone-more s n b bs

pub scenario_of-read : (text : List ℕ) (r : Read) → front_of text ≡ Ok r → scenario_of text ≡ alone r
unfolding scenario_of
scenario_of-read text r e = ap whole e

pub scenario_of-fails : (fault : ReadFault) (text : List ℕ) → ReadFails fault (front_of text) → ReadFails fault (scenario_of text)
unfolding scenario_of
scenario_of-fails faults.NoMemory text h = tt
scenario_of-fails (faults.Bad n why) text h = ap whole h
