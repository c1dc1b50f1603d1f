-- A text as a run over its lines, each a list of words.
use Rattle.std.proofs.Common.{◌≡◌, ℕ, ◌+◌, true, List, [], ◌∷◌, ◌++◌, map, Result, Ok, Err, refl, sym, ap, ◌∙◌, append_assoc, append-nil, inl, inr, ◌⊎◌}
use Rattle.std.specs.List.{AllByRecursion, join_with_byte}
use Rattle.std.proofs.lemmas.List.Splits.{join_with_byte-slice_split}
use Rattle.kern_ids.specs.declared.faults.Why.{Why}
use Rattle.kernel_model.specs.Scenario.{Plan}
use Rattle.line_text.specs.Cut.{Word, lines_of, words_of, line_of, text_of}
use Rattle.line_text.specs.Words.{◌>>=◌}
use Rattle.line_text.proofs.GrammarLemmas.{bind_ok, ok_is}
use Rattle.line_text.proofs.CutLaws.{IsClean, words_again, lines_again}
use Rattle.scenario_text.specs.declared.place.Place.TheVariants as place
use Rattle.scenario_text.specs.Grammar.{Front, start, headed, reading, step, line_at, Read, front_from, front_of, alone, whole, scenario_of}
use Rattle.scenario_text.proofs.LineLemmas.{is_open, go, front-last, front-next, front-ended, line-taken, behind, scenario_of-read}

-- where lines lead
abbrev pub run : Front → List (List Word) → Result Front Why
run f [] = Ok f
run f (l ∷ ls) = step f l >>= λ g. run g ls

-- ---- one run after another

bind-run : (r : Result Front Why) (xs ys : List (List Word)) → ((g : Front) → run g (xs ++ ys) ≡ (run g xs >>= λ h. run h ys)) → (r >>= λ g. run g (xs ++ ys)) ≡ ((r >>= λ g. run g xs) >>= λ h. run h ys)
bind-run (Ok g) xs ys more = more g
bind-run (Err e) xs ys more = refl

run-append : (f : Front) (xs ys : List (List Word)) → run f (xs ++ ys) ≡ (run f xs >>= λ g. run g ys)
run-append f [] ys = refl
run-append f (x ∷ xs) ys = bind-run (step f x) xs ys (λ g. run-append g xs ys)

pub run-then : (f g : Front) (xs ys : List (List Word)) → run f xs ≡ Ok g → run f (xs ++ ys) ≡ run g ys
run-then f g xs ys e = run-append f xs ys ∙ ap (λ (r : Result Front Why). r >>= λ g. run g ys) e

pub run-first : (f g : Front) (l : List Word) (ls : List (List Word)) → step f l ≡ Ok g → run f (l ∷ ls) ≡ run g ls
run-first f g l ls e = ap (λ (r : Result Front Why). r >>= λ g. run g ls) e

-- ---- no line is taken behind the end line

abbrev pub err_of : {A B : Type 0} → A → B → Result A B
err_of x e = Err e

pub not-ok : {A B : Type 0} (e : B) (x : A) → err_of x e ≡ Ok x → ⊥
not-ok e x h = absurd cc

pub step-open : (f g : Front) (l : List Word) → step f l ≡ Ok g → is_open f ≡ true
unfolding step line_at
step-open start g l e = refl
step-open (headed first) g l e = refl
step-open (reading place.Tasks s) g l e = refl
step-open (reading place.Objects s) g l e = refl
step-open (reading place.Script s) g l e = refl
step-open (reading place.Ordered s) g l e = refl
step-open (reading place.Ended s) g [] e = absurd cc
step-open (reading place.Ended s) g (w ∷ ws) e = absurd cc

pub open_or : (f : Front) → (is_open f ≡ true) ⊎ ((s : Plan) × (f ≡ reading place.Ended s))
open_or start = inl refl
open_or (headed first) = inl refl
open_or (reading place.Tasks s) = inl refl
open_or (reading place.Objects s) = inl refl
open_or (reading place.Script s) = inl refl
open_or (reading place.Ordered s) = inl refl
open_or (reading place.Ended s) = inr (s, refl)

pub no_words : (f g : Front) → step f [] ≡ Ok g → ⊥
unfolding step
no_words f g e = absurd cc

-- ---- a text of lines that lead to the end is a scenario

front-run : (f : Front) (n : ℕ) (ls : List (List Word)) (s : Plan) → AllByRecursion (AllByRecursion IsClean) ls → run f ls ≡ Ok (reading place.Ended s) → (m : ℕ) × (front_from f n (lines_of (text_of ls)) ≡ Ok (behind s ([] ∷ []) m))
front-run f n [] s clean e =
    let ended : f ≡ reading place.Ended s = ok_is f (reading place.Ended s) e in
    (n, ap (λ (g : Front). front_from g n ([] ∷ [])) ended ∙ front-ended s n [] [])
front-run f n ([] ∷ ls) s clean e =
    let b = bind_ok (step f []) (λ g. run g ls) (reading place.Ended s) e in
    absurd (no_words f b.0 b.1)
front-run f n ((w ∷ ws) ∷ ls) s clean e =
    let b = bind_ok (step f (w ∷ ws)) (λ g. run g ls) (reading place.Ended s) e in
    let cut : lines_of (text_of ((w ∷ ws) ∷ ls)) ≡ line_of (w ∷ ws) ∷ lines_of (text_of ls) =
    lines_again ((w ∷ ws) ∷ ls) clean ∙ ap (λ (x : List (List ℕ)). line_of (w ∷ ws) ∷ x) (sym (lines_again ls clean.1)) in
    let more = front-run b.0 (n + 1) ls s clean.1 b.2 in
    (more.0, line-taken f b.0 n (text_of ((w ∷ ws) ∷ ls)) (line_of (w ∷ ws)) (text_of ls) (step-open f b.0 (w ∷ ws) b.1) cut (ap (step f) (words_again w ws clean.0.0 clean.0.1) ∙ b.1) ∙ more.1)

alone_here : (s : Plan) (m : ℕ) → alone (behind s ([] ∷ []) m) ≡ Ok s
unfolding alone
alone_here s m = refl

pub run-scenario : (ls : List (List Word)) (s : Plan) → AllByRecursion (AllByRecursion IsClean) ls → run start ls ≡ Ok (reading place.Ended s) → scenario_of (text_of ls) ≡ Ok s
run-scenario ls s clean e =
    let f = front-run start 1 ls s clean e in
    scenario_of-read (text_of ls) (behind s ([] ∷ []) f.0) f.1 ∙ alone_here s f.0

-- ---- and the other way round

alone_takes : (t s : Plan) (line : List ℕ) (lines : List (List ℕ)) (n : ℕ) → alone (behind t (line ∷ lines) n) ≡ Ok s → (line ∷ lines ≡ [] ∷ []) × (t ≡ s)
unfolding alone
alone_takes t s [] [] n e = (refl, cc)
alone_takes t s [] (next ∷ lines) n e = absurd cc
alone_takes t s (b ∷ bs) lines n e = absurd cc

pub go_takes : (said : Result Front Why) (n : ℕ) (lines : List (List ℕ)) (r : Read) → go said n lines ≡ Ok r → (g : Front) × (said ≡ Ok g) × (front_from g (n + 1) lines ≡ Ok r)
go_takes (Ok g) n lines r e = (g, refl, e)
go_takes (Err d) n lines r e = absurd cc

abbrev done : Read → Result Read (ℕ × Why)
done x = Ok x

pub read_is : (x y : Read) → done x ≡ done y → x ≡ y
read_is x y e = cc

pub none_read : (f : Front) (n : ℕ) (r : Read) → front_from f n [] ≡ Ok r → ⊥
unfolding front_from
none_read f n r e = absurd cc

abbrev Led : Front → List (List ℕ) → Plan → Type 0
Led f lines s = (ls : List (List Word)) × (lines ≡ map line_of ls ++ [] ∷ []) × (run f ls ≡ Ok (reading place.Ended s))

led_ended : (f : Front) (n : ℕ) (line : List ℕ) (lines : List (List ℕ)) (r : Read) (t s : Plan) → f ≡ reading place.Ended t → front_from f n (line ∷ lines) ≡ Ok r → alone r ≡ Ok s → Led f (line ∷ lines) s
led_ended f n line lines r t s ended e a =
    let same : behind t (line ∷ lines) n ≡ r = read_is _ r (sym (front-ended t n line lines) ∙ ap (λ (g : Front). front_from g n (line ∷ lines)) (sym ended) ∙ e) in
    let q = alone_takes t s line lines n (ap alone same ∙ a) in
    ([], q.0, ap (λ (g : Front). Ok g) (ended ∙ ap (λ (p : Plan). reading place.Ended p) q.1))

led : (f : Front) (n : ℕ) (lines : List (List ℕ)) (r : Read) (s : Plan) → front_from f n lines ≡ Ok r → alone r ≡ Ok s → Led f lines s
led f n [] r s e a = absurd (none_read f n r e)
led f n (line ∷ []) r s e a = elim (open_or f) [
  | inl o ↦ absurd (not-ok _ r (sym (front-last f n line o) ∙ e))
  | inr d ↦ led_ended f n line [] r d.0 s d.1 e a
]
led f n (line ∷ next ∷ lines) r s e a = elim (open_or f) [
  | inl o ↦
      let g = go_takes (step f (words_of line)) n (next ∷ lines) r (sym (front-next f n line next lines o) ∙ e) in
      let t = led g.0 (n + 1) (next ∷ lines) r s g.2 a in
      let same : line ≡ line_of (words_of line) = sym (join_with_byte-slice_split 32 line) in
      (words_of line ∷ t.0, ap (λ (x : List ℕ). x ∷ next ∷ lines) same ∙ ap (λ (x : List (List ℕ)). line_of (words_of line) ∷ x) t.1, run-first f g.0 (words_of line) t.0 g.1 ∙ t.2)
  | inr d ↦ led_ended f n line (next ∷ lines) r d.0 s d.1 e a
]

joined : (ls : List (List Word)) → join_with_byte 10 (map line_of ls ++ [] ∷ []) ≡ text_of ls
joined [] = refl
joined (l ∷ []) = sym (append-nil (line_of l ++ 10 ∷ []))
joined (l ∷ m ∷ ls) = ap (λ (x : List ℕ). line_of l ++ 10 ∷ x) (joined (m ∷ ls)) ∙ sym (append_assoc (line_of l) (10 ∷ []) (text_of (m ∷ ls)))

whole_takes : (r : Result Read (ℕ × Why)) (s : Plan) → whole r ≡ Ok s → (x : Read) × (r ≡ Ok x) × (alone x ≡ Ok s)
whole_takes (Ok x) s e = (x, refl, e)
whole_takes (Err d) s e = absurd cc

pub scenario-run : (text : List ℕ) (s : Plan) → scenario_of text ≡ Ok s → (ls : List (List Word)) × (text ≡ text_of ls) × (run start ls ≡ Ok (reading place.Ended s))
unfolding scenario_of
scenario-run text s e =
    let w = whole_takes (front_of text) s e in
    let t = led start 1 (lines_of text) w.0 s w.1 w.2 in
    (t.0, sym (join_with_byte-slice_split 10 text) ∙ ap (join_with_byte 10) t.1 ∙ joined t.0, t.2)
