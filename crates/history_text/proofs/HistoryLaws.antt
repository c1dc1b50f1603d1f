-- What is read as a history is its text, and a history's text is read as it.
use Rattle.std.proofs.Common.{◌≡◌, ℕ, ◌+◌, ◌<◌, ◌≤◌, ◌^◌, Bool, true, false, cond, ltb, List, [], ◌∷◌, ◌++◌, length, map, Option, Some, None, Result, Ok, Err, refl, sym, ap, ◌∙◌, arith, subst, append_assoc, append-nil}
use Rattle.std.specs.Prelude.{codes}
use Rattle.std.specs.List.{AllByRecursion, list_all, join_with_byte}
use Rattle.std.specs.Char.{is_ascii_digit}
use Rattle.std.specs.Fmt.{decimal}
use Rattle.std.specs.Str.{bytes_eq}
use Rattle.std.proofs.lemmas.Bool.{ltb-true, lt-ltb, false_from_ne_true, false≢true}
use Rattle.std.proofs.lemmas.Fmt.{digits_decimal}
use Rattle.std.proofs.lemmas.List.{length-append}
use Rattle.std.proofs.lemmas.List.Splits.{join_with_byte-slice_split}
use Rattle.std.proofs.lemmas.Slice.Eq.{bytes_eq-Decides}
use Rattle.kern_ids.specs.declared.faults.Why.{Why}
use Rattle.kern_ids.specs.declared.faults.Why.TheVariants as why
use Rattle.kern_ids.specs.declared.entries.Entry.{Entry}
use Rattle.line_text.specs.Cut.{Word, lines_of, words_of, line_of, text_of}
use Rattle.line_text.specs.Numbers.{is_plain, number_in}
use Rattle.line_text.specs.Words.{finished}
use Rattle.line_text.proofs.NumberLemmas.{own}
use Rattle.line_text.proofs.GrammarLemmas.{bind_ok, ok_is}
use Rattle.line_text.proofs.WordLaws.{guard_then, number_in_again, finished_takes}
use Rattle.line_text.proofs.CutLaws.{IsClean, words_again, lines_again, decimal_clean, clean_by}
use Rattle.history_text.specs.Entries.{entry_words}
use Rattle.history_text.specs.History.{opening_words, done_words, history_lines, history_text}
use Rattle.history_text.specs.EntryReading.{entry_of, HasText}
use Rattle.history_text.specs.HistoryReading.{closing_words, one_more, said_by, line_says, closed, entries_from, opened, history_of}
use Rattle.history_text.proofs.EntryLaws.{entry_takes, entry_again, entry_clean}
use Rattle.history_text.proofs.LineLemmas.{go, entries-next, entries-last, opened-next, opened-last}

same_word : (w v : Word) → bytes_eq w v ≡ true → w ≡ v
same_word w v e = let d = bytes_eq-Decides w v in d.0 e

word_same : (w : Word) → bytes_eq w w ≡ true
word_same w = let d = bytes_eq-Decides w w in d.1 refl

-- ---- what a line says

-- an entry's words, or those of the closing line
abbrev line_words : ℕ → Option Entry → List Word
line_words count None = done_words count
line_words count (Some e) = entry_words e

abbrev IsIn : ℕ → Option Entry → Type 0
IsIn count None = Unit {0}
IsIn count (Some e) = HasText e × (count < 200000)

abbrev SaysSo : ℕ → List ℕ → Option Entry → Type 0
SaysSo count line said = (line ≡ line_of (line_words count said)) × IsIn count said

said_ok : (x y : Option Entry) → (Rattle.line_text.proofs.GrammarLemmas.done x) ≡ Ok y → x ≡ y
said_ok x y e = ok_is x y e

closing_takes : (count : ℕ) (ws : List Word) (said : Option Entry) → closing_words count ws ≡ Ok said → (ws ≡ decimal count ∷ []) × (None ≡ said)
unfolding closing_words
closing_takes count [] said e = absurd cc
closing_takes count (w ∷ ws) said e =
    let b = bind_ok (finished ws w) (λ w. cond (is_plain w) (cond (bytes_eq w (decimal count)) (Ok None) (Err why.Count)) (Err why.Number)) said e in
    let d = finished_takes ws w b.0 b.1 in
    let g = guard_then (is_plain b.0) (cond (bytes_eq b.0 (decimal count)) (Ok None) (Err why.Count)) why.Number said b.2 in
    let h = guard_then (bytes_eq b.0 (decimal count)) (Ok None) why.Count said g.1 in
    (ap (λ (v : Word). v ∷ ws) (d.1 ∙ same_word b.0 (decimal count) h.0) ∙ ap (λ (v : List Word). decimal count ∷ v) d.0, said_ok None said h.1)

more_takes : (count : ℕ) (line : List ℕ) (r : Result Entry Why) (said : Option Entry) → entry_of line ≡ r → one_more count r ≡ Ok said → SaysSo count line said
more_takes count line (Err d) said is e = absurd cc
more_takes count line (Ok x) said is e =
    let g = guard_then (ltb count 200000) (Ok (Some x)) why.Limit said e in
    let t = entry_takes line x is in
    subst (SaysSo count line) (said_ok (Some x) said g.1) (t.0, (t.1, ltb-true count 200000 g.0))

said_when : (b : Bool) (count : ℕ) (line : List ℕ) (w : Word) (ws : List Word) (said : Option Entry) → words_of line ≡ w ∷ ws → bytes_eq w (codes "done") ≡ b → cond b (closing_words count ws) (one_more count (entry_of line)) ≡ Ok said → SaysSo count line said
said_when true count line w ws said cut is e =
    let c = closing_takes count ws said e in
    let words : words_of line ≡ done_words count = cut ∙ ap (λ (v : Word). v ∷ ws) (same_word w (codes "done") is) ∙ ap (λ (v : List Word). codes "done" ∷ v) c.0 in
    subst (SaysSo count line) c.1 (sym (join_with_byte-slice_split 32 line) ∙ ap line_of words, tt)
said_when false count line w ws said cut is e = more_takes count line (entry_of line) said refl e

said_takes : (count : ℕ) (line : List ℕ) (ws : List Word) (said : Option Entry) → words_of line ≡ ws → said_by count line ws ≡ Ok said → SaysSo count line said
said_takes count line [] said cut e = absurd cc
said_takes count line (w ∷ ws) said cut e = said_when (bytes_eq w (codes "done")) count line w ws said cut refl e

pub says_takes : (count : ℕ) (line : List ℕ) (said : Option Entry) → line_says count line ≡ Ok said → SaysSo count line said
unfolding line_says
says_takes count line said e = said_takes count line (words_of line) said refl e

pub not_done : (n : ℕ) → n < 2 ^ 64 → bytes_eq (decimal n) (codes "done") ≡ false
not_done n small =
    false_from_ne_true (bytes_eq (decimal n) (codes "done")) (λ e. false≢true (ap (list_all is_ascii_digit) (sym (same_word (decimal n) (codes "done") e)) ∙ digits_decimal own n (omega arith)))

pub entry_says : (count : ℕ) (e : Entry) → HasText e → count < 200000 → line_says count (line_of (entry_words e)) ≡ Ok (Some e)
unfolding line_says
entry_says count e h room =
    let clean = entry_clean e h in
    let small = h.who in
    let words : words_of (line_of (entry_words e)) ≡ entry_words e = words_again (decimal e.who) _ clean.0 clean.1 in
    ap (said_by count (line_of (entry_words e))) words ∙ rw (not_done e.who (omega (arith, small)), entry_again e h, lt-ltb count 200000 room) refl

plain : (n : ℕ) → n < 2 ^ 64 → is_plain (decimal n) ≡ true
unfolding number_in
plain n small = let g = guard_then (is_plain (decimal n)) _ why.Number n (number_in_again 0 n n small (omega arith) (omega arith)) in g.0

done_clean : (count : ℕ) → count < 2 ^ 64 → AllByRecursion IsClean (done_words count)
done_clean count small = (clean_by (codes "done") refl, (decimal_clean count small, tt))

done_says : (count : ℕ) → count < 2 ^ 64 → line_says count (line_of (done_words count)) ≡ Ok None
unfolding line_says closing_words
done_says count small =
    let clean = done_clean count small in
    let words : words_of (line_of (done_words count)) ≡ done_words count = words_again (codes "done") (decimal count ∷ []) clean.0 clean.1 in
    ap (said_by count (line_of (done_words count))) words ∙ rw (closing_words, plain count small, word_same (decimal count)) refl

-- ---- the lines behind the opening one

-- the lines of these entries and the closing one, and the part behind the last line feed
abbrev lines_behind : ℕ → List Entry → List (List ℕ)
lines_behind count es = map line_of (map entry_words es ++ done_words count ∷ []) ++ [] ∷ []

abbrev done : List Entry → Result (List Entry) (ℕ × Why)
done h = Ok h

abbrev fault : ℕ → Why → Result (List Entry) (ℕ × Why)
fault n d = Err (n, d)

history_is : (x y : List Entry) → done x ≡ done y → x ≡ y
history_is x y e = cc

not_done_fault : (n : ℕ) (d : Why) (h : List Entry) → fault n d ≡ done h → ⊥
not_done_fault n d h e = absurd cc

-- the entries that are read behind others
abbrev Behind : List Entry → List (List ℕ) → List Entry → Type 0
Behind h lines k = (es : List Entry) × (k ≡ h ++ es) × (lines ≡ lines_behind (length k) es) × AllByRecursion HasText es × (length h ≤ 200000 → length k ≤ 200000)

closed_takes : (h k : List Entry) (n : ℕ) (lines : List (List ℕ)) → closed h n lines ≡ Ok k → (lines ≡ [] ∷ []) × (h ≡ k)
closed_takes h k n [] e = absurd cc
closed_takes h k n ([] ∷ []) e = (refl, history_is h k e)
closed_takes h k n ([] ∷ line ∷ lines) e = absurd cc
closed_takes h k n ((b ∷ bs) ∷ lines) e = absurd cc

closing_behind : (h k : List Entry) (line : List ℕ) (lines : List (List ℕ)) → line ≡ line_of (done_words (length h)) → lines ≡ [] ∷ [] → h ≡ k → Behind h (line ∷ lines) k
closing_behind h k line lines is none same =
    subst (Behind h (line ∷ lines)) same ([], sym (append-nil h), ap (λ (x : List ℕ). x ∷ lines) is ∙ ap (λ (x : List (List ℕ)). line_of (done_words (length h)) ∷ x) none, tt, λ l. l)

entry_behind : (h k : List Entry) (e : Entry) (line : List ℕ) (lines : List (List ℕ)) → line ≡ line_of (entry_words e) → HasText e → length h < 200000 → Behind (h ++ e ∷ []) lines k → Behind h (line ∷ lines) k
entry_behind h k e line lines is has room b = (
  e ∷ b.0,
  b.1 ∙ append_assoc h (e ∷ []) b.0,
  ap (λ (x : List ℕ). x ∷ lines) is ∙ ap (λ (x : List (List ℕ)). line_of (entry_words e) ∷ x) b.2,
  (has, b.3),
  λ l. b.4 (omega (arith, room, length-append h (e ∷ []))),
)

go_takes : (h k : List Entry) (n : ℕ) (line : List ℕ) (lines : List (List ℕ)) (said : Result (Option Entry) Why) → line_says (length h) line ≡ said → go h n lines said ≡ Ok k
    → ((e : Entry) → entries_from (h ++ e ∷ []) (n + 1) lines ≡ Ok k → Behind (h ++ e ∷ []) lines k) → Behind h (line ∷ lines) k
go_takes h k n line lines (Err d) is e more = absurd (not_done_fault n d k e)
go_takes h k n line lines (Ok None) is e more =
    let s = says_takes (length h) line None is in
    let c = closed_takes h k (n + 1) lines e in
    closing_behind h k line lines s.0 c.0 c.1
go_takes h k n line lines (Ok (Some x)) is e more =
    let s = says_takes (length h) line (Some x) is in
    let i = s.1 in
    entry_behind h k x line lines s.0 i.0 i.1 (more x e)

nothing : (h k : List Entry) (n : ℕ) → entries_from h n [] ≡ Ok k → ⊥
unfolding entries_from
nothing h k n e = absurd (not_done_fault n why.NoEnd k e)

entries_take : (h k : List Entry) (n : ℕ) (lines : List (List ℕ)) → entries_from h n lines ≡ Ok k → Behind h lines k
entries_take h k n [] e = absurd (nothing h k n e)
entries_take h k n (last ∷ []) e = absurd (not_done_fault n why.NoEnd k (sym (entries-last h n last) ∙ e))
entries_take h k n (line ∷ next ∷ lines) e =
    go_takes h k n line (next ∷ lines) (line_says (length h) line) refl (sym (entries-next h n line next lines) ∙ e) (λ x f. entries_take (h ++ x ∷ []) k (n + 1) (next ∷ lines) f)

-- two lines at least
entries_step : (h : List Entry) (n : ℕ) (line : List ℕ) (ls : List (List Word)) (said : Result (Option Entry) Why) → line_says (length h) line ≡ said → entries_from h n (line ∷ (map line_of ls ++ [] ∷ [])) ≡ go h n (map line_of ls ++ [] ∷ []) said
entries_step h n line [] said is = entries-next h n line [] [] ∙ ap (go h n ([] ∷ [])) is
entries_step h n line (l ∷ ls) said is = entries-next h n line (line_of l) (map line_of ls ++ [] ∷ []) ∙ ap (go h n (line_of l ∷ (map line_of ls ++ [] ∷ []))) is

entries_again : (h es : List Entry) (n : ℕ) → AllByRecursion HasText es → length (h ++ es) ≤ 200000 → entries_from h n (lines_behind (length (h ++ es)) es) ≡ Ok (h ++ es)
entries_again h [] n all few =
    let same : h ++ [] ≡ h = append-nil h in
    rw same (entries_step h n (line_of (done_words (length h))) [] (Ok None) (done_says (length h) (let f : length h ≤ 200000 = rw same at few in omega (arith, f))))
entries_again h (e ∷ es) n all few =
    let count = length (h ++ e ∷ es) in
    let room : length h < 200000 = omega (arith, few, length-append h (e ∷ es)) in
    let step = entries_step h n (line_of (entry_words e)) (map entry_words es ++ done_words count ∷ []) (Ok (Some e)) (entry_says (length h) e all.0 room) in
    let same : h ++ e ∷ es ≡ (h ++ e ∷ []) ++ es = sym (append_assoc h (e ∷ []) es) in
    let more = entries_again (h ++ e ∷ []) es (n + 1) all.1 (subst (λ (x : List Entry). length x ≤ 200000) same few) in
    step ∙ subst (λ (x : List Entry). entries_from (h ++ e ∷ []) (n + 1) (lines_behind (length x) es) ≡ Ok x) (sym same) more

-- ---- the whole text

joined : (ls : List (List Word)) → join_with_byte 10 (map line_of ls ++ [] ∷ []) ≡ text_of ls
joined [] = refl
joined (l ∷ []) = sym (append-nil (line_of l ++ 10 ∷ []))
joined (l ∷ m ∷ ls) = ap (λ (x : List ℕ). line_of l ++ 10 ∷ x) (joined (m ∷ ls)) ∙ sym (append_assoc (line_of l) (10 ∷ []) (text_of (m ∷ ls)))

abbrev HistoryIs : List ℕ → List Entry → Type 0
HistoryIs text h = (text ≡ history_text h) × AllByRecursion HasText h × (length h ≤ 200000)

opening_is : (b : Bool) (n : ℕ) (line next : List ℕ) (lines : List (List ℕ)) (h : List Entry) → bytes_eq line (codes "history") ≡ b → cond b (entries_from [] (n + 1) (next ∷ lines)) (Err (n, why.Word)) ≡ Ok h
    → (line ∷ next ∷ lines ≡ map line_of (history_lines h) ++ [] ∷ []) × AllByRecursion HasText h × (length h ≤ 200000)
opening_is false n line next lines h is e = absurd (not_done_fault n why.Word h e)
opening_is true n line next lines h is e =
    let b = entries_take [] h (n + 1) (next ∷ lines) e in
    let same : b.0 ≡ h = sym b.1 in
    (ap (λ (x : List ℕ). x ∷ next ∷ lines) (same_word line (codes "history") is) ∙ ap (λ (x : List (List ℕ)). codes "history" ∷ x) (b.2 ∙ ap (lines_behind (length h)) same), subst (AllByRecursion HasText) same b.3, b.4 (omega arith))

opened_none : (n : ℕ) (h : List Entry) → opened n [] ≡ Ok h → ⊥
unfolding opened
opened_none n h e = absurd (not_done_fault n why.NoEnd h e)

lines_take : (n : ℕ) (lines : List (List ℕ)) (h : List Entry) → opened n lines ≡ Ok h → (lines ≡ map line_of (history_lines h) ++ [] ∷ []) × AllByRecursion HasText h × (length h ≤ 200000)
lines_take n [] h e = absurd (opened_none n h e)
lines_take n (last ∷ []) h e = absurd (not_done_fault n why.NoEnd h (sym (opened-last n last) ∙ e))
lines_take n (line ∷ next ∷ lines) h e = opening_is (bytes_eq line (codes "history")) n line next lines h refl (sym (opened-next n line next lines) ∙ e)

pub history_takes : (n : ℕ) (text : List ℕ) (h : List Entry) → history_of n text ≡ Ok h → (text ≡ history_text h) × AllByRecursion HasText h × (length h ≤ 200000)
history_takes n text h e =
    let t = lines_take n (lines_of text) h e in
    (sym (join_with_byte-slice_split 10 text) ∙ ap (join_with_byte 10) t.0 ∙ joined (history_lines h), t.1, t.2)

entries_clean : (es : List Entry) (count : ℕ) → AllByRecursion HasText es → count < 2 ^ 64 → AllByRecursion (AllByRecursion IsClean) (map entry_words es ++ done_words count ∷ [])
entries_clean [] count all small = (done_clean count small, tt)
entries_clean (e ∷ es) count all small = (entry_clean e all.0, entries_clean es count all.1 small)

first_step : (n : ℕ) (ls : List (List Word)) → opened n (line_of opening_words ∷ (map line_of ls ++ [] ∷ [])) ≡ entries_from [] (n + 1) (map line_of ls ++ [] ∷ [])
first_step n [] = opened-next n (codes "history") [] []
first_step n (l ∷ ls) = opened-next n (codes "history") (line_of l) (map line_of ls ++ [] ∷ [])

pub history_again : (n : ℕ) (h : List Entry) → AllByRecursion HasText h → length h ≤ 200000 → history_of n (history_text h) ≡ Ok h
history_again n h all few =
    let clean : AllByRecursion (AllByRecursion IsClean) (history_lines h) = ((clean_by (codes "history") refl, tt), entries_clean h (length h) all (omega (arith, few))) in
    ap (opened n) (lines_again (history_lines h) clean) ∙ first_step n (map entry_words h ++ done_words (length h) ∷ []) ∙ entries_again [] h (n + 1) all few
