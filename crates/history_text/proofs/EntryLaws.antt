-- What is read as an entry is its text, and an entry's text is read as it.
use Rattle.std.proofs.Common.{◌≡◌, ℕ, ◌+◌, ◌<◌, false, eqb, List, [], ◌∷◌, ◌++◌, length, take, drop, Option, Some, None, Result, Ok, Err, refl, sym, ap, ◌∙◌, arith, subst, append_assoc}
use Rattle.std.specs.Prelude.{codes}
use Rattle.std.specs.List.{AllByRecursion, join_with_byte}
use Rattle.std.specs.Fmt.{decimal}
use Rattle.std.proofs.lemmas.Bool.{ne_eqb}
use Rattle.std.proofs.lemmas.List.{length-append, length-take-le, take-append-drop}
use Rattle.std.proofs.Math.Seq.{take-append_seam}
use Rattle.std.proofs.lemmas.List.Splits.{join_with_byte-slice_split}
use Rattle.kern_ids.specs.declared.faults.Why.{Why}
use Rattle.kern_ids.specs.declared.calls.Call.{Call}
use Rattle.kern_ids.specs.declared.replies.Reply.{Reply}
use Rattle.kern_ids.specs.declared.entries.Entry.{Entry}
use Rattle.line_text.specs.declared.verb.Verb.{Verb}
use Rattle.line_text.specs.Cut.{Word, lines_of, words_of, line_of}
use Rattle.line_text.specs.Words.{reference}
use Rattle.line_text.specs.Verbs.{verb_of, verb_text, verb_of_call}
use Rattle.line_text.specs.Calls.{call_words, call_arguments, call_of}
use Rattle.line_text.proofs.GrammarLemmas.{bind_ok, ok_is}
use Rattle.line_text.proofs.WordLaws.{reference_spelled, reference_again}
use Rattle.line_text.proofs.CutLaws.{IsClean, IsOneLine, words_again, one_line, decimal_clean, clean_by}
use Rattle.line_text.proofs.CutLemmas.{some_part}
use Rattle.line_text.proofs.CallLaws.{Reads, verb_takes, verb_again, call_takes, call_again, call_clean}
use Rattle.line_text.proofs.Lines.{line_of-append}
use Rattle.history_text.specs.Entries.{entry_words, reply_words, reply_word, reply_arguments}
use Rattle.history_text.specs.ReplyReading.{reply_of, HasReply}
use Rattle.history_text.specs.EntryReading.{Parts, sign_cut, verb_word, entry_parts, entry_cut, entry_of, HasText, BeginsWith}
use Rattle.history_text.proofs.Found.{named_takes}
use Rattle.history_text.proofs.ReplyTakes.{reply_takes}
use Rattle.history_text.proofs.ReplyAgain.{reply_again, reply_clean}
use Rattle.history_text.proofs.Signs.{decimal_unsigned, call_unsigned, line_unsigned, sign_again, sign_takes}

-- ---- the words of an entry

-- thread and call
abbrev pub front_words : Entry → List Word
front_words e = decimal e.who ∷ call_words e.call

pub entry_line : (e : Entry) → line_of (entry_words e) ≡ line_of (front_words e) ++ 32 ∷ 61 ∷ 32 ∷ line_of (reply_words e.reply)
entry_line e = line_of-append (decimal e.who) (call_words e.call) (codes "=") (reply_words e.reply)

verb_word_takes : (ws : List Word) (x : Verb × List Word) → verb_word ws ≡ Ok x → ws ≡ verb_text x.0 ∷ x.1
verb_word_takes [] x e = absurd cc
verb_word_takes (w ∷ ws) x e =
    let n = named_takes (verb_of w) ws x e in
    ap (λ (v : Word). v ∷ ws) (verb_takes w x.0 n.0) ∙ ap (λ (v : List Word). verb_text x.0 ∷ v) n.1

abbrev PartsAre : List Word → List Word → Entry → Type 0
PartsAre front back e = (front ≡ front_words e) × (back ≡ reply_words e.reply) × HasText e

parts_by : (front w1 w2 back : List Word) (who : ℕ) (v : Verb) (c : Call) (r : Reply) → front ≡ decimal who ∷ w1 → w1 ≡ verb_text v ∷ w2 → who < 32 → Reads 64 256 v w2 c → back ≡ reply_words r → HasReply r → PartsAre front back (record { who = who; call = c; reply = r })
parts_by front w1 w2 back who v c r e1 e2 small call words has = (
  e1 ∙ ap (λ (x : List Word). decimal who ∷ x) (e2 ∙ ap (λ (x : List Word). verb_text v ∷ x) call.1 ∙ ap (λ (x : Verb). verb_text x ∷ call_arguments c) (sym call.0)),
  words,
  record { who = small; call = call.2; reply = has },
)

parts_takes : (front back : List Word) (e : Entry) → entry_parts front back ≡ Ok e → PartsAre front back e
unfolding entry_parts
parts_takes front back e h =
    let w = bind_ok (reference 31 32 front) _ e h in
    let v = bind_ok (verb_word w.0.1) _ e w.2 in
    let c = bind_ok (call_of 64 256 v.0.0 v.0.1) _ e v.2 in
    let r = bind_ok (reply_of back) (λ reply. Ok (record { who = w.0.0; call = c.0; reply = reply })) e c.2 in
    let who = reference_spelled 31 32 front w.0 (omega arith) w.1 in
    let reply = reply_takes back r.0 r.1 in
    subst (PartsAre front back) (ok_is (record { who = w.0.0; call = c.0; reply = r.0 }) e r.2)
    (parts_by front w.0.1 v.0.1 back w.0.0 v.0.0 c.0 r.0 who.0 (verb_word_takes w.0.1 v.0 v.1) who.1 (call_takes 64 256 v.0.0 v.0.1 c.0 c.1) reply.0 reply.1)

parts_again : (e : Entry) → HasText e → entry_parts (front_words e) (reply_words e.reply) ≡ Ok e
unfolding entry_parts
parts_again e h =
    rw (entry_parts, reference_again 31 32 e.who (call_words e.call) (omega arith) (let w = h.who in omega (arith, w)) h.who, verb_again (verb_of_call e.call), call_again 64 256 e.call (omega arith) (omega arith) h.call, reply_again e.reply h.reply) refl

-- ---- the line of an entry

cut_takes : (o : Option Parts) (e : Entry) → entry_cut o ≡ Ok e → (p : Parts) × (o ≡ Some p) × (entry_parts (words_of p.0) (words_of p.1) ≡ Ok e)
cut_takes None e h = absurd cc
cut_takes (Some p) e h = (p, refl, h)

pub entry_takes : (line : List ℕ) (e : Entry) → entry_of line ≡ Ok e → (line ≡ line_of (entry_words e)) × HasText e
unfolding entry_of
entry_takes line e h =
    let c = cut_takes (sign_cut line) e h in
    let p = c.0 in
    let t = parts_takes (words_of p.0) (words_of p.1) e c.2 in
    let front : p.0 ≡ line_of (front_words e) = sym (join_with_byte-slice_split 32 p.0) ∙ ap line_of t.0 in
    let back : p.1 ≡ line_of (reply_words e.reply) = sym (join_with_byte-slice_split 32 p.1) ∙ ap line_of t.1 in
    (sign_takes line p c.1 ∙ ap (λ (x : List ℕ). x ++ 32 ∷ 61 ∷ 32 ∷ p.1) front ∙ ap (λ (x : List ℕ). line_of (front_words e) ++ 32 ∷ 61 ∷ 32 ∷ x) back ∙ sym (entry_line e), t.2)

clean_append : (xs ys : List Word) → AllByRecursion IsClean xs → AllByRecursion IsClean ys → AllByRecursion IsClean (xs ++ ys)
clean_append [] ys c d = d
clean_append (x ∷ xs) ys c d = (c.0, clean_append xs ys c.1 d)

who_clean : (e : Entry) → HasText e → IsClean (decimal e.who)
who_clean e h = let w = h.who in decimal_clean e.who (omega (arith, w))

words_clean : (e : Entry) → HasText e → AllByRecursion IsClean (call_words e.call)
words_clean e h = call_clean 64 256 e.call (omega arith) (omega arith) h.call

pub entry_clean : (e : Entry) → HasText e → AllByRecursion IsClean (entry_words e)
entry_clean e h = (who_clean e h, clean_append (call_words e.call) (codes "=" ∷ reply_words e.reply) (words_clean e h) (clean_by (codes "=") refl, reply_clean e.reply h.reply))

pub entry_again : (e : Entry) → HasText e → entry_of (line_of (entry_words e)) ≡ Ok e
unfolding entry_of
entry_again e h =
    let small = h.who in
    let plain = line_unsigned (decimal e.who) (call_words e.call) (decimal_unsigned e.who (omega (arith, small))) (call_unsigned e.call h.call) in
    let cut : sign_cut (line_of (entry_words e)) ≡ Some (line_of (front_words e), line_of (reply_words e.reply)) = ap sign_cut (entry_line e) ∙ sign_again (line_of (front_words e)) (line_of (reply_words e.reply)) plain in
    let reply = reply_clean e.reply h.reply in
    let front : words_of (line_of (front_words e)) ≡ front_words e = words_again (decimal e.who) (call_words e.call) (who_clean e h) (words_clean e h) in
    let back : words_of (line_of (reply_words e.reply)) ≡ reply_words e.reply = words_again (reply_word e.reply) (reply_arguments e.reply) reply.0 reply.1 in
    ap entry_cut cut ∙ rw (front, back) (parts_again e h)

-- ---- bytes that begin with an entry

pub line_then : (line rest : List ℕ) → IsOneLine line → lines_of (line ++ 10 ∷ rest) ≡ line ∷ lines_of rest
line_then [] rest one = refl
line_then (b ∷ bs) rest one =
    let no : eqb b 10 ≡ false = ne_eqb b 10 (λ e. absurd (omega (arith, one.0))) in
    rw (no, line_then bs rest one.1) refl

joined : (line : List ℕ) (parts : List (List ℕ)) → (parts ≡ [] → ⊥) → join_with_byte 10 (line ∷ parts) ≡ line ++ 10 ∷ join_with_byte 10 parts
joined line [] some = absurd (some refl)
joined line (part ∷ parts) some = refl

-- a text is its first line and what is behind it
pub first_line : (bytes line rest : List ℕ) → lines_of bytes ≡ line ∷ lines_of rest → bytes ≡ line ++ 10 ∷ rest
first_line bytes line rest cut =
    sym (join_with_byte-slice_split 10 bytes) ∙ ap (join_with_byte 10) cut ∙ joined line (lines_of rest) (some_part (λ b. eqb b 10) rest) ∙ ap (λ (x : List ℕ). line ++ 10 ∷ x) (join_with_byte-slice_split 10 rest)

pub entry_begins : (bytes line rest : List ℕ) (e : Entry) → lines_of bytes ≡ line ∷ lines_of rest → entry_of line ≡ Ok e → BeginsWith bytes e (length line + 1)
entry_begins bytes line rest e cut h =
    let t = entry_takes line e h in
    let all : bytes ≡ (line ++ 10 ∷ []) ++ rest = first_line bytes line rest cut ∙ sym (append_assoc line (10 ∷ []) rest) in
    let long : length (line ++ 10 ∷ []) ≡ length line + 1 = length-append line (10 ∷ []) in
    let within : length bytes ≡ length (line ++ 10 ∷ []) + length rest = ap length all ∙ length-append (line ++ 10 ∷ []) rest in
    (omega (arith, within, long), ap (λ (k : ℕ). take k bytes) (sym long) ∙ ap (take (length (line ++ 10 ∷ []))) all ∙ take-append_seam (line ++ 10 ∷ []) rest ∙ ap (λ (x : List ℕ). x ++ 10 ∷ []) t.0)

pub begins_cut : (bytes : List ℕ) (e : Entry) (n : ℕ) → HasText e → BeginsWith bytes e n → (lines_of bytes ≡ line_of (entry_words e) ∷ lines_of (drop n bytes)) × (n ≡ length (line_of (entry_words e)) + 1)
begins_cut bytes e n h b =
    let line = line_of (entry_words e) in
    let all : bytes ≡ line ++ 10 ∷ drop n bytes = sym (take-append-drop n bytes) ∙ ap (λ (x : List ℕ). x ++ drop n bytes) b.1 ∙ append_assoc line (10 ∷ []) (drop n bytes) in
    let count : n ≡ length (line ++ 10 ∷ []) = sym (length-take-le n bytes b.0) ∙ ap length b.1 in
    (ap lines_of all ∙ line_then line (drop n bytes) (one_line (entry_words e) (entry_clean e h)), count ∙ length-append line (10 ∷ []))

-- the first of two cuts of the same bytes
abbrev first_of : List (List ℕ) → List ℕ
first_of [] = []
first_of (line ∷ lines) = line

pub begins_first : (bytes line rest : List ℕ) (e : Entry) (n : ℕ) → HasText e → BeginsWith bytes e n → lines_of bytes ≡ line ∷ lines_of rest → (entry_of line ≡ Ok e) × (n ≡ length line + 1)
begins_first bytes line rest e n h b cut =
    let c = begins_cut bytes e n h b in
    let same : line_of (entry_words e) ≡ line = ap first_of (sym c.0 ∙ cut) in
    (ap entry_of (sym same) ∙ entry_again e h, c.1 ∙ ap (λ (x : List ℕ). length x + 1) same)

abbrev rest_of : List (List ℕ) → List (List ℕ)
rest_of [] = []
rest_of (line ∷ lines) = lines

-- bytes with no line feed begin with no entry
pub begins_none : (bytes : List ℕ) (e : Entry) (n : ℕ) → HasText e → BeginsWith bytes e n → lines_of bytes ≡ bytes ∷ [] → ⊥
begins_none bytes e n h b cut = let c = begins_cut bytes e n h b in some_part (λ x. eqb x 10) (drop n bytes) (ap rest_of (sym c.0 ∙ cut))

abbrev read : Entry → Result Entry Why
read e = Ok e

abbrev bad : Why → Result Entry Why
bad why = Err why

not_ok : (e : Entry) (why : Why) → bad why ≡ read e → ⊥
not_ok e why h = absurd cc

pub begins_not : (bytes line rest : List ℕ) (why : Why) (e : Entry) (n : ℕ) → lines_of bytes ≡ line ∷ lines_of rest → entry_of line ≡ Err why → HasText e → BeginsWith bytes e n → ⊥
begins_not bytes line rest why e n cut bad_line h b = let f = begins_first bytes line rest e n h b cut in not_ok e why (sym bad_line ∙ f.0)
