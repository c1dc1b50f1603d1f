-- Lines put together from parts, and texts from lines.
use Rattle.std.proofs.Common.{◌≡◌, ℕ, ◌+◌, ◌<◌, take, get_or, length, map, List, [], ◌∷◌, ◌++◌, sym, ap, ◌∙◌, append_assoc}
use Rattle.std.proofs.lemmas.List.{take_more, map-append, flat_map_more}
use Rattle.kern_ids.specs.declared.replies.Reply.{Reply}
use Rattle.line_text.specs.Cut.{Word, line_of, text_of, spaced}
use Rattle.line_text.proofs.Lines.{line_of-cons}
use Rattle.history_text.specs.Entries.{reply_word, reply_arguments, reply_words}
use Rattle.report_tables.specs.Table.{task_words, object_words}
use Rattle.report_tables.specs.declared.rows.TaskFacts.{TaskFacts}
use Rattle.report_tables.specs.declared.rows.ObjectFacts.{ObjectFacts}

-- a reply behind a space
pub spaced_reply : (a b c : List ℕ) (r : Reply) → b ≡ a ++ 32 ∷ [] → c ≡ b ++ line_of (reply_words r) → c ≡ a ++ spaced (reply_words r)
spaced_reply a b c r p q =
    q ∙ ap (λ (x : List ℕ). x ++ line_of (reply_words r)) p
    ∙ append_assoc a (32 ∷ []) (line_of (reply_words r))
    ∙ ap (λ (x : List ℕ). a ++ 32 ∷ x) (line_of-cons (reply_word r) (reply_arguments r))

-- one line more of a text
texts-more : {A : Type 0} (words : A → List Word) (xs : List A) (i : ℕ) (x : A) → i < length xs → x ≡ get_or xs i x → text_of (map words (take (i + 1) xs)) ≡ text_of (map words (take i xs)) ++ (line_of (words x) ++ 10 ∷ [])
texts-more words xs i x l r =
    let more : take (i + 1) xs ≡ take i xs ++ x ∷ [] = take_more xs i x l ∙ ap (λ y. take i xs ++ y ∷ []) (sym r) in
    ap (λ (lines : List (List Word)). text_of lines) (ap (map words) more ∙ map-append words (take i xs) (x ∷ []))
    ∙ sym (flat_map_more (λ (ws : List Word). line_of ws ++ 10 ∷ []) [] (map words (take i xs)) (words x))

pub task_texts : (xs : List TaskFacts) (i : ℕ) (x : TaskFacts) → i < length xs → x ≡ get_or xs i x → text_of (map task_words (take (i + 1) xs)) ≡ text_of (map task_words (take i xs)) ++ (line_of (task_words x) ++ 10 ∷ [])
task_texts xs i x l r = texts-more task_words xs i x l r

pub object_texts : (xs : List ObjectFacts) (i : ℕ) (x : ObjectFacts) → i < length xs → x ≡ get_or xs i x → text_of (map object_words (take (i + 1) xs)) ≡ text_of (map object_words (take i xs)) ++ (line_of (object_words x) ++ 10 ∷ [])
object_texts xs i x l r = texts-more object_words xs i x l r
