-- A line that is taken unread.
use Rattle.std.proofs.Common.{◌≡◌, ℕ, zero, suc, ◌+◌, ◌<◌, List, [], ◌∷◌, ◌++◌, length, take, Option, Some, None, refl, sym, ap, ◌∙◌, arith, subst, false, is_some}
use Rattle.kern_ids.specs.declared.entries.Entry.{Entry}
use Rattle.history_text.specs.EntryReading.{IsLineOf}
use Rattle.history_text.specs.HistoryReading.{line_says}
use Rattle.history_text.proofs.HistoryLaws.{entry_says}
use Rattle.history_feed.specs.declared.expected.Expected.TheVariants as next
use Rattle.history_feed.specs.declared.feed.HistoryFeed.{HistoryFeed}
use Rattle.history_feed.specs.declared.kept_line.KeptLine.{KeptLine}
use Rattle.history_feed.specs.Kept.{kept_of}
use Rattle.history_feed.specs.Left.{Place, said_of, rest_behind}
use Rattle.history_feed.specs.Feeds.{Keeps, StandsFor, IsEnded, IsFed, IsNextLine}
use Rattle.history_feed.proofs.KeptLaws.{kept-len}
use Rattle.history_feed.proofs.SaysLaws.{said}
use Rattle.history_feed.proofs.FeedLaws.{taken-line, fed-line, ended-ok, entry-says, said-at}

pub none-from : {A : Type 0} (o : Option A) → is_some o ≡ false → o ≡ None
none-from None h = refl
none-from (Some x) h = cc

no-bytes : (xs : List ℕ) → length xs ≡ 0 → xs ≡ []
no-bytes [] e = refl
no-bytes (x ∷ xs) e = absurd (omega (arith, e))

pub kept-empty : (k : KeptLine) (line : List ℕ) → k ≡ kept_of line → k.len ≡ 0 → line ≡ []
kept-empty k line e none = no-bytes line (sym (kept-len k line e) ∙ none)

abbrev some : Entry → Option Entry
some e = Some e

-- one line more, and one entry
abbrev pub Counted : HistoryFeed → HistoryFeed → Type 0
Counted old new = (new.first ≡ old.first) × (new.line ≡ old.line + 1) × (new.entries ≡ old.entries + 1) × (new.expected ≡ next.Entries) × (new.fault ≡ old.fault) × (new.rest ≡ kept_of [])

ended : (old new : HistoryFeed) (piece line rest : List ℕ) (e : Entry) (p : Place) → IsNextLine old piece line → IsLineOf line e → Counted old new → Keeps old p rest → IsEnded new (some e) p (said_of p.next (length p.entries) (rest ++ line))
ended old new piece line rest e p n is c k =
    let none : rest ≡ [] = kept-empty old.rest rest k.kept n.empty in
    let says : line_says old.entries line ≡ said (Some e) = ap (line_says old.entries) is.words ∙ entry_says old.entries e is.text n.few in
    ended-ok new (some e) p _ (record { expected = next.Entries; entry = Some e })
    (said-at old p rest (rest ++ line) next.Entries _ k n.expected (entry-says old.entries (rest ++ line) (said (Some e)) (ap (λ (r : List ℕ). line_says old.entries (r ++ line)) none ∙ says)))
    (c.4 ∙ n.sound) (c.1 ∙ ap (λ (m : ℕ). m + 1) k.line) (c.2 ∙ ap (λ (m : ℕ). m + 1) k.entries) c.3 c.5 refl

pub passed : (old new : HistoryFeed) (piece line : List ℕ) (e : Entry) → IsNextLine old piece line → IsLineOf line e → Counted old new → (text : List ℕ) → StandsFor old text → IsFed old new (Some e) text piece (take (length line + 1) piece)
passed old new piece line e n is c text h =
    subst (IsFed old new (some e) text piece) (sym (taken-line piece line n.behind n.cut))
    (fed-line old new (some e) text piece line n.behind n.cut c.0 n.sound h (λ p k. ended old new piece line (rest_behind text) e p n is c k))
