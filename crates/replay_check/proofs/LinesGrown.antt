-- A check that takes a line by its text.
use Rattle.std.proofs.Common.{◌≡◌, ℕ, ◌+◌, ◌≤◌, true, leb, List, [], ◌∷◌, ◌++◌, length, take, Option, Some, None, Result, Ok, Err, refl, sym, ap, ◌∙◌, arith, subst}
use Rattle.std.specs.List.{list_all}
use Rattle.std.specs.Char.{is_ascii_digit}
use Rattle.std.specs.Fmt.{decimal}
use Rattle.std.proofs.lemmas.Bool.{and_parts, leb-true}
use Rattle.std.proofs.lemmas.Fmt.{digits_decimal}
use Rattle.kern_ids.specs.declared.faults.Why.{Why}
use Rattle.kern_ids.specs.declared.entries.Entry.{Entry}
use Rattle.kernel_model.specs.Scenario.{Plan}
use Rattle.line_text.proofs.NumberLemmas.{own}
use Rattle.history_text.specs.EntryReading.{IsLineOf}
use Rattle.history_text.specs.HistoryReading.{line_says}
use Rattle.history_text.proofs.HistoryLaws.{says_takes}
use Rattle.history_feed.specs.declared.expected.Expected.{Expected}
use Rattle.history_feed.specs.declared.expected.Expected.TheVariants as next
use Rattle.history_feed.specs.declared.feed.HistoryFeed.{HistoryFeed}
use Rattle.history_feed.specs.Left.{Place, said_entry, said_of, moved, left_by, rest_behind}
use Rattle.history_feed.specs.Feeds as feeds
use Rattle.history_feed.specs.Feeds.{Keeps, IsNextLine}
use Rattle.history_feed.proofs.FeedLaws.{at-place, taken-line, no-feed}
use Rattle.history_feed.proofs.LeftLaws.{line-place}
use Rattle.history_feed.proofs.Passed.{kept-empty}
use Rattle.history_feed.proofs.SaysLaws.{says-entry}
use Rattle.replay_check.specs.Lines.{BeginsWithNumber}
use Rattle.replay_check.specs.Replays as replays
use Rattle.replay_check.specs.Replays.{ReplayView}
use Rattle.replay_check.specs.Pieces.{StandsFor, Stands, parts}
use Rattle.replay_check.proofs.Few.{left-few, IsFew}
use Rattle.replay_check.proofs.Grown.{ReplaysAt, place_is, not_both}

-- ---- a line that begins with a number is not the closing one

not-done : (ds rest xs : List ℕ) → list_all is_ascii_digit ds ≡ true → ds ++ 32 ∷ rest ≡ 100 ∷ xs → ⊥
not-done [] rest xs all e = let no : ◌≡◌ {A = ℕ} 32 100 = cc in absurd (omega (arith, no))
not-done (d ∷ ds) rest xs all e =
    let p = and_parts (is_ascii_digit d) (list_all is_ascii_digit ds) all in
    let r = and_parts (leb 48 d) (leb d 57) p.0 in
    let high : d ≤ 57 = leb-true _ _ r.1 in
    let same : ◌≡◌ {A = ℕ} d 100 = cc in
    absurd (omega (arith, high, same))

closing-not : (count : ℕ) (line : List ℕ) → BeginsWithNumber line → line_says count line ≡ Ok None → ⊥
closing-not count line b e = not-done (decimal b.0) b.1 _ (digits_decimal own b.0 (let small = b.2 in omega (arith, small))) (sym b.3 ∙ (says_takes count line None e).0)

-- ---- where a line is next

-- the place where it stands
pub next-place : (s t : Plan) (f : HistoryFeed) (r : ReplayView) (n : ℕ) (text piece line : List ℕ) → IsNextLine f piece line → StandsFor s n text (parts t f r) → (p : Place) × (left_by n text ≡ Ok p) × Keeps f p (rest_behind text)
next-place s t f r n text piece line is h =
    let at = at-place f text is.sound h.feed in
    (at.0, ap (λ (k : ℕ). left_by k text) (sym h.first) ∙ at.1, at.2)

-- the replay stands for the entries before it
pub can-take : (s : Plan) (f : HistoryFeed) (r : ReplayView) (piece line : List ℕ) (h : Stands (parts s f r)) → IsNextLine f piece line → replays.Stands s r
can-take s f r piece line h is =
    let at = next-place h.scenario s f r h.first h.text piece line is h.for_them in
    let p = at.0 in
    let few = subst IsFew at.1 (left-few h.first h.text) in
    subst (λ (t : Plan). replays.Stands t r) (sym h.for_them.scenario) (record { entries = p.entries; few = omega (arith, few); for_them = h.for_them.replay p at.1 })

-- whatever entry the line may be of, the replay stands for it too
said-replays : (s : Plan) (next : ReplayView) (p : Place) (line : List ℕ) (said : Result (Option Entry) Why) → line_says (length p.entries) line ≡ said → BeginsWithNumber line
    → ((e : Entry) → IsLineOf line e → replays.StandsFor s (p.entries ++ e ∷ []) next) → ReplaysAt s next (moved p (said_entry said))
said-replays s next p line (Ok (Some e)) is b more k same =
    let t = says-entry (length p.entries) line e is in
    subst (λ (es : List Entry). replays.StandsFor s es next) (ap (λ (q : Place). q.entries) (place_is _ k same)) (more e (record { words = t.0; text = t.1 }))
said-replays s next p line (Ok None) is b more k same = absurd (closing-not (length p.entries) line b is)
said-replays s next p line (Err d) is b more k same = absurd (not_both k (p.line, d) same)

pub wrong-grown : (s t : Plan) (old new : HistoryFeed) (r later : ReplayView) (n taken : ℕ) (text piece line : List ℕ) → IsNextLine old piece line → taken ≡ length line + 1 → BeginsWithNumber line
    → ((es : List Entry) (e : Entry) → IsLineOf line e → replays.StandsFor t es r → replays.StandsFor t (es ++ e ∷ []) later)
    → feeds.first_line_of new ≡ feeds.first_line_of old → (feeds.StandsFor old text → feeds.StandsFor new (text ++ take taken piece))
    → StandsFor s n text (parts t old r) → StandsFor s n (text ++ take taken piece) (parts t new later)
wrong-grown s t old new r later n taken text piece line is long b more first feed h =
    let at = next-place s t old r n text piece line is h in
    let p = at.0 in
    let none : rest_behind text ≡ [] = kept-empty old.rest (rest_behind text) at.2.kept is.empty in
    let bytes : take taken piece ≡ line ++ 10 ∷ [] = ap (λ (k : ℕ). take k piece) long ∙ taken-line piece line is.behind is.cut in
    let expects : p.next ≡ next.Entries = sym at.2.expected ∙ is.expected in
    let left : left_by n (text ++ take taken piece) ≡ moved p (said_entry (line_says (length p.entries) line)) =
    ap (λ (bs : List ℕ). left_by n (text ++ bs)) bytes ∙ line-place n text line p (no-feed piece line is.behind is.cut) at.1
    ∙ ap (λ (rest : List ℕ). moved p (said_of p.next (length p.entries) (rest ++ line))) none
    ∙ ap (λ (x : Expected). moved p (said_of x (length p.entries) line)) expects in
    let stands : (e : Entry) → IsLineOf line e → replays.StandsFor s (p.entries ++ e ∷ []) later = λ e of.
    subst (λ (u : Plan). replays.StandsFor u (p.entries ++ e ∷ []) later) h.scenario (more p.entries e of (subst (λ (u : Plan). replays.StandsFor u p.entries r) (sym h.scenario) (h.replay p at.1))) in
    record {
      scenario = h.scenario;
      first = first ∙ h.first;
      feed = feed h.feed;
      replay = subst (ReplaysAt s later) (sym left) (said-replays s later p line (line_says (length p.entries) line) refl b stands);
    }
