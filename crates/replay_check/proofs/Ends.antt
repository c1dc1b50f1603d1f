-- How a check ends, from how its feed and its replay do.
use Rattle.std.proofs.Common.{◌≡◌, ℕ, List, Result, Ok, Err, refl, sym, ap, ◌∙◌, subst}
use Rattle.kern_ids.specs.declared.entries.Entry.{Entry}
use Rattle.kernel_model.specs.Scenario.{Plan}
use Rattle.history_text.specs.HistoryReading.{history_of}
use Rattle.history_feed.specs.declared.expected.Expected.{Expected}
use Rattle.history_feed.specs.declared.expected.Expected.TheVariants as next
use Rattle.history_feed.specs.Left.{Fault, Place, left_by, whole_at, whole_of}
use Rattle.history_feed.specs.Feeds as feeds
use Rattle.replay_check.specs.declared.verdicts.Verdict.{Verdict}
use Rattle.replay_check.specs.Replays as replays
use Rattle.replay_check.specs.Replays.{ReplayView}
use Rattle.replay_check.specs.Verdicts.{verdict_of}
use Rattle.replay_check.specs.declared.end.PieceEnd.TheVariants.{Bad, Done}
use Rattle.replay_check.specs.Pieces.{CheckView, StandsFor, end_of}

-- this is the verdict on whatever entries the replay stands for
abbrev Judges : Plan → ReplayView → Verdict → Type 0
Judges s r v = (es : List Entry) → replays.StandsFor s es r → v ≡ verdict_of s es

abbrev counted : ℕ → Result ℕ Fault
counted k = Ok k

abbrev faulted : Fault → Result ℕ Fault
faulted f = Err f

done_place : (s : Plan) (r : ReplayView) (v : Verdict) (k : ℕ) (p : Place) (x : Expected) (h : Result (List Entry) Fault) → h ≡ whole_at x p → counted k ≡ feeds.count_of h
    → replays.StandsFor s p.entries r → Judges s r v → Done v ≡ end_of s h
done_place s r v k p next.Opening h whole count stands judges = let bad : counted k ≡ feeds.count_of (whole_at next.Opening p) = count ∙ ap feeds.count_of whole in absurd cc
done_place s r v k p next.Entries h whole count stands judges = let bad : counted k ≡ feeds.count_of (whole_at next.Entries p) = count ∙ ap feeds.count_of whole in absurd cc
done_place s r v k p next.Nothing h whole count stands judges = ap (λ (w : Verdict). Done w) (judges p.entries stands) ∙ ap (end_of s) (sym whole)

done_left : (s : Plan) (r : ReplayView) (v : Verdict) (k : ℕ) (left : Result Place Fault) (h : Result (List Entry) Fault) → h ≡ whole_of left → counted k ≡ feeds.count_of h
    → ((p : Place) → left ≡ Ok p → replays.StandsFor s p.entries r) → Judges s r v → Done v ≡ end_of s h
done_left s r v k (Ok p) h whole count stands judges = done_place s r v k p p.next h whole count (stands p refl) judges
done_left s r v k (Err f) h whole count stands judges = let bad : counted k ≡ faulted f = count ∙ ap feeds.count_of whole in absurd cc

-- a history was read, and this is the verdict on what was replayed
pub ends-done : (s : Plan) (n : ℕ) (text : List ℕ) (c : CheckView) (v : Verdict) (k : ℕ) → StandsFor s n text c
    → history_of (feeds.first_line_of c.feed) text ≡ whole_of (left_by (feeds.first_line_of c.feed) text)
    → counted k ≡ feeds.count_of (history_of (feeds.first_line_of c.feed) text) → Judges c.scenario c.replay v → Done v ≡ end_of s (history_of n text)
ends-done s n text c v k h whole count judges =
    done_left s c.replay v k (left_by n text) (history_of n text)
    (subst (λ (m : ℕ). history_of m text ≡ whole_of (left_by m text)) h.first whole)
    (subst (λ (m : ℕ). counted k ≡ feeds.count_of (history_of m text)) h.first count)
    h.replay
    (subst (λ (t : Plan). Judges t c.replay v) h.scenario judges)

bad_of : (s : Plan) (f : Fault) (h : Result (List Entry) Fault) → faulted f ≡ feeds.count_of h → Bad f.0 f.1 ≡ end_of s h
bad_of s f (Ok es) count = absurd cc
bad_of s f (Err g) count = let same : f ≡ g = cc in ap (λ (x : Fault). Bad x.0 x.1) same

-- there was a fault
pub ends-bad : (s : Plan) (n : ℕ) (text : List ℕ) (c : CheckView) (f : Fault) → StandsFor s n text c → faulted f ≡ feeds.count_of (history_of (feeds.first_line_of c.feed) text)
    → Bad f.0 f.1 ≡ end_of s (history_of n text)
ends-bad s n text c f h count = bad_of s f (history_of n text) (subst (λ (m : ℕ). faulted f ≡ feeds.count_of (history_of m text)) h.first count)
