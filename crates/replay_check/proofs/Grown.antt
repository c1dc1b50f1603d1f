-- A check that takes bytes more.
use Rattle.std.proofs.Common.{◌≡◌, ℕ, List, [], ◌++◌, Option, Some, None, Result, Ok, Err, refl, sym, ap, ◌∙◌, arith, subst, append-nil}
use Rattle.std.specs.Prelude.{option_to_list}
use Rattle.kern_ids.specs.declared.entries.Entry.{Entry}
use Rattle.kernel_model.specs.Scenario.{Plan}
use Rattle.history_feed.specs.declared.expected.Expected.TheVariants as next
use Rattle.history_feed.specs.declared.feed.HistoryFeed.{HistoryFeed}
use Rattle.history_feed.specs.Lines.{ended_of, rest_of}
use Rattle.history_feed.specs.Left.{Fault, Place, over, left_by}
use Rattle.history_feed.specs.Feeds as feeds
use Rattle.replay_check.specs.Replays as replays
use Rattle.replay_check.specs.Replays.{ReplayView}
use Rattle.replay_check.specs.Pieces.{StandsFor, Stands, parts}
use Rattle.replay_check.proofs.Few.{IsFew, left-few}

abbrev place : Place → Result Place Fault
place p = Ok p

abbrev fault : Fault → Result Place Fault
fault f = Err f

pub place_is : (p q : Place) → place p ≡ place q → p ≡ q
place_is p q e = cc

pub not_both : (p : Place) (f : Fault) → fault f ≡ place p → ⊥
not_both p f e = absurd cc

abbrev some : Entry → Option Entry
some e = Some e

none_given : (e : Entry) → some e ≡ None → ⊥
none_given e h = absurd cc

-- what a replay stands for at what is left
abbrev pub ReplaysAt : Plan → ReplayView → Result Place Fault → Type 0
ReplaysAt s r left = (p : Place) → left ≡ Ok p → replays.StandsFor s p.entries r

before : (s : Plan) (r : ReplayView) (e : Entry) (left more : Result Place Fault) → IsFew left → feeds.Gives (Some e) left more → ReplaysAt s r left → replays.Stands s r
before s r e (Ok p) more few gives at = record { entries = p.entries; few = omega (arith, few); for_them = at p refl }
before s r e (Err f) (Ok q) few gives at = absurd gives
before s r e (Err f) (Err g) few gives at = absurd (none_given e gives)

behind : (s : Plan) (r next : ReplayView) (given : Option Entry) (left more : Result Place Fault) → feeds.Gives given left more
    → ((es : List Entry) → replays.StandsFor s es r → replays.StandsFor s (es ++ option_to_list given) next) → ReplaysAt s r left → ReplaysAt s next more
behind s r next given (Ok p) (Ok q) gives grows at k e =
    let entries : p.entries ++ option_to_list given ≡ k.entries = sym gives ∙ ap (λ (x : Place). x.entries) (place_is q k e) in
    subst (λ (es : List Entry). replays.StandsFor s es next) entries (grows p.entries (at p refl))
behind s r next given (Err f) (Ok q) gives grows at k e = absurd gives
behind s r next given (Ok p) (Err f) gives grows at k e = absurd (not_both k f e)
behind s r next given (Err g) (Err f) gives grows at k e = absurd (not_both k f e)

-- where an entry is given, the replay stands for those before it
pub can-replay : (s : Plan) (old : HistoryFeed) (r : ReplayView) (given : Option Entry) (e : Entry) (taken : List ℕ) (h : Stands (parts s old r)) → given ≡ Some e
    → feeds.Gives given (left_by (feeds.first_line_of old) h.text) (left_by (feeds.first_line_of old) (h.text ++ taken)) → replays.Stands s r
can-replay s old r given e taken h is gives =
    let stands = h.for_them in
    let one = subst (λ (x : Option Entry). feeds.Gives x (left_by (feeds.first_line_of old) h.text) (left_by (feeds.first_line_of old) (h.text ++ taken))) is gives in
    let here = subst (λ (n : ℕ). feeds.Gives (Some e) (left_by n h.text) (left_by n (h.text ++ taken))) stands.first one in
    subst (λ (t : Plan). replays.Stands t r) (sym stands.scenario)
    (before h.scenario r e (left_by h.first h.text) (left_by h.first (h.text ++ taken)) (left-few h.first h.text) here stands.replay)

-- the bytes are taken, and the entry that was given is replayed
pub grown : (t : Plan) (old new : HistoryFeed) (r next : ReplayView) (given : Option Entry) (taken : List ℕ) (s : Plan) (n : ℕ) (text : List ℕ) → StandsFor s n text (parts t old r)
    → feeds.first_line_of new ≡ feeds.first_line_of old → feeds.StandsFor new (text ++ taken)
    → feeds.Gives given (left_by (feeds.first_line_of old) text) (left_by (feeds.first_line_of old) (text ++ taken))
    → ((es : List Entry) → replays.StandsFor t es r → replays.StandsFor t (es ++ option_to_list given) next)
    → StandsFor s n (text ++ taken) (parts t new next)
grown t old new r next given taken s n text h first stands gives grows = record {
  scenario = h.scenario;
  first = first ∙ h.first;
  feed = stands;
  replay = behind s r next given (left_by n text) (left_by n (text ++ taken))
      (subst (λ (k : ℕ). feeds.Gives given (left_by k text) (left_by k (text ++ taken))) h.first gives)
      (subst (λ (u : Plan). (es : List Entry) → replays.StandsFor u es r → replays.StandsFor u (es ++ option_to_list given) next) h.scenario grows)
      h.replay;
}

-- nothing is given, and nothing is replayed
pub none-grows : (s : Plan) (r : ReplayView) (es : List Entry) → replays.StandsFor s es r → replays.StandsFor s (es ++ option_to_list None) r
none-grows s r es h = subst (λ (x : List Entry). replays.StandsFor s x r) (sym (append-nil es)) h

-- a new check stands for no bytes
pub begun : (s : Plan) (n : ℕ) (f : HistoryFeed) (r : ReplayView) → feeds.first_line_of f ≡ n → feeds.StandsFor f [] → replays.StandsFor s [] r → StandsFor s n [] (parts s f r)
unfolding left_by over ended_of rest_of
begun s n f r first feed replay = record {
  scenario = refl;
  first = first;
  feed = feed;
  replay = λ p e. subst (λ (es : List Entry). replays.StandsFor s es r) (ap (λ (x : Place). x.entries) (place_is (record { entries = []; line = n; next = next.Opening }) p e)) replay;
}
