-- What a check of pieces is seen as, what it stands for, and how it ends.
use Rattle.std.specs.Prelude.{◌≡◌, ℕ, ◌+◌, List, ◌++◌, Result, Ok, Err}
use Rattle.kern_ids.specs.declared.entries.Entry.{Entry}
use Rattle.kernel_model.specs.Scenario.{Plan}
use Rattle.history_feed.specs.declared.feed.HistoryFeed.{HistoryFeed}
use Rattle.history_feed.specs.Left.{Fault, Place, left_by}
use Rattle.history_feed.specs.Feeds as feeds
use Rattle.replay_check.specs.Replays as replays
use Rattle.replay_check.specs.Verdicts.{verdict_of}
use Rattle.replay_check.specs.declared.end.PieceEnd.{PieceEnd}
use Rattle.replay_check.specs.declared.end.PieceEnd.TheVariants.{Bad, Done}

-- the scenario, what is kept of the bytes, and what the entries have come to
pub record CheckView : Type 0 where
  pub scenario : Plan
  pub feed : HistoryFeed
  pub replay : replays.ReplayView

abbrev pub parts : Plan → HistoryFeed → replays.ReplayView → CheckView
parts s f r = record { scenario = s; feed = f; replay = r }

-- It has this scenario. Its feed began with line n and stands for these bytes. As long as they have no fault, its replay stands
-- for the scenario and the entries that they leave.
pub record StandsFor (s : Plan) (n : ℕ) (text : List ℕ) (c : CheckView) : Type 0 where
  pub scenario : c.scenario ≡ s
  pub first : feeds.first_line_of c.feed ≡ n
  pub feed : feeds.StandsFor c.feed text
  pub replay : (p : Place) → left_by n text ≡ Ok p → replays.StandsFor s p.entries c.replay

-- it stands for some scenario and some bytes
pub record Stands (c : CheckView) : Type 0 where
  pub scenario : Plan
  pub first : ℕ
  pub text : List ℕ
  pub for_them : StandsFor scenario first text c

-- there was a fault, or the number of the line stays within 32 bits whatever so many bytes are
abbrev pub HasRoom : CheckView → ℕ → Type 0
HasRoom c more = feeds.HasRoom c.feed more

-- where there was room for so many bytes and more, there is room for the others
abbrev pub KeepsRoom : CheckView → ℕ → CheckView → Type 0
KeepsRoom old taken new = (more : ℕ) → HasRoom old (taken + more) → HasRoom new more

-- whatever scenario and bytes it represented, it represents that scenario, and those bytes with these after them
abbrev pub GrowsBy : CheckView → List ℕ → CheckView → Type 0
GrowsBy old bytes new = (s : Plan) (n : ℕ) (text : List ℕ) → StandsFor s n text old → StandsFor s n (text ++ bytes) new

-- the verdict on the history that was read, or the line of the first fault and why it is refused
abbrev pub end_of : Plan → Result (List Entry) Fault → PieceEnd
end_of s (Ok h) = Done (verdict_of s h)
end_of s (Err f) = Bad f.0 f.1
