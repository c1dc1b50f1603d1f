-- What a replay is seen as, and how far it has come.
use Rattle.std.specs.Prelude.{◌≡◌, ℕ, ◌<◌, ◌^◌, List, length, Option, None, slice_index}
use Rattle.std.specs.List.{range_with_len}
use Rattle.kern_ids.specs.declared.entries.Entry.{Entry}
use Rattle.kernel_model.specs.System.{System}
use Rattle.kernel_model.specs.Lists.{first_some, some_if}
use Rattle.kernel_model.specs.Scenario.{Plan}
use Rattle.replay_check.specs.declared.verdicts.Verdict.{Verdict}
use Rattle.replay_check.specs.Verdicts.{first_fault, has_more}
use Rattle.kernel_model.specs.Whole.{of_thread}

-- the boot and the entries of its kernel, how many calls each thread has made, and what was wrong at the first wrong place
pub record ReplayView : Type 0 where
  pub boot : System
  pub history : List Entry
  pub made : List ℕ
  pub fault : Option Verdict

-- It stands where these entries of the scenario bring it: it knows the first fault among them. Where there is none, its kernel
-- has just these entries, and it knows how many calls each thread has made.
pub record StandsFor (s : Plan) (es : List Entry) (r : ReplayView) : Type 0 where
  pub boot : r.boot ≡ s.boot
  pub threads : length r.made ≡ 32
  pub fault : r.fault ≡ first_fault s es
  pub history : r.fault ≡ None → r.history ≡ es
  pub made : r.fault ≡ None → (n : ℕ) → n < 32 → slice_index r.made n ≡ length (of_thread n es)

-- it stands for some entries, whose places have 32 bits
pub record Stands (s : Plan) (r : ReplayView) : Type 0 where
  pub entries : List Entry
  pub few : length entries < 2 ^ 32
  pub for_them : StandsFor s entries r

-- the least of the first k threads that has more calls in its script than it has made
unfoldable pub first_unspent : Plan → List ℕ → ℕ → Option ℕ
first_unspent s made k = first_some (λ n. some_if (has_more s n (slice_index made n)) n) (range_with_len 0 k)
