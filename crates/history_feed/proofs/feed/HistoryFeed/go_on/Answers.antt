use Rattle.std.proofs.Common.{ℕ, ◌∙◌, ◌++◌, Some, refl, sym, ap}
use Rattle.kern_ids.specs.declared.faults.Why.TheVariants as why
use Rattle.history_feed.specs.declared.expected.Expected.TheVariants as next
use Rattle.history_feed.proofs.FeedLaws.{on-keeps, on-fault}
use Rattle.history_feed.proofs.feed.HistoryFeed.go_on.Goals as goal

pub returns-in-Opening-clause-on : goal.returns-in-Opening-clause-on
returns-in-Opening-clause-on c =
    λ p line k.
    on-keeps _ p (line ++ c.args.part.now) next.Opening (sym k.expected ∙ c.in-Opening.is) refl
    (record { sound = k.sound; line = k.line; entries = k.entries; expected = k.expected; kept = c.push.ensures.value line k.kept })

pub returns-in-Entries-clause-on : goal.returns-in-Entries-clause-on
returns-in-Entries-clause-on c =
    λ p line k.
    on-keeps _ p (line ++ c.args.part.now) next.Entries (sym k.expected ∙ c.in-Entries.is) refl
    (record { sound = k.sound; line = k.line; entries = k.entries; expected = k.expected; kept = c.push-in-Entries.ensures.value line k.kept })

pub returns-in-Nothing-clause-on : goal.returns-in-Nothing-clause-on
returns-in-Nothing-clause-on c = λ p line k. on-fault _ p (line ++ c.args.part.now) (sym k.expected ∙ c.in-Nothing.is) (ap (λ (n : ℕ). Some (n, why.AfterEnd)) k.line)
