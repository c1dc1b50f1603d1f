use Rattle.std.proofs.Common.{sym, refl}
use Rattle.history_feed.specs.declared.expected.Expected.TheVariants as next
use Rattle.history_feed.proofs.Whole.{whole-left}
use Rattle.history_feed.proofs.FeedLaws.{finish-fault, finish-open, finish-end}
use Rattle.history_feed.proofs.feed.HistoryFeed.finish.Goals as goal

pub returns-in-Some : goal.returns-in-Some
returns-in-Some c = record {
  exact = λ text h. sym (finish-fault c.args.self text c.in-Some.fault c.in-Some.is h);
  whole = λ text. whole-left c.args.self.first text;
}

pub returns-in-Opening : goal.returns-in-Opening
returns-in-Opening c = record {
  exact = λ text h. sym (finish-open c.args.self text next.Opening c.in-Opening.is (λ p. refl) c.in-None.is h);
  whole = λ text. whole-left c.args.self.first text;
}

pub returns-in-Entries : goal.returns-in-Entries
returns-in-Entries c = record {
  exact = λ text h. sym (finish-open c.args.self text next.Entries c.in-Entries.is (λ p. refl) c.in-None.is h);
  whole = λ text. whole-left c.args.self.first text;
}

pub returns-in-Nothing : goal.returns-in-Nothing
returns-in-Nothing c = record {
  exact = λ text h. sym (finish-end c.args.self text c.in-Nothing.is c.in-None.is h);
  whole = λ text. whole-left c.args.self.first text;
}
