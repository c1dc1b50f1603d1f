use Rattle.std.proofs.Common.{ℕ, ◌+◌, ◌∙◌, Some, None, Err, true, false, refl, sym, ap, arith}
use Rattle.kern_ids.specs.declared.faults.Why.TheVariants as why
use Rattle.history_feed.specs.declared.expected.Expected.TheVariants as next
use Rattle.history_feed.proofs.SaysLaws.{said}
use Rattle.history_feed.proofs.FeedLaws.{ended-ok, ended-bad, entry-says, opening-says, said-at}
use Rattle.history_feed.proofs.feed.HistoryFeed.end_line.Goals as goal

pub returns-then-not-is_opening-clause-ended : goal.returns-then-not-is_opening-clause-ended
returns-then-not-is_opening-clause-ended c =
    let old = c.args.self.now in
    λ p line k.
    ended-bad _ _ p _ why.Word
    (said-at old p line line next.Opening (Err why.Word) k c.in-Opening.is (opening-says false old.entries line (sym (c.is_opening.ensures line k.kept) ∙ c.if-not-is_opening.true)))
    (ap (λ (n : ℕ). Some (n, why.Word)) k.line) refl

pub returns-else-not-is_opening-clause-ended : goal.returns-else-not-is_opening-clause-ended
returns-else-not-is_opening-clause-ended c =
    let old = c.args.self.now in
    let b = c.begin_line.ensures in
    λ p line k.
    let same = b.same.1 in
    let count = k.entries in
    ended-ok _ _ p _ (record { expected = next.Entries; entry = None })
    (said-at old p line line next.Opening _ k c.in-Opening.is (opening-says true old.entries line (sym (c.is_opening.ensures line k.kept) ∙ c.if-not-is_opening.false)))
    (b.same.2 ∙ k.sound) (b.line ∙ ap (λ (n : ℕ). n + 1) k.line) (omega (arith, same, count)) b.expected b.rest refl

pub returns-in-Ok-Some-clause-ended : goal.returns-in-Ok-Some-clause-ended
returns-in-Ok-Some-clause-ended c =
    let old = c.args.self.now in
    let e = c.in-Ok-Some.entry in
    let b = c.begin_line-in-Ok-Some.ensures in
    λ p line k.
    ended-ok _ _ p _ (record { expected = next.Entries; entry = Some e })
    (said-at old p line line next.Entries _ k c.in-Entries.is (entry-says old.entries line (said (Some e)) (c.in-Ok-Some.ensures.value line k.kept ∙ ap said c.in-Ok-Some.field-0-is)))
    (b.same.2 ∙ k.sound) (b.line ∙ ap (λ (n : ℕ). n + 1) k.line) (b.same.1 ∙ ap (λ (n : ℕ). n + 1) k.entries) b.expected b.rest refl

pub returns-in-Ok-None-clause-ended : goal.returns-in-Ok-None-clause-ended
returns-in-Ok-None-clause-ended c =
    let old = c.args.self.now in
    let b = c.begin_line-in-Ok-None.ensures in
    λ p line k.
    let same = b.same.1 in
    let count = k.entries in
    ended-ok _ _ p _ (record { expected = next.Nothing; entry = None })
    (said-at old p line line next.Entries _ k c.in-Entries.is (entry-says old.entries line (said None) (c.in-Ok-None.ensures.value line k.kept ∙ ap said c.in-Ok-None.field-0-is)))
    (b.same.2 ∙ k.sound) (b.line ∙ ap (λ (n : ℕ). n + 1) k.line) (omega (arith, same, count)) b.expected b.rest refl

pub returns-in-Err-clause-ended : goal.returns-in-Err-clause-ended
returns-in-Err-clause-ended c =
    let old = c.args.self.now in
    λ p line k.
    ended-bad _ _ p _ c.in-Err.why
    (said-at old p line line next.Entries _ k c.in-Entries.is (entry-says old.entries line _ (c.in-Err.ensures.value line k.kept)))
    (ap (λ (n : ℕ). Some (n, c.in-Err.why)) k.line) refl

pub returns-in-Nothing-clause-ended : goal.returns-in-Nothing-clause-ended
returns-in-Nothing-clause-ended c =
    λ p line k.
    ended-bad _ _ p _ why.AfterEnd
    (said-at c.args.self.now p line line next.Nothing (Err why.AfterEnd) k c.in-Nothing.is refl)
    (ap (λ (n : ℕ). Some (n, why.AfterEnd)) k.line) refl
