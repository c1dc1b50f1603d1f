use Rattle.std.proofs.Common.{◌≡◌, ◌++◌, ℕ, List, false, refl, sym, ap, ap₂, ◌∙◌, subst, rules}
use Rattle.std.proofs.lemmas.Option.{same_Some}
use Rattle.line_text.specs.Cut.{line_of}
use Rattle.line_text.specs.Calls.{HasLine}
use Rattle.history_text.specs.Entries.{reply_words}
use Rattle.replay_check.specs.Lines.{IsNextCall, front_text}
use Rattle.replay_check.specs.Replays.{ReplayView}
use Rattle.replay_check.proofs.LineLaws.{line-words, line-front}
use Rattle.replay_check.proofs.replays.Replay.feed_line.Goals as goal

pub returns-in-None-clause-replayed : goal.returns-in-None-clause-replayed
returns-in-None-clause-replayed c = (
  refl,
  λ e sound is due.
      let w = line-words c.args.line.now e is in
      let both = c.in-None.ensures e.who w.0 is.text.who w.1 in
      absurd cc,
)

pub returns-in-None-next_call-clause-replayed : goal.returns-in-None-next_call-clause-replayed
returns-in-None-next_call-clause-replayed c = (
  refl,
  λ e sound is due.
      let s = c.args.scenario.now in
      let w = line-words c.args.line.now e is in
      let who = same_Some _ _ (c.in-Some.ensures e.who w.0 is.text.who w.1) in
      let here = subst (λ (v : ReplayView). IsNextCall s v.made e.who e.call) (sym c.self.view_is) due in
      let both = c.in-None-next_call.ensures.only e.call (subst (λ n. IsNextCall s c.self.inside.made n e.call) (sym who) here) in
      absurd cc,
)

pub returns-then-not-has_line-clause-replayed : goal.returns-then-not-has_line-clause-replayed
returns-then-not-has_line-clause-replayed c = (
  refl,
  λ e sound is due.
      let s = c.args.scenario.now in
      let w = line-words c.args.line.now e is in
      let who = same_Some _ _ (c.in-Some.ensures e.who w.0 is.text.who w.1) in
      let here = subst (λ (v : ReplayView). IsNextCall s v.made e.who e.call) (sym c.self.view_is) due in
      let kept = same_Some _ _ (c.in-Some-next_call.ensures.only e.call (subst (λ n. IsNextCall s c.self.inside.made n e.call) (sym who) here)) in
      let no : c.has_line.result ≡ false = search rules in
      c.has_line.ensures.no no (subst (HasLine 64 256) (sym (c.get-call.ensures ∙ kept)) is.text.call),
)

pub returns-then-not-begins_with-clause-replayed : goal.returns-then-not-begins_with-clause-replayed
returns-then-not-begins_with-clause-replayed c = (
  refl,
  λ e sound is due.
      let s = c.args.scenario.now in
      let w = line-words c.args.line.now e is in
      let who = same_Some _ _ (c.in-Some.ensures e.who w.0 is.text.who w.1) in
      let here = subst (λ (v : ReplayView). IsNextCall s v.made e.who e.call) (sym c.self.view_is) due in
      let kept = same_Some _ _ (c.in-Some-next_call.ensures.only e.call (subst (λ n. IsNextCall s c.self.inside.made n e.call) (sym who) here)) in
      let front = c.as_slice.ensures.value ∙ c.push_front.ensures.bytes ∙ ap₂ front_text who (c.get-call.ensures ∙ kept) in
      let no : c.begins_with.result ≡ false = search rules in
      c.begins_with.ensures.no no (line_of (reply_words e.reply)) (line-front c.args.line.now e is ∙ ap (λ (t : List ℕ). t ++ line_of (reply_words e.reply)) (sym front)),
)
