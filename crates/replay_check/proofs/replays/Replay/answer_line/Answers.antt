use Rattle.std.proofs.Common.{◌≡◌, ℕ, ◌+◌, ◌++◌, List, get_or, set, length, None, refl, sym, ap, ◌∙◌, subst, arith}
use Rattle.std.specs.Prelude.{IsTrue, drop}
use Rattle.kernel_model.specs.Histories.{fits}
use Rattle.kernel_model.specs.System.{System}
use Rattle.line_text.specs.Cut.{line_of}
use Rattle.history_text.specs.Entries.{entry_words, reply_words}
use Rattle.replay_check.specs.Lines.{IsNextCall, front_text}
use Rattle.replay_check.specs.Replays.{ReplayView, StandsFor}
use Rattle.kernel_model.specs.Whole.{of_thread}
use Rattle.replay_check.proofs.Begun.{call_at-fits}
use Rattle.replay_check.proofs.LineLaws.{made, made-line, front-number, line-right, line-wrong}
use Rattle.replay_check.proofs.Standing.{length-of_thread}
use Rattle.replay_check.proofs.replays.Replay.answer_line.Goals as goal

pub call-requires : goal.call-requires
call-requires c =
    let s = c.args.scenario.now in
    let held : StandsFor s c.requires.stands.entries c.args.self.now = c.requires.stands.for_them in
    let boot : c.self.inside.kernel.boot ≡ s.boot = ap (λ (v : ReplayView). v.boot) c.self.view_is ∙ held.boot in
    subst (λ (b : System). IsTrue (fits b c.args.who c.args.call.now)) (sym boot) (call_at-fits s c.args.who c.args.call.now _ c.valid.ensures c.requires.next.next)

pub returns-then-ends_with_reply-clause-replayed : goal.returns-then-ends_with_reply-clause-replayed
returns-then-ends_with_reply-clause-replayed c =
    let s = c.args.scenario.now in
    let who = c.args.who in
    let call = c.args.call.now in
    let expected = c.call.new.reply in
    let inside = c.self.inside in
    let r : ReplayView = record { boot = inside.kernel.boot; history = inside.kernel.history; made = inside.made; fault = inside.fault } in
    let none : r.fault ≡ None = ap (λ (v : ReplayView). v.fault) c.self.view_is ∙ c.requires.sound in
    let next : IsNextCall s r.made who call = subst (λ (v : ReplayView). IsNextCall s v.made who call) (sym c.self.view_is) c.requires.next in
    let told = c.ends_with_reply.ensures.yes c.if-ends_with_reply.true in
    let line : c.args.line.now ≡ line_of (entry_words (made who call expected)) =
    told.1 ∙ c.as_slice.ensures.value ∙ c.push_reply.ensures.bytes ∙ ap (λ (t : List ℕ). t ++ line_of (reply_words expected)) c.requires.front ∙ sym (made-line who call expected) in (
      made who call expected,
      record { words = line; text = record { who = next.thread; call = c.requires.has_line; reply = told.0 } },
      λ es stands.
          line-right s es r _ who call expected none next c.in_ok-call.ensures.reply c.call.ensures.boot c.in_ok-call.ensures.entry (ap (λ (n : ℕ). set inside.made n (get_or inside.made n 0 + 1)) c.get.ensures.value) refl (subst (StandsFor s es) (sym c.self.view_is) stands),
    )

pub returns-clause-replayed : goal.returns-clause-replayed
returns-clause-replayed c =
    let s = c.args.scenario.now in
    let who = c.args.who in
    let call = c.args.call.now in
    let line = c.args.line.now in
    let expected = c.call.new.reply in
    let inside = c.self.inside in
    let r : ReplayView = record { boot = inside.kernel.boot; history = inside.kernel.history; made = inside.made; fault = inside.fault } in
    let none : r.fault ≡ None = ap (λ (v : ReplayView). v.fault) c.self.view_is ∙ c.requires.sound in
    let next : IsNextCall s r.made who call = subst (λ (v : ReplayView). IsNextCall s v.made who call) (sym c.self.view_is) c.requires.next in
    let rest = drop (length c.args.text.now) line in
    let begins : line ≡ front_text who call ++ rest = c.requires.begins ∙ ap (λ (t : List ℕ). t ++ rest) c.requires.front in
    let text : c.as_slice.result.now ≡ front_text who call ++ line_of (reply_words expected) =
    c.as_slice.ensures.value ∙ c.push_reply.ensures.bytes ∙ ap (λ (t : List ℕ). t ++ line_of (reply_words expected)) c.requires.front in (
      front-number who call line rest next.thread begins,
      λ es e is stands.
          line-wrong s es e r _ who call expected line rest c.len-place.result none next c.requires.has_line begins c.in_ok-call.ensures.reply (λ has same. c.ends_with_reply.ensures.no c.if-ends_with_reply.false has (same ∙ sym text))
          c.len-place.ensures c.call.ensures.boot refl refl is (subst (StandsFor s es) (sym c.self.view_is) stands),
    )

pub overflow_add-self : goal.overflow_add-self
overflow_add-self c =
    let s = c.args.scenario.now in
    let who = c.args.who in
    let inside = c.self.inside in
    let es = c.requires.stands.entries in
    let r : ReplayView = record { boot = inside.kernel.boot; history = inside.kernel.history; made = inside.made; fault = inside.fault } in
    let held : StandsFor s es r = subst (StandsFor s es) (sym c.self.view_is) c.requires.stands.for_them in
    let none : r.fault ≡ None = ap (λ (v : ReplayView). v.fault) c.self.view_is ∙ c.requires.sound in
    let count : get_or inside.made c.get.result 0 ≡ length (of_thread who es) = ap (λ (n : ℕ). get_or inside.made n 0) c.get.ensures.value ∙ held.made none who c.requires.next.thread in
    omega (arith, length-of_thread who es, c.requires.stands.few)
