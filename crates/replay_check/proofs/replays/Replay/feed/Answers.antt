use Rattle.std.proofs.Common.{◌≡◌, ℕ, ◌+◌, ◌<◌, List, [], ◌∷◌, ◌++◌, length, get_or, set, reverse, None, is_some, refl, sym, ap, ap₂, ◌∙◌, subst, arith}
use Rattle.kern_ids.specs.declared.entries.Entry.{Entry}
use Rattle.kern_ids.specs.declared.replies.Reply.{Reply}
use Rattle.std.specs.Prelude.{IsTrue}
use Rattle.kernel_model.specs.Answers.{answer}
use Rattle.kernel_model.specs.Histories.{fits}
use Rattle.kernel_model.specs.System.{System}
use Rattle.replay_check.specs.Replays.{ReplayView, StandsFor}
use Rattle.replay_check.specs.Same.{same_reply}
use Rattle.replay_check.specs.Verdicts.{is_call_at, reply_due}
use Rattle.kernel_model.specs.Whole.{of_thread}
use Rattle.replay_check.proofs.Standing.{none-from, stands-faulty, stands-wrong_call, stands-wrong_reply, stands-right, length-of_thread}
use Rattle.replay_check.proofs.replays.Replay.feed.Goals as goal

pub returns-then-is_some-clause-fed : goal.returns-then-is_some-clause-fed
returns-then-is_some-clause-fed c = λ es stands.
    stands-faulty c.args.scenario.now es c.args.entry.now c.args.self.now stands
    (ap (λ (v : ReplayView). is_some v.fault) (sym c.self.view_is) ∙ sym c.is_some.ensures ∙ c.if-is_some.true)

pub returns-then-not-is_call_at-clause-fed : goal.returns-then-not-is_call_at-clause-fed
returns-then-not-is_call_at-clause-fed c = λ es stands.
    let s = c.args.scenario.now in
    let e = c.args.entry.now in
    let inside = c.self.inside in
    let r : ReplayView = record { boot = inside.kernel.boot; history = inside.kernel.history; made = inside.made; fault = inside.fault } in
    let held : StandsFor s es r = subst (StandsFor s es) (sym c.self.view_is) stands in
    let none : r.fault ≡ None = none-from inside.fault (sym c.is_some.ensures ∙ c.if-is_some.false) in
    let within : e.who < 32 = subst (λ (n : ℕ). n < 32) c.get-thread.ensures.value c.get-thread.ensures.bound in
    let count : get_or inside.made c.get-thread.result 0 ≡ length (of_thread e.who es) = ap (λ (n : ℕ). get_or inside.made n 0) c.get-thread.ensures.value ∙ held.made none e.who within in
    let place : c.len-place.result ≡ length es = c.len-place.ensures ∙ ap length (held.history none) in
    stands-wrong_call s es e r _ (get_or inside.made c.get-thread.result 0) c.len-place.result held none count place
    (sym c.is_call_at.ensures.value ∙ c.if-not-is_call_at.true) refl refl refl

pub returns-then-not-same_reply-clause-fed : goal.returns-then-not-same_reply-clause-fed
returns-then-not-same_reply-clause-fed c = λ es stands.
    let s = c.args.scenario.now in
    let e = c.args.entry.now in
    let inside = c.self.inside in
    let expected = c.call.new.reply in
    let r : ReplayView = record { boot = inside.kernel.boot; history = inside.kernel.history; made = inside.made; fault = inside.fault } in
    let held : StandsFor s es r = subst (StandsFor s es) (sym c.self.view_is) stands in
    let none : r.fault ≡ None = none-from inside.fault (sym c.is_some.ensures ∙ c.if-is_some.false) in
    let within : e.who < 32 = subst (λ (n : ℕ). n < 32) c.get-thread.ensures.value c.get-thread.ensures.bound in
    let count : get_or inside.made c.get-thread.result 0 ≡ length (of_thread e.who es) = ap (λ (n : ℕ). get_or inside.made n 0) c.get-thread.ensures.value ∙ held.made none e.who within in
    let place : c.len-place.result ≡ length es = c.len-place.ensures ∙ ap length (held.history none) in
    let due : expected ≡ reply_due s es e = c.in_ok-call.ensures.reply ∙ ap₂ (λ (b : System) (h : List Entry). answer b (reverse h) e.who e.call) held.boot (held.history none) in
    stands-wrong_reply s es e r _ (get_or inside.made c.get-thread.result 0) c.len-place.result expected held none count place
    (sym c.is_call_at.ensures.value ∙ c.if-not-is_call_at.false) due (sym c.same_reply.ensures ∙ c.if-not-same_reply.true) c.call.ensures.boot refl refl

pub overflow_add-self : goal.overflow_add-self
overflow_add-self c =
    let s = c.args.scenario.now in
    let e = c.args.entry.now in
    let inside = c.self.inside in
    let es = c.requires.entries in
    let r : ReplayView = record { boot = inside.kernel.boot; history = inside.kernel.history; made = inside.made; fault = inside.fault } in
    let held : StandsFor s es r = subst (StandsFor s es) (sym c.self.view_is) c.requires.for_them in
    let none : r.fault ≡ None = none-from inside.fault (sym c.is_some.ensures ∙ c.if-is_some.false) in
    let within : e.who < 32 = subst (λ (n : ℕ). n < 32) c.get-thread.ensures.value c.get-thread.ensures.bound in
    let count : get_or inside.made c.get-thread.result 0 ≡ length (of_thread e.who es) = ap (λ (n : ℕ). get_or inside.made n 0) c.get-thread.ensures.value ∙ held.made none e.who within in
    omega (arith, length-of_thread e.who es, c.requires.few)

pub returns-clause-fed : goal.returns-clause-fed
returns-clause-fed c = λ es stands.
    let s = c.args.scenario.now in
    let e = c.args.entry.now in
    let inside = c.self.inside in
    let expected = c.call.new.reply in
    let r : ReplayView = record { boot = inside.kernel.boot; history = inside.kernel.history; made = inside.made; fault = inside.fault } in
    let held : StandsFor s es r = subst (StandsFor s es) (sym c.self.view_is) stands in
    let none : r.fault ≡ None = none-from inside.fault (sym c.is_some.ensures ∙ c.if-is_some.false) in
    let within : e.who < 32 = subst (λ (n : ℕ). n < 32) c.get-thread.ensures.value c.get-thread.ensures.bound in
    let count : get_or inside.made c.get-thread.result 0 ≡ length (of_thread e.who es) = ap (λ (n : ℕ). get_or inside.made n 0) c.get-thread.ensures.value ∙ held.made none e.who within in
    let due : expected ≡ reply_due s es e = c.in_ok-call.ensures.reply ∙ ap₂ (λ (b : System) (h : List Entry). answer b (reverse h) e.who e.call) held.boot (held.history none) in
    stands-right s es e r _ held none
    (ap (is_call_at s e.who e.call) (sym count) ∙ sym c.is_call_at.ensures.value ∙ c.if-not-is_call_at.false)
    (ap (same_reply e.reply) (sym due) ∙ sym c.same_reply.ensures ∙ c.if-not-same_reply.false)
    within c.call.ensures.boot
    (c.in_ok-call.ensures.entry ∙ ap (λ (x : Reply). inside.kernel.history ++ record { who = e.who; call = e.call; reply = x } ∷ []) due)
    (ap (λ (n : ℕ). set inside.made n (get_or inside.made n 0 + 1)) c.get-thread.ensures.value)
    none

pub call-requires : goal.call-requires
call-requires c =
    let s = c.args.scenario.now in
    let e = c.args.entry.now in
    let inside = c.self.inside in
    let r : ReplayView = record { boot = inside.kernel.boot; history = inside.kernel.history; made = inside.made; fault = inside.fault } in
    let held : StandsFor s c.requires.entries r = subst (StandsFor s c.requires.entries) (sym c.self.view_is) c.requires.for_them in
    subst (λ (b : System). IsTrue (fits b e.who e.call)) (sym held.boot) (c.is_call_at.ensures.fits c.if-not-is_call_at.false)
