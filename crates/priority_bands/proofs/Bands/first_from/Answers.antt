use Rattle.std.proofs.Common.{◌≡◌, ◌+◌, inl, inr, ◌∷◌, sym, ap, ◌∙◌, subst, refl, arith, length, slice_get, Some, None}
use Rattle.link_list.proofs.Members.{has_after}
use Rattle.priority_bands.specs.Banded.{IsFirstTrue, tasks_from}
use Rattle.priority_bands.proofs.TasksFrom.{IsOnce-tasks_from}
use Rattle.priority_bands.proofs.Rests.{rest_from, rest_from_first, rest_from_key, first_has, first_true_is_find}
use Rattle.priority_bands.proofs.Bands.first_from.Goals as goal

pub loop-at-init : goal.loop-at-init
loop-at-init g c =
    let at : c.head_from-at.result ≡ slice_get (tasks_from c.args.self.now c.args.b) 0 = c.head_from-at.ensures ∙ ap (λ i. slice_get (tasks_from c.args.self.now i) 0) c.get.ensures.value in (
      λ t is. first_has (tasks_from c.args.self.now c.args.b) t (sym at ∙ is),
      λ first h. subst (λ xs. IsFirstTrue (goal.P-post g c.args.p) xs first) (ap (λ o. rest_from o (tasks_from c.args.self.now c.args.b)) at ∙ rest_from_first (tasks_from c.args.self.now c.args.b)) h,
    )

pub returns-then-p-clause-answers : goal.returns-then-p-clause-answers
returns-then-p-clause-answers g c =
    let tasks = tasks_from c.args.self.now c.args.b in
    let rest : rest_from c.loop-at.at tasks ≡ _ = ap (λ o. rest_from o tasks) c.in-Some.is ∙ rest_from_key c.in-Some.t tasks (IsOnce-tasks_from c.args.self.now c.are_bands.ensures.once c.args.b) (c.loop-at.invariant.0 c.in-Some.t c.in-Some.is) in
    c.loop-at.invariant.1 (Some c.in-Some.t) (subst (λ xs. IsFirstTrue (goal.P-post g c.args.p) xs (Some c.in-Some.t)) (sym rest) (inl (c.if-p.ensures, refl)))

pub returns-then-p-clause-found : goal.returns-then-p-clause-found
returns-then-p-clause-found g c = λ q one. first_true_is_find (goal.P-post g c.args.p) q (tasks_from c.args.self.now c.args.b) (Some c.in-Some.t) (returns-then-p-clause-answers g c) one

pub loop-at-smaller : goal.loop-at-smaller
loop-at-smaller g c =
    let tasks = tasks_from c.args.self.now c.args.b in
    let here = c.loop-at.invariant.0 c.in-Some.t c.in-Some.is in
    let next = c.following-at.ensures c.args.b here in
    let rest : rest_from c.loop-at.at tasks ≡ c.in-Some.t ∷ rest_from c.following-at.result tasks = ap (λ o. rest_from o tasks) c.in-Some.is ∙ rest_from_key c.in-Some.t tasks (IsOnce-tasks_from c.args.self.now c.are_bands.ensures.once c.args.b) here ∙ ap (λ o. c.in-Some.t ∷ rest_from o tasks) (sym next) in
    let longer : length (rest_from c.loop-at.at tasks) ≡ length (rest_from c.following-at.result tasks) + 1 = ap length rest ∙ omega arith in
    omega arith

pub loop-at-preserved : goal.loop-at-preserved
loop-at-preserved g c =
    let tasks = tasks_from c.args.self.now c.args.b in
    let here = c.loop-at.invariant.0 c.in-Some.t c.in-Some.is in
    let next = c.following-at.ensures c.args.b here in
    let rest : rest_from c.loop-at.at tasks ≡ c.in-Some.t ∷ rest_from c.following-at.result tasks = ap (λ o. rest_from o tasks) c.in-Some.is ∙ rest_from_key c.in-Some.t tasks (IsOnce-tasks_from c.args.self.now c.are_bands.ensures.once c.args.b) here ∙ ap (λ o. c.in-Some.t ∷ rest_from o tasks) (sym next) in (
      λ t is. has_after c.in-Some.t t tasks (sym next ∙ is),
      λ first h. c.loop-at.invariant.1 first (subst (λ xs. IsFirstTrue (goal.P-post g c.args.p) xs first) (sym rest) (inr (c.if-p.ensures, h))),
    )

pub returns-clause-found : goal.returns-clause-found
returns-clause-found g c = λ q one. first_true_is_find (goal.P-post g c.args.p) q (tasks_from c.args.self.now c.args.b) None (c.loop-at.invariant.1 None (subst (λ o. IsFirstTrue (goal.P-post g c.args.p) (rest_from o (tasks_from c.args.self.now c.args.b)) None) (sym c.in_default.is) refl)) one
