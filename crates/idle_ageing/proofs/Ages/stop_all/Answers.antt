use Rattle.std.proofs.Common.{◌≡◌, ℕ, ◌<◌, List, Option, None, length, get_or, set, cond, sym, subst, ap, ◌∙◌, arith}
use Rattle.std.proofs.lemmas.List.{length-set, take_all}
use Rattle.std.proofs.lemmas.Option.{slice_get-get_or}
use Rattle.std.proofs.lemmas.List.FromFn.{fill_by_all}
use Rattle.link_list.specs.KeyLists.{has}
use Rattle.idle_ageing.proofs.AgeingLemmas.{has_slice_get, stop_more}
use Rattle.idle_ageing.proofs.Ages.stop_all.Goals.{in-Some, in_default}
use Rattle.idle_ageing.proofs.Ages.stop_all.Goals as goal

pub stop-requires : goal.stop-requires
stop-requires c =
    let lt = c.requires c.in-Some.t (has_slice_get c.in-Some.t c.loop-i.i c.args.tasks.now (sym c.in-Some.ensures)) in
    omega (arith, c.loop-i.invariant.1)

pub loop-i-preserved : goal.loop-i-preserved
loop-i-preserved c = elim c.match-get.branch [
  | in-Some w ↦
      let lt = c.requires w.in-Some.t (has_slice_get w.in-Some.t c.loop-i.i c.args.tasks.now (sym w.in-Some.ensures)) in
      let inside : w.in-Some.t < length c.loop-i.self.counts = omega (arith, c.loop-i.invariant.1) in
      let counts : c.match-get.self.counts ≡ set c.loop-i.self.counts w.in-Some.t None = ap (λ a. a.counts) w.self-is ∙ w.stop.ensures.counts in (
        ap (λ a. a.delays) w.self-is ∙ w.stop.ensures.delays ∙ c.loop-i.invariant.0,
        ap length counts ∙ length-set c.loop-i.self.counts w.in-Some.t None ∙ c.loop-i.invariant.1,
        λ k kl. ap (λ cs. get_or cs k None) counts ∙ stop_more c.args.tasks.now c.loop-i.i w.in-Some.t c.args.self.now.counts c.loop-i.self.counts (sym w.in-Some.ensures) inside c.loop-i.invariant.2 k (subst (λ (cs : List (Option ℕ)). k < length cs) counts kl),
      )
  | in_default w ↦ absurd (w.in_default.not-Some (get_or c.args.tasks.now c.loop-i.i 0) (c.get.ensures ∙ slice_get-get_or c.args.tasks.now c.loop-i.i 0 (omega arith)))
]

pub returns : goal.returns
returns c =
    let old = c.args.self.now in
    let counts = fill_by_all (λ t. cond (has t c.args.tasks.now) None (get_or old.counts t None)) c.loop-i.self.counts (length old.counts) None c.loop-i.invariant.1
    (λ k lt. c.loop-i.invariant.2 k (omega arith) ∙ ap (λ ts. cond (has k ts) None (get_or old.counts k None)) (take_all c.loop-i.i c.args.tasks.now (omega arith))) in
    ap (λ (ds : List ℕ). record { delays = ds; counts = c.loop-i.self.counts }) c.loop-i.invariant.0
    ∙ ap (λ (cs : List (Option ℕ)). record { delays = old.delays; counts = cs }) counts
