use Rattle.std.proofs.Common.{◌≡◌, [], ◌∷◌, ◌++◌, filter, cond, length, sym, ap, ◌∙◌, arith}
use Rattle.link_list.specs.KeyLists.{list_at, after}
use Rattle.link_list.proofs.Members.{has_after}
use Rattle.priority_bands.proofs.Rests.{rest_from, rest_from_first, rest_from_key, first_has}
use Rattle.idle_ageing.specs.Ageing.{has_reached}
use Rattle.idle_ageing.proofs.AgeingLemmas.{list_with_band, filter_step, length_step}
use Rattle.idle_ageing.proofs.Ages.list_reached.Goals as goal

pub loop-at-init : goal.loop-at-init
loop-at-init c =
    let tasks = list_at c.args.b.now c.args.band in
    let all : rest_from c.head_of-at.result tasks ≡ tasks = ap (λ o. rest_from o tasks) c.head_of-at.ensures ∙ rest_from_first tasks in (
      λ t is. first_has tasks t (sym c.head_of-at.ensures ∙ is),
      (let l = ap length all in omega (arith, c.requires.room)),
      ap (λ xs. c.args.line.now ++ filter (has_reached c.args.self.now) xs) all,
    )

pub push_if-requires : goal.push_if-requires
push_if-requires c =
    let tasks = list_at c.args.b.now c.args.band in
    let once = c.are_bands.ensures.once.within c.args.band (omega (arith, c.are_bands.ensures.count, c.requires.band)) in
    let rest = ap length (ap (λ o. rest_from o tasks) c.in-Some.is ∙ rest_from_key c.in-Some.t tasks once (c.loop-at.invariant.0 c.in-Some.t c.in-Some.is)) in
    let room = c.loop-at.invariant.1 in
    omega arith

-- the next task in the band
next_is : (c : goal.After-next-at) → c.next-at.result ≡ after c.in-Some.t (list_at c.args.b.now c.args.band)
next_is c = c.next-at.ensures ∙ ap (after c.in-Some.t) (list_with_band c.args.b.now c.are_bands.ensures.once c.in-Some.t c.args.band (omega (arith, c.are_bands.ensures.count, c.requires.band)) (c.loop-at.invariant.0 c.in-Some.t c.in-Some.is))

-- the task that comes, and what is left behind it
step : (c : goal.After-next-at) → rest_from c.loop-at.at (list_at c.args.b.now c.args.band) ≡ c.in-Some.t ∷ rest_from c.next-at.result (list_at c.args.b.now c.args.band)
step c =
    let tasks = list_at c.args.b.now c.args.band in
    let here = c.loop-at.invariant.0 c.in-Some.t c.in-Some.is in
    ap (λ o. rest_from o tasks) c.in-Some.is
    ∙ rest_from_key c.in-Some.t tasks (c.are_bands.ensures.once.within c.args.band (omega (arith, c.are_bands.ensures.count, c.requires.band))) here
    ∙ ap (λ o. c.in-Some.t ∷ rest_from o tasks) (sym (next_is c))

pub loop-at-smaller : goal.loop-at-smaller
loop-at-smaller c = let l = ap length (step c) in omega arith

pub loop-at-preserved : goal.loop-at-preserved
loop-at-preserved c =
    let tasks = list_at c.args.b.now c.args.band in
    let p = has_reached c.args.self.now in
    let line : c.push_if.new.line ≡ cond (p c.in-Some.t) (c.loop-at.line ++ c.in-Some.t ∷ []) c.loop-at.line = c.push_if.ensures ∙ ap (λ b. cond b (c.loop-at.line ++ c.in-Some.t ∷ []) c.loop-at.line) c.has_reached.ensures in
    let longer = length_step (p c.in-Some.t) c.loop-at.line c.in-Some.t in
    let line_length = ap length line in
    let rest_length = ap length (step c) in (
      λ t is. has_after c.in-Some.t t tasks (sym (next_is c) ∙ is),
      omega (arith, c.loop-at.invariant.1),
      ap (λ xs. xs ++ filter p (rest_from c.next-at.result tasks)) line
          ∙ filter_step p c.loop-at.line c.in-Some.t (rest_from c.next-at.result tasks)
          ∙ ap (λ xs. c.loop-at.line ++ filter p xs) (sym (step c))
          ∙ c.loop-at.invariant.2,
    )
