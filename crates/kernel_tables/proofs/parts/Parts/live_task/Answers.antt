use Rattle.std.proofs.Common.{ℕ, ◌<◌, List, get_or, ◌∙◌, subst}
use Rattle.kernel_tables.proofs.StandingLemmas.{band-is, task-is}
use Rattle.kernel_tables.proofs.parts.Parts.live_task.Goals as goal

pub is_active-requires : goal.is_active-requires
is_active-requires g c = record { task = (let l = c.requires.1.0 in rw (c.requires.0.accounts.account_count) l) }

pub counts-requires : goal.counts-requires
counts-requires g c = record { task = (let l = c.requires.1.0 in rw (c.requires.0.accounts.account_count) l) }

pub returns : goal.returns
returns g c =
    let s = c.requires.0 in
    let tasks = c.args.self.now.tasks in
    let boot = c.args.self.now.boot in
    let t = c.args.t in
    let account = s.accounts.accounts t c.requires.1.0 in
    let small : (u : ℕ) → get_or tasks.wishes.items u 0 < 21 = λ u. subst (λ (ws : List ℕ). get_or ws u 0 < 21) c.deref.ensures.value (c.wishes_are_bands.ensures u) in
    task-is boot g.past t _ _ _
    (c.band_number.ensures ∙ band-is boot g.past tasks.wishes.items tasks.bands tasks.ages t c.valid.ensures c.are_bands.ensures small s.bands c.requires.1.0 c.requires.1.1)
    (c.is_active.ensures ∙ account.active)
    (c.counts.ensures.value ∙ account.counts)
