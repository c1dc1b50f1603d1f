use Rattle.std.proofs.Common.{◌≡◌, ◌*◌, ◌<◌, ℕ, List, length, map, filter, refl, subst}
use Rattle.std.specs.List.{range_with_len}
use Rattle.kernel_model.specs.declared.boot.TaskBoot.{TaskBoot}
use Rattle.link_list.specs.KeyLists.{list_at}
use Rattle.task_ledger.specs.Accounts.{first_account}
use Rattle.idle_ageing.specs.Ageing.{count_of}
use Rattle.kernel_tables.specs.Start.{begins_in, first_count}
use Rattle.kernel_tables.proofs.StartLemmas.{start-by}
use Rattle.kernel_tables.proofs.parts.Parts.new.Goals as goal

pub returns-clause-stands : goal.returns-clause-stands
returns-clause-stands c =
    let made = c.in_ok-tasks.tasks in
    let same : c.tasks.result.now ≡ c.args.boot.now.tasks = c.tasks.ensures.value in
    start-by _ c.args.boot.now (256 * length c.args.boot.now.objects) c.in_ok-boot.ensures
    c.in_ok-objects.ensures.pages c.in_ok-objects.ensures.groups c.in_ok-objects.ensures.tokens c.in_ok-objects.ensures.objects
    (subst (λ (ts : List TaskBoot). made.ledgers ≡ map first_account ts) same c.in_ok-tasks.ensures.ledgers)
    (subst (λ (ts : List TaskBoot). (b : ℕ) → b < 21 → list_at made.bands b ≡ filter (begins_in ts b) (range_with_len 0 (length ts))) same c.in_ok-tasks.ensures.bands)
    (subst (λ (ts : List TaskBoot). made.ages.delays ≡ map (λ (task : TaskBoot). task.delay) ts) same c.in_ok-tasks.ensures.delays)
    (subst (λ (ts : List TaskBoot). (t : ℕ) → t < length ts → count_of made.ages t ≡ first_count ts t) same c.in_ok-tasks.ensures.counts)
    (subst (λ (ts : List TaskBoot). made.wishes.items ≡ map (λ (task : TaskBoot). task.band) ts) same c.in_ok-tasks.ensures.wishes)
    refl
