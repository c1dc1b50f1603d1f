-- The end of a task over the tables, by an Exit or by jetsam.
use Rattle.std.proofs.Common.{◌≡◌, ℕ, ◌<◌, ◌≤◌, List, ◌∷◌, length, set, None, sym, ap, ◌∙◌, subst, false, nat_eq, arith}
use Rattle.std.proofs.lemmas.List.{length-map}
use Rattle.kern_ids.specs.declared.entries.Entry.{Entry}
use Rattle.kernel_model.specs.declared.boot.TaskBoot.{TaskBoot}
use Rattle.kernel_model.specs.System.{System}
use Rattle.kernel_model.specs.Valid.{IsValidBoot}
use Rattle.kernel_model.specs.Histories.{IsLegal}
use Rattle.idle_ageing.specs.Ageing.{Ageing, count_of as count_at}
use Rattle.priority_bands.specs.Banded.{removed}
use Rattle.task_ledger.specs.declared.account.Account.{Account}
use Rattle.task_ledger.specs.Accounts.{account_of}
use Rattle.kernel_tables.specs.Values.{TableValues}
use Rattle.kernel_tables.specs.Ends.{IsEnding, StandsOver, parted}
use Rattle.kernel_tables.specs.Stands.{Stands, PagesStand, QueuesStand, ObjectsStand, AccountsStand, BandsStand}
use Rattle.kernel_tables.proofs.Ending.{end-pages, end-queues, end-objects, end-accounts, end-bands, end-dead}
use Rattle.kernel_tables.proofs.Parting.{IsParted, parted-is}
use Rattle.kernel_tables.proofs.Purged.{stands-by}

module _ (tables mid : TableValues) (past : List Entry) (t : ℕ) (v : IsValidBoot tables.boot) (s : Stands tables past) (l : t < length tables.boot.tasks) (same : mid.boot ≡ tables.boot) (over : StandsOver mid (parted tables.boot past t (length tables.boot.objects))) where
  abbrev boot : System
  boot = tables.boot

  abbrev gone : List Entry
  gone = parted boot past t (length boot.objects)

  accounts_over : AccountsStand boot gone mid.accounts
  accounts_over = subst (λ (b : System). AccountsStand b gone mid.accounts) same over.accounts

  pub end-account : t < length mid.accounts
  end-account = (let n = accounts_over.account_count in omega (arith, n, l))

  pub end-age : mid.ages ≡ tables.ages → t < length mid.ages.delays
  end-age kept = (let n : length mid.ages.delays ≡ length boot.tasks = ap (λ (a : Ageing). length a.delays) kept ∙ ap length s.bands.delays ∙ length-map boot.tasks (λ (task : TaskBoot). task.delay) in omega (arith, n, l))

  pub end-stands : (accounts : List Account) (bands : List (List ℕ)) (ages : Ageing) (wishes : List ℕ) → mid.bands ≡ tables.bands → mid.ages ≡ tables.ages → mid.wishes ≡ tables.wishes
      → accounts ≡ set mid.accounts t (record (account_of mid.accounts t) { live = false }) → wishes ≡ mid.wishes → bands ≡ removed mid.bands t → ages.delays ≡ mid.ages.delays → count_at ages t ≡ None → ((u : ℕ) → nat_eq u t ≡ false → count_at ages u ≡ count_at mid.ages u)
      → (e : Entry) → IsEnding boot e past t → IsLegal boot (e ∷ past) → Stands (record mid { accounts = accounts; bands = bands; ages = ages; wishes = wishes }) (e ∷ past)
  end-stands accounts bands ages wishes same_bands same_ages same_wishes charged wished banded delays here others e is legal =
      let whole : length boot.objects ≤ length boot.objects = omega arith in
      let p : IsParted boot t (length boot.objects) past gone = parted-is boot past t v s.legal (length boot.objects) whole in
      stands-by (record mid { accounts = accounts; bands = bands; ages = ages; wishes = wishes }) boot (e ∷ past) same legal
      (end-pages boot e past gone t v is legal p mid.pages mid.entered (subst (λ (b : System). PagesStand b gone mid.pages mid.entered) same over.pages))
      (end-queues boot e past gone t v is legal p mid.groups mid.tokens (subst (λ (b : System). QueuesStand b gone mid.groups mid.tokens) same over.queues))
      (end-objects boot e past gone t v is legal p mid.objects (subst (λ (b : System). ObjectsStand b gone mid.objects) same over.objects))
      (subst (AccountsStand boot (e ∷ past)) (sym charged) (end-accounts boot e past gone t v is legal p mid.accounts l accounts_over))
      (subst (λ (x : List ℕ). BandsStand boot (e ∷ past) x bands ages) (sym (wished ∙ same_wishes))
      (subst (λ (x : List (List ℕ)). BandsStand boot (e ∷ past) tables.wishes x ages) (sym (banded ∙ ap (λ (x : List (List ℕ)). removed x t) same_bands))
      (end-bands boot e past t is tables.wishes tables.bands tables.ages ages (end-dead boot e past gone t v is legal p) (delays ∙ ap (λ (a : Ageing). a.delays) same_ages) here (λ u d. others u d ∙ ap (λ (a : Ageing). count_at a u) same_ages) s.bands)))
