-- Which tasks are live.
use Rattle.std.proofs.Common.{◌≡◌, ℕ, ◌<◌, inl, inr, Bool, true, false, cond, find, List, [], ◌∷◌, length, Some, sym, ap, ◌∙◌}
use Rattle.std.proofs.lemmas.Bool.{cases_lt, false≢true}
use Rattle.std.proofs.lemmas.List.{get_or_past}
use Rattle.std.proofs.lemmas.Option.{none-some, same_Some}
use Rattle.link_list.specs.KeyLists.{has}
use Rattle.link_list.proofs.Members.{has_at_head, has_in_rest}
use Rattle.priority_bands.specs.Banded.{tasks_from}
use Rattle.task_ledger.specs.declared.account.Account.{Account}
use Rattle.task_ledger.specs.Accounts.{no_account}
use Rattle.jetsam_pick.specs.Victims.{is_live, least_task, HoldLive}

-- a number that is no task's isn't live
live_is_task : (accounts : List Account) (task : ℕ) → is_live accounts task ≡ true → task < length accounts
live_is_task accounts task h = elim (cases_lt task (length accounts)) [
  | inl below ↦ below
  | inr past ↦ absurd (false≢true (sym (ap (λ (a : Account). a.live) (get_or_past accounts task no_account past)) ∙ h))
]

-- the tasks in the bands have accounts
pub task_in_bands : (bands : List (List ℕ)) (accounts : List Account) (low : ℕ) → HoldLive bands accounts → low ≡ 0 → (task : ℕ) → has task (tasks_from bands low) ≡ true → task < length accounts
task_in_bands bands accounts low live is task h =
    live_is_task accounts task (sym (live task) ∙ ap (λ b. has task (tasks_from bands b)) (sym is) ∙ h)

-- what is found stands in the list
found_has : (p : ℕ → Bool) (xs : List ℕ) (x : ℕ) → find p xs ≡ Some x → has x xs ≡ true
found_has p [] x h = absurd (none-some x h)
found_has p (y ∷ ys) x h = elim (p y) as (λ b. cond b (Some y) (find p ys) ≡ Some x → has x (y ∷ ys) ≡ true) [
  | true ↦ λ e. has_at_head x y ys (sym (same_Some y x e))
  | false ↦ λ e. has_in_rest x y ys (found_has p ys x e)
] h

-- the least task of some in the bands is live
pub least_is_live : (bands : List (List ℕ)) (accounts : List Account) (p : ℕ → Bool) (task : ℕ) → HoldLive bands accounts → least_task bands p ≡ Some task → is_live accounts task ≡ true
least_is_live bands accounts p task live h = sym (live task) ∙ found_has p (tasks_from bands 0) task h
