-- What a call that fits names is declared.
use Rattle.std.proofs.Common.{◌≡◌, ℕ, ◌<◌, ◌≤◌, List, length, refl, sym, ◌∙◌, subst, Bool, true, false, ◌&&◌, inl, inr, arith, nat_lt}
use Rattle.std.specs.Prelude.{IsTrue, IfSome, is_some}
use Rattle.std.specs.Option.{unwrap_or}
use Rattle.std.proofs.lemmas.Bool.{true≢false, cases_lt, and_parts}
use Rattle.std.proofs.lemmas.Bool.Decides.{nat_tests}
use Rattle.kern_ids.specs.declared.calls.Call.{Call}
use Rattle.kern_ids.specs.declared.calls.Call.TheVariants.{Map, Unmap, Write, Read, SetState, GetState, Active, Ledger, Exit, PurgeOne, Forced, Scan, Tick, Jetsam, SetBand, SetLimits, Info, Purgeables, Attach}
use Rattle.kernel_model.specs.System.{System}
use Rattle.kernel_model.specs.Valid.{IsValidBoot}
use Rattle.kernel_model.specs.Events.{task_of}
use Rattle.kernel_model.specs.Histories.{fits, same, is_task_call, names_fit, limit_ok}
use Rattle.kernel_model.specs.Answers.{object_of, named_task}
use Rattle.kernel_model.proofs.Laws.Held.{declared_task}
use Rattle.kernel_tables.specs.Asked.{IsAsked}

-- what a test of numbers tells
pub less : (a b : ℕ) → nat_lt a b ≡ true → a < b
less a b h = elim (cases_lt a b) [
  | inl l ↦ l
  | inr m ↦ let f : nat_lt a b ≡ false = grind (arith, nat_tests) in absurd (true≢false (sym h ∙ f))
]

-- the object that a call names is declared, and so is the task
named_object : (boot : System) (call : Call) → names_fit boot call ≡ true → IfSome (object_of call) (λ o. o < length boot.objects)
named_object boot (Map o) n = less o (length boot.objects) n
named_object boot (Attach o) n = less o (length boot.objects) n
named_object boot (Unmap o) n = less o (length boot.objects) n
named_object boot (Write o off bytes) n = less o (length boot.objects) (and_parts (nat_lt o (length boot.objects)) (nat_lt 0 (length bytes)) n).0
named_object boot (Read o off len) n = less o (length boot.objects) n
named_object boot (SetState o word) n = less o (length boot.objects) n
named_object boot (GetState o) n = less o (length boot.objects) n
named_object boot (Active on) n = tt
named_object boot Ledger n = tt
named_object boot Exit n = tt
named_object boot PurgeOne n = tt
named_object boot Forced n = tt
named_object boot Scan n = tt
named_object boot Tick n = tt
named_object boot Jetsam n = tt
named_object boot (SetBand t band) n = tt
named_object boot (SetLimits t a i) n = tt
named_object boot Info n = tt
named_object boot Purgeables n = tt

task_named : (boot : System) (call : Call) → names_fit boot call ≡ true → IfSome (named_task call) (λ t. t < length boot.tasks)
task_named boot (SetBand t band) n = less t (length boot.tasks) n
task_named boot (SetLimits t a i) n = less t (length boot.tasks) (and_parts (nat_lt t (length boot.tasks)) (limit_ok a) (and_parts (nat_lt t (length boot.tasks) && limit_ok a) (limit_ok i) n).0).0
task_named boot (Map o) n = tt
task_named boot (Attach o) n = tt
task_named boot (Unmap o) n = tt
task_named boot (Write o off bytes) n = tt
task_named boot (Read o off len) n = tt
task_named boot (SetState o word) n = tt
task_named boot (GetState o) n = tt
task_named boot (Active on) n = tt
task_named boot Ledger n = tt
task_named boot Exit n = tt
task_named boot PurgeOne n = tt
task_named boot Forced n = tt
task_named boot Scan n = tt
task_named boot Tick n = tt
task_named boot Jetsam n = tt
task_named boot Info n = tt
task_named boot Purgeables n = tt

pub fits-asked : (boot : System) (who : ℕ) (call : Call) → IsValidBoot boot → IsTrue (fits boot who call) → IsAsked boot (unwrap_or (task_of boot who) 0) call
fits-asked boot who call v f =
    let parts = and_parts (nat_lt who (length boot.sides) && same (is_task_call call) (is_some (task_of boot who))) (names_fit boot call) f in
    let side = and_parts (nat_lt who (length boot.sides)) (same (is_task_call call) (is_some (task_of boot who))) parts.0 in
    record {
      object = named_object boot call parts.1;
      task = task_named boot call parts.1;
      caller = λ k. declared_task boot who v (subst (λ b. same b (is_some (task_of boot who)) ≡ true) k side.1);
    }
