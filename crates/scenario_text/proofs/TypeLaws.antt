-- Calls that name what is declared have lines.
use Rattle.std.proofs.Common.{ℕ, ◌<◌, ◌≤◌, ◌^◌, ltb, ◌≡◌, ◌&&◌, IsTrue, List, [], length, get_or, All, sym, subst}
use Rattle.std.specs.Prelude.{is_some}
use Rattle.std.specs.List.{AllByRecursion}
use Rattle.std.proofs.lemmas.Bool.{and_parts, ltb-true}
use Rattle.std.proofs.lemmas.List.Elements.{All-weaker}
use Rattle.kern_ids.specs.declared.calls.Call.{Call}
use Rattle.kern_ids.specs.declared.calls.Call.TheVariants.{Write, Read}
use Rattle.kernel_model.specs.System.{System}
use Rattle.kernel_model.specs.Histories.{fits, same, is_task_call, names_fit, declares_object}
use Rattle.kernel_model.specs.Events.{task_of}
use Rattle.kernel_model.specs.Scenario.{Plan, IsValid}
use Rattle.line_text.specs.Calls.{HasLine}

pub write_has_line : (b : System) (o off : ℕ) (bytes : List ℕ) → IsTrue (names_fit b (Write o off bytes)) → off < 2 ^ 32 → length bytes ≤ 256 → AllByRecursion (λ x. x < 256) bytes → HasLine (length b.tasks) (length b.objects) (Write o off bytes)
write_has_line b o off bytes names word few all =
    let p = and_parts (declares_object b o) (ltb 0 (length bytes)) names in
    (ltb-true o (length b.objects) p.0, word, (ltb-true 0 (length bytes) p.1, few, all))

pub read_has_line : (b : System) (o off len : ℕ) → IsTrue (names_fit b (Read o off len)) → off < 2 ^ 32 → len < 2 ^ 32 → HasLine (length b.tasks) (length b.objects) (Read o off len)
read_has_line b o off len names word more = (ltb-true o (length b.objects) names, word, more)

pub names-at : (s : Plan) (n : ℕ) (calls : List Call) → IsValid s → n < length s.scripts → calls ≡ get_or s.scripts n [] → All (λ c. IsTrue (names_fit s.boot c)) calls
names-at s n calls v l e =
    let named : (c : Call) → IsTrue (fits s.boot n c) → IsTrue (names_fit s.boot c) = λ c f. let p = and_parts (ltb n (length s.boot.sides) && same (is_task_call c) (is_some (task_of s.boot n))) (names_fit s.boot c) f in p.1 in
    subst (λ (cs : List Call). All (λ c. IsTrue (names_fit s.boot c)) cs) (sym e) (All-weaker (λ c. IsTrue (fits s.boot n c)) (λ c. IsTrue (names_fit s.boot c)) named (get_or s.scripts n []) (v.calls n l))
