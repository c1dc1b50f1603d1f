-- What is left of a scenario's text where threads are done, and lines as their parts.
use Rattle.std.proofs.Common.{◌≡◌, ℕ, List, [], ◌∷◌, ◌++◌, map, sym, ap, ◌∙◌, append_assoc, length, arith}
use Rattle.std.specs.Prelude.{codes}
use Rattle.std.specs.Fmt.{decimal}
use Rattle.std.proofs.lemmas.List.{append-nil}
use Rattle.std.proofs.lemmas.Grind.{flat_map-append}
use Rattle.kern_ids.specs.declared.calls.Call.{Call}
use Rattle.kernel_model.specs.declared.boot.Side.{Side}
use Rattle.line_text.specs.Cut.{Word, line_of, text_of, spaced}
use Rattle.line_text.proofs.Lines.{line_of-cons}
use Rattle.scenario_text.specs.Text.{thread_lines, last_lines}
use Rattle.scenario_text.specs.Left.{end_text}

-- the order line and the end
pub text_of-last_lines : (order : List ℕ) → text_of (last_lines order) ≡ codes "order" ++ (spaced (map decimal order) ++ 10 ∷ end_text)
text_of-last_lines order =
    ap (λ (x : List ℕ). (x ++ 10 ∷ []) ++ end_text) (line_of-cons (codes "order") (map decimal order))
    ∙ append_assoc (codes "order" ++ spaced (map decimal order)) (10 ∷ []) end_text
    ∙ append_assoc (codes "order") (spaced (map decimal order)) (10 ∷ end_text)

pub no_sides_left : (n : ℕ) (sides : List Side) (scripts : List (List Call)) (order : List ℕ) → length sides ≡ 0 → text_of (thread_lines n sides scripts ++ last_lines order) ≡ codes "order" ++ (spaced (map decimal order) ++ 10 ∷ end_text)
no_sides_left n [] scripts order e = text_of-last_lines order
no_sides_left n (side ∷ sides) scripts order e = absurd (omega arith)

pub no_scripts_left : (n : ℕ) (sides : List Side) (scripts : List (List Call)) (order : List ℕ) → scripts ≡ [] → text_of (thread_lines n sides scripts ++ last_lines order) ≡ codes "order" ++ (spaced (map decimal order) ++ 10 ∷ end_text)
no_scripts_left n [] scripts order e = text_of-last_lines order
no_scripts_left n (side ∷ sides) [] order e = text_of-last_lines order
no_scripts_left n (side ∷ sides) (script ∷ scripts) order e = absurd cc

-- a line whose first word is alone, and its end
pub line_of-spaced : (w : Word) (ws : List Word) (text : List ℕ) → text ≡ (w ++ spaced ws) ++ 10 ∷ [] → text ≡ line_of (w ∷ ws) ++ 10 ∷ []
line_of-spaced w ws text e = e ∙ ap (λ (x : List ℕ). x ++ 10 ∷ []) (sym (line_of-cons w ws))

-- parts appended one after another
pub four_parts : (l0 l1 l2 l3 l4 p1 p2 p3 p4 : List ℕ) → l0 ≡ [] → l1 ≡ l0 ++ p1 → l2 ≡ l1 ++ p2 → l3 ≡ l2 ++ p3 → l4 ≡ l3 ++ p4 → l4 ≡ p1 ++ (p2 ++ (p3 ++ p4))
four_parts l0 l1 l2 l3 l4 p1 p2 p3 p4 z a b c d = rw (d, c, b, a, z) (simp append_assoc)

pub seven_parts : (l0 l1 l2 l3 l4 l5 l6 l7 p1 p2 p3 p4 p5 p6 p7 : List ℕ) → l0 ≡ [] → l1 ≡ l0 ++ p1 → l2 ≡ l1 ++ p2 → l3 ≡ l2 ++ p3 → l4 ≡ l3 ++ p4 → l5 ≡ l4 ++ p5 → l6 ≡ l5 ++ p6 → l7 ≡ l6 ++ p7
    → l7 ≡ p1 ++ (p2 ++ (p3 ++ (p4 ++ (p5 ++ (p6 ++ p7)))))
seven_parts l0 l1 l2 l3 l4 l5 l6 l7 p1 p2 p3 p4 p5 p6 p7 z a b c d e f g =
    g ∙ ap (λ (x : List ℕ). x ++ p7) (f ∙ ap (λ (x : List ℕ). x ++ p6) (e ∙ ap (λ (x : List ℕ). x ++ p5) (four_parts l0 l1 l2 l3 l4 p1 p2 p3 p4 z a b c d))) ∙ simp append_assoc

pub five_parts : (l0 l1 l2 l3 l4 l5 p1 p2 p3 p4 p5 : List ℕ) → l0 ≡ [] → l1 ≡ l0 ++ p1 → l2 ≡ l1 ++ p2 → l3 ≡ l2 ++ p3 → l4 ≡ l3 ++ p4 → l5 ≡ l4 ++ p5 → l5 ≡ p1 ++ (p2 ++ (p3 ++ (p4 ++ p5)))
five_parts l0 l1 l2 l3 l4 l5 p1 p2 p3 p4 p5 z a b c d e = e ∙ ap (λ (x : List ℕ). x ++ p5) (four_parts l0 l1 l2 l3 l4 p1 p2 p3 p4 z a b c d) ∙ simp append_assoc

object_join : (w d t ws v e n : List ℕ) → (w ++ (d ++ (t ++ (ws ++ (v ++ (e ++ [])))))) ++ n ≡ (w ++ d) ++ (t ++ (ws ++ ((v ++ e) ++ n)))
object_join w d t ws v e n = simp (append_assoc, append-nil)

task_join : (w d b x a p f i q g us vs n : List ℕ) → (w ++ (d ++ (b ++ (x ++ (a ++ (p ++ (f ++ (i ++ (q ++ (g ++ (us ++ vs))))))))))) ++ n
    ≡ (w ++ d) ++ ((b ++ x) ++ ((a ++ (p ++ f)) ++ ((i ++ (q ++ g)) ++ (us ++ (vs ++ n)))))
task_join w d b x a p f i q g us vs n = simp append_assoc

-- an object's line and a task's line as their parts
pub object_parts : (w d t v e : Word) (ws : List Word) → (w ++ spaced (d ∷ t ∷ (ws ++ v ∷ e ∷ []))) ++ 10 ∷ [] ≡ (w ++ 32 ∷ d) ++ ((32 ∷ t) ++ (spaced ws ++ ((32 ∷ v ++ 32 ∷ e) ++ 10 ∷ [])))
object_parts w d t v e ws =
    ap (λ (x : List ℕ). (w ++ ((32 ∷ d) ++ ((32 ∷ t) ++ x))) ++ 10 ∷ []) (flat_map-append (λ (u : Word). 32 ∷ u) ws (v ∷ e ∷ []))
    ∙ object_join w (32 ∷ d) (32 ∷ t) (spaced ws) (32 ∷ v) (32 ∷ e) (10 ∷ [])

pub task_parts : (w d b x a p f i q g : Word) (us vs : List Word) → (w ++ spaced (d ∷ b ∷ x ∷ a ∷ p ∷ f ∷ i ∷ q ∷ g ∷ (us ++ vs))) ++ 10 ∷ []
    ≡ (w ++ 32 ∷ d) ++ ((32 ∷ b ++ 32 ∷ x) ++ ((32 ∷ a ++ 32 ∷ (p ++ 32 ∷ f)) ++ ((32 ∷ i ++ 32 ∷ (q ++ 32 ∷ g)) ++ (spaced us ++ (spaced vs ++ 10 ∷ [])))))
task_parts w d b x a p f i q g us vs =
    ap (λ (y : List ℕ). (w ++ ((32 ∷ d) ++ ((32 ∷ b) ++ ((32 ∷ x) ++ ((32 ∷ a) ++ ((32 ∷ p) ++ ((32 ∷ f) ++ ((32 ∷ i) ++ ((32 ∷ q) ++ ((32 ∷ g) ++ y)))))))))) ++ 10 ∷ []) (flat_map-append (λ (u : Word). 32 ∷ u) us vs)
    ∙ task_join w (32 ∷ d) (32 ∷ b) (32 ∷ x) (32 ∷ a) (32 ∷ p) (32 ∷ f) (32 ∷ i) (32 ∷ q) (32 ∷ g) (spaced us) (spaced vs) (10 ∷ [])
