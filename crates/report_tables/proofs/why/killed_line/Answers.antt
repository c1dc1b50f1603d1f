use Rattle.std.proofs.Common.{◌≡◌, ℕ, List, [], ◌∷◌, ◌++◌, codes, ap, ◌∙◌, append_assoc}
use Rattle.std.specs.Fmt.{decimal}
use Rattle.history_text.specs.Entries.{cause_word}
use Rattle.report_tables.proofs.why.killed_line.Goals as goal

-- parts appended one after another
chain : (l0 l1 l2 l3 l4 l5 l6 p0 p1 p2 p3 p4 z : List ℕ) → l0 ≡ [] → l1 ≡ l0 ++ p0 → l2 ≡ l1 ++ p1 → l3 ≡ l2 ++ p2 → l4 ≡ l3 ++ p3 → l5 ≡ l4 ++ p4 → l6 ≡ l5 ++ z → l6 ≡ (p0 ++ (p1 ++ (p2 ++ (p3 ++ p4)))) ++ z
chain l0 l1 l2 l3 l4 l5 l6 p0 p1 p2 p3 p4 z q0 q1 q2 q3 q4 q5 q6 = rw (q6, q5, q4, q3, q2, q1, q0) (simp append_assoc)

pub returns : goal.returns
returns c =
    chain c.new-line.result c.push_word.new.line c.push_field.new.line c.push_field-2.new.line c.push_field-3.new.line c.push_field-4.new.line c.push.new.self
    (codes "because " ++ cause_word c.args.cause) (codes " band " ++ decimal c.args.band) (codes " footprint " ++ decimal c.args.footprint)
    (codes " limit " ++ decimal c.args.limit) (codes " free " ++ decimal c.args.frames) (10 ∷ [])
    c.new-line.ensures
    (c.push_word.ensures.bytes ∙ ap (λ (w : List ℕ). c.new-line.result ++ (codes "because " ++ w)) c.cause_word.ensures.value)
    (c.push_field.ensures.bytes ∙ ap (λ (n : ℕ). c.push_word.new.line ++ (codes " band " ++ decimal n)) c.from.ensures)
    (c.push_field-2.ensures.bytes ∙ ap (λ (n : ℕ). c.push_field.new.line ++ (codes " footprint " ++ decimal n)) c.from-2.ensures)
    (c.push_field-3.ensures.bytes ∙ ap (λ (n : ℕ). c.push_field-2.new.line ++ (codes " limit " ++ decimal n)) c.from-3.ensures)
    (c.push_field-4.ensures.bytes ∙ ap (λ (n : ℕ). c.push_field-3.new.line ++ (codes " free " ++ decimal n)) c.from-4.ensures)
    c.push.ensures.bytes
