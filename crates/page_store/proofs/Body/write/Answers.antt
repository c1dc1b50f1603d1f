use Rattle.std.proofs.Common.{◌≡◌, ℕ, ◌+◌, ◌++◌, List, length, sym, ap₂, ◌∙◌, arith}
use Rattle.std.proofs.lemmas.List.{take-append-drop}
use Rattle.page_store.proofs.BodyLemmas.{written_step, range_step}
use Rattle.page_store.proofs.Body.write.Goals as goal

pub loop-rest-preserved : goal.loop-rest-preserved
loop-rest-preserved c =
    let now = c.loop-rest in
    let count = c.min-count.result in
    let piece = c.split_at.result.0.now in
    let others = c.split_at.result.1.now in
    let parts : now.rest.now ≡ piece ++ others = sym (ap₂ (λ (xs ys : List ℕ). xs ++ ys) c.split_at.ensures.front c.split_at.ensures.back ∙ take-append-drop count now.rest.now) in
    let whole : count + length others ≡ length now.rest.now = omega (arith, c.split_at.ensures.back_len) in
    record {
      range = range_step now.self c.write_in_page.new.self now.place count (length now.rest.now) (length others) c.write_in_page.ensures.prepared whole now.invariant.range;
      bytes = written_step c.args.self.now now.self c.write_in_page.new.self c.args.off now.place count c.args.bytes.now now.rest.now piece others parts c.split_at.ensures.front_len c.write_in_page.ensures.bytes now.invariant.bytes;
      prepared = c.write_in_page.ensures.prepared ∙ now.invariant.prepared;
    }
