use Rattle.std.proofs.Common.{ℕ, ◌+◌, ◌<◌, List, [], ◌∷◌, ◌++◌, length, sym, ◌∙◌, ap₂, refl, arith}
use Rattle.std.proofs.lemmas.List.{take_more_set, length-set}
use Rattle.std.proofs.lemmas.List.FromFn.{map-range_with_len_more}
use Rattle.page_store.specs.Contents.{byte_at}
use Rattle.page_store.proofs.Body.read.Goals as goal

pub loop-i-preserved : goal.loop-i-preserved
loop-i-preserved c =
    let l = c.loop-i in
    let inside : l.i < length l.held = let e = l.invariant.long in omega arith in
    record {
      long = length-set l.held l.i c.byte.result ∙ l.invariant.long;
      read = take_more_set l.held l.i c.byte.result inside
          ∙ ap₂ (λ (xs : List ℕ) (x : ℕ). xs ++ x ∷ []) l.invariant.read c.byte.ensures
          ∙ sym (map-range_with_len_more (byte_at c.args.self.now.bytes) c.args.off l.i (c.args.off + l.i) refl);
    }
