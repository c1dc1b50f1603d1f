use Rattle.std.proofs.Common.{Option, refl, sym, ◌∙◌, subst}
use Rattle.std.specs.Prelude.{IsSome}
use Rattle.kern_ids.specs.declared.calls.Wish.{Wish}
use Rattle.kernel_tables.proofs.SetEmptied.{word-asks}
use Rattle.kernel_tables.proofs.parts.Parts.set_state.Goals as goal

pub unwrap-wish-requires : goal.unwrap-wish-requires
unwrap-wish-requires g c =
    let w = word-asks c.args.self.now.boot g.past c.args.who c.args.o c.args.word c.requires.1.1 in
    subst (λ (x : Option Wish). IsSome x) (sym (c.decode_word.ensures ∙ w.1)) refl
