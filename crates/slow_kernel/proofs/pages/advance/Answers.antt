use Rattle.std.proofs.Common.{sym, ◌∙◌, ap, arith}
use Rattle.std.proofs.lemmas.List.{with_items_is}
use Rattle.kernel_model.specs.State.{next_state}
use Rattle.slow_kernel.proofs.Loops.{state_loop}
use Rattle.slow_kernel.proofs.pages.advance.Goals as goal

pub returns : goal.returns
returns c = record {
  state =
      c.next_state-pass.ensures
      ∙ ap (λ s. next_state c.args.o s c.index-entries-i.result) c.requires.known.state
      ∙ sym (state_loop c.args.entries.now c.args.i c.index-entries-i.result c.args.o c.requires.at c.index-entries-i.is);
  mappers = with_items_is c.args.pass.now.mappers c.advance_mappers-unmapped.new.mappers (omega (arith, c.args.pass.now.mappers.ok.0)) ∙ c.advance_mappers-unmapped.ensures.after;
  pages = with_items_is c.args.pass.now.pages c.advance_pages.new.pages (omega (arith, c.args.pass.now.pages.ok.0)) ∙ c.advance_pages.ensures;
}
