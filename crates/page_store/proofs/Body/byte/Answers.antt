use Rattle.std.proofs.Common.{sym, ◌∙◌}
use Rattle.page_store.specs.Tables.{byte_in}
use Rattle.page_store.proofs.ContentsLemmas.{byte_at-bytes_of}
use Rattle.page_store.proofs.Body.byte.Goals as goal

pub returns : goal.returns
returns c = rw (← c.self.view_is) (c.byte.ensures ∙ sym (byte_at-bytes_of (byte_in c.self.inside.pages) c.args.place c.requires))
