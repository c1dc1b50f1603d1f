use Rattle.std.proofs.Common.{sym}
use Rattle.page_store.specs.Tables.{byte_in}
use Rattle.page_store.proofs.ContentsLemmas.{bytes_of-byte_at}
use Rattle.page_store.proofs.Body.are_contents.Goals as goal

pub returns-clause-bytes : goal.returns-clause-bytes
returns-clause-bytes c = rw (← c.self.view_is) (sym (bytes_of-byte_at (byte_in c.self.inside.pages)))
