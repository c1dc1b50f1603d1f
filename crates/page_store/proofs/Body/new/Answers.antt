use Rattle.page_store.proofs.BodyLemmas.{nothing_there}
use Rattle.page_store.proofs.Body.new.Goals as goal

pub returns : goal.returns
returns c = rw c.in_ok-new.ensures nothing_there
