use Rattle.page_store.proofs.BodyLemmas.{nothing_there}
use Rattle.page_store.proofs.Body.clear.Goals as goal

pub returns : goal.returns
returns c = rw c.clear.ensures nothing_there
