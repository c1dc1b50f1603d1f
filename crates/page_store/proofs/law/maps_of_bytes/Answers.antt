use Rattle.page_store.proofs.ContentsLemmas.{byte_at-bytes_of, bytes_of-alike}
use Rattle.page_store.proofs.law.maps_of_bytes.Goals as goal

pub returns-clause-byte : goal.returns-clause-byte
returns-clause-byte c = byte_at-bytes_of

pub returns-clause-alike : goal.returns-clause-alike
returns-clause-alike c = bytes_of-alike
