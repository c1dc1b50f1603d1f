use Rattle.std.proofs.Common.{◌≡◌, length}
use Rattle.page_store.specs.Contents.{overwritten, IsRangePrepared}
use Rattle.page_store.proofs.Body.write.Given as goal

-- what is left to write makes of the bytes now what all makes of those at first
abbrev pub invariant-loop-rest : goal.invariant-loop-rest
invariant-loop-rest l = record {
  range : IsRangePrepared l.self l.place (length l.rest);
  bytes : overwritten l.self.bytes l.place l.rest ≡ overwritten l.initial.self.bytes l.off l.bytes;
  prepared : l.self.prepared ≡ l.initial.self.prepared;
}

abbrev pub decreases-loop-rest : goal.decreases-loop-rest
decreases-loop-rest l = length l.rest
