use Rattle.std.proofs.Common.{◌≡◌, take, length, map}
use Rattle.std.specs.List.{range_with_len}
use Rattle.page_store.specs.Contents.{byte_at}
use Rattle.page_store.proofs.Body.read.Given as goal

abbrev pub invariant-loop-i : goal.invariant-loop-i
invariant-loop-i l = record {
  long : length l.held ≡ 256;
  read : take l.i l.held ≡ map (byte_at l.self.bytes) (range_with_len l.off l.i);
}
