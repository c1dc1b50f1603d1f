use Rattle.std.proofs.Common.{◌≡◌, reverse, take, length, map}
use Rattle.std.specs.List.{range_with_len}
use Rattle.kernel_model.specs.Contents.{byte}
use Rattle.slow_kernel.proofs.contents.bytes.Given as goal

abbrev pub invariant-loop-i : goal.invariant-loop-i
invariant-loop-i l = record {
  long : length l.held ≡ 256;
  read : take l.i l.held ≡ map (byte (reverse l.entries) l.o) (range_with_len l.off l.i);
}
