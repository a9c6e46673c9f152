use Rattle.std.proofs.Common.{◌<◌}
use Rattle.test_replay.proofs.checksum.checksum.Given as goal

abbrev pub invariant-loop-byte : goal.invariant-loop-byte
invariant-loop-byte l = l.sum < 72057594037927931
