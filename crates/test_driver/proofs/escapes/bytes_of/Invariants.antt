use Rattle.std.proofs.Common.{length}
use Rattle.test_driver.proofs.escapes.bytes_of.Given as goal

abbrev pub decreases-loop-byte : goal.decreases-loop-byte
decreases-loop-byte l = length l.rest
