use Rattle.std.proofs.Common.{◌-◌, ◌≤◌, length}
use Rattle.dyemap.proofs.read_input.Given as goal

abbrev pub invariant-loop-bytes : goal.invariant-loop-bytes
invariant-loop-bytes l = l.bytes ≤ length l.buffer

abbrev pub decreases-loop-bytes : goal.decreases-loop-bytes
decreases-loop-bytes l = length l.buffer - l.bytes
