use Rattle.std.proofs.Common.{rules}
use Rattle.report.proofs.Theorems.{within_buffer}
use Rattle.cases.proofs.logs.show_log.Goals as goal

-- what is written fits in the buffer that it is written into
pub slice_bounds-write_all-end : goal.slice_bounds-write_all-end
slice_bounds-write_all-end g c = let h = within_buffer _ _ _ _ c.report-bytes.ensures in search rules
