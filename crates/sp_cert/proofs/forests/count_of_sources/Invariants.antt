use Rattle.std.proofs.Common.{◌≡◌, take, length}
use Rattle.sp_cert.specs.Claims.{sources_of}
use Rattle.sp_cert.proofs.forests.count_of_sources.Given as goal

abbrev pub invariant-loop-row : goal.invariant-loop-row
invariant-loop-row g l = l.count ≡ length (sources_of (take l.row-index l.row-items))
