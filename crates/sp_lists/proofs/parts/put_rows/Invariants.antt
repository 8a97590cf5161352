use Rattle.sp_lists.specs.Listed.{listing, KeepsListingFrom}
use Rattle.sp_lists.proofs.RowCells.{HasRowsBefore}
use Rattle.sp_lists.proofs.parts.put_rows.Given as goal

abbrev pub invariant-loop-place : goal.invariant-loop-place
invariant-loop-place g l = record {
  rows : HasRowsBefore l.place l.rows (listing l.vertex l.dist l.pred);
  others : KeepsListingFrom l.place (listing l.fn.vertex l.fn.dist l.fn.pred) (listing l.vertex l.dist l.pred);
}
