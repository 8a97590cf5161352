use Rattle.std.proofs.Common.{◌≡◌, ◌<◌, ◌∙◌, ℕ, Some, length, sym, ap, arith}
use Rattle.std.specs.Prelude.{slice_get}
use Rattle.std.proofs.lemmas.Option.{slice_get-get_or}
use Rattle.sp_word.specs.Word.{Word}
use Rattle.sp_lists.specs.Listed.{listing}
use Rattle.sp_lists.proofs.RowCells.{row_listed, listing_put, all_listed}
use Rattle.sp_lists.proofs.parts.put_rows.Goals as goal

pub loop-place-preserved : goal.loop-place-preserved
loop-place-preserved g c =
    let loop = c.loop-place in
    let rows = c.args.rows.now in
    let row : ℕ × Word = c.index-rows-place.result in
    let cell = c.cell_of-cell.result in
    let there : slice_get rows loop.place ≡ Some row = slice_get-get_or rows loop.place row c.loop-place-test.true ∙ ap (λ (r : ℕ × Word). Some r) (sym c.index-rows-place.is) in
    let vs : loop.place < length loop.vertex = omega arith in
    let ds : loop.place < length loop.dist = omega arith in
    let ps : loop.place < length loop.pred = omega arith in
    record {
      rows = row_listed rows loop.place cell.dist cell.pred row loop.vertex loop.dist loop.pred there vs ds ps c.cell_of-cell.ensures loop.invariant.rows;
      others = listing_put loop.place row.0 cell.dist cell.pred (listing c.args.vertex.now c.args.dist.now c.args.pred.now) loop.vertex loop.dist loop.pred loop.invariant.others;
    }

pub returns-clause-rows : goal.returns-clause-rows
returns-clause-rows g c k row there =
    let loop = c.loop-place in
    all_listed loop.place c.args.rows.now (listing loop.vertex loop.dist loop.pred) k row c.loop-place-test.false loop.invariant.rows there
