use Rattle.std.proofs.Common.{◌≡◌, arith}
use Rattle.sp_graph.proofs.PlacedRows.{place_within, place_beyond}
use Rattle.sp_graph.proofs.place.Place.of.Goals as goal

pub returns-then-index-last : goal.returns-then-index-last
returns-then-index-last c = place_beyond c.args.row.now c.args.index (omega (arith, c.if-index-last.true, c.requires))

pub returns : goal.returns
returns c =
    let here : c.min.result ≡ c.args.index = omega (arith, c.min.ensures, c.if-index-last.false) in
    rw here (place_within c.args.row.now c.args.index _ (omega (arith, c.if-index-last.false, c.requires)))
