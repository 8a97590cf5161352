use Rattle.std.proofs.Common.{◌++◌, codes, refl}
use Rattle.sp_files.specs.PairText.{numbers_text, route_head, route_text}
use Rattle.sp_files.proofs.SentRows.{both_sent}
use Rattle.sp_files.proofs.pair_lines.send_found_route.Goals as goal

pub returns : goal.returns
returns g c =
    let pair = c.args.pair in
    let head = route_head pair.0 pair.1 c.args.dist in
    let vertices = numbers_text c.args.route.now in
    let whole = route_text pair.0 pair.1 c.args.dist c.args.route.now in
    both_sent g.W.Write (head ++ vertices) (codes "\n") whole _ _ _ _ _ _ (both_sent g.W.Write head vertices (head ++ vertices) _ _ _ _ _ _ c.send_route_head.ensures c.send_vertices.ensures refl) c.send_line_end.ensures refl
