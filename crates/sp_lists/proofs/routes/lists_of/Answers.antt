use Rattle.std.proofs.Common.{◌∙◌}
use Rattle.sp_lists.proofs.RouteLists.{dist_more, vertices_more, end_more}
use Rattle.sp_lists.proofs.routes.lists_of.Goals as goal

pub loop-answer-preserved : goal.loop-answer-preserved
loop-answer-preserved c =
    let loop = c.loop-answer in
    let answers = c.args.answers.now in
    let i = loop.answer-index in
    let answer = c.answer-item.result in
    let low = c.loop-answer-test.true in
    let is = c.answer-item.is in
    let vertices = vertices_more answers i answer low is loop.lists.vertices.items c.extend_from_slice.new.self.items c.route_in.result.now loop.invariant.vertices c.route_in.ensures c.in_ok-extend_from_slice.ensures.items in record {
      dist = dist_more answers i answer low is loop.lists.dist.items c.push.new.self.items c.distance_in.result loop.invariant.dist c.distance_in.ensures c.in_ok-push.ensures.items;
      ends = end_more answers i answer low is loop.lists.ends.items c.push-in-loop-answer.new.self.items c.extend_from_slice.new.self.items c.len.result loop.invariant.ends vertices (c.len.ensures ∙ c.extend_from_slice.new.self.ok.0) c.in_ok-push-2.ensures.items;
      vertices = vertices;
    }
