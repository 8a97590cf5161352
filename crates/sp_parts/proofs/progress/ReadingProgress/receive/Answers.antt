use Rattle.std.proofs.Common.{◌≡◌, ◌+◌, ◌%◌, ◌^◌, ◌∙◌, length, ap, arith}
use Rattle.std.proofs.Math.Nat.{mod-eq_of_lt}
use Rattle.std.specs.Arc.{arc_value}
use Rattle.sp_parts.specs.declared.buffer_pool.PendingPiece.{PendingPiece}
use Rattle.sp_parts.proofs.Standing.{came_at, come_far}
use Rattle.sp_parts.proofs.Holding.{held_more}
use Rattle.sp_parts.proofs.progress.ReadingProgress.receive.Goals as goal

pub returns-then-is_shared-clause-held : goal.returns-then-is_shared-clause-held
returns-then-is_shared-clause-held g c =
    let was = c.args.self.now in
    let bytes = arc_value c.fill.new.group in
    let brings = c.in-Some.ensures.some in
    let count : length c.bytes-count.result.now ≡ length bytes = ap length (c.bytes-count.ensures ∙ c.deref.ensures) in
    let far = come_far g.R.Read g.O.Origin.text c.args.device.now c.fill.new.device was.came.bytes bytes c.in-Some.received c.requires.come brings in
    let same : (was.came.bytes + length bytes) % 2 ^ 64 ≡ was.came.bytes + length bytes = mod-eq_of_lt (omega (arith, far)) in
    let there = came_at g.R.Read g.O.Origin.text c.args.device.now c.fill.new.device was.came.bytes bytes c.in-Some.received c.requires.come brings in
    let pending : PendingPiece = record { group = c.fill.new.group; is_shared = c.if-not-self.is_shared } in
    rw (c.push_back_reserved.ensures.items, count, same) (held_more g.O.Origin.text was.taken.bytes was.flying.items pending was.came.bytes c.requires.held there)

pub returns-else-is_shared-clause-held : goal.returns-else-is_shared-clause-held
returns-else-is_shared-clause-held g c =
    let was = c.args.self.now in
    let bytes = arc_value c.fill.new.group in
    let brings = c.in-Some.ensures.some in
    let count : length c.bytes-count.result.now ≡ length bytes = ap length (c.bytes-count.ensures ∙ c.deref.ensures) in
    let far = come_far g.R.Read g.O.Origin.text c.args.device.now c.fill.new.device was.came.bytes bytes c.in-Some.received c.requires.come brings in
    let same : (was.came.bytes + length bytes) % 2 ^ 64 ≡ was.came.bytes + length bytes = mod-eq_of_lt (omega (arith, far)) in
    let there = came_at g.R.Read g.O.Origin.text c.args.device.now c.fill.new.device was.came.bytes bytes c.in-Some.received c.requires.come brings in
    let pending : PendingPiece = record { group = c.fill.new.group; is_shared = c.if-not-self.is_shared } in
    rw (c.push_back_reserved.ensures.items, count, same) (held_more g.O.Origin.text was.taken.bytes was.flying.items pending was.came.bytes c.requires.held there)
