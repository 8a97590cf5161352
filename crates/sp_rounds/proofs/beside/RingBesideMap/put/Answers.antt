use Rattle.std.proofs.Common.{ap, subst}
use Rattle.std.specs.Prelude.{All, OnOk}
use Rattle.sp_rounds.specs.Content.{BucketsContent, Puts}
use Rattle.sp_rounds.specs.Window.{Window, content_of}
use Rattle.sp_rounds.specs.Beside.{both, AreApart}
use Rattle.sp_rounds.proofs.BesideSteps.{IsOfAnother, free_where_held, put_in_ring, put_in_map, on_err_by}
use Rattle.sp_rounds.proofs.beside.RingBesideMap.put.Goals as goal
use Rattle.sp_rounds.proofs.beside.RingBesideMap.put.Goals.{else-covers-via-then-covers+else-not-holds, else-covers-via-else-covers}

ring_put : (c : goal.After-put) → AreApart (content_of c.put.new.self) c.self.inside.map
    × OnOk c.put.result (Puts c.args.entry (both (content_of c.self.inside.ring) c.self.inside.map) (both (content_of c.put.new.self) c.self.inside.map))
ring_put c =
    put_in_ring (content_of c.self.inside.ring) c.self.inside.map c.self.invariant c.put.result c.args.entry c.number_of-number.result (content_of c.put.new.self)
    c.number_of-number.ensures c.if-not-holds.ensures.free c.put.ensures.put (on_err_by c.put.result (ap (λ (w : Window). content_of w)) c.put.ensures.refused)

pub invariant_of-self : goal.invariant_of-self
invariant_of-self c = (ring_put c).0

pub returns-then-not-holds-clause-put : goal.returns-then-not-holds-clause-put
returns-then-not-holds-clause-put c =
    subst (λ (s : BucketsContent). OnOk c.put.result (Puts c.args.entry s (both (content_of c.put.new.self) c.self.inside.map))) c.self.view_is (ring_put c).1

-- the ring has no entry of the bucket
free : (c : goal.After-put-else-covers) → All (IsOfAnother c.self.inside.ring.delta c.number_of-number.result) c.self.inside.ring.entries
free c =
    elim c.else-covers.branch [
      | else-covers-via-then-covers+else-not-holds w ↦
          free_where_held (content_of c.self.inside.ring) c.self.inside.map c.self.invariant c.number_of-number.result (w.holds.ensures.held w.if-not-holds.false)
      | else-covers-via-else-covers w ↦ w.if-covers.ensures.free
    ]

map_put : (c : goal.After-put-else-covers) → AreApart (content_of c.self.inside.ring) c.put-else-covers.new.self
    × OnOk c.put-else-covers.result (Puts c.args.entry (both (content_of c.self.inside.ring) c.self.inside.map) (both (content_of c.self.inside.ring) c.put-else-covers.new.self))
map_put c =
    put_in_map (content_of c.self.inside.ring) c.self.inside.map c.self.invariant c.put-else-covers.result c.args.entry c.number_of-number.result c.put-else-covers.new.self
    c.number_of-number.ensures (free c) c.put-else-covers.ensures.put c.put-else-covers.ensures.refused

pub invariant_of-self-else-covers : goal.invariant_of-self-else-covers
invariant_of-self-else-covers c = (map_put c).0

pub returns-else-covers-clause-put : goal.returns-else-covers-clause-put
returns-else-covers-clause-put c =
    subst (λ (s : BucketsContent). OnOk c.put-else-covers.result (Puts c.args.entry s (both (content_of c.self.inside.ring) c.put-else-covers.new.self))) c.self.view_is (map_put c).1
