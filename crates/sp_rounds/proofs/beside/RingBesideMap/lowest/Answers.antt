use Rattle.std.proofs.Common.{arith}
use Rattle.sp_rounds.specs.Window.{content_of}
use Rattle.sp_rounds.proofs.BesideSteps.{lowest_of_both}
use Rattle.sp_rounds.proofs.beside.RingBesideMap.lowest.Goals as goal

pub returns-in-Some-Some-clause-lowest : goal.returns-in-Some-Some-clause-lowest
returns-in-Some-Some-clause-lowest c =
    lowest_of_both (content_of c.self.inside.ring) c.self.inside.map c.self.invariant c.in-Some-Some.a c.in-Some-Some.b _ _ c.self.view_is
    c.in-Some-Some.ensures.lowest c.in-Some-Some.ensures'.lowest (omega arith)
