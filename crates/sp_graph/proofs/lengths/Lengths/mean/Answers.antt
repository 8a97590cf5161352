use Rattle.std.proofs.Common.{◌≡◌, ◌<◌, ◌^◌, ◌/◌, List, [], ◌∷◌, length, refl, arith}
use Rattle.sp_paths.specs.declared.arc.Arc.{Arc}
use Rattle.sp_graph.specs.Mean.{total_length, mean_length}
use Rattle.sp_graph.specs.Lengths.{AreLengths}
use Rattle.sp_graph.proofs.LengthSums.{total_is}
use Rattle.sp_graph.proofs.lengths.Lengths.mean.Goals as goal

pub returns : goal.returns
returns c = go
  where
    small : c.args.self.longest < 2 ^ 32
    small = omega (arith, c.well_formed)

    go : (arcs : List Arc) → length arcs ≡ c.args.count → length arcs < 2 ^ 32 → AreLengths arcs c.args.self → c.args.self.total / c.args.count ≡ mean_length arcs
    go [] count few h = absurd (omega (arith, c.if-count-eq0.false))
    go (a ∷ rest) count few h =
        let sum : total_length (a ∷ rest) ≡ c.args.self.total = total_is (a ∷ rest) c.args.self few small h in
        rw (← count, ← sum) refl
