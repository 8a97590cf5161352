use Rattle.std.proofs.Common.{◌≡◌, ℕ, ◌+◌, ◌<◌, ◌≤◌, Bool, true, false, ◌∙◌, sym, subst, arith, rules, length}
use Rattle.std.specs.Prelude.{All, Contains}
use Rattle.std.specs.Int.{from_bool}
use Rattle.std.proofs.lemmas.List.{length-set}
use Rattle.std.proofs.lemmas.List.Elements.{All-set, All-take}
use Rattle.sp_paths.specs.Paths.{IsArc}
use Rattle.sp_serial.specs.Lowers.{AreArcs}
use Rattle.sp_serial.proofs.Lowered.{all_ends, arc_at}
use Rattle.sp_serial.proofs.batch.drop_relaxed.Goals as goal

-- no more are kept than were looked at
kept_within : (kept i one : ℕ) (is_kept : Bool) → kept ≤ i → one ≡ from_bool is_kept → kept + one ≤ i + 1
kept_within kept i one true low is = omega (arith, low, is)
kept_within kept i one false low is = omega (arith, low, is)

pub lead_to_sources-requires : goal.lead_to_sources-requires
lead_to_sources-requires g c =
    (omega arith, all_ends c.args.graph.now c.n.ensures.graph (length c.args.words.now) c.requires.size c.deref.result.now (subst (AreArcs c.args.graph.now) (sym c.deref.ensures.value) c.requires.arcs))

pub look_up-requires : goal.look_up-requires
look_up-requires g c =
    let at : IsArc (length c.args.words.now) c.index-arc.result.now = arc_at c.args.graph.now c.n.ensures.graph (length c.args.words.now) c.requires.size c.loop-place.arcs.items c.loop-place.place c.index-arc.result.now (omega arith) c.index-arc.ensures c.loop-place.invariant.arcs in
    search rules

pub is_arc_relaxed-is_kept-requires : goal.is_arc_relaxed-is_kept-requires
is_arc_relaxed-is_kept-requires g c =
    let at : IsArc (length c.args.words.now) c.index-arc.result.now = arc_at c.args.graph.now c.n.ensures.graph (length c.args.words.now) c.requires.size c.loop-place.arcs.items c.loop-place.place c.index-arc.result.now (omega arith) c.index-arc.ensures c.loop-place.invariant.arcs in
    search rules

pub loop-place-preserved : goal.loop-place-preserved
loop-place-preserved g c =
    let so_far = c.loop-place.invariant in
    let P = Contains c.args.graph.now.arcs in
    let arcs = c.loop-place.arcs.items in
    let low : c.loop-place.place < length arcs = omega arith in
    let arc = c.index-arc.result.now in record {
      length = length-set arcs c.loop-place.kept arc ∙ so_far.length;
      kept = kept_within c.loop-place.kept c.loop-place.place c.from-kept.result _ so_far.kept c.from-kept.ensures;
      arcs = All-set P arcs c.loop-place.kept arc (subst P (sym c.index-arc.ensures) (so_far.arcs c.loop-place.place arc low)) so_far.arcs;
    }

pub returns : goal.returns
returns g c = subst (All (Contains c.args.graph.now.arcs)) (sym c.truncate.ensures.items) (All-take (Contains c.args.graph.now.arcs) c.loop-place.kept c.loop-place.arcs.items c.loop-place.invariant.arcs)
