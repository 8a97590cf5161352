use Rattle.std.proofs.Common.{◌≡◌, ◌∷◌, [], ◌++◌, ℕ, List, length, take, drop, subst, sym, arith}
use Rattle.sp_lists.specs.Limits.{reach}
use Rattle.sp_lists.specs.Blocks.{slices, HasTreeAt, AreSolved}
use Rattle.spt_c.specs.Arcs.{graph_of}
use Rattle.spt_c.proofs.OneSource.{the_tree, no_tree, all_written}
use Rattle.spt_c.proofs.own.own_tree.Goals as goal

pub returns-in-Done-clause-tree : goal.returns-in-Done-clause-tree
returns-in-Done-clause-tree c =
    let h = graph_of c.args.n c.args.arcs.now in
    let old = slices c.as_mut_slice-dist.result.now c.as_mut_slice-pred.result.now in
    let dist : List ℕ = c.write_trees.new.dist in
    let pred : List ℕ = c.write_trees.new.pred in
    let same = c.in-Ok-graph_of.ensures.same in
    let S : ℕ → Type 0 = λ n. AreSolved (reach n) c.in-Ok-graph_of.graph (c.args.source ∷ []) old (slices dist pred) c.write_trees.result in
    let tree = the_tree (reach c.args.n) c.in-Ok-graph_of.graph h c.args.source old (slices dist pred) c.write_trees.result same (subst S same.n c.write_trees.ensures) c.in-Done.is in
    let dists : c.in-Ok.own.dist.len ≡ length dist = grind arith in
    let preds : c.in-Ok.own.pred.len ≡ length pred = grind arith in
    let D : List ℕ → Type 0 = λ xs. HasTreeAt (reach c.args.n) h c.args.source 0 (slices xs (take c.in-Ok.own.pred.len (pred ++ drop (length pred) c.in-Ok.own.pred.items))) in
    let E : List ℕ → Type 0 = λ xs. HasTreeAt (reach c.args.n) h c.args.source 0 (slices dist xs) in
    subst D (sym (all_written c.in-Ok.own.dist.len dist c.in-Ok.own.dist.items dists)) (subst E (sym (all_written c.in-Ok.own.pred.len pred c.in-Ok.own.pred.items preds)) tree)

pub returns-in_default-told : goal.returns-in_default-told
returns-in_default-told c =
    let h = graph_of c.args.n c.args.arcs.now in
    let old = slices c.as_mut_slice-dist.result.now c.as_mut_slice-pred.result.now in
    let new = slices c.write_trees.new.dist c.write_trees.new.pred in
    let same = c.in-Ok-graph_of.ensures.same in
    let S : ℕ → Type 0 = λ n. AreSolved (reach n) c.in-Ok-graph_of.graph (c.args.source ∷ []) old new c.write_trees.result in record {
      dist = tt;
      pred = tt;
      tree = tt;
      none = no_tree (reach c.args.n) c.in-Ok-graph_of.graph h c.args.source old new c.write_trees.result same (subst S same.n c.write_trees.ensures) c.in_default-told.not-Done;
    }
