use Rattle.std.proofs.Common.{◌≡◌, ℕ, ◌-◌, ◌≤◌, List, length, Some, ap, ◌∙◌, sym, subst, arith}
use Rattle.std.specs.Prelude.{All, slice_get}
use Rattle.sp_word.specs.Word.{Word, max_pred}
use Rattle.sp_answer.specs.Table.{HasPredWithin, table_of, tree_of}
use Rattle.sp_phase.specs.Lead.{Lead}
use Rattle.sp_phase.proofs.CopiedWords.{is_answer, has_words, known_words, told_tree, preds_within}
use Rattle.sp_phase.proofs.leader.Leader.tree.Goals as goal

pub of_words-requires : goal.of_words-requires
of_words-requires g c =
    let l = c.args.self.now in
    let copy = c.requires.swept.0 in
    let slice : c.as_slice.result.now ≡ l.words = c.as_slice.ensures.value ∙ ap (λ (x : Lead). x.words) c.self.view_is in
    let source : c.source.result ≡ l.stage.source = c.source.ensures ∙ ap (λ (x : Lead). x.stage.source) c.self.view_is in
    let size : length c.as_slice.result.now ≡ l.stage.graph.n = ap length slice ∙ copy.size in
    let low = copy.stage.source.0 in
    let high = copy.stage.source.1 in
    let W : List Word → Type 0 = λ ws. All (HasPredWithin (length ws)) ws in
    let preds = subst W (sym slice) (preds_within g.row.P l.stage l.caller l.marks.each l.words copy) in
    (omega arith, (omega arith, (copy.stage.layout, (omega arith, (subst (λ k. k ≤ max_pred g.row.P) (sym size) copy.stage.most, (omega arith, (omega arith, preds)))))))

pub returns-clause-tree : goal.returns-clause-tree
returns-clause-tree g c =
    let l = c.args.self.now in
    let t = c.in_ok-tree.tree in
    let slice : c.as_slice.result.now ≡ l.words = c.as_slice.ensures.value ∙ ap (λ (x : Lead). x.words) c.self.view_is in
    let source : c.source.result ≡ l.stage.source = c.source.ensures ∙ ap (λ (x : Lead). x.stage.source) c.self.view_is in
    let is = c.in_ok-tree.ensures.tree ∙ (ap (λ s. tree_of s c.as_slice.result.now) source ∙ ap (λ ws. tree_of l.stage.source ws) slice) in
    let E : List Word → Type 0 = λ ws. (v : ℕ) → 1 ≤ v → v ≤ t.n → slice_get ws (v - 1) ≡ Some (table_of t v) in
    let told = told_tree g.row.P l.stage l.caller l.marks.each l.words c.swept_copy.ensures.is_tree c.requires.swept c.requires.none in
    is_answer g.row.P l.stage l.caller l.marks.each l.words c.requires.swept.0 t is (subst E slice c.in_ok-tree.ensures.words) told.0 told.1

pub returns-clause-known : goal.returns-clause-known
returns-clause-known g c =
    let l = c.args.self.now in
    let t = c.in_ok-tree.tree in
    let copy = c.requires.swept.0 in
    let slice : c.as_slice.result.now ≡ l.words = c.as_slice.ensures.value ∙ ap (λ (x : Lead). x.words) c.self.view_is in
    let source : c.source.result ≡ l.stage.source = c.source.ensures ∙ ap (λ (x : Lead). x.stage.source) c.self.view_is in
    let is = c.in_ok-tree.ensures.tree ∙ (ap (λ s. tree_of s c.as_slice.result.now) source ∙ ap (λ ws. tree_of l.stage.source ws) slice) in
    let E : List Word → Type 0 = λ ws. (v : ℕ) → 1 ≤ v → v ≤ t.n → slice_get ws (v - 1) ≡ Some (table_of t v) in
    let each = subst E slice c.in_ok-tree.ensures.words in
    let told = told_tree g.row.P l.stage l.caller l.marks.each l.words c.swept_copy.ensures.is_tree c.requires.swept c.requires.none in
    known_words g.row.P l.stage l.caller l.marks.each l.words t copy (is_answer g.row.P l.stage l.caller l.marks.each l.words copy t is each told.0 told.1).tree (has_words g.row.P l.stage l.caller l.marks.each l.words copy t is each)
