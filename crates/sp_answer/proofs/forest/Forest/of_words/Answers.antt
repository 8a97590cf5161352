use Rattle.std.proofs.Common.{◌≡◌, ℕ, List, refl, length, subst}
use Rattle.sp_answer.specs.ForestTable.{rows_from}
use Rattle.sp_answer.specs.Rooted.{root_at}
use Rattle.sp_answer.proofs.ForestRows.{forest_is_table, holds_words, holds_roots}
use Rattle.sp_answer.proofs.forest.Forest.of_words.Goals as goal

pub invariant_of-result : goal.invariant_of-result
invariant_of-result g c =
    let words = c.args.words.now in
    let rows = subst (λ (rs : List ℕ). c.in_ok-rows.rows.items ≡ rows_from (root_at rs) 1 words) c.as_slice.ensures.value c.in_ok-rows.ensures.rows in
    forest_is_table words c.in_ok-roots.roots.items c.in_ok-roots.ensures c.requires.falls g.row.P (length words) c.in_ok-rows.rows.items c.requires.layout c.requires.most refl rows c.in_ok-rows.ensures.fits

pub returns-clause-words : goal.returns-clause-words
returns-clause-words g c =
    let words = c.args.words.now in
    let rows = subst (λ (rs : List ℕ). c.in_ok-rows.rows.items ≡ rows_from (root_at rs) 1 words) c.as_slice.ensures.value c.in_ok-rows.ensures.rows in
    holds_words words c.in_ok-roots.roots.items c.in_ok-roots.ensures (length words) c.in_ok-rows.rows.items rows

pub returns-clause-roots : goal.returns-clause-roots
returns-clause-roots g c =
    let words = c.args.words.now in
    let rows = subst (λ (rs : List ℕ). c.in_ok-rows.rows.items ≡ rows_from (root_at rs) 1 words) c.as_slice.ensures.value c.in_ok-rows.ensures.rows in
    holds_roots words c.in_ok-roots.roots.items c.in_ok-roots.ensures (length words) c.in_ok-rows.rows.items rows
