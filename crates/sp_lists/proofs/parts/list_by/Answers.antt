use Rattle.std.proofs.Common.{ℕ, List, length, ap, subst}
use Rattle.sp_word.specs.Word.{Word, max_dist}
use Rattle.sp_answer.specs.Table.{AreRows}
use Rattle.sp_lists.specs.Limits.{reach}
use Rattle.sp_lists.specs.Listed.{listing, HasRows}
use Rattle.sp_lists.proofs.parts.list_by.Goals as goal

pub returns : goal.returns
returns g c =
    let gr = c.args.at.graph.now in
    let tree = c.in-Ok.tree in
    let is = c.rows-rows.ensures.rows in
    let new = listing c.put_rows.new.vertex c.put_rows.new.dist c.put_rows.new.pred in
    let M : ℕ → Type 0 = λ max. AreRows max tree.n 0 tree.rows in
    let N : ℕ → Type 0 = λ n. AreRows (reach gr.n) n 0 tree.rows in
    let H : List (ℕ × Word) → Type 0 = λ rows. HasRows rows new in (
      tree,
      record {
        part = c.in-Ok.ensures;
        rising = subst N c.in-Ok.ensures.n (subst M (ap max_dist c.requires.bits) c.rows-rows.ensures.table.rows);
        size = ap length is;
      },
      subst H is c.put_rows.ensures.rows,
      c.put_rows.ensures.others,
    )
