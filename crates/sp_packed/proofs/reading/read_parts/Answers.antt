use Rattle.std.proofs.Common.{◌≡◌, ◌++◌, ℕ, List, length, get_or, subst, sym, ap, ◌∙◌}
use Rattle.sp_packed.specs.Words.{sum_on}
use Rattle.sp_packed.specs.Packed.{head_words, content}
use Rattle.sp_packed.specs.Ends.{AreEnds}
use Rattle.sp_packed.specs.Rows.{AreRows}
use Rattle.sp_packed.specs.Reading.{ToldBehind}
use Rattle.sp_packed.proofs.Whole.{took_ends, took_rows, sum_rows, has_parts}
use Rattle.sp_packed.proofs.RowIndex.{index_of_rows}
use Rattle.sp_packed.proofs.reading.read_parts.Goals as goal

pub returns-in-Err-read_rows-clause-told : goal.returns-in-Err-read_rows-clause-told
returns-in-Err-read_rows-clause-told g c =
    let old = g.R.Read.left c.args.reader.now in
    let mid = g.R.Read.left c.read_front.new.reader in
    let mid2 = g.R.Read.left c.read_ends.new.reader in
    let new = g.R.Read.left c.read_rows.new.reader in
    let broken = g.R.Read.has_failed c.read_rows.new.reader in
    let front = c.in-Ok.ensures.front in
    let n = c.in-Ok.front.0 in
    let m = c.in-Ok.front.1 in
    let s = c.new-block.result.sum in
    let t = c.read_front.new.block.sum in
    let u = c.read_ends.new.block.sum in
    let ends = c.in-Ok-read_ends.ends.items in
    let are = c.in-Ok-read_ends.ensures.ends in
    let has = c.in-Ok-read_ends.ensures.text in
    let same : c.deref.result.now ≡ ends = c.deref.ensures.value in
    let e = c.in-Err-read_rows.fault in
    let told = subst (λ (l : List ℕ). ToldBehind (head_words n (get_or l n 0) ++ l) n (get_or l n 0) mid2 new broken e) same c.in-Err-read_rows.ensures.told in
    let behind = subst (λ (k : ℕ). ToldBehind (head_words n k ++ ends) n k mid2 new broken e) are.last told in
    behind c.args.top c.args.most_arcs old front.counts (took_ends c.args.top c.args.most_arcs n m old mid mid2 s t u ends front are has)

pub returns-in-Err-read_sum-clause-told : goal.returns-in-Err-read_sum-clause-told
returns-in-Err-read_sum-clause-told g c =
    let old = g.R.Read.left c.args.reader.now in
    let mid = g.R.Read.left c.read_front.new.reader in
    let mid2 = g.R.Read.left c.read_ends.new.reader in
    let mid3 = g.R.Read.left c.read_rows.new.reader in
    let front = c.in-Ok.ensures.front in
    let n = c.in-Ok.front.0 in
    let m = c.in-Ok.front.1 in
    let s = c.new-block.result.sum in
    let t = c.read_front.new.block.sum in
    let u = c.read_ends.new.block.sum in
    let v = c.read_rows.new.block.sum in
    let ends = c.in-Ok-read_ends.ends.items in
    let are = c.in-Ok-read_ends.ensures.ends in
    let has = c.in-Ok-read_ends.ensures.text in
    let same : c.deref.result.now ≡ ends = c.deref.ensures.value in
    let arcs = c.in-Ok-read_rows.read.arcs.items in
    let rows : AreRows n ends arcs = subst (λ l. AreRows n l arcs) same c.in-Ok-read_rows.ensures.rows in
    let size : length arcs ≡ m = subst (λ l. length arcs ≡ get_or l n 0) same c.in-Ok-read_rows.ensures.size ∙ are.last in
    let has_rows = c.in-Ok-read_rows.ensures.text in
    let sum : v ≡ sum_on s (content n ends arcs) = sum_rows c.args.top c.args.most_arcs n m old mid mid2 s t u ends front are has mid3 v arcs rows size has_rows in
    let begun = sum ∙ ap (λ x. sum_on x (content n ends arcs)) c.new-block.ensures.sum in
    c.in-Err-read_sum.ensures.told ends arcs are rows size begun c.args.top c.args.most_arcs old front.counts
    (took_rows c.args.top c.args.most_arcs n m old mid mid2 s t u ends front are has mid3 v arcs rows size has_rows)

pub returns-clause-parts : goal.returns-clause-parts
returns-clause-parts g c =
    let old = g.R.Read.left c.args.reader.now in
    let mid = g.R.Read.left c.read_front.new.reader in
    let mid2 = g.R.Read.left c.read_ends.new.reader in
    let mid3 = g.R.Read.left c.read_rows.new.reader in
    let new = g.R.Read.left c.read_sum.new.reader in
    let front = c.in-Ok.ensures.front in
    let n = c.in-Ok.front.0 in
    let m = c.in-Ok.front.1 in
    let s = c.new-block.result.sum in
    let t = c.read_front.new.block.sum in
    let u = c.read_ends.new.block.sum in
    let v = c.read_rows.new.block.sum in
    let ends = c.in-Ok-read_ends.ends.items in
    let are = c.in-Ok-read_ends.ensures.ends in
    let has = c.in-Ok-read_ends.ensures.text in
    let same : c.deref.result.now ≡ ends = c.deref.ensures.value in
    let arcs = c.in-Ok-read_rows.read.arcs.items in
    let rows : AreRows n ends arcs = subst (λ l. AreRows n l arcs) same c.in-Ok-read_rows.ensures.rows in
    let size : length arcs ≡ m = subst (λ l. length arcs ≡ get_or l n 0) same c.in-Ok-read_rows.ensures.size ∙ are.last in
    let has_rows = c.in-Ok-read_rows.ensures.text in
    has_parts c.args.top c.args.most_arcs n m old mid mid2 s t u ends front are has mid3 v arcs rows size has_rows new c.new-block.ensures.sum
    c.in_default.ensures.sum c.in_default.ensures.ended

pub returns-clause-rows : goal.returns-clause-rows
returns-clause-rows g c =
    let n = c.in-Ok.front.0 in
    let ends = c.in-Ok-read_ends.ends.items in
    let are = c.in-Ok-read_ends.ensures.ends in
    let same : c.deref.result.now ≡ ends = c.deref.ensures.value in
    let arcs = c.in-Ok-read_rows.read.arcs.items in
    let rows : AreRows n ends arcs = subst (λ l. AreRows n l arcs) same c.in-Ok-read_rows.ensures.rows in
    let size : length arcs ≡ get_or ends n 0 = subst (λ l. length arcs ≡ get_or l n 0) same c.in-Ok-read_rows.ensures.size in
    let ends_are : AreEnds n (length arcs) ends = subst (λ k. AreEnds n k ends) (sym (size ∙ are.last)) are in
    record {
      order = rows.order;
      index = index_of_rows n arcs rows.arcs_are rows.order ends ends_are rows.rows;
      lengths = c.in-Ok-read_rows.ensures.lengths;
    }
