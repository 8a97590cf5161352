use Rattle.std.proofs.Common.{◌≡◌, length, rules, sym, subst, arith}
use Rattle.std.specs.Prelude.{All}
use Rattle.sp_word.specs.Word.{max_dist}
use Rattle.sp_paths.specs.Paths.{word_at}
use Rattle.sp_graph.specs.Marks.{IsTrueMark}
use Rattle.sp_graph.proofs.Parts.{written}
use Rattle.sp_judge.specs.Marked.{AreTrueFlags}
use Rattle.sp_judge.proofs.marked.scan_share.Goals as goal

pub loop-list-preserved : goal.loop-list-preserved
loop-list-preserved g c =
    let max = max_dist g.row.P in
    let words = word_at c.args.words.now in
    let network = c.args.graph.now in
    let list = c.list-item.result in
    let flags = c.loop-list.flags in
    let size : length c.set_flags.new.flags ≡ length flags.items = search rules in
    let now = written flags.len flags.items c.set_flags.new.flags (omega (arith, flags.ok.0)) size in
    let hold : All (IsTrueMark max network words) list.items = subst (λ v. All (IsTrueMark max network words) v.items) (sym c.list-item.is) (c.requires.marks c.loop-list.list-index list c.loop-list-test.true) in
    let given : All (IsTrueMark max network words) c.as_slice.result.now = subst (λ xs. All (IsTrueMark max network words) xs) (sym c.as_slice.ensures.value) hold in
    let before : AreTrueFlags max network words c.args.share.low c.deref_mut.result.now = subst (λ xs. AreTrueFlags max network words c.args.share.low xs) (sym c.deref_mut.ensures.value) c.loop-list.invariant.flags in
    record {
      size = rw now (omega (arith, size, c.loop-list.invariant.size));
      flags = subst (λ xs. AreTrueFlags max network words c.args.share.low xs) (sym now) (c.set_flags.ensures network given before);
    }

pub scan_rows-requires : goal.scan_rows-requires
scan_rows-requires g c = rw c.deref.ensures.value (search rules, (c.requires.layout, (c.requires.most, (c.requires.size, (omega (arith, c.loop-list.invariant.size, c.requires.high), c.loop-list.invariant.flags)))))
