use Rattle.std.proofs.Common.{ℕ, List, length, replicate, ap, ◌∙◌, arith}
use Rattle.sp_word.specs.Word.{Word}
use Rattle.sp_serial.proofs.RootedRows.{known_none}
use Rattle.sp_serial.proofs.rooted.roots_of.Goals as goal

pub fill_roots-requires : goal.fill_roots-requires
fill_roots-requires g c =
    let made = c.in_ok-roots.ensures {u = tt} in
    let zeros = c.as_mut_slice.ensures.value ∙ made.items_if_clones_equal (λ y e. e) ∙ ap (λ (rows : List (ℕ × Word)). replicate (length rows) 0) c.rows-2.ensures.rows in
    (omega arith, known_none c.args.tree.now c.as_mut_slice.result.now zeros)
