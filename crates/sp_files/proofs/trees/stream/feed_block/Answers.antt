use Rattle.std.proofs.Common.{rules, ◌≡◌, ◌≢◌, ◌+◌, ◌≤◌, ◌^◌, [], ◌++◌, length, take, true, false, refl, ◌∙◌, arith}
use Rattle.std.proofs.lemmas.Result.{err_from_is_err_and}
use Rattle.std.proofs.lemmas.List.{nil_from_length}
use Rattle.std.specs.Io.KnownBytes.{Consumes, Keeps, IsAtEnd}
use Rattle.sp_text.specs.Lines.{ended}
use Rattle.sp_text.proofs.Behind.{refused_earlier}
use Rattle.sp_files.specs.Spelling.{tree_judge}
use Rattle.sp_files.specs.declared.trees.block_state.BlockState.TheVariants.{Over}
use Rattle.sp_files.specs.Stream.{stream}
use Rattle.sp_files.proofs.LeftBytes.{none_left}
use Rattle.sp_files.proofs.BlockSteps.{run_fed, piece_fed, fed_whole, fed_all, fed_refused, fed_failed}
use Rattle.sp_files.proofs.trees.stream.feed_block.Goals as goal

pub returns-in_err-fed-clause-fed : goal.returns-in_err-fed-clause-fed
returns-in_err-fed-clause-fed g c = λ short begins.
    let before = c.loop-state.invariant.0 short begins in
    let now = stream c.skip.new.self c.loop-state.reader in
    let run = run_fed now c.run_of-taken.new.state c.run_of-taken.result before.1 (rw c.bytes.ensures at c.run_of-taken.ensures.within) (rw c.bytes.ensures at c.run_of-taken.ensures.run) c.skip.ensures refl in
    let told = (rw c.bytes-in-loop-state.ensures at c.in_err-fed.ensures.fed) before.0 run.small before.3 in
    let p = err_from_is_err_and c.from_residual.result c.from_residual.ensures.1 in
    rw (p.1, p.2) (fed_refused g.row.P _ run (refused_earlier (tree_judge g.row.P) [] (ended before.0) (before.0 ++ take c.run_of-taken.result c.loop-state.piece) _ (omega arith) told.1))

pub returns-then-eq-clause-fed : goal.returns-then-eq-clause-fed
returns-then-eq-clause-fed g c = λ short begins.
    let before = c.loop-state.invariant.0 short begins in
    let now = stream c.skip.new.self c.loop-state.reader in
    let run = run_fed now c.run_of-taken.new.state c.run_of-taken.result before.1 (rw c.bytes.ensures at c.run_of-taken.ensures.within) (rw c.bytes.ensures at c.run_of-taken.ensures.run) c.skip.ensures refl in
    let behind = (rw c.bytes-in-loop-state.ensures at c.in_ok-fed.ensures.fed) before.0 run.small before.3 in
    let over : c.run_of-taken.new.state ≡ Over = search rules in
    fed_whole (tt {0}) c.feed-fed.new.self run over behind

pub returns-then-is_err-clause-fed : goal.returns-then-is_err-clause-fed
returns-then-is_err-clause-fed g c = λ short begins.
    let before = c.loop-state.invariant.0 short begins in
    let now = stream c.skip.new.self c.loop-state.reader in
    let run = run_fed now c.run_of-taken.new.state c.run_of-taken.result before.1 (rw c.bytes.ensures at c.run_of-taken.ensures.within) (rw c.bytes.ensures at c.run_of-taken.ensures.run) c.skip.ensures refl in
    let behind = (rw c.bytes-in-loop-state.ensures at c.in_ok-fed.ensures.fed) before.0 run.small before.3 in
    let goes_on : c.run_of-taken.new.state ≢ Over = search rules in
    let none : c.skip.new.self ≡ [] = c.skip.ensures ∙ none_left c.run_of-taken.result c.loop-state.piece (rw c.bytes.ensures at (c.run_of-taken.ensures.all goes_on)) in
    let keeps : Keeps (g.R.Read.left c.loop-state.reader) (g.R.Read.left c.refill.new.reader) = search rules in
    let failed : g.R.Read.has_failed c.refill.new.reader ≡ true = search rules in
    fed_failed g.row.P (stream c.clear.new.self c.refill.new.reader) c.fail.result run none c.clear.ensures keeps failed (c.fail.ensures.failed (before.0 ++ take c.run_of-taken.result c.loop-state.piece) run.small behind).0

pub returns-then-is_empty-clause-fed : goal.returns-then-is_empty-clause-fed
returns-then-is_empty-clause-fed g c = λ short begins.
    let before = c.loop-state.invariant.0 short begins in
    let now = stream c.skip.new.self c.loop-state.reader in
    let run = run_fed now c.run_of-taken.new.state c.run_of-taken.result before.1 (rw c.bytes.ensures at c.run_of-taken.ensures.within) (rw c.bytes.ensures at c.run_of-taken.ensures.run) c.skip.ensures refl in
    let behind = (rw c.bytes-in-loop-state.ensures at c.in_ok-fed.ensures.fed) before.0 run.small before.3 in
    let goes_on : c.run_of-taken.new.state ≢ Over = search rules in
    let none : c.skip.new.self ≡ [] = c.skip.ensures ∙ none_left c.run_of-taken.result c.loop-state.piece (rw c.bytes.ensures at (c.run_of-taken.ensures.all goes_on)) in
    let came : Consumes (g.R.Read.left c.loop-state.reader) (g.R.Read.left c.refill.new.reader) c.refill.new.self = search rules in
    let more : g.R.Read.passed c.refill.new.reader ≡ g.R.Read.passed c.loop-state.reader + length c.refill.new.self = search rules in
    let limit : g.R.Read.passed c.refill.new.reader ≤ 2 ^ 62 = search rules in
    let all = piece_fed (stream c.refill.new.self c.refill.new.reader) run none came more limit in
    let zero : length c.refill.new.self ≡ 0 = search rules in
    let empty = nil_from_length c.refill.new.self zero in
    let over : IsAtEnd (g.R.Read.left c.refill.new.reader) = search rules in
    fed_all (tt {0}) c.feed-fed.new.self all empty over behind

pub loop-state-preserved : goal.loop-state-preserved
loop-state-preserved g c = (
  (λ short begins.
      let before = c.loop-state.invariant.0 short begins in
      let now = stream c.skip.new.self c.loop-state.reader in
      let run = run_fed now c.run_of-taken.new.state c.run_of-taken.result before.1 (rw c.bytes.ensures at c.run_of-taken.ensures.within) (rw c.bytes.ensures at c.run_of-taken.ensures.run) c.skip.ensures refl in
      let behind = (rw c.bytes-in-loop-state.ensures at c.in_ok-fed.ensures.fed) before.0 run.small before.3 in
      let goes_on : c.run_of-taken.new.state ≢ Over = search rules in
      let none : c.skip.new.self ≡ [] = c.skip.ensures ∙ none_left c.run_of-taken.result c.loop-state.piece (rw c.bytes.ensures at (c.run_of-taken.ensures.all goes_on)) in
      let came : Consumes (g.R.Read.left c.loop-state.reader) (g.R.Read.left c.refill.new.reader) c.refill.new.self = search rules in
      let more : g.R.Read.passed c.refill.new.reader ≡ g.R.Read.passed c.loop-state.reader + length c.refill.new.self = search rules in
      let limit : g.R.Read.passed c.refill.new.reader ≤ 2 ^ 62 = search rules in
      let all = piece_fed (stream c.refill.new.self c.refill.new.reader) run none came more limit in
      (before.0 ++ take c.run_of-taken.result c.loop-state.piece, all, goes_on, behind)),
  (let lasts : g.R.Read.failing c.refill.new.reader ≡ g.R.Read.failing c.loop-state.reader = search rules in lasts ∙ c.loop-state.invariant.1),
  (let works : g.R.Read.has_failed c.refill.new.reader ≡ false = search rules in λ never going. works),
)
