use Rattle.std.proofs.Common.{◌≡◌, ℕ, ◌<◌}
use Rattle.std.specs.Prelude.{slice_index_or}
use Rattle.sp_word.specs.Word.{Pair}
use Rattle.sp_offer.specs.Story.{known_table}
use Rattle.sp_run.proofs.run.offer_sources.Given as goal

abbrev pub invariant-loop-source : goal.invariant-loop-source
invariant-loop-source g l = (l.caller.table ≡ l.table.id) × ((k d : ℕ) → k < l.source-index → known_table l.caller.story (slice_index_or l.sources k d) ≡ Pair 0 0)
