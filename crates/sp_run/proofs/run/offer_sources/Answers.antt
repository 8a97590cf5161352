use Rattle.std.proofs.Common.{◌∙◌, ap}
use Rattle.sp_word.specs.Word.{Word, lesser}
use Rattle.sp_offer.specs.Story.{known_table}
use Rattle.sp_run.proofs.RunFromAny.{one_source_more, offered_none}
use Rattle.sp_run.proofs.run.offer_sources.Goals as goal

pub loop-source-preserved : goal.loop-source-preserved
loop-source-preserved g c =
    let known = c.offer.ensures.known in
    let here = known.here ∙ ap (λ (w : Word). lesser c.offer.result.found w) c.pack.ensures ∙ offered_none c.offer.result.found in (
      c.offer.ensures.caller.0 ∙ c.loop-source.invariant.0,
      one_source_more c.args.sources.now c.loop-source.source-index (known_table c.loop-source.caller.story) (known_table c.offer.new.caller.story) c.loop-source-test.true known.falls here c.loop-source.invariant.1,
    )
