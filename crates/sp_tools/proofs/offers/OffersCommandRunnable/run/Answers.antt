use Rattle.std.proofs.Common.{refl, inl, inr}
use Rattle.std.proofs.lemmas.Result.{err_from_is_err_and}
use Rattle.sp_tools.specs.OffersAnswers.{AreLeft}
use Rattle.sp_tools.proofs.Texts.{offers_spelled}
use Rattle.sp_tools.proofs.offers.OffersCommandRunnable.run.Goals as goal

pub returns-in-Err-clause-answered : goal.returns-in-Err-clause-answered
returns-in-Err-clause-answered g c = record {
  told = λ text known. rw c.fault.ensures (inl ((g.F.File.Read.left c.read_offers.new.reader, g.F.File.Read.has_failed c.read_offers.new.reader, c.in-Err.ensures.exact text (c.in_ok-reader.ensures.opened.gives text known)), refl));
  of_some = tt;
}

pub returns-in_err-write_words-clause-answered : goal.returns-in_err-write_words-clause-answered
returns-in_err-write_words-clause-answered g c =
    let residual = c.from_residual-in_err-write_words in
    let p = err_from_is_err_and residual.result residual.ensures.1 in
    let begun = rw c.deref.ensures.value at c.in_err-write_words.ensures in
    rw (p.1, p.2) (record {
      told = λ text known.
          let left : AreLeft g.row.P text c.in_ok-words.words.items = record { programme = c.in-Ok.programme; spelled = offers_spelled text (g.F.File.Read.left c.read_offers.new.reader) (g.F.File.Read.has_failed c.read_offers.new.reader) c.in-Ok.programme (c.in-Ok.ensures.exact text (c.in_ok-reader.ensures.opened.gives text known)); least = c.in_ok-words.ensures.words } in
          inr (refl, begun.1, (c.in_ok-words.words.items, left, begun.0));
      of_some = tt;
    })

pub returns-clause-answered : goal.returns-clause-answered
returns-clause-answered g c =
    let found = c.in-Ok.ensures.found in
    let wrote = rw c.deref.ensures.value at c.in_ok-write_words.ensures in
    let left : AreLeft g.row.P found.text c.in_ok-words.words.items = record { programme = c.in-Ok.programme; spelled = (found.problem, found.lines, found.spelled, found.says); least = c.in_ok-words.ensures.words } in
    record {
      told = λ text known.
          let at : AreLeft g.row.P text c.in_ok-words.words.items = record { programme = c.in-Ok.programme; spelled = offers_spelled text (g.F.File.Read.left c.read_offers.new.reader) (g.F.File.Read.has_failed c.read_offers.new.reader) c.in-Ok.programme (c.in-Ok.ensures.exact text (c.in_ok-reader.ensures.opened.gives text known)); least = c.in_ok-words.ensures.words } in
          (c.in_ok-words.words.items, at, wrote.0, refl);
      of_some = (found.text, (c.in_ok-words.words.items, left, wrote.0, refl));
    }
