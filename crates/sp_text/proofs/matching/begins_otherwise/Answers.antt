use Rattle.std.proofs.Common.{refl}
use Rattle.sp_text.proofs.FieldRuns.{no_words}
use Rattle.sp_text.proofs.matching.begins_otherwise.Goals as goal

pub returns-then-starts_otherwise : goal.returns-then-starts_otherwise
returns-then-starts_otherwise c = λ is ds.
    no_words c.args.words.now c.args.text.now _ ds (c.starts_otherwise.ensures c.if-starts_otherwise.true) refl (c.starts_otherwise-then-starts_otherwise.ensures is)
