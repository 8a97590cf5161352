use Rattle.std.proofs.Common.{◌≡◌, ◌+◌, ◌%◌, ◌^◌, ◌∙◌, arith}
use Rattle.std.proofs.Math.Nat.{mod-eq_of_lt}
use Rattle.sp_parts.proofs.TextParts.{read_nothing, read_on, read_few, part_made}
use Rattle.sp_parts.proofs.parts.read_part.Goals as goal
use Rattle.sp_parts.proofs.parts.read_part.Goals.{else-loop-rest-test, then-loop-rest-test+in_ok-more+in_default}

pub loop-rest-init : goal.loop-rest-init
loop-rest-init g c = (
  omega (arith, c.split_at.ensures.back_len),
  λ ps has.
      read_nothing g.K.Keep.format g.K.Keep.ranges g.K.Keep.Kept ps c.args.text.now c.args.from c.split_at.result.1.now c.in_ok-keep.keep c.split_at.ensures.back c.in_ok-keep.ensures,
)

pub loop-rest-preserved : goal.loop-rest-preserved
loop-rest-preserved g c =
    let more = rw c.in-Some.is at c.in_ok-more.ensures.shorter in (
      omega (arith, c.loop-rest.invariant.0),
      λ ps has.
          let taken = rw c.in-Some.is at (c.in_ok-more.ensures.taken ps has) in
          let before = c.loop-rest.invariant.1 ps has in
          let read = read_on g.K.Keep.format g.K.Keep.ranges g.K.Keep.Kept ps c.args.text.now c.args.from c.loop-rest.rest.now c.in-Some.more.now taken.0 c.loop-rest.keep c.take_plain.new.keep c.loop-rest.lines before taken.1 taken.2 taken.3 in
          let same : (c.loop-rest.lines + 1) % 2 ^ 64 ≡ c.loop-rest.lines + 1 = mod-eq_of_lt (omega (arith, read_few g.K.Keep.format g.K.Keep.ranges g.K.Keep.Kept ps c.args.text.now c.args.from c.loop-rest.rest.now c.loop-rest.keep c.loop-rest.lines before, c.loop-rest-test.true, c.ranges.until.fits)) in
          rw same read,
    )

pub returns : goal.returns
returns g c = λ ps has.
    let same : c.loop-rest-test.keep ≡ c.loop-rest.keep = elim c.loop-rest-test.branch [
      | else-loop-rest-test w ↦ w.keep-is
      | then-loop-rest-test+in_ok-more+in_default w ↦ w.keep-is ∙ rw w.in_default.is at (w.in_ok-more.ensures.taken ps has)
    ] in
    rw same (part_made g.K.Keep.format g.K.Keep.ranges g.K.Keep.Kept ps c.args.text.now c.args.from c.loop-rest.rest.now c.loop-rest.keep c.loop-rest.lines c.requires (c.loop-rest.invariant.1 ps has))
