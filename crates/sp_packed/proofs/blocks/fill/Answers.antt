use Rattle.std.proofs.Common.{◌≡◌, ◌+◌, ◌-◌, ◌++◌, ◌≤◌, length, take, sym, subst, ◌∙◌, arith}
use Rattle.std.proofs.KnownBytes.{Consumes-trans}
use Rattle.std.specs.Io.KnownBytes.{Consumes}
use Rattle.sp_packed.proofs.Coming.{put_on, put_within}
use Rattle.sp_packed.proofs.blocks.fill.Goals as goal

pub loop-got-preserved : goal.loop-got-preserved
loop-got-preserved g c =
    let before = c.loop-got.invariant in
    let got = c.loop-got.got in
    let n = c.in-Ok.n in
    let new = c.read.new.buf in
    let came : n ≤ length new = c.in-Ok.ensures.within in
    let size : length new ≡ length c.loop-got.bytes - got = omega (arith, c.read.auto.buf) in
    let old = g.R.Read.left c.args.reader.now in
    let now = g.R.Read.left c.read.new.self in
    let all : Consumes old now (take got c.loop-got.bytes ++ take n new)
    = Consumes-trans old (g.R.Read.left c.loop-got.reader) now (take got c.loop-got.bytes) (take n new) before.1 c.in-Ok.ensures.bytes in (
      put_within c.loop-got.bytes new got n before.0 size came,
      subst (λ l. Consumes old now l) (sym (put_on c.loop-got.bytes new got n before.0 size came)) all,
      c.read.ensures.lasting ∙ before.2,
    )
