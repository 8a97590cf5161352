use Rattle.std.proofs.Common.{rules, ◌≡◌, ◌∙◌, [], ◌∷◌, ◌++◌, refl}
use Rattle.sp_tools.specs.declared.check_all.Judged.{Judged}
use Rattle.sp_tools.proofs.Judging.{none_judged, one_more, refused, some_judged}
use Rattle.sp_tools.proofs.check_all.judge_blocks.Goals as goal

pub loop-tree-init : goal.loop-tree-init
loop-tree-init g c = record {
  verdicts = rw c.new-all.ensures.items (none_judged g.D.Read c.args.limit c.args.graph.now c.new-blocks.result c.args.trees.now c.new-blocks.ensures);
  lasting = refl;
  sound = λ sound never. sound;
}

pub loop-tree-preserved : goal.loop-tree-preserved
loop-tree-preserved g c =
    let before = c.loop-tree.invariant.verdicts in
    let judged : Judged = record { source = c.source-source.result; verdict = c.in_ok-verdict-in-Ok-Some.verdict } in
    let items : c.push.new.self.items ≡ c.loop-tree.all.items ++ judged ∷ [] = search rules in
    record {
      verdicts = rw items (one_more g.D.Read c.args.limit c.args.graph.now (g.D.Read.left c.args.trees.now) _ c.next.new.self c.loop-tree.trees c.next.new.reader c.loop-tree.all.items c.in-Ok-Some.tree judged before ((rw c.in-Ok-Some.field-0-is at c.in-Ok-Some.ensures.gives) before.going) c.source-source.ensures.source c.in_ok-verdict-in-Ok-Some.ensures);
      lasting = c.next.ensures.lasting ∙ c.loop-tree.invariant.lasting;
      sound = λ sound never. c.next.ensures.going (c.loop-tree.invariant.lasting ∙ never) (c.loop-tree.invariant.sound sound never);
    }

pub returns-in-Err-clause-refused : goal.returns-in-Err-clause-refused
returns-in-Err-clause-refused g c = λ text known.
    let before = c.loop-tree.invariant.verdicts in
    rw c.fault.ensures (refused g.D.Read c.args.limit c.args.graph.now (g.D.Read.left c.args.trees.now) text _ c.next.new.self c.loop-tree.trees c.next.new.reader c.loop-tree.all.items c.in-Err.error known before (c.in-Err.ensures.gives before.going))

pub returns-in-Ok-None-clause-found : goal.returns-in-Ok-None-clause-found
returns-in-Ok-None-clause-found g c =
    let before = c.loop-tree.invariant.verdicts in
    some_judged g.D.Read c.args.limit c.args.graph.now (g.D.Read.left c.args.trees.now) _ c.next.new.self c.loop-tree.trees c.next.new.reader c.loop-tree.all.items before ((rw c.in-Ok-None.field-0-is at c.in-Ok-None.ensures.gives) before.going)

pub returns-in-Err-clause-told : goal.returns-in-Err-clause-told
returns-in-Err-clause-told g c = λ sound.
    let kept = c.loop-tree.invariant in
    rw c.fault.ensures (refl, λ read never. c.in-Err.ensures.never kept.verdicts.going (kept.sound sound never) (kept.lasting ∙ never) read)
