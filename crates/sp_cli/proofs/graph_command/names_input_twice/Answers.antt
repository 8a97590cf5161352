use Rattle.std.proofs.Common.{◌≡◌, codes, rules}
use Rattle.sp_cli.proofs.Opening.{with_sources, with_targets, with_pairs}
use Rattle.sp_cli.proofs.graph_command.names_input_twice.Goals as goal
use Rattle.sp_cli.proofs.graph_command.names_input_twice.Goals.{then-sources, else-sources}

pub returns-then-targets : goal.returns-then-targets
returns-then-targets g c = λ is.
    let named : c.args.graph.now ≡ codes "-" = search rules in
    let paths = g.C.GraphAnswer.paths c.args.own.now in
    elim c.if-sources.branch [
      | then-sources w ↦ with_sources c.args.graph.now paths named (c.is_input-sources.ensures w.if-sources.true)
      | else-sources w ↦ with_targets c.args.graph.now paths named (c.is_input-targets.ensures (search rules))
    ]

pub returns-else-targets : goal.returns-else-targets
returns-else-targets g c = λ is.
    let named : c.args.graph.now ≡ codes "-" = search rules in
    with_pairs c.args.graph.now (g.C.GraphAnswer.paths c.args.own.now) named (c.is_input-pairs.ensures is)
