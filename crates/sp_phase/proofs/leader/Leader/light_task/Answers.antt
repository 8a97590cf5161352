use Rattle.std.proofs.Common.{◌≡◌, Some, ◌∙◌, ap, sym, subst, rules}
use Rattle.sp_word.specs.Word.{dist_of}
use Rattle.sp_paths.specs.Paths.{IsVertex}
use Rattle.sp_offer.specs.Story.{known_table}
use Rattle.sp_rounds.specs.declared.task.TaskKind.TheVariants.{Light}
use Rattle.sp_phase.specs.Stage.{Stage}
use Rattle.sp_phase.specs.Marks.{notes_of}
use Rattle.sp_phase.specs.Lead.{Lead, Reads, lead_of}
use Rattle.sp_phase.proofs.LeaderHolds.{holds_enters, leads_holds}
use Rattle.sp_phase.proofs.MadeTasks.{due_none, due_one}
use Rattle.sp_phase.proofs.leader.Leader.light_task.Goals as goal

pub returns-then-ne : goal.returns-then-ne
returns-then-ne g c =
    let reads = c.read-word.ensures.reads in
    due_none g.row.P c.args.self.now c.read-word.new.self (record { stage = ap (λ (l : Lead). l.stage) reads.rest; learns = reads.learns })

pub returns-then-not-branch : goal.returns-then-not-branch
returns-then-not-branch g c =
    let r = c.self.inside in
    let reads = subst (Reads g.row.P c.args.self.now) (sym c.self.view_is) c.read-word.ensures.reads in
    due_none g.row.P c.args.self.now (lead_of r.store.now r.caller c.enter.new.self r.buckets r.words.items) (record { stage = ap (λ (l : Lead). l.stage) reads.rest; learns = reads.learns })

pub invariant_of-self-2 : goal.invariant_of-self-2
invariant_of-self-2 g c =
    let r = c.self.inside in
    let led = c.self.invariant.1 in
    let m = notes_of c.enter.new.self in
    let here = ap (λ (l : Lead). l.stage) (c.self.view_is ∙ c.read-word.ensures.reads.rest) in
    let at = subst (λ (s : Stage). IsVertex s.graph.n c.args.entry.now.vertex) (sym here) c.requires in
    let holds = holds_enters g.row.P r.store.now r.caller (notes_of r.marks) m c.args.entry.now.vertex led.holds.stage.graph at c.enter.ensures.distances c.enter.ensures.remembered led.holds in
    (c.self.invariant.0, leads_holds g.row.P r.store.now _ r.caller m holds led)

pub returns : goal.returns
returns g c =
    let r = c.self.inside in
    let v = c.args.entry.now.vertex in
    let w = c.read-word.result in
    let is : dist_of w ≡ Some c.args.entry.now.dist = search rules in
    let reads = subst (Reads g.row.P c.args.self.now) (sym c.self.view_is) c.read-word.ensures.reads in
    let W : Lead → Type 0 = λ x. known_table x.caller.story v ≡ w in
    due_one g.row.P v c.args.entry.now.dist w Light c.args.self.now (lead_of r.store.now r.caller c.enter.new.self r.buckets r.words.items) (record { stage = ap (λ (l : Lead). l.stage) reads.rest; learns = reads.learns }) c.requires
    (subst W (sym c.self.view_is) c.read-word.ensures.word) is
