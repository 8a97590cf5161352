use Rattle.std.proofs.Common.{◌≡◌, length, ap, sym, ◌∙◌}
use Rattle.sp_phase.specs.Marks.{notes_of}
use Rattle.sp_phase.specs.Lead.{Lead}
use Rattle.sp_phase.proofs.LeaderHolds.{holds_learns}
use Rattle.sp_phase.proofs.CopiedWords.{copied}
use Rattle.sp_phase.proofs.leader.Leader.take_copy.Goals as goal

pub invariant_of-self : goal.invariant_of-self
invariant_of-self g c =
    let r = c.self.inside in
    let led = c.self.invariant.1 in
    let size = sym c.copy_words.new.words.ok.0 ∙ (c.copy_words.ensures.length ∙ (r.words.ok.0 ∙ led.size)) in (
      c.self.invariant.0,
      record {
        holds = holds_learns g.row.P r.store.now r.caller c.copy_words.new.caller (notes_of r.marks) c.copy_words.ensures.caller led.holds;
        width = led.width;
        entries = led.entries;
        size = size;
      },
    )

pub returns : goal.returns
returns g c =
    let r = c.self.inside in
    let led = c.self.invariant.1 in
    let after = c.copy_words.new.caller in
    let words = c.copy_words.new.words.items in
    let size : length words ≡ r.store.now.graph.n = sym c.copy_words.new.words.ok.0 ∙ (c.copy_words.ensures.length ∙ (r.words.ok.0 ∙ led.size)) in
    record {
      rest = ap (λ (l : Lead). record l { caller = after; words = words }) c.self.view_is;
      copied = copied g.row.P r.store.now led.holds.stage r.caller after (notes_of r.marks) words led.holds size c.copy_words.ensures.copy c.copy_words.ensures.caller.lawful;
    }
