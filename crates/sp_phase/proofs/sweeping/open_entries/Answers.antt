use Rattle.std.proofs.Common.{arith, subst, sym}
use Rattle.std.specs.Prelude.{All}
use Rattle.sp_bins.specs.declared.entry.Entry.{Entry}
use Rattle.std.proofs.lemmas.List.Elements.{All-nil}
use Rattle.sp_phase.specs.Sweep.{IsOpen}
use Rattle.sp_phase.proofs.CopiedWords.{open_more, entries_more}
use Rattle.sp_phase.proofs.sweeping.open_entries.Goals as goal

pub loop-place-init : goal.loop-place-init
loop-place-init g c = (λ _ u d p at is. absurd (let h = at in omega (arith, h.0, h.1)), (let F : Entry → Type 0 = IsOpen c.args.words.now c.args.marks.now c.args.bounds in subst (λ xs. All F xs) (sym c.new-open.ensures.items) (All-nil F)))

pub loop-place-preserved : goal.loop-place-preserved
loop-place-preserved g c = (
  open_more c.args.words.now c.args.marks.now c.args.bounds c.loop-place.place _ _ _ c.in_ok-push_some.ensures c.loop-place.invariant.0 c.open_entry-entry.ensures.none,
  entries_more (IsOpen c.args.words.now c.args.marks.now c.args.bounds) _ _ _ c.in_ok-push_some.ensures c.loop-place.invariant.1 c.open_entry-entry.ensures.open,
)
