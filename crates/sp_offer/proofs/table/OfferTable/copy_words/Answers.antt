use Rattle.std.proofs.Common.{rules, arith, ◌≡◌, ℕ, ◌+◌, ◌<◌, List, [], ◌∷◌, ◌++◌, take, set, length, sym, subst, add-one}
use Rattle.std.proofs.lemmas.List.{length-take-le, take_all}
use Rattle.std.proofs.Math.Seq.{take-suc-set}
use Rattle.sp_word.specs.Word.{Word}
use Rattle.sp_word.specs.History.{Read}
use Rattle.sp_offer.specs.Order.{lawful}
use Rattle.sp_offer.specs.Histories.{event}
use Rattle.sp_offer.specs.Story.{Calls, Reads, reads_of, own_calls}
use Rattle.sp_offer.specs.Calling.{Copies}
use Rattle.sp_offer.proofs.Copies.{reads_more, own_more, copies}
use Rattle.sp_offer.proofs.Trails.{copies_more}
use Rattle.sp_offer.proofs.table.OfferTable.copy_words.Goals as goal

grown : (words : List Word) (i : ℕ) (x : Word) → i < length words → take i words ++ x ∷ [] ≡ take (i + 1) (set words i x)
grown words i x inside = rw (add-one) (sym (take-suc-set words i x inside))

pub loop-i-preserved : goal.loop-i-preserved
loop-i-preserved g c =
    let words : List Word = c.loop-i.words in
    let read : Word = c.copy_word.new.copy in
    let number : ℕ = c.args.caller.now.number in
    let inside : c.loop-i.i < length words = omega arith in
    let long : length (take c.loop-i.i words) ≡ c.loop-i.i = length-take-le c.loop-i.i words (omega arith) in
    let vertex : c.loop-i.i + 1 ≡ 1 + length (take c.loop-i.i words) = omega (arith, long) in
    let more = grown words c.loop-i.i read inside in record {
      same = search rules;
      reads = subst (λ (ws : List Word). Reads (lawful g.row.P (g.L.Lawful.allows c.args.self.now.law)) number 1 ws c.args.caller.now.story c.copy_word.new.caller.story) more
          (reads_more _ _ _ _ _ _ _ _ c.loop-i.invariant.reads
          (subst (λ (z : ℕ × ℕ). Calls (lawful g.row.P (g.L.Lawful.allows c.args.self.now.law)) (event z.0 z.1 (Read read)) c.loop-i.caller.story c.copy_word.new.caller.story)
          (λ k. (c.loop-i.invariant.same.1 k, vertex k)) c.copy_word.ensures.call));
      own = subst (λ (ws : List Word). own_calls c.copy_word.new.caller.story ≡ own_calls c.args.caller.now.story ++ reads_of number 1 ws) more
          (own_more _ _ _ _ _ _ _ _ c.loop-i.invariant.same.1 vertex c.loop-i.invariant.own c.copy_word.ensures.own);
      steps = subst (λ (ws : List Word). Copies ws c.args.caller.now c.copy_word.new.caller) more
          (copies_more _ _ _ _ _ _ c.loop-i.invariant.steps c.copy_word.ensures.steps);
    }

pub returns-clause-reads : goal.returns-clause-reads
returns-clause-reads g c = subst (λ (ws : List Word). Reads (lawful g.row.P (g.L.Lawful.allows c.args.self.now.law)) c.args.caller.now.number 1 ws c.args.caller.now.story c.loop-i.caller.story)
    (take_all c.loop-i.i c.loop-i.words (omega arith)) c.loop-i.invariant.reads

pub returns-clause-steps : goal.returns-clause-steps
returns-clause-steps g c = subst (λ (ws : List Word). Copies ws c.args.caller.now c.loop-i.caller) (take_all c.loop-i.i c.loop-i.words (omega arith)) c.loop-i.invariant.steps

pub returns-clause-copy : goal.returns-clause-copy
returns-clause-copy g c = let some : 0 < length c.loop-i.words = search rules in copies _ _ _ _ _ some (returns-clause-reads g c)
