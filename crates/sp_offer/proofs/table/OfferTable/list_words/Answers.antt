use Rattle.std.proofs.Common.{rules, arith, ◌≡◌, ℕ, ◌+◌, ◌<◌, List, [], ◌∷◌, ◌++◌, length, sym, subst}
use Rattle.sp_word.specs.Word.{Word}
use Rattle.sp_word.specs.History.{Read}
use Rattle.sp_offer.specs.Order.{lawful}
use Rattle.sp_offer.specs.Histories.{event}
use Rattle.sp_offer.specs.Story.{Calls, Reads, reads_of, own_calls}
use Rattle.sp_offer.specs.Calling.{Copies}
use Rattle.sp_offer.proofs.Copies.{reads_more, own_more, copies}
use Rattle.sp_offer.proofs.Trails.{copies_more}
use Rattle.sp_offer.proofs.table.OfferTable.list_words.Goals as goal

pub loop-place-preserved : goal.loop-place-preserved
loop-place-preserved g c =
    let words : List Word = c.loop-place.words.items in
    let read : Word = c.read_place.result in
    let number : ℕ = c.args.caller.now.number in
    let long : length words ≡ c.loop-place.place = search rules in
    let vertex : c.loop-place.place + 1 ≡ 1 + length words = omega (arith, long) in
    let more = sym c.push_reserved.ensures.items in record {
      same = search rules;
      size = search rules;
      room = search rules;
      reads = subst (λ (ws : List Word). Reads (lawful g.row.P (g.L.Lawful.allows c.args.self.now.law)) number 1 ws c.args.caller.now.story c.read_place.new.caller.story) more
          (reads_more _ _ _ _ _ _ _ _ c.loop-place.invariant.reads
          (subst (λ (z : ℕ × ℕ). Calls (lawful g.row.P (g.L.Lawful.allows c.args.self.now.law)) (event z.0 z.1 (Read read)) c.loop-place.caller.story c.read_place.new.caller.story)
          (λ k. (c.loop-place.invariant.same.1 k, vertex k)) c.read_place.ensures.call));
      own = subst (λ (ws : List Word). own_calls c.read_place.new.caller.story ≡ own_calls c.args.caller.now.story ++ reads_of number 1 ws) more
          (own_more _ _ _ _ _ _ _ _ c.loop-place.invariant.same.1 vertex c.loop-place.invariant.own c.read_place.ensures.own);
      steps = subst (λ (ws : List Word). Copies ws c.args.caller.now c.read_place.new.caller) more
          (copies_more _ _ _ _ _ _ c.loop-place.invariant.steps c.read_place.ensures.steps);
    }

pub returns-clause-copy : goal.returns-clause-copy
returns-clause-copy g c = let some : 0 < length c.loop-place.words.items = search rules in copies _ _ _ _ _ some c.loop-place.invariant.reads
