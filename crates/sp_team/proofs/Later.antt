-- Callers that go on.
use Rattle.std.proofs.Common.{◌≡◌, ℕ, List, [], ◌∷◌, ◌++◌, length, refl, sym, ap, ◌∙◌, append_assoc, append-nil}
use mathlib.Core.List.{IsPrefix}
use Rattle.sp_word.specs.Word.{Word}
use Rattle.sp_word.specs.History.{Event}
use Rattle.sp_offer.specs.Story.{Knowledge, Calls, Knows, Follows, known_table}
use Rattle.sp_offer.proofs.Orders.{at_most-refl, at_most-trans}
use Rattle.sp_team.specs.Later.{IsLater}

prefix_itself : {X : Type 0} (xs : List X) → IsPrefix xs xs
prefix_itself xs = ([], append-nil xs)

prefix_along : {X : Type 0} (xs ys zs : List X) → IsPrefix xs ys → IsPrefix ys zs → IsPrefix xs zs
prefix_along xs ys zs p q = (p.0 ++ q.0, sym (append_assoc xs p.0 q.0) ∙ (ap (λ l. l ++ q.0) p.1 ∙ q.1))

module _ (law : ℕ → Word → Type 0) where
  pub later_itself : (a : Knowledge) → IsLater law a a
  later_itself a = record {
    table = refl;
    begins = prefix_itself a.story.seen;
    own = prefix_itself a.story.own;
    falls = λ v. at_most-refl (known_table a.story v);
    stays = λ h. h;
  }

  pub later_along : (a b c : Knowledge) → IsLater law a b → IsLater law b c → IsLater law a c
  later_along a b c p q = record {
    table = q.table ∙ p.table;
    begins = prefix_along a.story.seen b.story.seen c.story.seen p.begins q.begins;
    own = prefix_along a.story.own b.story.own c.story.own p.own q.own;
    falls = λ v. at_most-trans (known_table c.story v) (known_table b.story v) (known_table a.story v) (q.falls v) (p.falls v);
    stays = λ h. q.stays (p.stays h);
  }

  -- one caller of two has gone on from the first
  pub later_joined : (a b c : Knowledge) → c.table ≡ a.table → c.story.own ≡ a.story.own ++ b.story.own → Follows law a.story b.story c.story → IsLater law a c
  later_joined a b c table places f = record {
    table = table;
    begins = f.first;
    own = (b.story.own, sym places);
    falls = λ v. (f.falls v).0;
    stays = λ h. f.words;
  }

  -- so has one that made a call
  pub later_call : (e : Event) (a b : Knowledge) → b.table ≡ a.table → Calls law e a.story b.story → Knows e a.story b.story → IsLater law a b
  later_call e a b table call knows = record {
    table = table;
    begins = (call.between ++ e ∷ [], sym (append_assoc a.story.seen call.between (e ∷ [])) ∙ sym call.seen);
    own = (length (a.story.seen ++ call.between) ∷ [], sym call.own);
    falls = knows.falls;
    stays = λ h. call.words;
  }
