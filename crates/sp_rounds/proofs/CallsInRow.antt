-- Calls in a row, and what is known after them.
use Rattle.std.proofs.Common.{◌≡◌, ◌⊎◌, inl, inr, ℕ, List, [], ◌∷◌, ◌++◌, map, refl, sym, ap, ◌∙◌, subst, append_assoc, append-nil, arith}
use Rattle.std.specs.Prelude.{◌<◌, All}
use Rattle.std.proofs.lemmas.List.Elements.{All-nil, All-cons, All-append, All-weaker}
use mathlib.Core.List.{IsPrefix}
use Rattle.sp_word.specs.Word.{Word, Unreached, Pair}
use Rattle.sp_word.specs.Reply.{reply_to}
use Rattle.sp_word.specs.History.{Table, Event, Offer}
use Rattle.sp_word.specs.declared.reply.Reply.{Reply}
use Rattle.sp_word.specs.declared.reply.Reply.TheVariants.{Shorter, SmallerPred, Kept}
use Rattle.sp_offer.specs.Order.{IsNoMore}
use Rattle.sp_offer.specs.Histories.{event}
use Rattle.sp_offer.specs.Story.{Story, Knowledge, Calls, Knows, Follows, known_table, own_calls}
use Rattle.sp_bins.specs.declared.entry.Entry.{Entry}
use Rattle.sp_rounds.specs.Offers.{AskedOffer}
use Rattle.sp_rounds.specs.Calls.{question_of, entries, entry_of_call, IsNearer, AllKnown}
use Rattle.sp_rounds.specs.Later.{IsLater, HasLegalHistory}
use Rattle.sp_rounds.specs.Work.{MadeCalls, MadeOffers}
use Rattle.sp_rounds.proofs.Words.{at_most_itself, at_most_along, lesser_at_most, no_farther, shorter_below}

pub map-append : {A B : Type 0} (f : A → B) (xs ys : List A) → map f (xs ++ ys) ≡ map f xs ++ map f ys
map-append f [] ys = refl
map-append f (x ∷ xs) ys = ap (λ l. f x ∷ l) (map-append f xs ys)

pub entries-append : (xs ys : List Event) → entries (xs ++ ys) ≡ entries xs ++ entries ys
entries-append [] ys = refl
entries-append (x ∷ xs) ys =
    let first = entry_of_call x.vertex x.call in
    ap (λ l. first ++ l) (entries-append xs ys) ∙ sym (append_assoc first (entries xs) (entries ys))

pub AllKnown-lower : (s t : Story) (calls : List Event) → ((v : ℕ) → IsNoMore (known_table t v) (known_table s v)) → AllKnown s calls → AllKnown t calls
AllKnown-lower s t [] low h = tt
AllKnown-lower s t (x ∷ xs) low h = (at_most_along _ _ _ (low x.vertex) h.0, AllKnown-lower s t xs low h.1)

pub AllKnown-append : (s : Story) (xs ys : List Event) → AllKnown s xs → AllKnown s ys → AllKnown s (xs ++ ys)
AllKnown-append s [] ys h k = k
AllKnown-append s (x ∷ xs) ys h k = (h.0, AllKnown-append s xs ys h.1 k)

-- what is nearer than one table is nearer than a table above it
pub nearer_along : (t s : Table) (e : Entry) → IsNoMore (t e.vertex) (s e.vertex) → IsNearer t e → IsNearer s e
nearer_along t s e low h d p is = go (t e.vertex) refl (subst (λ (w : Word). IsNoMore (t e.vertex) w) is low)
  where
    go : (w : Word) → t e.vertex ≡ w → IsNoMore w (Pair d p) → e.dist < d
    go Unreached same k = absurd k
    go (Pair f r) same k = let a = h f r same in let b = no_farther f r d p k in omega arith

-- the entries of calls, and of further calls
pub nearer_append : (t s : Table) (xs ys : List Event) → ((v : ℕ) → IsNoMore (t v) (s v)) → All (IsNearer s) (entries xs) → All (IsNearer t) (entries ys) → All (IsNearer s) (entries (xs ++ ys))
nearer_append t s xs ys low h k =
    subst (All (IsNearer s)) (sym (entries-append xs ys))
    (All-append (IsNearer s) (entries xs) (entries ys) h (All-weaker (IsNearer t) (IsNearer s) (λ e near. nearer_along t s e (low e.vertex) near) (entries ys) k))

pub prefix_itself : (xs : List Event) → IsPrefix xs xs
prefix_itself xs = ([], append-nil xs)

pub prefix_along : (xs ys zs : List Event) → IsPrefix xs ys → IsPrefix ys zs → IsPrefix xs zs
prefix_along xs ys zs p q = (p.0 ++ q.0, sym (append_assoc xs p.0 q.0) ∙ (ap (λ l. l ++ q.0) p.1 ∙ q.1))

module _ (law : ℕ → Word → Type 0) where
  pub later_itself : (a : Knowledge) → IsLater law a a
  later_itself a = record {
    table = refl;
    begins = prefix_itself a.story.seen;
    own = prefix_itself (own_calls a.story);
    falls = λ v. at_most_itself (known_table a.story v);
    stays = λ h. h;
    legal = λ h. h;
  }

  pub later_along : (a b c : Knowledge) → IsLater law a b → IsLater law b c → IsLater law a c
  later_along a b c p q = record {
    table = q.table ∙ p.table;
    begins = prefix_along a.story.seen b.story.seen c.story.seen p.begins q.begins;
    own = prefix_along (own_calls a.story) (own_calls b.story) (own_calls c.story) p.own q.own;
    falls = λ v. at_most_along (known_table c.story v) (known_table b.story v) (known_table a.story v) (q.falls v) (p.falls v);
    stays = λ h. q.stays (p.stays h);
    legal = λ h. q.legal (p.legal h);
  }

  -- a legal history stays legal
  pub legal_along : (a b : Knowledge) → IsLater law a b → HasLegalHistory law a → HasLegalHistory law b
  legal_along a b p h = record { is_story = p.legal h.is_story; words = p.stays h.words }

  -- one caller of two has a legal history
  pub legal_joined : (a b c : Knowledge) → Follows law a.story b.story c.story → HasLegalHistory law c
  legal_joined a b c f = record { is_story = f.is_story; words = f.words }

  -- one caller of two has gone on from the first
  pub later_joined : (a b c : Knowledge) → c.table ≡ a.table → Follows law a.story b.story c.story → own_calls c.story ≡ own_calls a.story ++ own_calls b.story → IsLater law a c
  later_joined a b c table f own = record {
    table = table;
    begins = f.first;
    own = (own_calls b.story, sym own);
    falls = λ v. (f.falls v).0;
    stays = λ h. f.words;
    legal = λ h. f.is_story;
  }

  -- calls, and further calls
  pub made_more : (xs ys : List Event) (a b c : Knowledge) (f g h : List Entry) → MadeCalls law xs a b f g → MadeCalls law ys b c g h → MadeCalls law (xs ++ ys) a c f h
  made_more xs ys a b c f g h p q = record {
    later = later_along a b c p.later q.later;
    mine = q.mine ∙ (ap (λ l. l ++ ys) p.mine ∙ append_assoc (own_calls a.story) xs ys);
    found = q.found ∙ (ap (λ l. l ++ entries ys) p.found ∙ (append_assoc f (entries xs) (entries ys) ∙ ap (λ l. f ++ l) (sym (entries-append xs ys))));
    nearer = nearer_append (known_table b.story) (known_table a.story) xs ys p.later.falls p.nearer q.nearer;
    knows = AllKnown-append c.story xs ys (AllKnown-lower b.story c.story xs q.later.falls p.knows) q.knows;
  }

  pub made_none : (a : Knowledge) (f : List Entry) → MadeCalls law [] a a f f
  made_none a f = record {
    later = later_itself a;
    mine = sym (append-nil (own_calls a.story));
    found = sym (append-nil f);
    nearer = All-nil (IsNearer (known_table a.story));
    knows = tt;
  }

  pub offers_more : (xs ys : List AskedOffer) (a b c : Knowledge) (f g h : List Entry) → MadeOffers law xs a b f g → MadeOffers law ys b c g h → MadeOffers law (xs ++ ys) a c f h
  offers_more xs ys a b c f g h p q = (
    p.0 ++ q.0,
    map-append question_of p.0 q.0 ∙ (ap (λ l. l ++ map question_of q.0) p.1 ∙ ap (λ l. xs ++ l) q.1),
    made_more p.0 q.0 a b c f g h p.2 q.2,
  )

  pub offers_none : (a : Knowledge) (f : List Entry) → MadeOffers law [] a a f f
  offers_none a f = ([], refl, made_none a f)

  -- one offer
  pub made_one : (by v : ℕ) (word found : Word) (reply : Reply) (a b : Knowledge) (f g : List Entry)
      → b.table ≡ a.table
      → Calls law (event by v (Offer word found reply)) a.story b.story
      → Knows (event by v (Offer word found reply)) a.story b.story
      → own_calls b.story ≡ own_calls a.story ++ event by v (Offer word found reply) ∷ []
      → g ≡ f ++ entries (event by v (Offer word found reply) ∷ [])
      → All (IsNearer (known_table a.story)) (entries (event by v (Offer word found reply) ∷ []))
      → MadeOffers law (record { vertex = v; word = word } ∷ []) a b f g
  made_one by v word found reply a b f g table call knows own bag nearer = (
    event by v (Offer word found reply) ∷ [],
    refl,
    record {
      later = record {
        table = table;
        begins = (call.between ++ event by v (Offer word found reply) ∷ [], sym (append_assoc a.story.seen call.between (event by v (Offer word found reply) ∷ [])) ∙ sym call.seen);
        own = (event by v (Offer word found reply) ∷ [], sym own);
        falls = knows.falls;
        stays = λ h. call.words;
        legal = λ h. call.is_story;
      };
      mine = own;
      found = bag;
      nearer = nearer;
      knows = (subst (λ (w : Word). IsNoMore w word) (sym knows.here) (lesser_at_most found word), tt);
    },
  )

-- an offer that made the distance smaller gives its entry, and another gives none
pub entries_shorter : (by v d p : ℕ) (word found : Word) (reply : Reply) → word ≡ Pair d p → reply ≡ Shorter → entries (event by v (Offer word found reply) ∷ []) ≡ record { vertex = v; dist = d } ∷ []
entries_shorter by v d p word found reply pair shorter = ap (λ (w : Word). entries (event by v (Offer w found reply) ∷ [])) pair ∙ ap (λ (r : Reply). entries (event by v (Offer (Pair d p) found r) ∷ [])) shorter

pub entries_other : (by v d p : ℕ) (word found : Word) (reply : Reply) → word ≡ Pair d p → (reply ≡ SmallerPred) ⊎ (reply ≡ Kept) → entries (event by v (Offer word found reply) ∷ []) ≡ []
entries_other by v d p word found reply pair is =
    ap (λ (w : Word). entries (event by v (Offer w found reply) ∷ [])) pair
    ∙ elim is as (λ _. entries (event by v (Offer (Pair d p) found reply) ∷ []) ≡ []) [
      | inl e ↦ ap (λ (r : Reply). entries (event by v (Offer (Pair d p) found r) ∷ [])) e
      | inr e ↦ ap (λ (r : Reply). entries (event by v (Offer (Pair d p) found r) ∷ [])) e
    ]

module _ (law : ℕ → Word → Type 0) where
  -- an offer of a pair that made the distance smaller
  pub made_shorter : (by v d p : ℕ) (word found : Word) (reply : Reply) (a b : Knowledge) (f g : List Entry)
      → word ≡ Pair d p → reply ≡ Shorter → reply ≡ reply_to found word
      → b.table ≡ a.table
      → Calls law (event by v (Offer word found reply)) a.story b.story
      → Knows (event by v (Offer word found reply)) a.story b.story
      → own_calls b.story ≡ own_calls a.story ++ event by v (Offer word found reply) ∷ []
      → g ≡ f ++ record { vertex = v; dist = d } ∷ []
      → MadeOffers law (record { vertex = v; word = Pair d p } ∷ []) a b f g
  made_shorter by v d p word found reply a b f g pair is answer table call knows own bag =
      let one = entries_shorter by v d p word found reply pair is in
      let shorter : reply_to found (Pair d p) ≡ Shorter = ap (reply_to found) (sym pair) ∙ (sym answer ∙ is) in
      let near : IsNearer (known_table a.story) (record { vertex = v; dist = d }) = λ e q at. shorter_below found d p e q shorter (subst (λ (w : Word). IsNoMore found w) at knows.below) in
      subst (λ (w : Word). MadeOffers law (record { vertex = v; word = w } ∷ []) a b f g) pair
      (made_one law by v word found reply a b f g table call knows own (bag ∙ ap (λ l. f ++ l) (sym one))
      (subst (All (IsNearer (known_table a.story))) (sym one) (All-cons (IsNearer (known_table a.story)) (record { vertex = v; dist = d }) [] near (All-nil (IsNearer (known_table a.story))))))

  pub made_other : (by v d p : ℕ) (word found : Word) (reply : Reply) (a b : Knowledge) (f g : List Entry)
      → word ≡ Pair d p → (reply ≡ SmallerPred) ⊎ (reply ≡ Kept)
      → b.table ≡ a.table
      → Calls law (event by v (Offer word found reply)) a.story b.story
      → Knows (event by v (Offer word found reply)) a.story b.story
      → own_calls b.story ≡ own_calls a.story ++ event by v (Offer word found reply) ∷ []
      → g ≡ f
      → MadeOffers law (record { vertex = v; word = Pair d p } ∷ []) a b f g
  made_other by v d p word found reply a b f g pair is table call knows own bag =
      let none = entries_other by v d p word found reply pair is in
      subst (λ (w : Word). MadeOffers law (record { vertex = v; word = w } ∷ []) a b f g) pair
      (made_one law by v word found reply a b f g table call knows own (bag ∙ (sym (append-nil f) ∙ ap (λ l. f ++ l) (sym none)))
      (subst (All (IsNearer (known_table a.story))) (sym none) (All-nil (IsNearer (known_table a.story)))))
