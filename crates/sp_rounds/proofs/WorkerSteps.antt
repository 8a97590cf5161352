-- What a worker did, task by task.
use Rattle.std.proofs.Common.{◌≡◌, ℕ, zero, suc, ◌+◌, ◌-◌, ◌<◌, List, [], ◌∷◌, ◌++◌, length, map, get_or, refl, sym, ap, ◌∙◌, subst, arith, append_assoc, append-nil}
use Rattle.std.proofs.lemmas.List.Sums.{sum_by-append, sum_by-cons}
use Rattle.std.specs.Prelude.{sum_by}
use Rattle.sp_word.specs.Word.{Word}
use Rattle.sp_word.specs.History.{Event}
use Rattle.sp_offer.specs.Order.{IsNoMore}
use Rattle.sp_offer.specs.Story.{Knowledge, known_table, own_calls}
use Rattle.sp_rounds.specs.Held.{Held}
use Rattle.sp_rounds.specs.declared.grants.Grant.{Grant}
use Rattle.sp_rounds.specs.Grants.{times}
use Rattle.sp_rounds.proofs.GrantCounts.{times-append}
use Rattle.sp_bins.specs.declared.entry.Entry.{Entry}
use Rattle.sp_graph.specs.RowsValue.{Split}
use Rattle.sp_rounds.specs.declared.task.Task.{Task}
use Rattle.sp_rounds.specs.Offers.{AskedOffer, offers_of}
use Rattle.sp_rounds.specs.Calls.{question_of}
use Rattle.sp_rounds.specs.Work.{TaskOffers, jobs_of, offers_at, slot_at, grant_at, calls_weight, Did, MadeCalls, MadeOffers, AllBelow, Goes, at_start, Joined}
use Rattle.sp_rounds.proofs.CallsInRow.{map-append, made_more, made_none, entries-append, nearer_append, AllKnown-lower, AllKnown-append, later_along, later_joined}

pub offers_at-is : (max : ℕ) (rows : Split) (tasks : List Task) (k : ℕ) (d : Task) → k < length tasks → offers_at (jobs_of max rows tasks) k ≡ offers_of max rows (get_or tasks k d)
offers_at-is max rows [] k d h = absurd (omega arith)
offers_at-is max rows (t ∷ ts) zero d h = refl
offers_at-is max rows (t ∷ ts) (suc k) d h = offers_at-is max rows ts k d (omega arith)

-- what stands at a place inside does not depend on what stands in for it outside
pub get_or-inside : (tasks : List Task) (k : ℕ) (d e : Task) → k < length tasks → get_or tasks k d ≡ get_or tasks k e
get_or-inside [] k d e h = absurd (omega arith)
get_or-inside (t ∷ ts) zero d e h = refl
get_or-inside (t ∷ ts) (suc k) d e h = get_or-inside ts k d e (omega arith)

pub slot_at-is : (max : ℕ) (rows : Split) (tasks : List Task) (k : ℕ) (d : Task) → k < length tasks → slot_at (jobs_of max rows tasks) k ≡ (get_or tasks k d).vertex - 1
slot_at-is max rows [] k d h = absurd (omega arith)
slot_at-is max rows (t ∷ ts) zero d h = refl
slot_at-is max rows (t ∷ ts) (suc k) d h = slot_at-is max rows ts k d (omega arith)

pub length-map : {A B : Type 0} (f : A → B) (xs : List A) → length (map f xs) ≡ length xs
length-map f [] = refl
length-map f (x ∷ xs) = let e = length-map f xs in omega arith

AllBelow-append : (n : ℕ) (xs ys : List ℕ) → AllBelow n xs → AllBelow n ys → AllBelow n (xs ++ ys)
AllBelow-append n [] ys h k = k
AllBelow-append n (x ∷ xs) ys h k = (h.0, AllBelow-append n xs ys h.1 k)

-- the weight of calls, and of more calls
pub calls_weight-append : (h : AskedOffer → ℕ) (xs ys : List Event) → calls_weight h (xs ++ ys) ≡ calls_weight h xs + calls_weight h ys
calls_weight-append h xs ys = ap (sum_by h) (map-append question_of xs ys) ∙ sum_by-append h (map question_of xs) (map question_of ys)

module _ (law : ℕ → Word → Type 0) (jobs : List TaskOffers) (number : ℕ) where
  pub goes_none : (a : Did) → Goes law jobs number a a
  goes_none a = record {
    calls = [];
    more = [];
    made = made_none law a.caller a.found;
    receipts = sym (append-nil a.receipts);
    inside = tt;
    each = λ h. refl;
    claims = refl;
    granted = λ s r. omega arith;
  }

  pub goes_same : (a b : Did) → b ≡ a → Goes law jobs number a b
  goes_same a b e = subst (λ (x : Did). Goes law jobs number a x) (sym e) (goes_none a)

  pub goes_more : (a b c : Did) → Goes law jobs number a b → Goes law jobs number b c → Goes law jobs number a c
  goes_more a b c p q = record {
    calls = p.calls ++ q.calls;
    more = p.more ++ q.more;
    made = made_more law p.calls q.calls a.caller b.caller c.caller a.found b.found c.found p.made q.made;
    receipts = q.receipts ∙ (ap (λ l. l ++ q.more) p.receipts ∙ append_assoc a.receipts p.more q.more);
    inside = AllBelow-append (length jobs) p.more q.more p.inside q.inside;
    each = λ h.
        let x = p.each h in
        let y = q.each h in
        let s = calls_weight-append h p.calls q.calls in
        let t = sum_by-append (λ k. sum_by h (offers_at jobs k)) p.more q.more in
        omega arith;
    claims = q.claims ∙ p.claims;
    granted = λ s r.
        let x = p.granted s r in
        let y = q.granted s r in
        let e = ap (times s r) (map-append (grant_at jobs number) p.more q.more) in
        let t = times-append s r (map (grant_at jobs number) p.more) (map (grant_at jobs number) q.more) in
        omega arith;
  }

  -- a job that was granted and run
  pub goes_task : (k : ℕ) (a b : Did) (g : Grant) → k < length jobs → MadeOffers law (offers_at jobs k) a.caller b.caller a.found b.found → b.receipts ≡ a.receipts ++ k ∷ []
      → b.claimer.table ≡ a.claimer.table → b.claimer.grants ≡ g ∷ a.claimer.grants → g.slot ≡ slot_at jobs k → g.round ≡ number → Goes law jobs number a b
  goes_task k a b g inside made receipts table grants slot round = record {
    calls = made.0;
    more = k ∷ [];
    made = made.2;
    receipts = receipts;
    inside = (inside, tt);
    each = λ h. let y = ap (sum_by h) made.1 in let z = sum_by-cons (λ i. sum_by h (offers_at jobs i)) k [] in omega arith;
    claims = table;
    granted = λ s r.
        let is : g ≡ grant_at jobs number k = (λ i. record { slot = slot i; round = round i }) in
        let e = ap (times s r) (grants ∙ ap (λ x. x ∷ a.claimer.grants) is) in
        omega arith;
  }

  -- a job that was not granted
  pub goes_refused : (a b : Did) → b.caller ≡ a.caller → b.found ≡ a.found → b.receipts ≡ a.receipts → b.claimer.table ≡ a.claimer.table → b.claimer.grants ≡ a.claimer.grants → Goes law jobs number a b
  goes_refused a b caller found receipts table grants = record {
    calls = [];
    more = [];
    made = subst (λ (x : Knowledge × List Entry). MadeCalls law [] a.caller x.0 a.found x.1) (λ i. (sym caller i, sym found i)) (made_none law a.caller a.found);
    receipts = receipts ∙ sym (append-nil a.receipts);
    inside = tt;
    each = λ h. refl;
    claims = table;
    granted = λ s r. let e = ap (times s r) grants in omega arith;
  }

  -- two groups, of which the second began with no calls and no grants of its own
  pub goes_joined : (c d : Knowledge) (h i : Held) (a b j : Did) → own_calls d.story ≡ [] → ((v : ℕ) → IsNoMore (known_table d.story v) (known_table c.story v)) → i.grants ≡ []
      → Goes law jobs number (at_start c h) a → Goes law jobs number (at_start d i) b → Joined law a b j → Goes law jobs number (at_start c h) j
  goes_joined c d h i a b j none low bare p q both = record {
    calls = p.calls ++ q.calls;
    more = p.more ++ q.more;
    made = record {
      later = later_along law c a.caller j.caller p.made.later (later_joined law a.caller b.caller j.caller both.tokens.table both.tokens.follows both.tokens.own);
      mine =
          both.tokens.own
          ∙ ((λ k. p.made.mine k ++ (q.made.mine ∙ ap (λ l. l ++ q.calls) none) k) ∙ append_assoc (own_calls c.story) p.calls q.calls);
      found = both.found ∙ ((λ k. p.made.found k ++ q.made.found k) ∙ sym (entries-append p.calls q.calls));
      nearer = nearer_append (known_table d.story) (known_table c.story) p.calls q.calls low p.made.nearer q.made.nearer;
      knows =
          AllKnown-append j.caller.story p.calls q.calls
          (AllKnown-lower a.caller.story j.caller.story p.calls (λ v. (both.tokens.follows.falls v).0) p.made.knows)
          (AllKnown-lower b.caller.story j.caller.story q.calls (λ v. (both.tokens.follows.falls v).1) q.made.knows);
    };
    receipts = both.receipts ∙ (λ k. p.receipts k ++ q.receipts k);
    inside = AllBelow-append (length jobs) p.more q.more p.inside q.inside;
    each = λ w.
        let x = p.each w in
        let y = q.each w in
        let s = calls_weight-append w p.calls q.calls in
        let t = sum_by-append (λ k. sum_by w (offers_at jobs k)) p.more q.more in
        omega arith;
    claims = both.tokens.claims ∙ p.claims;
    granted = λ s r.
        let x = p.granted s r in
        let y = q.granted s r in
        let e = ap (times s r) (map-append (grant_at jobs number) p.more q.more) in
        let t = times-append s r (map (grant_at jobs number) p.more) (map (grant_at jobs number) q.more) in
        let u = times-append s r a.claimer.grants b.claimer.grants in
        let v = ap (times s r) both.tokens.grants in
        omega arith;
  }
