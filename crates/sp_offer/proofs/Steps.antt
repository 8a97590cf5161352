-- Each step of an offer table keeps its rule.
use Rattle.std.proofs.Common.{◌≡◌, ◌≢◌, ℕ, ◌+◌, ◌<◌, ◌≤◌, ◌==◌, zero, suc, Bool, cond, inl, ⊎_elim, List, [], ◌∷◌, ◌++◌, length, get_or, set, sum_by, refl, sym, ap, ◌∙◌, subst, arith, append-nil, length-set, length-append, get_or-set_other, get_or-set_same, eq-eqb, ne_eqb, add-zero}
use Rattle.std.proofs.lemmas.Bool.Decides.{nat_tests}
use Rattle.std.proofs.lemmas.List.Sums.{sum_by-cons, sum_by-append, sum_by_push}
use mathlib.Core.Logic.{dite}
use mathlib.Core.Option.{some, some-injective, some-ne-none}
use mathlib.Core.List.{IsPrefix}
use native.Mathlib.Decide.{ℕ_discrete}
use lib.ListN.{get_elem?}
use lib.Seq.{set-get_or}
use Rattle.atomic_table.proofs.Lists.{at_set, at_snoc, set_again, set_else}
use Rattle.sp_word.specs.Word.{Word, Unreached, bits_of}
use Rattle.sp_word.specs.History.{Table, Event, IsAnswered, left_by, run, IsLegal}
use Rattle.sp_offer.specs.Order.{IsKnownWord}
use Rattle.sp_offer.specs.Histories.{blank, found_by, IsLawful}
use Rattle.sp_offer.specs.Story.{times, once_below, IsOnce, Looks, Calls}
use Rattle.sp_offer.specs.Interleaving.{TakenStep, Doing, Rests, doing, AreWithin}
use Rattle.sp_offer.specs.Trail.{Found, turns_of, IsTaken, AreTaken}
use Rattle.sp_offer.specs.Sight.{Sight, newcomer, story, listener, merged_sight}
use Rattle.sp_offer.specs.Rule.{OneHistory, Hears}
use Rattle.sp_offer.proofs.Interleavings.{GoesOn, turns_append, taken_append, taken_older, within_more, stands_set, doing_there, doing_snoc}
use Rattle.sp_offer.proofs.Histories.{run_append, legal_append, lawful_append, known_run, prefix_append, found_answered}

module _ (f : Sight → ℕ) where
  sum_set : (vs : List Sight) (id : ℕ) (v w : Sight) → get_elem? vs id ≡ some v → sum_by f (set vs id w) + f v ≡ sum_by f vs + f w
  sum_set [] id v w e = absurd (some-ne-none v (sym e))
  sum_set (x ∷ xs) zero v w e = let same : f x ≡ f v = ap f (some-injective x v e) in omega (arith, same, sum_by-cons f x xs, sum_by-cons f w xs)
  sum_set (x ∷ xs) (suc i) v w e = omega (arith, sum_set xs i v w e, sum_by-cons f x xs, sum_by-cons f x (set xs i w))

  one_of_sum : (vs : List Sight) (id : ℕ) (v : Sight) → get_elem? vs id ≡ some v → f v ≤ sum_by f vs
  one_of_sum [] id v e = absurd (some-ne-none v (sym e))
  one_of_sum (x ∷ xs) zero v e = let same : f x ≡ f v = ap f (some-injective x v e) in omega (arith, same, sum_by-cons f x xs)
  one_of_sum (x ∷ xs) (suc i) v e = omega (arith, one_of_sum xs i v e, sum_by-cons f x xs)

-- what a view has seen and heard begins a list
abbrev Begins : List Event → Sight → Type 0
Begins log v = IsPrefix v.seen log × IsPrefix v.heard log

abbrev AllBegin : List Event → List Sight → Type 0
AllBegin log vs = (j : ℕ) (v : Sight) → get_elem? vs j ≡ some v → Begins log v

begin_set : (log : List Event) (vs : List Sight) (id : ℕ) (w : Sight) → AllBegin log vs → Begins log w → AllBegin log (set vs id w)
begin_set log vs id w all mine j v e = ⊎_elim (λ (t : (j ≡ id) × (w ≡ v)). subst (Begins log) t.1 mine) (λ (t : (j ≢ id) × (get_elem? vs j ≡ some v)). all j v t.1) (at_set vs id j w v e)

begin_more : (log : List Event) (e : Event) (vs : List Sight) → AllBegin log vs → AllBegin (log ++ e ∷ []) vs
begin_more log e vs all j v at = let b = all j v at in (prefix_append v.seen log (e ∷ []) b.0, prefix_append v.heard log (e ∷ []) b.1)

-- each trail tells steps of all callers
taken_set : (steps next : List TakenStep) (vs : List Sight) (id : ℕ) (w : Sight) → ((j : ℕ) (v : Sight) → get_elem? vs j ≡ some v → AreTaken steps v.trail) → ((f : Found) → IsTaken steps f → IsTaken next f) → AreTaken next w.trail
    → (j : ℕ) (v : Sight) → get_elem? (set vs id w) j ≡ some v → AreTaken next v.trail
taken_set steps next vs id w all older mine j v e = ⊎_elim (λ (t : (j ≡ id) × (w ≡ v)). subst (λ (x : Sight). AreTaken next x.trail) t.1 mine)
    (λ (t : (j ≢ id) × (get_elem? vs j ≡ some v)). taken_older steps next older v.trail (all j v t.1)) (at_set vs id j w v e)

once_more : (p n : ℕ) → once_below p (n + 1) ≡ once_below p n + cond (n == p) 1 0
once_more p n = grind (arith, nat_tests)

-- a legal history goes on with a call that is answered as it should be
call_legal : (log : List Event) (e : Event) → IsLegal blank log → IsAnswered (run blank log e.vertex) e.call → IsLegal blank (log ++ e ∷ [])
call_legal log e legal answer = legal_append blank log (e ∷ []) legal (answer, tt)

module _ (P : ℕ) (law : ℕ → Word → Type 0) (n : ℕ) where
  abbrev pub Rule : List ℕ → List Sight → Type 0
  Rule = OneHistory P law n

  -- the caller sees the history so far
  abbrev pub looking : List Event → List Found → Doing → Sight → Sight
  looking log ts d v = record { seen = log; heard = []; own = v.own; trail = ts; at = d }

  -- the caller sees the history so far, and makes its call
  abbrev pub calling : List Event → Event → List Found → Sight → Sight
  calling log e ts v = record { seen = log ++ e ∷ []; heard = []; own = v.own ++ length log ∷ []; trail = ts; at = Rests }

  -- each word of the one history is unreached or one that the law allows
  pub known_word : (ws : List ℕ) (vs : List Sight) (r : Rule ws vs) (v : ℕ) → IsKnownWord law v (run blank r.log v)
  known_word ws vs r = known_run law blank r.log r.lawful (λ _. inl refl)

  once_own : (ws : List ℕ) (vs : List Sight) (r : Rule ws vs) (id : ℕ) (v : Sight) → get_elem? vs id ≡ some v → IsOnce v.own (length r.log)
  once_own ws vs r id v at p = subst (λ (k : ℕ). times p v.own ≤ k) (r.owned p) (one_of_sum (λ (x : Sight). times p x.own) vs id v at)

  -- ## Looks

  pub look_keeps : (ws : List ℕ) (vs : List Sight) (r : Rule ws vs) (i id : ℕ) (v : Sight) (ts : List Found) (d : Doing) (next : List TakenStep) → get_elem? vs id ≡ some v → GoesOn n (length vs) r.steps next r.log id d v.trail ts
      → Rule (set ws i (get_or ws i 0)) (set vs id (looking r.log ts d v))
  look_keeps ws vs r i id v ts d next at goes = subst (λ (zs : List ℕ). Rule zs (set vs id (looking r.log ts d v))) (sym (set-get_or ws i 0)) record {
    log = r.log;
    wide = r.wide;
    legal = r.legal;
    ends = r.ends;
    lawful = r.lawful;
    begins = begin_set r.log vs id (looking r.log ts d v) r.begins (([], append-nil r.log), (r.log, refl));
    owned = λ p. omega (arith, sum_set (λ (x : Sight). times p x.own) vs id v (looking r.log ts d v) at, r.owned p);
    steps = next;
    interleaved = goes.interleaved;
    within = subst (λ (k : ℕ). AreWithin n k next) (sym (length-set vs id (looking r.log ts d v))) goes.within;
    calls = goes.calls;
    stands = stands_set vs id v (looking r.log ts d v) (doing r.steps) (doing next) at r.stands goes.mine goes.others;
    told = λ p. omega (arith, sum_set (λ (x : Sight). times p (turns_of x.trail)) vs id v (looking r.log ts d v) at, r.told p, goes.told p);
    taken = taken_set r.steps next vs id (looking r.log ts d v) r.taken goes.older goes.taken;
  }

  pub look_hears : (ws : List ℕ) (vs : List Sight) (r : Rule ws vs) (id : ℕ) (v : Sight) (ts : List Found) (d : Doing) → get_elem? vs id ≡ some v → Hears v (looking r.log ts d v)
  look_hears ws vs r id v ts d at = (refl, (r.begins id v at).1)

  pub look_tells : (ws : List ℕ) (vs : List Sight) (r : Rule ws vs) (vertex id : ℕ) (v : Sight) (ts : List Found) (d : Doing) (x : Word) → get_elem? vs id ≡ some v → x ≡ run blank r.log vertex
      → Looks law vertex x (story v) (story (looking r.log ts d v))
  look_tells ws vs r vertex id v ts d x at is = let b = r.begins id v at in record {
    between = b.0.0;
    seen = sym b.0.1;
    own = refl;
    last = sym is;
    lawful = subst (IsKnownWord law vertex) (sym is) (known_word ws vs r vertex);
    words = known_word ws vs r;
    is_story = record { legal = r.legal; once = once_own ws vs r id v at };
  }

  -- ## Calls

  -- the words, after a call of the vertex i + 1
  ends_more : (ws : List ℕ) (log : List Event) (e : Event) (i m : ℕ) → i < length ws → e.vertex ≡ i + 1 → m ≡ bits_of P (left_by e.call (run blank log e.vertex))
      → ((j : ℕ) → j < n → get_or ws j 0 ≡ bits_of P (run blank log (j + 1))) → (j : ℕ) → j < n → get_or (set ws i m) j 0 ≡ bits_of P (run blank (log ++ e ∷ []) (j + 1))
  ends_more ws log e i m inside at new ends j below =
      let F : Bool → Type 0 = λ b. get_or (set ws i m) j 0 ≡ bits_of P (cond b (left_by e.call (run blank log (j + 1))) (run blank log (j + 1))) in
      subst (λ (t : Table). get_or (set ws i m) j 0 ≡ bits_of P (t (j + 1))) (sym (run_append blank log (e ∷ []))) (dite (ℕ_discrete j i)
      (λ here. let same : e.vertex ≡ j + 1 = omega arith in subst F (sym (eq-eqb (j + 1) e.vertex (sym same)))
      (ap (λ (k : ℕ). get_or (set ws i m) k 0) here ∙ (get_or-set_same ws i m 0 inside ∙ (new ∙ ap (λ (k : ℕ). bits_of P (left_by e.call (run blank log k))) same))))
      (λ there. let other : j + 1 ≢ e.vertex = λ h. there (omega arith) in subst F (sym (ne_eqb (j + 1) e.vertex other))
      (get_or-set_other ws i j m 0 there ∙ ends j below)))

  pub call_keeps : (ws : List ℕ) (vs : List Sight) (r : Rule ws vs) (i id m : ℕ) (v : Sight) (ts : List Found) (e : Event) (next : List TakenStep) → i < n → get_elem? vs id ≡ some v → GoesOn n (length vs) r.steps next (r.log ++ e ∷ []) id Rests v.trail ts
      → e.vertex ≡ i + 1 → IsAnswered (run blank r.log e.vertex) e.call → IsLawful law e.vertex e.call → m ≡ bits_of P (left_by e.call (run blank r.log e.vertex))
      → Rule (set ws i m) (set vs id (calling r.log e ts v))
  call_keeps ws vs r i id m v ts e next inside at goes vertex answer fits new = let wide = r.wide in let w : Sight = calling r.log e ts v in record {
    log = r.log ++ e ∷ [];
    wide = length-set ws i m ∙ wide;
    legal = call_legal r.log e r.legal answer;
    ends = ends_more ws r.log e i m (omega arith) vertex new r.ends;
    lawful = lawful_append law r.log (e ∷ []) r.lawful (fits, tt);
    begins = begin_set (r.log ++ e ∷ []) vs id w (begin_more r.log e vs r.begins) (([], append-nil (r.log ++ e ∷ [])), (r.log ++ e ∷ [], refl));
    owned = λ p. omega (
      arith,
      sum_set (λ (x : Sight). times p x.own) vs id v w at,
      r.owned p,
      sum_by_push (λ (q : ℕ). cond (q == p) 1 0) v.own (length r.log),
      once_more p (length r.log),
      ap (once_below p) (length-append r.log (e ∷ [])),
    );
    steps = next;
    interleaved = goes.interleaved;
    within = subst (λ (k : ℕ). AreWithin n k next) (sym (length-set vs id w)) goes.within;
    calls = goes.calls;
    stands = stands_set vs id v w (doing r.steps) (doing next) at r.stands goes.mine goes.others;
    told = λ p. omega (arith, sum_set (λ (x : Sight). times p (turns_of x.trail)) vs id v w at, r.told p, goes.told p);
    taken = taken_set r.steps next vs id w r.taken goes.older goes.taken;
  }

  pub call_hears : (ws : List ℕ) (vs : List Sight) (r : Rule ws vs) (id : ℕ) (v : Sight) (ts : List Found) (e : Event) → get_elem? vs id ≡ some v → Hears v (calling r.log e ts v)
  call_hears ws vs r id v ts e at = (refl, prefix_append v.heard r.log (e ∷ []) (r.begins id v at).1)

  pub call_tells : (ws : List ℕ) (vs : List Sight) (r : Rule ws vs) (id : ℕ) (v : Sight) (ts : List Found) (e : Event) → get_elem? vs id ≡ some v
      → IsAnswered (run blank r.log e.vertex) e.call → IsLawful law e.vertex e.call → Calls law e (story v) (story (calling r.log e ts v))
  call_tells ws vs r id v ts e at answer fits = let b = r.begins id v at in let found : found_by e.call ≡ run blank r.log e.vertex = found_answered (run blank r.log e.vertex) e.call answer in record {
    between = b.0.0;
    seen = ap (λ (l : List Event). l ++ e ∷ []) (sym b.0.1);
    own = ap (λ (l : List Event). v.own ++ length l ∷ []) (sym b.0.1);
    last = ap (λ (l : List Event). run blank l e.vertex) b.0.1 ∙ sym found;
    lawful = subst (IsKnownWord law e.vertex) (sym found) (known_word ws vs r e.vertex);
    words = known_run law blank (r.log ++ e ∷ []) (lawful_append law r.log (e ∷ []) r.lawful (fits, tt)) (λ _. inl refl);
    is_story = record {
      legal = call_legal r.log e r.legal answer;
      once = λ p. omega (
        arith,
        once_own ws vs r id v at p,
        sum_by_push (λ (q : ℕ). cond (q == p) 1 0) v.own (length r.log),
        once_more p (length r.log),
        ap (once_below p) (length-append r.log (e ∷ [])),
      );
    };
  }

  -- ## Callers

  -- a second caller comes, which has seen what another has
  pub split_keeps : (ws : List ℕ) (vs : List Sight) (r : Rule ws vs) (id : ℕ) (v : Sight) → get_elem? vs id ≡ some v → Rule ws (set vs id v ++ listener v ∷ [])
  split_keeps ws vs r id v at = subst (λ (us : List Sight). Rule ws (us ++ listener v ∷ [])) (sym (set_again vs id v at)) record {
    log = r.log;
    wide = r.wide;
    legal = r.legal;
    ends = r.ends;
    lawful = r.lawful;
    begins = λ j u e. ⊎_elim (r.begins j u) (λ (same : listener v ≡ u). subst (Begins r.log) same ((r.begins id v at).0, (r.log, refl))) (at_snoc vs (listener v) u j e);
    owned = λ p. sum_by_push (λ (x : Sight). times p x.own) vs (listener v) ∙ (add-zero _ ∙ r.owned p);
    steps = r.steps;
    interleaved = r.interleaved;
    within = within_more n (length vs) (length (vs ++ listener v ∷ [])) r.steps (omega (arith, length-append vs (listener v ∷ []))) r.within;
    calls = r.calls;
    stands = λ j. r.stands j ∙ sym (doing_snoc vs (listener v) refl j);
    told = λ p. sum_by_push (λ (x : Sight). times p (turns_of x.trail)) vs (listener v) ∙ (add-zero _ ∙ r.told p);
    taken = λ j u e. ⊎_elim (r.taken j u) (λ (same : listener v ≡ u). subst (λ (x : Sight). AreTaken r.steps x.trail) same tt) (at_snoc vs (listener v) u j e);
  }

  -- one caller takes over the calls of another
  pub join_keeps : (ws : List ℕ) (vs : List Sight) (r : Rule ws vs) (id other : ℕ) (v w : Sight) → w.at ≡ Rests → get_elem? vs id ≡ some v → (other ≡ id → ⊥) → get_elem? (set vs id (merged_sight v w)) other ≡ some w
      → Rule ws (set (set vs id (merged_sight v w)) other newcomer)
  join_keeps ws vs r id other v w rests at apart there = let both : Sight = merged_sight v w in let was : get_elem? vs other ≡ some w = sym (set_else vs id other both apart) ∙ there in record {
    log = r.log;
    wide = r.wide;
    legal = r.legal;
    ends = r.ends;
    lawful = r.lawful;
    begins = begin_set r.log (set vs id both) other newcomer (begin_set r.log vs id both r.begins ((r.begins id v at).0, (r.begins other w was).0)) ((r.log, refl), (r.log, refl));
    owned = λ p. omega (
      arith,
      sum_set (λ (x : Sight). times p x.own) (set vs id both) other w newcomer there,
      sum_set (λ (x : Sight). times p x.own) vs id v both at,
      sum_by-append (λ (q : ℕ). cond (q == p) 1 0) v.own w.own,
      r.owned p,
    );
    steps = r.steps;
    interleaved = r.interleaved;
    within = subst (λ (k : ℕ). AreWithin n k r.steps) (sym (length-set (set vs id both) other newcomer ∙ length-set vs id both)) r.within;
    calls = r.calls;
    stands = stands_set (set vs id both) other w newcomer (doing r.steps) (doing r.steps) there
        (stands_set vs id v both (doing r.steps) (doing r.steps) at r.stands (r.stands id ∙ doing_there vs id v at) (λ j _. refl))
        (r.stands other ∙ (doing_there vs other w was ∙ rests)) (λ j _. refl);
    told = λ p. omega (
      arith,
      sum_set (λ (x : Sight). times p (turns_of x.trail)) (set vs id both) other w newcomer there,
      sum_set (λ (x : Sight). times p (turns_of x.trail)) vs id v both at,
      turns_append p v.trail w.trail,
      r.told p,
    );
    taken = taken_set r.steps r.steps (set vs id both) other newcomer
        (taken_set r.steps r.steps vs id both r.taken (λ f h. h) (taken_append r.steps v.trail w.trail (r.taken id v at) (r.taken other w was))) (λ f h. h) tt;
  }

  none_yet : (p : ℕ) → 0 ≡ once_below p 0
  none_yet p = grind (arith, nat_tests)

  -- a new table
  pub opens : (ws : List ℕ) → length ws ≡ n → ((i : ℕ) → i < n → get_or ws i 0 ≡ bits_of P Unreached) → Rule ws (newcomer ∷ [])
  opens ws wide all = record {
    log = [];
    wide = wide;
    legal = tt;
    ends = all;
    lawful = tt;
    begins = λ j v e. ⊎_elim (λ (h : get_elem? [] j ≡ some v). absurd (some-ne-none v (sym h))) (λ (same : newcomer ≡ v). subst (Begins []) same (([], refl), ([], refl))) (at_snoc [] newcomer v j e);
    owned = λ p. none_yet p;
    steps = [];
    interleaved = tt;
    within = tt;
    calls = refl;
    stands = λ j. sym (doing_snoc [] newcomer refl j);
    told = λ p. none_yet p;
    taken = λ j v e. ⊎_elim (λ (h : get_elem? [] j ≡ some v). absurd (some-ne-none v (sym h))) (λ (same : newcomer ≡ v). subst (λ (x : Sight). AreTaken [] x.trail) same tt) (at_snoc [] newcomer v j e);
  }
