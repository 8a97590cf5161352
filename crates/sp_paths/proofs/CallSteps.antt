-- A closed history of relaxations ends in the tree.
use Rattle.std.proofs.Common.{◌≡◌, ℕ, zero, suc, ◌+◌, ◌<◌, ◌≤◌, ◌⊎◌, inl, inr, true, false, eqb, ltb, List, [], ◌∷◌, ◌++◌, sym, refl, ap, ◌∙◌, subst, arith}
use Rattle.std.specs.Prelude.{Contains, ◌&&◌, ◌||◌}
use Rattle.std.proofs.lemmas.Bool.{cases_eq, cases_lt, eq-eqb, ne_eqb, cond-true, cond-false, cases_Bool, or_cases, and_parts, ltb-true, eqb-true, or_parts, ltb-false, and_cases, eqb-false}
use Rattle.sp_word.specs.declared.reply.Reply.{Reply}
use Rattle.sp_word.specs.Word.{Word, Unreached, Pair, lesser}
use Rattle.sp_word.specs.History.{Table, Call, Offer, Read, Event, after, run, IsLegal}
use Rattle.sp_paths.specs.Paths.{Graph, IsGraph, IsVertex, HasArc, HasWalk, HasWalkBy, IsLawful, IsAtMost, IsClosed, IsTableFrom, IsWithin}
use Rattle.sp_paths.specs.Calls.{IsOpening, HasRead, IsOfArc, IsByArc, IsByArcs, IsClosedHistory, ClosedEndsInTree, OneCallMore, OpeningOpens}
use Rattle.sp_paths.proofs.Walks.{arc_in, walk_by, lawful_walk}
use Rattle.sp_paths.proofs.Core.{pair_dist}
use Rattle.sp_paths.proofs.TheoremProofs.{finished_ends_in_tree}

-- ## The lesser of a word and a pair

takes : (e q d p : ℕ) → ((ltb d e || (eqb d e && ltb p q)) ≡ true) → (d < e) ⊎ ((d ≡ e) × (p ≤ q))
takes e q d p h = go (or_cases (ltb d e) (eqb d e && ltb p q) h)
  where
    go : (ltb d e ≡ true) ⊎ ((eqb d e && ltb p q) ≡ true) → (d < e) ⊎ ((d ≡ e) × (p ≤ q))
    go (inl x) = inl (ltb-true d e x)
    go (inr x) = let both = and_parts (eqb d e) (ltb p q) x in inr (eqb-true d e both.0, omega (arith, ltb-true p q both.1))

keeps : (e q d p : ℕ) → ((ltb d e || (eqb d e && ltb p q)) ≡ false) → (e < d) ⊎ ((e ≡ d) × (q ≤ p))
keeps e q d p h = let both = or_parts (ltb d e) (eqb d e && ltb p q) h in go (ltb-false d e both.0) (and_cases (eqb d e) (ltb p q) both.1)
  where
    tie : e ≤ d → (d ≡ e → ⊥) → (e < d) ⊎ ((e ≡ d) × (q ≤ p))
    tie le ne = inl (omega arith)

    split : e ≤ d → q ≤ p → (e < d) ⊎ (d ≤ e) → (e < d) ⊎ ((e ≡ d) × (q ≤ p))
    split le lq (inl lt) = inl lt
    split le lq (inr ge) = inr (omega arith, lq)

    go : e ≤ d → (eqb d e ≡ false) ⊎ (ltb p q ≡ false) → (e < d) ⊎ ((e ≡ d) × (q ≤ p))
    go le (inl ne) = tie le (eqb-false d e ne)
    go le (inr lt) = split le (ltb-false p q lt) (cases_lt e d)

-- the word is kept, and at most the pair, or the pair is stored, and at most the word
abbrev Keeps : Word → (d p : ℕ) → Type 0
Keeps w d p = (lesser w (Pair d p) ≡ w) × IsAtMost w d p

abbrev Stores : Word → (d p : ℕ) → Type 0
Stores w d p = (lesser w (Pair d p) ≡ Pair d p) × ((c q : ℕ) → IsAtMost w c q → IsAtMost (Pair d p) c q)

lesser_cases : (w : Word) (d p : ℕ) → Keeps w d p ⊎ Stores w d p
lesser_cases Unreached d p = inr (refl, λ c q h. absurd h)
lesser_cases (Pair e q) d p = go (cases_Bool (ltb d e || (eqb d e && ltb p q)))
  where
    below : (d < e) ⊎ ((d ≡ e) × (p ≤ q)) → (c r : ℕ) → IsAtMost (Pair e q) c r → IsAtMost (Pair d p) c r
    below (inl x) c r (inl y) = inl (omega arith)
    below (inl x) c r (inr y) = inl (omega arith)
    below (inr x) c r (inl y) = inl (omega arith)
    below (inr x) c r (inr y) = inr (omega arith, omega arith)

    go : ((ltb d e || (eqb d e && ltb p q)) ≡ true) ⊎ ((ltb d e || (eqb d e && ltb p q)) ≡ false) → Keeps (Pair e q) d p ⊎ Stores (Pair e q) d p
    go (inl t) = inr (cond-true (ltb d e || (eqb d e && ltb p q)) (Pair d p) (Pair e q) t, below (takes e q d p t))
    go (inr f) = inl (cond-false (ltb d e || (eqb d e && ltb p q)) (Pair d p) (Pair e q) f, keeps e q d p f)

pair_at_most : (d p : ℕ) → IsAtMost (Pair d p) d p
pair_at_most d p = inr (refl, omega arith)

pub lesser_at_most : (w : Word) (d p c q : ℕ) → IsAtMost w c q → IsAtMost (lesser w (Pair d p)) c q
lesser_at_most w d p c q h = go (lesser_cases w d p)
  where
    go : Keeps w d p ⊎ Stores w d p → IsAtMost (lesser w (Pair d p)) c q
    go (inl x) = rw x.0 h
    go (inr x) = rw x.0 (x.1 c q h)

pub lesser_of_offer : (w : Word) (d p : ℕ) → IsAtMost (lesser w (Pair d p)) d p
lesser_of_offer w d p = go (lesser_cases w d p)
  where
    go : Keeps w d p ⊎ Stores w d p → IsAtMost (lesser w (Pair d p)) d p
    go (inl x) = rw x.0 x.1
    go (inr x) = rw x.0 (pair_at_most d p)

-- a property of words that the pair has too is kept by the offer
pub offer_keeps : (P : Word → Type 0) (w : Word) (d p : ℕ) → P w → P (Pair d p) → P (lesser w (Pair d p))
offer_keeps P w d p a b = go (lesser_cases w d p)
  where
    go : Keeps w d p ⊎ Stores w d p → P (lesser w (Pair d p))
    go (inl x) = subst P (sym x.0) a
    go (inr x) = subst P (sym x.0) b

-- words never rise, whatever is offered
lesser_falls : (w offered : Word) (c q : ℕ) → IsAtMost w c q → IsAtMost (lesser w offered) c q
lesser_falls w Unreached c q h = h
lesser_falls w (Pair d p) c q h = lesser_at_most w d p c q h

-- ## Tables after calls

abbrev offering : (by v : ℕ) (word found : Word) (reply : Reply) → Event
offering by v word found reply = record { by = by; vertex = v; call = Offer word found reply }

abbrev reading : (by v : ℕ) (found : Word) → Event
reading by v found = record { by = by; vertex = v; call = Read found }

read_found : (a b : Word) → Read a ≡ Read b → a ≡ b
read_found a b e = cc

not_read : (word found : Word) (reply : Reply) (x : Word) → Offer word found reply ≡ Read x → ⊥
not_read word found reply x e = cc

-- the word of a vertex after an offer
offer_here : (words : Table) (u by v : ℕ) (word found : Word) (reply : Reply) → u ≡ v → after words (offering by v word found reply) u ≡ lesser (words u) word
offer_here words u by v word found reply e = cond-true (eqb u v) (lesser (words u) word) (words u) (eq-eqb u v e)

offer_elsewhere : (words : Table) (u by v : ℕ) (word found : Word) (reply : Reply) → (u ≡ v → ⊥) → after words (offering by v word found reply) u ≡ words u
offer_elsewhere words u by v word found reply e = cond-false (eqb u v) (lesser (words u) word) (words u) (ne_eqb u v e)

read_anywhere : (words : Table) (u by v : ℕ) (found : Word) → after words (reading by v found) u ≡ words u
read_anywhere words u by v found = go (cases_Bool (eqb u v))
  where
    go : (eqb u v ≡ true) ⊎ (eqb u v ≡ false) → after words (reading by v found) u ≡ words u
    go (inl t) = cond-true (eqb u v) (words u) (words u) t
    go (inr f) = cond-false (eqb u v) (words u) (words u) f

call_falls : (words : Table) (by v : ℕ) (call : Call) (u c q : ℕ) → IsAtMost (words u) c q → IsAtMost (after words (record { by = by; vertex = v; call = call }) u) c q
call_falls words by v (Read found) u c q h = rw (read_anywhere words u by v found) h
call_falls words by v (Offer word found reply) u c q h = go (cases_eq u v)
  where
    go : (u ≡ v) ⊎ (u ≡ v → ⊥) → IsAtMost (after words (offering by v word found reply) u) c q
    go (inl same) = rw (offer_here words u by v word found reply same) (lesser_falls (words u) word c q h)
    go (inr other) = rw (offer_elsewhere words u by v word found reply other) h

falls : (words : Table) (events : List Event) (u c q : ℕ) → IsAtMost (words u) c q → IsAtMost (run words events u) c q
falls words [] u c q h = h
falls words (e ∷ rest) u c q h = falls (after words e) rest u c q (call_falls words e.by e.vertex e.call u c q h)

-- what was offered bounds the word at the end
offered_below : (words : Table) (events : List Event) (by v d p : ℕ) (found : Word) (reply : Reply) → Contains events (offering by v (Pair d p) found reply) → IsAtMost (run words events v) d p
offered_below words [] by v d p found reply c = absurd (omega (arith, c.1))
offered_below words (e ∷ rest) by v d p found reply (zero, lt, is) =
    let at : after words (offering by v (Pair d p) found reply) v ≡ lesser (words v) (Pair d p) = offer_here words v by v (Pair d p) found reply refl in
    let here : IsAtMost (after words (offering by v (Pair d p) found reply) v) d p = rw at (lesser_of_offer (words v) d p) in
    falls (after words e) rest v d p (subst (λ x. IsAtMost (after words x v) d p) (sym is) here)
offered_below words (e ∷ rest) by v d p found reply (suc k, lt, is) = offered_below (after words e) rest by v d p found reply (k, omega arith, is)

-- ## Lists of calls

append_one : (before : List Event) (e : Event) (rest : List Event) → (before ++ e ∷ []) ++ rest ≡ before ++ e ∷ rest
append_one [] e rest = refl
append_one (b ∷ before) e rest = ap (λ x. b ∷ x) (append_one before e rest)

-- what a list contains that is one longer
contains_one_more : (before : List Event) (e x : Event) → Contains (before ++ e ∷ []) x → (e ≡ x) ⊎ Contains before x
contains_one_more [] e x (zero, lt, is) = inl is
contains_one_more [] e x (suc k, lt, is) = absurd (omega arith)
contains_one_more (b ∷ before) e x (zero, lt, is) = inr (0, omega arith, is)
contains_one_more (b ∷ before) e x (suc k, lt, is) = go (contains_one_more before e x (k, omega arith, is))
  where
    go : (e ≡ x) ⊎ Contains before x → (e ≡ x) ⊎ Contains (b ∷ before) x
    go (inl same) = inl same
    go (inr c) = inr (suc c.0, omega (arith, c.1), c.2)

-- where a list that is one longer is cut
cut_one_more : (events : List Event) (x : Event) (before : List Event) (e : Event) (later : List Event) → events ++ x ∷ [] ≡ before ++ e ∷ later → ((rest : List Event) × (events ≡ before ++ e ∷ rest)) ⊎ ((before ≡ events) × (e ≡ x))
cut_one_more [] x [] e later is = inr (refl, cc)
cut_one_more [] x (b ∷ []) e later is = absurd (cc)
cut_one_more [] x (b ∷ c ∷ before) e later is = absurd (cc)
cut_one_more (y ∷ events) x [] e later is = inl (events, cc)
cut_one_more (y ∷ events) x (b ∷ before) e later is = go (cut_one_more events x before e later (cc))
  where
    head : y ≡ b
    head = cc

    go : ((rest : List Event) × (events ≡ before ++ e ∷ rest)) ⊎ ((before ≡ events) × (e ≡ x)) → ((rest : List Event) × (y ∷ events ≡ b ∷ before ++ e ∷ rest)) ⊎ ((b ∷ before ≡ y ∷ events) × (e ≡ x))
    go (inl (rest, same)) = inl (rest, cc (head, same))
    go (inr (same, last)) = inr (cc (head, same), last)

pub one_call_more : OneCallMore
one_call_more g max events x by_arcs by before e later is = go (cut_one_more events x before e later is)
  where
    go : ((rest : List Event) × (events ≡ before ++ e ∷ rest)) ⊎ ((before ≡ events) × (e ≡ x)) → IsByArc g max before e.vertex e.call
    go (inl (rest, same)) = by_arcs before e rest same
    go (inr (same, last)) = subst (λ b. IsByArc g max b e.vertex e.call) (sym same) (subst (λ z. IsByArc g max events z.vertex z.call) (sym last) by)

-- ## Runs

module _ (g : Graph) (gr : IsGraph g) (s : ℕ) (in' : IsVertex g.n s) (max : ℕ) where
  -- what holds of the words between two calls, and of the words read so far
  record IsSound (words : Table) (before : List Event) : Type 0 where
    table : IsTableFrom g s words
    within : IsWithin g.n max words
    reads : (u d : ℕ) → IsVertex g.n u → HasRead before u d → HasWalk g s u d

  read_sound : (words : Table) (before : List Event) (by v : ℕ) (found : Word) → found ≡ words v → IsSound words before → IsSound (after words (reading by v found)) (before ++ reading by v found ∷ [])
  read_sound words before by v found is h = record {
    table = record { lawful = λ u k. rw (read_anywhere words u by v found) (h.table.lawful u k); source = read_anywhere words s by v found ∙ h.table.source };
    within = λ u d p k e. h.within u d p k (sym (read_anywhere words u by v found) ∙ e);
    reads = λ u d k r. reads u d r.0 r.1 k (contains_one_more before (reading by v found) (reading r.0 u (Pair d r.1)) r.2);
  }
    where
      reads : (u d by' q : ℕ) → IsVertex g.n u → (reading by v found ≡ reading by' u (Pair d q)) ⊎ Contains before (reading by' u (Pair d q)) → HasWalk g s u d
      reads u d by' q k (inl e) =
          let vertex : v ≡ u = ap (λ x. x.vertex) e in
          let word : words u ≡ Pair d q = ap words (sym vertex) ∙ sym is ∙ read_found found (Pair d q) (ap (λ x. x.call) e) in
          lawful_walk g s u d q (rw word at (h.table.lawful u k))
      reads u d by' q k (inr old) = h.reads u d k (by', q, old)

  -- a pair of an arc and an earlier read is offered to a vertex
  module _ (words : Table) (before : List Event) (by v : ℕ) (found : Word) (reply : Reply) (u c l : ℕ) (read : HasRead before u c) (a : HasArc g u v l) (fits : c + l ≤ max) (h : IsSound words before) where
    abbrev now : Event
    now = offering by v (Pair (c + l) u) found reply

    ends : IsVertex g.n u × IsVertex g.n v × (1 ≤ l)
    ends = arc_in g gr u v l a

    walk : HasWalkBy g s v (c + l) u
    walk = walk_by g s u v c l (h.reads u c ends.0 read) a

    lawful : (x : ℕ) → IsVertex g.n x → (x ≡ v) ⊎ (x ≡ v → ⊥) → IsLawful g s x (after words now x)
    lawful x k (inl same) = rw (offer_here words x by v (Pair (c + l) u) found reply same) (offer_keeps (λ w. IsLawful g s x w) (words x) (c + l) u (h.table.lawful x k) (rw same (inr walk)))
    lawful x k (inr other) = rw (offer_elsewhere words x by v (Pair (c + l) u) found reply other) (h.table.lawful x k)

    within : (x d p : ℕ) → IsVertex g.n x → after words now x ≡ Pair d p → (x ≡ v) ⊎ (x ≡ v → ⊥) → d ≤ max
    within x d p k is (inl same) =
        let P : Word → Type 0 = λ w. (d p : ℕ) → w ≡ Pair d p → d ≤ max in
        let both : P (lesser (words x) (Pair (c + l) u)) = offer_keeps P (words x) (c + l) u (λ d p is'. h.within x d p k is') (λ d p is'. omega (arith, pair_dist (c + l) u d p is')) in
        both d p (sym (offer_here words x by v (Pair (c + l) u) found reply same) ∙ is)
    within x d p k is (inr other) = h.within x d p k (sym (offer_elsewhere words x by v (Pair (c + l) u) found reply other) ∙ is)

    not_least : IsAtMost (Pair (c + l) u) 0 0 → ⊥
    not_least (inl x) = absurd (omega arith)
    not_least (inr x) = absurd (omega (arith, ends.2))

    stays : (w : Word) → Keeps w (c + l) u ⊎ Stores w (c + l) u → w ≡ Pair 0 0 → lesser w (Pair (c + l) u) ≡ Pair 0 0
    stays w (inl x) here = x.0 ∙ here
    stays w (inr x) here = absurd (not_least (x.1 0 0 (rw here (pair_at_most 0 0))))

    source : (s ≡ v) ⊎ (s ≡ v → ⊥) → after words now s ≡ Pair 0 0
    source (inl same) = offer_here words s by v (Pair (c + l) u) found reply same ∙ stays (words s) (lesser_cases (words s) (c + l) u) h.table.source
    source (inr other) = offer_elsewhere words s by v (Pair (c + l) u) found reply other ∙ h.table.source

    offer_reads : (x d by' q : ℕ) → IsVertex g.n x → (now ≡ reading by' x (Pair d q)) ⊎ Contains before (reading by' x (Pair d q)) → HasWalk g s x d
    offer_reads x d by' q k (inl e) = absurd (not_read (Pair (c + l) u) found reply (Pair d q) (ap (λ x. x.call) e))
    offer_reads x d by' q k (inr old) = h.reads x d k (by', q, old)

    pair_sound : IsSound (after words now) (before ++ now ∷ [])
    pair_sound = record {
      table = record { lawful = λ x k. lawful x k (cases_eq x v); source = source (cases_eq s v) };
      within = λ x d p k is. within x d p k is (cases_eq x v);
      reads = λ x d k r. offer_reads x d r.0 r.1 k (contains_one_more before now (reading r.0 x (Pair d r.1)) r.2);
    }

  offer_sound : (words : Table) (before : List Event) (by v : ℕ) (word found : Word) (reply : Reply) → IsOfArc g max before v word → IsSound words before → IsSound (after words (offering by v word found reply)) (before ++ offering by v word found reply ∷ [])
  offer_sound words before by v word found reply o h = rw o.offered (pair_sound words before by v found reply o.tail o.dist o.len o.read o.arc o.fits h)

  call_sound : (words : Table) (before : List Event) (by v : ℕ) (call : Call) → IsLegal words (record { by = by; vertex = v; call = call } ∷ []) → IsByArc g max before v call → IsSound words before → IsSound (after words (record { by = by; vertex = v; call = call })) (before ++ record { by = by; vertex = v; call = call } ∷ [])
  call_sound words before by v (Read found) legal by_arc h = read_sound words before by v found legal.0 h
  call_sound words before by v (Offer word found reply) legal by_arc h = offer_sound words before by v word found reply by_arc h

  run_sound : (words : Table) (before events : List Event) → IsSound words before → IsLegal words events → IsByArcs g max (before ++ events) → IsTableFrom g s (run words events) × IsWithin g.n max (run words events)
  run_sound words before [] h legal by_arcs = (h.table, h.within)
  run_sound words before (e ∷ rest) h legal by_arcs =
      let A : List Event → Type 0 = λ x. IsByArcs g max x in
      run_sound (after words e) (before ++ e ∷ []) rest (call_sound words before e.by e.vertex e.call (legal.0, tt) (by_arcs before e rest refl) h) legal.1 (subst A (sym (append_one before e rest)) by_arcs)

  first_sound : (first : Table) → IsOpening g.n s first → IsSound first []
  first_sound first o = record {
    table = record { lawful = λ v k. lawful v k (cases_eq v s); source = o.source };
    within = λ v d p k e. within v d p k e (cases_eq v s);
    reads = λ u d k r. absurd (omega (arith, r.2.1));
  }
    where
      lawful : (v : ℕ) → IsVertex g.n v → (v ≡ s) ⊎ (v ≡ s → ⊥) → IsLawful g s v (first v)
      lawful v k (inl same) = rw (same, o.source) (inl (refl, refl, refl))
      lawful v k (inr other) = rw (o.others v k other) tt

      within : (v d p : ℕ) → IsVertex g.n v → first v ≡ Pair d p → (v ≡ s) ⊎ (v ≡ s → ⊥) → d ≤ max
      within v d p k e (inl same) = omega (arith, pair_dist d p 0 0 (sym e ∙ ap first same ∙ o.source))
      within v d p k e (inr other) = absurd (not_pair (first v) e (o.others v k other))
        where
          not_pair : (w : Word) → w ≡ Pair d p → w ≡ Unreached → ⊥
          not_pair w e f = cc

  -- the words at the end
  module _ (first final : Table) (events : List Event) (same : (v : ℕ) → IsVertex g.n v → run first events v ≡ final v) where
    final_table : IsTableFrom g s (run first events) → IsTableFrom g s final
    final_table t = record { lawful = λ v k. subst (λ w. IsLawful g s v w) (same v k) (t.lawful v k); source = sym (same s in') ∙ t.source }

    final_within : IsWithin g.n max (run first events) → IsWithin g.n max final
    final_within t v d p k e = t v d p k (same v k ∙ e)

    final_closed : IsClosedHistory g max final events → IsClosed g max final
    final_closed closed u v l a d p e fits =
        let made = closed u v l d p a e fits in
        let below : IsAtMost (run first events v) (d + l) u = offered_below first events made.0 v (d + l) u made.1 made.2 made.3 in
        subst (λ w. IsAtMost w (d + l) u) (same v (arc_in g gr u v l a).1) below

pub closed_ends_in_tree : ClosedEndsInTree
closed_ends_in_tree g s max first final events r =
    let sound = run_sound g r.graph s r.source max first [] events (first_sound g r.graph s r.source max first r.opened) r.legal r.by_arcs in
    finished_ends_in_tree g s max final (record {
      graph = r.graph;
      source = r.source;
      table = final_table g r.graph s r.source max first final events r.ends sound.0;
      within = final_within g r.graph s r.source max first final events r.ends sound.1;
      closed = final_closed g r.graph s r.source max first final events r.ends r.closed;
    })

pub opening_opens : OpeningOpens
opening_opens n s = record {
  source = cond-true (eqb s s) (Pair 0 0) Unreached (eq-eqb s s refl);
  others = λ v k other. cond-false (eqb v s) (Pair 0 0) Unreached (ne_eqb v s other);
}
