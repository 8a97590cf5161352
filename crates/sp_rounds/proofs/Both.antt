-- Two groups of workers, brought together.
use Rattle.std.proofs.Common.{◌≡◌, ℕ, ◌+◌, ◌≤◌, List, [], Result, Ok, Err, IfOk, IfErr, refl, sym, ap, ◌∙◌, subst, arith}
use Rattle.sp_word.specs.Word.{Word}
use Rattle.sp_offer.specs.Order.{IsNoMore}
use Rattle.sp_offer.specs.Story.{Story, Knowledge, known_table, own_calls, story_beside}
use Rattle.sp_rounds.specs.Held.{Held}
use Rattle.sp_rounds.specs.declared.workers.Done.{Done}
use Rattle.sp_rounds.specs.declared.workers.RoundRefused.{RoundRefused}
use Rattle.sp_rounds.specs.Later.{IsLater}
use Rattle.sp_rounds.specs.Work.{TaskOffers, did, Answers, IsMerged, Joined, AreJoined, caller_of, claimer_of}
use Rattle.sp_rounds.proofs.Words.{at_most_itself}
use Rattle.sp_rounds.proofs.CallsInRow.{later_along, later_joined}
use Rattle.sp_rounds.proofs.WorkerSteps.{goes_joined}

module _ (law : ℕ → Word → Type 0) (jobs : List TaskOffers) (number : ℕ) where
  -- whatever a group answers, its caller has gone on from the one that it was given
  pub answer_later : (caller : Knowledge) (claimer : Held) (count : ℕ) (r : Result Done RoundRefused) → Answers law jobs number caller claimer count r → IsLater law caller (caller_of r)
  answer_later caller claimer count (Ok d) h = h.0.made.later
  answer_later caller claimer count (Err e) h = h.0

  pub answer_claims : (caller : Knowledge) (claimer : Held) (count : ℕ) (r : Result Done RoundRefused) → Answers law jobs number caller claimer count r → (claimer_of r).table ≡ claimer.table
  answer_claims caller claimer count (Ok d) h = h.0.claims
  answer_claims caller claimer count (Err e) h = h.1

  at_ok : (caller : Knowledge) (claimer : Held) (count : ℕ) (r : Result Done RoundRefused) (d : Done) → r ≡ Ok d → Answers law jobs number caller claimer count r → Answers law jobs number caller claimer count (Ok d)
  at_ok caller claimer count r d e h = subst (λ (x : Result Done RoundRefused). Answers law jobs number caller claimer count x) e h

  pub both_answer : (c d : Knowledge) (h i : Held) (m n : ℕ) (mine theirs r : Result Done RoundRefused) → own_calls d.story ≡ [] → ((v : ℕ) → IsNoMore (known_table d.story v) (known_table c.story v)) → i.grants ≡ []
      → Answers law jobs number c h m mine → Answers law jobs number d i n theirs → IsMerged law mine theirs r → Answers law jobs number c h (m + n) r
  both_answer c d h i m n mine theirs (Ok x) none low bare p q b =
      let first = at_ok c h m mine b.0 b.2 p in
      let second = at_ok d i n theirs b.1 b.3 q in
      let k = b.5 in
      let l = b.6 in
      (goes_joined law jobs number c d h i (did b.0) (did b.1) (did x) none low bare first.0 second.0 b.4, (let o = first.1 in omega arith), (let o = first.2 in let s = second.2 in omega arith))
  both_answer c d h i m n mine theirs (Err x) none low bare p q b = (
    later_along law c (caller_of mine) x.caller (answer_later c h m mine p) (later_joined law (caller_of mine) (caller_of theirs) x.caller b.table b.follows b.own),
    b.claims ∙ answer_claims c h m mine p,
  )

  -- the same answer, of a group of no more workers that had the same tokens
  pub answer_of_more : (c c' : Knowledge) (h h' : Held) (m k : ℕ) (r : Result Done RoundRefused) → c' ≡ c → h' ≡ h → m ≤ k → Answers law jobs number c' h' m r → Answers law jobs number c h k r
  answer_of_more c c' h h' m k r same same' fit p = wider r (subst (λ (z : Knowledge × Held). Answers law jobs number z.0 z.1 m r) (λ j. (same j, same' j)) p)
    where
      wider : (x : Result Done RoundRefused) → Answers law jobs number c h m x → Answers law jobs number c h k x
      wider (Ok d) q = (q.0, q.1, let o = q.2 in omega arith)
      wider (Err e) q = q

  -- the answer of two groups whose tokens come from a split
  pub after_split : (c c' d : Knowledge) (h h' i : Held) (m n k : ℕ) (mine theirs r : Result Done RoundRefused) → c' ≡ c → h' ≡ h → d.story ≡ story_beside c.story → i.grants ≡ [] → m + n ≤ k
      → Answers law jobs number c' h' m mine → Answers law jobs number d i n theirs → IsMerged law mine theirs r → Answers law jobs number c h k r
  after_split c c' d h h' i m n k mine theirs r same same' second bare fit p q b =
      let p' = answer_of_more c c' h h' m m mine same same' (omega arith) p in
      let low : (v : ℕ) → IsNoMore (known_table d.story v) (known_table c.story v) = λ v. subst (λ (s : Story). IsNoMore (known_table s v) (known_table c.story v)) (sym second) (at_most_itself (known_table c.story v)) in
      answer_of_more c c h h (m + n) k r refl refl fit (both_answer c d h i m n mine theirs r (ap own_calls second) low bare p' q b)

-- a refusal of a caller that had looked at the table before
pub refused_after : {A : Type 0} (law : ℕ → Word → Type 0) (a b : Knowledge) (r : Result A RoundRefused) → IsLater law a b → IfErr r (λ e. IsLater law b e.caller) → IfErr r (λ e. IsLater law a e.caller)
refused_after law a b (Ok x) later is = tt
refused_after law a b (Err e) later is = later_along law a b e.caller later is

-- two groups that both ended well, brought together
pub merged_ok : (law : ℕ → Word → Type 0) (mine theirs r : Result Done RoundRefused) (m t : Done) → mine ≡ Ok m → theirs ≡ Ok t
    → IfOk r (λ d. Joined law (did m) (did t) (did d)) → IfOk r (λ d. (m.started ≤ d.started) × (d.started ≤ m.started + t.started))
    → IfErr r (λ e. AreJoined law m.caller t.caller e.caller m.claimer t.claimer e.claimer) → IsMerged law mine theirs r
merged_ok law mine theirs (Ok d) m t a b joined started refused = (m, t, a, b, joined, started.0, started.1)
merged_ok law mine theirs (Err e) m t a b joined started refused =
    subst (λ (x : Result Done RoundRefused × Result Done RoundRefused). IsMerged law x.0 x.1 (Err e)) (λ i. (sym a i, sym b i)) refused
