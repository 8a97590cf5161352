-- What the leader runs itself, and the whole round.
use Rattle.std.proofs.Common.{subst, ◌≡◌, ℕ, zero, suc, ◌+◌, ◌*◌, ◌≤◌, List, [], ◌∷◌, ◌++◌, length, map, get_or, refl, sym, ap, ◌∙◌, arith, add-one, eq-eqb, ne_eqb, Bool, true, false}
use Rattle.std.proofs.lemmas.List.Sums.{sum_by-cons, get_or-le-sum_by}
use Rattle.std.proofs.lemmas.List.Elements.{All-weaker}
use Rattle.std.specs.Prelude.{sum_by, filter, flat_map, nat_le, if◌then◌else◌, All, slice_index_or}
use mathlib.Core.Logic.{dite}
use native.Mathlib.Decide.{ℕ_discrete}
use Rattle.std.proofs.lemmas.Bool.Decides.{nat_tests}
use Rattle.sp_word.specs.Word.{Word, Pair, is_below}
use Rattle.sp_word.specs.History.{Event}
use Rattle.sp_paths.specs.declared.arc.Arc.{Arc}
use Rattle.sp_paths.specs.Rows.{IsArcRelaxed}
use Rattle.sp_graph.specs.RowsValue.{Split}
use Rattle.sp_offer.specs.Story.{Story, Knowledge, known_table, own_calls}
use Rattle.sp_bins.specs.declared.entry.Entry.{Entry}
use Rattle.sp_rounds.specs.Held.{Held}
use Rattle.sp_rounds.specs.declared.grants.Grant.{Grant}
use Rattle.sp_rounds.specs.Grants.{times, EachOnce}
use Rattle.sp_rounds.specs.declared.task.Task.{Task}
use Rattle.sp_rounds.specs.Offers.{AskedOffer, arcs_of, offer_along, offers_along, offers_of, AreSameOffers}
use Rattle.sp_rounds.specs.Calls.{question_of, IsNearer, AllKnown}
use Rattle.sp_rounds.specs.Work.{TaskOffers, job_of, jobs_of, offers_at, slot_at, grant_at, calls_weight, Did, at_start, MadeCalls, MadeOffers, Goes, AllBelow}
use Rattle.sp_rounds.specs.Left.{tally, upto, unmarked_value, IsMarked, RanLeft, IsTaskDone, RoundDone}
use Rattle.sp_rounds.proofs.Words.{not_above, at_most, within_pair}
use Rattle.sp_rounds.specs.Later.{IsLater}
use Rattle.sp_rounds.proofs.CallsInRow.{made_more, made_none, nearer_along, later_along}
use Rattle.sp_rounds.proofs.WorkerSteps.{calls_weight-append, length-map}
use Rattle.sp_rounds.proofs.Sums.{sum-tally, in_or_left, all_left, weight-upto, sum_by-map, sum_by-flat_map}

module _ (law : ℕ → Word → Type 0) (jobs : List TaskOffers) (marks : List Bool) where
  pub left_none : (a : Knowledge) (f : List Entry) → RanLeft law jobs marks 0 a a f f
  left_none a f = ([], made_none law a f, λ h. refl)

  -- one more job that had no mark
  pub left_more : (i : ℕ) (a b c : Knowledge) (f g h : List Entry) → slice_index_or marks i false ≡ false → RanLeft law jobs marks i a b f g → MadeOffers law (offers_at jobs i) b c g h
      → RanLeft law jobs marks (i + 1) a c f h
  left_more i a b c f g h none p q = (
    p.0 ++ q.0,
    made_more law p.0 q.0 a b c f g h p.1 q.2,
    (λ w.
        let x = p.2 w in
        let s = calls_weight-append w p.0 q.0 in
        let z = ap (sum_by w) q.1 in
        let all : unmarked_value marks (λ k. sum_by w (offers_at jobs k)) i ≡ sum_by w (offers_at jobs i) = ap (λ (b : Bool). if b then 0 else sum_by w (offers_at jobs i)) none in
        rw add-one (omega arith)),
  )

  -- a job that had one
  pub left_same : (i : ℕ) (a b : Knowledge) (f g : List Entry) → slice_index_or marks i false ≡ true → RanLeft law jobs marks i a b f g → RanLeft law jobs marks (i + 1) a b f g
  left_same i a b f g some p = (
    p.0,
    p.1,
    (λ w.
        let x = p.2 w in
        let none : unmarked_value marks (λ k. sum_by w (offers_at jobs k)) i ≡ 0 = ap (λ (b : Bool). if b then 0 else sum_by w (offers_at jobs i)) some in
        rw add-one (omega arith)),
  )

-- a number stands among the receipts no more often than its grant among theirs
tally-times : (jobs : List TaskOffers) (number k : ℕ) (rs : List ℕ) → tally k rs ≤ times (slot_at jobs k) number (map (grant_at jobs number) rs)
tally-times jobs number k [] = omega arith
tally-times jobs number k (r ∷ rs) =
    let more = tally-times jobs number k rs in
    dite (ℕ_discrete r k)
    (λ e. let s = eq-eqb (slot_at jobs r) (slot_at jobs k) (ap (slot_at jobs) e) in let n = eq-eqb number number refl in rw (eq-eqb r k e, s, n) (omega arith))
    (λ ne. rw (ne_eqb r k ne) (omega arith))

-- each grant is given once, so no number stands twice among the receipts
pub once : (law : ℕ → Word → Type 0) (jobs : List TaskOffers) (number : ℕ) (a b : Did) (rs : List ℕ) (grants : List Grant) → rs ≡ b.receipts → Goes law jobs number a b → a.receipts ≡ [] → grants ≡ b.claimer.grants → EachOnce grants
    → (k : ℕ) → tally k rs ≤ 1
once law jobs number a b rs grants is p none same each k =
    let e = ap (tally k) (is ∙ (p.receipts ∙ ap (λ l. l ++ p.more) none)) in
    let x = tally-times jobs number k p.more in
    let y = p.granted (slot_at jobs k) number in
    let z = each (slot_at jobs k) number in
    let w = ap (times (slot_at jobs k) number) same in
    omega arith

-- the receipts are numbers of jobs
pub below : (law : ℕ → Word → Type 0) (jobs : List TaskOffers) (number n : ℕ) (a b : Did) (rs : List ℕ) → length jobs ≡ n → rs ≡ b.receipts → a.receipts ≡ [] → Goes law jobs number a b → AllBelow n rs
below law jobs number n a b rs len same none p =
    subst (λ m. AllBelow m rs) len (subst (AllBelow (length jobs)) (sym (same ∙ (p.receipts ∙ ap (λ l. l ++ p.more) none))) p.inside)

-- ## What is known

-- an offer above what the caller knows weighs 1
abbrev one_if : Bool → ℕ
one_if b = if b then 1 else 0

abbrev above : Story → AskedOffer → ℕ
above s o = one_if (is_below o.word (known_table s o.vertex))

none_above : (s : Story) (calls : List Event) → AllKnown s calls → calls_weight (above s) calls ≡ 0
none_above s [] h = refl
none_above s (c ∷ cs) h =
    let e = sum_by-cons (above s) (question_of c) (map question_of cs) in
    let more = none_above s cs h.1 in
    let here : above s (question_of c) ≡ 0 = ap one_if (not_above (known_table s c.vertex) (question_of c).word h.0) in
    omega arith

at_zero : (b : Bool) → one_if b ≡ 0 → b ≡ false
at_zero true e = absurd (omega (arith, e))
at_zero false e = refl

-- where the kept elements weigh nothing, each element that passes weighs nothing
each_zero : (h : Arc → ℕ) (p : Arc → Bool) (xs : List Arc) → sum_by h (filter p xs) ≡ 0 → All (λ a. p a ≡ true → h a ≡ 0) xs
each_zero h p [] e = λ k d low. absurd (omega arith)
each_zero h p (x ∷ xs) e = go (p x) refl (λ f. each_zero h p xs f) e
  where
    go : (b : Bool) → p x ≡ b → (sum_by h (filter p xs) ≡ 0 → All (λ a. p a ≡ true → h a ≡ 0) xs) → sum_by h (if b then (x ∷ filter p xs) else (filter p xs)) ≡ 0 → All (λ a. p a ≡ true → h a ≡ 0) (x ∷ xs)
    go true is rest e zero d low = λ passes. let c = sum_by-cons h x (filter p xs) in omega arith
    go true is rest e (suc k) d low = let c = sum_by-cons h x (filter p xs) in let f : sum_by h (filter p xs) ≡ 0 = omega arith in rest f k d (omega arith)
    go false is rest e zero d low = λ passes. absurd (cc)
    go false is rest e (suc k) d low = rest e k d (omega arith)

is_within : (x max : ℕ) → x ≤ max → nat_le x max ≡ true
is_within x max h = grind (arith, nat_tests, h)

arc_known : (s : Story) (max d : ℕ) (a : Arc) → (nat_le (d + a.len) max ≡ true → above s (offer_along d a) ≡ 0) → IsArcRelaxed max (known_table s) d a
arc_known s max d a h fits =
    within_pair (known_table s a.head) (d + a.len) a.tail
    (at_most (known_table s a.head) (Pair (d + a.len) a.tail) (at_zero (is_below (Pair (d + a.len) a.tail) (known_table s a.head)) (h (is_within (d + a.len) max fits))))

arcs_known : (s : Story) (max d : ℕ) (arcs : List Arc) → sum_by (above s) (offers_along max d arcs) ≡ 0 → All (IsArcRelaxed max (known_table s) d) arcs
arcs_known s max d arcs e k x low =
    let f : sum_by (λ (a : Arc). above s (offer_along d a)) (filter (λ (a : Arc). nat_le (d + a.len) max) arcs) ≡ 0 =
    sym (sum_by-map (above s) (offer_along d) (filter (λ (a : Arc). nat_le (d + a.len) max) arcs)) ∙ e in
    arc_known s max d (get_or arcs k x) (each_zero (λ (a : Arc). above s (offer_along d a)) (λ (a : Arc). nat_le (d + a.len) max) arcs f k x low)

tasks_known : (after : Knowledge) (max : ℕ) (rows : Split) (tasks : List Task) → sum_by (above after.story) (flat_map (offers_of max rows) tasks) ≡ 0 → All (IsTaskDone max rows after) tasks
tasks_known after max rows tasks e k t low =
    let task = get_or tasks k t in
    let f = sum_by-flat_map (above after.story) (offers_of max rows) tasks in
    let x = get_or-le-sum_by (λ (y : Task). sum_by (above after.story) (offers_of max rows y)) tasks k t low in
    let z : sum_by (above after.story) (offers_of max rows task) ≡ 0 = omega arith in
    arcs_known after.story max task.dist (arcs_of rows task) z

-- ## Rounds

module _ (law : ℕ → Word → Type 0) (max : ℕ) (rows : Split) (tasks : List Task) where
  all_weight : (w : AskedOffer → ℕ) → upto (λ k. sum_by w (offers_at (jobs_of max rows tasks) k)) (length tasks) ≡ sum_by w (flat_map (offers_of max rows) tasks)
  all_weight w =
      ap (upto (λ k. sum_by w (offers_at (jobs_of max rows tasks) k))) (sym (length-map (job_of max rows) tasks))
      ∙ (weight-upto w (jobs_of max rows tasks)
      ∙ (sum_by-map (λ (j : TaskOffers). sum_by w j.offers) (job_of max rows) tasks ∙ sym (sum_by-flat_map w (offers_of max rows) tasks)))

  done_by : (calls : List Event) (c d : Knowledge) (f : List Entry) → MadeCalls law calls c d [] f → AreSameOffers (map question_of calls) (flat_map (offers_of max rows) tasks) → RoundDone law max rows tasks c d f
  done_by calls c d f made each = record {
    later = made.later;
    calls = calls;
    own = made.mine;
    each = each;
    shorter = made.found;
    nearer = subst (All (IsNearer (known_table c.story))) (sym made.found) made.nearer;
    relaxed = tasks_known d max rows tasks (sym (each (above d.story)) ∙ none_above d.story calls made.knows);
  }

  -- a round of a caller that had looked at the table before, and made no calls since
  pub done_after : (a b d : Knowledge) (f : List Entry) → IsLater law a b → own_calls b.story ≡ own_calls a.story → RoundDone law max rows tasks b d f → RoundDone law max rows tasks a d f
  done_after a b d f later same r = record {
    later = later_along law a b d later r.later;
    calls = r.calls;
    own = r.own ∙ ap (λ l. l ++ r.calls) same;
    each = r.each;
    shorter = r.shorter;
    nearer = All-weaker (IsNearer (known_table b.story)) (IsNearer (known_table a.story)) (λ e near. nearer_along (known_table b.story) (known_table a.story) e (later.falls e.vertex) near) f r.nearer;
    relaxed = r.relaxed;
  }

  -- the leader ran all tasks
  pub alone_done : (c d : Knowledge) (f : List Entry) → RanLeft law (jobs_of max rows tasks) [] (length tasks) c d [] f → RoundDone law max rows tasks c d f
  alone_done c d f q =
      done_by q.0 c d f q.1 (λ w. q.2 w ∙ (all_left (λ k. sum_by w (offers_at (jobs_of max rows tasks) k)) (length tasks) ∙ all_weight w))

  -- the workers ran some tasks, and the leader those that had no receipt
  pub round_done : (number : ℕ) (c d : Knowledge) (h : Held) (a : Did) (rs : List ℕ) (marks : List Bool) (f : List Entry) → rs ≡ a.receipts → ((k : ℕ) → tally k rs ≤ 1) → IsMarked (length tasks) rs marks
      → Goes law (jobs_of max rows tasks) number (at_start c h) a → RanLeft law (jobs_of max rows tasks) marks (length tasks) a.caller d a.found f → RoundDone law max rows tasks c d f
  round_done number c d h a rs marks f same one marked p q =
      done_by (p.calls ++ q.0) c d f (made_more law p.calls q.0 c a.caller d [] a.found f p.made q.1)
      (λ w.
      let g : ℕ → ℕ = λ k. sum_by w (offers_at (jobs_of max rows tasks) k) in
      let s = calls_weight-append w p.calls q.0 in
      let x = p.each w in
      let y = q.2 w in
      let t = sum-tally g (length (jobs_of max rows tasks)) p.more p.inside in
      let l = length-map (job_of max rows) tasks in
      let u : upto (λ k. tally k p.more * g k) (length (jobs_of max rows tasks)) ≡ upto (λ k. tally k rs * g k) (length tasks) =
      ap (upto (λ k. tally k p.more * g k)) l ∙ ap (λ (m : List ℕ). upto (λ k. tally k m * g k) (length tasks)) (sym p.receipts ∙ sym same) in
      let all = in_or_left g (length tasks) rs marks one marked in
      let whole = all_weight w in
      omega arith)
