-- Requests that are met, and marks that become true thereby.
use Rattle.std.proofs.Common.{◌≡◌, ℕ, ◌+◌, ◌<◌, ◌≤◌, inl, inr, Bool, true, false, cond, List, [], ◌∷◌, ◌++◌, length, get_or, take, set, map, refl, sym, ap, ◌∙◌, subst, arith, true≢false}
use Rattle.std.specs.Prelude.{All, Vec}
use Rattle.std.specs.Int.{from_bool}
use Rattle.std.specs.declared.alloc.Global.{Global}
use Rattle.std.proofs.lemmas.Bool.{cond-false}
use Rattle.std.proofs.lemmas.List.{take_all, take_more_set, take-set, get_or-set_other, get_or-map, length-map}
use Rattle.std.proofs.lemmas.List.Elements.{All-same, All-nil, All-append, All-push, All-more, All-contains, Contains-get_or, Contains-append_left, Contains-append_right}
use Rattle.sp_word.specs.Word.{Word, Unreached, Pair, is_below, lesser}
use Rattle.sp_word.specs.History.{Table}
use Rattle.sp_paths.specs.declared.arc.Arc.{Arc}
use Rattle.sp_paths.specs.Paths.{Graph, IsAtMost}
use Rattle.sp_paths.specs.Rows.{row_of}
use Rattle.sp_paths.proofs.CallSteps.{lesser_of_offer}
use Rattle.sp_graph.specs.Marks.{IsRelaxedWithin, IsTrueMark}
use Rattle.sp_graph.specs.declared.marks.Mark.{Mark}
use Rattle.sp_offer.specs.Order.{IsNoMore}
use Rattle.sp_offer.specs.Story.{Story, known_table}
use Rattle.sp_offer.proofs.Orders.{at_most-refl, at_most-trans}
use Rattle.sp_team.specs.declared.relax.Request.{Request}
use Rattle.sp_team.specs.Requests.{request, Asks, AsksAll}
use Rattle.sp_team.specs.Marked.{IsMet, HasFallen, WillBeMet, RowWillBeMet, WillBeTrue, MayNote, AllTrue, AreTrue}

-- ## Words that fall

no_more_of : (w : Word) (d p : ℕ) → IsAtMost w d p → IsNoMore w (Pair d p)
no_more_of Unreached d p h = h
no_more_of (Pair e q) d p h = h

at_most_of : (w : Word) (d p : ℕ) → IsNoMore w (Pair d p) → IsAtMost w d p
at_most_of Unreached d p h = h
at_most_of (Pair e q) d p h = h

-- no word falls where nothing happens
pub fallen_itself : (t : Table) → HasFallen t t
fallen_itself t = λ v. at_most-refl (t v)

fallen_along : (r s t : Table) → HasFallen r s → HasFallen s t → HasFallen r t
fallen_along r s t p q = λ v. at_most-trans (t v) (s v) (r v) (q v) (p v)

-- the head has no greater word than what was asked for, once words have fallen
relaxed_still : (max : ℕ) (s t : Table) (d : ℕ) (a : Arc) → HasFallen s t → IsRelaxedWithin max s d a → IsRelaxedWithin max t d a
relaxed_still max s t d a fell h =
    (h.0, at_most_of (t a.head) (d + a.len) a.tail (at_most-trans (t a.head) (s a.head) (Pair (d + a.len) a.tail) (fell a.head) (no_more_of (s a.head) (d + a.len) a.tail h.1)))

still_met : {P : ℕ} (s t : Table) (r : Request P) → HasFallen s t → IsMet s r → IsMet t r
still_met s t r fell met = at_most-trans (t r.head) (s r.head) r.word (fell r.head) met

lesser_no_more : (found word : Word) → IsNoMore (lesser found word) word
lesser_no_more found Unreached = tt
lesser_no_more found (Pair d p) = no_more_of (lesser found (Pair d p)) d p (lesser_of_offer found d p)

-- an offer leaves no greater word than the one offered
pub offer_meets : {P : ℕ} (t : Table) (r : Request P) (found : Word) → t r.head ≡ lesser found r.word → IsMet t r
offer_meets t r found here = subst (λ (w : Word). IsNoMore w r.word) (sym here) (lesser_no_more found r.word)

-- a word that isn't greater needs no offer
pub found_meets : {P : ℕ} (t : Table) (r : Request P) (found : Word) → t r.head ≡ found → is_below r.word found ≡ false → IsMet t r
found_meets t r found here above = offer_meets t r found (here ∙ sym (cond-false (is_below r.word found) r.word found above))

-- requests that are met stay so
pub met_still : {P : ℕ} (s t : Table) (rs : List (Request P)) → HasFallen s t → All (IsMet s) rs → All (IsMet t) rs
met_still s t rs fell met = λ k e low. still_met s t (get_or rs k e) fell (met k e low)

-- one request more is met
pub one_met_more : {P : ℕ} (s t : Table) (rs : List (Request P)) (i : ℕ) (e : Request P) → i < length rs → HasFallen s t → All (IsMet s) (take i rs) → IsMet t (get_or rs i e)
    → All (IsMet t) (take (i + 1) rs)
one_met_more s t rs i e low fell met here = All-more (IsMet t) rs i e low (met_still s t (take i rs) fell met) here

-- all of a list, once its end is reached
pub all_reached : {X : Type 0} (P : X → Type 0) (xs : List X) (i : ℕ) → length xs ≤ i → All P (take i xs) → All P xs
all_reached P xs i end held = subst (All P) (take_all i xs end) held

-- ## Requests that wait

-- what waits will be met
pub waits : {P : ℕ} (t : Table) (rs : List (Request P)) → All (WillBeMet t rs) rs
waits t rs = λ k e low later fell met. met k e low

-- what was met will be met
pub answered : {P : ℕ} (t : Table) (rs ss : List (Request P)) → All (IsMet t) rs → All (WillBeMet t ss) rs
answered t rs ss met = λ k e low later fell rest. still_met t later (get_or rs k e) fell (met k e low)

-- where those that waited will be met by what waits now, so is what they stood for
will_along : {P : ℕ} (s t : Table) (rs ss : List (Request P)) (r : Request P) → HasFallen s t → All (WillBeMet t ss) rs → WillBeMet s rs r → WillBeMet t ss r
will_along s t rs ss r fell stand will = λ later lower met. will later (fallen_along s t later fell lower) (λ k e low. stand k e low later lower met)

pub all_along : {P : ℕ} (s t : Table) (rs ss qs : List (Request P)) → HasFallen s t → All (WillBeMet t ss) rs → All (WillBeMet s rs) qs → All (WillBeMet t ss) qs
all_along s t rs ss qs fell stand will = λ k e low. will_along s t rs ss (get_or qs k e) fell stand (will k e low)

pub row_along : {P : ℕ} (max : ℕ) (s t : Table) (rs ss : List (Request P)) (d : ℕ) (row : List Arc) → HasFallen s t → All (WillBeMet t ss) rs → RowWillBeMet max s rs d row → RowWillBeMet max t ss d row
row_along {P} max s t rs ss d row fell stand will = λ k e low. ((will k e low).0, will_along s t rs ss (request P d (get_or row k e)) fell stand (will k e low).1)

pub marks_along : {P : ℕ} (max : ℕ) (g : Graph) (s t : Table) (rs ss : List (Request P)) (marks : List Mark) → HasFallen s t → All (WillBeMet t ss) rs → All (WillBeTrue max g s rs) marks
    → All (WillBeTrue max g t ss) marks
marks_along max g s t rs ss marks fell stand will = λ k e low. let m = get_or marks k e in row_along max s t rs ss m.dist (row_of g.arcs m.vertex) fell stand (will k e low)

-- what waited before others were put behind it will be met
pub waits_before : {P : ℕ} (t : Table) (rs more ss : List (Request P)) → ss ≡ rs ++ more → All (WillBeMet t ss) rs
waits_before t rs more ss is =
    let now : All (WillBeMet t (rs ++ more)) rs = λ k e low later fell met. All-contains (IsMet later) (rs ++ more) (get_or rs k e) met
    (Contains-append_left rs more (get_or rs k e) (Contains-get_or rs k e low)) in
    subst (λ xs. All (WillBeMet t xs) rs) (sym is) now

-- so will be what was put
pub waits_behind : {P : ℕ} (t : Table) (rs more ss : List (Request P)) → ss ≡ rs ++ more → All (WillBeMet t ss) more
waits_behind t rs more ss is =
    let now : All (WillBeMet t (rs ++ more)) more = λ k e low later fell met. All-contains (IsMet later) (rs ++ more) (get_or more k e) met
    (Contains-append_right rs more (get_or more k e) (Contains-get_or more k e low)) in
    subst (λ xs. All (WillBeMet t xs) more) (sym is) now

-- ## Requests that are dropped where they are met

-- two lists are the same from a place on
abbrev pub AreSameFrom : {P : ℕ} → (i : ℕ) → (rs qs : List (Request P)) → Type 0
AreSameFrom {P} i rs qs = (k : ℕ) (e : Request P) → i ≤ k → get_or rs k e ≡ get_or qs k e

-- what comes later is the same still, after a request was moved to the front
pub rest_still : {P : ℕ} (qs rs : List (Request P)) (kept i : ℕ) (r : Request P) → kept ≤ i → AreSameFrom i rs qs → AreSameFrom (i + 1) (set rs kept r) qs
rest_still qs rs kept i r low same = λ k e behind. get_or-set_other rs kept k r e (λ (is : k ≡ kept). omega (arith, is, low, behind)) ∙ same k e (omega (arith, behind))

-- the request at a place will be met, whether it is kept or met already
pub one_place_more : {P : ℕ} (s t : Table) (qs rs : List (Request P)) (kept i one : ℕ) (r : Request P) (is_kept : Bool) → i < length qs → i < length rs → kept ≤ i
    → r ≡ get_or rs i r → one ≡ from_bool is_kept → AreSameFrom i rs qs → HasFallen s t → (is_kept ≡ false → IsMet t r)
    → All (WillBeMet s (take kept rs)) (take i qs) → All (WillBeMet t (take (kept + one) (set rs kept r))) (take (i + 1) qs)
one_place_more s t qs rs kept i one r true first second low at is_one same fell met will =
    let waiting = take (kept + 1) (set rs kept r) in
    let is : waiting ≡ take kept rs ++ r ∷ [] = take_more_set rs kept r (omega (arith, low, second)) in
    let stand = waits_before t (take kept rs) (r ∷ []) waiting is in
    let here : WillBeMet t waiting r = waits_behind t (take kept rs) (r ∷ []) waiting is 0 r (omega arith) in
    let more : All (WillBeMet t waiting) (take (i + 1) qs) = All-more (WillBeMet t waiting) qs i r first (all_along s t (take kept rs) waiting (take i qs) fell stand will)
    (subst (WillBeMet t waiting) (at ∙ same i r (omega arith)) here) in
    subst (λ n. All (WillBeMet t (take (kept + n) (set rs kept r))) (take (i + 1) qs)) (sym is_one) more
one_place_more s t qs rs kept i one r false first second low at is_one same fell met will =
    let waiting = take kept rs in
    let here : WillBeMet t waiting r = λ later lower rest. still_met t later r lower (met refl) in
    let more : All (WillBeMet t waiting) (take (i + 1) qs) = All-more (WillBeMet t waiting) qs i r first (all_along s t waiting waiting (take i qs) fell (waits t waiting) will)
    (subst (WillBeMet t waiting) (at ∙ same i r (omega arith)) here) in
    let none : kept + one ≡ kept = omega (arith, is_one) in
    let is : take (kept + one) (set rs kept r) ≡ waiting = ap (λ n. take n (set rs kept r)) none ∙ take-set rs kept r in
    subst (λ xs. All (WillBeMet t xs) (take (i + 1) qs)) (sym is) more

-- those that were dropped are met once those that are left are
pub dropped_met : {P : ℕ} (s t : Table) (rs qs : List (Request P)) → HasFallen s t → All (IsMet t) rs → All (WillBeMet s rs) qs → All (IsMet t) qs
dropped_met s t rs qs fell met will = λ k e low. will k e low t fell met

-- ## A row that is asked for

-- the requests for a row that was asked for at once wait
pub row_waits : {P : ℕ} (max : ℕ) (t : Table) (row : List Arc) (d : ℕ) (rs ss : List (Request P)) → AsksAll P max row d rs ss → RowWillBeMet max t ss d row
row_waits {P} max t row d rs ss asks = λ k e low.
    let f : Arc → Request P = request P d in
    let all = waits_behind t rs (map f row) ss asks.1 in
    (asks.0 k e low, subst (WillBeMet t ss) (get_or-map f row k e (f e) low) (all k (f e) (subst (λ n. k < n) (sym (length-map row f)) low)))

-- what waited before an arc was asked for will be met
pub waited_before : {P : ℕ} (max : ℕ) (t : Table) (a : Arc) (d : ℕ) (fits : Bool) (rs ss : List (Request P)) → Asks P max a d fits rs ss → All (WillBeMet t ss) rs
waited_before {P} max t a d true rs ss asks = waits_before t rs (request P d a ∷ []) ss asks.1
waited_before max t a d false rs ss asks = subst (λ xs. All (WillBeMet t xs) rs) (sym asks.1) (waits t rs)

-- so will be what the arc asks, if it fits
waits_too : {P : ℕ} (max : ℕ) (t : Table) (a : Arc) (d : ℕ) (rs ss : List (Request P)) → Asks P max a d true rs ss → (d + a.len ≤ max) × WillBeMet t ss (request P d a)
waits_too {P} max t a d rs ss asks = let r : Request P = request P d a in (asks.0, waits_behind t rs (r ∷ []) ss asks.1 0 r (omega arith))

-- one arc more was asked for
pub one_arc_more : {P : ℕ} (max : ℕ) (t : Table) (d : ℕ) (row : List Arc) (i : ℕ) (e : Arc) (fits whole : Bool) (rs ss : List (Request P)) → i < length row
    → Asks P max (get_or row i e) d fits rs ss → (whole ≡ true → RowWillBeMet max t rs d (take i row)) → (whole ≡ true) × (fits ≡ true) → RowWillBeMet max t ss d (take (i + 1) row)
one_arc_more {P} max t d row i e true whole rs ss low asks will both =
    All-more (λ a. (d + a.len ≤ max) × WillBeMet t ss (request P d a)) row i e low
    (row_along max t t rs ss d (take i row) (fallen_itself t) (waited_before max t (get_or row i e) d true rs ss asks) (will both.0))
    (waits_too max t (get_or row i e) d rs ss asks)
one_arc_more max t d row i e false whole rs ss low asks will both = absurd (true≢false (sym both.1))

-- ## Marks

-- a mark that was put has what each of them has
pub noted : (P : Mark → Type 0) (v d : ℕ) (before after : List Mark) → MayNote v d before after → All P before → P (record { vertex = v; dist = d }) → All P after
noted P v d before after (inl more) held here = subst (All P) (sym more) (All-push P before (record { vertex = v; dist = d }) held here)
noted P v d before after (inr same) held here = subst (All P) (sym same) held

-- the mark of a row that was asked for
pub mark_of_row : {P : ℕ} (max : ℕ) (g : Graph) (t : Table) (rs : List (Request P)) (v d : ℕ) (row : List Arc) → row ≡ row_of g.arcs v → RowWillBeMet max t rs d row
    → WillBeTrue max g t rs (record { vertex = v; dist = d })
mark_of_row max g t rs v d row is will = subst (RowWillBeMet max t rs d) is will

-- marks that are true stay so
pub marks_still : (max : ℕ) (g : Graph) (s t : Table) (marks : List Mark) → HasFallen s t → All (IsTrueMark max g s) marks → All (IsTrueMark max g t) marks
marks_still max g s t marks fell held = λ k e low i a in'. let m = get_or marks k e in relaxed_still max s t m.dist (get_or (row_of g.arcs m.vertex) i a) fell (held k e low i a in')

-- and so they will be, whatever waits
pub true_will_be : {P : ℕ} (max : ℕ) (g : Graph) (t : Table) (rs : List (Request P)) (marks : List Mark) → All (IsTrueMark max g t) marks → All (WillBeTrue max g t rs) marks
true_will_be max g t rs marks held = λ k e low i a in'. let m = get_or marks k e in let arc = get_or (row_of g.arcs m.vertex) i a in let relaxed = held k e low i a in' in
    (relaxed.0, λ later fell met. let still = relaxed_still max t later m.dist arc fell relaxed in no_more_of (later arc.head) (m.dist + arc.len) arc.tail still.1)

-- marks are true once what waits is met
pub will_be_true : {P : ℕ} (max : ℕ) (g : Graph) (s t : Table) (rs : List (Request P)) (marks : List Mark) → HasFallen s t → All (IsMet t) rs → All (WillBeTrue max g s rs) marks
    → All (IsTrueMark max g t) marks
will_be_true max g s t rs marks fell met will = λ k e low i a in'. let m = get_or marks k e in let arc = get_or (row_of g.arcs m.vertex) i a in let asked = will k e low i a in' in
    (asked.0, at_most_of (t arc.head) (m.dist + arc.len) arc.tail (asked.1 t fell met))

-- ## Lists of marks

pub lists_still : (max : ℕ) (g : Graph) (s t : Story) (lists : List (Vec Mark Global)) → HasFallen (known_table s) (known_table t) → AreTrue max g s lists → AreTrue max g t lists
lists_still max g s t lists fell held = λ k e low. let list = get_or lists k e in marks_still max g (known_table s) (known_table t) list.items fell (held k e low)

-- the lists of two squads, or of the first alone
pub lists_joined : (max : ℕ) (g : Graph) (r s t : Story) (both : Bool) (xs ys zs : List (Vec Mark Global)) → HasFallen (known_table r) (known_table t)
    → HasFallen (known_table s) (known_table t) → zs ≡ cond both (xs ++ ys) xs → AreTrue max g r xs → AreTrue max g s ys → AreTrue max g t zs
lists_joined max g r s t true xs ys zs first second is mine theirs =
    let P : Vec Mark Global → Type 0 = λ list. AllTrue max g t list.items in
    subst (All P) (sym is) (All-append P xs ys (lists_still max g r t xs first mine) (lists_still max g s t ys second theirs))
lists_joined max g r s t false xs ys zs first second is mine theirs = subst (AreTrue max g t) (sym is) (lists_still max g r t xs first mine)

-- a list that has the marks of one worker alone
pub one_list : (max : ℕ) (g : Graph) (t : Story) (marks : Vec Mark Global) (lists : List (Vec Mark Global)) → All (λ list. list ≡ marks) lists → AllTrue max g t marks.items
    → AreTrue max g t lists
one_list max g t marks lists same held = λ k e low. subst (λ (list : Vec Mark Global). AllTrue max g t list.items) (sym (same k e low)) held

-- nothing is said by an empty list
pub no_marks : (max : ℕ) (g : Graph) (s : Story) (marks : List Mark) → marks ≡ [] → AllTrue max g s marks
no_marks max g s marks none = let P = IsTrueMark max g (known_table s) in All-same P marks [] none (All-nil P)

pub no_lists : (max : ℕ) (g : Graph) (s : Story) (lists : List (Vec Mark Global)) → lists ≡ [] → AreTrue max g s lists
no_lists max g s lists none = let P : Vec Mark Global → Type 0 = λ list. AllTrue max g s list.items in All-same P lists [] none (All-nil P)
