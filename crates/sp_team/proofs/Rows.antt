-- What the arcs of a row may offer.
use Rattle.std.proofs.Common.{◌≡◌, ℕ, zero, suc, ◌+◌, ◌-◌, ◌<◌, ◌≤◌, ◌∙◌, Bool, true, false, List, [], ◌∷◌, min, length, get_or, take, set, map, refl, sym, ap, subst, arith}
use Rattle.std.specs.Prelude.{All, Contains}
use Rattle.std.specs.Int.{from_bool}
use Rattle.std.proofs.lemmas.List.{take_more_set, take-set}
use Rattle.std.proofs.lemmas.List.Elements.{Contains-get_or, All-append, All-cons, All-contains, All-head, All-map, All-nil, All-push}
use Rattle.sp_word.specs.Word.{Word, Pair, max_pred}
use Rattle.sp_paths.specs.declared.arc.Arc.{Arc}
use Rattle.sp_paths.specs.Paths.{Graph, IsArc, IsGraph}
use Rattle.sp_paths.specs.Rows.{row_of}
use Rattle.sp_paths.proofs.RowSteps.{in_row}
use Rattle.sp_graph.specs.declared.place.Few.{Few}
use Rattle.sp_graph.specs.Placed.{arc_at, arcs_in, before}
use Rattle.sp_team.specs.declared.relax.Request.{Request}
use Rattle.sp_team.specs.Law.{AllowsArcs, AllowsSum}
use Rattle.sp_offer.specs.Order.{lawful}
use Rattle.sp_team.specs.Requests.{IsRequest, request, HasTail, HaveTails, Asks, AsksAll}

-- the arcs of a row may offer what they make of a word that its vertex may have
pub row_allowed : (law : ℕ → Word → Type 0) (max : ℕ) (g : Graph) (v d p : ℕ) (row : List Arc) → AllowsArcs law max g → law v (Pair d p) → row ≡ row_of g.arcs v
    → All (λ a. d + a.len ≤ max → law a.head (Pair (d + a.len) a.tail)) row
row_allowed law max g v d p row allows here is k e low fits =
    let a = get_or row k e in
    let in' = in_row g.arcs v a (subst (λ xs. Contains xs a) is (Contains-get_or row k e low)) in
    allows a.tail a.head a.len d p in'.0 (subst (λ u. law u (Pair d p)) (sym in'.1) here) fits

-- the arcs of a row are arcs of the graph
pub row_arcs : (g : Graph) (v : ℕ) → IsGraph g → All (IsArc g.n) (row_of g.arcs v)
row_arcs g v held = λ k e low. let a = get_or (row_of g.arcs v) k e in All-contains (IsArc g.n) g.arcs a held (in_row g.arcs v a (Contains-get_or (row_of g.arcs v) k e low)).0

-- nor has it a tail that isn't one of a word
pub rows_tails : (P max d : ℕ) (allows : ℕ → Word → Type 0) (row : List Arc) → All (AllowsSum (lawful P allows) max d) row → All (HasTail P max d) row
rows_tails P max d allows row allowed = λ k e low fits. let a = get_or row k e in let held = allowed k e low fits in held.1.1

-- an arc that may offer the sum asks for nothing else
pub asked : (P : ℕ) (law : ℕ → Word → Type 0) (max n : ℕ) (a : Arc) (d : ℕ) (fits : Bool) (rs ss : List (Request P)) → IsArc n a → AllowsSum law max d a → All (IsRequest law n) rs
    → Asks P max a d fits rs ss → All (IsRequest law n) ss
asked P law max n a d false rs ss arc allowed held asks = subst (All (IsRequest law n)) (sym asks.1) held
asked P law max n a d true rs ss arc allowed held asks =
    let r : Request P = request P d a in
    let here : IsRequest law n r = record { head = arc.1; allowed = allowed asks.0 } in
    subst (All (IsRequest law n)) (sym asks.1) (All-push (IsRequest law n) rs r held here)

-- nor do the arcs of a row
pub row_asked : (P : ℕ) (law : ℕ → Word → Type 0) (max n : ℕ) (row : List Arc) (d : ℕ) (rs ss : List (Request P)) → All (IsArc n) row → All (AllowsSum law max d) row
    → All (IsRequest law n) rs → AsksAll P max row d rs ss → All (IsRequest law n) ss
row_asked P law max n row d rs ss arcs allowed held asks =
    let f : Arc → Request P = request P d in
    let each : All (λ a. IsRequest law n (f a)) row = λ k e low. record { head = (arcs k e low).1; allowed = allowed k e low (asks.0 k e low) } in
    subst (All (IsRequest law n)) (sym asks.1) (All-append (IsRequest law n) rs (map f row) held (All-map (IsRequest law n) f row each))

-- a request that stands in a list
pub request_at : (P : ℕ) (law : ℕ → Word → Type 0) (n : ℕ) (rs : List (Request P)) (i : ℕ) (r : Request P) → i < length rs → r ≡ get_or rs i r → All (IsRequest law n) rs → IsRequest law n r
request_at P law n rs i r low at held = subst (IsRequest law n) (sym at) (held i r low)

-- no more are kept than were looked at
pub kept_within : (kept i one : ℕ) (is_kept : Bool) → kept ≤ i → one ≡ from_bool is_kept → kept + one ≤ i + 1
kept_within kept i one true low is = omega (arith, low, is)
kept_within kept i one false low is = omega (arith, low, is)

-- what holds of all that were kept holds with one more, which is kept where it holds of that one
pub one_kept_more : {X : Type 0} (P : X → Type 0) (xs : List X) (kept one : ℕ) (x : X) (is_kept : Bool) → kept < length xs → one ≡ from_bool is_kept → (is_kept ≡ true → P x)
    → All P (take kept xs) → All P (take (kept + one) (set xs kept x))
one_kept_more P xs kept one x true low is here held =
    let more : All P (take (kept + 1) (set xs kept x)) = subst (All P) (sym (take_more_set xs kept x low)) (All-push P (take kept xs) x held (here refl)) in
    subst (λ n. All P (take (kept + n) (set xs kept x))) (sym is) more
one_kept_more P xs kept one x false low is here held =
    let none : kept + one ≡ kept = omega (arith, is) in
    subst (All P) (sym (ap (λ n. take n (set xs kept x)) none ∙ take-set xs kept x)) held

-- ## Four arcs

cons_both : {Y : Type 0} {a b : Y} {xs ys : List Y} → a ≡ b → xs ≡ ys → a ∷ xs ≡ b ∷ ys
cons_both {Y} {a} {b} {xs} {ys} p q = ap (λ y. y ∷ xs) p ∙ ap (λ zs. b ∷ zs) q

-- what holds of each of four holds of all
all_four : {X : Type 0} (P : X → Type 0) (a b c d : X) → P a → P b → P c → P d → All P (a ∷ b ∷ c ∷ d ∷ [])
all_four P a b c d at_a at_b at_c at_d = All-cons P a (b ∷ c ∷ d ∷ []) at_a (All-cons P b (c ∷ d ∷ []) at_b (All-cons P c (d ∷ []) at_c (All-cons P d [] at_d (All-nil P))))

-- ## A row of at most four arcs

-- as many of four as there are arcs
pub firsts : {X : Type 0} (row : List X) (e : X) (second third last : ℕ) → 1 ≤ length row → last ≡ length row - 1 → last < 4 → second ≡ min last 1 → third ≡ min last 2
    → take (length row) (get_or row 0 e ∷ get_or row second e ∷ get_or row third e ∷ get_or row last e ∷ []) ≡ row
firsts [] e second third last some is few two three = absurd (omega (arith, some))
firsts (x ∷ []) e second third last some is few two three = refl
firsts (x ∷ y ∷ []) e second third last some is few two three =
    let here : second ≡ 1 = omega (arith, is, two) in
    cons_both refl (cons_both (ap (λ i. get_or (x ∷ y ∷ []) i e) here) refl)
firsts (x ∷ y ∷ z ∷ []) e second third last some is few two three =
    let here : second ≡ 1 = omega (arith, is, two) in
    let there : third ≡ 2 = omega (arith, is, three) in
    let row = x ∷ y ∷ z ∷ [] in
    cons_both refl (cons_both (ap (λ i. get_or row i e) here) (cons_both (ap (λ i. get_or row i e) there) refl))
firsts (x ∷ y ∷ z ∷ w ∷ []) e second third last some is few two three =
    let here : second ≡ 1 = omega (arith, is, two) in
    let there : third ≡ 2 = omega (arith, is, three) in
    let end : last ≡ 3 = omega (arith, is) in
    let row = x ∷ y ∷ z ∷ w ∷ [] in
    cons_both refl (cons_both (ap (λ i. get_or row i e) here) (cons_both (ap (λ i. get_or row i e) there) (cons_both (ap (λ i. get_or row i e) end) refl)))
firsts (x ∷ y ∷ z ∷ w ∷ v ∷ more) e second third last some is few two three = absurd (omega (arith, is, few))

-- ## The arcs in places

-- what holds of all holds of the first one
first_before : (P : Arc → Type 0) (t h l : ℕ) (rest : List Arc) → 1 ≤ l → All P (before t h l rest) → P (record { tail = t; head = h; len = l })
first_before P t h zero rest some held = absurd (omega (arith, some))
first_before P t h (suc l) rest some held = All-head P (record { tail = t; head = h; len = suc l }) rest held

-- all four have the tail of the first one, which is one of a word
pub tails_placed : (P max dist t : ℕ) (few : Few) (a b c d : Arc) → a ≡ arc_at t few.first → b ≡ arc_at t few.second → c ≡ arc_at t few.third → d ≡ arc_at t few.fourth → 1 ≤ few.first.len
    → All (HasTail P max dist) (arcs_in t few) → HaveTails P max dist (a ∷ b ∷ c ∷ d ∷ [])
tails_placed P max dist t few a b c d at_a at_b at_c at_d some held = λ fits.
    let sum : dist + few.first.len ≤ max = subst (λ (x : Arc). dist + x.len ≤ max) at_a (fits 0 a (omega arith)) in
    let here : t ≤ max_pred P = first_before (HasTail P max dist) t few.first.head few.first.len _ some held sum in
    let Fits : Arc → Type 0 = λ x. x.tail ≤ max_pred P in
    all_four Fits a b c d (subst Fits (sym at_a) here) (subst Fits (sym at_b) here) (subst Fits (sym at_c) here) (subst Fits (sym at_d) here)
