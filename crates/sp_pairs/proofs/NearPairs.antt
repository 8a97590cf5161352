-- Pairs of a turned graph, found in the graph itself.
use Rattle.std.proofs.Common.{◌≡◌, ℕ, ◌+◌, ◌-◌, ◌<◌, ◌≤◌, ◌⊎◌, inl, inr, List, [], ◌∷◌, ◌++◌, length, take, get_or, Option, Some, None, refl, sym, ap, subst, ◌∙◌, arith}
use Rattle.std.specs.Prelude.{All, IfSome, Contains, slice_get, reverse}
use Rattle.std.proofs.lemmas.Bool.{cases_lt}
use Rattle.std.proofs.lemmas.List.{take_all}
use Rattle.std.proofs.lemmas.List.Elements.{All-more, All-weaker, All-contains}
use Rattle.sp_paths.specs.declared.arc.Arc.{Arc}
use Rattle.sp_paths.specs.Paths.{Graph, HasArc, IsLeast, IsPredecessor, IsTreePair}
use Rattle.sp_paths.specs.Rows.{row_of}
use Rattle.sp_paths.proofs.Only.{tree_pair_least}
use Rattle.sp_paths.proofs.RowSteps.{in_row, rows_hold_arcs}
use Rattle.sp_paths.proofs.Walks.{walk_none, least_same}
use Rattle.sp_paths.proofs.Backwards.{reverse_push}
use Rattle.sp_paths.specs.Routes.{IsBefore, GoesOn, IsRoute}
use Rattle.sp_network.specs.Turned.{IsTurned}
use Rattle.sp_network.proofs.TurnedArcs.{turned_back}
use Rattle.sp_network.proofs.TurnedWalks.{turned_has, turned_least}
use Rattle.sp_answer.specs.declared.pair.PairAnswer.{PairAnswer as Told}
use Rattle.sp_answer.specs.declared.pair.PairAnswer.TheVariants.{Found}
use Rattle.sp_answer.specs.Run.{IsAnswerFor, AreAnswersFor}
use Rattle.sp_answer.specs.Routed.{IsRouteAnswer, Found as FoundRoute}
use Rattle.sp_pairs.specs.declared.told.RouteEnd.{RouteEnd}
use Rattle.sp_pairs.specs.Near.{IsFirstArc, IsNext, ComesNoLater, IsEndOfRoute, IsTurnedEnd}

-- ## What a search tells

found_least : (g : Graph) (s t max p d : ℕ) → IsAnswerFor g s t max (Found p d) → IsLeast g s t d × (d ≤ max)
found_least g s t max p d (near, word) =
    let least = tree_pair_least g s t d p word in
    (least, subst (λ (x : ℕ). x ≤ max) (least_same g s t near.0 d near.1 least) near.2)

-- The answer for the only target, where it is found, is the least length, and within the limit.
pub first_found : (g : Graph) (s t max : ℕ) (answers : List Told) (p d : ℕ) → AreAnswersFor g s max (t ∷ []) answers → Some (Found p d) ≡ slice_get answers 0 → IsLeast g s t d × (d ≤ max)
first_found g s t max [] p d are is = absurd are
first_found g s t max (a ∷ more) p d are is =
    let same : a ≡ Found p d = cc in
    found_least g s t max p d (subst (IsAnswerFor g s t max) same are.0)

-- Whether a walk may go by an arc first is seen of the rest.
pub by_rest : (g : Graph) (a : Arc) (t d rest : ℕ) (Holds : Type 0) → IsLeast g a.head t rest → (Holds → rest + a.len ≡ d) → (rest + a.len ≡ d → Holds) → (Holds → IsFirstArc g t d a) × (IsFirstArc g t d a → Holds)
by_rest g a t d rest Holds least there back = (
  λ holds. (rest, least, there holds),
  λ first. back (subst (λ (x : ℕ). x + a.len ≡ d) (least_same g a.head t first.0 rest first.1 least) first.2),
)

-- ## The smallest next vertex of a row

no_later : (next : Option Arc) (v u : ℕ) → (ComesNoLater next v → ⊥) → ComesNoLater next u → v ≤ u
no_later None v u later before = absurd before
no_later (Some a) v u later before = by_cases (cases_lt a.head v)
  where
    by_cases : (a.head < v) ⊎ (v ≤ a.head) → v ≤ u
    by_cases (inl is) = absurd (later (omega (arith, is)))
    by_cases (inr is) = omega (arith, is, before)

module _ (g : Graph) (t d : ℕ) (row : List Arc) (i : ℕ) (x : Arc) (low : i < length row) where
  -- no arc of those seen comes before the next vertex
  abbrev pub IsSeen : Option Arc → List Arc → Type 0
  IsSeen next arcs = All (λ a. IsFirstArc g t d a → ComesNoLater next a.head) arcs

  -- one arc more that doesn't either
  pub passed_by : (next : Option Arc) → IsSeen next (take i row) → (IsFirstArc g t d (get_or row i x) → ComesNoLater next (get_or row i x).head) → IsSeen next (take (i + 1) row)
  passed_by next seen here = All-more (λ a. IsFirstArc g t d a → ComesNoLater next a.head) row i x low seen here

  -- one that does is the next
  pub taken : (next : Option Arc) → IsSeen next (take i row) → (ComesNoLater next (get_or row i x).head → ⊥) → IsSeen (Some (get_or row i x)) (take (i + 1) row)
  taken next seen later =
      let v = (get_or row i x).head in
      All-more (λ a. IsFirstArc g t d a → v ≤ a.head) row i x low
      (All-weaker (λ a. IsFirstArc g t d a → ComesNoLater next a.head) (λ a. IsFirstArc g t d a → v ≤ a.head) (λ a is first. no_later next v a.head later (is first)) (take i row) seen) (λ first. omega arith)

pub next_found : (g : Graph) (t d : ℕ) (row : List Arc) (i : ℕ) (next : Option Arc) → length row ≤ i → IfSome next (λ a. Contains row a × IsFirstArc g t d a) → All (λ a. IsFirstArc g t d a → ComesNoLater next a.head) (take i row) → IfSome next (IsNext g t d row)
next_found g t d row i None all there seen = tt
next_found g t d row i (Some b) all there seen =
    let whole : All (λ a. IsFirstArc g t d a → b.head ≤ a.head) row = subst (All (λ a. IsFirstArc g t d a → b.head ≤ a.head)) (take_all i row all) seen in
    record { there = there.0; first = there.1; smallest = λ a has first. All-contains (λ a. IsFirstArc g t d a → b.head ≤ a.head) row a whole has first }

-- ## Trees

module _ (g h : Graph) (is : IsTurned g h) (s t d : ℕ) where
  -- an arc that a walk to s may go by first comes last on a walk from s in the turned graph
  before : (a : Arc) → Contains (row_of g.arcs t) a → IsFirstArc g s d a → IsPredecessor h s t d a.head
  before a has first =
      let of_graph = in_row g.arcs t a has in
      let turned : Contains h.arcs (record { tail = a.head; head = a.tail; len = a.len }) = turned_has g h is a of_graph.0 in
      let there : HasArc h a.head t a.len = rw of_graph.1 at turned in
      (first.0, a.len, (turned_least g h is s a.head first.0).1 first.1, there, first.2)

  -- and the other way round
  first_of : (u : ℕ) → IsPredecessor h s t d u → (a : Arc) × Contains (row_of g.arcs t) a × (a.head ≡ u) × IsFirstArc g s d a
  first_of u (c, l, least, has, sum) =
      let back : HasArc g t u l = turned_has h g (turned_back g h is) (record { tail = u; head = t; len = l }) has in
      (record { tail = t; head = u; len = l }, ((rows_hold_arcs g 0).row t u l).0 back, refl, (c, (turned_least g h is s u c).0 least, sum))

  -- so the smallest next vertex is the smallest predecessor
  pub turned_pair : (a : Arc) → IsLeast g t s d → IsNext g s d (row_of g.arcs t) a → IsTreePair h s t d a.head
  turned_pair a least next = record {
    least = (turned_least g h is s t d).1 least;
    before = before a next.there next.first;
    smallest = λ u has. let first = first_of u has in subst (λ (x : ℕ). a.head ≤ x) first.2 (next.smallest first.0 first.1 first.3);
  }

-- ## The end of a route

module _ (g : Graph) (s t : ℕ) where
  -- One step back from v, to the smallest next vertex.
  pub step_back : (v rest : ℕ) (a : Arc) (later all : List ℕ) → all ≡ later ++ v ∷ [] → (v ≡ s → ⊥) → IsLeast g v s rest → IsNext g s rest (row_of g.arcs v) a
      → ((h : Graph) → IsTurned g h → GoesOn h s v (reverse later) t) → (h : Graph) → IsTurned g h → GoesOn h s a.head (reverse all) t
  step_back v rest a later all pushed other least next on h is =
      let items : v ∷ reverse later ≡ reverse all = sym (ap reverse pushed ∙ reverse_push later v) in
      subst (λ (xs : List ℕ). GoesOn h s a.head xs t) items ((other, rest, turned_pair g h is s v rest a least next), on h is)

  -- The rest of the way from there.
  pub rest_of_way : (a : Arc) (rest less : ℕ) → IsFirstArc g s rest a → less ≡ rest - a.len → IsLeast g a.head s less
  rest_of_way a rest less first is = subst (IsLeast g a.head s) (omega (arith, first.2, is)) first.1

  -- It is the end of the route in each turned graph.
  pub turned_ends : (max d first : ℕ) (end : RouteEnd) → end.source ≡ s → end.target ≡ t → end.dist ≡ d → end.first ≡ first → IsLeast g t s d → d ≤ max → ((h : Graph) → IsTurned g h → GoesOn h s first (reverse end.later.items) t) → IsTurnedEnd g s t max end
  turned_ends max d first end source target dist begins least most on = record {
    source = source;
    target = target;
    is = λ h is. record { least = rw (source, target, dist) ((turned_least g h is s t d).1 least); most = rw dist most; on = rw (source, target, begins) (on h is) };
  }

-- ## Words

-- The answer for the source itself.
pub found_itself : (g : Graph) (s t max : ℕ) → s ≡ t → IsAnswerFor g s t max (Found 0 0)
found_itself g s t max same = subst (λ (v : ℕ). IsAnswerFor g s v max (Found 0 0)) same ((0, record { walk = walk_none g s; least = λ e w. omega arith }, omega arith), inl (refl, refl, refl))

word_before : (g : Graph) (s t max p d : ℕ) → IsLeast g s t d → d ≤ max → IsBefore g s p t → IsAnswerFor g s t max (Found p d)
word_before g s t max p d least most (other, e, pair) =
    let same : e ≡ d = least_same g s t e d pair.least least in
    ((d, least, most), inr (other, subst (λ (x : ℕ). IsTreePair g s t x p) same pair))

last_before : (g : Graph) (s t u : ℕ) (later : List ℕ) → length later ≡ 1 → GoesOn g s u (reverse later) t → IsBefore g s u t
last_before g s t u [] one on = absurd (omega (arith, one))
last_before g s t u (v ∷ []) one on = subst (IsBefore g s u) on.1 on.0
last_before g s t u (v ∷ w ∷ more) one on = absurd (omega (arith, one))

-- The word of a target from which one step back is known.
pub found_word : (g : Graph) (max : ℕ) (end : RouteEnd) → length end.later.items ≡ 1 → IsEndOfRoute g max end → IsAnswerFor g end.source end.target max (Found end.first end.dist)
found_word g max end one is = word_before g end.source end.target max end.first end.dist is.least is.most (last_before g end.source end.target end.first end.later.items one is.on)

-- ## Routes

-- The route to a target from which the source is known.
pub found_route : (g : Graph) (max : ℕ) (end : RouteEnd) (all route : List ℕ) → end.first ≡ end.source → all ≡ end.later.items ++ end.source ∷ [] → route ≡ reverse all → IsEndOfRoute g max end → IsRouteAnswer g end.source end.target max (FoundRoute end.dist route)
found_route g max end all route begins pushed is h =
    let whole : end.source ∷ reverse end.later.items ≡ route = sym (is ∙ (ap reverse pushed ∙ reverse_push end.later.items end.source)) in
    let on : GoesOn g end.source end.source (reverse end.later.items) end.target = subst (λ (u : ℕ). GoesOn g end.source u (reverse end.later.items) end.target) begins h.on in
    (h.least, h.most, subst (IsRoute g end.source end.target) whole (refl, on))
