-- The slots of pairs whose answers were found before arcs were turned, and what a network keeps whose arcs come back in another order.
use Rattle.std.proofs.Common.{◌≡◌, ℕ, zero, suc, ◌+◌, ◌<◌, ◌≤◌, List, [], ◌∷◌, ◌++◌, length, take, get_or, Option, Some, None, Result, Ok, Err, sym, subst, arith}
use Rattle.std.specs.Prelude.{All, IfOk, IfSome}
use Rattle.std.specs.Result.{result_unwrap_or}
use Rattle.std.specs.List.{AllZip}
use Rattle.std.specs.List.Sorted.{IsPermutation}
use Rattle.std.proofs.lemmas.List.{take_more}
use Rattle.std.proofs.lemmas.List.Sorted.{IsPermutation-sym, IsPermutation-map, length_permutation, All-permutation}
use Rattle.std.proofs.lemmas.Slice.Zip.{AllZip-long}
use Rattle.sp_paths.specs.Paths.{Graph, IsArc}
use Rattle.sp_paths.specs.Bags.{AreSame}
use Rattle.sp_network.specs.Turned.{turned_arc, IsTurned}
use Rattle.sp_dimacs.specs.declared.graphs.GrFile.{GrFile}
use Rattle.sp_dimacs.specs.Graph.{IsNetworkUpTo, graph_of}
use Rattle.sp_network.specs.declared.directions.Direction.TheVariants.{Towards}
use Rattle.sp_network.specs.Network.{directed}
use Rattle.sp_jobs.proofs.Files.{same_graph}
use Rattle.sp_pairs.specs.declared.asking.PairState.{PairState}
use Rattle.sp_pairs.specs.declared.asking.PairState.TheVariants.{Open, Known}
use Rattle.sp_pairs.specs.Slots.{AnswerIn, IsClosed, IsHeld, AreHeld, pair_at}
use Rattle.sp_pairs.specs.Near.{IsTurnedAnswer, IsClosedFor}

-- ## Slots

module _ {A : Type 0} (Is : AnswerIn A) where
  pub closed_for : (g : Graph) (s t : ℕ) (answer : A) → IsTurnedAnswer Is g s t answer → IsClosedFor Is g (s, t) (Known answer)
  closed_for g s t answer is = record { closed = tt; held = is }

  module _ (g : Graph) where
    closed_push : (pairs : List (ℕ × ℕ)) (slots : List (PairState A)) (pair : ℕ × ℕ) (slot : PairState A) → AllZip (IsClosedFor Is g) pairs slots → IsClosedFor Is g pair slot → AllZip (IsClosedFor Is g) (pairs ++ pair ∷ []) (slots ++ slot ∷ [])
    closed_push [] [] pair slot are is = (is, tt)
    closed_push [] (s ∷ slots) pair slot are is = absurd are
    closed_push (p ∷ pairs) [] pair slot are is = absurd are
    closed_push (p ∷ pairs) (s ∷ slots) pair slot are is = (are.0, closed_push pairs slots pair slot are.1 is)

    -- one pair more
    pub closed_more : (pairs : List (ℕ × ℕ)) (i : ℕ) (slots : List (PairState A)) (slot : PairState A) → i < length pairs → AllZip (IsClosedFor Is g) (take i pairs) slots → IsClosedFor Is g (pair_at pairs i) slot → AllZip (IsClosedFor Is g) (take (i + 1) pairs) (slots ++ slot ∷ [])
    closed_more pairs i slots slot low are is = subst (λ (first : List (ℕ × ℕ)). AllZip (IsClosedFor Is g) first (slots ++ slot ∷ [])) (sym (take_more pairs i (0, 0) low)) (closed_push (take i pairs) slots (pair_at pairs i) slot are is)

    closed_at : (pairs : List (ℕ × ℕ)) (slots : List (PairState A)) (i : ℕ) (d : PairState A) → AllZip (IsClosedFor Is g) pairs slots → i < length slots → IsClosedFor Is g (pair_at pairs i) (get_or slots i d)
    closed_at [] [] i d are low = absurd (omega (arith, low))
    closed_at [] (s ∷ slots) i d are low = absurd are
    closed_at (p ∷ pairs) [] i d are low = absurd are
    closed_at (p ∷ pairs) (s ∷ slots) zero d are low = are.0
    closed_at (p ∷ pairs) (s ∷ slots) (suc i) d are low = closed_at pairs slots i d are.1 (omega (arith, low))

    pub all_closed : (pairs : List (ℕ × ℕ)) (slots : List (PairState A)) → AllZip (IsClosedFor Is g) pairs slots → All IsClosed slots
    all_closed pairs slots are k d low = (closed_at pairs slots k d are low).closed

    pub all_held : (h : Graph) → IsTurned g h → (pairs : List (ℕ × ℕ)) (slots : List (PairState A)) → AllZip (IsClosedFor Is g) pairs slots → AreHeld Is h pairs slots
    all_held h is pairs slots are = record { size = AllZip-long (IsClosedFor Is g) pairs slots are; held = λ i d low. (closed_at pairs slots i d are low).held h is }

  -- What is held of pairs in a graph is held in one with the same arcs.
  module _ (g h : Graph) (same : (s t : ℕ) (answer : A) → Is g s t answer → Is h s t answer) where
    held_too : (pair : ℕ × ℕ) (slot : PairState A) → IsHeld Is g pair slot → IsHeld Is h pair slot
    held_too pair (Open next) is = tt
    held_too pair (Known answer) is = same pair.0 pair.1 answer is

    pub held_same : (pairs : List (ℕ × ℕ)) (slots : List (PairState A)) → AreHeld Is g pairs slots → AreHeld Is h pairs slots
    held_same pairs slots are = record { size = are.size; held = λ i d low. held_too (pair_at pairs i) (get_or slots i d) (are.held i d low) }

-- What holds of slots that were found holds where a refusal stands for none.
pub if_unwrapped : {A E : Type 0} (Q R : A → Type 0) (result : Result (Option A) E) → ((slots : A) → Q slots → R slots) → IfOk result (λ found. IfSome found Q) → IfSome (result_unwrap_or result None) R
if_unwrapped Q R (Ok (Some slots)) all is = all slots is
if_unwrapped Q R (Ok None) all is = tt
if_unwrapped Q R (Err e) all is = tt

-- ## Networks

module _ (file kept : GrFile) (n : kept.n ≡ file.n) (arcs : IsPermutation file.arcs.items kept.arcs.items) where
  pub network_kept : (P most : ℕ) → IsNetworkUpTo P most file → IsNetworkUpTo P most kept
  network_kept P most is = record {
    least = rw n is.least;
    most = rw n is.most;
    short = subst (λ (count : ℕ). count ≤ most) (sym (length_permutation file.arcs.items kept.arcs.items arcs)) is.short;
    arcs = rw n (All-permutation (IsArc file.n) file.arcs.items kept.arcs.items arcs is.arcs);
  }

  pub turned_same : AreSame (directed Towards (graph_of kept)) (directed Towards (graph_of file))
  turned_same = same_graph (directed Towards (graph_of file)) (directed Towards (graph_of kept)) n (IsPermutation-map turned_arc file.arcs.items kept.arcs.items arcs)

-- A graph that was built of a network is, turned round, the network turned round.
pub turned_network : (file : GrFile) (g : Graph) → g.n ≡ file.n → IsPermutation file.arcs.items g.arcs → IsTurned g (directed Towards (graph_of file))
turned_network file g n arcs = record { n = n; arcs = IsPermutation-map turned_arc g.arcs file.arcs.items (IsPermutation-sym file.arcs.items g.arcs arcs) }
