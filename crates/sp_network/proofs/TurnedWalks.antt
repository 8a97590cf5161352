-- A walk backwards, over the arcs turned round.
use Rattle.std.proofs.Common.{◌≡◌, ℕ, ◌+◌, List, [], ◌∷◌, ◌++◌, refl, sym, ap, ◌∙◌, subst, arith}
use Rattle.std.specs.Prelude.{◌↔◌, All, Contains}
use Rattle.std.proofs.lemmas.List.{length-map, get_or-map}
use Rattle.std.proofs.lemmas.List.Elements.{All-nil, All-head, All-tail, All-push, All-weaker}
use Rattle.std.proofs.lemmas.List.Sorted.{Contains-permutation}
use Rattle.std.proofs.lemmas.List.Sums.{sum_by-cons, sum_by_push}
use Rattle.sp_paths.specs.declared.arc.Arc.{Arc}
use Rattle.sp_paths.specs.Paths.{Graph, LeadsTo, HasWalk, IsLeast, walk_length}
use Rattle.sp_network.specs.Turned.{turned_arc, turned, IsTurned, IsBothWays}
use Rattle.sp_network.proofs.TurnedArcs.{turned_back, both_ways_back}

-- the walk backwards
backwards : List Arc → List Arc
backwards [] = []
backwards (a ∷ walk) = backwards walk ++ turned_arc a ∷ []

leads_push : (walk : List Arc) (a : Arc) (s : ℕ) → LeadsTo walk s a.tail → LeadsTo (walk ++ a ∷ []) s a.head
leads_push [] a s h = (sym h, refl)
leads_push (b ∷ walk) a s h = (h.0, leads_push walk a b.head h.1)

-- it leads back
leads_back : (walk : List Arc) (s v : ℕ) → LeadsTo walk s v → LeadsTo (backwards walk) v s
unfolding backwards
leads_back [] s v h = sym h
leads_back (a ∷ walk) s v h =
    let P : ℕ → Type 0 = λ t. LeadsTo (backwards walk ++ turned_arc a ∷ []) v t in
    subst P h.0 (leads_push (backwards walk) (turned_arc a) v (leads_back walk a.head v h.1))

-- it is as long
back_length : (walk : List Arc) → walk_length (backwards walk) ≡ walk_length walk
unfolding backwards
back_length [] = refl
back_length (a ∷ walk) =
    let front : walk_length (a ∷ walk) ≡ a.len + walk_length walk = sum_by-cons (λ x. x.len) a walk in
    let end : walk_length (backwards walk) + a.len ≡ walk_length (a ∷ walk) = omega (arith, back_length walk, front) in
    sum_by_push (λ x. x.len) (backwards walk) (turned_arc a) ∙ end

-- it is of whatever its arcs turned round are of
back_all : (P : Arc → Type 0) (walk : List Arc) → All (λ a. P (turned_arc a)) walk → All P (backwards walk)
unfolding backwards
back_all P [] all = All-nil P
back_all P (a ∷ walk) all = All-push P (backwards walk) (turned_arc a) (back_all P walk (All-tail (λ x. P (turned_arc x)) a walk all)) (All-head (λ x. P (turned_arc x)) a walk all)

-- a list has an arc, and turned it has the arc turned
turned_contains : (arcs : List Arc) (a : Arc) → Contains arcs a → Contains (turned arcs) (turned_arc a)
turned_contains arcs a (k, below, is) = (
  k,
  rw length-map below,
  get_or-map turned_arc arcs k a (turned_arc a) below ∙ ap turned_arc is,
)

-- an arc of a graph is one of the other, turned round
pub turned_has : (g h : Graph) → IsTurned g h → (a : Arc) → Contains g.arcs a → Contains h.arcs (turned_arc a)
turned_has g h is a has = Contains-permutation (turned g.arcs) h.arcs (turned_arc a) is.arcs (turned_contains g.arcs a has)

back_walk : (g h : Graph) → IsTurned g h → (s v d : ℕ) → HasWalk g s v d → HasWalk h v s d
back_walk g h is s v d (walk, w, e) = (
  backwards walk,
  record {
    of_arcs = back_all (Contains h.arcs) walk (All-weaker (Contains g.arcs) (λ a. Contains h.arcs (turned_arc a)) (turned_has g h is) walk w.of_arcs);
    leads = leads_back walk s v w.leads;
  },
  back_length walk ∙ e,
)

back_least : (g h : Graph) → IsTurned g h → (s v d : ℕ) → IsLeast g s v d → IsLeast h v s d
back_least g h is s v d l = record {
  walk = back_walk g h is s v d l.walk;
  least = λ e w. l.least e (back_walk h g (turned_back g h is) v s e w);
}

pub turned_walk : (g h : Graph) → IsTurned g h → (s v d : ℕ) → HasWalk h s v d ↔ HasWalk g v s d
turned_walk g h is s v d = (back_walk h g (turned_back g h is) s v d, back_walk g h is v s d)

pub turned_least : (g h : Graph) → IsTurned g h → (s v d : ℕ) → IsLeast h s v d ↔ IsLeast g v s d
turned_least g h is s v d = (back_least h g (turned_back g h is) s v d, back_least g h is v s d)

pub both_ways_walk : (g h : Graph) → IsBothWays g h → (s v d : ℕ) → HasWalk h s v d ↔ HasWalk h v s d
both_ways_walk g h both s v d = turned_walk h h (both_ways_back g h both) s v d

pub both_ways_least : (g h : Graph) → IsBothWays g h → (s v d : ℕ) → IsLeast h s v d ↔ IsLeast h v s d
both_ways_least g h both s v d = turned_least h h (both_ways_back g h both) s v d
