-- The rules of trees and forests, reported as faults, and what they decide.
use Rattle.std.specs.Prelude.{◌≡◌, ◌≢◌, ℕ, ◌+◌, ◌<◌, ◌≤◌, ◌⊎◌, ◌↔◌, length, Option, Some, None, IfSome}
use Rattle.sp_word.specs.Word.{Unreached, Pair, IsBelow, max_dist}
use Rattle.sp_word.specs.History.{Table}
use Rattle.sp_paths.specs.Paths.{Graph, IsGraph, IsVertex, HasArc, IsTree, IsFar, EndsInTree, IsWithin}
use Rattle.sp_answer.specs.ForestTable.{ForestTable, IsForestTable, table_of}
use Rattle.sp_answer.specs.Nearest.{IsForestUpTo, HasRoots}
use Rattle.sp_cert.specs.declared.rule.Rule.{Rule}
use Rattle.sp_cert.specs.declared.rule.Rule.TheVariants.{Size, OwnSource, NoLesserOffer, NamesPredecessor, OnlyTooFar, BeyondLimit, OtherRoot}
use Rattle.sp_cert.specs.Claims.{Claim, tree_claim, claim_of_forest, IsSource, IsUpTo, IsAbove, sources_in}

-- This is the number by which a rule is reported.
abbrev pub number_of : Rule → ℕ
number_of Size = 1
number_of OwnSource = 2
number_of NoLesserOffer = 3
number_of NamesPredecessor = 4
number_of OnlyTooFar = 5
number_of BeyondLimit = 6
number_of OtherRoot = 7

-- The vertex p is reached, and has an arc to v whose length is d minus the distance of p.
abbrev pub IsExplained : Graph → Table → (v d p : ℕ) → Type 0
IsExplained g words v d p = (c q l : ℕ) × (words p ≡ Pair c q) × HasArc g p v l × (c + l ≡ d)

-- Roots are given, and the root of v isn't v.
abbrev pub HasForeignRoot : (roots : Option (ℕ → Option ℕ)) → (v : ℕ) → Type 0
HasForeignRoot None v = ⊥
HasForeignRoot (Some roots) v = roots v ≢ Some v

-- Roots are given, and the root of v isn't the root of p.
abbrev pub HasOtherRoot : (roots : Option (ℕ → Option ℕ)) → (v p : ℕ) → Type 0
HasOtherRoot None v p = ⊥
HasOtherRoot (Some roots) v p = roots v ≢ roots p

-- The rule fails at the vertex v of this claim, with distances up to max: a source's word isn't (0, 0), or its root isn't
-- itself; an arc from a reached u offers v a pair within max and up to the limit that is less than v's word; v is reached and no
-- source, and its predecessor doesn't explain its distance; no limit is given, v is unreached, and an arc from a reached vertex
-- leads to it beyond max; v's distance is above the limit; v is reached and no source, and its root isn't its predecessor's. The
-- size doesn't concern a single vertex.
abbrev pub Breaks : Graph → (max : ℕ) → Claim → (v : ℕ) → Rule → Type 0
Breaks g max c v Size = ⊥
Breaks g max c v OwnSource = IsSource c.sources c.words v × ((c.words v ≢ Pair 0 0) ⊎ HasForeignRoot c.roots v)
Breaks g max c v NoLesserOffer = (u l d p : ℕ) × HasArc g u v l × (c.words u ≡ Pair d p) × (d + l ≤ max) × IsUpTo c.limit (d + l) × IsBelow (Pair (d + l) u) (c.words v)
Breaks g max c v NamesPredecessor = (d p : ℕ) × (c.words v ≡ Pair d p) × (IsSource c.sources c.words v → ⊥) × (IsExplained g c.words v d p → ⊥)
Breaks g max c v OnlyTooFar = (c.limit ≡ None) × ((u l d p : ℕ) × HasArc g u v l × (c.words u ≡ Pair d p) × (max < d + l) × (c.words v ≡ Unreached))
Breaks g max c v BeyondLimit = (d p : ℕ) × (c.words v ≡ Pair d p) × IsAbove c.limit d
Breaks g max c v OtherRoot = (d p : ℕ) × (c.words v ≡ Pair d p) × (IsSource c.sources c.words v → ⊥) × HasOtherRoot c.roots v p

-- The rule fails at the vertex v of this claim. `sized` says that the numbers of vertices and of sources are right. If they
-- aren't, the size rule fails, at vertex 0, and no other rule is looked at.
abbrev pub Fails : Graph → (max : ℕ) → (sized : Type 0) → Claim → (v : ℕ) → Rule → Type 0
Fails g max sized c v Size = (v ≡ 0) × (sized → ⊥)
Fails g max sized c v rule = IsVertex g.n v × sized × Breaks g max c v rule

-- No rule fails anywhere.
abbrev pub Passes : Graph → (max : ℕ) → (sized : Type 0) → Claim → Type 0
Passes g max sized c = (v : ℕ) → (rule : Rule) → Fails g max sized c v rule → ⊥

-- The fault (v, rule) comes no later than (w, other): by vertex, then by rule.
abbrev pub NoLater : (v : ℕ) → Rule → (w : ℕ) → Rule → Type 0
NoLater v rule w other = (v < w) ⊎ ((v ≡ w) × (number_of rule ≤ number_of other))

-- This is the lowest vertex at which a rule fails, and the lowest rule that fails there.
pub record IsFirstFault (g : Graph) (max : ℕ) (sized : Type 0) (c : Claim) (v : ℕ) (rule : Rule) : Type 0 where
  pub fails : Fails g max sized c v rule
  pub first : (w : ℕ) → (other : Rule) → Fails g max sized c w other → NoLater v rule w other

-- ## What the rules decide

-- The number n is the graph's, the words are the tree from s, and no vertex is beyond max.
pub record IsTreeOf (g : Graph) (max n s : ℕ) (words : Table) : Type 0 where
  pub size : n ≡ g.n
  pub tree : IsTree g s words
  pub none_far : IsFar g s max None

-- For words with distances up to max, the rules hold exactly if the words are the tree.
abbrev pub RulesAreExact : Type 0
RulesAreExact = (g : Graph) (max n s : ℕ) (words : Table) → IsGraph g → IsVertex n s → IsWithin g.n max words → Passes g max (n ≡ g.n) (tree_claim s None words) ↔ IsTreeOf g max n s words

-- The number n is the graph's, and the words are the part of the tree from s within the limit.
pub record IsPartOfTree (g : Graph) (limit n s : ℕ) (words : Table) : Type 0 where
  pub size : n ≡ g.n
  pub part : EndsInTree g s limit words

-- With a limit up to max, the rules hold exactly if the words are the part of the tree.
abbrev pub PartRulesAreExact : Type 0
PartRulesAreExact = (g : Graph) (max limit n s : ℕ) (words : Table) → IsGraph g → IsVertex n s → limit ≤ max → Passes g max (n ≡ g.n) (tree_claim s (Some limit) words) ↔ IsPartOfTree g limit n s words

-- The forest has the graph's number of vertices, and as many sources as counted.
abbrev pub IsCounted : Graph → ForestTable → (count : ℕ) → Type 0
IsCounted g f count = (f.n ≡ g.n) × (count ≡ length (sources_in f))

-- The numbers are right, the words are the forest of its sources, up to the limit if there is one, and each reached vertex has
-- its root.
pub record IsForestOf (P : ℕ) (g : Graph) (f : ForestTable) (count : ℕ) (limit : Option ℕ) : Type 0 where
  pub size : IsCounted g f count
  pub forest : IsForestUpTo P g (sources_in f) limit (table_of f)
  pub roots : HasRoots g (sources_in f) f

-- With a limit up to the greatest distance of a word, if one is given, the rules hold exactly if the forest is right.
abbrev pub ForestRulesAreExact : Type 0
ForestRulesAreExact = (P : ℕ) (g : Graph) (f : ForestTable) (count : ℕ) (limit : Option ℕ) → IsGraph g → IsForestTable P f → IfSome limit (λ l. l ≤ max_dist P) → Passes g (max_dist P) (IsCounted g f count) (claim_of_forest f limit) ↔ IsForestOf P g f count limit
