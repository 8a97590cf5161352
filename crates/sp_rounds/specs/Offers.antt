-- Tasks, and the offers that they ask for.
use Rattle.std.specs.Prelude.{◌≡◌, ℕ, ◌+◌, ◌≤◌, List, map, filter, nat_le, All, sum_by}
use Rattle.sp_word.specs.Word.{Word, Pair}
use Rattle.sp_paths.specs.declared.arc.Arc.{Arc}
use Rattle.sp_paths.specs.Paths.{IsVertex}
use Rattle.sp_paths.specs.Rows.{light_of, heavy_of}
use Rattle.sp_graph.specs.RowsValue.{Split}
use Rattle.sp_rounds.specs.declared.task.TaskKind.{TaskKind}
use Rattle.sp_rounds.specs.declared.task.TaskKind.TheVariants.{Light, Heavy}
use Rattle.sp_rounds.specs.declared.task.Task.{Task}

-- This is a word that is offered to a vertex.
pub record AskedOffer : Type 0 where
  pub vertex : ℕ
  pub word : Word

-- These are the arcs of a kind that leave a vertex.
abbrev pub arcs_of_kind : Split → TaskKind → ℕ → List Arc
arcs_of_kind rows Light v = light_of rows.graph.arcs rows.delta v
arcs_of_kind rows Heavy v = heavy_of rows.graph.arcs rows.delta v

-- These are the arcs that a task relaxes.
abbrev pub arcs_of : Split → Task → List Arc
arcs_of rows t = arcs_of_kind rows t.kind t.vertex

-- This is what an arc offers its head at the distance d of its tail.
abbrev pub offer_along : (d : ℕ) → Arc → AskedOffer
offer_along d a = record { vertex = a.head; word = Pair (d + a.len) a.tail }

-- These are the offers along arcs whose sums are at most max.
abbrev pub offers_along : (max d : ℕ) → List Arc → List AskedOffer
offers_along max d arcs = map (offer_along d) (filter (λ a. nat_le (d + a.len) max) arcs)

-- These are the offers of a task: those along its arcs whose sums are at most max.
abbrev pub offers_of : (max : ℕ) → Split → Task → List AskedOffer
offers_of max rows t = offers_along max t.dist (arcs_of rows t)

-- ## What a round asks of its tasks

-- Each offer along these arcs with a sum of at most max is a word that the table takes.
abbrev pub AreAllowed : (law : ℕ → Word → Type 0) → (max d : ℕ) → List Arc → Type 0
AreAllowed law max d arcs = All (λ (a : Arc). d + a.len ≤ max → law a.head (Pair (d + a.len) a.tail)) arcs

-- Each offer of the task is a word that the table takes.
abbrev pub IsAllowed : (law : ℕ → Word → Type 0) → (max : ℕ) → Split → Task → Type 0
IsAllowed law max rows t = AreAllowed law max t.dist (arcs_of rows t)

-- The task's vertex exists, and its distance is at most max.
abbrev pub IsTask : (law : ℕ → Word → Type 0) → (max : ℕ) → Split → Task → Type 0
IsTask law max rows t = IsVertex rows.graph.n t.vertex × (t.dist ≤ max) × IsAllowed law max rows t

-- ## Bags

-- The lists have the same offers, each equally often, in any order: however offers are weighted, both lists have the
-- same weight.
abbrev pub AreSameOffers : List AskedOffer → List AskedOffer → Type 0
AreSameOffers xs ys = (weight : AskedOffer → ℕ) → sum_by weight xs ≡ sum_by weight ys
