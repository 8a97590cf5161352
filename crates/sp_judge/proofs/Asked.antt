-- What words of walks from sources answer, once the arcs are relaxed that bear on it.
use Rattle.std.proofs.Common.{◌≡◌, ℕ, ◌≤◌, List, Option, Some, None, length, sym, subst, arith, Bor}
use Rattle.std.specs.Prelude.{All}
use Rattle.std.proofs.lemmas.List.Elements.{All-contains}
use Rattle.sp_word.specs.Word.{Word, max_dist}
use Rattle.sp_paths.specs.declared.arc.Arc.{Arc}
use Rattle.sp_paths.specs.Paths.{Graph, IsGraph, IsVertex, IsClosed, IsLeftOut, IsWithin, word_at}
use Rattle.sp_graph.specs.LeftOut.{IsLeastLeftOut}
use Rattle.sp_answer.specs.Run.{IsAsked, AreRunWords}
use Rattle.sp_answer.specs.declared.asked.Until.{Until}
use Rattle.sp_answer.specs.declared.asked.Until.TheVariants.{All as AllWords, Limit, Targets}
use Rattle.sp_answer.proofs.RunAnswers.{limit_words, near_targets, target_words, whole_words, whole_targets}
use Rattle.sp_judge.specs.declared.scan.Scan.{Scan}
use Rattle.sp_judge.specs.declared.scan.Scan.TheVariants.{Whole, LeavesOut, Open}
use Rattle.sp_judge.specs.Shown.{Shows, LeadsOut, IsArcRelaxed, IsRowClosedUpTo, IsClosedUpTo}
use Rattle.sp_judge.specs.Several.{IsTableOfAny, IsFinishedTableOfAny}
use Rattle.sp_judge.specs.Asked.{BearsOn, ShowsAsked, AreReached}
use Rattle.sp_judge.proofs.Closed.{closed_up_to, closed_within}
use Rattle.sp_judge.proofs.TableSteps.{small_within}

-- every other vertex is unreached, so that its arcs are relaxed up to any distance
pub closed_by : (g : Graph) (max far : ℕ) (words : List Word) (reached : List ℕ) → length words ≡ g.n → AreReached words reached → All (IsRowClosedUpTo g max far (word_at words)) reached → IsClosedUpTo g max far (word_at words)
closed_by g max far words reached size are each u at d p is low =
    All-contains (IsRowClosedUpTo g max far (word_at words)) reached u each (are.covers u d p (subst (λ (n : ℕ). IsVertex n u) (sym size) at) is) d p is low

module _ (P : ℕ) (g : Graph) (graph : IsGraph g) (sources : List ℕ) (vertices : All (IsVertex g.n) sources) (words : List Word) (table : IsTableOfAny g sources (max_dist P) words) where
  low : IsWithin g.n (max_dist P) (word_at words)
  low = small_within g.n (max_dist P) words table.size table.small

  -- ## Arcs are relaxed that lie within a distance

  closed_at : (far : ℕ) → IsClosedUpTo g (max_dist P) far (word_at words) → (d : ℕ) → d ≤ far → d ≤ max_dist P → IsClosed g d (word_at words)
  closed_at far closed d below most = closed_within g graph (max_dist P) d most words (λ u here e q same less. closed u here e q same (omega (arith, below, less)))

  up_to_limit : (limit : ℕ) → limit ≤ max_dist P → (far : ℕ) → limit ≤ far → IsClosedUpTo g (max_dist P) far (word_at words) → AreRunWords P g sources (Limit limit) words None
  up_to_limit limit most far less closed = limit_words P g sources graph vertices words table.size table.table low limit (closed_at far closed limit less most)

  pub near_shown : (until : Until) → IsAsked P g.n until → (far : ℕ) → BearsOn until words (Some far) → IsClosedUpTo g (max_dist P) far (word_at words) → AreRunWords P g sources until words None
  near_shown AllWords asked far bears closed = cc
  near_shown (Limit limit) asked far bears closed = up_to_limit limit asked far (let same : far ≡ limit = cc in omega arith) closed
  near_shown (Targets targets) asked far bears closed =
      target_words P g sources graph vertices words table.size table.table low targets None (near_targets P g sources graph vertices words table.size table.table low far targets.now (closed_at far closed) asked bears)

  -- ## All arcs are relaxed

  closed_table : All (IsArcRelaxed (max_dist P) (word_at words)) g.arcs → IsFinishedTableOfAny g sources (max_dist P) words
  closed_table all = record {
    size = table.size;
    small = table.small;
    finished = record {
      all = record {
        graph = graph;
        vertices = vertices;
        table = table.table;
        closed = λ u v l arc. All-contains (IsArcRelaxed (max_dist P) (word_at words)) g.arcs (record { tail = u; head = v; len = l }) all arc;
      };
      within = low;
    };
  }

module _ (P : ℕ) (g : Graph) (sources : List ℕ) (words : List Word) (done : IsFinishedTableOfAny g sources (max_dist P) words) where
  pub finished_all : (left : Option ℕ) → IsLeastLeftOut g (word_at words) left → AreRunWords P g sources AllWords words left
  finished_all left least = whole_words P g sources words done.size done.finished left least

  pub finished_limit : (limit : ℕ) → limit ≤ max_dist P → AreRunWords P g sources (Limit limit) words None
  finished_limit limit most =
      let all = done.finished.all in
      limit_words P g sources all.graph all.vertices words done.size all.table done.finished.within limit (closed_within g all.graph (max_dist P) limit most words (closed_up_to g (max_dist P) limit words all.closed))

  pub finished_targets : (targets : Bor (List ℕ)) → All (IsVertex g.n) targets.now → (left : Option ℕ) → IsLeastLeftOut g (word_at words) left → AreRunWords P g sources (Targets targets) words left
  finished_targets targets ends left least =
      let all = done.finished.all in
      target_words P g sources all.graph all.vertices words done.size all.table done.finished.within targets left (whole_targets P g sources words done.size done.finished left targets.now least ends)

  all_words : (until : Until) → IsAsked P g.n until → BearsOn until words None → (left : Option ℕ) → IsLeastLeftOut g (word_at words) left → AreRunWords P g sources until words left
  all_words AllWords asked bears left least = finished_all left least
  all_words (Limit limit) asked bears left least = cc
  all_words (Targets targets) asked bears left least = finished_targets targets asked left least

-- what a scan of all arcs leaves out
whole_left : (g : Graph) (max : ℕ) (words : List Word) → Shows max (word_at words) g.arcs Whole → IsLeastLeftOut g (word_at words) None
whole_left g max words shows v (u, l, d, p, arc, from, to) =
    All-contains (λ a. LeadsOut (word_at words) a → ⊥) g.arcs (record { tail = u; head = v; len = l }) shows.1 arc (d, p, from, to)

left_left : (g : Graph) (max : ℕ) (words : List Word) (v : ℕ) → Shows max (word_at words) g.arcs (LeavesOut v) → IsLeastLeftOut g (word_at words) (Some v)
left_left g max words v (all, (k, a, low, is, (head, (d, p, from, to))), least) = (
  subst (λ x. IsLeftOut g (word_at words) x) head (a.tail, a.len, d, p, (k, low, is), from, to),
  λ w (u, l, d', p', arc, from', to').
      All-contains (λ (x : Arc). LeadsOut (word_at words) x → v ≤ x.head) g.arcs (record { tail = u; head = w; len = l }) least arc (d', p', from', to'),
)

module _ (P : ℕ) (g : Graph) (graph : IsGraph g) (sources : List ℕ) (vertices : All (IsVertex g.n) sources) (words : List Word) (table : IsTableOfAny g sources (max_dist P) words) where
  pub all_shown : (until : Until) → IsAsked P g.n until → BearsOn until words None → (scan : Scan) → Shows (max_dist P) (word_at words) g.arcs scan → ShowsAsked P g sources until words scan
  all_shown until asked bears Whole shows =
      all_words P g sources words (closed_table P g graph sources vertices words table shows.0) until asked bears None (whole_left g (max_dist P) words shows)
  all_shown until asked bears (LeavesOut v) shows =
      all_words P g sources words (closed_table P g graph sources vertices words table shows.0) until asked bears (Some v) (left_left g (max_dist P) words v shows)
  all_shown until asked bears Open shows = tt
