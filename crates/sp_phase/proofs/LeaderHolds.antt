-- A run before and after a round.
use Rattle.std.proofs.Common.{◌≡◌, ℕ, zero, suc, replicate, ◌+◌, ◌-◌, inl, inr, ◌<◌, List, [], ◌∷◌, ◌++◌, length, get_or, take, drop, append_assoc, Some, None, refl, sym, ap, ◌∙◌, subst, arith}
use Rattle.std.specs.Prelude.{All}
use Rattle.std.specs.List.Sorted.{IsPermutation}
use Rattle.std.proofs.lemmas.List.Elements.{All-append, All-push, All-nil, All-cons}
use Rattle.std.proofs.lemmas.List.Sorted.{All-permutation, IsPermutation-push_more, IsPermutation-refl}
use Rattle.std.proofs.lemmas.List.{take_more, take-append-drop, append-nil, length-replicate}
use Rattle.sp_word.specs.Word.{Pair, max_dist}
use Rattle.sp_word.specs.History.{Table}
use Rattle.sp_paths.specs.Paths.{IsGraph, IsVertex}
use Rattle.sp_offer.specs.Story.{Knowledge, known_table}
use Rattle.sp_bins.specs.declared.entry.Entry.{Entry}
use Rattle.sp_rounds.specs.Content.{BucketsContent, Puts, Takes}
use Rattle.sp_rounds.proofs.EntryPlaces.{All-before, All-behind}
use Rattle.sp_rounds.specs.declared.task.Task.{Task}
use Rattle.sp_rounds.specs.Left.{RoundDone}
use Rattle.sp_phase.specs.declared.marks.LeaderMark.{LeaderMark}
use Rattle.sp_phase.specs.Stage.{Stage, IsStage, Learns, law_of, rows_of}
use Rattle.sp_phase.specs.Marks.{NotedMarks, no_mark, mark_of, light_at, heavy_at, SameDistances, Remembers}
use Rattle.sp_phase.specs.Rounds.{IsRunning, KeepsRunning}
use Rattle.sp_phase.proofs.TaskMarks.{running_same}
use Rattle.sp_phase.specs.Lead.{Lead}
use Rattle.sp_phase.specs.Running.{IsQueued, Holds, Leads}
use Rattle.sp_phase.proofs.KnownWords.{running_falls}
use Rattle.sp_phase.proofs.FoundEntries.{found_queued}

-- a caller that learns more holds what it held
pub holds_learns : (P : ℕ) (st : Stage) (before after : Knowledge) (m : NotedMarks) → Learns P st before after → Holds P st before m → Holds P st after m
holds_learns P st before after m learns h = record {
  stage = h.stage;
  table = learns.table ∙ h.table;
  running = running_falls P st (known_table before.story) (known_table after.story) m.each learns.falls learns.lawful h.running;
  remembered = h.remembered;
}

remember_more : (n v : ℕ) (before after : NotedMarks) → IsVertex n v → Remembers before after v → All (IsVertex n) before.remembered → All (IsVertex n) after.remembered
remember_more n v before after at (inl same) all = subst (λ xs. All (IsVertex n) xs) (sym same) all
remember_more n v before after at (inr more) all = subst (λ xs. All (IsVertex n) xs) (sym more) (All-push (IsVertex n) before.remembered v all at)

same_distances : (P : ℕ) (st : Stage) (words : Table) (before after : List LeaderMark) → IsGraph st.graph → SameDistances before after → IsRunning P st words before → IsRunning P st words after
same_distances P st words before after gr same run =
    running_same P st words before after gr same.0 (λ u at. same.1 u (subst (λ k. IsVertex k u) (sym run.size) at)) run

-- a vertex enters a round
pub holds_enters : (P : ℕ) (st : Stage) (c : Knowledge) (before after : NotedMarks) (v : ℕ) → IsGraph st.graph → IsVertex st.graph.n v → SameDistances before.each after.each → Remembers before after v → Holds P st c before → Holds P st c after
holds_enters P st c before after v gr at same more h = record {
  stage = h.stage;
  table = h.table;
  running = same_distances P st (known_table c.story) before.each after.each gr same h.running;
  remembered = remember_more st.graph.n v before after at more h.remembered;
}

-- and one is forgotten
pub holds_forgets : (P : ℕ) (st : Stage) (c : Knowledge) (before after : NotedMarks) → IsGraph st.graph → SameDistances before.each after.each → after.remembered ≡ before.remembered → Holds P st c before → Holds P st c after
holds_forgets P st c before after gr same more h = record {
  stage = h.stage;
  table = h.table;
  running = same_distances P st (known_table c.story) before.each after.each gr same h.running;
  remembered = subst (λ xs. All (IsVertex st.graph.n) xs) (sym more) h.remembered;
}

-- ## Rounds

all_put : (F : Entry → Type 0) (old found new : List Entry) → IsPermutation (old ++ found) new → All F old → All F found → All F new
all_put F old found new moved a b = All-permutation F (old ++ found) new moved (All-append F old found a b)

module _ (P : ℕ) (st : Stage) (stage : IsStage P st) (tasks : List Task) (before after : Knowledge) (found : List Entry) (done : RoundDone (law_of P st) (max_dist P) (rows_of st) tasks before after found) where
  pub round_holds : (m m' : NotedMarks) → Holds P st before m → KeepsRunning tasks m.each m'.each → m'.remembered ≡ m.remembered → Holds P st after m'
  round_holds m m' h keeps same = record {
    stage = stage;
    table = done.later.table ∙ h.table;
    running = keeps P st (known_table after.story) stage.graph done.relaxed (running_falls P st (known_table before.story) (known_table after.story) m.each done.later.falls (done.later.stays h.running.lawful) h.running);
    remembered = subst (λ xs. All (IsVertex st.graph.n) xs) (sym same) h.remembered;
  }

  pub round_entries : (old new : List Entry) → IsPermutation (old ++ found) new → All (IsQueued P st) old → All (IsQueued P st) new
  round_entries old new moved all = all_put (IsQueued P st) old found new moved all (found_queued P st tasks done.calls found stage.graph done.each done.shorter)

-- ## Loops

-- one more entry is put
pub put_more : (old xs now new : List Entry) (i : ℕ) (e none : Entry) → i < length xs → get_or xs i none ≡ e → IsPermutation (old ++ take i xs) now → IsPermutation (e ∷ now) new → IsPermutation (old ++ take (i + 1) xs) new
put_more old xs now new i e none inside is moved put =
    let grown : old ++ take (i + 1) xs ≡ (old ++ take i xs) ++ e ∷ [] = ap (λ ys. old ++ ys) (take_more xs i none inside ∙ ap (λ x. take i xs ++ x ∷ []) is) ∙ sym (append_assoc old (take i xs) (e ∷ [])) in
    subst (λ ys. IsPermutation ys new) (sym grown) (IsPermutation-push_more (old ++ take i xs) now new e moved put)

pub put_none : (old xs : List Entry) → IsPermutation (old ++ take 0 xs) old
put_none old xs = let e : old ++ take 0 xs ≡ old = append-nil old in subst (λ ys. IsPermutation ys old) (sym e) (IsPermutation-refl old)

-- what is remembered was handed out
pub holds_recalls : (P : ℕ) (st : Stage) (c : Knowledge) (m : NotedMarks) → Holds P st c m
    → Holds P st c (record m { remembered = [] })
holds_recalls P st c m h = record {
  stage = h.stage;
  table = h.table;
  running = h.running;
  remembered = All-nil (IsVertex st.graph.n);
}

-- the caller and the marks of a leader went on
pub leads_holds : (P : ℕ) (st : Stage) (l : Lead) (c : Knowledge) (m : NotedMarks) → Holds P st c m → Leads P st l
    → Leads P st (record l { caller = c; marks = m })
leads_holds P st l c m holds h = record { holds = holds; width = h.width; entries = h.entries; size = h.size }

-- what is queued changed
pub leads_queued : (P : ℕ) (st : Stage) (l : Lead) (q : BucketsContent) → q.delta ≡ l.buckets.delta → All (IsQueued P st) q.entries
    → Leads P st l → Leads P st (record l { buckets = q })
leads_queued P st l q width all h =
    record { holds = h.holds; width = width ∙ h.width; entries = all; size = h.size }

-- a bucket is taken out
pub takes_queued : (P : ℕ) (st : Stage) (l : Lead) (q : BucketsContent) (i : ℕ) (taken : List Entry) → Takes i taken l.buckets q
    → Leads P st l → Leads P st (record l { buckets = q }) × All (IsQueued P st) taken
takes_queued P st l q i taken takes h =
    let all = All-permutation (IsQueued P st) l.buckets.entries (taken ++ q.entries) takes.entries h.entries in (
      leads_queued P st l q takes.delta (All-behind (IsQueued P st) taken q.entries all) h,
      All-before (IsQueued P st) taken q.entries all,
    )

-- some of the entries are put
pub put_queued : (F : Entry → Type 0) (old xs new : List Entry) (k : ℕ) → IsPermutation (old ++ take k xs) new
    → All F old → All F xs → All F new
put_queued F old xs new k moved before all =
    let parts : take k xs ++ drop k xs ≡ xs = take-append-drop k xs in
    all_put F old (take k xs) new moved before (All-before F (take k xs) (drop k xs) (subst (λ ys. All F ys) (sym parts) all))

pub round_leads : (P : ℕ) (st : Stage) (tasks : List Task) (l : Lead) (c : Knowledge) (m : NotedMarks) (q : BucketsContent) (found : List Entry)
    → Leads P st l → RoundDone (law_of P st) (max_dist P) (rows_of st) tasks l.caller c found
    → KeepsRunning tasks l.marks.each m.each → m.remembered ≡ l.marks.remembered → q.delta ≡ l.buckets.delta
    → IsPermutation (l.buckets.entries ++ found) q.entries → Leads P st (record l { caller = c; marks = m; buckets = q })
round_leads P st tasks l c m q found h done keeps same width moved = record {
  holds = round_holds P st h.holds.stage tasks l.caller c found done l.marks m h.holds keeps same;
  width = width ∙ h.width;
  entries = round_entries P st h.holds.stage tasks l.caller c found done l.buckets.entries q.entries moved h.entries;
  size = h.size;
}

replicate_at : (k i : ℕ) → get_or (replicate k no_mark) i no_mark ≡ no_mark
replicate_at zero i = refl
replicate_at (suc k) zero = refl
replicate_at (suc k) (suc i) = replicate_at k i

-- the leader of a run that begins
pub first_leads : (P : ℕ) (st : Stage) (before : Knowledge) (l : Lead) (n : ℕ) (old : BucketsContent) → IsStage P st → before.table ≡ st.table → Learns P st before l.caller → known_table l.caller.story st.source ≡ Pair 0 0
    → n ≡ st.graph.n → l.marks.each ≡ replicate n no_mark → l.marks.remembered ≡ [] → old.delta ≡ st.delta → old.entries ≡ []
    → Puts (record { vertex = st.source; dist = 0 }) old l.buckets → length l.words ≡ st.graph.n → Leads P st l
first_leads P st before l n old stage caller learns source size marks remembered width empty puts words = record {
  holds = record {
    stage = stage;
    table = learns.table ∙ caller;
    running = record {
      source = source;
      lawful = learns.lawful;
      size = ap length marks ∙ (length-replicate n no_mark ∙ size);
      relaxed = record {
        light_arcs = λ u v l' d a short at fits. absurd (let e : None ≡ Some d = sym (light_none u) ∙ at in cc);
        heavy_arcs = λ u v l' d a long at fits. absurd (let e : None ≡ Some d = sym (heavy_none u) ∙ at in cc);
      };
    };
    remembered = subst (λ xs. All (IsVertex st.graph.n) xs) (sym remembered) (All-nil (IsVertex st.graph.n));
  };
  width = puts.delta ∙ width;
  entries = All-permutation (IsQueued P st) (record { vertex = st.source; dist = 0 } ∷ old.entries) l.buckets.entries puts.entries
      (subst (λ xs. All (IsQueued P st) (record { vertex = st.source; dist = 0 } ∷ xs)) (sym empty) (All-cons (IsQueued P st) (record { vertex = st.source; dist = 0 }) [] (stage.source, omega arith) (All-nil (IsQueued P st))));
  size = words;
}
  where
    blank : (k u : ℕ) → mark_of (replicate k no_mark) u ≡ no_mark
    blank k u = replicate_at k (u - 1)

    light_none : (u : ℕ) → light_at l.marks.each u ≡ None
    light_none u = ap (λ ms. light_at ms u) marks ∙ ap (λ m. m.light) (blank n u)

    heavy_none : (u : ℕ) → heavy_at l.marks.each u ≡ None
    heavy_none u = ap (λ ms. heavy_at ms u) marks ∙ ap (λ m. m.heavy) (blank n u)
