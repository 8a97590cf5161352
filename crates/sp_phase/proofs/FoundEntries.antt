-- The entries that a round finds are vertices, at distances that fit words.
use Rattle.std.proofs.Common.{◌≡◌, ℕ, ◌+◌, ◌≤◌, ◌&&◌, nat_le, Bool, true, false, cond, List, [], ◌∷◌, get_or, map, refl, sym, ap, ◌∙◌, subst, arith}
use Rattle.std.specs.Prelude.{All, filter, flat_map, sum_by}
use Rattle.std.proofs.lemmas.Bool.{leb-true, le-leb, and_parts}
use Rattle.std.proofs.lemmas.List.Elements.{All-nil, All-cons, All-head, All-tail, All-append, All-map, All-filter, filter_passes}
use Rattle.std.proofs.lemmas.List.Sums.{sum_by-cons, get_or-le-sum_by}
use Rattle.sp_word.specs.Word.{Word, Unreached, Pair, max_dist}
use Rattle.sp_word.specs.History.{Call, Offer, Read, Event}
use Rattle.sp_word.specs.declared.reply.Reply.{Reply}
use Rattle.sp_word.specs.declared.reply.Reply.TheVariants.{Shorter, SmallerPred, Kept}
use Rattle.sp_paths.specs.declared.arc.Arc.{Arc}
use Rattle.sp_paths.specs.Paths.{IsGraph, IsVertex, IsArc}
use Rattle.sp_paths.specs.Rows.{row_of}
use Rattle.sp_bins.specs.declared.entry.Entry.{Entry}
use Rattle.sp_graph.specs.RowsValue.{Split}
use Rattle.sp_rounds.specs.declared.task.TaskKind.{TaskKind}
use Rattle.sp_rounds.specs.declared.task.TaskKind.TheVariants.{Light, Heavy}
use Rattle.sp_rounds.specs.declared.task.Task.{Task}
use Rattle.sp_rounds.specs.Offers.{AskedOffer, arcs_of, arcs_of_kind, offer_along, offers_along, offers_of, AreSameOffers}
use Rattle.sp_rounds.specs.Calls.{question_of, entries, entry_of_reply, entry_of_call, word_offered}
use Rattle.sp_phase.specs.Stage.{Stage, rows_of}
use Rattle.sp_phase.specs.Running.{IsQueued}

-- a test of offers, by the vertex and the distance
module _ (test : ℕ → ℕ → Bool) where
  abbrev word_passes : ℕ → Word → Bool
  word_passes v Unreached = true
  word_passes v (Pair d p) = test v d

  abbrev passes : AskedOffer → Bool
  passes a = word_passes a.vertex a.word

  weight : AskedOffer → ℕ
  weight a = cond (passes a) 0 1

  weighs_nothing : (a : AskedOffer) → passes a ≡ true → weight a ≡ 0
  unfolding weight
  weighs_nothing a h = ap (λ b. cond b 0 1) h

  light_passes : (b : Bool) → cond b 0 1 ≤ 0 → b ≡ true
  light_passes true h = refl
  light_passes false h = absurd (omega arith)

  no_weight : (xs : List AskedOffer) → All (λ a. passes a ≡ true) xs → sum_by weight xs ≡ 0
  no_weight [] all = refl
  no_weight (x ∷ xs) all =
      let one = weighs_nothing x (All-head (λ a. passes a ≡ true) x xs all) in
      let rest = no_weight xs (All-tail (λ a. passes a ≡ true) x xs all) in
      let both = sum_by-cons weight x xs in
      let w : ℕ = weight x in let s : ℕ = sum_by weight xs in let t : ℕ = sum_by weight (x ∷ xs) in
      let e1 : w ≡ 0 = one in let e2 : s ≡ 0 = rest in let e3 : t ≡ w + s = both in
      omega arith

  all_pass : (xs : List AskedOffer) → sum_by weight xs ≡ 0 → All (λ a. passes a ≡ true) xs
  unfolding weight
  all_pass xs none k d low = light_passes (passes (get_or xs k d)) (let h = get_or-le-sum_by weight xs k d low in let s : ℕ = sum_by weight xs in let n : s ≡ 0 = none in omega arith)

  -- offers that are the same ones pass too
  same_pass : (xs ys : List AskedOffer) → AreSameOffers xs ys → All (λ a. passes a ≡ true) ys → All (λ a. passes a ≡ true) xs
  same_pass xs ys same all = all_pass xs (same weight ∙ no_weight ys all)

  abbrev entry_passes : Entry → Type 0
  entry_passes e = test e.vertex e.dist ≡ true

  of_reply : (v : ℕ) (w : Word) (reply : Reply) → word_passes v w ≡ true → All entry_passes (entry_of_reply v w reply)
  of_reply v Unreached reply h = All-nil entry_passes
  of_reply v (Pair d p) Shorter h = All-cons entry_passes (record { vertex = v; dist = d }) [] h (All-nil entry_passes)
  of_reply v (Pair d p) SmallerPred h = All-nil entry_passes
  of_reply v (Pair d p) Kept h = All-nil entry_passes

  of_call : (v : ℕ) (c : Call) → word_passes v (word_offered c) ≡ true → All entry_passes (entry_of_call v c)
  of_call v (Offer word found reply) h = of_reply v word reply h
  of_call v (Read found) h = All-nil entry_passes

  entries_pass : (calls : List Event) → All (λ a. passes a ≡ true) (map question_of calls) → All entry_passes (entries calls)
  entries_pass [] all = All-nil entry_passes
  entries_pass (e ∷ es) all =
      All-append entry_passes (entry_of_call e.vertex e.call) (entries es)
      (of_call e.vertex e.call (All-head (λ a. passes a ≡ true) (question_of e) (map question_of es) all))
      (entries_pass es (All-tail (λ a. passes a ≡ true) (question_of e) (map question_of es) all))

-- ## The test that is wanted here

abbrev is_queued : (n max : ℕ) → ℕ → ℕ → Bool
is_queued n max v d = (nat_le 1 v && nat_le v n) && nat_le d max

and_true : (a b : Bool) → a ≡ true → b ≡ true → (a && b) ≡ true
and_true a b x y = ap (λ c. c && b) x ∙ y

queued_true : (n max v d : ℕ) → IsVertex n v → d ≤ max → is_queued n max v d ≡ true
queued_true n max v d at within =
    and_true (nat_le 1 v && nat_le v n) (nat_le d max) (and_true (nat_le 1 v) (nat_le v n) (le-leb 1 v at.0) (le-leb v n at.1)) (le-leb d max within)

queued_means : (n max v d : ℕ) → is_queued n max v d ≡ true → IsVertex n v × (d ≤ max)
queued_means n max v d h =
    let both = and_parts (nat_le 1 v && nat_le v n) (nat_le d max) h in
    let one = and_parts (nat_le 1 v) (nat_le v n) both.0 in
    ((leb-true 1 v one.0, leb-true v n one.1), leb-true d max both.1)

row_arcs : (rows : Split) (kind : TaskKind) (v : ℕ) → IsGraph rows.graph → All (IsArc rows.graph.n) (arcs_of_kind rows kind v)
row_arcs rows Light v gr = All-filter _ (IsArc rows.graph.n) (row_of rows.graph.arcs v) (All-filter _ (IsArc rows.graph.n) rows.graph.arcs gr)
row_arcs rows Heavy v gr = All-filter _ (IsArc rows.graph.n) (row_of rows.graph.arcs v) (All-filter _ (IsArc rows.graph.n) rows.graph.arcs gr)

module _ (n max : ℕ) where
  abbrev Fits : AskedOffer → Type 0
  Fits a = passes (is_queued n max) a ≡ true

  along : (d : ℕ) (arcs : List Arc) → All (IsArc n) arcs → All Fits (offers_along max d arcs)
  along d arcs fine =
      let short : Arc → Bool = λ a. nat_le (d + a.len) max in
      All-map Fits (offer_along d) (filter short arcs)
      (λ k dd lt.
      let a = get_or (filter short arcs) k dd in
      let arc = All-filter short (IsArc n) arcs fine k dd lt in
      let within = leb-true (d + a.len) max (filter_passes short arcs k dd lt) in
      queued_true n max a.head (d + a.len) arc.1 within)

  tasks_pass : (rows : Split) (tasks : List Task) → IsGraph rows.graph → rows.graph.n ≡ n → All Fits (flat_map (offers_of max rows) tasks)
  tasks_pass rows [] gr same = All-nil Fits
  tasks_pass rows (t ∷ ts) gr same =
      let A : ℕ → Type 0 = λ m. All (IsArc m) (arcs_of rows t) in
      All-append Fits (offers_of max rows t) (flat_map (offers_of max rows) ts) (along t.dist (arcs_of rows t) (subst A same (row_arcs rows t.kind t.vertex gr))) (tasks_pass rows ts gr same)

pub found_queued : (P : ℕ) (st : Stage) (tasks : List Task) (calls : List Event) (found : List Entry) → IsGraph st.graph
    → AreSameOffers (map question_of calls) (flat_map (offers_of (max_dist P) (rows_of st)) tasks) → found ≡ entries calls → All (IsQueued P st) found
found_queued P st tasks calls found gr same is k d lt =
    let test = is_queued st.graph.n (max_dist P) in
    let all = entries_pass test calls (same_pass test (map question_of calls) (flat_map (offers_of (max_dist P) (rows_of st)) tasks) same (tasks_pass st.graph.n (max_dist P) (rows_of st) tasks gr refl)) in
    let every : All (entry_passes test) found = subst (λ xs. All (entry_passes test) xs) (sym is) all in
    let e = get_or found k d in
    queued_means st.graph.n (max_dist P) e.vertex e.dist (every k d lt)
