-- What each kind of step asks of the rule.
use Rattle.std.proofs.Common.{◌≡◌, ℕ, ◌+◌, ◌-◌, ◌<◌, ◌≤◌, min, eqb, true, List, [], ◌∷◌, ◌++◌, length, append-nil, inl, inr, ⊎_elim, get_or, refl, sym, ap, ◌∙◌, subst, arith}
use mathlib.Core.Logic.{dite}
use mathlib.Core.Option.{some, none}
use mathlib.Core.List.{IsPrefix}
use native.Mathlib.Decide.{dec_le}
use prog.Atomic.{either}
use lib.ListN.{get_elem?}
use Rattle.atomic_table.specs.Table.{State, Me, Act, keeps, step, stepped, carried_after, Valid, Allows, Splits, Joins}
use Rattle.atomic_table.proofs.Lists.{exchanged as by_exchange}
use Rattle.sp_word.specs.Word.{Word, Unreached, IsPair, Fits, is_layout, is_word, bits_of, word_of}
use Rattle.sp_word.specs.History.{Event, Call, Offer, Read, IsAnswered, left_by, run}
use Rattle.sp_word.specs.Reply.{reply_to}
use Rattle.sp_offer.specs.Order.{lawful, IsKnownWord}
use Rattle.sp_offer.specs.Histories.{blank, event, found_by, IsLawful}
use Rattle.sp_word.specs.Offering.{OfferStage, Holding, Over, offer_step}
use Rattle.sp_offer.specs.Interleaving.{AskedStep, OfOffer, OfRead, OfMin, TakenStep, Doing, Rests, Offering, stage_at, doing_at, doing_after, doing, call_over, ended, IsAt, MayFollow}
use Rattle.sp_offer.specs.Trail.{Found, last_front}
use Rattle.sp_offer.specs.Story.{Story, Looks, Calls}
use Rattle.sp_offer.specs.Sight.{Sight, newcomer, story, listener, merged_sight}
use Rattle.sp_offer.specs.Rule.{rule, Hears, answer_event, Finds, EndsWith, met, was_read, loaded, exchanged, lessened}
use Rattle.sp_offer.proofs.Ties.{word_back, bits_lesser, bits_spell, spelled}
use Rattle.sp_offer.proofs.Interleavings.{GoesOn, no_step, one_step, doing_there, there_is}
use Rattle.sp_offer.proofs.Trails.{load_over, load_holds, exchange_won, exchange_kept, exchange_holds}
use Rattle.sp_offer.proofs.Steps.{looking, calling, known_word, look_keeps, look_hears, look_tells, call_keeps, call_hears, call_tells, split_keeps, join_keeps}

-- the step made last
last_more : (fs : List Found) (f : Found) → last_front (fs ++ f ∷ []) ≡ f.front
last_more [] f = refl
last_more (g ∷ []) f = refl
last_more (g ∷ h ∷ fs) f = last_more (h ∷ fs) f

-- a known word fits
pub known_fits : (P : ℕ) (law : ℕ → Word → Type 0) → ((v : ℕ) (w : Word) → law v w → IsPair w × Fits P w) → (v : ℕ) (w : Word) → IsKnownWord law v w → Fits P w
known_fits P law pairs v w = ⊎_elim (λ (none : w ≡ Unreached). subst (Fits P) (sym none) tt) (λ (h : law v w). (pairs v w h).1)

-- the law of the rule, and the law that a call picked, which says no more
module _ (law told : ℕ → Word → Type 0) (into : (v : ℕ) (w : Word) → law v w → told v w) where
  known_into : (v : ℕ) (w : Word) → IsKnownWord law v w → IsKnownWord told v w
  known_into v w = ⊎_elim inl (λ (h : law v w). inr (into v w h))

  looks_into : (vertex : ℕ) (found : Word) (s t : Story) → Looks law vertex found s t → Looks told vertex found s t
  looks_into vertex found s t h = record {
    between = h.between;
    seen = h.seen;
    own = h.own;
    last = h.last;
    lawful = known_into vertex found h.lawful;
    words = λ u. known_into u _ (h.words u);
    is_story = h.is_story;
  }

  calls_into : (e : Event) (s t : Story) → Calls law e s t → Calls told e s t
  calls_into e s t h = record {
    between = h.between;
    seen = h.seen;
    own = h.own;
    last = h.last;
    lawful = known_into e.vertex (found_by e.call) h.lawful;
    words = λ u. known_into u _ (h.words u);
    is_story = h.is_story;
  }

module _ {S : Type 0} (P : ℕ) (layout : is_layout P ≡ true) (law told : ℕ → Word → Type 0) (pairs : (v : ℕ) (w : Word) → law v w → IsPair w × Fits P w) (n : ℕ)
    (into : (v : ℕ) (w : Word) → law v w → told v w) where
  -- the seat picks a view, holds no slot still, and the word becomes m
  abbrev Goes : State S Sight → ℕ → ℕ → Me S Sight → (Me S Sight → Type 0) → ℕ → Type 0
  Goes s i id me then m = (w : Sight) × (a : Act S) × Valid s.homes me.1 a × rule P law n (stepped s i m id me.1 w a) × then (w, carried_after me.1 a)

  -- the word that the bits spell is the one to which the history led
  pub spells : (s : State S Sight) (r : rule P law n s) (i : ℕ) → i < n → word_of P (get_or s.words i 0) ≡ run blank r.log (i + 1)
  spells s r i inside = ap (word_of P) (r.ends i inside) ∙ word_back P (run blank r.log (i + 1)) layout (known_fits P law pairs (i + 1) (run blank r.log (i + 1)) (known_word P law n s.words s.views r (i + 1)))

  fits_there : (s : State S Sight) (r : rule P law n s) (i : ℕ) → i < n → Fits P (word_of P (get_or s.words i 0))
  fits_there s r i inside = subst (Fits P) (sym (spells s r i inside)) (known_fits P law pairs (i + 1) (run blank r.log (i + 1)) (known_word P law n s.words s.views r (i + 1)))

  pub is_there : (s : State S Sight) (r : rule P law n s) (i : ℕ) → i < n → is_word P (get_or s.words i 0) ≡ true
  is_there s r i inside = let x : ℕ = get_or s.words i 0 in subst (λ (k : ℕ). is_word P k ≡ true) (sym (spelled P x layout)) (bits_spell P (word_of P x) layout (fits_there s r i inside))

  -- a caller does what its view says
  does : (s : State S Sight) (r : rule P law n s) (id : ℕ) (me : Me S Sight) → get_elem? s.views id ≡ some me.0 → doing r.steps id ≡ me.0.at
  does s r id me at = r.stands id ∙ doing_there s.views id me.0 at

  look_goes : (s : State S Sight) (r : rule P law n s) (i id : ℕ) (me : Me S Sight) (ts : List Found) (d : Doing) (next : List TakenStep) → i < n → get_elem? s.views id ≡ some me.0 → GoesOn n (length s.views) r.steps next r.log id d me.0.trail ts → (then : Me S Sight → Type 0)
      → ((w : Sight) → Hears me.0 w → (w.trail ≡ ts) × (w.seen ≡ r.log) × (w.at ≡ d) → Looks told (i + 1) (word_of P (get_or s.words i 0)) (story me.0) (story w) → then (w, me.1)) → Goes s i id me then (get_or s.words i 0)
  look_goes s r i id me ts d next inside at goes then tell = let w : Sight = looking P law n r.log ts d me.0 in let x : Word = word_of P (get_or s.words i 0) in (
    w,
    keeps,
    tt,
    look_keeps P law n s.words s.views r i id me.0 ts d next at goes,
    tell w (look_hears P law n s.words s.views r id me.0 ts d at) (refl, refl, refl) (looks_into law told into (i + 1) x (story me.0) (story w) (look_tells P law n s.words s.views r (i + 1) id me.0 ts d x at (spells s r i inside))),
  )

  call_goes : (s : State S Sight) (r : rule P law n s) (i id m by : ℕ) (me : Me S Sight) (ts : List Found) (c : Call) (next : List TakenStep) → i < n → get_elem? s.views id ≡ some me.0 → GoesOn n (length s.views) r.steps next (r.log ++ event by (i + 1) c ∷ []) id Rests me.0.trail ts
      → IsAnswered (word_of P (get_or s.words i 0)) c → IsLawful law (i + 1) c → m ≡ bits_of P (left_by c (word_of P (get_or s.words i 0)))
      → (then : Me S Sight → Type 0) → ((w : Sight) → Hears me.0 w → (w.trail ≡ ts) × (w.seen ≡ r.log ++ event by (i + 1) c ∷ []) × (w.at ≡ Rests) → Calls told (event by (i + 1) c) (story me.0) (story w) → then (w, me.1)) → Goes s i id me then m
  call_goes s r i id m by me ts c next inside at goes answer fits new then tell =
      let e : Event = event by (i + 1) c in
      let w : Sight = calling P law n r.log e ts me.0 in
      let same = spells s r i inside in
      let answer' : IsAnswered (run blank r.log e.vertex) e.call = subst (λ (x : Word). IsAnswered x c) same answer in (
        w,
        keeps,
        tt,
        call_keeps P law n s.words s.views r i id m me.0 ts e next inside at goes refl answer' fits (subst (λ (x : Word). m ≡ bits_of P (left_by c x)) same new),
        tell w (call_hears P law n s.words s.views r id me.0 ts e at) (refl, refl, refl) (calls_into law told into e (story me.0) (story w) (call_tells P law n s.words s.views r id me.0 ts e at answer' fits)),
      )

  -- the step that is added to the trail
  abbrev trail_with : (s : State S Sight) → rule P law n s → ℕ → Me S Sight → List Found
  trail_with s r i me = me.0.trail ++ record { front = r.log; vertex = i + 1; word = word_of P (get_or s.words i 0); turn = length r.steps } ∷ []

  finds_there : (s : State S Sight) (r : rule P law n s) (i id : ℕ) (me : Me S Sight) (w : Sight) → i < n → get_elem? s.views id ≡ some me.0 → w.trail ≡ trail_with s r i me → IsPrefix r.log w.seen
      → Finds (i + 1) (word_of P (get_or s.words i 0)) me.0 w
  finds_there s r i id me w inside at same within = record {
    front = r.log;
    turn = length r.steps;
    trail = same;
    begins = (r.begins id me.0 at).0;
    within = within;
    here = sym (spells s r i inside);
  }

  -- the step that is added to those of all callers
  abbrev taken : State S Sight → (i id : ℕ) → AskedStep → TakenStep
  taken s i id asked = record { by = id; vertex = i + 1; asked = asked; found = word_of P (get_or s.words i 0) }

  -- a step that only looks, of an offer that goes on
  step_looks : (s : State S Sight) (r : rule P law n s) (i id : ℕ) (me : Me S Sight) (word : Word) → i < n → get_elem? s.views id ≡ some me.0
      → IsAt (i + 1) word me.0.at → offer_step word (stage_at me.0.at) (word_of P (get_or s.words i 0)) ≡ Holding (word_of P (get_or s.words i 0))
      → (then : Me S Sight → Type 0)
      → ((w : Sight) → Hears me.0 w → Finds (i + 1) (word_of P (get_or s.words i 0)) me.0 w × (w.at ≡ Offering (i + 1) word (word_of P (get_or s.words i 0))) → Looks told (i + 1) (word_of P (get_or s.words i 0)) (story me.0) (story w) → then (w, me.1)) → Goes s i id me then (get_or s.words i 0)
  step_looks s r i id me word inside at may holds then tell =
      let x : Word = word_of P (get_or s.words i 0) in
      let goes = one_step n (length s.views) r.steps r.log r.log id (i + 1) (OfOffer word) x me.0.at (Offering (i + 1) word x) me.0.trail (r.taken id me.0 at) (omega arith) (omega arith) (there_is s.views id me.0 at) r.interleaved r.within r.calls (does s r id me at) (sym (spells s r i inside)) may
      (sym (append-nil r.log) ∙ ap (λ (g : OfferStage). r.log ++ call_over (taken s i id (OfOffer word)) word g) (sym holds)) (ap (doing_at (i + 1) word) holds) in
      look_goes s r i id me (trail_with s r i me) (Offering (i + 1) word x) (taken s i id (OfOffer word) ∷ r.steps) inside at goes then
      (λ w h t l. tell w h (finds_there s r i id me w inside at t.0 ([], append-nil r.log ∙ sym t.1), t.2) l)

  -- a step at which its call takes effect
  step_calls : (s : State S Sight) (r : rule P law n s) (i id m by : ℕ) (me : Me S Sight) (c : Call) (asked : AskedStep) → by ≡ id → i < n → get_elem? s.views id ≡ some me.0
      → MayFollow (taken s i id asked) asked me.0.at → ended (taken s i id asked) asked me.0.at ≡ event id (i + 1) c ∷ [] → doing_after (taken s i id asked) asked me.0.at ≡ Rests
      → IsAnswered (word_of P (get_or s.words i 0)) c → IsLawful law (i + 1) c → m ≡ bits_of P (left_by c (word_of P (get_or s.words i 0)))
      → (then : Me S Sight → Type 0)
      → ((w : Sight) → Hears me.0 w → Finds (i + 1) (word_of P (get_or s.words i 0)) me.0 w × EndsWith (event by (i + 1) c) w × (w.at ≡ Rests) → Calls told (event by (i + 1) c) (story me.0) (story w) → then (w, me.1)) → Goes s i id me then m
  step_calls s r i id m by me c asked mine inside at may ends rests answer fits new then tell =
      let x : Word = word_of P (get_or s.words i 0) in
      let goes = one_step n (length s.views) r.steps r.log (r.log ++ event by (i + 1) c ∷ []) id (i + 1) asked x me.0.at Rests me.0.trail (r.taken id me.0 at) (omega arith) (omega arith) (there_is s.views id me.0 at) r.interleaved r.within r.calls (does s r id me at) (sym (spells s r i inside)) may
      (ap (λ (k : ℕ). r.log ++ event k (i + 1) c ∷ []) mine ∙ ap (λ (l : List Event). r.log ++ l) (sym ends)) rests in
      call_goes s r i id m by me (trail_with s r i me) c (taken s i id asked ∷ r.steps) inside at goes answer fits new then
      (λ w h t l. tell w h (
        finds_there s r i id me w inside at t.0 (event by (i + 1) c ∷ [], sym t.1),
        t.1 ∙ ap (λ (l : List Event). l ++ event by (i + 1) c ∷ []) (sym (ap last_front t.0 ∙ last_more me.0.trail (record { front = r.log; vertex = i + 1; word = word_of P (get_or s.words i 0); turn = length r.steps }))),
        t.2,
      ) l)

  -- an offer, after which the word is the lesser of the word found and the word offered
  offer_goes : (s : State S Sight) (r : rule P law n s) (i id m by : ℕ) (me : Me S Sight) (word : Word) (asked : AskedStep) → by ≡ id → i < n → get_elem? s.views id ≡ some me.0
      → MayFollow (taken s i id asked) asked me.0.at
      → ended (taken s i id asked) asked me.0.at ≡ answer_event id (i + 1) word (word_of P (get_or s.words i 0)) ∷ [] → doing_after (taken s i id asked) asked me.0.at ≡ Rests
      → law (i + 1) word → m ≡ min (get_or s.words i 0) (bits_of P word)
      → (then : Me S Sight → Type 0)
      → ((w : Sight) → Hears me.0 w → Finds (i + 1) (word_of P (get_or s.words i 0)) me.0 w × EndsWith (answer_event by (i + 1) word (word_of P (get_or s.words i 0))) w × (w.at ≡ Rests)
      → Calls told (answer_event by (i + 1) word (word_of P (get_or s.words i 0))) (story me.0) (story w) → then (w, me.1))
      → Goes s i id me then m
  offer_goes s r i id m by me word asked mine inside at may ends rests fits new then tell = let x : Word = word_of P (get_or s.words i 0) in
      step_calls s r i id m by me (Offer word x (reply_to x word)) asked mine inside at may ends rests (refl, refl) fits
      (new ∙ (ap (λ (k : ℕ). min k (bits_of P word)) (spelled P (get_or s.words i 0) layout) ∙ sym (bits_lesser P x word layout (fits_there s r i inside) (pairs (i + 1) word fits).1))) then tell

  -- the same, at the last step of an offer by exchanges
  offer_ends : (s : State S Sight) (r : rule P law n s) (i id m by : ℕ) (me : Me S Sight) (word : Word) → by ≡ id → i < n → get_elem? s.views id ≡ some me.0
      → IsAt (i + 1) word me.0.at → offer_step word (stage_at me.0.at) (word_of P (get_or s.words i 0)) ≡ Over (word_of P (get_or s.words i 0)) (reply_to (word_of P (get_or s.words i 0)) word)
      → law (i + 1) word → m ≡ min (get_or s.words i 0) (bits_of P word)
      → (then : Me S Sight → Type 0)
      → ((w : Sight) → Hears me.0 w → Finds (i + 1) (word_of P (get_or s.words i 0)) me.0 w × EndsWith (answer_event by (i + 1) word (word_of P (get_or s.words i 0))) w × (w.at ≡ Rests)
      → Calls told (answer_event by (i + 1) word (word_of P (get_or s.words i 0))) (story me.0) (story w) → then (w, me.1))
      → Goes s i id me then m
  offer_ends s r i id m by me word mine inside at may over fits new then tell =
      offer_goes s r i id m by me word (OfOffer word) mine inside at may (ap (call_over (taken s i id (OfOffer word)) word) over) (ap (doing_at (i + 1) word) over) fits new then tell

  pub meets : (slots id i : ℕ) (me : Me S Sight) → i < n → Allows (rule P law n) slots id me i (λ x. x) (met P told (step slots i 0 0 none) me)
  meets slots id i me inside s r _ at _ = look_goes s r i id me me.0.trail me.0.at r.steps inside at (no_step n (length s.views) r.steps r.log id me.0.at me.0.trail (r.taken id me.0 at) r.interleaved r.within r.calls (does s r id me at)) (met P told (step slots i 0 0 none) me (get_or s.words i 0))
      (λ w x t h. ((refl, x, is_there s r i inside), h, t.0, t.2))

  module _ (by id : ℕ) (mine : by ≡ id) (me : Me S Sight) where
    pub reads : (slots i : ℕ) → me.0.at ≡ Rests → i < n → Allows (rule P law n) slots id me i (λ x. x) (was_read P told by (step slots i 0 0 none) me)
    reads slots i rest inside s r _ at _ = step_calls s r i id (get_or s.words i 0) by me (Read (word_of P (get_or s.words i 0))) OfRead mine inside at rest refl refl refl tt (spelled P (get_or s.words i 0) layout)
        (was_read P told by (step slots i 0 0 none) me (get_or s.words i 0)) (λ w x t h. ((refl, x, is_there s r i inside), h, t.0, t.1, t.2))

    module _ (word : Word) where
      pub begins_offer : (slots i : ℕ) → me.0.at ≡ Rests → i < n → law (i + 1) word → Allows (rule P law n) slots id me i (λ x. x) (loaded P told by word (step slots i 0 0 none) me)
      begins_offer slots i rest inside fits s r _ at _ =
          let x : ℕ = get_or s.words i 0 in
          let then : Me S Sight → Type 0 = loaded P told by word (step slots i 0 0 none) me x in
          let is = is_there s r i inside in
          let may : IsAt (i + 1) word me.0.at = subst (IsAt (i + 1) word) (sym rest) tt in
          let offered : (bits_of P word ≡ bits_of P word) × Fits P word = (refl, (pairs (i + 1) word fits).1) in
          let begun = ap (λ (d : Doing). offer_step word (stage_at d) (word_of P x)) rest in
          dite (dec_le x (bits_of P word))
          (λ keep. offer_ends s r i id x by me word mine inside at may (begun ∙ load_over P layout word (bits_of P word) offered x is keep) fits (omega arith) then
          (λ w y t h. ((refl, y, is), λ _. h, λ more. absurd (omega arith), t.0, λ _. t.1, λ _. t.2, λ more. absurd (omega arith))))
          (λ more. step_looks s r i id me word inside at may (begun ∙ load_holds P layout word (bits_of P word) offered x is (omega arith)) then
          (λ w y t h. ((refl, y, is), λ keep. absurd (more keep), λ _. h, t.0, λ keep. absurd (more keep), λ keep. absurd (more keep), λ _. t.1)))

      pub exchanges : (slots i old new : ℕ) → me.0.at ≡ Offering (i + 1) word (word_of P old) → i < n → law (i + 1) word → new ≡ bits_of P word → new < old
          → Allows (rule P law n) slots id me i (λ x. either (eqb x old) new x) (exchanged P told by word (step slots i old new none) me)
      exchanges slots i old new holds inside fits tie less s r _ at _ =
          let x : ℕ = get_or s.words i 0 in
          let then : Me S Sight → Type 0 = exchanged P told by word (step slots i old new none) me x in
          let is = is_there s r i inside in
          let may : IsAt (i + 1) word me.0.at = subst (IsAt (i + 1) word) (sym holds) (refl, refl) in
          let offered : (bits_of P word ≡ bits_of P word) × Fits P word = (refl, (pairs (i + 1) word fits).1) in
          let begun = ap (λ (d : Doing). offer_step word (stage_at d) (word_of P x)) holds in
          by_exchange x old new (Goes s i id me then)
          (λ hit. offer_ends s r i id new by me word mine inside at may (begun ∙ exchange_won P layout word (bits_of P word) offered old x hit) fits (omega arith) then
          (λ w y t h. ((refl, y, is), λ _. h, λ _. h, λ miss. absurd (miss hit), t.0, λ _. t.1, λ _. t.1, λ _. t.2, λ _. t.2, λ miss. absurd (miss hit))))
          (λ miss. dite (dec_le x (bits_of P word))
          (λ keep. offer_ends s r i id x by me word mine inside at may (begun ∙ exchange_kept P layout word (bits_of P word) offered old x miss is keep) fits (omega arith) then
          (λ w y t h. ((refl, y, is), λ _. h, λ _. h, λ _ more. absurd (omega arith), t.0, λ _. t.1, λ _. t.1, λ _. t.2, λ _. t.2, λ _ more. absurd (omega arith))))
          (λ more. step_looks s r i id me word inside at may (begun ∙ exchange_holds P layout word (bits_of P word) offered old x miss is (omega arith)) then
          (λ w y t h. ((refl, y, is), λ hit. absurd (miss hit), λ keep. absurd (more keep), λ _ _. h, t.0, λ hit. absurd (miss hit), λ keep. absurd (more keep), λ hit. absurd (miss hit), λ keep. absurd (more keep), λ _ _. t.1))))

      pub lessens : (slots i new : ℕ) → me.0.at ≡ Rests → i < n → law (i + 1) word → new ≡ bits_of P word
          → Allows (rule P law n) slots id me i (λ x. min x new) (lessened P told by word (step slots i new 0 none) me)
      lessens slots i new rest inside fits tie s r _ at _ = let x : ℕ = get_or s.words i 0 in
          offer_goes s r i id (min x new) by me word (OfMin word) mine inside at rest refl refl fits (ap (min x) tie) (lessened P told by word (step slots i new 0 none) me x) (λ w y t h. ((refl, y, is_there s r i inside), h, t.0, t.1, t.2))

module _ {S : Type 0} (P : ℕ) (law : ℕ → Word → Type 0) (n : ℕ) where
  pub splits : (id : ℕ) (v : Sight) → Splits {S = S} (rule P law n) id v v (listener v)
  splits id v s r at = split_keeps P law n s.words s.views r id v at

  pub joins : (id other : ℕ) (v w : Sight) → w.at ≡ Rests → Joins {S = S} (rule P law n) id v other w (merged_sight v w) newcomer
  joins id other v w rests s r at apart there = join_keeps P law n s.words s.views r id other v w rests at apart there

-- a lawful word is a pair that fits
pub lawful_pairs : (P : ℕ) (allows : ℕ → Word → Type 0) (v : ℕ) (w : Word) → lawful P allows v w → IsPair w × Fits P w
lawful_pairs P allows v w h = (h.0, h.1)

-- ## The steps at a vertex, where the layout that the call picked is the table's

-- the seat is at an offer to that vertex
at_word : (vertex : ℕ) (word held : Word) (d : Doing) → 0 < vertex → d ≡ Offering vertex word held → d ≡ Offering (vertex - 1 + 1) word held
at_word vertex word held d low at = let here : vertex ≡ vertex - 1 + 1 = omega arith in at ∙ ap (λ (v : ℕ). Offering v word held) here

at_place : (law : ℕ → Word → Type 0) (vertex : ℕ) (word : Word) → 0 < vertex → law vertex word → law (vertex - 1 + 1) word
at_place law vertex word low fits = let here : vertex ≡ vertex - 1 + 1 = omega arith in subst (λ (v : ℕ). law v word) here fits

module _ {S : Type 0} (P p : ℕ) (allows told : ℕ → Word → Type 0) (n : ℕ) (layout : is_layout P ≡ true) (same : p ≡ P) (into : (v : ℕ) (w : Word) → lawful P allows v w → told v w) where
  pub may_meet : (slots id : ℕ) (me : Me S Sight) → 0 < n → Allows (rule P (lawful P allows) n) slots id me 0 (λ x. x) (met p told (step slots 0 0 0 none) me)
  may_meet slots id me low = subst (λ (q : ℕ). Allows (rule P (lawful P allows) n) slots id me 0 (λ x. x) (met q told (step slots 0 0 0 none) me)) (sym same)
      (meets P layout (lawful P allows) told (lawful_pairs P allows) n into slots id 0 me low)

  module _ (by slots id vertex : ℕ) (me : Me S Sight) (low : 0 < vertex) (few : vertex ≤ n) (mine : by ≡ id) where
    inside : vertex - 1 < n
    inside = omega arith

    pub may_read : me.0.at ≡ Rests → Allows (rule P (lawful P allows) n) slots id me (vertex - 1) (λ x. x) (was_read p told by (step slots (vertex - 1) 0 0 none) me)
    may_read rest = subst (λ (q : ℕ). Allows (rule P (lawful P allows) n) slots id me (vertex - 1) (λ x. x) (was_read q told by (step slots (vertex - 1) 0 0 none) me)) (sym same)
        (reads P layout (lawful P allows) told (lawful_pairs P allows) n into by id mine me slots (vertex - 1) rest inside)

    module _ (word : Word) (fits : lawful P allows vertex word) where
      pub may_begin : me.0.at ≡ Rests → Allows (rule P (lawful P allows) n) slots id me (vertex - 1) (λ x. x) (loaded p told by word (step slots (vertex - 1) 0 0 none) me)
      may_begin rest = subst (λ (q : ℕ). Allows (rule P (lawful P allows) n) slots id me (vertex - 1) (λ x. x) (loaded q told by word (step slots (vertex - 1) 0 0 none) me)) (sym same)
          (begins_offer P layout (lawful P allows) told (lawful_pairs P allows) n into by id mine me word slots (vertex - 1) rest inside (at_place (lawful P allows) vertex word low fits))

      module _ (bits : ℕ) (tie : bits ≡ bits_of p word) where
        pub may_exchange : (held : ℕ) → bits < held → me.0.at ≡ Offering vertex word (word_of p held)
            → Allows (rule P (lawful P allows) n) slots id me (vertex - 1) (λ x. either (eqb x held) bits x) (exchanged p told by word (step slots (vertex - 1) held bits none) me)
        may_exchange held less holds = subst (λ (q : ℕ). Allows (rule P (lawful P allows) n) slots id me (vertex - 1) (λ x. either (eqb x held) bits x) (exchanged q told by word (step slots (vertex - 1) held bits none) me)) (sym same)
            (exchanges P layout (lawful P allows) told (lawful_pairs P allows) n into by id mine me word slots (vertex - 1) held bits (at_word vertex word (word_of P held) me.0.at low (holds ∙ ap (λ (q : ℕ). Offering vertex word (word_of q held)) same)) inside (at_place (lawful P allows) vertex word low fits) (tie ∙ ap (λ (q : ℕ). bits_of q word) same) less)

        pub may_lessen : me.0.at ≡ Rests → Allows (rule P (lawful P allows) n) slots id me (vertex - 1) (λ x. min x bits) (lessened p told by word (step slots (vertex - 1) bits 0 none) me)
        may_lessen rest = subst (λ (q : ℕ). Allows (rule P (lawful P allows) n) slots id me (vertex - 1) (λ x. min x bits) (lessened q told by word (step slots (vertex - 1) bits 0 none) me)) (sym same)
            (lessens P layout (lawful P allows) told (lawful_pairs P allows) n into by id mine me word slots (vertex - 1) bits rest inside (at_place (lawful P allows) vertex word low fits) (tie ∙ ap (λ (q : ℕ). bits_of q word) same))
