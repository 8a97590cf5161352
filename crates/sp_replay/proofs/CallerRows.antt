-- The rows of a programme go on with the callers' calls.
use Rattle.std.proofs.Common.{◌≡◌, ◌≢◌, ℕ, zero, suc, ◌+◌, ◌==◌, Bool, true, false, if◌then◌else◌, List, [], ◌∷◌, ◌++◌, length, refl, sym, ap, ap₂, ◌∙◌, subst, arith, append_assoc, append-nil, length-append, eq-eqb, ne_eqb, Option, Some, None}
use Rattle.std.specs.List.{slice_get}
use Rattle.std.proofs.lemmas.Bool.{cond-true, cond-false}
use mathlib.Core.List.{IsPrefix}
use Rattle.sp_word.specs.declared.reply.Reply.TheVariants.{Kept}
use Rattle.sp_word.specs.Word.{Word, is_below, is_same}
use Rattle.sp_word.specs.History.{Event, Call, Offer, Read}
use Rattle.sp_word.specs.Reply.{reply_to}
use Rattle.sp_word.specs.Offering.{OfferStage, Before, Holding, Over, Overrun, offer_step}
use Rattle.sp_offer.specs.Histories.{event}
use Rattle.sp_offer.specs.Interleaving.{AskedStep, OfOffer, OfRead, OfMin, TakenStep, Doing, Rests, Offering, stage_at, doing_at, doing_after, doing, call_over, ended, calls_of, IsAt, MayFollow}
use Rattle.sp_machine.specs.declared.item.Item.{Item}
use Rattle.sp_machine.specs.declared.item.Item.TheVariants as items
use Rattle.sp_replay.specs.CallerRuns.{item_of, items_of, begun, row, HasItem}

-- an offer that stands at its load or an exchange goes on or ends
abbrev pub IsOn : OfferStage → Type 0
IsOn Before = ⊥
IsOn (Holding h) = Unit {0}
IsOn (Over x r) = Unit {0}
IsOn Overrun = ⊥

on_load : (x : Word) (b : Bool) → IsOn (if b then Holding x else Over x Kept)
on_load x true = tt
on_load x false = tt

on_exchange : (w x : Word) (same b : Bool) → IsOn (if same then Over x (reply_to x w) else if b then Holding x else Over x Kept)
on_exchange w x true b = tt
on_exchange w x false true = tt
on_exchange w x false false = tt

pub step_on : (w x : Word) (d : Doing) → IsOn (offer_step w (stage_at d) x)
step_on w x Rests = on_load x (is_below w x)
step_on w x (Offering v y h) = on_exchange w x (is_same x h) (is_below w x)

-- the item of a step
abbrev pub asked_item : (P : ℕ) → TakenStep → AskedStep → Item P
asked_item P s (OfOffer w) = items.Offer s.vertex w
asked_item P s OfRead = items.Read s.vertex
asked_item P s (OfMin w) = items.Offer s.vertex w

module _ (P : ℕ) where
  cons_if : (b : Bool) (i : Item P) (l m n : List (Item P)) → l ≡ m ++ n → (if b then i ∷ l else l) ≡ (if b then i ∷ m else m) ++ n
  cons_if true i l m n h = ap (λ (z : List (Item P)). i ∷ z) h
  cons_if false i l m n h = h

  pub items_append : (k : ℕ) (xs ys : List Event) → items_of P k (xs ++ ys) ≡ items_of P k xs ++ items_of P k ys
  items_append k [] ys = refl
  items_append k (e ∷ es) ys = cons_if (k == e.by) (item_of P e.vertex e.call) (items_of P k (es ++ ys)) (items_of P k es) (items_of P k ys) (items_append k es ys)

  one_here : (k v : ℕ) (c : Call) → items_of P k (event k v c ∷ []) ≡ item_of P v c ∷ []
  one_here k v c = cond-true (k == k) (item_of P v c ∷ []) [] (eq-eqb k k refl)

  one_else : (j k v : ℕ) (c : Call) → j ≢ k → items_of P j (event k v c ∷ []) ≡ []
  one_else j k v c other = cond-false (j == k) (item_of P v c ∷ []) [] (ne_eqb j k other)

  row_stage : (s : TakenStep) (w : Word) (g : OfferStage) → IsOn g → items_of P s.by (call_over s w g) ++ begun P (doing_at s.vertex w g) ≡ items.Offer s.vertex w ∷ []
  row_stage s w Before on = absurd on
  row_stage s w (Holding h) on = refl
  row_stage s w (Over x r) on = append-nil _ ∙ one_here s.by s.vertex (Offer w x r)
  row_stage s w Overrun on = absurd on

  row_asked : (s : TakenStep) (asked : AskedStep) (d : Doing) → HasItem asked → items_of P s.by (ended s asked d) ++ begun P (doing_after s asked d) ≡ asked_item P s asked ∷ []
  row_asked s (OfOffer w) d has = row_stage s w (offer_step w (stage_at d) s.found) (step_on w s.found d)
  row_asked s OfRead d has = append-nil _ ∙ one_here s.by s.vertex (Read s.found)
  row_asked s (OfMin w) d has = absurd has

  over_else : (s : TakenStep) (w : Word) (g : OfferStage) (j : ℕ) → j ≢ s.by → items_of P j (call_over s w g) ≡ []
  over_else s w Before j other = refl
  over_else s w (Holding h) j other = refl
  over_else s w (Over x r) j other = one_else j s.by s.vertex (Offer w x r) other
  over_else s w Overrun j other = refl

  ended_else : (s : TakenStep) (asked : AskedStep) (d : Doing) (j : ℕ) → j ≢ s.by → items_of P j (ended s asked d) ≡ []
  ended_else s (OfOffer w) d j other = over_else s w (offer_step w (stage_at d) s.found) j other
  ended_else s OfRead d j other = one_else j s.by s.vertex (Read s.found) other
  ended_else s (OfMin w) d j other = one_else j s.by s.vertex (Offer w s.found (reply_to s.found w)) other

  -- what the caller of a step does after it, and what another does
  pub doing_here : (s : TakenStep) (before : List TakenStep) → doing (s ∷ before) s.by ≡ doing_after s s.asked (doing before s.by)
  doing_here s before = cond-true (s.by == s.by) (doing_after s s.asked (doing before s.by)) (doing before s.by) (eq-eqb s.by s.by refl)

  pub doing_else : (s : TakenStep) (before : List TakenStep) (j : ℕ) → j ≢ s.by → doing (s ∷ before) j ≡ doing before j
  doing_else s before j other = cond-false (j == s.by) (doing_after s s.asked (doing before j)) (doing before j) (ne_eqb j s.by other)

  -- the row of another caller stays
  pub items_else : (s : TakenStep) (before : List TakenStep) (j : ℕ) → j ≢ s.by → items_of P j (calls_of (s ∷ before)) ≡ items_of P j (calls_of before)
  items_else s before j other = items_append j (calls_of before) (ended s s.asked (doing before s.by))
      ∙ (ap (λ (l : List (Item P)). items_of P j (calls_of before) ++ l) (ended_else s s.asked (doing before s.by) j other) ∙ append-nil _)

  pub row_else : (s : TakenStep) (before : List TakenStep) (j : ℕ) → j ≢ s.by → row P (s ∷ before) j ≡ row P before j
  row_else s before j other = ap₂ (λ (l : List (Item P)) (d : Doing). l ++ begun P d) (items_else s before j other) (doing_else s before j other)

  -- that of the step's caller has the step's item behind the calls before
  pub row_here : (s : TakenStep) (before : List TakenStep) → HasItem s.asked → row P (s ∷ before) s.by ≡ items_of P s.by (calls_of before) ++ asked_item P s s.asked ∷ []
  row_here s before has = let d : Doing = doing before s.by in let l : List (Item P) = items_of P s.by (calls_of before) in
      ap₂ (λ (m : List (Item P)) (e : Doing). m ++ begun P e) (items_append s.by (calls_of before) (ended s s.asked d)) (doing_here s before)
      ∙ (append_assoc l (items_of P s.by (ended s s.asked d)) (begun P (doing_after s s.asked d))
      ∙ ap (λ (m : List (Item P)). l ++ m) (row_asked s s.asked d has))

  begun_prefix : (s : TakenStep) (asked : AskedStep) (d : Doing) → HasItem asked → MayFollow s asked d → IsPrefix (begun P d) (asked_item P s asked ∷ [])
  begun_prefix s (OfOffer w) Rests has may = (items.Offer s.vertex w ∷ [], refl)
  begun_prefix s (OfOffer w) (Offering u y h) has may = ([], λ i. items.Offer (may.0 i) (may.1 i) ∷ [])
  begun_prefix s OfRead d has may = (items.Read s.vertex ∷ [], ap (λ (e : Doing). begun P e ++ items.Read s.vertex ∷ []) may)
  begun_prefix s (OfMin w) d has may = absurd has

  prefix_behind : (xs ys zs : List (Item P)) → IsPrefix ys zs → IsPrefix (xs ++ ys) (xs ++ zs)
  prefix_behind xs ys zs (more, same) = (more, append_assoc xs ys more ∙ ap (λ (l : List (Item P)). xs ++ l) same)

  prefix_trans : (xs ys zs : List (Item P)) → IsPrefix xs ys → IsPrefix ys zs → IsPrefix xs zs
  prefix_trans xs ys zs (a, p) (b, q) = (a ++ b, sym (append_assoc xs a b) ∙ (ap (λ (l : List (Item P)). l ++ b) p ∙ q))

  -- the row before begins it
  pub row_before : (s : TakenStep) (before : List TakenStep) (all : List (Item P)) → HasItem s.asked → MayFollow s s.asked (doing before s.by) → IsPrefix (row P (s ∷ before) s.by) all → IsPrefix (row P before s.by) all
  row_before s before all has may h = let l : List (Item P) = items_of P s.by (calls_of before) in
      prefix_trans (row P before s.by) (l ++ asked_item P s s.asked ∷ []) all
      (prefix_behind l (begun P (doing before s.by)) (asked_item P s s.asked ∷ []) (begun_prefix s s.asked (doing before s.by) has may))
      (subst (λ (m : List (Item P)). IsPrefix m all) (row_here s before has) h)

  there : (xs more : List (Item P)) (i : Item P) → slice_get ((xs ++ i ∷ []) ++ more) (length xs) ≡ Some i
  there [] more i = refl
  there (x ∷ xs) more i = there xs more i

  -- and there the caller's actor finds the step's item
  pub item_there : (s : TakenStep) (before : List TakenStep) (all : List (Item P)) → HasItem s.asked → IsPrefix (row P (s ∷ before) s.by) all → slice_get all (length (items_of P s.by (calls_of before))) ≡ Some (asked_item P s s.asked)
  item_there s before all has (more, same) = let l : List (Item P) = items_of P s.by (calls_of before) in
      ap (λ (m : List (Item P)). slice_get m (length l)) (sym same ∙ ap (λ (m : List (Item P)). m ++ more) (row_here s before has)) ∙ there l more (asked_item P s s.asked)

  -- how many calls are behind the caller
  abbrev pub passed : ℕ → AskedStep → OfferStage → ℕ
  passed i (OfOffer w) Before = i
  passed i (OfOffer w) (Holding h) = i
  passed i (OfOffer w) (Over x r) = i + 1
  passed i (OfOffer w) Overrun = i
  passed i OfRead g = i + 1
  passed i (OfMin w) g = i + 1

  abbrev pub stage_of_step : TakenStep → AskedStep → Doing → OfferStage
  stage_of_step s (OfOffer w) d = offer_step w (stage_at d) s.found
  stage_of_step s OfRead d = Before
  stage_of_step s (OfMin w) d = Before

  one_more : (l : List (Item P)) (k v : ℕ) (c : Call) → length (l ++ items_of P k (event k v c ∷ [])) ≡ length l + 1
  one_more l k v c = ap (λ (m : List (Item P)). length (l ++ m)) (one_here k v c) ∙ length-append l (item_of P v c ∷ [])

  passed_stage : (l : List (Item P)) (s : TakenStep) (w : Word) (g : OfferStage) → length (l ++ items_of P s.by (call_over s w g)) ≡ passed (length l) (OfOffer w) g
  passed_stage l s w Before = ap length (append-nil l)
  passed_stage l s w (Holding h) = ap length (append-nil l)
  passed_stage l s w (Over x r) = one_more l s.by s.vertex (Offer w x r)
  passed_stage l s w Overrun = ap length (append-nil l)

  passed_asked : (l : List (Item P)) (s : TakenStep) (asked : AskedStep) (d : Doing) → length (l ++ items_of P s.by (ended s asked d)) ≡ passed (length l) asked (stage_of_step s asked d)
  passed_asked l s (OfOffer w) d = passed_stage l s w (offer_step w (stage_at d) s.found)
  passed_asked l s OfRead d = one_more l s.by s.vertex (Read s.found)
  passed_asked l s (OfMin w) d = one_more l s.by s.vertex (Offer w s.found (reply_to s.found w))

  pub passed_here : (s : TakenStep) (before : List TakenStep)
      → length (items_of P s.by (calls_of (s ∷ before))) ≡ passed (length (items_of P s.by (calls_of before))) s.asked (stage_of_step s s.asked (doing before s.by))
  passed_here s before = ap length (items_append s.by (calls_of before) (ended s s.asked (doing before s.by))) ∙ passed_asked (items_of P s.by (calls_of before)) s s.asked (doing before s.by)
