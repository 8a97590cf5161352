-- One line more.
use Rattle.std.proofs.Common.{◌≡◌, ℕ, ◌-◌, ◌<◌, ◌≤◌, Bool, true, false, ◌&&◌, ◌||◌, cond, eqb, List, [], ◌∷◌, ◌++◌, length, take, get_or, length-take, Result, Ok, Err, refl, sym, ap, ◌∙◌, arith}
use Rattle.std.proofs.lemmas.List.{append-nil, get_or-take}
use Rattle.std.proofs.lemmas.List.Concat.{flat_map-append}
use Rattle.std.proofs.lemmas.List.Folds.{list_any-append}
use Rattle.std.specs.List.{flat_map}
use Rattle.std.specs.Prelude.{slice_index, OnOk}
use Rattle.sp_word.specs.Word.{Word, Pair}
use Rattle.sp_machine.specs.declared.item.Item.{Item}
use Rattle.sp_machine.specs.Programme.{row_of}
use Rattle.sp_text.specs.Text.{ItemLine as Line, is_named}
use Rattle.sp_replay.specs.Replay.{named_by, items_of_form, item_for, step_by, IsReplay, AreKept}

flat_push : {A B : Type 0} (f : A → List B) (xs : List A) (x : A) → flat_map f (xs ++ x ∷ []) ≡ flat_map f xs ++ f x
flat_push f xs x = flat_map-append f xs (x ∷ []) ∙ ap (λ (t : List _). flat_map f xs ++ t) (append-nil (f x))

flat_same : {A B : Type 0} (f : A → List B) (xs : List A) (x : A) → f x ≡ [] → flat_map f xs ≡ flat_map f (xs ++ x ∷ [])
flat_same f xs x none = sym (flat_push f xs x ∙ rw none (append-nil (flat_map f xs)))

named_push : (vertex : ℕ) (before : List Line) (line : Line) → is_named 0 vertex (before ++ line ∷ []) ≡ (is_named 0 vertex before || ((eqb line.kind 0 && eqb (slice_index line.numbers 0) vertex) || false))
named_push vertex before line = list_any-append (λ (item : Line). eqb item.kind 0 && eqb (slice_index item.numbers 0) vertex) before (line ∷ [])

marked : (b has : Bool) → cond b true has ≡ (has || (b || false))
marked true true = refl
marked true false = refl
marked false true = refl
marked false false = refl

unmarked : (b has : Bool) → has ≡ (has || ((false && b) || false))
unmarked b true = refl
unmarked b false = refl

same_branch : {A : Type 0} (b : Bool) (x : A) → cond b x x ≡ x
same_branch true x = refl
same_branch false x = refl

-- `i V D P`
pub start_kept : {P : ℕ} (before : List Line) (line : Line) (has more : ℕ → Bool) (given all : List (ℕ × Word)) (lists : List (List (Item P))) (steps ns : List ℕ) (place first : ℕ) → AreKept before has given lists steps
    → line.kind ≡ place → line.numbers ≡ ns → place ≡ 0 → first ≡ slice_index ns 0 → ((vertex : ℕ) → more vertex ≡ cond (eqb first vertex) true (has vertex)) → all ≡ given ++ (slice_index ns 0, Pair (slice_index ns 1) (slice_index ns 2)) ∷ []
    → AreKept (before ++ line ∷ []) more all lists steps
start_kept before line has more given all lists steps ns place first h kind numbers start first_is marks pushed =
    let zero_kind : line.kind ≡ 0 = kind ∙ start in
    record {
      known = λ vertex. marks vertex ∙ (marked (eqb first vertex) (has vertex) ∙ sym (named_push vertex before line ∙ rw (zero_kind, numbers, ← first_is, ← h.known vertex) refl));
      named = pushed ∙ sym (flat_push named_by before line ∙ rw (zero_kind, numbers, ← h.named) refl);
      rows = λ actor some. h.rows actor some ∙ flat_same (item_for actor) before line (rw zero_kind (same_branch (eqb (slice_index line.numbers 0) actor) []));
      schedule = h.schedule ∙ flat_same step_by before line (rw zero_kind refl);
    }

-- `o A V D P`, `r A V` and `a A U V L`
pub item_kept : {P : ℕ} (before : List Line) (line : Line) (has : ℕ → Bool) (given : List (ℕ × Word)) (lists all : List (List (Item P))) (steps ns : List ℕ) (place first : ℕ) (item : Item P) → AreKept before has given lists steps
    → line.kind ≡ place → line.numbers ≡ ns → eqb place 0 ≡ false → eqb place 4 ≡ false → first ≡ slice_index ns 0 → items_of_form place ns ≡ item ∷ [] → ((actor : ℕ) → 1 ≤ actor → row_of all actor ≡ row_of lists actor ++ cond (eqb first actor) (item ∷ []) [])
    → AreKept (before ++ line ∷ []) has given all steps
item_kept before line has given lists all steps ns place first item h kind numbers no_start no_step first_is is pushed = record {
  known = λ vertex. h.known vertex ∙ (unmarked (eqb (slice_index line.numbers 0) vertex) (is_named 0 vertex before) ∙ sym (named_push vertex before line ∙ rw (kind, no_start) refl));
  named = h.named ∙ flat_same named_by before line (rw (kind, no_start) refl);
  rows = λ actor some. pushed actor some ∙ (rw (h.rows actor some) (sym (flat_push (item_for actor) before line ∙ rw (kind, numbers, is, ← first_is) refl)));
  schedule = h.schedule ∙ flat_same step_by before line (rw (kind, no_step) refl);
}

pub on_ok : {U E : Type 0} {P Q : Type 0} (r : Result U E) → OnOk r P → (P → Q) → OnOk r Q
on_ok (Ok u) h more = more h
on_ok (Err e) h more = tt

-- The rows of the first actors.
pub row_kept : {A : Type 0} (xs : List (List A)) (most actor : ℕ) → 1 ≤ actor → actor ≤ most → get_or (take most xs) (actor - 1) [] ≡ get_or xs (actor - 1) []
row_kept xs most actor some few =
    let within : actor - 1 < most = omega arith in
    get_or-take most xs (actor - 1) [] within

pub rows_short : {A : Type 0} (xs : List (List A)) (most : ℕ) → length (take most xs) ≤ most
rows_short xs most = omega (arith, length-take most xs)

-- What all lines say.
pub given : {P : ℕ} (problem : List ℕ) (lines : List Line) (has : ℕ → Bool) (named : List (ℕ × Word)) (rows kept : List (List (Item P))) (steps : List ℕ) (words actors most : ℕ) (all : List (ℕ × Word)) (schedule : List ℕ)
    → AreKept lines has named rows steps → words ≡ slice_index problem 0 → actors ≡ slice_index problem 1 → most ≡ slice_index problem 1 → kept ≡ take most rows → all ≡ named → schedule ≡ steps
    → IsReplay problem lines (record { words = words; actors = actors; named = all; rows = kept }) schedule
given problem lines has named rows kept steps words actors most all schedule h words_are actors_are most_is kept_is all_is schedule_is =
    let same : most ≡ actors = most_is ∙ sym actors_are in
    record {
      words = words_are;
      actors = actors_are;
      named = all_is ∙ h.named;
      rows = λ actor within. rw kept_is (row_kept rows most actor within.0 (omega (arith, within.1, same)) ∙ h.rows actor within.0);
      no_more = rw (kept_is, ← same) (rows_short rows most);
      schedule = schedule_is ∙ h.schedule;
    }
