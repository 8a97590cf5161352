-- What a text without a fault says is a programme.
use Rattle.std.proofs.Common.{⊎_elim, ◌≡◌, ℕ, zero, suc, ◌+◌, ◌-◌, ◌<◌, ◌≤◌, Bool, true, false, cond, eqb, List, [], ◌∷◌, length, get_or, Some, None, refl, subst, arith, lit<}
use Rattle.std.specs.Prelude.{slice_index, slice_get, codes, All}
use Rattle.std.specs.List.{flat_map}
use Rattle.std.proofs.lemmas.Bool.{eqb-true, cases_lt}
use Rattle.std.proofs.lemmas.Option.{none-some}
use Rattle.std.proofs.lemmas.List.{get_or_past}
use Rattle.std.proofs.lemmas.List.Elements.{All-nil, All-cons, All-head, All-tail, All-append}
use Rattle.sp_text.specs.declared.formats.Top.TheVariants.{Problem}
use Rattle.sp_text.specs.Formats.{LineForm, field, ranges_of}
use Rattle.sp_text.specs.Text.{ItemLine as Line, first_out}
use Rattle.sp_text.specs.Accepted.{IsAllowed, IsAccepted}
use Rattle.sp_machine.specs.declared.item.Item.{Item}
use Rattle.sp_machine.specs.Programme.{Programme, IsNumber, IsItem, IsProgramme}
use Rattle.sp_replay.specs.ReplayFormat.{replay, offers, actors_file, actors_line, replay_lines, start_line, offer_line, read_line, relax_line, step_line}
use Rattle.sp_replay.specs.Replay.{named_by, offer_of, items_of_form, item_for, step_by, IsReplay}
use Rattle.sp_replay.specs.Offers.{offer_for, IsOffers}
use Rattle.sp_replay.proofs.Bounds.{at_most, at_least}

-- 1. Lists.

all_flat : {A B : Type 0} (P : A → Type 0) (Q : B → Type 0) (f : A → List B) → ((x : A) → P x → All Q (f x)) → (xs : List A) → All P xs → All Q (flat_map f xs)
all_flat P Q f each [] all = All-nil Q
all_flat P Q f each (x ∷ xs) all = All-append Q (f x) (flat_map f xs) (each x (All-head P x xs all)) (all_flat P Q f each xs (All-tail P x xs all))

all_at : {A : Type 0} (Q : A → Type 0) (xs : List A) (k : ℕ) (x : A) → All Q xs → slice_get xs k ≡ Some x → Q x
all_at Q [] zero x all is = absurd (none-some x is)
all_at Q [] (suc k) x all is = absurd (none-some x is)
all_at Q (y ∷ xs) zero x all is = let same : y ≡ x = cc in subst Q same (All-head Q y xs all)
all_at Q (y ∷ xs) (suc k) x all is = all_at Q xs k x (All-tail Q y xs all) is

all_cond : {A : Type 0} (Q : A → Type 0) (b : Bool) (xs ys : List A) → (b ≡ true → All Q xs) → (b ≡ false → All Q ys) → All Q (cond b xs ys)
all_cond Q true xs ys first second = first refl
all_cond Q false xs ys first second = second refl

all_one : {A : Type 0} (Q : A → Type 0) (x : A) → Q x → All Q (x ∷ [])
all_one Q x is = All-cons Q x [] is (All-nil Q)

-- 2. A line.

record Has (P : ℕ) (problem : List ℕ) (form : LineForm) (ns : List ℕ) : Type 0 where
  full : length ns ≡ length form.fields
  fits : first_out (ranges_of P) problem form.fields ns ≡ None

has_form : (P : ℕ) (word : List ℕ) (forms : List LineForm) (problem : List ℕ) (line : Line) (place : ℕ) (form : LineForm) → IsAllowed (actors_file word forms) (ranges_of P) problem line → line.kind ≡ place → slice_get forms place ≡ Some form → Has P problem form line.numbers
has_form P word forms problem line place form allowed kind there =
    let same : line.form ≡ form = let at_place : slice_get forms place ≡ Some line.form = rw (← kind) allowed.form in cc in
    record { full = rw (← same) allowed.full; fits = rw (← same) allowed.in_range }

in_replay : (P : ℕ) (problem : List ℕ) (line : Line) (place : ℕ) (form : LineForm) → IsAllowed replay (ranges_of P) problem line → eqb line.kind place ≡ true → slice_get replay_lines place ≡ Some form → Has P problem form line.numbers
in_replay P problem line place form allowed is there = has_form P (codes "rep") replay_lines problem line place form allowed (eqb-true line.kind place is) there

-- The number at place k is from 1 to that number of the problem line.
numbered : (P : ℕ) (problem : List ℕ) (form : LineForm) (ns : List ℕ) (k n : ℕ) (letter : ℕ) → Has P problem form ns → k < length form.fields → slice_get form.fields k ≡ Some (field letter 1 (Problem n)) → IsNumber (slice_index problem n) (slice_index ns k)
numbered P problem form ns k n letter has within is =
    (at_least (ranges_of P) problem form.fields ns k (field letter 1 (Problem n)) has.fits is (omega (arith, has.full)), at_most (ranges_of P) problem form.fields ns k (field letter 1 (Problem n)) has.fits is)

named_in : (P : ℕ) (problem : List ℕ) (line : Line) → IsAllowed replay (ranges_of P) problem line → All (λ x. IsNumber (slice_index problem 0) x.0) (named_by line)
named_in P problem line allowed =
    all_cond (λ x. IsNumber (slice_index problem 0) x.0) (eqb line.kind 0) _ _
    (λ is. all_one (λ x. IsNumber (slice_index problem 0) x.0) _ (numbered P problem start_line line.numbers 0 0 86 (in_replay P problem line 0 start_line allowed is refl) (lit< tt) refl))
    (λ is. All-nil (λ x. IsNumber (slice_index problem 0) x.0))

step_in : (P : ℕ) (problem : List ℕ) (line : Line) → IsAllowed replay (ranges_of P) problem line → All (IsNumber (slice_index problem 1)) (step_by line)
step_in P problem line allowed =
    all_cond (IsNumber (slice_index problem 1)) (eqb line.kind 4) _ _
    (λ is. all_one (IsNumber (slice_index problem 1)) _ (numbered P problem step_line line.numbers 0 1 65 (in_replay P problem line 4 step_line allowed is refl) (lit< tt) refl))
    (λ is. All-nil (IsNumber (slice_index problem 1)))

offered_in : (P : ℕ) (problem ns : List ℕ) → Has P problem offer_line ns → IsItem {P = P} (slice_index problem 0) (offer_of ns)
offered_in P problem ns has = (numbered P problem offer_line ns 1 0 86 has (lit< tt) refl, tt)

asked_in : (P : ℕ) (problem : List ℕ) (line : Line) → IsAllowed replay (ranges_of P) problem line → All (IsItem {P = P} (slice_index problem 0)) (items_of_form line.kind line.numbers)
asked_in P problem line allowed =
    let n = slice_index problem 0 in
    let Q : Item P → Type 0 = IsItem n in
    all_cond Q (eqb line.kind 1) _ _
    (λ is. all_one Q _ (offered_in P problem line.numbers (in_replay P problem line 1 offer_line allowed is refl)))
    (λ other. all_cond Q (eqb line.kind 2) _ _
    (λ is. let has = in_replay P problem line 2 read_line allowed is refl in all_one Q _ (numbered P problem read_line line.numbers 1 0 86 has (lit< tt) refl))
    (λ other. all_cond Q (eqb line.kind 3) _ _
    (λ is. let has = in_replay P problem line 3 relax_line allowed is refl in
    all_one Q _ (numbered P problem relax_line line.numbers 1 0 85 has (lit< tt) refl, numbered P problem relax_line line.numbers 2 0 86 has (lit< tt) refl, at_least (ranges_of P) problem relax_line.fields line.numbers 3 _ has.fits refl (omega (arith, has.full))))
    (λ other. All-nil Q)))

item_in : (P : ℕ) (problem : List ℕ) (actor : ℕ) (line : Line) → IsAllowed replay (ranges_of P) problem line → All (IsItem {P = P} (slice_index problem 0)) (item_for actor line)
item_in P problem actor line allowed =
    let Q : Item P → Type 0 = IsItem (slice_index problem 0) in
    all_cond Q (eqb (slice_index line.numbers 0) actor) _ _ (λ is. asked_in P problem line allowed) (λ other. All-nil Q)

is_offer : (kind : ℕ) (form : LineForm) → slice_get (offer_line ∷ []) kind ≡ Some form → kind ≡ 0
is_offer zero form is = refl
is_offer (suc kind) form is = cc

offer_in : (P : ℕ) (problem : List ℕ) (actor : ℕ) (line : Line) → IsAllowed offers (ranges_of P) problem line → All (IsItem {P = P} (slice_index problem 0)) (offer_for actor line)
offer_in P problem actor line allowed =
    let Q : Item P → Type 0 = IsItem (slice_index problem 0) in
    all_cond Q (eqb (slice_index line.numbers 0) actor) _ _
    (λ is. all_one Q _ (offered_in P problem line.numbers (has_form P (codes "off") (offer_line ∷ []) problem line 0 offer_line allowed (is_offer line.kind line.form allowed.form) refl)))
    (λ other. All-nil Q)

-- 3. The programme.

problem_in : (P : ℕ) (word : List ℕ) (forms : List LineForm) (problem : List ℕ) (lines : List Line) → IsAccepted (actors_file word forms) (ranges_of P) problem lines → IsNumber 65536 (slice_index problem 0) × IsNumber 64 (slice_index problem 1)
problem_in P word forms problem lines accepted =
    let full = accepted.full in
    let fields = (actors_line word).fields in (
      (at_least (ranges_of P) [] fields problem 0 _ accepted.in_range refl (omega (arith, full)), at_most (ranges_of P) [] fields problem 0 _ accepted.in_range refl),
      (at_least (ranges_of P) [] fields problem 1 _ accepted.in_range refl (omega (arith, full)), at_most (ranges_of P) [] fields problem 1 _ accepted.in_range refl),
    )

-- An item of some actor is one of an actor from 1 on.
listed : {A : Type 0} (Q : A → Type 0) (rows : List (List A)) (most actor k : ℕ) (x : A) → length rows ≤ most → ((other : ℕ) → IsNumber most other → All Q (get_or rows (other - 1) [])) → slice_get (get_or rows (actor - 1) []) k ≡ Some x → Q x
listed Q rows most actor k x few each is = ⊎_elim
    (λ (within : actor - 1 < length rows).
    let number : IsNumber most (actor - 1 + 1) = (omega arith, omega arith) in
    let same : actor - 1 + 1 - 1 ≡ actor - 1 = omega arith in
    all_at Q (get_or rows (actor - 1) []) k x (subst (λ (n : ℕ). All Q (get_or rows n [])) same (each (actor - 1 + 1) number)) is)
    (λ (beyond : length rows ≤ actor - 1).
    all_at Q [] k x (All-nil Q) (rw (get_or_past rows (actor - 1) [] beyond) at is))
    (cases_lt (actor - 1) (length rows))

pub is_programme : (P : ℕ) (problem : List ℕ) (lines : List Line) (plan : Programme P) (steps : List ℕ) → IsAccepted replay (ranges_of P) problem lines → IsReplay problem lines plan steps → IsProgramme plan
is_programme P problem lines plan steps accepted says =
    let ranges = problem_in P (codes "rep") replay_lines problem lines accepted in
    let Q : Item P → Type 0 = IsItem plan.words in
    record {
      words = rw says.words ranges.0;
      actors = rw says.actors ranges.1;
      named = rw (says.named, says.words) (all_flat (IsAllowed replay (ranges_of P) problem) (λ x. IsNumber (slice_index problem 0) x.0) named_by (named_in P problem) lines accepted.allowed);
      rows = says.no_more;
      items = λ actor k item is. listed Q plan.rows plan.actors actor k item says.no_more
          (λ other number. rw (says.rows other number, says.words) (all_flat (IsAllowed replay (ranges_of P) problem) (IsItem {P = P} (slice_index problem 0)) (item_for other) (item_in P problem other) lines accepted.allowed)) is;
    }

-- The same of the offers alone.
pub are_offers : (P : ℕ) (problem : List ℕ) (lines : List Line) (plan : Programme P) → IsAccepted offers (ranges_of P) problem lines → IsOffers problem lines plan → IsProgramme plan
are_offers P problem lines plan accepted says =
    let ranges = problem_in P (codes "off") (offer_line ∷ []) problem lines accepted in
    let Q : Item P → Type 0 = IsItem plan.words in
    record {
      words = rw says.words ranges.0;
      actors = rw says.actors ranges.1;
      named = rw says.unnamed (All-nil (λ x. IsNumber plan.words x.0));
      rows = says.no_more;
      items = λ actor k item is. listed Q plan.rows plan.actors actor k item says.no_more
          (λ other number. rw (says.rows other number, says.words) (all_flat (IsAllowed offers (ranges_of P) problem) (IsItem {P = P} (slice_index problem 0)) (offer_for other) (offer_in P problem other) lines accepted.allowed)) is;
    }

pub steps_in : (P : ℕ) (problem : List ℕ) (lines : List Line) (plan : Programme P) (steps : List ℕ) → IsAccepted replay (ranges_of P) problem lines → IsReplay problem lines plan steps → All (IsNumber plan.actors) steps
steps_in P problem lines plan steps accepted says =
    rw (says.schedule, says.actors) (all_flat (IsAllowed replay (ranges_of P) problem) (IsNumber (slice_index problem 1)) step_by (step_in P problem) lines accepted.allowed)
