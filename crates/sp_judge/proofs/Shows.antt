-- What parts of the arcs show, and what all of them do.
use Rattle.std.proofs.Common.{◌≡◌, ℕ, ◌+◌, ◌<◌, ◌≤◌, ◌⊎◌, ◌↔◌, inl, inr, Bool, true, false, not, List, [], ◌∷◌, ◌++◌, length, take, drop, get_or, Some, refl, sym, ap, ◌∙◌, subst, arith}
use Rattle.std.specs.Prelude.{All, Any, IsTrue, min}
use Rattle.std.proofs.lemmas.Bool.{cases_lt, iff_false}
use Rattle.std.proofs.lemmas.List.{take_more, take_all, take-append-drop}
use Rattle.std.proofs.lemmas.List.Elements.{All-append, All-weaker, Contains-append_left, Contains-append_right}
use Rattle.sp_word.specs.Word.{Word, Pair, IsBelow, dist_of}
use Rattle.sp_word.specs.History.{Table}
use Rattle.sp_paths.specs.declared.arc.Arc.{Arc}
use Rattle.sp_paths.specs.Paths.{Graph, IsAtMost}
use Rattle.sp_paths.specs.Rows.{row_of}
use Rattle.sp_paths.proofs.Core.{pair_dist}
use Rattle.sp_judge.proofs.Below.{below_not, not_below}
use Rattle.sp_judge.specs.declared.scan.Scan.{Scan}
use Rattle.sp_judge.specs.declared.scan.Scan.TheVariants.{Whole, LeavesOut, Open}
use Rattle.sp_judge.specs.Shown.{Shows, both_of, IsArcRelaxed, LeadsOut, IsRelaxedFrom, IsRowClosedUpTo}

pub any_left : (F : Arc → Type 0) (xs ys : List Arc) → Any F xs → Any F (xs ++ ys)
any_left F xs ys (k, x, low, is, h) = let c = Contains-append_left xs ys x (k, low, is) in (c.0, x, c.1, c.2, h)

pub any_right : (F : Arc → Type 0) (xs ys : List Arc) → Any F ys → Any F (xs ++ ys)
any_right F xs ys (k, x, low, is, h) = let c = Contains-append_right xs ys x (k, low, is) in (c.0, x, c.1, c.2, h)

any_weaker : (F G : Arc → Type 0) (xs : List Arc) → ((a : Arc) → F a → G a) → Any F xs → Any G xs
any_weaker F G xs h (k, x, low, is, f) = (k, x, low, is, h x f)

module _ (max : ℕ) (words : Table) where
  abbrev Closed : List Arc → Type 0
  Closed xs = All (IsArcRelaxed max words) xs

  abbrev From : ℕ → Arc → Type 0
  From v a = LeadsOut words a → v ≤ a.head

  abbrev At : ℕ → Arc → Type 0
  At v a = (a.head ≡ v) × LeadsOut words a

  closed_both : (xs ys : List Arc) → Closed xs → Closed ys → Closed (xs ++ ys)
  closed_both xs ys = All-append (IsArcRelaxed max words) xs ys

  from_none : (v : ℕ) (xs : List Arc) → All (λ a. LeadsOut words a → ⊥) xs → All (From v) xs
  from_none v = All-weaker (λ a. LeadsOut words a → ⊥) (From v) (λ a none out. absurd (none out))

  from_less : (u v : ℕ) (xs : List Arc) → u ≤ v → All (From v) xs → All (From u) xs
  from_less u v xs low = All-weaker (From v) (From u) (λ a h out. let k = h out in omega arith) xs

  least : (u v : ℕ) → ((u ≤ v) × (min u v ≡ u)) ⊎ ((v ≤ u) × (min u v ≡ v))
  least u v = go (cases_lt u v)
    where
      go : (u < v) ⊎ (v ≤ u) → ((u ≤ v) × (min u v ≡ u)) ⊎ ((v ≤ u) × (min u v ≡ v))
      go (inl low) = inl (omega arith, omega arith)
      go (inr low) = inr (low, omega arith)

  pub shows_both : (xs ys : List Arc) (s t : Scan) → Shows max words xs s → Shows max words ys t → Shows max words (xs ++ ys) (both_of s t)
  shows_both xs ys Open Open h k = any_left (λ a. IsArcRelaxed max words a → ⊥) xs ys h
  shows_both xs ys Open Whole h k = any_left (λ a. IsArcRelaxed max words a → ⊥) xs ys h
  shows_both xs ys Open (LeavesOut v) h k = any_left (λ a. IsArcRelaxed max words a → ⊥) xs ys h
  shows_both xs ys Whole Open h k = any_right (λ a. IsArcRelaxed max words a → ⊥) xs ys k
  shows_both xs ys Whole Whole h k = (closed_both xs ys h.0 k.0, All-append (λ a. LeadsOut words a → ⊥) xs ys h.1 k.1)
  shows_both xs ys Whole (LeavesOut v) h k = (closed_both xs ys h.0 k.0, any_right (At v) xs ys k.1, All-append (From v) xs ys (from_none v xs h.1) k.2)
  shows_both xs ys (LeavesOut u) Open h k = any_right (λ a. IsArcRelaxed max words a → ⊥) xs ys k
  shows_both xs ys (LeavesOut u) Whole h k = (closed_both xs ys h.0 k.0, any_left (At u) xs ys h.1, All-append (From u) xs ys h.2 (from_none u ys k.1))
  shows_both xs ys (LeavesOut u) (LeavesOut v) h k = go (least u v)
    where
      go : ((u ≤ v) × (min u v ≡ u)) ⊎ ((v ≤ u) × (min u v ≡ v)) → Shows max words (xs ++ ys) (LeavesOut (min u v))
      go (inl (low, is)) = rw is (closed_both xs ys h.0 k.0, any_left (At u) xs ys h.1, All-append (From u) xs ys h.2 (from_less u v ys low k.2))
      go (inr (low, is)) = rw is (closed_both xs ys h.0 k.0, any_right (At v) xs ys k.1, All-append (From v) xs ys (from_less v u xs low h.2) k.2)

  -- the arcs before place i, and the arc there
  pub shows_more : (arcs : List Arc) (i : ℕ) (d : Arc) (s t r : Scan) → i < length arcs → Shows max words (take i arcs) s → Shows max words (get_or arcs i d ∷ []) t → r ≡ both_of s t → Shows max words (take (i + 1) arcs) r
  shows_more arcs i d s t r low h k is =
      let both = shows_both (take i arcs) (get_or arcs i d ∷ []) s t h k in
      subst (λ xs. Shows max words xs r) (sym (take_more arcs i d low)) (subst (λ x. Shows max words (take i arcs ++ get_or arcs i d ∷ []) x) (sym is) both)

  pub shows_all : (arcs : List Arc) (i : ℕ) (s : Scan) → length arcs ≤ i → Shows max words (take i arcs) s → Shows max words arcs s
  shows_all arcs i s low h = subst (λ xs. Shows max words xs s) (take_all i arcs low) h

  -- the arcs before a place, and those from it on
  pub shows_parts : (arcs left right : List Arc) (i : ℕ) (s t r : Scan) → left ≡ take i arcs → right ≡ drop i arcs → Shows max words left s → Shows max words right t → r ≡ both_of s t → Shows max words arcs r
  shows_parts arcs left right i s t r front back h k is =
      let first = subst (λ xs. Shows max words xs s) front h in
      let second = subst (λ xs. Shows max words xs t) back k in
      let both = shows_both (take i arcs) (drop i arcs) s t first second in
      subst (λ x. Shows max words arcs x) (sym is) (subst (λ xs. Shows max words xs (both_of s t)) (take-append-drop i arcs) both)

-- an arc that offers its head this word
module _ (max : ℕ) (words : Table) (a : Arc) (from found offered : Word) (d p : ℕ) (is : from ≡ Pair d p) (fits : d + a.len ≤ max) (pair : offered ≡ Pair (d + a.len) a.tail) (there : found ≡ words a.head) where
  less : IsBelow offered found → IsBelow (Pair (d + a.len) a.tail) (words a.head)
  less below = subst (λ w. IsBelow w (words a.head)) pair (subst (λ w. IsBelow offered w) there below)

  greater : (IsBelow offered found → ⊥) → IsAtMost (words a.head) (d + a.len) a.tail
  greater none = not_below (words a.head) (d + a.len) a.tail (λ below. none (subst (λ w. IsBelow offered w) (sym there) (subst (λ w. IsBelow w (words a.head)) (sym pair) below)))

  -- where that is less than its head's word, it isn't relaxed
  pub shows_open : from ≡ words a.tail → IsBelow offered found → Shows max words (a ∷ []) Open
  shows_open read below = (0, a, omega arith, refl, λ relaxed. below_not (words a.head) (d + a.len) a.tail (less below) (relaxed d p (sym read ∙ is) fits))

  -- and else it is
  pub relaxed_unless : (below : Bool) → (IsTrue below ↔ IsBelow offered found) → IsTrue (not below) ↔ IsRelaxedFrom max words from a
  relaxed_unless true test = (λ t. absurd (cc), λ relaxed. absurd (below_not (words a.head) (d + a.len) a.tail (less (test.0 refl)) (relaxed d p is fits)))
  relaxed_unless false test = (λ t e q at low. here e (pair_dist d p e q (sym is ∙ at)), λ relaxed. refl)
    where
      here : (e : ℕ) → d ≡ e → IsAtMost (words a.head) (e + a.len) a.tail
      here e same = subst (λ x. IsAtMost (words a.head) (x + a.len) a.tail) same (greater (iff_false test refl))

-- the row of a vertex whose distance is up to this one
pub row_closed : (g : Graph) (max far : ℕ) (words : Table) (u : ℕ) (from : Word) (row : List Arc) (d : ℕ) (told : Bool) → from ≡ words u → row ≡ row_of g.arcs u → dist_of from ≡ Some d → d ≤ far
    → (IsTrue told ↔ All (IsRelaxedFrom max words from) row) → IsTrue told ↔ IsRowClosedUpTo g max far words u
row_closed g max far words u from row d told read is dist near relaxed = (
  λ t e q at low k a place. (rw (read, is) at (relaxed.0 t)) k a place e q at,
  λ closed. relaxed.1 (λ k a place e q at. (rw (sym is) at (closed e q (sym read ∙ at) (let same = dist_same from d e q dist at in omega arith))) k a place),
)
  where
    dist_same : (w : Word) (d e q : ℕ) → dist_of w ≡ Some d → w ≡ Pair e q → d ≡ e
    dist_same w d e q one other = let both : Some e ≡ Some d = sym (ap dist_of other) ∙ one in cc
