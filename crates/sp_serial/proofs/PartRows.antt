-- The part of a tree within a limit, row by row.
use Rattle.std.proofs.Common.{◌≡◌, ◌≢◌, ℕ, ◌+◌, ◌<◌, ◌≤◌, ◌⊎◌, inl, inr, List, [], ◌∷◌, ◌++◌, length, get_or, refl, sym, ap, ◌∙◌, subst, eq-eqb, ne_eqb, arith}
use Rattle.std.specs.Prelude.{◌==◌, if◌then◌else◌, Option, Some, None, Result, Ok, Err, IfOk, IfSome}
use Rattle.std.proofs.lemmas.Bool.{cases_eq, cases_lt}
use Rattle.sp_word.specs.Word.{Word, Unreached, Pair, dist_of, pred_of, max_dist}
use Rattle.sp_paths.specs.Paths.{Graph, IsGraph, IsVertex, word_at}
use Rattle.sp_answer.specs.Table.{TreeTable, AreRows, IsPairWithin, IsTable, last_after, last_vertex, table_of, with_row, word_in}
use Rattle.sp_answer.specs.Within.{IsTreeWithin, up_to}
use Rattle.sp_paths.specs.Forests.{IsForestWord}
use Rattle.sp_answer.specs.Run.{AreRunWords}
use Rattle.sp_paths.proofs.ForestWalks.{any_vertex}
use Rattle.sp_paths.proofs.OneForest.{forest_of_one_is_tree}
use Rattle.sp_answer.specs.declared.asked.Until.TheVariants.{Limit}
use Rattle.sp_serial.specs.Part.{HasGained, HasNoOther, IsPartOf, HasPart}
use Rattle.sp_serial.specs.TrackedWords.{AreTouched}

-- ## One row

ends : (max n last : ℕ) (rows : List (ℕ × Word)) → AreRows max n last rows → last ≤ last_after last rows
ends max n last [] are = omega arith
ends max n last (row ∷ more) are = omega (arith, are.0, ends max n row.0 more are.3)

no_pair : (max n : ℕ) (w : Word) → IsPairWithin max n w → w ≡ Unreached → ⊥
no_pair max n w pair is = subst (IsPairWithin max n) is pair

-- the vertex of the last row has one
last_here : (max n last : ℕ) (rows : List (ℕ × Word)) → AreRows max n last rows → word_in rows (last_after last rows) ≡ Unreached → last_after last rows ≡ last
last_here max n last [] are none = refl
last_here max n last (row ∷ more) are none = go (last_here max n row.0 more are.3) (cases_eq row.0 (last_after row.0 more))
  where
    go : (word_in more (last_after row.0 more) ≡ Unreached → last_after row.0 more ≡ row.0) → (row.0 ≡ last_after row.0 more) ⊎ (row.0 ≡ last_after row.0 more → ⊥) → last_after row.0 more ≡ last
    go behind (inl same) = absurd (no_pair max n row.1 are.2 (rw (eq-eqb row.0 (last_after row.0 more) same) at none))
    go behind (inr other) = absurd (other (sym (behind (rw (ne_eqb row.0 (last_after row.0 more) other) at none))))

pushed_here : (max n last : ℕ) (rows : List (ℕ × Word)) (v : ℕ) (w : Word) → AreRows max n last rows → last_after last rows < v → word_in (rows ++ (v, w) ∷ []) v ≡ w
pushed_here max n last [] v w are low = rw (eq-eqb v v refl) refl
pushed_here max n last (row ∷ more) v w are low =
    let other : row.0 ≢ v = λ e. omega (arith, e, ends max n row.0 more are.3, low) in
    rw (ne_eqb row.0 v other) (pushed_here max n row.0 more v w are.3 low)

pushed_other : (rows : List (ℕ × Word)) (v : ℕ) (w : Word) (u : ℕ) → (u ≡ v → ⊥) → word_in (rows ++ (v, w) ∷ []) u ≡ word_in rows u
pushed_other [] v w u other = rw (ne_eqb v u (λ e. other (sym e))) refl
pushed_other (row ∷ more) v w u other = ap (λ (x : Word). if row.0 == u then row.1 else x) (pushed_other more v w u other)

pub gained_row : (P : ℕ) (t after : TreeTable) (v d p : ℕ) (word : Word) → IsTable P t → last_vertex t.rows < v → word ≡ Pair d p → after ≡ with_row t v d p → HasGained t v word after
gained_row P t after v d p word table low is made = record {
  n = ap (λ (x : TreeTable). x.n) made;
  source = ap (λ (x : TreeTable). x.source) made;
  here = ap (λ (x : TreeTable). table_of x v) made ∙ (pushed_here (max_dist P) t.n 0 t.rows v (Pair d p) table.rows low ∙ sym is);
  others = λ u other. ap (λ (x : TreeTable). table_of x u) made ∙ pushed_other t.rows v (Pair d p) u other;
}

-- an unreached vertex gets none
pub gained_none : (t : TreeTable) (v : ℕ) (word : Word) → word ≡ Unreached → HasNoOther t v word → HasGained t v word t
gained_none t v word is before = record { n = refl; source = refl; here = here before; others = λ u other. refl }
  where
    here : HasNoOther t v word → table_of t v ≡ word
    here (inl none) = none ∙ sym is
    here (inr same) = same

-- nor does one that has its row
pub gained_again : (P : ℕ) (t : TreeTable) (v : ℕ) (word : Word) → IsTable P t → 1 ≤ v → last_vertex t.rows ≡ v → HasNoOther t v word → HasGained t v word t
gained_again P t v word table low last before = record { n = refl; source = refl; here = here before; others = λ u other. refl }
  where
    here : HasNoOther t v word → table_of t v ≡ word
    here (inl none) = let zero = last_here (max_dist P) t.n 0 t.rows table.rows (ap (word_in t.rows) last ∙ none) in absurd (omega (arith, low, last, zero))
    here (inr same) = same

pub pair_is : (w : Word) (d p : ℕ) → Some d ≡ dist_of w → Some p ≡ pred_of w → w ≡ Pair d p
pair_is Unreached d p dist pred = cc
pair_is (Pair e q) d p dist pred = cc

-- ## Row after row

-- the first of the listed vertices have their words up to the limit, and no vertex has another
pub record ArePushed (s limit : ℕ) (words : List Word) (reached : List ℕ) (count : ℕ) (t : TreeTable) : Type 0 where
  pub n : t.n ≡ length words
  pub source : t.source ≡ s
  pub no_other : (v : ℕ) → HasNoOther t v (up_to limit (word_at words v))
  pub each : (k d : ℕ) → k < count → table_of t (get_or reached k d) ≡ up_to limit (word_at words (get_or reached k d))

pub pushed_none : (s limit : ℕ) (words : List Word) (reached : List ℕ) (n : ℕ) (t : TreeTable) → n ≡ length words → t ≡ record { n = n; source = s; rows = [] } → ArePushed s limit words reached 0 t
pushed_none s limit words reached n t size is = record {
  n = ap (λ (x : TreeTable). x.n) is ∙ size;
  source = ap (λ (x : TreeTable). x.source) is;
  no_other = λ v. inl (ap (λ (x : TreeTable). table_of x v) is);
  each = λ k d low. absurd (omega (arith, low));
}

pub pushed_more : (s limit : ℕ) (words : List Word) (reached : List ℕ) (i : ℕ) (v : ℕ) (t after : TreeTable) → ((d : ℕ) → get_or reached i d ≡ v) → ArePushed s limit words reached i t → HasGained t v (up_to limit (word_at words v)) after → ArePushed s limit words reached (i + 1) after
pushed_more s limit words reached i v t after at before gained = record {
  n = gained.n ∙ before.n;
  source = gained.source ∙ before.source;
  no_other = λ u. no_other u (cases_eq u v);
  each = λ k d low. each k d low (cases_lt k i);
}
  where
    same : (u : ℕ) → u ≡ v → table_of after u ≡ up_to limit (word_at words u)
    same u is = subst (λ (x : ℕ). table_of after x ≡ up_to limit (word_at words x)) (sym is) gained.here

    no_other : (u : ℕ) → (u ≡ v) ⊎ (u ≡ v → ⊥) → HasNoOther after u (up_to limit (word_at words u))
    no_other u (inl is) = inr (same u is)
    no_other u (inr other) = subst (λ (w : Word). (w ≡ Unreached) ⊎ (w ≡ up_to limit (word_at words u))) (sym (gained.others u other)) (before.no_other u)

    earlier : (u : ℕ) → (u ≡ v) ⊎ (u ≡ v → ⊥) → table_of t u ≡ up_to limit (word_at words u) → table_of after u ≡ up_to limit (word_at words u)
    earlier u (inl is) was = same u is
    earlier u (inr other) was = gained.others u other ∙ was

    each : (k d : ℕ) → k < i + 1 → (k < i) ⊎ (i ≤ k) → table_of after (get_or reached k d) ≡ up_to limit (word_at words (get_or reached k d))
    each k d low (inl less) = earlier (get_or reached k d) (cases_eq (get_or reached k d) v) (before.each k d less)
    each k d low (inr last) = let here : k ≡ i = omega arith in same (get_or reached k d) (ap (λ (j : ℕ). get_or reached j d) here ∙ at d)

-- every vertex with a word is listed
pub pushed_all : (s limit : ℕ) (words : List Word) (reached : List ℕ) (count : ℕ) (t : TreeTable) → length reached ≤ count → AreTouched 0 reached words → ArePushed s limit words reached count t → IsPartOf s limit words t
pushed_all s limit words reached count t all tracked pushed = record {
  n = pushed.n;
  source = pushed.source;
  each = λ v at. each v at (word_at words v) refl (pushed.no_other v);
}
  where
    each : (v : ℕ) → IsVertex (length words) v → (w : Word) → word_at words v ≡ w → HasNoOther t v (up_to limit (word_at words v)) → table_of t v ≡ up_to limit (word_at words v)
    each v at w is (inr same) = same
    each v at Unreached is (inl none) = none ∙ sym (ap (up_to limit) is)
    each v at (Pair d p) is (inl none) =
        let (k, from, less, same) = tracked.covers v d p at is in
        subst (λ (u : ℕ). table_of t u ≡ up_to limit (word_at words u)) same (pushed.each k 0 (omega (arith, less, all)))

-- ## The part of the forest

pub part_of : (P : ℕ) (g : Graph) → IsGraph g → (sources : List ℕ) (limit : ℕ) (words : List Word) → AreRunWords P g sources (Limit limit) words None → (t : TreeTable) → IsPartOf (get_or sources 0 0) limit words t → HasPart g sources limit t
part_of P g graph sources limit words told t is =
    let same : (v : ℕ) → IsVertex g.n v → table_of t v ≡ up_to limit (word_at words v) = λ v at. is.each v (subst (λ (n : ℕ). IsVertex n v) (sym told.size) at) in
    record {
      n = is.n ∙ told.size;
      source = is.source;
      part = record {
        near = λ v near. subst (IsForestWord g sources v) (sym (same v (any_vertex g graph sources told.vertices v near.0 near.1.walk))) (told.tells.0.near v near);
        others = λ v at far. same v at ∙ told.tells.0.others v at far;
      };
    }

pub part_of_tree : (g : Graph) (s : ℕ) → IsVertex g.n s → (limit : ℕ) (t : TreeTable) → HasPart g (s ∷ []) limit t → IsTreeWithin g s limit t
part_of_tree g s at limit t has = record { vertex = at; n = has.n; source = has.source; tree = ((forest_of_one_is_tree g s).within limit (table_of t)).0 has.part }

-- so it is with each tree that is found
pub found_as : {X E : Type 0} (A B : X → Type 0) → ((t : X) → A t → B t) → (r : Result (Option X) E) → IfOk r (λ found. IfSome found A) → IfOk r (λ found. IfSome found B)
found_as A B more (Ok (Some t)) h = more t h
found_as A B more (Ok None) h = tt
found_as A B more (Err e) h = tt
