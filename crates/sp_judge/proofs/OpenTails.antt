-- The tails of arcs that aren't relaxed.
use Rattle.std.proofs.Common.{◌≡◌, ℕ, zero, suc, ◌+◌, ◌<◌, ◌≤◌, List, [], ◌∷◌, ◌++◌, length, take, get_or, refl, sym, subst, arith}
use Rattle.std.specs.Prelude.{All, Any, Contains}
use Rattle.std.proofs.lemmas.List.{take_more, take_all}
use Rattle.std.proofs.lemmas.List.Elements.{All-nil, All-push, All-weaker, Contains-append_left, Contains-append_right}
use Rattle.sp_word.specs.History.{Table}
use Rattle.sp_paths.specs.declared.arc.Arc.{Arc}
use Rattle.sp_judge.specs.declared.scan.Scan.TheVariants.{Open}
use Rattle.sp_judge.specs.Shown.{Shows, AreOpenTails, TakesArc, IsArcRelaxed}
use Rattle.sp_judge.proofs.Shows.{any_left, any_right}

module _ (max : ℕ) (words : Table) where
  abbrev NotRelaxed : Arc → Type 0
  NotRelaxed a = IsArcRelaxed max words a → ⊥

  abbrev From : ℕ → Arc → Type 0
  From v a = (a.tail ≡ v) × NotRelaxed a

  pub no_tails : AreOpenTails max words [] []
  no_tails = record { each = All-nil (λ a. NotRelaxed a → Contains [] a.tail); only = All-nil (λ v. Any (From v) []) }

  only_more : (xs : List Arc) (a : Arc) (tails : List ℕ) → All (λ v. Any (From v) xs) tails → All (λ v. Any (From v) (xs ++ a ∷ [])) tails
  only_more xs a = All-weaker (λ v. Any (From v) xs) (λ v. Any (From v) (xs ++ a ∷ [])) (λ v. any_left (From v) xs (a ∷ []))

  -- an arc that isn't relaxed, with its tail
  pub takes_open : (a : Arc) (tails after : List ℕ) → after ≡ tails ++ a.tail ∷ [] → Shows max words (a ∷ []) Open → TakesArc max words a tails after
  takes_open a tails after is shows xs before =
      let more = a.tail ∷ [] in
      let N : NotRelaxed a = one_open a shows in
      let longer : AreOpenTails max words (xs ++ a ∷ []) (tails ++ more) = record {
        each = All-push (λ x. NotRelaxed x → Contains (tails ++ more) x.tail) xs a
            (All-weaker (λ x. NotRelaxed x → Contains tails x.tail) (λ x. NotRelaxed x → Contains (tails ++ more) x.tail) (λ x has not. Contains-append_left tails more x.tail (has not)) xs before.each)
            (λ not. Contains-append_right tails more a.tail (0, omega arith, refl));
        only = All-push (λ v. Any (From v) (xs ++ a ∷ [])) tails a.tail (only_more xs a tails before.only) (any_right (From a.tail) xs (a ∷ []) (0, a, omega arith, refl, (refl, N)));
      } in
      subst (AreOpenTails max words (xs ++ a ∷ [])) (sym is) longer
    where
      one_open : (a : Arc) → Any NotRelaxed (a ∷ []) → NotRelaxed a
      one_open a (zero, x, low, is, not) = subst NotRelaxed (sym is) not
      one_open a (suc k, x, low, is, not) = absurd (omega arith)

  -- one that is relaxed, without it
  pub takes_relaxed : (a : Arc) (tails : List ℕ) → All (IsArcRelaxed max words) (a ∷ []) → TakesArc max words a tails tails
  takes_relaxed a tails relaxed xs before = record {
    each = All-push (λ x. NotRelaxed x → Contains tails x.tail) xs a before.each (λ not. absurd (not (relaxed 0 a (omega arith))));
    only = only_more xs a tails before.only;
  }

  pub tails_more : (arcs : List Arc) (i : ℕ) (d : Arc) (tails after : List ℕ) → i < length arcs → AreOpenTails max words (take i arcs) tails → TakesArc max words (get_or arcs i d) tails after → AreOpenTails max words (take (i + 1) arcs) after
  tails_more arcs i d tails after low before takes = subst (λ xs. AreOpenTails max words xs after) (sym (take_more arcs i d low)) (takes (take i arcs) before)

  pub tails_all : (arcs : List Arc) (i : ℕ) (tails : List ℕ) → length arcs ≤ i → AreOpenTails max words (take i arcs) tails → AreOpenTails max words arcs tails
  tails_all arcs i tails low h = subst (λ xs. AreOpenTails max words xs tails) (take_all i arcs low) h
