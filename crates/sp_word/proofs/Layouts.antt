-- The four layouts, case by case.
use Rattle.std.proofs.Common.{◌≡◌, ℕ, true, false, subst, sym, ne_eqb}
use mathlib.Core.Logic.{dite}
use native.Mathlib.Decide.{ℕ_discrete}
use Rattle.sp_word.specs.Word.{is_layout}

-- what holds of each of the four holds of any layout
pub by_layout : (F : ℕ → Type 0) (P : ℕ) → is_layout P ≡ true → F 20 → F 24 → F 28 → F 32 → F P
by_layout F P layout a b c d =
    dite (ℕ_discrete P 20) (λ e. subst F (sym e) a) (λ n20. dite (ℕ_discrete P 24) (λ e. subst F (sym e) b) (λ n24. dite (ℕ_discrete P 28) (λ e. subst F (sym e) c) (λ n28. dite (ℕ_discrete P 32) (λ e. subst F (sym e) d) (λ n32.
    let none : is_layout P ≡ false = rw (ne_eqb P 20 n20, ne_eqb P 24 n24, ne_eqb P 28 n28, ne_eqb P 32 n32) in
    cc))))
