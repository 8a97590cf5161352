-- How places follow on one another.
use Rattle.std.proofs.Common.{◌≢◌, ℕ, List, [], ◌∷◌, ◌++◌, refl, subst}
use Rattle.sp_files.specs.declared.trees.block_state.BlockState.{BlockState}
use Rattle.sp_files.specs.declared.trees.block_state.BlockState.TheVariants.{Fresh, Last, Within, Over}
use Rattle.sp_files.specs.Block.{after, Runs}

-- Some bytes and then others lead on.
pub runs_both : (p q r : BlockState) (a b : List ℕ) → Runs p a q → Runs q b r → Runs p (a ++ b) r
runs_both p q r [] b h k = subst (λ x. Runs x b r) h k
runs_both Over q r (x ∷ a) b h k = absurd h
runs_both Fresh q r (x ∷ a) b h k = runs_both (after Fresh x) q r a b h k
runs_both Last q r (x ∷ a) b h k = runs_both (after Last x) q r a b h k
runs_both Within q r (x ∷ a) b h k = runs_both (after Within x) q r a b h k

runs_one : (p : BlockState) (b : ℕ) → p ≢ Over → Runs p (b ∷ []) (after p b)
runs_one Fresh b h = refl
runs_one Last b h = refl
runs_one Within b h = refl
runs_one Over b h = absurd (h refl)

-- One byte more.
pub runs_on : (p q : BlockState) (a : List ℕ) (b : ℕ) → q ≢ Over → Runs p a q → Runs p (a ++ b ∷ []) (after q b)
runs_on p q a b going h = runs_both p q (after q b) a (b ∷ []) h (runs_one q b going)
