-- What a single step asks of a caller who has the word alone.
use Rattle.std.proofs.Common.{◌≡◌, ℕ, [], ◌∷◌, refl}
use seplogic.Ra.Ura.{Ura}
use base.Logic.{SProp, ent, ex, ex_i, upd_i, id⊢}
use base.Fml.{Fml, fsep, feq}
use types.Logic.{Logic, sem}
use types.Kit.{‵, ◌$◌, ◌∵◌, !, qed, by, done, show, frame, each, assume, suffices, feq_i, fjoin}
use denote.RawPtr.{block_ptr}
use Rattle.std.specs.Sync.RawAtomic.{Shift, rests, word, along, if_none, back, found, asks, always}

-- the step finds n, and leaves what it makes of n
abbrev pub left : (b o : ℕ) (f : ℕ → ℕ) (n : ℕ) → ℕ → Fml
left b o f n m = fsep (feq ℕ m n) (word b o (f n))

module _ {M : Type 1} {𝓤 : Ura M} (𝓛 : Logic 𝓤) where
  asked : (b o : ℕ) (f : ℕ → ℕ) (n : ℕ) (after : ℕ → Fml) → ent 𝓤 (sem 𝓛 (word b o (f n))) (sem 𝓛 (after n)) → ent 𝓤 (sem 𝓛 (word b o n)) (asks 𝓛 (block_ptr b o) f always after)
  asked b o f n after ends =
      let T : SProp 𝓤 = sem 𝓛 (after n) in
      let F : SProp 𝓤 = ex 𝓤 (found 𝓛 [] b o f always after) in
      qed 𝓛 (‵ (word b o n) ∷ []) ∵
      suffices ! _ (ex_i 𝓤 (λ (s : Shift). along 𝓛 s (λ L. ex 𝓤 (found 𝓛 L b o f always after)) []) rests) $
      suffices ! _ (upd_i 𝓤 F) $
      show ! (found 𝓛 [] b o f always after) n $ frame ! $
      each ! (λ (_ : always n). back 𝓛 [] b o f after n) (λ _. assume ! (‵ (word b o (f n))) $
      suffices ! _ (ex_i 𝓤 (λ (s : Shift). along 𝓛 s (if_none 𝓛 T) []) rests) $
      suffices ! _ (upd_i 𝓤 T) $ by ! ends)

  pub alone : (b o : ℕ) (f : ℕ → ℕ) (n : ℕ) → ent 𝓤 (sem 𝓛 (word b o n)) (asks 𝓛 (block_ptr b o) f always (left b o f n))
  alone b o f n = asked b o f n (left b o f n) (qed 𝓛 (‵ (word b o (f n)) ∷ []) ∵ feq_i ! ℕ n n refl $ fjoin ! $ done !)

  -- a step that tells nothing of what was there
  pub written : (b o new n : ℕ) → ent 𝓤 (sem 𝓛 (word b o n)) (asks 𝓛 (block_ptr b o) (λ _. new) always (λ _. word b o new))
  written b o new n = asked b o (λ _. new) n (λ _. word b o new) (id⊢ 𝓤 _)
