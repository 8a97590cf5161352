-- The answers to pairs that slots hold, and what was written of them.
use Rattle.std.proofs.Common.{◌≡◌, ℕ, ◌<◌, zero, suc, true, List, [], ◌∷◌, length, map, get_or, Result, Ok, Err, refl, arith}
use Rattle.std.proofs.lemmas.Bool.{false≢true}
use Rattle.std.specs.Prelude.{IfErr, All}
use Rattle.sp_word.specs.Word.{max_dist}
use Rattle.sp_device.specs.declared.devices.Write.{Ghosts as Writer}
use Rattle.sp_paths.specs.Paths.{Graph}
use Rattle.sp_jobs.specs.declared.answers.Summary.{Summary}
use Rattle.sp_jobs.specs.declared.answers.BatchError.{BatchError}
use Rattle.sp_jobs.specs.declared.answers.BatchError.TheVariants.{Gr, Ss, Targets, Pairs, NoSuchVertex, Memory, Write}
use Rattle.sp_pairs.specs.declared.asking.PairState.{PairState}
use Rattle.sp_pairs.specs.declared.asking.PairState.TheVariants.{Open, Known}
use Rattle.sp_jobs.specs.Answers.{is_early}
use Rattle.sp_jobs.specs.Answered.{wrote_by}
use Rattle.sp_pairs.specs.Pairs.{IsPairUpTo, ArePairsDone}
use Rattle.sp_jobs.specs.PairAnswers.{PairKind, ArePairAnswers}
use Rattle.sp_pairs.specs.Slots.{AnswerIn, IsClosed, IsHeld, pair_at, known_in, AreHeld, ArePairsWritten}

module _ (kind : PairKind) {A : Type 0} (told : A → kind.Answer) (Is : AnswerIn A) (P : ℕ) (g : Graph) (tells : (s t : ℕ) (answer : A) → Is g s t answer → kind.IsAnswer g s t (max_dist P) (told answer)) where
  -- The answers that slots hold, place by place.
  place_by_place : (pairs : List (ℕ × ℕ)) (slots : List (PairState A)) → length slots ≡ length pairs → All IsClosed slots → ((i : ℕ) (d : PairState A) → i < length slots → IsHeld Is g (pair_at pairs i) (get_or slots i d))
      → ArePairAnswers kind P g pairs (map told (known_in slots))
  place_by_place [] [] same closed each = tt
  place_by_place [] (s ∷ slots) same closed each = absurd (omega (arith, same))
  place_by_place (p ∷ pairs) [] same closed each = absurd (omega (arith, same))
  place_by_place (p ∷ pairs) (Open next ∷ slots) same closed each = absurd (closed zero (Open next) (omega arith))
  place_by_place (p ∷ pairs) (Known answer ∷ slots) same closed each = (
    tells p.0 p.1 answer (each zero (Known answer) (omega arith)),
    place_by_place pairs slots (omega (arith, same)) (λ i d less. closed (suc i) d (omega (arith, less))) (λ i d less. each (suc i) d (omega (arith, less))),
  )

  -- Where every slot is closed, they are the answers.
  all_answers : (pairs : List (ℕ × ℕ)) (slots : List (PairState A)) → AreHeld Is g pairs slots → All IsClosed slots → ArePairAnswers kind P g pairs (map told (known_in slots))
  all_answers pairs slots held closed = place_by_place pairs slots held.size closed held.held

  -- What was written for the pairs is what they are to have.
  pub pairs_done : {W : Type 0} (pairs : List (ℕ × ℕ)) (device : Writer W) (old new : W) (slots : List (PairState A)) (result : Result Summary BatchError) → All (IsPairUpTo g.n) pairs → AreHeld Is g pairs slots → All IsClosed slots
      → ArePairsWritten kind device pairs (map told (known_in slots)) old result new → ArePairsDone kind P (wrote_by device old new) g pairs result
  pairs_done pairs device old new slots (Ok summary) most held closed h = (map told (known_in slots), all_answers pairs slots held closed, h.0, h.1)
  pairs_done pairs device old new slots (Err Write) most held closed h = ((most, record { answers = map told (known_in slots); are = all_answers pairs slots held closed; begun = h.0 }), h.1)
  pairs_done pairs device old new slots (Err Memory) most held closed h = absurd h
  pairs_done pairs device old new slots (Err (Gr e)) most held closed h = absurd h
  pairs_done pairs device old new slots (Err (Ss e)) most held closed h = absurd h
  pairs_done pairs device old new slots (Err (Targets e)) most held closed h = absurd h
  pairs_done pairs device old new slots (Err (Pairs e)) most held closed h = absurd h
  pairs_done pairs device old new slots (Err (NoSuchVertex v role)) most held closed h = absurd h

-- Memory was refused before anything was written.
pub refused_early : {W : Type 0} (kind : PairKind) (P : ℕ) (g : Graph) (pairs : List (ℕ × ℕ)) (device : Writer W) (old : W) → All (IsPairUpTo g.n) pairs → ArePairsDone kind P (wrote_by device old old) g pairs (Err Memory)
refused_early kind P g pairs device old most = (most, refl)

-- Once lines are written, no file is refused.
pub pairs_not_early : {W : Type 0} (kind : PairKind) (device : Writer W) (pairs : List (ℕ × ℕ)) (answers : List kind.Answer) (old new : W) (result : Result Summary BatchError) (same : Type 0) → ArePairsWritten kind device pairs answers old result new → IfErr result (λ e. is_early e ≡ true → same)
pairs_not_early kind device pairs answers old new (Ok summary) same is = tt
pairs_not_early kind device pairs answers old new (Err Write) same is = λ early. absurd (false≢true early)
pairs_not_early kind device pairs answers old new (Err Memory) same is = absurd is
pairs_not_early kind device pairs answers old new (Err (Gr e)) same is = absurd is
pairs_not_early kind device pairs answers old new (Err (Ss e)) same is = absurd is
pairs_not_early kind device pairs answers old new (Err (Targets e)) same is = absurd is
pairs_not_early kind device pairs answers old new (Err (Pairs e)) same is = absurd is
pairs_not_early kind device pairs answers old new (Err (NoSuchVertex v role)) same is = absurd is
