-- The lines of pairs, one after the other.
use Rattle.std.proofs.Common.{◌≡◌, ℕ, ◌+◌, ◌<◌, ◌≤◌, List, [], ◌∷◌, ◌++◌, length, map, take, get_or, refl, sym, ap, subst, ◌∙◌, cond, arith, zero, suc, append_assoc, zero-add}
use Rattle.std.specs.Prelude.{All, count_by}
use Rattle.std.specs.List.{zip, flat_map}
use Rattle.std.proofs.lemmas.List.{append-nil, take_all}
use Rattle.std.proofs.lemmas.List.Sums.{sum_by-cons}
use Rattle.sp_device.specs.declared.devices.Write.{Ghosts as Writer}
use Rattle.sp_device.specs.declared.printing.Printer.{Printer}
use Rattle.sp_device.specs.Printing.{Sends}
use Rattle.sp_pairs.specs.declared.asking.PairState.{PairState}
use Rattle.sp_pairs.specs.declared.asking.PairState.TheVariants.{Open, Known}
use Rattle.sp_jobs.specs.PairAnswers.{PairKind, pairs_text}
use Rattle.sp_pairs.specs.Slots.{IsClosed, known_in, line_in, is_far_slot, pair_at}

module _ (kind : PairKind) {A : Type 0} (told : A → kind.Answer) where
  -- the lines of pairs whose answers are known
  abbrev pub lines_in : List (ℕ × ℕ) → List (PairState A) → List ℕ
  lines_in pairs slots = flat_map (λ x. line_in kind told x.0 x.1) (zip pairs slots)

  lines_suc : (pairs : List (ℕ × ℕ)) (slots : List (PairState A)) (i : ℕ) (d : PairState A) → length slots ≡ length pairs → i < length slots
      → lines_in (take (suc i) pairs) (take (suc i) slots) ≡ lines_in (take i pairs) (take i slots) ++ line_in kind told (pair_at pairs i) (get_or slots i d)
  lines_suc [] [] i d same low = absurd (omega (arith, low))
  lines_suc [] (s ∷ slots) i d same low = absurd (omega (arith, same))
  lines_suc (p ∷ pairs) [] i d same low = absurd (omega (arith, low))
  lines_suc (p ∷ pairs) (s ∷ slots) zero d same low = append-nil (line_in kind told p s)
  lines_suc (p ∷ pairs) (s ∷ slots) (suc i) d same low =
      let more = lines_suc pairs slots i d (omega (arith, same)) (omega (arith, low)) in
      ap (λ (l : List ℕ). line_in kind told p s ++ l) more ∙ sym (append_assoc (line_in kind told p s) (lines_in (take i pairs) (take i slots)) (line_in kind told (pair_at pairs i) (get_or slots i d)))

  -- those of the first pairs, and that of the next one
  pub lines_more : (pairs : List (ℕ × ℕ)) (slots : List (PairState A)) (i : ℕ) (slot : PairState A) → slot ≡ get_or slots i slot → length slots ≡ length pairs → i < length slots
      → lines_in (take (i + 1) pairs) (take (i + 1) slots) ≡ lines_in (take i pairs) (take i slots) ++ line_in kind told (pair_at pairs i) slot
  lines_more pairs slots i slot is same low =
      let next : i + 1 ≡ suc i = omega arith in
      rw next (lines_suc pairs slots i slot same low ∙ ap (λ (x : PairState A). lines_in (take i pairs) (take i slots) ++ line_in kind told (pair_at pairs i) x) (sym is))

  -- where all answers are known, they are the text of the answers
  pub all_lines : (pairs : List (ℕ × ℕ)) (slots : List (PairState A)) → length slots ≡ length pairs → All IsClosed slots → lines_in pairs slots ≡ pairs_text kind pairs (map told (known_in slots))
  all_lines [] [] same closed = refl
  all_lines [] (s ∷ slots) same closed = absurd (omega (arith, same))
  all_lines (p ∷ pairs) [] same closed = refl
  all_lines (p ∷ pairs) (Open next ∷ slots) same closed = absurd (closed 0 (Open next) (omega arith))
  all_lines (p ∷ pairs) (Known answer ∷ slots) same closed =
      ap (λ (l : List ℕ). kind.text p (told answer) ++ l) (all_lines pairs slots (omega (arith, same)) (λ i d less. closed (suc i) d (omega (arith, less))))

  -- they were sent
  pub sent_all : {W : Type 0} (w : Writer W) (pairs : List (ℕ × ℕ)) (slots : List (PairState A)) (i : ℕ) (old new : W) (before after : Printer) → length slots ≡ length pairs → All IsClosed slots → length slots ≤ i
      → Sends w (lines_in (take i pairs) (take i slots)) old before new after → Sends w (pairs_text kind pairs (map told (known_in slots))) old before new after
  sent_all w pairs slots i old new before after same closed all sent =
      let whole : lines_in (take i pairs) (take i slots) ≡ pairs_text kind pairs (map told (known_in slots)) = rw (take_all i pairs (omega (arith, same, all)), take_all i slots all) (all_lines pairs slots same closed) in
      subst (λ (text : List ℕ). Sends w text old before new after) whole sent

  -- the slots that tell a vertex that is too far are as many as the answers
  pub far_known : (slots : List (PairState A)) → count_by (is_far_slot kind told) slots ≡ count_by kind.is_too_far (map told (known_in slots))
  far_known [] = refl
  far_known (Open next ∷ slots) = sum_by-cons (λ (s : PairState A). cond (is_far_slot kind told s) 1 0) (Open next) slots ∙ (zero-add _ ∙ far_known slots)
  far_known (Known answer ∷ slots) =
      sum_by-cons (λ (s : PairState A). cond (is_far_slot kind told s) 1 0) (Known answer) slots
      ∙ (ap (λ (n : ℕ). cond (kind.is_too_far (told answer)) 1 0 + n) (far_known slots) ∙ sym (sum_by-cons (λ (a : kind.Answer). cond (kind.is_too_far a) 1 0) (told answer) (map told (known_in slots))))

  pub count_all : (slots : List (PairState A)) (i count : ℕ) → length slots ≤ i → count ≡ count_by (is_far_slot kind told) (take i slots) → count ≡ count_by kind.is_too_far (map told (known_in slots))
  count_all slots i count all is = is ∙ (ap (λ (l : List (PairState A)). count_by (is_far_slot kind told) l) (take_all i slots all) ∙ far_known slots)
