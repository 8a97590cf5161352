-- The answers where a file ends.
use Rattle.std.proofs.Common.{◌≡◌, ℕ, ◌∷◌, Bool, true, List, Option, Result, Ok, Err, inl, inr, sym, ap, ◌∙◌, length, length-append, None, arith}
use Rattle.std.specs.Prelude.{IfOk}
use Rattle.sp_word.specs.Word.{is_layout}
use Rattle.sp_text.specs.declared.faults.DimacsError.{DimacsError}
use Rattle.sp_text.specs.Lines.{ended, lines}
use Rattle.sp_text.specs.First.{Judge, fault_at_end}
use Rattle.sp_text.specs.Feeding.{IsMemory, Finished}
use Rattle.sp_text.specs.Whole.{AllRead, IsSpelled}
use Rattle.sp_files.specs.declared.reading.FileReader.{FileReader}
use Rattle.sp_files.specs.Spelling.{judge}
use Rattle.sp_files.specs.Taking.{FileForm, content_text, IsContent}
use Rattle.sp_files.specs.Reading.{HasTaken, Spells, FileFinished, FileRead}
use Rattle.sp_files.proofs.Contents.{text_is}
use Rattle.sp_files.proofs.Accepted.{finished}

-- Where a text ends all its lines were taken, and so no row is.
no_memory : (judge : Judge) (text : List ℕ) (e : DimacsError) → IsMemory judge (ended text) (ended text) e → ⊥
no_memory judge text e h = omega (arith, h.later, ap length h.parts, length-append h.front (h.line ∷ h.behind))

module _ {V : Type 0} (P : ℕ) (form : FileForm V) (layout : is_layout P ≡ true) where
  own : (text : List ℕ) (value : V) → fault_at_end (judge P form.begins) text ≡ None → Spells form (lines text) value → (text ≡ content_text (form.content value)) × IsContent P (form.content value)
  own text value none spells =
      let is = finished P form.begins layout text (form.content value) none spells in
      (is.0 ∙ sym (text_is (form.content value)), is.1)

  pub file_finished : (text : List ℕ) (new : FileReader V P) (result : Result V DimacsError) → Finished (judge P form.begins) (HasTaken form) (Spells form) text result new.feeder → FileFinished form text result new
  file_finished text new (Ok value) (none, spells, begins) =
      let is = own text value none spells in
      (is.0, is.1, begins)
  file_finished text new (Err e) (spent, inl is) = (spent, is)
  file_finished text new (Err e) (spent, inr memory) = absurd (no_memory (judge P form.begins) text e memory)

  pub file_read : (text : List ℕ) (left : Option (List ℕ)) (has_failed : Bool) (result : Result V DimacsError) → AllRead (judge P form.begins) (Spells form) text left has_failed result → FileRead P form text left has_failed result
  file_read text left has_failed (Ok value) (all, none, spells) = (all, (own text value none spells).0)
  file_read text left has_failed (Err e) (front, more, parts, rest, inl refused) = (front, more, parts, rest, inl refused)
  file_read text left has_failed (Err e) (front, more, parts, rest, inr (inl (end, inl is))) = (front, more, parts, rest, inr (inl (end, is)))
  file_read text left has_failed (Err e) (front, more, parts, rest, inr (inl (end, inr memory))) = absurd (no_memory (judge P form.begins) text e memory)
  file_read text left has_failed (Err e) (front, more, parts, rest, inr (inr failed)) = (front, more, parts, rest, inr (inr failed))

  pub file_found : (result : Result V DimacsError) → IfOk result (IsSpelled (judge P form.begins) (Spells form)) → IfOk result (λ value. IsContent P (form.content value))
  file_found (Ok value) (text, none, spells) = (own text value none spells).1
  file_found (Err e) h = tt
