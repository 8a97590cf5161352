-- What a run of the program leaves, over a system.
use Rattle.std.specs.Prelude.{◌≡◌, ◌⊎◌, ℕ, List, ◌++◌, Option, None, codes}
use Rattle.std.specs.Io.KnownBytes.{Appends}
use Rattle.sp_device.specs.declared.devices.Write.{Ghosts as Writer}
use Rattle.sp_command.specs.Lines.{newline}
use Rattle.sp_command.specs.Outputs.{IsBlank, OutputFiles}
use Rattle.sp_command.specs.Scene.{Files, Scene, IsUnwritten, scene}
use Rattle.sp_disk.specs.Found.{Tells}
use Rattle.sp_order.specs.Orders.{Obeying}
use Rattle.sp_order.specs.Told.{BreaksOff, IsAnswered}

-- The words were obeyed with some answer, and told of.
pub record IsCarriedBy {Command Text E : Type 0} (by : Obeying Command Text) (words : List (List ℕ)) (s : Scene) (old new : OutputFiles) (e : Writer E) (err_old err_new : E) (code : ℕ) : Type 0 where
  pub answered : IsAnswered by words s old new e err_old err_new code

-- The words that were obeyed are those that the program was given, if these are known.
pub record ObeysGiven {Command Text E : Type 0} (by : Obeying Command Text) (given : Option (List (List ℕ))) (s : Scene) (old new : OutputFiles) (e : Writer E) (err_old err_new : E) (code : ℕ) : Type 0 where
  pub words : List (List ℕ)
  pub told : Tells given words
  pub carried : IsCarriedBy by words s old new e err_old err_new code

-- The text about words that can't be read.
abbrev pub unread_text : List ℕ
unread_text = codes "spt: an argument is not UTF-8" ++ newline ++ codes "spt: use - and a redirection, as in spt tree - SS .. < GR > OUT" ++ newline

-- The words can't be read, which is told. No known words are like that.
pub record LacksWords {E : Type 0} (given : Option (List (List ℕ))) (s : Scene) (old new : OutputFiles) (e : Writer E) (err_old err_new : E) (code : ℕ) : Type 0 where
  pub unknown : given ≡ None
  pub unwritten : IsUnwritten s
  pub unkept : new ≡ old
  pub told : Appends (e.written err_old) (e.written err_new) unread_text ⊎ BreaksOff e unread_text err_old err_new
  pub status : code ≡ 1

-- The words that the program was given are obeyed, or they can't be read.
abbrev pub IsRun : {Command Text E : Type 0} → Obeying Command Text → (given : Option (List (List ℕ))) → Scene → (old new : OutputFiles) → Writer E → (err_old err_new : E) → (code : ℕ) → Type 0
IsRun by given s old new e err_old err_new code = ObeysGiven by given s old new e err_old err_new code ⊎ LacksWords given s old new e err_old err_new code

-- The program ran on streams on which nothing stood before, and left them like this.
pub record RanOn {Command Text W E : Type 0} (by : Obeying Command Text) (given : Option (List (List ℕ))) (files : Files) (old new : OutputFiles) (w : Writer W) (e : Writer E) (out : W) (err : E) (code : ℕ) : Type 0 where
  pub out_before : W
  pub err_before : E
  pub out_blank : IsBlank (w.written out_before)
  pub err_blank : IsBlank (e.written err_before)
  pub ran : IsRun by given (scene files (w.written out_before) (w.written out) (w.has_failed out)) old new e err_before err code
