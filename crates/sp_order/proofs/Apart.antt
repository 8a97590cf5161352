-- Whether an output leads to a file of a command.
use Rattle.std.proofs.Common.{◌≡◌, ℕ, Bool, true, false, List, Option, Some, None, sym, ◌∙◌, subst}
use Rattle.std.proofs.lemmas.Bool.{false≢true}
use Rattle.sp_command.specs.declared.faults.FileKind.{FileKind}
use Rattle.sp_command.specs.declared.faults.FileKind.TheVariants as kind
use Rattle.sp_command.specs.Causes.{Paths, IsSpared, MayBeOutput, SparesInputs}
use Rattle.sp_command.specs.Scene.{Files}

module _ (paths : Paths) (files : Files) (output : List ℕ) (file : FileKind) where
  -- The command has such a file, and both paths are found to lead to one file.
  pub is_one : (path : List ℕ) (is : Bool) → Some path ≡ paths file → ((known : Bool) → files.same output path ≡ Some known → is ≡ known) → is ≡ true → MayBeOutput paths files output file
  is_one path is has known one = (path, sym has, λ other. false≢true (sym (known false other) ∙ one))

  -- They are found not to.
  pub is_other : (path : List ℕ) (is : Bool) → Some path ≡ paths file → ((known : Bool) → files.same output path ≡ Some known → is ≡ known) → is ≡ false → IsSpared paths files output file
  is_other path is has known two other other_has one =
      let same : other ≡ path = cc in
      false≢true (sym two ∙ known true (subst (λ p. files.same output p ≡ Some true) same one))

  -- The command has no such file.
  pub has_none : None ≡ paths file → IsSpared paths files output file
  has_none none other other_has one = let no : ⊥ = cc in no

-- There is no other kind of file.
pub spares_all : (paths : Paths) (files : Files) (output : List ℕ) → IsSpared paths files output kind.Graph → IsSpared paths files output kind.Sources → IsSpared paths files output kind.Targets → IsSpared paths files output kind.Pairs
    → IsSpared paths files output kind.Tree → IsSpared paths files output kind.Replay → IsSpared paths files output kind.Offers → SparesInputs paths files output
spares_all paths files output graph sources targets pairs tree replay offers kind.Graph = graph
spares_all paths files output graph sources targets pairs tree replay offers kind.Sources = sources
spares_all paths files output graph sources targets pairs tree replay offers kind.Targets = targets
spares_all paths files output graph sources targets pairs tree replay offers kind.Pairs = pairs
spares_all paths files output graph sources targets pairs tree replay offers kind.Tree = tree
spares_all paths files output graph sources targets pairs tree replay offers kind.Replay = replay
spares_all paths files output graph sources targets pairs tree replay offers kind.Offers = offers
