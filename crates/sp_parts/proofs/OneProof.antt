-- There is one proof at most that parts were read of a text.
use Rattle.std.proofs.Common.{ℕ, List, [], ◌∷◌, Option}
use Rattle.std.specs.Coded.{×_prop, Unit-prop}
use Rattle.std.specs.List.{AllByRecursion}
use Rattle.std.proofs.Props.{props}
use Rattle.std.proofs.Math.Logic.{∥∥₁_elim}
use Rattle.sp_text.specs.declared.formats.Ranges.{Ranges}
use Rattle.sp_text.specs.declared.formats.Top.{Top}
use Rattle.sp_text.specs.declared.formats.Field.{Field}
use Rattle.sp_text.specs.Formats.{Format, LineForm}
use Rattle.sp_text.specs.Text.{ItemLine, Reading, Comment, Bad, IsProblem, IsItem}
use Rattle.sp_text.specs.Plain.{IsPlainItem, IsPlainReading, IsPlain}
use Rattle.sp_parts.specs.declared.parts.Part.{Part}
use Rattle.sp_parts.specs.Parts.{IsPartOf, AreParts}

top_set : IsSet Top
top_set = Prim.hlevel props

field_set : IsSet Field
field_set = Prim.hlevel (props, top_set)

form_set : IsSet LineForm
form_set = Prim.hlevel (props, top_set, field_set)

plain_item : (format : Format) (ranges : Ranges) (ps : List ℕ) (item : ItemLine) → IsProp (IsPlainItem format ranges ps item)
plain_item format ranges ps item = Prim.hlevel (props, form_set)

plain_reading : (format : Format) (ranges : Ranges) (ps : List ℕ) (reading : Reading) → IsProp (IsPlainReading format ranges ps reading)
plain_reading format ranges ps Comment = Unit-prop
plain_reading format ranges ps Bad = Prim.hlevel
plain_reading format ranges ps (IsProblem ns) = Prim.hlevel
plain_reading format ranges ps (IsItem item) = plain_item format ranges ps item

plain : (format : Format) (ranges : Ranges) (ps line : List ℕ) → IsProp (IsPlain format ranges ps line)
plain format ranges ps line = Prim.hlevel (props, plain_reading)

all_plain : (format : Format) (ranges : Ranges) (ps : List ℕ) (all : List (List ℕ)) → IsProp (AllByRecursion (IsPlain format ranges ps) all)
all_plain format ranges ps [] = Unit-prop
all_plain format ranges ps (line ∷ all) = ×_prop (plain format ranges ps line) (all_plain format ranges ps all)

one_part : {K : Type 0} (format : Format) (ranges : Ranges) (Kept : K → List ItemLine → Type 0) (ps text : List ℕ) (part : Part K) → ((keep : K) (items : List ItemLine) → IsProp (Kept keep items)) → IsProp (IsPartOf format ranges Kept ps text part)
one_part format ranges Kept ps text part once = Prim.hlevel (props, all_plain, once)

parts : {K : Type 0} (format : Format) (ranges : Ranges) (Kept : K → List ItemLine → Type 0) (problem : Option (List ℕ)) (text : List ℕ) (parts : List (Part K)) → ((keep : K) (items : List ItemLine) → IsProp (Kept keep items)) → IsProp (AreParts format ranges Kept problem text parts)
parts format ranges Kept problem text all once = Prim.hlevel (props, all_plain, once)

-- That they were read is known where it is known that there is a proof.
pub parts_along : {K : Type 0} (format : Format) (ranges : Ranges) (Kept : K → List ItemLine → Type 0) (problem : Option (List ℕ)) (text : List ℕ) (all : List (Part K)) → ((keep : K) (items : List ItemLine) → IsProp (Kept keep items)) → ∥ AreParts format ranges Kept problem text all ∥₁ → AreParts format ranges Kept problem text all
parts_along format ranges Kept problem text all once read = ∥∥₁_elim read (parts format ranges Kept problem text all once) (λ h. h)
