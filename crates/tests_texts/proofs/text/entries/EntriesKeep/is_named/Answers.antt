use Rattle.std.proofs.Common.{◌≡◌, ℕ, ◌&&◌, ◌||◌, Bool, List, [], ◌∷◌, map, refl, ap, ◌∙◌}
use Rattle.std.specs.Prelude.{◌==◌, slice_index}
use Rattle.std.specs.List.{list_any}
use Rattle.tests_texts.specs.Samples.{entry_of}
use Rattle.sp_text.specs.Text.{ItemLine, is_named}
use Rattle.tests_texts.proofs.text.entries.EntriesKeep.is_named.Goals as goal

any_entry : (place first : ℕ) (items : List ItemLine) → list_any (λ (e : ℕ × ℕ × ℕ × ℕ). (e.0 == place) && (e.1 == first)) (map entry_of items) ≡ is_named place first items
any_entry place first [] = refl
any_entry place first (x ∷ items) = ap (λ (b : Bool). ((x.kind == place) && (slice_index x.numbers 0 == first)) || b) (any_entry place first items)

pub returns : goal.returns
returns c = λ before kept. c.has_entry.ensures ∙ rw (c.deref.ensures.value, kept) (any_entry c.args.place c.args.first before)
