-- What is told of a text of which so many words came.
use Rattle.std.proofs.Common.{◌≡◌, ℕ, ◌+◌, ◌*◌, ◌<◌, ◌≤◌, ◌^◌, Bool, true, false, List, [], ◌++◌, length, get_or, take, drop, refl, sym, ap, subst, ⊎_elim, ◌∙◌, arith, append_assoc, length-append, Option}
use Rattle.std.specs.Io.KnownBytes.{Consumes, IsAtEnd}
use Rattle.std.proofs.KnownBytes.{Consumes-trans}
use Rattle.std.proofs.lemmas.Bool.{cases_Bool}
use Rattle.std.proofs.lemmas.List.{append-nil, take_all, take-take, take-append-drop, length-take-le}
use Rattle.sp_paths.specs.declared.arc.Arc.{Arc}
use Rattle.sp_packed.specs.declared.faults.PackedKind.{PackedKind}
use Rattle.sp_packed.specs.declared.faults.PackedKind.TheVariants.{OtherForm, OutOfRange, OtherSum, TooMany, TooFew, Memory, Read}
use Rattle.sp_packed.specs.Words.{words}
use Rattle.sp_packed.specs.Packed.{content, with_sum}
use Rattle.sp_packed.specs.Parts.{AreParts, BegunGraph}
use Rattle.sp_packed.specs.Faults.{BeginsBy, Begins, IsPlace, IsWordKind, IsOther, Shows}
use Rattle.sp_packed.specs.Reading.{Told}
use Rattle.sp_packed.proofs.Spelling.{length-words, words-append, take_words, fit_take}
use Rattle.sp_packed.proofs.Beginning.{length-parts, whole_begun}
use Rattle.sp_packed.proofs.Graphs.{begins_of, begun_of}

pub word_kind_shows : (top most : ℕ) (came : List ℕ) (left : Option (List ℕ)) (has_failed : Bool) (at : ℕ) (kind : PackedKind) → IsWordKind kind
    → IsOther top most came at → Shows top most came left has_failed at kind
word_kind_shows top most came left has_failed at OtherForm word h = h
word_kind_shows top most came left has_failed at (OutOfRange field) word h = h
word_kind_shows top most came left has_failed at OtherSum word h = h
word_kind_shows top most came left has_failed at TooMany word h = absurd word
word_kind_shows top most came left has_failed at TooFew word h = absurd word
word_kind_shows top most came left has_failed at Memory word h = absurd word
word_kind_shows top most came left has_failed at Read word h = absurd word

-- how many words a text has that begins so
pub begun_size : (top most : ℕ) (ws : List ℕ) (b : BegunGraph top most ws) → length ws + length b.more ≡ 9 + b.n + 2 * length b.arcs
begun_size top most ws b =
    omega (arith, ap length b.is, length-append ws b.more, length-parts b.n b.ends b.arcs, b.parts.ends_are.size)

module _ (top most : ℕ) (start new : Option (List ℕ)) (has_failed : Bool) (all part : List ℕ) (took : Consumes start new (words all ++ part)) where
  size : length (words all ++ part) ≡ 4 * length all + length part
  size = omega (arith, length-append (words all) part, length-words all)

  -- some packed text begins with the first k words
  tell : (k : ℕ) (kind : PackedKind) (front : List ℕ) → k ≤ length all → take k all ≡ front → (b : BegunGraph top most front) → IsPlace kind b.n (length b.arcs) k
      → Shows top most (words all ++ part) new has_failed (4 * k) kind → Told top most start new has_failed (record { at = 4 * k; kind = kind })
  tell k kind front le e b place shows = (
    words all ++ part,
    took,
    record {
      word = k;
      place = refl;
      within = omega (arith, size, le);
      graph = record { n = b.n; arcs = b.arcs };
      begins = subst (λ l. BeginsBy top most (record { n = b.n; arcs = b.arcs }) l) (sym (take_words all part k le ∙ ap words e)) (begins_of top most front b);
      kind = place;
      shows = shows;
    },
  )

  next_take : (k : ℕ) (next : List ℕ) → k < length all → take (k + 1) all ≡ next → take (4 * k + 4) (words all ++ part) ≡ words next
  next_take k next lt e =
      ap (λ i. take i (words all ++ part)) (let same : 4 * k + 4 ≡ 4 * (k + 1) = omega arith in same) ∙ take_words all part (k + 1) (omega arith) ∙ ap words e

  -- the word is another
  pub told_other : (k : ℕ) (kind : PackedKind) (front next : List ℕ) → IsWordKind kind → ((i : ℕ) → get_or all i 0 < 2 ^ 32) → k < length all
      → take k all ≡ front → take (k + 1) all ≡ next → (b : BegunGraph top most front)
      → (BegunGraph top most next → ⊥) → IsPlace kind b.n (length b.arcs) k → Told top most start new has_failed (record { at = 4 * k; kind = kind })
  told_other k kind front next word fits lt e f b other place =
      tell k kind front (omega arith) e b place (word_kind_shows top most (words all ++ part) new has_failed (4 * k) kind word (
        omega (arith, size, lt),
        λ begins. other (begun_of top most next (λ i. subst (λ l. get_or l i 0 < 2 ^ 32) f (fit_take all (k + 1) fits i))
            (subst (λ l. Begins top most l) (next_take k next lt f) begins)),
      ))

  -- there was no room for it
  pub told_memory : (k : ℕ) (next : List ℕ) → k < length all → take (k + 1) all ≡ next → BegunGraph top most next
      → Told top most start new has_failed (record { at = 4 * k; kind = Memory })
  told_memory k next lt e b =
      let long : length next ≡ k + 1 = sym (ap length e) ∙ length-take-le (k + 1) all (omega arith) in
      let less : k < 9 + b.n + 2 * length b.arcs = omega (arith, begun_size top most next b, long) in
      let split : with_sum (content b.n b.ends b.arcs) ≡ take k next ++ (drop k next ++ b.more)
      = b.is ∙ ap (λ l. l ++ b.more) (sym (take-append-drop k next)) ∙ append_assoc (take k next) (drop k next) b.more in
      let front : BegunGraph top most (take k next) = record { n = b.n; ends = b.ends; arcs = b.arcs; parts = b.parts; more = drop k next ++ b.more; is = split } in
      tell k Memory (take k next) (omega arith) (sym (take-take k (k + 1) all (omega arith)) ∙ ap (take k) e) front less (
        omega (arith, size, lt),
        (record { n = b.n; arcs = b.arcs }, subst (λ l. BeginsBy top most (record { n = b.n; arcs = b.arcs }) l) (sym (next_take k next lt e)) (begins_of top most next b)),
      )

  -- it didn't come whole
  pub told_cut : (k : ℕ) (kind : PackedKind) (failed : Bool) → (failed ≡ false → kind ≡ TooFew) → (failed ≡ true → kind ≡ Read) → length all ≡ k → length part < 4
      → (b : BegunGraph top most all) → k < 9 + b.n + 2 * length b.arcs → (failed ≡ false → IsAtEnd new) → (failed ≡ true → has_failed ≡ true)
      → Told top most start new has_failed (record { at = 4 * k; kind = kind })
  told_cut k kind failed few read long short b within ended broken = ⊎_elim broke cut (cases_Bool failed)
    where
      whole : take k all ≡ all
      whole = take_all k all (omega arith)

      broke : failed ≡ true → Told top most start new has_failed (record { at = 4 * k; kind = kind })
      broke is =
          subst (λ x. Told top most start new has_failed (record { at = 4 * k; kind = x })) (sym (read is))
          (tell k Read all (omega arith) whole b (omega (arith, within)) (omega (arith, size, long, short), broken is))

      cut : failed ≡ false → Told top most start new has_failed (record { at = 4 * k; kind = kind })
      cut is =
          subst (λ x. Told top most start new has_failed (record { at = 4 * k; kind = x })) (sym (few is))
          (tell k TooFew all (omega arith) whole b within (omega (arith, size, long, short), ended is))

-- behind a whole text
module _ (top most n : ℕ) (ends : List ℕ) (arcs : List Arc) (parts : AreParts top most n ends arcs) (start new : Option (List ℕ)) (has_failed : Bool) where
  abbrev text : List ℕ
  text = with_sum (content n ends arcs)

  total : length (with_sum (content n ends arcs)) ≡ 9 + n + 2 * length arcs
  total = omega (arith, length-parts n ends arcs, parts.ends_are.size)

  all_taken : (k : ℕ) → k ≡ 9 + n + 2 * length arcs → take k (with_sum (content n ends arcs)) ≡ with_sum (content n ends arcs)
  all_taken k e = take_all k text (omega (arith, total, e))

  -- bytes stand there
  pub told_many : (part : List ℕ) (k : ℕ) → Consumes start new (words (with_sum (content n ends arcs)) ++ part) → 0 < length part → k ≡ 9 + n + 2 * length arcs
      → Told top most start new has_failed (record { at = 4 * k; kind = TooMany })
  told_many part k took some e =
      tell top most start new has_failed text part took k TooMany text (omega (arith, total, e)) (all_taken k e) (whole_begun top most n ends arcs parts) e
      (omega (arith, length-append (words text) part, length-words text, total, e, some))

  -- the device failed there
  pub told_end : (k : ℕ) → Consumes start new (words (with_sum (content n ends arcs))) → k ≡ 9 + n + 2 * length arcs → has_failed ≡ true
      → Told top most start new has_failed (record { at = 4 * k; kind = Read })
  told_end k took e broken =
      let took' : Consumes start new (words text ++ []) = subst (λ l. Consumes start new l) (sym (append-nil (words text))) took in
      tell top most start new has_failed text [] took' k Read text (omega (arith, total, e)) (all_taken k e) (whole_begun top most n ends arcs parts) (omega (arith, e))
      (omega (arith, length-append (words text) [], length-words text, total, e), broken)

-- Words came behind others.
pub took_on : (start old new : Option (List ℕ)) (before ns part : List ℕ) → Consumes start old (words before) → Consumes old new (words ns ++ part)
    → Consumes start new (words (before ++ ns) ++ part)
took_on start old new before ns part first then =
    subst (λ l. Consumes start new l) (sym (append_assoc (words before) (words ns) part) ∙ ap (λ l. l ++ part) (sym (words-append before ns)))
    (Consumes-trans start old new (words before) (words ns ++ part) first then)
