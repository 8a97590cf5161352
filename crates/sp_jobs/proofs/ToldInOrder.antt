-- Some sources answered, and then those behind them.
use Rattle.std.proofs.Common.{◌≡◌, ℕ, ◌+◌, ◌*◌, ◌<◌, ◌≤◌, ◌^◌, List, [], ◌∷◌, ◌++◌, length, map, get_or, take, drop, take-append-drop, Option, Result, Ok, Err, refl, sym, ap, ◌∙◌, zero, suc, true, arith, length-append, append_assoc}
use Rattle.std.specs.Prelude.{All, sum_by, IfErr}
use Rattle.std.proofs.lemmas.Bool.{false≢true}
use Rattle.std.proofs.KnownBytes.{Appends-nil, Appends-trans}
use Rattle.std.proofs.lemmas.List.{append-nil, map-append, take_more, drop_at}
use Rattle.std.proofs.lemmas.List.Elements.{All-same, All-drop}
use Rattle.std.proofs.lemmas.List.Concat.{flat_map-append}
use Rattle.std.proofs.lemmas.List.Sums.{sum_by-append, sum_by-cons}
use Rattle.sp_device.specs.declared.devices.Write.{Ghosts as Writer}
use Rattle.sp_device.specs.Devices.{IsBegun}
use Rattle.sp_device.proofs.TextSteps.{begun_behind, begun_more}
use Rattle.sp_jobs.specs.declared.answers.Summary.{Summary}
use Rattle.sp_jobs.specs.declared.answers.BatchError.{BatchError}
use Rattle.sp_jobs.specs.declared.answers.BatchError.TheVariants.{Gr, Ss, Targets, Pairs, NoSuchVertex, Memory, Write}
use Rattle.sp_jobs.specs.Answers.{is_early}
use Rattle.sp_jobs.specs.declared.answering.Step.{Step}
use Rattle.sp_jobs.specs.Told.{WrittenAnswer, IsDue, AreDue, count_of, far_of, text_of, told_text, IsSummary, IsWritten, AreWritten, AreDone, HasBegunFirst, AreAllAnswered}
use Rattle.sp_jobs.specs.Steps.{none, sum_of, Fits, AreFound, AreFew, IsStep, IsStepped}

-- ## Lists

-- A list that was split is its two parts.
pub two_parts : (sources left right : List ℕ) (k : ℕ) → left ≡ take k sources → right ≡ drop k sources → left ++ right ≡ sources
two_parts sources left right k front back = rw (front, back) (take-append-drop k sources)

-- What holds of all holds of those behind others.
pub all_behind : (P : ℕ → Type 0) (sources front rest : List ℕ) → sources ≡ front ++ rest → All P sources → All P rest
all_behind P sources front rest parts all = All-same P rest (drop (length front) sources) (sym (drop_at front rest (length front) refl) ∙ ap (λ (l : List ℕ). drop (length front) l) (sym parts)) (All-drop P (length front) sources all)

pub none_left : (sources : List ℕ) → length sources ≡ 0 → sources ≡ []
none_left [] none = refl
none_left (s ∷ sources) none = absurd (omega arith)

-- ## Answers

module _ (Answers : ℕ → WrittenAnswer → Type 0) where
  pub due_both : (front back : List ℕ) (first second : List WrittenAnswer) → AreDue Answers front first → AreDue Answers back second → AreDue Answers (front ++ back) (first ++ second)
  due_both [] back [] second are more = more
  due_both [] back (a ∷ first) second are more = absurd are
  due_both (s ∷ front) back [] second are more = absurd are
  due_both (s ∷ front) back (a ∷ first) second are more = (are.0, due_both front back first second are.1 more)

  -- They count no more than so many lists of the greatest length.
  pub due_few : (sources : List ℕ) (all : List WrittenAnswer) → AreDue Answers sources all → (sum_by count_of all ≤ length sources * 1048576) × (sum_by far_of all ≤ sum_by count_of all)
  due_few [] [] are = (omega arith, omega arith)
  due_few [] (a ∷ all) are = absurd are
  due_few (s ∷ sources) [] are = absurd are
  due_few (s ∷ sources) (a ∷ all) are =
      let more = due_few sources all are.1 in
      let counts = sum_by-cons count_of a all in
      let fars = sum_by-cons far_of a all in
      (omega (arith, more.0, counts, are.0.few), omega (arith, more.1, counts, fars, are.0.far))

module _ {F : Type 0} (told : F → WrittenAnswer) (Answers : ℕ → WrittenAnswer → Type 0) where
  pub found_both : (front back : List ℕ) (first second : List F) → AreFound told Answers front first → AreFound told Answers back second → AreFound told Answers (front ++ back) (first ++ second)
  found_both front back first second are more = rw (map-append told first second) (due_both Answers front back (map told first) (map told second) are more)

  -- One more was found.
  pub found_more : (sources : List ℕ) (i : ℕ) (group : List F) (found : F) → i < length sources → AreFound told Answers (take i sources) group → IsDue Answers (get_or sources i 0) (told found) → AreFound told Answers (take (i + 1) sources) (group ++ found ∷ [])
  found_more sources i group found less are is = rw (take_more sources i 0 less) (found_both (take i sources) (get_or sources i 0 ∷ []) group (found ∷ []) are (is, tt))

-- The answers before one, it, and those behind it.
pub group_parts : {F : Type 0} (told : F → WrittenAnswer) (group : List F) (i : ℕ) (found : F) → i < length group → found ≡ get_or group i found → map told group ≡ (map told (take i group) ++ told found ∷ []) ++ map told (drop (i + 1) group)
group_parts {F} told group i found less is =
    let answers : List F → List WrittenAnswer = λ (l : List F). map told l in
    let later = answers (drop (i + 1) group) in
    let front : answers (take (i + 1) group) ≡ answers (take i group) ++ told found ∷ [] =
    ap answers (take_more group i found less)
    ∙ (map-append told (take i group) (get_or group i found ∷ []) ∙ ap (λ (f : F). answers (take i group) ++ told f ∷ []) (sym is)) in
    ap answers (sym (take-append-drop (i + 1) group)) ∙ (map-append told (take (i + 1) group) (drop (i + 1) group) ∙ ap (λ (l : List WrittenAnswer). l ++ later) front)

pub text_both : (first second : List WrittenAnswer) → told_text (first ++ second) ≡ told_text first ++ told_text second
text_both first second = flat_map-append text_of first second

-- ## What was written

still_small : (b n p q : ℕ) → q ≡ p + n → (0 < b → p ≤ 2 ^ 62) → (0 < n → q ≤ 2 ^ 62) → 0 < b + n → q ≤ 2 ^ 62
still_small b zero p q is small more some = omega (arith, is, small (omega (arith, some)))
still_small b (suc n) p q is small more some = more (omega arith)

sum_fits : (b n s p q : ℕ) → p ≡ s + b → q ≡ p + n → (0 < b → p ≤ 2 ^ 62) → (0 < n → q ≤ 2 ^ 62) → b + n < 2 ^ 64
sum_fits zero zero s p q from is small more = omega arith
sum_fits (suc b) zero s p q from is small more = omega (arith, from, small (omega arith))
sum_fits b (suc n) s p q from is small more = omega (arith, from, is, more (omega arith))

pub summary_both : (first second : List WrittenAnswer) (one two : Summary) → IsSummary first one → IsSummary second two → IsSummary (first ++ second) (sum_of one two)
summary_both first second one two h k = record {
  sources = omega (arith, h.sources, k.sources, sum_by-append count_of first second);
  too_far = omega (arith, h.too_far, k.too_far, sum_by-append far_of first second);
  bytes = rw (text_both first second) (omega (arith, h.bytes, k.bytes, length-append (told_text first) (told_text second)));
}

pub none_written : {W : Type 0} (device : Writer W) (out : W) → IsWritten device [] out none out
none_written device out = record {
  wrote = Appends-nil (device.written out);
  counted = record { sources = refl; too_far = refl; bytes = refl };
  went = omega arith;
  small = λ (some : 0 < 0). absurd (omega (arith, some));
}

pub written_both : {W : Type 0} (device : Writer W) (first second : List WrittenAnswer) (old mid new : W) (one two : Summary) → IsWritten device first old one mid → IsWritten device second mid two new
    → IsWritten device (first ++ second) old (sum_of one two) new
written_both device first second old mid new one two h k = record {
  wrote = rw (text_both first second) (Appends-trans (device.written old) (device.written mid) (device.written new) (told_text first) (told_text second) h.wrote k.wrote);
  counted = summary_both first second one two h.counted k.counted;
  went = omega (arith, h.went, k.went);
  small = still_small one.bytes two.bytes (device.passed mid) (device.passed new) k.went h.small k.small;
}

pub begun_both : {W : Type 0} (device : Writer W) (first second : List WrittenAnswer) (old mid : W) (new : Option (List ℕ)) (one : Summary) → IsWritten device first old one mid → IsBegun (told_text second) (device.written mid) new
    → IsBegun (told_text (first ++ second)) (device.written old) new
begun_both device first second old mid new one h begun =
    begun_behind (told_text (first ++ second)) (told_text first) (told_text second) (device.written old) (device.written mid) new (text_both first second) h.wrote begun

-- The writer failed behind some answers, and so the text of all was begun.
pub written_refused : {W : Type 0} (device : Writer W) (all first second later : List WrittenAnswer) (old mid new : W) (one : Summary) (e : BatchError) → all ≡ (first ++ second) ++ later → IsWritten device first old one mid
    → AreWritten device second mid (Err e) new → AreWritten device all old (Err e) new
written_refused device all first second later old mid new one Write parts h begun = (
  rw (ap told_text parts ∙ text_both (first ++ second) later) (begun_more (told_text (first ++ second)) (told_text later) (device.written old) (device.written new) (begun_both device first second old mid (device.written new) one h begun.0)),
  begun.1,
)
written_refused device all first second later old mid new one Memory parts h begun = absurd begun
written_refused device all first second later old mid new one (Gr e) parts h begun = absurd begun
written_refused device all first second later old mid new one (Ss e) parts h begun = absurd begun
written_refused device all first second later old mid new one (Targets e) parts h begun = absurd begun
written_refused device all first second later old mid new one (Pairs e) parts h begun = absurd begun
written_refused device all first second later old mid new one (NoSuchVertex v role) parts h begun = absurd begun

pub counts_fit : {W : Type 0} (device : Writer W) (first second : List WrittenAnswer) (old mid new : W) (one two : Summary) → IsWritten device first old one mid → IsWritten device second mid two new
    → sum_by count_of first + sum_by count_of second < 2 ^ 64 → sum_by far_of first + sum_by far_of second < 2 ^ 64 → Fits one two
counts_fit device first second old mid new one two h k few far = record {
  sources = omega (arith, h.counted.sources, k.counted.sources, few);
  too_far = omega (arith, h.counted.too_far, k.counted.too_far, far);
  bytes = sum_fits one.bytes two.bytes (device.passed old) (device.passed mid) (device.passed new) h.went k.went h.small k.small;
}

-- The sums over a group and its first answers fit.
pub group_fits : {F W : Type 0} (told : F → WrittenAnswer) (Answers : ℕ → WrittenAnswer → Type 0) (device : Writer W) (group : List F) (i : ℕ) (found : F) (old mid new : W) (one two : Summary) → AreFew told Answers group → i < length group → found ≡ get_or group i found
    → IsWritten device (map told (take i group)) old one mid → IsWritten device (told found ∷ []) mid two new → Fits one two
group_fits told Answers device group i found old mid new one two few less is h k =
    let first = map told (take i group) in
    let second = told found ∷ [] in
    let later = map told (drop (i + 1) group) in
    let parts = group_parts told group i found less is in
    let due = due_few Answers few.sources (map told group) few.found in
    let counts : sum_by count_of (map told group) ≡ sum_by count_of first + sum_by count_of second + sum_by count_of later =
    ap (sum_by count_of) parts ∙ (sum_by-append count_of (first ++ second) later ∙ ap (λ (n : ℕ). n + sum_by count_of later) (sum_by-append count_of first second)) in
    let fars : sum_by far_of (map told group) ≡ sum_by far_of first + sum_by far_of second + sum_by far_of later =
    ap (sum_by far_of) parts ∙ (sum_by-append far_of (first ++ second) later ∙ ap (λ (n : ℕ). n + sum_by far_of later) (sum_by-append far_of first second)) in
    counts_fit device first second old mid new one two h k (omega (arith, counts, due.0, few.short)) (omega (arith, fars, due.0, due.1, few.short))

-- ## Sources

pub none_done : {W : Type 0} (Answers : ℕ → WrittenAnswer → Type 0) (device : Writer W) (out : W) → AreDone Answers [] device out none out
none_done Answers device out = record { all = []; are = tt; text = none_written device out }

module _ {W : Type 0} {Answers : ℕ → WrittenAnswer → Type 0} {device : Writer W} {front back : List ℕ} {old mid new : W} {one two : Summary} where
  pub done_both : AreDone Answers front device old one mid → AreDone Answers back device mid two new → AreDone Answers (front ++ back) device old (sum_of one two) new
  done_both h k = record {
    all = h.all ++ k.all;
    are = due_both Answers front back h.all k.all h.are k.are;
    text = written_both device h.all k.all old mid new one two h.text k.text;
  }

  pub done_fit : AreDone Answers front device old one mid → AreDone Answers back device mid two new → length front + length back ≤ 2097152 → Fits one two
  done_fit h k few =
      let first = due_few Answers front h.all h.are in
      let second = due_few Answers back k.all k.are in
      counts_fit device h.all k.all old mid new one two h.text k.text (omega (arith, first.0, second.0, few)) (omega (arith, first.0, second.0, first.1, second.1, few))

-- What was found and then written was answered.
module _ {W : Type 0} (Answers : ℕ → WrittenAnswer → Type 0) (device : Writer W) where
  pub all_written : (sources : List ℕ) (all : List WrittenAnswer) (old new : W) (result : Result Summary BatchError) → AreDue Answers sources all
      → AreWritten device all old result new → AreAllAnswered Answers sources device old result new
  all_written sources all old new (Ok summary) are h = record { all = all; are = are; text = h }
  all_written sources all old new (Err Write) are h = (
    record { done = sources; later = []; parts = sym (append-nil sources); all = all; are = are; begun = h.0 },
    h.1,
  )
  all_written sources all old new (Err Memory) are h = absurd h
  all_written sources all old new (Err (Gr e)) are h = absurd h
  all_written sources all old new (Err (Ss e)) are h = absurd h
  all_written sources all old new (Err (Targets e)) are h = absurd h
  all_written sources all old new (Err (Pairs e)) are h = absurd h
  all_written sources all old new (Err (NoSuchVertex v role)) are h = absurd h

-- Memory was refused before anything was written.
pub none_begun : (Answers : ℕ → WrittenAnswer → Type 0) (sources : List ℕ) (old : Option (List ℕ)) → HasBegunFirst Answers sources old old
none_begun Answers sources old = record {
  done = [];
  later = sources;
  parts = refl;
  all = [];
  are = tt;
  begun = record { part = []; more = []; parts = refl; wrote = Appends-nil old };
}

module _ {W : Type 0} (Answers : ℕ → WrittenAnswer → Type 0) (sources front back later : List ℕ) (device : Writer W) (old mid : W) where
  begun_later : (new : Option (List ℕ)) (one : Summary) → sources ≡ (front ++ back) ++ later → AreDone Answers front device old one mid
      → HasBegunFirst Answers back (device.written mid) new → HasBegunFirst Answers sources (device.written old) new
  begun_later new one parts h begun = record {
    done = front ++ begun.done;
    later = begun.later ++ later;
    parts = parts ∙ (ap (λ (l : List ℕ). (front ++ l) ++ later) begun.parts ∙ simp append_assoc);
    all = h.all ++ begun.all;
    are = due_both Answers front begun.done h.all begun.all h.are begun.are;
    begun = begun_both device h.all begun.all old mid new one h.text begun.begun;
  }

  -- Sources behind others were refused, and so were all.
  pub refused_later : (new : W) (one : Summary) (e : BatchError) → sources ≡ (front ++ back) ++ later
      → AreDone Answers front device old one mid → AreAllAnswered Answers back device mid (Err e) new → AreAllAnswered Answers sources device old (Err e) new
  refused_later new one Memory parts h begun = begun_later (device.written new) one parts h begun
  refused_later new one Write parts h begun = (begun_later (device.written new) one parts h begun.0, begun.1)
  refused_later new one (Gr e) parts h begun = absurd begun
  refused_later new one (Ss e) parts h begun = absurd begun
  refused_later new one (Targets e) parts h begun = absurd begun
  refused_later new one (Pairs e) parts h begun = absurd begun
  refused_later new one (NoSuchVertex v role) parts h begun = absurd begun

-- Once answers are written, no file is refused.
pub not_early : {W : Type 0} (Answers : ℕ → WrittenAnswer → Type 0) (sources : List ℕ) (device : Writer W) (old new : W) (result : Result Summary BatchError) (same : Type 0) → AreAllAnswered Answers sources device old result new → IfErr result (λ e. is_early e ≡ true → same)
not_early Answers sources device old new (Ok summary) same is = tt
not_early Answers sources device old new (Err Memory) same is = λ early. absurd (false≢true early)
not_early Answers sources device old new (Err Write) same is = λ early. absurd (false≢true early)
not_early Answers sources device old new (Err (Gr e)) same is = absurd is
not_early Answers sources device old new (Err (Ss e)) same is = absurd is
not_early Answers sources device old new (Err (Targets e)) same is = absurd is
not_early Answers sources device old new (Err (Pairs e)) same is = absurd is
not_early Answers sources device old new (Err (NoSuchVertex v role)) same is = absurd is

-- ## Groups of sources

-- The first sources were answered, the answers to those behind them were found and wait, and the rest is to come.
pub record IsBetween {F W : Type 0} (told : F → WrittenAnswer) (Answers : ℕ → WrittenAnswer → Type 0) (sources : List ℕ) (device : Writer W) (old : W) (summary : Summary) (new : W) (waiting : List F) (rest : List ℕ) : Type 0 where
  pub front : List ℕ
  pub back : List ℕ
  pub parts : sources ≡ (front ++ back) ++ rest
  pub done : AreDone Answers front device old summary new
  pub found : AreFound told Answers back waiting

pub none_between : {F W : Type 0} (told : F → WrittenAnswer) (Answers : ℕ → WrittenAnswer → Type 0) (sources : List ℕ) (device : Writer W) (out : W) → IsBetween told Answers sources device out none out [] sources
none_between told Answers sources device out = record { front = []; back = []; parts = refl; done = none_done Answers device out; found = tt }

regroup : (sources front back rest group later : List ℕ) → sources ≡ (front ++ back) ++ rest → rest ≡ group ++ later → sources ≡ (front ++ (back ++ group)) ++ later
regroup sources front back rest group later parts cut = parts ∙ (ap (λ (l : List ℕ). (front ++ back) ++ l) cut ∙ simp append_assoc)

-- Those that wait are few.
pub between_few : {F W : Type 0} {told : F → WrittenAnswer} {Answers : ℕ → WrittenAnswer → Type 0} {sources : List ℕ} {device : Writer W} {old mid : W} {summary : Summary} {waiting : List F} (rest : List ℕ) → IsBetween told Answers sources device old summary mid waiting rest
    → length sources ≤ 1048576 → AreFew told Answers waiting
between_few rest b short =
    let long = ap length b.parts in
    record { sources = b.back; short = omega (arith, simp length-append at long, short); found = b.found }

module _ {F W : Type 0} {told : F → WrittenAnswer} {Answers : ℕ → WrittenAnswer → Type 0} {sources : List ℕ} {device : Writer W} {old mid : W} {summary : Summary} {waiting : List F} (new : W) where
  -- A further group was refused.
  pub between_refused : (rest group later : List ℕ) (e : BatchError) → IsBetween told Answers sources device old summary mid waiting rest → rest ≡ group ++ later
      → ((front : List ℕ) → AreFound told Answers front waiting → IsStepped told Answers (front ++ group) device mid (Err e) new) → AreAllAnswered Answers sources device old (Err e) new
  between_refused rest group later e b cut refused =
      refused_later Answers sources b.front (b.back ++ group) later device old mid new summary e (regroup sources b.front b.back rest group later b.parts cut) b.done (refused b.back b.found)

  -- A further group was answered.
  pub between_step : (rest group later : List ℕ) (step : Step F) → IsBetween told Answers sources device old summary mid waiting rest → rest ≡ group ++ later
      → ((front : List ℕ) → AreFound told Answers front waiting → IsStep told Answers (front ++ group) device mid step new) → IsBetween told Answers sources device old (sum_of summary step.summary) new step.waiting.items later
  between_step rest group later step b cut steps =
      let s = steps b.back b.found in
      record {
        front = b.front ++ s.front;
        back = s.back;
        parts = regroup sources b.front b.back rest group later b.parts cut ∙ (ap (λ (l : List ℕ). (b.front ++ l) ++ later) s.parts ∙ simp append_assoc);
        done = done_both b.done s.done;
        found = s.found;
      }

  pub step_fits : (rest group later : List ℕ) (step : Step F) → IsBetween told Answers sources device old summary mid waiting rest → rest ≡ group ++ later
      → ((front : List ℕ) → AreFound told Answers front waiting → IsStep told Answers (front ++ group) device mid step new) → length sources ≤ 1048576 → Fits summary step.summary
  step_fits rest group later step b cut steps short =
      let s = steps b.back b.found in
      let whole : sources ≡ (b.front ++ (s.front ++ s.back)) ++ later = regroup sources b.front b.back rest group later b.parts cut ∙ ap (λ (l : List ℕ). (b.front ++ l) ++ later) s.parts in
      let long = ap length whole in
      done_fit b.done s.done (omega (arith, simp length-append at long, short))

  -- The answers that wait were written last.
  pub between_last : (last : Summary) → IsBetween told Answers sources device old summary mid waiting [] → IsWritten device (map told waiting) mid last new → AreDone Answers sources device old (sum_of summary last) new
  between_last last b h =
      let whole : sources ≡ b.front ++ b.back = b.parts ∙ append-nil (b.front ++ b.back) in
      rw whole (done_both {front = b.front} {back = b.back} b.done (record { all = map told waiting; are = b.found; text = h }))

  pub last_fits : (last : Summary) → IsBetween told Answers sources device old summary mid waiting [] → IsWritten device (map told waiting) mid last new → length sources ≤ 1048576 → Fits summary last
  last_fits last b h short =
      let whole : sources ≡ b.front ++ b.back = b.parts ∙ append-nil (b.front ++ b.back) in
      let long = ap length whole in
      done_fit {front = b.front} {back = b.back} {new = new} b.done (record { all = map told waiting; are = b.found; text = h }) (omega (arith, simp length-append at long, short))

  pub last_refused : (e : BatchError) → IsBetween told Answers sources device old summary mid waiting [] → AreWritten device (map told waiting) mid (Err e) new → AreAllAnswered Answers sources device old (Err e) new
  last_refused e b h =
      refused_later Answers sources b.front b.back [] device old mid new summary e b.parts b.done (all_written Answers device b.back (map told waiting) mid new (Err e) b.found h)
