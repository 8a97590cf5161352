-- A text that several threads read.
use Rattle.std.proofs.Common.{◌≡◌, ◌+◌, ◌^◌, ◌<◌, ◌≤◌, ℕ, Bool, true, false, List, [], ◌∷◌, ◌++◌, length, take, drop, Option, None, Some, refl, sym, ap, subst, ◌∙◌, append_assoc, arith, length-append, inl, inr}
use Rattle.std.specs.Prelude.{Result, Ok, Err}
use Rattle.std.specs.Io.KnownBytes.{Consumes, IsAtEnd}
use Rattle.std.proofs.KnownBytes.{Consumes-nil, Consumes-trans}
use Rattle.std.proofs.Math.Seq.{take-append_seam, take-append-add, drop-append_seam}
use Rattle.std.proofs.lemmas.List.{append-nil, take-append-drop, take-append-le, length-drop}
use Rattle.sp_device.specs.declared.devices.Read.{Ghosts as Device}
use Rattle.sp_device.specs.Failing.{Never}
use Rattle.sp_text.specs.declared.faults.DimacsError.{DimacsError}
use Rattle.sp_text.specs.declared.collecting.Keep.{Ghosts as Keeper}
use Rattle.sp_text.specs.declared.collecting.Collector.{Collector}
use Rattle.sp_text.specs.declared.feeding.Feeder.{Feeder}
use Rattle.sp_text.specs.Lines.{ended}
use Rattle.sp_text.specs.First.{Judge}
use Rattle.sp_text.specs.Text.{judge}
use Rattle.sp_text.specs.Collectors.{HasTakenLines}
use Rattle.sp_text.specs.Feeding.{IsBehind, Finishes, Fails}
use Rattle.sp_text.specs.Plain.{HasProblem}
use Rattle.sp_text.specs.Whole.{ReadOn}
use Rattle.sp_text.proofs.Behind.{refusal_lasts, refused_earlier}
use Rattle.sp_parts.specs.declared.receiving.Received.{Received}
use Rattle.sp_parts.specs.declared.receiving.Received.TheVariants.{More, Over, Failed}
use Rattle.sp_parts.specs.Groups.{EndsAs, Brings, HasCome, HasComeTo, ComesOn, HasAnswered}
use Rattle.sp_parts.specs.Parts.{IsAt, IsNext, TakesNext}
use Rattle.sp_parts.specs.Stands.{Stands, Goes}
use Rattle.sp_parts.proofs.TextParts.{problem_lasts, finished_on}

-- 1. What has come of a device.

pub none_come : {R : Type 0} (r : Device R) (device : R) → HasCome r (r.left device) device []
none_come r device = record { bytes_are = Consumes-nil (r.left device); passed = omega arith; short = omega arith }

come_short : (text bytes : List ℕ) (before passed : ℕ) → length text ≤ before → length text ≤ 2 ^ 62 → passed ≡ before + length bytes → (0 < length bytes → passed ≤ 2 ^ 62) → length (text ++ bytes) ≤ 2 ^ 62
come_short text [] before passed fewer small is limit = rw append-nil small
come_short text (b ∷ bytes) before passed fewer small is limit = omega (arith, length-append text (b ∷ bytes), limit (omega arith))

pub more_come : {R : Type 0} (r : Device R) (source : Option (List ℕ)) (old new : R) (text bytes : List ℕ) (received : Received) → HasCome r source old text → Brings r old new bytes received → HasCome r source new (text ++ bytes)
more_come r source old new text bytes received h more = record {
  bytes_are = Consumes-trans source (r.left old) (r.left new) text bytes h.bytes_are more.bytes_are;
  passed = omega (arith, length-append text bytes, h.passed, more.passed);
  short = come_short text bytes (r.passed old) (r.passed new) h.passed h.short more.passed more.limit;
}

-- It goes on having come.
pub come_on : {R : Type 0} (r : Device R) (source : Option (List ℕ)) (old new : R) (came later : ℕ) (before after : Received) → HasComeTo r source old came → ComesOn r old new came later before after → HasComeTo r source new later
come_on r source old new came later before after (text, h, size) (inl (same, none, answer)) = rw (same, none) (text, h, size)
come_on r source old new came later before after (text, h, size) (inr (bytes, more, grown)) =
    (text ++ bytes, more_come r source old new text bytes after h more, length-append text bytes ∙ (ap (λ (n : ℕ). n + length bytes) size ∙ sym grown))

answered : (left : Option (List ℕ)) (has_failed : Bool) (count : ℕ) (received : Received) → EndsAs left has_failed count received → HasAnswered left has_failed received
answered left has_failed count More h = tt
answered left has_failed count Over h = h
answered left has_failed count Failed h = h

-- What comes then ends no farther than a text may.
pub come_far : {R : Type 0} (r : Device R) (source : Option (List ℕ)) (old new : R) (came : ℕ) (bytes : List ℕ) (received : Received) → HasComeTo r source old came → Brings r old new bytes received → came + length bytes ≤ 2 ^ 62
come_far r source old new came bytes received (text, h, size) more = omega (arith, (more_come r source old new text bytes received h more).short, length-append text bytes, size)

-- What it has answered last still holds.
pub answer_on : {R : Type 0} (r : Device R) (old new : R) (came later : ℕ) (before after : Received) → HasAnswered (r.left old) (r.has_failed old) before → ComesOn r old new came later before after → HasAnswered (r.left new) (r.has_failed new) after
answer_on r old new came later before after h (inl (same, none, answer)) = rw (same, answer) h
answer_on r old new came later before after h (inr (bytes, more, grown)) = answered (r.left new) (r.has_failed new) (length bytes) after more.end

-- 2. Where pieces stand in the text.

seam_known : (whole : List ℕ) (left : Option (List ℕ)) (text bytes : List ℕ) (came : ℕ) → length text ≡ came → Consumes (Some whole) left (text ++ bytes) → take (length bytes) (drop came whole) ≡ bytes
seam_known whole None text bytes came size h = absurd h
seam_known whole (Some more) text bytes came size h =
    let behind : drop came (text ++ (bytes ++ more)) ≡ bytes ++ more = subst (λ (n : ℕ). drop n (text ++ (bytes ++ more)) ≡ bytes ++ more) size (drop-append_seam text (bytes ++ more)) in
    let tail : drop came whole ≡ bytes ++ more = ap (drop came) (h ∙ append_assoc text bytes more) ∙ behind in
    ap (take (length bytes)) tail ∙ take-append_seam bytes more

-- What comes next stands behind what came before.
pub came_at : {R : Type 0} (r : Device R) (source : Option (List ℕ)) (old new : R) (came : ℕ) (bytes : List ℕ) (received : Received) → HasComeTo r source old came → Brings r old new bytes received → IsAt source came bytes
came_at r source old new came bytes received (text, h, size) more = λ whole is.
    seam_known whole (r.left new) text bytes came size (rw is at (more_come r source old new text bytes received h more).bytes_are)

-- A piece stands behind those that were taken.
front_on : (source : Option (List ℕ)) (front bytes : List ℕ) (taken : ℕ) → length front ≡ taken → IsAt source 0 front → IsAt source taken bytes → IsAt source 0 (front ++ bytes)
front_on source front bytes taken size first next = λ whole is.
    let parts : front ++ drop (length front) whole ≡ whole = ap (λ (t : List ℕ). t ++ drop (length front) whole) (sym (first whole is)) ∙ take-append-drop (length front) whole in
    let behind : take (length bytes) (drop (length front) whole) ≡ bytes = subst (λ (n : ℕ). take (length bytes) (drop n whole) ≡ bytes) (sym size) (next whole is) in
    ap (λ (n : ℕ). take n whole) (length-append front bytes) ∙ (ap (take (length front + length bytes)) (sym parts) ∙ (take-append-add front (drop (length front) whole) (length bytes) ∙ ap (λ (t : List ℕ). front ++ t) behind))

-- What was taken is the beginning of what came.
front_first : (source left : Option (List ℕ)) (text front : List ℕ) → Consumes source left text → IsAt source 0 front → length front ≤ length text → (more : List ℕ) × Consumes source left (front ++ more) × (length front + length more ≡ length text)
front_first None left text front h first fewer = (drop (length front) text, tt, omega (arith, length-drop (length front) text))
front_first (Some whole) None text front h first fewer = absurd h
front_first (Some whole) (Some rest) text front h first fewer =
    let begins : take (length front) text ≡ front = sym (take-append-le (length front) text rest fewer) ∙ (ap (take (length front)) (sym h) ∙ first whole refl) in
    let parts : front ++ drop (length front) text ≡ text = ap (λ (t : List ℕ). t ++ drop (length front) text) (sym begins) ∙ take-append-drop (length front) text in
    (drop (length front) text, h ∙ ap (λ (t : List ℕ). t ++ rest) (sym parts), omega (arith, length-drop (length front) text))

nothing_more : (source left : Option (List ℕ)) (front more : List ℕ) (size : ℕ) → Consumes source left (front ++ more) → size ≡ length front → length front + length more ≡ size → Consumes source left front
nothing_more source left front [] size h same long = rw append-nil at h
nothing_more source left front (b ∷ more) size h same long = absurd (omega (arith, same, long))

-- 3. Several threads read.

-- They begin behind a text that was read alone.
pub stands_begun : {R K V : Type 0} {keeper : Keeper K V} (r : Device R) (source problem : Option (List ℕ)) (begun device : R) (reader : Feeder (Collector K V keeper)) (alone ps : List ℕ) (came taken : ℕ)
    → HasCome r (r.left begun) device alone → IsBehind (judge keeper.format keeper.ranges) HasTakenLines alone reader → source ≡ r.left device → problem ≡ Some ps → HasProblem reader ps → came ≡ 0 → taken ≡ 0 → Stands r source problem begun device reader came taken
stands_begun {keeper} r source problem begun device reader alone ps came taken h behind is_source is_problem found none not_taken = record {
  alone = alone;
  text = [];
  front = [];
  ps = ps;
  before = rw is_source h.bytes_are;
  since = rw is_source (Consumes-nil (r.left device));
  passed = rw append-nil h.passed;
  short = rw append-nil h.short;
  is_came = sym none;
  is_taken = sym not_taken;
  within = omega arith;
  place = λ whole is. refl;
  behind = rw append-nil behind;
  found = rw append-nil (sym behind.taken.problem_is ∙ found);
  same = is_problem;
}

-- More comes.
pub stands_more : {R K V : Type 0} {keeper : Keeper K V} (r : Device R) (source problem : Option (List ℕ)) (begun old new : R) (reader : Feeder (Collector K V keeper)) (came later taken : ℕ) (before after : Received)
    → Stands r source problem begun old reader came taken → ComesOn r old new came later before after → Stands r source problem begun new reader later taken
stands_more r source problem begun old new reader came later taken before after h (inl (same, none, answer)) = rw (same, none) h
stands_more r source problem begun old new reader came later taken before after h (inr (bytes, more, grown)) = record {
  alone = h.alone;
  text = h.text ++ bytes;
  front = h.front;
  ps = h.ps;
  before = h.before;
  since = Consumes-trans source (r.left old) (r.left new) h.text bytes h.since more.bytes_are;
  passed = omega (arith, h.passed, more.passed, length-append h.alone h.text, length-append h.alone (h.text ++ bytes), length-append h.text bytes);
  short = rw (← append_assoc h.alone h.text bytes) (come_short (h.alone ++ h.text) bytes (r.passed old) (r.passed new) h.passed h.short more.passed more.limit);
  is_came = length-append h.text bytes ∙ (ap (λ (n : ℕ). n + length bytes) h.is_came ∙ sym grown);
  is_taken = h.is_taken;
  within = omega (arith, h.within, grown);
  place = h.place;
  behind = h.behind;
  found = h.found;
  same = h.same;
}

-- The piece that was read comes next.
pub is_next : (source : Option (List ℕ)) (came taken start : ℕ) (bytes : List ℕ) → IsAt source start bytes → start ≡ taken → taken + length bytes ≤ came → IsNext source came taken bytes
is_next source came taken start bytes place is within = record { place = subst (λ (n : ℕ). IsAt source n bytes) is place; within = within }

next_short : {R K V : Type 0} {keeper : Keeper K V} (r : Device R) (source problem : Option (List ℕ)) (begun device : R) (reader : Feeder (Collector K V keeper)) (came taken : ℕ) (bytes : List ℕ)
    (h : Stands r source problem begun device reader came taken) → IsNext source came taken bytes → length (h.alone ++ h.front ++ bytes) ≤ 2 ^ 62
next_short r source problem begun device reader came taken bytes h next =
    omega (arith, h.short, h.is_came, h.is_taken, next.within, length-append h.alone h.text, length-append (h.alone ++ h.front) bytes, length-append h.alone h.front)

-- The reader takes what comes next, or waits for it.
pub stands_next : {R K V : Type 0} {keeper : Keeper K V} (r : Device R) (source problem : Option (List ℕ)) (begun device : R) (old new : Feeder (Collector K V keeper)) (came taken later : ℕ) (has_taken : Bool)
    → Stands r source problem begun device old came taken → TakesNext source problem came taken later old (Ok has_taken) new → Stands r source problem begun device new came later
stands_next r source problem begun device old new came taken later false h (same, none) = rw (same, none) h
stands_next {keeper} r source problem begun device old new came taken later true h (bytes, next, grown, takes) = record {
  alone = h.alone;
  text = h.text;
  front = h.front ++ bytes;
  ps = h.ps;
  before = h.before;
  since = h.since;
  passed = h.passed;
  short = h.short;
  is_came = h.is_came;
  is_taken = length-append h.front bytes ∙ (ap (λ (n : ℕ). n + length bytes) h.is_taken ∙ sym grown);
  within = omega (arith, next.within, grown);
  place = front_on source h.front bytes taken h.is_taken h.place next.place;
  behind = rw (← append_assoc h.alone h.front bytes) (takes (h.alone ++ h.front) h.ps (next_short r source problem begun device old came taken bytes h next) h.same h.found h.behind);
  found = rw (← append_assoc h.alone h.front bytes) (problem_lasts keeper.format h.ps (h.alone ++ h.front) bytes h.found);
  same = h.same;
}

-- It refuses what comes next.
pub next_refused : {R K V W : Type 0} {keeper : Keeper K V} (Spelled : List (List ℕ) → W → Type 0) (r : Device R) (source problem : Option (List ℕ)) (begun device : R) (old new : Feeder (Collector K V keeper)) (came taken later : ℕ) (e : DimacsError)
    → Stands r source problem begun device old came taken → TakesNext source problem came taken later old (Err e) new → ReadOn (judge keeper.format keeper.ranges) Spelled r begun (Err e) device
next_refused {keeper} Spelled r source problem begun device old new came taken later e h (bytes, next, takes) =
    let told = takes (h.alone ++ h.front) h.ps (next_short r source problem begun device old came taken bytes h next) h.same h.found h.behind in
    let early = refused_earlier (judge keeper.format keeper.ranges) [] (ended (h.alone ++ h.front)) (h.alone ++ h.front ++ bytes) e (omega arith) told.1 in
    let first = front_first source (r.left device) h.text (h.front ++ bytes) h.since (front_on source h.front bytes taken h.is_taken h.place next.place) (omega (arith, h.is_came, h.is_taken, next.within, length-append h.front bytes)) in
    let more = first.0 in
    let same : h.alone ++ h.front ++ bytes ++ more ≡ h.alone ++ (h.front ++ bytes ++ more) = ap (λ (t : List ℕ). t ++ more) (append_assoc h.alone h.front bytes) ∙ append_assoc h.alone (h.front ++ bytes) more in
    (h.alone ++ h.front ++ bytes ++ more, rw same (Consumes-trans (r.left begun) source (r.left device) h.alone (h.front ++ bytes ++ more) h.before first.1), inl (refusal_lasts (judge keeper.format keeper.ranges) [] (h.alone ++ h.front ++ bytes) more e early))

-- 4. The end.

-- The device has ended behind a text that the reader has read.
pub read_to_end : {T R V : Type 0} (judge : Judge) (After : T → List (List ℕ) → Type 0) (Spelled : List (List ℕ) → V → Type 0) (r : Device R) (begun device : R) (text : List ℕ) (reader later : Feeder T) (result : Result V DimacsError)
    → HasCome r (r.left begun) device text → IsBehind judge After text reader → IsAtEnd (r.left device) → Finishes judge After Spelled reader result later → ReadOn judge Spelled r begun result device
read_to_end judge After Spelled r begun device text reader later result came behind end finishes =
    finished_on judge After Spelled r text begun result device later came.bytes_are end (finishes text came.short behind)

-- The device has failed there.
pub read_to_failure : {T R V : Type 0} (judge : Judge) (After : T → List (List ℕ) → Type 0) (Spelled : List (List ℕ) → V → Type 0) (r : Device R) (begun device : R) (text : List ℕ) (reader later : Feeder T) (e : DimacsError)
    → HasCome r (r.left begun) device text → IsBehind judge After text reader → r.has_failed device ≡ true → Fails judge After reader e later → ReadOn {V = V} judge Spelled r begun (Err e) device
read_to_failure judge After Spelled r begun device text reader later e came behind failed fails =
    (text, came.bytes_are, inr (inr (failed, (fails text came.short behind).0)))

-- All that came was taken.
all_taken : {R K V : Type 0} {keeper : Keeper K V} (r : Device R) (source problem : Option (List ℕ)) (begun device : R) (reader : Feeder (Collector K V keeper)) (came taken : ℕ)
    (h : Stands r source problem begun device reader came taken) → taken ≡ came → HasCome r (r.left begun) device (h.alone ++ h.front)
all_taken r source problem begun device reader came taken h all =
    let size : length h.text ≡ length h.front = h.is_came ∙ (sym all ∙ sym h.is_taken) in
    let first = front_first source (r.left device) h.text h.front h.since h.place (omega (arith, size)) in
    record {
      bytes_are = Consumes-trans (r.left begun) source (r.left device) h.alone h.front h.before (nothing_more source (r.left device) h.front first.0 (length h.text) first.1 size first.2);
      passed = omega (arith, h.passed, size, length-append h.alone h.text, length-append h.alone h.front);
      short = omega (arith, h.short, size, length-append h.alone h.text, length-append h.alone h.front);
    }

-- The reader is behind all that came.
pub stands_whole : {R K V : Type 0} {keeper : Keeper K V} (r : Device R) (source problem : Option (List ℕ)) (begun device : R) (reader : Feeder (Collector K V keeper)) (came taken : ℕ)
    → Stands r source problem begun device reader came taken → taken ≡ came → (text : List ℕ) × HasCome r (r.left begun) device text × IsBehind (judge keeper.format keeper.ranges) HasTakenLines text reader
stands_whole r source problem begun device reader came taken h all = (h.alone ++ h.front, all_taken r source problem begun device reader came taken h all, h.behind)

pub stands_to_end : {R K V W : Type 0} {keeper : Keeper K V} (Spelled : List (List ℕ) → W → Type 0) (r : Device R) (source problem : Option (List ℕ)) (begun device : R) (reader later : Feeder (Collector K V keeper)) (came taken : ℕ) (result : Result W DimacsError)
    → Stands r source problem begun device reader came taken → taken ≡ came → IsAtEnd (r.left device) → Finishes (judge keeper.format keeper.ranges) HasTakenLines Spelled reader result later → ReadOn (judge keeper.format keeper.ranges) Spelled r begun result device
stands_to_end {keeper} Spelled r source problem begun device reader later came taken result h all end finishes =
    read_to_end (judge keeper.format keeper.ranges) HasTakenLines Spelled r begun device (h.alone ++ h.front) reader later result (all_taken r source problem begun device reader came taken h all) h.behind end finishes

pub stands_to_failure : {R K V W : Type 0} {keeper : Keeper K V} (Spelled : List (List ℕ) → W → Type 0) (r : Device R) (source problem : Option (List ℕ)) (begun device : R) (reader later : Feeder (Collector K V keeper)) (came taken : ℕ) (e : DimacsError)
    → Stands r source problem begun device reader came taken → taken ≡ came → r.has_failed device ≡ true → Fails (judge keeper.format keeper.ranges) HasTakenLines reader e later → ReadOn (judge keeper.format keeper.ranges) Spelled r begun (Err e) device
stands_to_failure {keeper} Spelled r source problem begun device reader later came taken e h all failed fails =
    read_to_failure (judge keeper.format keeper.ranges) HasTakenLines Spelled r begun device (h.alone ++ h.front) reader later e (all_taken r source problem begun device reader came taken h all) h.behind failed fails

-- 5. The progress of it.

pub goes_begun : {R K V : Type 0} {keeper : Keeper K V} (r : Device R) (source problem : Option (List ℕ)) (device : R) (reader : Feeder (Collector K V keeper)) (came taken : ℕ) (received : Received)
    → HasComeTo r source device came → received ≡ More → (r.failing device ≡ Never → r.has_failed device ≡ false) → Goes r source problem device reader came taken device reader came taken received
goes_begun r source problem device reader came taken received come is never = record {
  come = come;
  answer = rw is tt;
  lasting = refl;
  further = omega arith;
  never = never;
  stands = λ begun h. h;
}

goes_more : {R K V : Type 0} {keeper : Keeper K V} (r : Device R) (source problem : Option (List ℕ)) (first : R) (old : Feeder (Collector K V keeper)) (begun_came begun_taken : ℕ) (device new : R) (reader : Feeder (Collector K V keeper)) (came later taken : ℕ) (before after : Received)
    → Goes r source problem first old begun_came begun_taken device reader came taken before → ComesOn r device new came later before after → Goes r source problem first old begun_came begun_taken new reader later taken after
goes_more r source problem first old begun_came begun_taken device new reader came later taken before after h (inl (same, none, answer)) = rw (same, none, answer) h
goes_more r source problem first old begun_came begun_taken device new reader came later taken before after h (inr (bytes, more, grown)) = record {
  come = come_on r source device new came later before after h.come (inr (bytes, more, grown));
  answer = answer_on r device new came later before after h.answer (inr (bytes, more, grown));
  lasting = more.lasting ∙ h.lasting;
  further = omega (arith, h.further, more.passed);
  never = λ never. more.never (h.lasting ∙ never);
  stands = λ begun was. stands_more r source problem begun device new reader came later taken before after (h.stands begun was) (inr (bytes, more, grown));
}

-- One round: more comes, or not, and the reader takes what comes next, or waits for it.
pub goes_on : {R K V : Type 0} {keeper : Keeper K V} (r : Device R) (source problem : Option (List ℕ)) (first : R) (old : Feeder (Collector K V keeper)) (begun_came begun_taken : ℕ) (device new : R) (reader after_more now : Feeder (Collector K V keeper)) (came later last taken still done : ℕ) (before after end : Received) (has_taken : Bool)
    → Goes r source problem first old begun_came begun_taken device reader came taken before → ComesOn r device new came later before after → after_more ≡ reader → still ≡ taken → TakesNext source problem later still done after_more (Ok has_taken) now → last ≡ later → end ≡ after
    → Goes r source problem first old begun_came begun_taken new now last done end
goes_on {R} {K} {V} {keeper} r source problem first old begun_came begun_taken device new reader after_more now came later last taken still done before after end has_taken h more same kept takes is_last is_end =
    let came_more = goes_more r source problem first old begun_came begun_taken device new reader came later taken before after h more in
    let from_there = subst (λ (n : ℕ). TakesNext {keeper = keeper} source problem later n done after_more (Ok has_taken) now) kept takes in
    let from_it = subst (λ (s : Feeder (Collector K V keeper)). TakesNext {keeper = keeper} source problem later taken done s (Ok has_taken) now) same from_there in
    rw (is_last, is_end) (record {
      come = came_more.come;
      answer = came_more.answer;
      lasting = came_more.lasting;
      further = came_more.further;
      never = came_more.never;
      stands = λ begun was. stands_next r source problem begun new reader now later taken done has_taken (came_more.stands begun was) from_it;
    })

-- One round in which the reader refuses what comes next.
pub goes_wrong : {R K V W : Type 0} {keeper : Keeper K V} (Spelled : List (List ℕ) → W → Type 0) (r : Device R) (source problem : Option (List ℕ)) (first : R) (old : Feeder (Collector K V keeper)) (begun_came begun_taken : ℕ) (device new : R) (reader after_more now : Feeder (Collector K V keeper)) (came later taken still done : ℕ) (before after : Received) (e : DimacsError) (begun : R)
    → Goes r source problem first old begun_came begun_taken device reader came taken before → ComesOn r device new came later before after → after_more ≡ reader → still ≡ taken → TakesNext source problem later still done after_more (Err e) now → Stands r source problem begun first old begun_came begun_taken
    → ReadOn (judge keeper.format keeper.ranges) Spelled r begun (Err e) new
goes_wrong Spelled r source problem first old begun_came begun_taken device new reader after_more now came later taken still done before after e begun h more same kept takes was =
    let came_more = goes_more r source problem first old begun_came begun_taken device new reader came later taken before after h more in
    next_refused Spelled r source problem begun new reader now later taken done e (came_more.stands begun was) (rw (same, kept) at takes)
