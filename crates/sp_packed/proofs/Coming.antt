-- What comes of a device.
use Rattle.std.proofs.Common.{◌≡◌, ℕ, ◌+◌, ◌-◌, ◌*◌, ◌/◌, ◌<◌, ◌≤◌, Bool, false, List, ◌++◌, length, take, drop, sym, ap, subst, ◌∙◌, arith, length-append, Option}
use borrow.Rule.Slice.PartMut.{put_mid, post_of}
use Rattle.std.specs.Io.KnownBytes.{Consumes, IsAtEnd}
use Rattle.std.proofs.lemmas.List.{take-take, length-drop, take-append-drop, length-take-le, take-append-le, nil_from_length}
use Rattle.std.proofs.Math.Seq.{take-append-add}
use Rattle.sp_packed.specs.Words.{words, HasCome}

-- n bytes came behind those that were there
pub put_on : (old new : List ℕ) (got n : ℕ) → got ≤ length old → length new ≡ length old - got → n ≤ length new
    → take (got + n) (put_mid got (length old - got) old new) ≡ take got old ++ take n new
put_on old new got n within size le =
    let front = length-take-le got old within in
    ap (λ k. take (k + n) (put_mid got (length old - got) old new)) (sym front) ∙ take-append-add (take got old) _ n
    ∙ ap (λ l. take got old ++ l) (take-append-le n new _ le)

pub put_within : (old new : List ℕ) (got n : ℕ) → got ≤ length old → length new ≡ length old - got → n ≤ length new
    → got + n ≤ length (put_mid got (length old - got) old new)
put_within old new got n within size le = omega (arith, length-take-le got old within, length-append (take got old) (new ++ post_of got (length old - got) old), length-append new (post_of got (length old - got) old))

-- The bytes that came are whole words, and fewer than one more behind them.
pub come : (old new : Option (List ℕ)) (count got : ℕ) (failed : Bool) (bytes numbers : List ℕ) → length numbers ≡ got / 4
    → got ≤ length bytes → length bytes ≡ 4 * count → Consumes old new (take got bytes) → (got < length bytes → failed ≡ false → IsAtEnd new)
    → take (4 * (got / 4)) bytes ≡ words numbers → HasCome count old numbers failed new
come old new count got failed bytes numbers size within room took end spelled =
    let part = drop (4 * (got / 4)) (take got bytes) in
    let front : take (4 * (got / 4)) (take got bytes) ≡ words numbers = take-take (4 * (got / 4)) got bytes (omega arith) ∙ spelled in
    let long : length part ≡ got - 4 * (got / 4) = omega (arith, length-drop (4 * (got / 4)) (take got bytes), length-take-le got bytes within) in
    record {
      part = part;
      took = subst (λ l. Consumes old new l) (sym (take-append-drop (4 * (got / 4)) (take got bytes)) ∙ ap (λ l. l ++ part) front) took;
      within = omega (arith, size, within, room);
      short = omega (arith, long);
      full = λ all. nil_from_length part (omega (arith, long, all, size, within, room));
      ended = λ few. end (omega (arith, few, size, room));
    }
