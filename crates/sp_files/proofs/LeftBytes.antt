-- The bytes that are left: those that wait, and those of the device.
use Rattle.std.proofs.Common.{rules, arith, ◌≡◌, ℕ, ◌<◌, List, [], ◌∷◌, ◌++◌, length, take, drop, take-append-drop, append_assoc, append-nil, Option, Some, None, ap, sym, subst, ◌∙◌}
use Rattle.std.proofs.KnownBytes.{Consumes-trans}
use Rattle.std.proofs.Math.Seq.{drop-length}
use Rattle.std.specs.Io.KnownBytes.{Consumes, Keeps, IsAtEnd, prepend_known}

-- Waiting bytes are taken off the front.
pub taken : (known : Option (List ℕ)) (n : ℕ) (piece : List ℕ) → Consumes (prepend_known piece known) (prepend_known (drop n piece) known) (take n piece)
taken None n piece = tt
taken (Some bytes) n piece = ap (λ (t : List ℕ). t ++ bytes) (sym (take-append-drop n piece)) ∙ append_assoc (take n piece) (drop n piece) bytes

-- The next bytes of the device wait now.
pub refilled : (old new : Option (List ℕ)) (piece : List ℕ) → Consumes old new piece → Consumes (prepend_known [] old) (prepend_known piece new) []
refilled None new piece h = tt
refilled (Some bytes) None piece h = absurd h
refilled (Some bytes) (Some more) piece h = h

pub kept : (old new : Option (List ℕ)) → Keeps old new → Consumes (prepend_known [] old) (prepend_known [] new) []
kept None new h = tt
kept (Some bytes) None h = absurd h
kept (Some bytes) (Some more) h = sym h

pub at_end : (known : Option (List ℕ)) → IsAtEnd known → IsAtEnd (prepend_known [] known)
at_end None h = tt
at_end (Some bytes) h = h

-- Nothing was taken behind some bytes.
pub and_nothing : (a b c : Option (List ℕ)) (bytes : List ℕ) → Consumes a b bytes → Consumes b c [] → Consumes a c bytes
and_nothing a b c bytes h k = subst (Consumes a c) (append-nil bytes) (Consumes-trans a b c bytes [] h k)

-- Some byte waits, so one is left.
pub one_waits : (piece : List ℕ) (known : Option (List ℕ)) → 0 < length piece → prepend_known piece known ≡ Some [] → ⊥
one_waits [] known some none = omega (arith, some)
one_waits (b ∷ piece) None some none = search rules
one_waits (b ∷ piece) (Some bytes) some none = search rules

-- Some byte came, so one was left.
pub one_came : (old new : Option (List ℕ)) (piece : List ℕ) → Consumes old new piece → 0 < length piece → prepend_known [] old ≡ Some [] → ⊥
one_came None new piece came some none = search rules
one_came (Some bytes) None piece came some none = absurd came
one_came (Some bytes) (Some more) [] came some none = omega (arith, some)
one_came (Some bytes) (Some more) (b ∷ piece) came some none = search rules

-- All that waited was taken.
pub none_left : (n : ℕ) (piece : List ℕ) → n ≡ length piece → drop n piece ≡ []
none_left n piece all = ap (λ k. drop k piece) all ∙ drop-length piece
