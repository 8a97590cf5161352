-- Texts that are sent one behind the other are one text.
use Rattle.std.proofs.Common.{◌≡◌, ℕ, List, ◌++◌, append_assoc, ap, ◌∙◌}

three : (front a b c : List ℕ) → ((front ++ a) ++ b) ++ c ≡ front ++ ((a ++ b) ++ c)
three front a b c = ap (λ (t : List ℕ). t ++ c) (append_assoc front a b) ∙ append_assoc front (a ++ b) c

five : (front a b c d e : List ℕ) → ((((front ++ a) ++ b) ++ c) ++ d) ++ e ≡ front ++ ((((a ++ b) ++ c) ++ d) ++ e)
five front a b c d e = ap (λ (t : List ℕ). (t ++ d) ++ e) (three front a b c) ∙ three front ((a ++ b) ++ c) d e

pub seven : (front a b c d e f h : List ℕ) → ((((((front ++ a) ++ b) ++ c) ++ d) ++ e) ++ f) ++ h ≡ front ++ ((((((a ++ b) ++ c) ++ d) ++ e) ++ f) ++ h)
seven front a b c d e f h = ap (λ (t : List ℕ). (t ++ f) ++ h) (five front a b c d e) ∙ three front ((((a ++ b) ++ c) ++ d) ++ e) f h
