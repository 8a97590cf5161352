-- What an offer leaves and is answered, by the test whether it is below the word found.
use Rattle.std.proofs.Common.{◌≡◌, true, false, refl, eqb, ltb, ap₂, ◌&&◌}
use Rattle.std.proofs.lemmas.Bool.{cond-true, cond-false, and_parts, and_from, or_parts, eqb-true, eq-eqb}
use Rattle.sp_word.specs.declared.reply.Reply.TheVariants.{Kept}
use Rattle.sp_word.specs.Word.{Word, Unreached, Pair, is_below, is_same, lesser}
use Rattle.sp_word.specs.Reply.{reply_to}

-- the reply to an offer that is not below the word found
pub kept_reply : (found offered : Word) → is_below offered found ≡ false → Kept ≡ reply_to found offered
kept_reply found Unreached no_lower = refl
kept_reply Unreached (Pair d p) no_lower = cc
kept_reply (Pair e q) (Pair d p) no_lower =
    let parts = or_parts (ltb d e) (eqb d e && ltb p q) no_lower in
    rw (parts.0, parts.1) refl

-- what an offer leaves that is not below the word found
pub lesser_kept : (found offered : Word) → is_below offered found ≡ false → lesser found offered ≡ found
lesser_kept found offered no_lower = cond-false (is_below offered found) offered found no_lower

-- what an offer leaves that is below the word found
pub lesser_stored : (found offered : Word) → is_below offered found ≡ true → lesser found offered ≡ offered
lesser_stored found offered lower = cond-true (is_below offered found) offered found lower

-- words that pass the test are the same
pub same_words : (a b : Word) → is_same a b ≡ true → a ≡ b
same_words Unreached Unreached same = refl
same_words Unreached (Pair e q) same = cc
same_words (Pair d p) Unreached same = cc
same_words (Pair d p) (Pair e q) same =
    let parts = and_parts (eqb d e) (eqb p q) same in
    ap₂ Pair (eqb-true d e parts.0) (eqb-true p q parts.1)

-- a word passes the test with itself
pub same_itself : (a : Word) → is_same a a ≡ true
same_itself Unreached = refl
same_itself (Pair d p) = and_from (eqb d d) (eqb p p) (eq-eqb d d refl) (eq-eqb p p refl)
