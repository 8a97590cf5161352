-- The parts of a table's words that contracts name.
use Rattle.std.specs.Prelude.{◌≡◌, ℕ}
use Rattle.atomic_table.specs.Seated.{TableId}
use Rattle.atomic_table.specs.declared.shared.Seat.{Seat}
use Rattle.sp_word.specs.Word.{Word, word_of}
use Rattle.sp_offer.specs.declared.atomic_words.Words.{Words}
use Rattle.sp_offer.specs.Order.{lawful}
use Rattle.sp_offer.specs.Sight.{Sight}
use Rattle.sp_offer.specs.Rule.{TableView, SeatOffers, answer_event}
use Rattle.sp_offer.specs.Lowering.{Finding, SeatTakes}

module _ {L : Type 0} where
  -- This is the table to which the words belong.
  abbrev pub id_of : Words L → TableId
  id_of words = words.table.shared.table_id

  -- This is the number of vertices of the table.
  abbrev pub vertices_of : Words L → ℕ
  vertices_of words = words.table.shared.key.vertices

  -- This is the number of predecessor bits in a word of the table.
  abbrev pub layout_of : Words L → ℕ
  layout_of words = words.table.shared.key.layout

  -- This is the law of the table.
  abbrev pub law_of : Words L → L
  law_of words = words.table.shared.key.law

  -- This is what contracts see of the table.
  abbrev pub table_view : Words L → TableView L
  table_view words = record { id = id_of words; vertices = vertices_of words; law = law_of words }

  -- The table was made with these parameters.
  abbrev pub HasTerms : L → (vertices layout : ℕ) → Words L → Type 0
  HasTerms law vertices layout words =
      words.table.shared.key ≡ record { law = law; vertices = vertices; layout = layout }

  -- This is the word that bits of the table spell.
  abbrev pub word_in : Words L → ℕ → Word
  word_in words bits = word_of (layout_of words) bits

  module _ (allows : L → ℕ → Word → Type 0) (words : Words L) where
    -- These are the words that the table takes.
    abbrev pub law_in : ℕ → Word → Type 0
    law_in = lawful (layout_of words) (allows (law_of words))

    -- The seat's own caller offered a word, and the bits found decided the reply.
    abbrev pub Lowers : {S : Type 0} → (vertex bits found : ℕ) → Seat S Sight → Seat S Sight → Type 0
    Lowers vertex bits found p q = SeatOffers (layout_of words) law_in p.id vertex (word_in words bits) found p q

  -- The steps of the offer of a word found words of this kind.
  abbrev pub Goes : {S : Type 0} → Finding → Words L → (vertex bits found tries : ℕ) → Seat S Sight → Seat S Sight → Type 0
  Goes finding words vertex bits found tries p q =
      SeatTakes (answer_event p.id vertex (word_in words bits) (word_in words found)) (finding (word_in words bits) (word_in words found) tries) p q
