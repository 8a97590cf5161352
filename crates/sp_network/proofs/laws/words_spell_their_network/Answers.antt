use Rattle.std.proofs.Common.{refl}
use Rattle.sp_packed.specs.Packed.{packed_text}
use Rattle.sp_dimacs.specs.Graph.{graph_of}
use Rattle.sp_network.proofs.WordForm.{text_packed, words_spelled}
use Rattle.sp_network.proofs.laws.words_spell_their_network.Goals as goal

pub returns-clause-packed : goal.returns-clause-packed
returns-clause-packed c = text_packed

pub returns-clause-spelled : goal.returns-clause-spelled
returns-clause-spelled c = λ P most file packable within. words_spelled P most (packed_text (graph_of file)) file (record { packable = packable; within = within; is = refl })
