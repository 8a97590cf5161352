use Rattle.std.proofs.Common.{◌≡◌, ◌*◌, ◌≤◌, ◌++◌, length, vec_len}
use Rattle.std.specs.List.{concat}
use Rattle.sp_files.specs.TreeText.{words_text}
use Rattle.sp_files.proofs.SentRows.{IsSentBut}
use Rattle.sp_files.proofs.trees.word_sharing.send_words_by.Given as goal

abbrev pub invariant-loop-rest : goal.invariant-loop-rest
invariant-loop-rest g l = record {
  room : l.size ≤ vec_len l.sets.spare * 16384;
  same : vec_len l.sets.ready ≡ vec_len l.sets.spare;
  sent : IsSentBut g.W.Write (words_text l.fn.words.first l.fn.words.items.now) (concat l.sets.ready.items ++ words_text l.rest.first l.rest.items.now) l.fn.out l.fn.printer l.out l.printer;
}

abbrev pub decreases-loop-rest : goal.decreases-loop-rest
decreases-loop-rest g l = length l.rest.items.now
