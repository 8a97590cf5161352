use Rattle.std.proofs.Common.{◌≡◌, ◌++◌, [], List, subst, ap, ◌∙◌}
use Rattle.sp_device.specs.Printing.{Sends, IsSending}
use Rattle.sp_device.proofs.TextSteps.{unsent}
use Rattle.sp_paths.specs.declared.arc.Arc.{Arc}
use Rattle.sp_packed.specs.Words.{words, sum_on, no_sum, sum_words}
use Rattle.sp_packed.specs.Packed.{head_words, ends_of, arcs_words, packed_text}
use Rattle.sp_packed.proofs.Sending.{sends_both, sent_words}
use Rattle.sp_packed.proofs.writing.write_packed.Goals as goal

pub returns-clause-written : goal.returns-clause-written
unfolding head_words
returns-clause-written g c =
    let w = g.W.Write in
    let start = c.args.out.now in
    let graph = c.args.graph.now in
    let n = c.n.result in
    let m = c.m.result in
    let ends = ends_of graph in
    let head : Sends w (words (head_words n m)) start c.new-printer.result c.print_words-sum.new.out c.print_words-sum.new.printer = c.print_words-sum.ensures.sends in
    let arcs : Sends w (words (arcs_words graph.arcs)) c.print_ends-sum.new.out c.print_ends-sum.new.printer c.print_arcs-sum.new.out c.print_arcs-sum.new.printer
    = subst (λ (l : List Arc). Sends w (words (arcs_words l)) c.print_ends-sum.new.out c.print_ends-sum.new.printer c.print_arcs-sum.new.out c.print_arcs-sum.new.printer) c.arcs.ensures.arcs c.print_arcs-sum.ensures.sends in
    let sum : Sends w (words (sum_words c.print_arcs-sum.result)) c.print_arcs-sum.new.out c.print_arcs-sum.new.printer c.print_words.new.out c.print_words.new.printer
    = subst (λ l. Sends w (words l) c.print_arcs-sum.new.out c.print_arcs-sum.new.printer c.print_words.new.out c.print_words.new.printer) c.sum_numbers.ensures.words c.print_words.ensures.sends in
    let one = sends_both w (words (head_words n m)) (words ends) start c.print_words-sum.new.out c.print_ends-sum.new.out c.new-printer.result c.print_words-sum.new.printer c.print_ends-sum.new.printer
    head c.print_ends-sum.ensures.sends in
    let two = sends_both w (words (head_words n m) ++ words ends) (words (arcs_words graph.arcs)) start c.print_ends-sum.new.out c.print_arcs-sum.new.out c.new-printer.result c.print_ends-sum.new.printer c.print_arcs-sum.new.printer
    one arcs in
    let three = sends_both w ((words (head_words n m) ++ words ends) ++ words (arcs_words graph.arcs)) (words (sum_words c.print_arcs-sum.result)) start c.print_arcs-sum.new.out c.print_words.new.out
    c.new-printer.result c.print_arcs-sum.new.printer c.print_words.new.printer two sum in
    let sum_is : c.print_arcs-sum.result ≡ sum_on (sum_on (sum_on no_sum (head_words n m)) ends) (arcs_words graph.arcs)
    = c.print_arcs-sum.ensures.sum ∙ ap (λ (l : List Arc). sum_on c.print_ends-sum.result (arcs_words l)) c.arcs.ensures.arcs
    ∙ ap (λ v. sum_on v (arcs_words graph.arcs)) (c.print_ends-sum.ensures.sum
    ∙ ap (λ v. sum_on v ends) (c.print_words-sum.ensures.sum ∙ ap (λ v. sum_on v (head_words n m)) c.new.ensures)) in
    let whole = sent_words n m graph c.arcs.ensures.order c.n.ensures.n c.m.ensures c.print_arcs-sum.result sum_is in
    let all = three [] start (unsent w start c.new-printer.result c.new-printer.ensures.block c.new-printer.ensures.count c.new-printer.ensures.going) in
    c.finish.ensures.written (packed_text graph) start (subst (λ l. IsSending w l start c.print_words.new.out c.print_words.new.printer) whole all)

pub returns-clause-counted : goal.returns-clause-counted
unfolding head_words
returns-clause-counted g c =
    let w = g.W.Write in
    let start = c.args.out.now in
    let graph = c.args.graph.now in
    let n = c.n.result in
    let m = c.m.result in
    let head : Sends w (words (head_words n m)) start c.new-printer.result c.print_words-sum.new.out c.print_words-sum.new.printer = c.print_words-sum.ensures.sends in
    let one = c.print_ends-sum.ensures.sends (words (head_words n m)) start
    (head [] start (unsent w start c.new-printer.result c.new-printer.ensures.block c.new-printer.ensures.count c.new-printer.ensures.going)) in
    let two = c.print_arcs-sum.ensures.sends (words (head_words n m) ++ words (ends_of graph)) start one in
    let three = c.print_words.ensures.sends ((words (head_words n m) ++ words (ends_of graph)) ++ words (arcs_words c.arcs.result.now)) start two in
    c.finish.ensures.passed (((words (head_words n m) ++ words (ends_of graph)) ++ words (arcs_words c.arcs.result.now)) ++ words c.sum_numbers.result) start three
