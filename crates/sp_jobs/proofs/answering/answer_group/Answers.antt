use Rattle.std.proofs.Common.{ℕ, List, [], ◌++◌, map, sym, arith}
use Rattle.std.proofs.lemmas.List.{append-nil}
use Rattle.std.proofs.lemmas.Result.{err_from_is_err_and}
use Rattle.sp_jobs.proofs.ToldInOrder.{done_both, done_fit, refused_later}
use Rattle.sp_jobs.proofs.answering.answer_group.Goals as goal

pub returns-in_err-more-in-Err : goal.returns-in_err-more-in-Err
returns-in_err-more-in-Err g c = λ (front : List ℕ) are.
    let p = err_from_is_err_and c.from_residual-in_err-more-in-Err.result c.from_residual-in_err-more-in-Err.ensures.1 in
    let sources = c.args.asked.now.sources.now in
    let mid = c.find_and_write-found.new.out in
    let h = rw (c.in_ok-summary.was, c.deref.ensures.value) at c.find_and_write-found.ensures.written in
    rw (p.1, p.2) (refused_later (g.Q.Question.answers c.args.question.now) (front ++ sources) front sources [] g.W.Write c.args.out.now mid c.answer_alone.new.out
    c.in_ok-summary.summary _ (sym (append-nil (front ++ sources))) (record { all = map g.Q.Question.told c.args.waiting.items; are = are; text = h }) c.in_err-more-in-Err.ensures)

pub sum-requires : goal.sum-requires
sum-requires g c =
    let few = c.requires.waiting in
    let sources = c.args.asked.now.sources.now in
    let mid = c.find_and_write-found.new.out in
    let h = rw (c.in_ok-summary.was, c.deref.ensures.value) at c.find_and_write-found.ensures.written in
    done_fit {front = few.sources} (record { all = map g.Q.Question.told c.args.waiting.items; are = few.found; text = h }) c.in_ok-more-in-Err.ensures (omega (arith, few.short, c.requires.few))

pub returns-in_ok-more-in-Err : goal.returns-in_ok-more-in-Err
returns-in_ok-more-in-Err g c = λ (front : List ℕ) are.
    let sources = c.args.asked.now.sources.now in
    let mid = c.find_and_write-found.new.out in
    let h = rw (c.in_ok-summary.was, c.deref.ensures.value) at c.find_and_write-found.ensures.written in
    record {
      front = front ++ sources;
      back = [];
      parts = sym (append-nil (front ++ sources));
      done = rw c.sum.ensures (done_both {front = front} (record { all = map g.Q.Question.told c.args.waiting.items; are = are; text = h }) c.in_ok-more-in-Err.ensures);
      found = rw c.new.ensures.items tt;
    }
