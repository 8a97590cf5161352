use Rattle.sp_network.proofs.WordForm.{answered_words}
use Rattle.sp_network.proofs.file_formats.read_words.Goals as goal

pub returns-in-Ok : goal.returns-in-Ok
returns-in-Ok g c =
    rw (← c.most_arcs.ensures, c.of_words.ensures)
    (answered_words g.row.P _ _ _ _ _ (record { n = c.in-Ok.file.n; arcs = c.in-Ok.file.arcs }) c.in-Ok.ensures.packable c.in-Ok.ensures.within c.in-Ok.ensures.exact)
