use Rattle.std.proofs.Common.{◌≡◌, [], refl, subst, sym}
use Rattle.std.specs.Io.KnownBytes.{Consumes}
use Rattle.std.proofs.KnownBytes.{Consumes-nil}
use Rattle.sp_text.specs.Lines.{ended, rest}
use Rattle.sp_dimacs.proofs.lines.Lines.new.Goals as goal

ended_none : ended [] ≡ []
unfolding ended
ended_none = refl

rest_none : rest [] ≡ []
unfolding rest
rest_none = refl

pub returns : goal.returns
returns g c =
    let left = g.R.Read.left c.args.reader in
    record {
      number = refl;
      stands = record { behind = []; came = subst (Consumes left left) (sym c.new.ensures) (Consumes-nil left); ended = ended_none; whole = rest_none };
    }
