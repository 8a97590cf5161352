use Rattle.std.proofs.lemmas.Result.{err_from_is_err_and}
use Rattle.clap.specs.Matches.{found_of}
use Rattle.sp_order.proofs.Reading.{goes_to, has_found, lacks_command, lacks_layout, refused_command}
use Rattle.sp_order.proofs.order.order_of.Goals as goal

pub returns-in_err-command-clause-refused : goal.returns-in_err-command-clause-refused
returns-in_err-command-clause-refused g c =
    let found = found_of c.in-Some.given.now in
    let has = has_found c.args.matches.now c.in-Some.name.now found c.in-Some.ensures.name c.in-Some.ensures.rows in
    let p = err_from_is_err_and c.from_residual.result c.from_residual.ensures.1 in
    rw (p.1, p.2) (refused_command g.C.Commands c.args.matches.now c.in-Some.name.now found c.in_err-command.field-0.0 has c.in_err-command.ensures.refused)

pub returns-in_default-2-clause-read : goal.returns-in_default-2-clause-read
returns-in_default-2-clause-read g c =
    let found = found_of c.in-Some.given.now in
    let has = has_found c.args.matches.now c.in-Some.name.now found c.in-Some.ensures.name c.in-Some.ensures.rows in
    lacks_command g.C.Commands c.args.matches.now c.in-Some.name.now found has (rw c.in_default-2.is at c.in_ok-command.ensures.read)

pub returns-in_default-layout_of-clause-read : goal.returns-in_default-layout_of-clause-read
returns-in_default-layout_of-clause-read g c =
    let found = found_of c.in-Some.given.now in
    let has = has_found c.args.matches.now c.in-Some.name.now found c.in-Some.ensures.name c.in-Some.ensures.rows in
    lacks_layout g.C.Commands c.args.matches.now c.in-Some.name.now found has c.in_default-layout_of.ensures

pub returns-clause-read : goal.returns-clause-read
returns-clause-read g c =
    let found = found_of c.in-Some.given.now in
    let has = has_found c.args.matches.now c.in-Some.name.now found c.in-Some.ensures.name c.in-Some.ensures.rows in
    (c.in-Some.name.now, found, has, (rw c.in-Some-2.is at c.in_ok-command.ensures.read, c.in-Some-layout_of.ensures, goes_to found c.output_of.result c.output_of.ensures.path, c.get_str.ensures))
