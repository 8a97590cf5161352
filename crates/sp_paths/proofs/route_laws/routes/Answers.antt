use Rattle.sp_paths.proofs.RouteExistence.{routes_exist}
use Rattle.sp_paths.proofs.OneRoute.{routes_are_one}
use Rattle.sp_paths.proofs.RouteLengths.{routes_are_walks, routes_rise}
use Rattle.sp_paths.proofs.route_laws.routes.Goals as goal

pub returns-clause-some : goal.returns-clause-some
returns-clause-some c = routes_exist

pub returns-clause-one : goal.returns-clause-one
returns-clause-one c = routes_are_one

pub returns-clause-walk : goal.returns-clause-walk
returns-clause-walk c = routes_are_walks

pub returns-clause-rises : goal.returns-clause-rises
returns-clause-rises c = routes_rise
