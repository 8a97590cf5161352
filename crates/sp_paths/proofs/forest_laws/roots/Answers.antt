use Rattle.sp_paths.proofs.Chains.{forest_has_roots, part_has_roots}
use Rattle.sp_paths.proofs.forest_laws.roots.Goals as goal

pub returns-clause-forest : goal.returns-clause-forest
returns-clause-forest c = forest_has_roots

pub returns-clause-part : goal.returns-clause-part
returns-clause-part c = part_has_roots
