-- `arbitration::places::lowest` meets its contract: it is the fold that keeps the least so far. Assumes nothing.
use Rattle.std.proofs.Common.{rules}
use Rattle.arbitration.proofs.Outermost.{lowest_folded}
use Rattle.arbitration.proofs.places.lowest.Goals as goal

pub returns : goal.returns
returns c = lowest_folded c.requires (search rules)
