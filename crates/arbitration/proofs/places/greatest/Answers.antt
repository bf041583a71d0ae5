-- `arbitration::places::greatest` meets its contract: it is the fold that keeps the greatest so far. Assumes nothing.
use Rattle.std.proofs.Common.{rules}
use Rattle.arbitration.proofs.Outermost.{greatest_folded}
use Rattle.arbitration.proofs.places.greatest.Goals as goal

pub returns : goal.returns
returns c = greatest_folded c.requires (search rules)
