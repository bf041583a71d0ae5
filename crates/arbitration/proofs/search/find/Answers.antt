-- `arbitration::search::find` meets its contract: the mark behind the last key tells whether there is a candidate. Assumes nothing.
use Rattle.std.proofs.Common.{arith}
use Rattle.arbitration.proofs.Looks.{search_none, search_asked, search_some}
use Rattle.arbitration.proofs.search.find.Goals as goal

pub returns-then-marks-n-eq0 : goal.returns-then-marks-n-eq0
returns-then-marks-n-eq0 c = search_none c.requires.1 c.if-marks-n-eq0.true

pub look-requires : goal.look-requires
look-requires c = search_asked c.requires.1 (omega arith) c.requires.0 c.if-marks-n-eq0.false

pub returns : goal.returns
returns c = search_some c.requires.1 c.if-marks-n-eq0.false c.look.ensures
