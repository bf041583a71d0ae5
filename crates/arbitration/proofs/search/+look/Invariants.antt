-- The measure is the length of the range. Assumes nothing.
use Rattle.arbitration.proofs.search.+look.Given as goal

abbrev pub decreases-look : goal.decreases-look
decreases-look l = l.len
