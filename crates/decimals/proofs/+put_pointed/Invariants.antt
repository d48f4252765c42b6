-- The measure of the recursion of `decimals::put_pointed`. Assumes nothing.
use Rattle.decimals.proofs.+put_pointed.Given as goal

abbrev pub decreases-put_pointed : goal.decreases-put_pointed
decreases-put_pointed l = l.k
