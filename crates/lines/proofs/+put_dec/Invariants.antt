-- The measure of the recursion of `lines::put_dec`. Assumes nothing.
use Rattle.lines.proofs.+put_dec.Given as goal

abbrev pub decreases-put_dec : goal.decreases-put_dec
decreases-put_dec l = l.n
