-- `count_file::read_file` meets its contract: each way out is a law of the whole file. Assumes nothing.
use Rattle.lines.proofs.Parts.{first_fine}
use Rattle.lines.proofs.Runs.{stopped_absent}
use Rattle.count_file.proofs.Files.{count-size, first_small, second_small, bad-size, no_samples, more_follows, accept}
use Rattle.count_file.proofs.read_file.Goals as goal

pub sites_of-requires : goal.sites_of-requires
sites_of-requires c = let f = first_fine c.in_ok-head.ensures.have.fine in (first_small f, second_small f)

pub returns-in_err-sites : goal.returns-in_err-sites
returns-in_err-sites c = rw c.from_residual-in_err-sites.ensures (record { none = bad-size _ _ _ c.in_ok-head.ensures c.in_err-sites.ensures })

pub returns-in_err-end : goal.returns-in_err-end
returns-in_err-end c = let n = c.in_ok-sites.ensures in
    let q = rw n.1 at c.in_err-end.ensures in
    rw c.from_residual-in_err-end.ensures (record { none = no_samples _ _ _ c.in_ok-head.ensures (count-size _ n.0.0 n.0.1) (stopped_absent q) })

pub returns-then-end-s : goal.returns-then-end-s
returns-then-end-s c = let n = c.in_ok-sites.ensures in
    accept _ _ _ c.in_ok-head.ensures (count-size _ n.0.0 n.0.1) _ (rw n.1 at c.in_ok-end.ensures) c.if-end-s.true _ n.1

pub returns : goal.returns
returns c = let n = c.in_ok-sites.ensures in
    record { none = more_follows _ _ _ c.in_ok-head.ensures (count-size _ n.0.0 n.0.1) _ _ _ (rw n.1 at c.in_ok-end.ensures) c.if-end-s.false }
