-- The place of a site is in the box.
use Rattle.lattice.proofs.Sites.{uvw_box}
use Rattle.dump_main.proofs.show_cases.Goals as goal

pub site_cases-c-requires : goal.site_cases-c-requires
site_cases-c-requires g c =
    let fit = c.args.field.now.sampled.fit in
    (fit, rw c.coordinates-p.ensures (uvw_box c.args.field.now.sides fit c.args.s c.requires), c.args.field.now.sampled.samples)
