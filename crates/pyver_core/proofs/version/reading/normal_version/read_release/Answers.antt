use Rattle.std.proofs.Common.{refl, arith, lit≤, length-set}
use Rattle.pyver_core.proofs.Lemmas.Version.NormalVersion.{first_alone, first_fits}
use Rattle.pyver_core.proofs.version.reading.normal_version.read_release.Goals as goal

pub loop-next-init : goal.loop-next-init
loop-next-init c =
    let capacity = c.args.capacity.now in
    let n = c.in_ok-first.first in
    record {
      some = lit≤ tt;
      few = omega (arith, length-set capacity 0 n);
      capacity = refl;
      fits = first_fits capacity n c.requires c.in_ok-first.ensures.fits;
      text = first_alone c.args.bytes.now capacity n c.in_ok-first.behind.now c.requires c.in_ok-first.ensures.text;
    }
