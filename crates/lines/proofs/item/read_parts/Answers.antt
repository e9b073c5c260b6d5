-- The parts stand in front of the list.
use Rattle.std.proofs.Common.{arith, sym, ◌∙◌, length-take-le}
use Rattle.lines.proofs.Fronts.{read, front, said}
use Rattle.lines.proofs.item.read_parts.Goals as goal

pub returns-clause-reads : goal.returns-clause-reads
returns-clause-reads c =
    let e = c.fill-filled.ensures in let m = c.args.file.now.base.most in
    record {
      parts = front _ _ _ _ e.parts e.fits;
      reads = read _ _ _ _ e.parts;
      few = omega (arith, e.few, m);
      fits = e.fits;
      size = e.size;
    }

pub slice_bounds-first_size-end : goal.slice_bounds-first_size-end
slice_bounds-first_size-end c = let e = c.fill-filled.ensures in omega (arith, e.fits, e.size)

pub slice_bounds-first_size-end-2 : goal.slice_bounds-first_size-end-2
slice_bounds-first_size-end-2 c = sym (length-take-le _ _ (slice_bounds-first_size-end c))

pub returns-clause-contents : goal.returns-clause-contents
returns-clause-contents c =
    let e = c.fill-filled.ensures in
    c.of_parts.ensures ∙ said _ _ _ _ e.parts e.fits _ c.first_size-size.ensures
