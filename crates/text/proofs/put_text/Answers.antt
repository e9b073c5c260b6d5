use Rattle.std.proofs.Common.{◌≡◌, ◌+◌, ◌-◌, length, arith, refl, drop-drop}
use Rattle.text.proofs.Puts.{written}
use Rattle.text.proofs.put_text.Goals as goal

pub returns : goal.returns
returns c =
    let n : c.args.at + length c.args.text.now - c.args.at ≡ length c.args.text.now = omega arith in
    rw (c.copy_from_slice.ensures.after, n)
    (written c.args.out.now c.args.text.now _ c.args.at _ refl c.requires
    (drop-drop (length c.args.text.now) c.args.at c.args.out.now))
