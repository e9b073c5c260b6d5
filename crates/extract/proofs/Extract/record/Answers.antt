use Rattle.std.proofs.Common.{ℕ, ap, arith, ◌∙◌, ◌+◌, ◌-◌, ◌*◌, ◌%◌, ◌≡◌, length, take, drop}
use Rattle.extract.specs.Records.{record_at}
use Rattle.extract.proofs.Sizes.{sized}
use Rattle.extract.proofs.Lengths.{record_length}
use Rattle.extract.proofs.Extract.record.Goals as goal

pub returns-clause-record : goal.returns-clause-record
unfolding record_at
returns-clause-record c =
    let size = c.from-size.result in let s = c.args.self.now.bytes.now in
    let e : size * c.args.i + size - size * c.args.i ≡ c.args.self.now.size = omega arith in
    ap (λ (n : ℕ). take n (drop (size * c.args.i) s)) e
    ∙ ap (λ (n : ℕ). take c.args.self.now.size (drop (n * c.args.i) s)) c.from-size.ensures

pub returns-clause-long : goal.returns-clause-long
returns-clause-long c = ap length (returns-clause-record c) ∙ record_length c.args.self.now c.args.i c.requires

pub returns-clause-sized : goal.returns-clause-sized
returns-clause-sized c =
    let z = sized c.args.self.now.size c.args.self.now.bytes.now c.args.self.now.checked in
    let long = returns-clause-long c in (omega arith, omega arith, ap (λ (n : ℕ). n % 512) long ∙ z.steps)
