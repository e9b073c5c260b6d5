use Rattle.std.proofs.Common.{arith}
use Rattle.table.proofs.Sound.{sound, record-length, row-place}
use Rattle.table.proofs.laws.tables_are_sound.Goals as goal

pub returns-clause-size : goal.returns-clause-size
returns-clause-size c = λ t h e. (sound t h e).head.good

pub returns-clause-stand : goal.returns-clause-stand
returns-clause-stand c = λ t h e i l.
    let s = sound t h e in
    let p = row-place t h i in
    let d = s.head in
    (p, omega arith, s.small i l)

pub returns-clause-rise : goal.returns-clause-rise
returns-clause-rise c = λ t h e. (sound t h e).rises

pub returns-clause-inside : goal.returns-clause-inside
returns-clause-inside c = λ t h e i l.
    let s = sound t h e in
    let d = s.head in
    let o = s.starts i l in
    (omega arith, s.stops i l, record-length s i l)
