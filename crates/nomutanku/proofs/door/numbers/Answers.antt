-- One word more says its number.
use Rattle.std.specs.Prelude.{◌≡◌, ◌+◌, List, [], ◌∷◌, ◌++◌, take}
use Rattle.std.proofs.Common.{rules, subst, sym}
use Rattle.fields.specs.declared.RecordNumber.{RecordNumber}
use Rattle.nomutanku.specs.Door.{Say}
use Rattle.nomutanku.proofs.Said.{more}
use Rattle.nomutanku.proofs.door.numbers.Goals as goal

pub loop-word-preserved : goal.loop-word-preserved
loop-word-preserved g c =
    let grown : c.push.new.self.items ≡ c.loop-word.numbers.items ++ c.in-Some.number ∷ [] = search rules in
    subst (λ (ns : List RecordNumber). Say (take (c.loop-word.word-index + 1) c.args.words.now) ns) (sym grown)
    (more c.args.words.now c.loop-word.word-index _ c.loop-word.numbers.items c.in-Some.number c.loop-word-test.true
    c.loop-word.invariant (rw c.in-Some.is at c.said.ensures))
