-- Each word so far says its number.
use Rattle.std.specs.Prelude.{take}
use Rattle.nomutanku.specs.Door.{Say}
use Rattle.nomutanku.proofs.door.numbers.Given as goal

abbrev pub invariant-loop-word : goal.invariant-loop-word
invariant-loop-word g l = Say (take l.word-index l.words) l.numbers.items
