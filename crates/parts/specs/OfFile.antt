-- The parts at a file, step by step. Only contracts of this chapter's own functions and of those above speak of it.
use Rattle.std.specs.Prelude.{ℕ, ◌+◌, ◌-◌, length, Option, Some, Result}
use Rattle.fields.specs.Answer.{Report, report}
use Rattle.fields.specs.declared.Refusal.{Refusal}
use Rattle.list.specs.declared.Entry.{Entry}
use Rattle.items.specs.Items.{entries_of, sought_of}
use Rattle.items.specs.OfFile.{of_file}
use Rattle.items.specs.declared.File.{File}
use Rattle.items.specs.declared.walk.Rest.{Rest}
use Rattle.items.specs.declared.key.Key.{Key}
use Rattle.parts.specs.Part.{part_of}
use Rattle.parts.specs.Parts.{Parts, taking, parts_by, parts_in, parts_of}
use Rattle.parts.specs.declared.Part.{Part}
use Rattle.parts.specs.declared.Filled.{Filled}

-- the part that an entry at a place leads to, with what was read for it
abbrev pub part_at : File → Entry → ℕ → Report Part
part_at f e place = report (of_file part_of f e place) (length (of_file sought_of f e place).read)

-- the part by an entry at the front of a list, whose type is known, and those behind it, with so much room
abbrev pub parts_begun : File → Key → ℕ → Rest → Entry → Parts
parts_begun f key room l e = of_file taking f room e l.from
    (of_file parts_by f key l.to (room - 1)
    (entries_of f.base.bytes.now f.base.number l.to (l.from + e.length)) (l.from + e.length))

-- the parts by a list that an item has, or by none; and by a list that was tested
abbrev pub parts_of_file : File → ℕ → Option Rest → Parts
parts_of_file f room o = of_file parts_of f room o

abbrev pub parts_behind : File → ℕ → Rest → Parts
parts_behind f room l = of_file parts_in f room (Some l)

-- ended before the first part
abbrev pub ended : Result Unit Refusal → ℕ → Filled
ended a k = record { count = 0; answer = a; reads = k }
