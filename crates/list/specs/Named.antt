-- RULES 9: the name of an entry, and how it is handed out: in 510 bytes, zero past its end.
use Rattle.std.specs.Prelude.{ℕ, ◌-◌, ◌*◌, List, ◌++◌, take, drop, length, replicate}
use Rattle.std.specs.Prelude.{Option, Some, None, Result, Ok, Err}
use Rattle.fields.specs.Answer.{Answer, gives, ends, refuses}
use Rattle.fields.specs.declared.Refusal.{Refusal}
use Rattle.list.specs.declared.Entry.{Entry}
use Rattle.list.specs.declared.named_entry.NamedEntry.{NamedEntry}

-- the longest name, 255 units of two bytes
abbrev pub most_name : ℕ
most_name = 510

-- the bytes of its name: those at the entry's own name offset
unfoldable pub name_at : List ℕ → Entry → List ℕ
name_at rest e = take (2 * e.name_units) (drop e.name_offset rest)

-- a name, and zeros up to 510 bytes
unfoldable pub padded : List ℕ → List ℕ
padded name = name ++ replicate (most_name - length name) 0

-- the name that goes with an answer of the list step; where no entry is given, zeros alone
unfoldable pub name_in : List ℕ → Answer Entry → List ℕ
name_in rest (gives e) = padded (name_at rest e)
name_in rest none = replicate most_name 0

-- what the list step says that hands out the entry with its name
abbrev pub told_named : Result (Option NamedEntry) Refusal → Answer Entry
told_named (Ok (Some x)) = gives x.entry
told_named (Ok None) = ends
told_named (Err r) = refuses r
