-- RULES 14.9: what joins the entries of a stream, in the walk and in the parts of an item.
use Rattle.std.specs.Prelude.{ℕ, ◌*◌, ◌&&◌, ◌||◌, List, Bool, false, take, eqb, ltb, Option, Some, None}
use Rattle.std.specs.Str.{bytes_eq}
use Rattle.fields.specs.declared.RecordNumber.{RecordNumber}
use Rattle.list.specs.Named.{name_at, padded}
use Rattle.list.specs.declared.Entry.{Entry}
use Rattle.items.specs.State.{rest_of}
use Rattle.items.specs.declared.walk.Rest.{Rest}
use Rattle.items.specs.declared.key.Key.{Key}

-- the name of the entry at the front of a list
abbrev pub name_in : List ℕ → Rest → Entry → List ℕ
name_in s l e = name_at (rest_of s l) e

-- the key that an entry with this name leaves: its type, and its name with zeros behind it
abbrev pub key_of : Entry → List ℕ → Key
key_of e name = record { ty = e.ty; units = e.name_units; name = padded name }

-- an entry with this name continues the stream of a key: it has the same type and the same name, and its own lowest
-- VCN is not 0
unfoldable pub continues : Key → Entry → List ℕ → Bool
continues k e name = eqb e.ty k.ty && ltb 0 e.lowest.0 && bytes_eq name (take (2 * k.units) k.name)

-- with no key, no entry
unfoldable pub skips : Option Key → Entry → List ℕ → Bool
skips None e name = false
skips (Some k) e name = continues k e name

-- an entry is passed over where it names the base record, or continues the stream of the skip key
unfoldable pub passed_over : RecordNumber → Option Key → Entry → List ℕ → Bool
passed_over n key e name = eqb e.file.0 n.0 || skips key e name
