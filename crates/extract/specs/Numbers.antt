-- RULES 23.1, 23.9: which numbers an extract's records have.
use Rattle.std.specs.Prelude.{ℕ, zero, suc, ◌+◌, ◌*◌, ◌&&◌, List, Bool, true, length, get_or, ltb, eqb}
use Rattle.std.specs.Prelude.{Option, Some, None, is_none}
use Rattle.std.specs.Option.{option_or}
use Rattle.fields.specs.Pick.{pick}
use Rattle.fields.specs.Answer.{Outcome, gives, refuses}
use Rattle.fields.specs.declared.RecordNumber.{RecordNumber}
use Rattle.table.specs.Layout.{header_size, row_size}
use Rattle.table.specs.Check.{malformed}
use Rattle.extract.specs.declared.numbers.Numbers.{Numbers}
use Rattle.extract.specs.declared.numbers.Numbers.TheVariants as numbers

-- number i of a list
abbrev pub listed_at : List RecordNumber → ℕ → RecordNumber
listed_at ns i = get_or ns i (record { 0 = 0 })

-- the number of the record at a position
abbrev pub numbered : Numbers → ℕ → RecordNumber
numbered (numbers.From n) i = record { 0 = n.0 + i }
numbered (numbers.Listed ns) i = listed_at ns.now i

-- whether number i of a list is above the one before; the first has none before it
unfoldable pub rises : List RecordNumber → ℕ → Bool
rises ns zero = true
rises ns (suc i) = ltb (listed_at ns i).0 (listed_at ns (suc i)).0

-- where the first row below a position would stand whose number does not rise, were each record written
unfoldable pub fallen_below : List RecordNumber → ℕ → Option ℕ
fallen_below ns zero = None
fallen_below ns (suc i) = option_or (fallen_below ns i) (pick (rises ns i) None (Some (header_size + row_size * i)))

-- 21: at that row's place
abbrev pub refused_fallen : Option ℕ → Outcome Unit
refused_fallen None = gives tt
refused_fallen (Some place) = refuses (malformed place)

unfoldable pub numbers_risen : List RecordNumber → Outcome Unit
numbers_risen ns = refused_fallen (fallen_below ns (length ns))

-- whether these are numbers for so many records: of a list one for each, and they rise
abbrev pub suits : Numbers → ℕ → Bool
suits (numbers.From n) k = true
suits (numbers.Listed ns) k = eqb (length ns.now) k && is_none (fallen_below ns.now k)
