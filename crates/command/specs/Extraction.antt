-- What is asked of an extract (RULES 23), and what that takes of an input.
use Rattle.std.specs.Prelude.{ℕ, ◌+◌, ◌-◌, ◌*◌, ◌^◌, List, Option, Some, None, Result, Ok, Err, min, ltb, option_map}
use Rattle.fields.specs.Pick.{pick}
use Rattle.fields.specs.Answer.{Outcome, gives, refuses}
use Rattle.fields.specs.declared.RecordNumber.{RecordNumber}
use Rattle.record.specs.Open.{Lent, open_of}
use Rattle.record.specs.Header.{header_of}
use Rattle.extract.specs.Size.{good_size}
use Rattle.extract.specs.declared.tally.Extracted.{Extracted}
use Rattle.extract.specs.declared.tally.RefusedRecord.{RefusedRecord}
use Rattle.command.specs.Part.{part_at}
use Rattle.command.specs.declared.extraction.Extraction.{Extraction}
use Rattle.command.specs.declared.reason.Reason.{Reason}
use Rattle.command.specs.declared.reason.Reason.TheVariants as reason
use Rattle.command.specs.declared.unmade.Unmade.TheVariants as unmade

-- as many bytes at an input's front as the longest record has
abbrev pub front_size : ℕ
front_size = 4096

-- a size, where an extract's records may have it
abbrev pub good_or_none : ℕ → Option ℕ
good_or_none n = pick (good_size n) (Some n) None

-- the allocated size of a record that passes its checks
abbrev pub told_size : Outcome Lent → Option ℕ
told_size (gives r) = good_or_none (header_of r.bytes).allocated
told_size (refuses r) = None

-- the record size that the record at an input's front tells
unfoldable pub size_told : List ℕ → Option ℕ
size_told front = told_size (open_of front (record { 0 = 0 }))

-- the record size, by the one that is asked for and the input's front
abbrev pub size_or : Reason → Option ℕ → Result ℕ Reason
size_or why (Some n) = Ok n
size_or why None = Err why

unfoldable pub size_of : Option ℕ → List ℕ → Result ℕ Reason
size_of (Some n) front = size_or (reason.Unmade (unmade.RecordSize n)) (good_or_none n)
size_of None front = size_or reason.SizeUntold (size_told front)

-- the largest number of 64 bits stands for each that is larger
abbrev pub in_64_bits : ℕ → ℕ
in_64_bits n = min n (2 ^ 64 - 1)

module _ (q : Extraction) where
  -- the number of the first record that is taken
  abbrev pub first_of : RecordNumber
  first_of = record { 0 = in_64_bits (q.first.0 + q.from) }

  -- where it stands, and how many bytes are taken from there on, by the record size
  abbrev pub place_of : ℕ → ℕ
  place_of size = size * q.from

  abbrev pub most_of : ℕ → Option ℕ
  most_of size = option_map (λ n. size * n) q.count

  -- what is taken of an input
  abbrev pub part_of : ℕ → List ℕ → List ℕ
  part_of size input = part_at (most_of size) (place_of size) input

  -- the number of the record at a position of the part
  abbrev pub number_of_taken : ℕ → Option RecordNumber
  number_of_taken i =
      pick (ltb (q.first.0 + q.from + i) (2 ^ 64)) (Some (record { 0 = q.first.0 + q.from + i })) None

  -- the first record that is refused, by its position and its number in the whole input
  abbrev pub refused_at : RefusedRecord → Reason
  refused_at r = reason.RecordRefused (record {
    position = in_64_bits (q.from + r.position);
    number = number_of_taken r.position;
    cause = r.cause;
  })

  abbrev pub refused_of : Extracted → Option Reason
  refused_of x = option_map refused_at x.first_refused
