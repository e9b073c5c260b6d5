-- RULES 18: the whole listing, a list of lines, from what the layers below define: items, parts, names and values.
use Rattle.std.specs.Prelude.{ℕ, zero, suc, ◌+◌, List, [], ◌∷◌, ◌++◌, map, flat_map, ltb, length, Option, None, Some}
use Rattle.fields.specs.Pick.{pick}
use Rattle.fields.specs.Answer.{Outcome, Answer, gives, ends, refuses, ◌⟫◌}
use Rattle.fields.specs.declared.RecordNumber.{RecordNumber}
use Rattle.table.specs.Check.{table_of}
use Rattle.table.specs.Held.{Held, record_of, base_of}
use Rattle.table.specs.declared.check.TableHeader.{TableHeader}
use Rattle.record.specs.Open.{Lent, open_in}
use Rattle.record.specs.View.{Piece, span}
use Rattle.record.specs.Name.{name_of}
use Rattle.record.specs.Value as values
use Rattle.items.specs.Lookup.{lookup_of}
use Rattle.items.specs.State.{fresh_of, weight}
use Rattle.items.specs.Items.{next_of}
use Rattle.items.specs.declared.walk.Item.{Item}
use Rattle.items.specs.declared.walk.Rest.{Rest}
use Rattle.items.specs.declared.walk.State.{State}
use Rattle.parts.specs.Parts.{Parts, parts_of}
use Rattle.parts.specs.declared.Part.{Part}
use Rattle.lines.specs.declared.line.Name.{Name}
use Rattle.lines.specs.declared.line.Name.TheVariants as name
use Rattle.lines.specs.declared.line.Contents.{Contents}
use Rattle.lines.specs.declared.line.Contents.TheVariants as contents
use Rattle.lines.specs.declared.line.Line.{Line}
use Rattle.lines.specs.declared.line.Line.TheVariants as line
use Rattle.lines.specs.Runs.{run_lines, value_lines}
-- 18.1: room for as many parts as a record of 4,096 bytes can hold entries
pub use Rattle.parts.specs.Filled.{most_parts}

-- 18.1: the most bytes of an input
abbrev pub most_table : ℕ
most_table = 65536

-- 18.3: where the name stands, or its refusal
abbrev pub named : Outcome Piece → Name
named (gives p) = name.At (span p.from (length p.bytes))
named (refuses r) = name.Refused r.cause

-- 18.4: the value, or its refusal
abbrev pub valued : Outcome values.Contents → Contents
valued (gives (values.resident p)) = contents.Resident (span p.from (length p.bytes))
valued (gives (values.runs p size)) = contents.Runs (span p.from (length p.bytes)) size
valued (refuses r) = contents.Refused r.cause

-- parts, whole or refused, told by how many they are and the first one's data size
abbrev pub parted : Outcome Unit → ℕ → ℕ → Contents
parted (gives u) k size = contents.Parts k size
parted (refuses r) k size = contents.PartsRefused k r.cause

abbrev pub first_size : List Part → ℕ
first_size [] = 0
first_size (p ∷ ps) = p.size

abbrev pub given_parts : Parts → List Part
given_parts p = map (λ g. g.part) p.given

abbrev pub parts_contents : Parts → Contents
parts_contents p = parted p.answer (length p.given) (first_size (given_parts p))

-- name and value of the attribute at a place of the record that was looked up
abbrev pub name_in : Outcome Lent → ℕ → Name
name_in r place = named (r ⟫ λ x. name_of x.bytes x.number place)

abbrev pub value_in : Outcome Lent → ℕ → Contents
value_in r place = valued (r ⟫ λ x. values.value_of x.bytes x.number place)

-- 18.12: the line of a part, and its runs under it, in a base record with its number and by what is looked up
abbrev pub part_lines : List ℕ → RecordNumber → (RecordNumber → Option (List ℕ)) → Part → List Line
part_lines s n look p = line.Part p ∷ run_lines (lookup_of s n look p.file 0) p.runs

-- the base record with its number, what is looked up, and room for so many parts
module _ (room : ℕ) (s : List ℕ) (n : RecordNumber) (look : RecordNumber → Option (List ℕ)) where
  -- 18.4: the parts form for an item that tells a list, else its value
  abbrev pub contents_from : Option Rest → Contents → Contents
  contents_from None v = v
  contents_from (Some l) v = parts_contents (parts_of s n look room (Some l))

  abbrev pub item_contents : Item → Contents
  item_contents i = contents_from i.rest (value_in (lookup_of s n look i.file 0) i.attribute.offset)

  unfoldable pub item_line : Item → Line
  item_line i = line.Attribute (record {
    file = i.file;
    offset = i.attribute.offset;
    ty = i.attribute.ty;
    length = i.attribute.length;
    instance = i.attribute.instance;
    name = name_in (lookup_of s n look i.file 0) i.attribute.offset;
    contents = item_contents i;
  })

  -- 18.12: the runs of its value, under its line
  unfoldable pub item_runs : Item → List Line
  item_runs i = value_lines (lookup_of s n look i.file 0) (item_contents i)

  -- 18.2: what follows an answer of the walk after k reads; the parts of an item are asked for once, behind its line
  abbrev pub lines_after : (ℕ → State → List Line) → ℕ → State → Answer Item → List Line
  lines_after on k w (gives i) =
      item_line i
      ∷ (item_runs i
      ++ (flat_map (part_lines s n look) (given_parts (parts_of s n look room i.rest))
      ++ on (k + length (parts_of s n look room i.rest).reads) w))
  lines_after on k w ends = line.End k ∷ []
  lines_after on k w (refuses r) = line.Stopped r.cause k ∷ []

  -- at most f calls of the walk, after k reads; 17.3: the reads of refusing calls count too
  unfoldable pub lines_run : ℕ → ℕ → State → List Line
  lines_run zero k w = []
  lines_run (suc f) k w =
      lines_after (lines_run f) (k + length (next_of s n look w).reads) (next_of s n look w).left
      (next_of s n look w).answer

  -- each item lowers what is left to read, so as many calls are enough
  unfoldable pub walk_lines : ℕ → State → List Line
  walk_lines k w = lines_run (suc (weight (length s) w)) k w

-- the base record of a table with these bytes is walked from fresh on, or refused
unfoldable pub opened_lines : ℕ → List ℕ → Outcome Lent → List Line
opened_lines room t (gives b) = walk_lines room b.bytes b.number (record_of t) 0 (fresh_of b.bytes)
opened_lines room t (refuses r) = line.Stopped r.cause 0 ∷ []

-- the base row's record and its walk; without a base row the table is refused
unfoldable pub base_lines : ℕ → List ℕ → TableHeader → Option Held → List Line
base_lines room t h None = line.TableRefused ∷ []
base_lines room t h (Some b) =
    line.Record b.number (length b.bytes) ∷ opened_lines room t (open_in b.bytes b.number h.size)

-- of a table that passed its check
unfoldable pub table_lines : ℕ → List ℕ → TableHeader → List Line
table_lines room t h = base_lines room t h (base_of t)

unfoldable pub checked_lines : ℕ → List ℕ → Outcome TableHeader → List Line
checked_lines room t (gives h) = table_lines room t h
checked_lines room t (refuses r) = line.TableRefused ∷ []

-- of any bytes; a longer input than the most counts as malformed
unfoldable pub listing_of : ℕ → List ℕ → List Line
listing_of room t = pick (ltb most_table (length t)) (line.TableRefused ∷ []) (checked_lines room t (table_of t))
