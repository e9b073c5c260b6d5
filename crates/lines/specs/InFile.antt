-- Items and parts of an opened file, as the functions that make a line speak of them.
use Rattle.std.specs.Prelude.{ℕ, ◌≡◌, ◌≤◌, List, length, take, Option}
use Rattle.table.specs.Held.{record_of}
use Rattle.items.specs.declared.File.{File}
use Rattle.items.specs.declared.walk.Item.{Item}
use Rattle.items.specs.declared.walk.Rest.{Rest}
use Rattle.parts.specs.Parts.{Parts}
use Rattle.parts.specs.declared.Part.{Part}
use Rattle.lines.specs.declared.line.Contents.{Contents}
use Rattle.lines.specs.declared.line.Line.{Line}
use Rattle.lines.specs.Listing.{contents_from, item_line, item_runs, given_parts}

abbrev pub line_in : ℕ → File → Item → Line
line_in room f i = item_line room f.base.bytes.now f.base.number (record_of f.table.bytes.now) i

abbrev pub runs_in : ℕ → File → Item → List Line
runs_in room f i = item_runs room f.base.bytes.now f.base.number (record_of f.table.bytes.now) i

abbrev pub contents_in : ℕ → File → Option Rest → Contents → Contents
contents_in room f l v = contents_from room f.base.bytes.now f.base.number (record_of f.table.bytes.now) l v

-- the parts of an item read at most 257 for each byte of a list
abbrev pub most_of_parts : ℕ
most_of_parts = 1052672

-- an item's parts stand in front of a list that was `before`: how many they are, and what was read for them
pub record Reads (p : Parts) (before after : List Part) (count k : ℕ) : Type 0 where
  pub parts : take count after ≡ given_parts p
  pub reads : k ≡ length p.reads
  pub few : k ≤ most_of_parts
  pub fits : count ≤ length before
  pub size : length after ≡ length before
