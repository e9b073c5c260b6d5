-- RULES 6, 7: some bytes of a record, and where they start in it.
use Rattle.std.specs.Prelude.{ℕ, ◌+◌, List, [], take, drop}
use Rattle.record.specs.declared.layout.Attribute.{Attribute}
use Rattle.record.specs.declared.layout.Span.{Span}

pub record Piece : Type 0 where
  pub from : ℕ
  pub bytes : List ℕ

-- some bytes of an attribute, from a place in it on
unfoldable pub piece_of : List ℕ → Attribute → ℕ → ℕ → Piece
piece_of s h from bytes = record { from = h.offset + from; bytes = take bytes (drop (h.offset + from) s) }

-- an empty name is told with 0
abbrev pub empty : Piece
empty = record { from = 0; bytes = [] }

-- the same told by its first byte's offset and its size
abbrev pub span : ℕ → ℕ → Span
span f b = record { from = f; bytes = b }
