-- How much room the table takes that a record is listed by.
use Rattle.std.specs.Prelude.{ℕ, ◌+◌, ◌*◌, ◌≤◌}
use Rattle.table.specs.Layout.{header_size, row_size}

-- as many records as are listed together at most: one, and those that its lists refer to (RULES 24.3)
abbrev pub most_records : ℕ
most_records = 158

-- a buffer of m bytes has room for the table of as many records as are listed together, of so many bytes each
abbrev pub Roomy : ℕ → ℕ → Type 0
Roomy size m = header_size + (row_size + size) * most_records ≤ m
