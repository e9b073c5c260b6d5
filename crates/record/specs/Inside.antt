-- What an attribute that is given is besides: at least as long as its header, and inside its record and the used part
-- of it.
use Rattle.std.specs.Prelude.{ℕ, ◌+◌, ◌≤◌, List, length}
use Rattle.record.specs.Header.{used_size}
use Rattle.record.specs.Attribute.{header_size}
use Rattle.record.specs.declared.layout.Attribute.{Attribute}

pub record Inside (s : List ℕ) (h : Attribute) : Type 0 where
  pub least : header_size ≤ h.length
  pub most : h.offset + h.length ≤ length s
  pub used : h.offset + h.length ≤ used_size s
