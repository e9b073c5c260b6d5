-- What the steps keep by which a part of an input is read.
use Rattle.std.specs.Prelude.{ℕ, ◌-◌, ◌≡◌, List, Option, Some, None, take, drop, min, IfSome, ⊤}
use Rattle.std.specs.Io.KnownBytes.{Consumes}
use Rattle.command.specs.Extraction.{front_size, size_of}
use Rattle.command.specs.declared.extraction.Extraction.{Extraction}

-- the known bytes lose so many at their front, or all of them
abbrev pub Passes : ℕ → Option (List ℕ) → Option (List ℕ) → Type 0
Passes n None new = ⊤
Passes n (Some s) None = ⊥
Passes n (Some s) (Some rest) = rest ≡ drop n s

-- how many bytes the next read may give, behind n
abbrev pub chunk : ℕ
chunk = 65536

abbrev pub step_of : Option ℕ → ℕ → ℕ
step_of None n = chunk
step_of (Some m) n = min (m - n) chunk

-- what is read of an input's front tells the same size as the whole front; where the size is asked for that is nothing
pub record HasFront (q : Extraction) (old new : Option (List ℕ)) (front : List ℕ) : Type 0 where
  pub taken : Consumes old new front
  pub same : IfSome old (λ s. size_of q.size front ≡ size_of q.size (take front_size s))
