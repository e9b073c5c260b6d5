-- What holds of a call of the walk besides, told with it so that loops over calls end and sums of reads fit.
use Rattle.std.specs.Prelude.{ℕ, ◌+◌, ◌*◌, ◌<◌, ◌≤◌, length, IfOk, IfSome}
use Rattle.items.specs.State.{weight}
use Rattle.items.specs.declared.File.{File}
use Rattle.items.specs.declared.walk.State.{State}
use Rattle.items.specs.declared.walk.Walked.{Walked}

-- the base record's length in bytes, which every record of the file has
abbrev pub size_of : File → ℕ
size_of f = length f.base.bytes.now

-- an item lowers what is left to read
abbrev pub Lowers : ℕ → State → Walked → Type 0
Lowers m w r = IfOk r.answer (λ o. IfSome o (λ _. weight m r.left < weight m w))

-- each byte that a call takes off what is left pays for at most an entry and a whole search
abbrev pub Paid : ℕ → State → Walked → Type 0
Paid m w r = r.reads + 257 * weight m r.left ≤ 257 * weight m w
