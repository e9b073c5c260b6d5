-- As many bytes as are read of a record are all of a short input.
use Rattle.std.proofs.Common.{ℕ, ◌≡◌, ◌≤◌, List, length, take, take_all, sym}
use Rattle.command.specs.Asked.{record_reach}

pub front_is_all : (s : List ℕ) → length s ≤ record_reach → s ≡ take record_reach s
front_is_all s l = sym (take_all record_reach s l)
