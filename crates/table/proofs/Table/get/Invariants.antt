-- The ledger of the looks that are not counted.
use Rattle.table.proofs.Table.get.Given as goal

abbrev pub ghosts-find : goal.ghosts-find
ghosts-find a = record { name = a.blank.name; parts = a.blank.parts }
