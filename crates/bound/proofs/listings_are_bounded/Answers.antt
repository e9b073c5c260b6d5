use Rattle.bound.proofs.Stopped.{every_part}
use Rattle.bound.proofs.Tables.{every_lookup, every_table, every_file, every_1024}
use Rattle.bound.proofs.listings_are_bounded.Goals as goal

pub returns-clause-lookup : goal.returns-clause-lookup
returns-clause-lookup c = every_lookup

pub returns-clause-table : goal.returns-clause-table
returns-clause-table c = every_table

pub returns-clause-file : goal.returns-clause-file
returns-clause-file c = every_file

pub returns-clause-part : goal.returns-clause-part
returns-clause-part c = every_part

pub returns-clause-kilobyte : goal.returns-clause-kilobyte
returns-clause-kilobyte c = every_1024
