use Rattle.written.proofs.Tables.{table_passes, table_holds, table_long}
use Rattle.written.proofs.laws.written_tables_hold_their_rows.Goals as goal

pub returns-clause-pass : goal.returns-clause-pass
returns-clause-pass c = table_passes

pub returns-clause-held : goal.returns-clause-held
returns-clause-held c = table_holds

pub returns-clause-long : goal.returns-clause-long
returns-clause-long c = table_long
