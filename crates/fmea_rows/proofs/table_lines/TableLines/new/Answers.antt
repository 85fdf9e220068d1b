use Rattle.fmea_rows.proofs.LineLaws.{table-lines}
use Rattle.fmea_rows.proofs.table_lines.TableLines.new.Goals as goal

pub returns : goal.returns
returns c = table-lines c.args.system c.args.rates c.requires.names c.requires.rates c.args.rows
