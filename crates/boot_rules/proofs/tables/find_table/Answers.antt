use Rattle.boot_rules.proofs.TableLemmas.{found-slot, found-some}
use Rattle.boot_rules.proofs.tables.find_table.Goals as goal

pub returns-clause-sound : goal.returns-clause-sound
returns-clause-sound g c = found-some (g.B.Board.state c.args.board.now).content c.table_in.result c.table_in.ensures

pub returns-clause-slot : goal.returns-clause-slot
returns-clause-slot g c = found-slot (g.B.Board.state c.args.board.now).content c.table_in.result c.table_in.ensures
