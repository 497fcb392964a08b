use Rattle.std.proofs.Common.{Bor}
use Rattle.std.specs.Option.{option_map}
use Rattle.part_table.specs.declared.Table.{Table}
use Rattle.boot_machine.specs.Serving.{table_of_found}
use Rattle.boot_machine.proofs.ReplyLemmas.{host-told}
use Rattle.boot_machine.proofs.commands.serve_host.Goals as goal

pub returns-clause-outcome : goal.returns-clause-outcome
returns-clause-outcome g c =
    let s = g.B.Board.state c.args.board.now in
    let table = option_map (λ (t : Bor Table). t.now) c.table_of_found.result in
    host-told c.apply.new.reply s.content table (table_of_found c.args.found.now) c.args.busy c.args.cmd.now
    c.args.payload.now
    (g.met.B.Board.is_content c.args.board.now) c.table_of_found.ensures _ c.in_ok-done.done
    c.in_ok-done.ensures.answer c.command_outcome.ensures (c.apply.ensures.reply _ c.new-reply.ensures)
