use Rattle.std.proofs.Common.{◌≡◌, ℕ, List, IfOk, subst}
use Rattle.pico_board.specs.declared.mem_board.MemBoard.{MemBoard}
use Rattle.pico_board.specs.MemBoard.{state_of, new_state}
use Rattle.cli_inputs.specs.Forms.{filled_flash}
use Rattle.cli_inputs.proofs.BoardLemmas.{no-rows}
use Rattle.cli_inputs.proofs.boards.lone_board.Goals as goal

pub returns : goal.returns
returns c =
    subst (λ (otp : List ℕ). IfOk c.board_of.result
    (λ (board : MemBoard). state_of board ≡ new_state (filled_flash c.args.flash.items) otp))
    (no-rows c.new.result.items c.in_ok-rows.rows.rows.items c.new.ensures.items c.in_ok-rows.ensures)
    (subst (λ (flash : List ℕ). IfOk c.board_of.result
    (λ (board : MemBoard). state_of board ≡ new_state flash c.in_ok-rows.rows.rows.items))
    c.in_ok-flash.ensures c.board_of.ensures)
