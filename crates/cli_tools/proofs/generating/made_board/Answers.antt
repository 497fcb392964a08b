use Rattle.std.proofs.Common.{◌≡◌, ℕ, List, IfOk, subst, arith}
use Rattle.pico_board.specs.declared.mem_board.MemBoard.{MemBoard}
use Rattle.pico_board.specs.MemBoard.{state_of, new_state}
use Rattle.image_pack.specs.Faults.{zero_otp}
use Rattle.cli_inputs.specs.Forms.{filled_flash}
use Rattle.cli_inputs.proofs.ContentLemmas.{flash-back, zero-rows}
use Rattle.cli_tools.proofs.generating.made_board.Goals as goal

pub returns : goal.returns
returns c =
    let whole = flash-back c.args.flash.items (omega (arith, c.requires)) (omega (arith, c.requires)) in
    subst (λ (flash : List ℕ). IfOk c.lone_board.result (λ (b : MemBoard). state_of b ≡ new_state flash zero_otp)) whole
    (subst (λ (otp : List ℕ). IfOk c.lone_board.result
    (λ (b : MemBoard). state_of b ≡ new_state (filled_flash c.args.flash.items) otp)) zero-rows c.lone_board.ensures)
