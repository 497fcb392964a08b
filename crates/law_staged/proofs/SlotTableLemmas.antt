-- The table stays where no loop closes in one slot and all else is kept.
use Rattle.std.proofs.Common.{◌≡◌, inl, inr, ℕ, List, None, ap}
use Rattle.std.specs.Result.{result_ok}
use Rattle.pico_board.specs.declared.boot.Cpu.{Cpu}
use Rattle.pico_board.specs.declared.window.Window.{Window}
use Rattle.pico_board.specs.Content.{Content, IsContent, window_bytes}
use Rattle.pico_board.specs.Sessions.{SameButWindow}
use Rattle.block_codec.specs.Blocks.{BlockView}
use Rattle.block_loop.specs.Loop.{IsLoop}
use Rattle.block_loop.proofs.ChainLemmas.{loop_of-fault}
use Rattle.block_loop.proofs.SameLoopLemmas.{loop_or_fault}
use Rattle.boot_rules.specs.Chosen.{IsBootMember}
use Rattle.boot_rules.specs.Tables.{answer_in_loop, table_in}
use Rattle.boot_rules.proofs.TableLemmas.{slot_table}
use Rattle.boot_session.proofs.GatedLaws.{bare-table}

-- a slot without a loop has no table
loopless-slot : (sectors first : ℕ) (bytes : List ℕ) → ((bs : List BlockView) → IsLoop bytes bs → ⊥)
    → slot_table sectors first bytes ≡ None
loopless-slot sectors first bytes none = elim (loop_or_fault bytes) [
  | inl loop ↦ absurd (none loop.0 loop.1)
  | inr fault ↦ ap (λ r. result_ok (answer_in_loop sectors first r)) (loop_of-fault bytes fault.0 fault.1)
]

-- where no loop closes in the window, the table is the former one
pub loopless-table : (c : Content) (w : Window) (cpu : Cpu) → IsContent c → IsBootMember c w cpu → (d : Content)
    → SameButWindow w c d → ((bs : List BlockView) → IsLoop (window_bytes d w) bs → ⊥) → table_in d ≡ table_in c
loopless-table c w cpu right boot_member d same none =
    bare-table c w cpu right boot_member d same (λ sectors first. loopless-slot sectors first (window_bytes d w) none)
