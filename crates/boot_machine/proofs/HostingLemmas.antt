-- What a host's commands are served with.
use Rattle.std.proofs.Common.{◌≡◌, ℕ, Bool, true, List, None, refl, sym, ap, ◌∙◌, subst}
use Rattle.std.specs.Prelude.{IsTrue, is_some}
use Rattle.pico_board.specs.declared.Step.{Step}
use Rattle.pico_board.specs.Content.{Content}
use Rattle.pico_board.specs.declared.boot.Cpu.{Cpu}
use Rattle.pico_board.specs.Board.{State as BoardState}
use Rattle.pico_board.proofs.StepLemmas.{DoesAll-none}
use Rattle.sector_pool.specs.Keeping.{KeepsOut}
use Rattle.sector_pool.specs.Pool.{Pool}
use Rattle.picoboot_cmd.specs.declared.cmd.Cmd.{Cmd}
use Rattle.ram_start.specs.Serving.{RamServed, ram_command}
use Rattle.text_lines.specs.declared.outcome.EventOutcome.{EventOutcome}
use Rattle.boot_machine.specs.declared.parts.Parts.{Parts}
use Rattle.boot_machine.specs.Machines.{Host}
use Rattle.boot_machine.specs.Serving.{ram_place, ram_outcome, ram_result, serves_ram, with_ram}
use Rattle.boot_machine.specs.Standing.{IsHost, IsServed, StandsAt}
use Rattle.boot_machine.proofs.SteadinessLemmas.{busy-as, host-with, with_host}

-- the RAM command by the parts is that by the host
pub ram-as : (c : Content) (ram sram : List ℕ) (cpu : Cpu) (busy held : Bool) (cmd : Cmd) (payload : List ℕ)
    → sram ≡ ram → busy ≡ held → ram_command c ram cpu busy cmd payload ≡ ram_command c sram cpu held cmd payload
ram-as c ram sram cpu busy held cmd payload same is =
    ap (λ x. ram_command c x cpu busy cmd payload) (sym same) ∙ ap (λ x. ram_command c sram cpu x cmd payload) is

module _ {B : Type 0} (state : B → BoardState) (history : B → List Step → Type 0) (old : Parts B) (host : Host)
    (pool : Pool) (ram : List ℕ) (cmd : Cmd) (payload : List ℕ) (busy : Bool) (outcome : EventOutcome)
    (power : IsTrue (state old.board).powered) where
  -- a RAM command that starts no image
  by-result : (r : RamServed) → KeepsOut old.pool pool → ram ≡ r.ram → r.start ≡ None
      → outcome ≡ ram_outcome cmd r.status r.reply r.start → IsHost old host
      → IsServed state history old (ram_result host cmd r) None (with_host old pool ram) outcome
  by-result r keeps same none told is = record {
    ok = true;
    by = record {
      board = DoesAll-none old.board power;
      cpu = refl;
      place = subst (λ o. StandsAt (with_host old pool ram)
          (ram_place host o r.ram)) (sym none)
          (subst (λ x. IsHost (with_host old pool ram) (with_ram host x)) same
          (host-with old pool ram host keeps is));
      told = told;
      off = tt;
      lost = tt;
    };
    asked = refl;
    silent = tt;
  }

  pub ram-served : busy ≡ is_some old.download.current → KeepsOut old.pool pool
      → ram ≡ (ram_command (state old.board).content old.ram old.cpu busy cmd payload).ram
      → (ram_command (state old.board).content old.ram old.cpu busy cmd payload).start ≡ None
      → outcome ≡ ram_outcome cmd (ram_command (state old.board).content old.ram old.cpu busy cmd payload).status
      (ram_command (state old.board).content old.ram old.cpu busy cmd payload).reply
      (ram_command (state old.board).content old.ram old.cpu busy cmd payload).start
      → IsHost old host
      → IsServed state history old (serves_ram (state old.board).content old.cpu host cmd payload) None
      (with_host old pool ram) outcome
  ram-served is_busy keeps same none told is =
      subst (λ r. IsServed state history old (ram_result host cmd r) None (with_host old pool ram) outcome)
      (ram-as (state old.board).content old.ram host.ram old.cpu busy (is_some host.placing) cmd payload is.ram
      (is_busy ∙ busy-as old.download old.pool host.placing is.placing))
      (by-result (ram_command (state old.board).content old.ram old.cpu busy cmd payload) keeps same none told is)
