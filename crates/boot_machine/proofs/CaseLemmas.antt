-- Which case of the table serves a command.
use Rattle.std.proofs.Common.{◌≡◌, ℕ, Bool, true, false, List, refl, ap, sym, ◌∙◌, ◌==◌, arith}
use Rattle.std.specs.Prelude.{if◌then◌else◌}
use Rattle.std.proofs.lemmas.Bool.Decides.{nat_tests}
use Rattle.pico_board.specs.declared.boot.Cpu.{Cpu}
use Rattle.pico_board.specs.Content.{Content}
use Rattle.picoboot_cmd.specs.declared.cmd.Cmd.{Cmd}
use Rattle.info_reply.specs.declared.kinds.TheConstants.{INFO}
use Rattle.ram_start.specs.Serving.{is_ram_command}
use Rattle.boot_machine.specs.Machines.{Host}
use Rattle.boot_machine.specs.Serving.{ServedEvent, serves, serves_host, serves_info, serves_ram}

module _ (c : Content) (cpu : Cpu) (host : Host) (cmd : Cmd) (payload : List ℕ) where
  abbrev by_ram : Bool → ServedEvent
  by_ram asks = if asks then serves_ram c cpu host cmd payload else serves_host c host cmd payload

  abbrev by_id : Bool → ServedEvent
  by_id info = if info then serves_info c cpu host cmd payload else by_ram (is_ram_command cmd)

  pub case-info : cmd.id ≡ INFO → serves_info c cpu host cmd payload ≡ serves c cpu host cmd payload
  case-info is = let same : (cmd.id == INFO) ≡ true = grind (arith, nat_tests, is) in sym (ap by_id same)

  not-info : (cmd.id ≡ INFO → ⊥) → (cmd.id == INFO) ≡ false
  not-info other = by (cmd.id == INFO) refl
    where
      by : (b : Bool) → (cmd.id == INFO) ≡ b → (cmd.id == INFO) ≡ false
      by true is = absurd (other (grind (arith, nat_tests, is)))
      by false is = is

  pub case-ram : (cmd.id ≡ INFO → ⊥) → is_ram_command cmd ≡ true
      → serves_ram c cpu host cmd payload ≡ serves c cpu host cmd payload
  case-ram other asks = sym (ap by_id (not-info other) ∙ ap by_ram asks)

  pub case-host : (cmd.id ≡ INFO → ⊥) → is_ram_command cmd ≡ false
      → serves_host c host cmd payload ≡ serves c cpu host cmd payload
  case-host other asks = sym (ap by_id (not-info other) ∙ ap by_ram asks)
