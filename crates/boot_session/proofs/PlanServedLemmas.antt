-- How BOOTSEL serves the commands of a plan.
use Rattle.std.proofs.Common.{◌≡◌, ◌≢◌, ◌↔◌, ℕ, ◌+◌, ◌*◌, ◌/◌, ◌^◌, ◌<◌, ◌≤◌, Bool, true, false, ◌&&◌, ◌||◌, ◌==◌, ◌%◌, List, [], ◌∷◌, ◌++◌, length, Option, Some, None, Ok, refl, sym, ap, ◌∙◌, subst, arith}
use Rattle.std.specs.Prelude.{if◌then◌else◌}
use Rattle.std.proofs.lemmas.Bool.{lt-leb}
use Rattle.std.proofs.lemmas.Bool.Decides.{nat_tests}
use Rattle.pico_board.specs.declared.window.TheConstants.{MOST_FLASH_BYTES}
use Rattle.pico_board.specs.declared.Step.{Step}
use Rattle.pico_board.specs.declared.boot.BootKind.{BootKind}
use Rattle.pico_board.specs.declared.boot.Cpu.{Cpu}
use Rattle.pico_board.specs.Content.{Content}
use Rattle.pico_board.specs.Steps.{after_all}
use Rattle.load_map.specs.declared.addresses.TheConstants.{SRAM_START}
use Rattle.part_table.specs.declared.table.Right.{Right}
use Rattle.part_table.specs.declared.table.Right.TheVariants.{BootWrite}
use Rattle.part_table.specs.declared.table.Table.{Table}
use Rattle.part_table.specs.Rights.{allowed_by}
use Rattle.picoboot_cmd.specs.declared.cmd.Cmd.{Cmd}
use Rattle.picoboot_cmd.specs.declared.kinds.TheConstants.{ADDRESS, ALIGNMENT, COMMAND_LENGTH, ERASE, INVALID_STATE, NOT_PERMITTED, TRANSFER_LENGTH, WRITE}
use Rattle.picoboot_cmd.specs.Arguments.{address, offset, reboot_flags, reboot_p0, size}
use Rattle.picoboot_cmd.specs.ByCommand.{erase_checks, write_checks}
use Rattle.picoboot_cmd.specs.Checks.{check, first_failing, is_range_in_flash, status_of}
use Rattle.picoboot_cmd.specs.Commands.{command_in, written_command}
use Rattle.picoboot_cmd.specs.Pages.{programs}
use Rattle.picoboot_cmd.specs.Sectors.{erases, range_allowed}
use Rattle.picoboot_cmd.specs.Served.{ServedCommand as Command, boot_by, served_on, served_by_status as answered}
use Rattle.picoboot_cmd.specs.WellFormed.{IsErase, IsReboot, IsWrite, MayWrite}
use Rattle.ram_start.specs.Serving.{is_ram_command}
use Rattle.boot_rules.specs.Tables.{table_in}
use Rattle.boot_script.specs.Events as events
use Rattle.boot_script.specs.Events.{EventView}
use Rattle.boot_machine.specs.Machines.{Host, StateView, InBootsel, Off, Running}
use Rattle.boot_machine.specs.Serving.{ServedEvent, command_served, serves, serves_host, serves_ram, table_of_found}
use Rattle.script_plan.specs.Commands.{erase_cmd, update_cmd, write_cmd}
use Rattle.boot_session.specs.Sessions.{entered_host, going_on, session_from}

-- what the laws below say of commands and of those of a plan
pub record Known : Type 0 where
  pub read : (token at size : ℕ) → token < 2 ^ 32 → size < 2 ^ 32
      → (command_in (written_command (erase_cmd token at size)) ≡ Ok (erase_cmd token at size))
      × (command_in (written_command (write_cmd token at size)) ≡ Ok (write_cmd token at size))
      × (command_in (written_command (update_cmd token at)) ≡ Ok (update_cmd token at))
  pub is_erase : (n token s k : ℕ) (t : Option Table) → n ≤ MOST_FLASH_BYTES → 4096 * (s + k) ≤ n
      → MayWrite t (4096 * s) (4096 * k) → IsErase n t s k (erase_cmd token (4096 * s) (4096 * k))
  pub is_write : (n token p : ℕ) (t : Option Table) (payload : List ℕ) → n ≤ MOST_FLASH_BYTES
      → 256 * p + length payload ≤ n → MayWrite t (256 * p) (length payload)
      → IsWrite n t p payload (write_cmd token (256 * p) (length payload))
  pub is_reboot : (token at : ℕ) → IsReboot (update_cmd token at)
  pub erased : (c : Content) (t : Option Table) (cmd : Cmd) (s k : ℕ) → IsErase (length c.flash) t s k cmd
      → served_on c t false cmd [] ≡ record { status = 0; steps = erases s k; reply = []; boot = None }
  pub wrote : (c : Content) (t : Option Table) (cmd : Cmd) (p : ℕ) (payload : List ℕ)
      → IsWrite (length c.flash) t p payload cmd
      → served_on c t false cmd payload
      ≡ record { status = 0; steps = programs p payload; reply = []; boot = None }
  pub rebooted : (c : Content) (t : Option Table) (busy : Bool) (cmd : Cmd) → IsReboot cmd
      → served_on c t busy cmd []
      ≡ record { status = 0; steps = []; reply = []; boot = Some (boot_by (reboot_flags cmd) (reboot_p0 cmd)) }
  pub refused : (c : Content) (t : Option Table) (busy : Bool) (cmd : Cmd) (payload : List ℕ)
      → (served_on c t busy cmd payload).status ≢ 0
      → ((served_on c t busy cmd payload).steps ≡ []) × ((served_on c t busy cmd payload).reply ≡ [])
      × ((served_on c t busy cmd payload).boot ≡ None)
  pub erase_status : (n : ℕ) (otp : List ℕ) (t : Option Table) (busy : Bool) (cmd : Cmd) (payload : List ℕ)
      → cmd.id ≡ ERASE → status_of n otp t busy cmd payload ≡ first_failing (erase_checks n t busy cmd payload)
  pub write_status : (n : ℕ) (otp : List ℕ) (t : Option Table) (busy : Bool) (cmd : Cmd) (payload : List ℕ)
      → cmd.id ≡ WRITE → status_of n otp t busy cmd payload ≡ first_failing (write_checks n t busy cmd payload)
  pub by_byte : (t : Option Table) (right : Right) (at size : ℕ)
      → (range_allowed t right at size ≡ true) ↔ ((i : ℕ) → i < size → allowed_by t ((at + i) / 4096) right ≡ true)

-- where the last of five checks fails, the status is not 0
last-fails : (a b c d : Bool) → first_failing (check INVALID_STATE true ∷ check COMMAND_LENGTH a
    ∷ check TRANSFER_LENGTH b ∷ check ALIGNMENT c ∷ check ADDRESS d ∷ check NOT_PERMITTED false ∷ []) ≢ 0
last-fails false b c d e = cc
last-fails true false c d e = cc
last-fails true true false d e = cc
last-fails true true true false e = cc
last-fails true true true true e = cc

failing : (a b c d r : Bool) → r ≡ false → first_failing (check INVALID_STATE true ∷ check COMMAND_LENGTH a
    ∷ check TRANSFER_LENGTH b ∷ check ALIGNMENT c ∷ check ADDRESS d ∷ check NOT_PERMITTED r ∷ []) ≢ 0
failing a b c d r off =
    subst (λ (x : Bool). first_failing (check INVALID_STATE true ∷ check COMMAND_LENGTH a ∷ check TRANSFER_LENGTH b
    ∷ check ALIGNMENT c ∷ check ADDRESS d ∷ check NOT_PERMITTED x ∷ []) ≢ 0) (sym off) (last-fails a b c d)

erase-fails : (n : ℕ) (t : Option Table) (cmd : Cmd) → range_allowed t BootWrite (offset cmd) (size cmd) ≡ false
    → first_failing (erase_checks n t false cmd []) ≢ 0
erase-fails n t cmd off =
    failing (cmd.arg_size == 8) (cmd.transfer == 0 && true) (address cmd % 4096 == 0 && size cmd % 4096 == 0)
    (is_range_in_flash cmd n) (range_allowed t BootWrite (offset cmd) (size cmd)) off

write-fails : (n : ℕ) (t : Option Table) (cmd : Cmd) (payload : List ℕ)
    → range_allowed t BootWrite (offset cmd) (size cmd) ≡ false
    → first_failing (write_checks n t false cmd payload) ≢ 0
write-fails n t cmd payload off =
    failing (cmd.arg_size == 8) (cmd.transfer == size cmd && length payload == cmd.transfer)
    (address cmd % 256 == 0) (is_range_in_flash cmd n) (range_allowed t BootWrite (offset cmd) (size cmd)) off

same-number : (a b : ℕ) → (a == b) ≡ true → a ≡ b
same-number a b e = grind (arith, nat_tests)

pick-status : (b : Bool) (done other : Command) → (b ≡ true → done.status ≢ 0) → (b ≡ false → other.status ≢ 0)
    → (if b then done else other).status ≢ 0
pick-status true done other one two = one refl
pick-status false done other one two = two refl

by-status : (status : ℕ) (c : Content) (cmd : Cmd) (payload : List ℕ) → status ≢ 0
    → (answered status c cmd payload).status ≢ 0
by-status status c cmd payload differ =
    pick-status (status == 0) _ _ (λ e. absurd (differ (same-number status 0 e))) (λ e. differ)

-- the host of a plan, and an event of a command
module _ (c : Content) (cpu : Cpu) where
  abbrev pub host : Host
  host = entered_host c

  abbrev pub table : Option Table
  table = table_of_found (table_in c)

  abbrev pub event : Cmd → List ℕ → EventView
  event cmd payload = events.Command (written_command cmd) payload

  -- an erase and a write are served as commands for the board
  erase-served : (d : Content) (token at size : ℕ) (payload : List ℕ)
      → serves d cpu host (erase_cmd token at size) payload
      ≡ serves_host d host (erase_cmd token at size) payload
  erase-served d token at size payload = refl

  write-served : (d : Content) (token at size : ℕ) (payload : List ℕ)
      → address (write_cmd token at size) < SRAM_START
      → serves d cpu host (write_cmd token at size) payload
      ≡ serves_host d host (write_cmd token at size) payload
  write-served d token at size payload low =
      ap (λ b. if b || false then serves_ram d cpu host (write_cmd token at size) payload
      else serves_host d host (write_cmd token at size) payload)
      (lt-leb SRAM_START (address (write_cmd token at size)) low)

  -- what an event of a command adds to the session, where it asks for no boot
  abbrev rest_of : List EventView → Content → ServedEvent → List Step
  rest_of es d s = s.steps ++ going_on (λ next. session_from (after_all d s.steps) cpu next es) s.boot s.place

  pub one-event : (d : Content) (cmd : Cmd) (payload : List ℕ) (es : List EventView) (steps : List Step)
      → command_in (written_command cmd) ≡ Ok cmd → serves d cpu host cmd payload ≡ serves_host d host cmd payload
      → (served_on d table false cmd payload).steps ≡ steps → (served_on d table false cmd payload).boot ≡ None
      → session_from d cpu host (event cmd payload ∷ es) ≡ steps ++ session_from (after_all d steps) cpu host es
  one-event d cmd payload es steps read hosted does boot =
      ap (λ r. rest_of es d (command_served d cpu host r payload)) read
      ∙ ap (rest_of es d) hosted
      ∙ ap (λ b. (served_on d table false cmd payload).steps
      ++ going_on (λ next. session_from (after_all d (served_on d table false cmd payload).steps) cpu next es) b
      (InBootsel host)) boot
      ∙ ap (λ xs. xs ++ session_from (after_all d xs) cpu host es) does

  -- the reboot behind them does no step
  going-nothing : (boot : Option BootKind) (place : StateView) → going_on (λ next. []) boot place ≡ []
  going-nothing (Some kind) place = refl
  going-nothing None Off = refl
  going-nothing None (Running program) = refl
  going-nothing None (InBootsel next) = refl

  no-steps : (b : Bool) (one two : ServedEvent) → one.steps ≡ [] → two.steps ≡ [] → (if b then one else two).steps ≡ []
  no-steps true one two p q = p
  no-steps false one two p q = q

  pub reboot-event : Known → (d : Content) (token at : ℕ) → token < 2 ^ 32
      → session_from d cpu host (event (update_cmd token at) [] ∷ []) ≡ []
  reboot-event known d token at small =
      let cmd = update_cmd token at in
      let done = known.rebooted d table false cmd (known.is_reboot token at) in
      let served_as = serves d cpu host cmd [] in
      let none : served_as.steps ≡ [] =
      no-steps (is_ram_command cmd) (serves_ram d cpu host cmd []) (serves_host d host cmd []) refl
      (ap (λ (r : Command). r.steps) done) in
      ap (λ r. rest_of [] d (command_served d cpu host r [])) (known.read token at 0 small (omega arith)).2
      ∙ ap (λ xs. xs ++ going_on (λ next. []) served_as.boot served_as.place) none
      ∙ going-nothing served_as.boot served_as.place

  -- an erase or a write of bytes that may not be written does no step
  module _ (known : Known) (d : Content) (long : length d.flash ≡ length c.flash)
      (small : length c.flash ≤ MOST_FLASH_BYTES) where
    abbrev n : ℕ
    n = length d.flash

    fits : n ≤ MOST_FLASH_BYTES
    fits = omega (arith, long, small)

    not-allowed : (at count : ℕ) → 0 < count → allowed_by table (at / 4096) BootWrite ≡ false
        → range_allowed table BootWrite at count ≡ false
    not-allowed at count some barred = go (range_allowed table BootWrite at count) refl
      where
        go : (b : Bool) → range_allowed table BootWrite at count ≡ b → b ≡ false
        go false e = refl
        go true e =
            let first = (known.by_byte table BootWrite at count).0 e 0 some in
            let same : at + 0 ≡ at = omega arith in
            let wrong : true ≡ false =
            sym (ap (λ k. allowed_by table (k / 4096) BootWrite) (sym same) ∙ first) ∙ barred in
            cc

    pub erase-refused : (token s k : ℕ) (es : List EventView) → token < 2 ^ 32 → 0 < k → 4096 * (s + k) ≤ n
        → allowed_by table s BootWrite ≡ false
        → session_from d cpu host (event (erase_cmd token (4096 * s) (4096 * k)) [] ∷ es) ≡ session_from d cpu host es
    erase-refused token s k es token_small some inside barred =
        let cmd = erase_cmd token (4096 * s) (4096 * k) in
        let is = known.is_erase n token s k None fits inside (λ i lt. refl) in
        let at : offset cmd ≡ 4096 * s = (let a = is.address in omega (arith, a)) in
        let sector : 4096 * s / 4096 ≡ s = omega arith in
        let off : range_allowed table BootWrite (offset cmd) (size cmd) ≡ false =
        ap (λ x. range_allowed table BootWrite x (size cmd)) at ∙ ap (range_allowed table BootWrite (4096 * s)) is.size
        ∙ not-allowed (4096 * s) (4096 * k) (omega (arith, some))
        (ap (λ x. allowed_by table x BootWrite) sector ∙ barred) in
        let status : status_of n d.otp table false cmd [] ≢ 0 = λ e.
        erase-fails n table cmd off (sym (known.erase_status n d.otp table false cmd [] refl) ∙ e) in
        let no_steps = known.refused d table false cmd []
        (by-status (status_of n d.otp table false cmd []) d cmd [] status) in
        one-event d cmd [] es [] (known.read token (4096 * s) (4096 * k) token_small (omega (arith, inside, fits))).0
        (erase-served d token (4096 * s) (4096 * k) []) no_steps.0 no_steps.2

    pub write-refused : (token p : ℕ) (payload : List ℕ) (es : List EventView) → token < 2 ^ 32 → 0 < length payload
        → 256 * p + length payload ≤ n → allowed_by table (256 * p / 4096) BootWrite ≡ false
        → session_from d cpu host (event (write_cmd token (256 * p) (length payload)) payload ∷ es)
        ≡ session_from d cpu host es
    write-refused token p payload es token_small some inside barred =
        let cmd = write_cmd token (256 * p) (length payload) in
        let is = known.is_write n token p None payload fits inside (λ i lt. refl) in
        let at : offset cmd ≡ 256 * p = (let a = is.address in omega (arith, a)) in
        let low : address cmd < SRAM_START = (let a = is.address in omega (arith, a, inside, fits, some)) in
        let off : range_allowed table BootWrite (offset cmd) (size cmd) ≡ false =
        ap (λ x. range_allowed table BootWrite x (size cmd)) at ∙ ap (range_allowed table BootWrite (256 * p)) is.size
        ∙ not-allowed (256 * p) (length payload) some barred in
        let status : status_of n d.otp table false cmd payload ≢ 0 = λ e.
        write-fails n table cmd payload off (sym (known.write_status n d.otp table false cmd payload refl) ∙ e) in
        let no_steps = known.refused d table false cmd payload
        (by-status (status_of n d.otp table false cmd payload) d cmd payload status) in
        one-event d cmd payload es []
        (known.read token (256 * p) (length payload) token_small (omega (arith, inside, fits))).1
        (write-served d token (256 * p) (length payload) payload low) no_steps.0 no_steps.2

    -- an erase and a write of bytes that may be written do their steps
    pub erase-done : (token s k : ℕ) (es : List EventView) → token < 2 ^ 32 → 4096 * (s + k) ≤ n
        → MayWrite table (4096 * s) (4096 * k)
        → session_from d cpu host (event (erase_cmd token (4096 * s) (4096 * k)) [] ∷ es)
        ≡ erases s k ++ session_from (after_all d (erases s k)) cpu host es
    erase-done token s k es token_small inside may =
        let cmd = erase_cmd token (4096 * s) (4096 * k) in
        let done = known.erased d table cmd s k (known.is_erase n token s k table fits inside may) in
        one-event d cmd [] es (erases s k)
        (known.read token (4096 * s) (4096 * k) token_small (omega (arith, inside, fits))).0
        (erase-served d token (4096 * s) (4096 * k) []) (ap (λ (r : Command). r.steps) done)
        (ap (λ (r : Command). r.boot) done)

    pub write-done : (token p : ℕ) (payload : List ℕ) (es : List EventView) → token < 2 ^ 32 → 0 < length payload
        → 256 * p + length payload ≤ n → MayWrite table (256 * p) (length payload)
        → session_from d cpu host (event (write_cmd token (256 * p) (length payload)) payload ∷ es)
        ≡ programs p payload ++ session_from (after_all d (programs p payload)) cpu host es
    write-done token p payload es token_small some inside may =
        let cmd = write_cmd token (256 * p) (length payload) in
        let is = known.is_write n token p table payload fits inside may in
        let low : address cmd < SRAM_START = (let a = is.address in omega (arith, a, inside, fits, some)) in
        let done = known.wrote d table cmd p payload is in
        one-event d cmd payload es (programs p payload)
        (known.read token (256 * p) (length payload) token_small (omega (arith, inside, fits))).1
        (write-served d token (256 * p) (length payload) payload low) (ap (λ (r : Command). r.steps) done)
        (ap (λ (r : Command). r.boot) done)
