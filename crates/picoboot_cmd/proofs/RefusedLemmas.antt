-- A command with another status than 0 does nothing.
use Rattle.std.proofs.Common.{◌≡◌, ◌≢◌, ◌↔◌, ◌==◌, ℕ, Bool, true, false, cond, List, [], None, Some, refl, sym, ◌∙◌, ap, arith, eq-eqb}
use Rattle.std.specs.Prelude.{is_some}
use Rattle.std.proofs.lemmas.Bool.Decides.{nat_tests}
use Rattle.pico_board.specs.declared.boot.BootKind.{BootKind}
use Rattle.pico_board.specs.Content.{Content}
use Rattle.picoboot_cmd.specs.declared.cmd.Cmd.{Cmd}
use Rattle.picoboot_cmd.specs.declared.kinds.TheConstants.{REBOOT}
use Rattle.picoboot_cmd.specs.Arguments.{reboot_flags, reboot_p0}
use Rattle.picoboot_cmd.specs.Served.{ServedCommand, served_by_status, command_steps, reply_of, boot_by, boot_of}

refused_by : (b : Bool) (done other : ServedCommand) → done.status ≡ 0 → other.steps ≡ [] → other.reply ≡ []
    → other.boot ≡ None
    → (cond b done other).status ≢ 0
    → ((cond b done other).steps ≡ []) × ((cond b done other).reply ≡ []) × ((cond b done other).boot ≡ None)
refused_by true done other is steps reply boot refused = absurd (refused is)
refused_by false done other is steps reply boot refused = (steps, reply, boot)

pub refused-nothing : (status : ℕ) (c : Content) (cmd : Cmd) (payload : List ℕ)
    → (served_by_status status c cmd payload).status ≢ 0
    → ((served_by_status status c cmd payload).steps ≡ []) × ((served_by_status status c cmd payload).reply ≡ [])
    × ((served_by_status status c cmd payload).boot ≡ None)
refused-nothing status c cmd payload =
    refused_by _ (record { status = 0; steps = command_steps cmd payload; reply = reply_of c cmd; boot = boot_of cmd })
    (record { status = status; steps = []; reply = []; boot = None }) refl refl refl refl

same_number : (a b : ℕ) → (a == b) ≡ true → a ≡ b
same_number a b e = grind (arith, nat_tests)

boot_by_tests : (b r : Bool) (status id : ℕ) (kind : BootKind) → (status == 0) ≡ b → (id == REBOOT) ≡ r
    → (is_some (cond b (cond r (Some kind) None) None) ≡ true) ↔ ((id ≡ REBOOT) × (cond b 0 status ≡ 0))
boot_by_tests true true status id kind none is = (λ e. (same_number id REBOOT is, refl), λ parts. refl)
boot_by_tests true false status id kind none is =
    (λ e. cc, λ parts. absurd (let e = sym (eq-eqb id REBOOT (parts.0)) ∙ is in cc))
boot_by_tests false r status id kind some is =
    (λ e. cc, λ parts. absurd (let e = sym (eq-eqb status 0 (parts.1)) ∙ some in cc))

boot_tests : (status id : ℕ) (kind : BootKind)
    → (is_some (cond (status == 0) (cond (id == REBOOT) (Some kind) None) None) ≡ true)
    ↔ ((id ≡ REBOOT) × (cond (status == 0) 0 status ≡ 0))
boot_tests status id kind = boot_by_tests (status == 0) (id == REBOOT) status id kind refl refl

split_boot : (b : Bool) (done other : ServedCommand) → (cond b done other).boot ≡ cond b done.boot other.boot
split_boot true done other = refl
split_boot false done other = refl

split_status : (b : Bool) (done other : ServedCommand) → (cond b done other).status ≡ cond b done.status other.status
split_status true done other = refl
split_status false done other = refl

pub boot-asked : (status : ℕ) (c : Content) (cmd : Cmd) (payload : List ℕ)
    → (is_some (served_by_status status c cmd payload).boot ≡ true)
    ↔ ((cmd.id ≡ REBOOT) × ((served_by_status status c cmd payload).status ≡ 0))
boot-asked status c cmd payload =
    let done : ServedCommand =
    record { status = 0; steps = command_steps cmd payload; reply = reply_of c cmd; boot = boot_of cmd } in
    let other : ServedCommand = record { status = status; steps = []; reply = []; boot = None } in
    let both = boot_tests status cmd.id (boot_by (reboot_flags cmd) (reboot_p0 cmd)) in
    let boot = split_boot (status == 0) done other in
    let number = split_status (status == 0) done other in (
      λ some. let parts = both.0 (ap is_some (sym boot) ∙ some) in (parts.0, number ∙ parts.1),
      λ parts. ap is_some boot ∙ both.1 (parts.0, sym number ∙ parts.1),
    )
