-- When a RAM command starts an image.
use Rattle.std.proofs.Common.{◌≡◌, ◌↔◌, ◌==◌, ◌||◌, ◌&&◌, not, ℕ, suc, Bool, true, false, cond, List, [], ◌∷◌, Option, None, refl, sym, ap, ◌∙◌, subst, arith, eq-eqb}
use Rattle.std.specs.Prelude.{is_some}
use Rattle.std.proofs.lemmas.Bool.Decides.{nat_tests}
use Rattle.pico_board.specs.declared.boot.Cpu.{Cpu}
use Rattle.pico_board.specs.Content.{Content}
use Rattle.image_def.specs.declared.started.Started.{Started}
use Rattle.load_map.specs.Addresses.{in_sram}
use Rattle.picoboot_cmd.specs.declared.cmd.Cmd.{Cmd}
use Rattle.picoboot_cmd.specs.declared.kinds.TheConstants.{REBOOT, WRITE}
use Rattle.picoboot_cmd.specs.Arguments.{address, size}
use Rattle.picoboot_cmd.specs.Checks.{Check, check, first_failing, has_transfer}
use Rattle.ram_start.specs.Serving.{RamServed, is_range, ram_command, ram_reply, ram_status, ram_stored, reboot_image}

same_number : (a b : ℕ) → (a == b) ≡ true → a ≡ b
same_number a b e = grind (arith, nat_tests)

-- where no check fails, the first one passes, and the others do
passed : (n : ℕ) (b : Bool) (ks : List Check) → first_failing (check (suc n) b ∷ ks) ≡ 0 → (b ≡ true)
    × (first_failing ks ≡ 0)
passed n true ks zero = (refl, zero)
passed n false ks zero = absurd (omega (arith, zero))

split_start : (b : Bool) (done other : RamServed) → (cond b done other).start ≡ cond b done.start other.start
split_start true done other = refl
split_start false done other = refl

started_by : (zero_status reboots : Bool) (status id : ℕ) (image : Option Started) → (status == 0) ≡ zero_status
    → (id == REBOOT) ≡ reboots → (status ≡ 0 → (not (id == REBOOT) || is_some image) ≡ true)
    → (is_some (cond zero_status (cond reboots image None) None) ≡ true) ↔ ((id ≡ REBOOT) × (status ≡ 0))
started_by true true status id image none is there = (
  λ e. (same_number id REBOOT is, same_number status 0 none),
  λ both. subst (λ b. (not b || is_some image) ≡ true) is (there both.1),
)
started_by true false status id image none is there =
    (λ e. cc, λ both. absurd (let e = sym (eq-eqb id REBOOT both.0) ∙ is in cc))
started_by false reboots status id image some is there =
    (λ e. cc, λ both. absurd (let e = sym (eq-eqb status 0 both.1) ∙ some in cc))

module _ (c : Content) (ram : List ℕ) (cpu : Cpu) (busy : Bool) (cmd : Cmd) (payload : List ℕ) where
  -- with status 0 a reboot has an image
  image-there : ram_status c ram cpu busy cmd payload ≡ 0
      → (not (cmd.id == REBOOT) || is_some (reboot_image c ram cpu cmd)) ≡ true
  image-there zero =
      let image : Check = check 13 (not (cmd.id == REBOOT) || is_some (reboot_image c ram cpu cmd)) in
      let range : Check = check 11 (not (cmd.id == REBOOT) || is_range cmd) in
      let inside : Check = check 4 (cmd.id == REBOOT || in_sram (address cmd) (size cmd)) in
      let lengths : Check = check 3 (has_transfer cmd payload) in
      let one = passed 8 (not (cmd.id == WRITE && busy)) (lengths ∷ inside ∷ range ∷ image ∷ []) zero in
      let two = passed 2 lengths.passes (inside ∷ range ∷ image ∷ []) one.1 in
      let three = passed 3 inside.passes (range ∷ image ∷ []) two.1 in
      let four = passed 10 range.passes (image ∷ []) three.1 in
      (passed 12 image.passes [] four.1).0

  pub starts-exactly : (is_some (ram_command c ram cpu busy cmd payload).start ≡ true)
      ↔ ((cmd.id ≡ REBOOT) × (ram_status c ram cpu busy cmd payload ≡ 0))
  starts-exactly =
      let status = ram_status c ram cpu busy cmd payload in
      let image = reboot_image c ram cpu cmd in
      let done : RamServed = record {
        status = 0;
        ram = ram_stored ram cmd payload;
        reply = ram_reply ram cmd;
        start = cond (cmd.id == REBOOT) image None;
      } in
      let other : RamServed = record { status = status; ram = ram; reply = []; start = None } in
      let split = ap is_some (split_start (status == 0) done other) in
      let both = started_by (status == 0) (cmd.id == REBOOT) status cmd.id image refl refl image-there in
      (λ some. both.0 (sym split ∙ some), λ parts. split ∙ both.1 parts)
