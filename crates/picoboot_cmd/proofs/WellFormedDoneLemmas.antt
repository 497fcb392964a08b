-- What well-formed commands do where their sectors may all be written.
use Rattle.std.proofs.Common.{◌≡◌, ℕ, ◌+◌, ◌*◌, ◌/◌, ◌%◌, ◌≤◌, Bool, true, false, ◌&&◌, List, [], None, length, drop, refl, sym, subst, ◌∙◌, ap, ap₂, arith, eq-eqb, le-leb}
use Rattle.std.specs.Prelude.{Option}
use Rattle.pico_board.specs.declared.Step.{Step}
use Rattle.pico_board.specs.declared.boot.BootKind.{BootKind}
use Rattle.pico_board.specs.Content.{Content, flash_base}
use Rattle.part_table.specs.declared.table.Right.TheVariants.{BootWrite}
use Rattle.part_table.specs.declared.table.Table.{Table}
use Rattle.picoboot_cmd.specs.declared.cmd.Cmd.{Cmd}
use Rattle.picoboot_cmd.specs.declared.kinds.TheConstants.{COMMAND_LENGTH, TRANSFER_LENGTH, ADDRESS, ALIGNMENT, NOT_PERMITTED}
use Rattle.picoboot_cmd.specs.Arguments.{address, size, offset}
use Rattle.picoboot_cmd.specs.ByCommand.{erase_checks, write_checks}
use Rattle.picoboot_cmd.specs.Checks.{is_range_in_flash, status_of}
use Rattle.picoboot_cmd.specs.Pages.{programs}
use Rattle.picoboot_cmd.specs.Sectors.{erases, range_allowed}
use Rattle.picoboot_cmd.specs.Served.{ServedCommand, served_by_status, command_steps, reply_of, boot_of, served_on}
use Rattle.picoboot_cmd.specs.WellFormed.{IsErase, IsWrite}
use Rattle.picoboot_cmd.proofs.ByCommandLemmas.{with_id, at-erase, at-write}
use Rattle.picoboot_cmd.proofs.FirstFailingLemmas.{passing}
use Rattle.picoboot_cmd.proofs.SectorLemmas.{range-from_bytes}

both_true : (a b : Bool) → a ≡ true → b ≡ true → (a && b) ≡ true
both_true a b p q = ap₂ (λ x y. x && y) p q

in_flash : (cmd : Cmd) (n : ℕ) → flash_base ≤ address cmd
    → address cmd + size cmd ≤ flash_base + n → is_range_in_flash cmd n ≡ true
in_flash cmd n low high = both_true _ _ (le-leb _ _ low) (le-leb _ _ high)

same_served : (xs ys : List Step) (reply : List ℕ) (boot : Option BootKind) → xs ≡ ys → reply ≡ [] → boot ≡ None
    → ◌≡◌ {A = ServedCommand} (record { status = 0; steps = xs; reply = reply; boot = boot })
    (record { status = 0; steps = ys; reply = []; boot = None })
same_served xs ys reply boot e f g = cc

module _ (n : ℕ) (otp : List ℕ) (t : Option Table) (cmd : Cmd) (s k : ℕ) (is : IsErase n t s k cmd) where
  erase-offset : offset cmd ≡ 4096 * s
  erase-offset = let at = is.address in omega (arith, at)

  erase-allowed : range_allowed t BootWrite (offset cmd) (size cmd) ≡ true
  erase-allowed =
      ap₂ (range_allowed t BootWrite) erase-offset is.size
      ∙ range-from_bytes t BootWrite (4096 * s) (4096 * k) is.allowed

  erase-status : status_of n otp t false cmd [] ≡ 0
  erase-status =
      let at = is.address in
      let long = is.size in
      let inside = is.inside in
      let sector : address cmd % 4096 ≡ 0 = omega (arith, at) in
      let sectors : size cmd % 4096 ≡ 0 = omega (arith, long) in
      let low : flash_base ≤ address cmd = omega (arith, at) in
      let high : address cmd + size cmd ≤ flash_base + n = omega (arith, at, long, inside) in
      let all = erase_checks n t false cmd [] in
      at-erase n otp t false cmd [] is.id
      ∙ passing COMMAND_LENGTH _ (drop 2 all) (eq-eqb _ _ is.arg_size)
      (passing TRANSFER_LENGTH _ (drop 3 all) (both_true _ _ (eq-eqb _ _ is.transfer) refl)
      (passing ALIGNMENT _ (drop 4 all) (both_true _ _ (eq-eqb _ _ sector) (eq-eqb _ _ sectors))
      (passing ADDRESS _ (drop 5 all) (in_flash cmd n low high)
      (passing NOT_PERMITTED _ [] erase-allowed refl))))

pub erase-done : (c : Content) (t : Option Table) (cmd : Cmd) (s k : ℕ) → IsErase (length c.flash) t s k cmd
    → served_on c t false cmd [] ≡ record { status = 0; steps = erases s k; reply = []; boot = None }
erase-done c t cmd s k is =
    let first = ap (λ at. at / 4096) (erase-offset (length c.flash) c.otp t cmd s k is) in
    let count = ap (λ n. n / 4096) is.size in
    let steps : command_steps cmd [] ≡ erases s k =
    subst (λ id. command_steps (with_id cmd id) [] ≡ erases (offset cmd / 4096) (size cmd / 4096)) (sym is.id) refl
    ∙ ap₂ erases (first ∙ omega arith) (count ∙ omega arith) in
    let reply : reply_of c cmd ≡ [] = subst (λ id. reply_of c (with_id cmd id) ≡ []) (sym is.id) refl in
    let boot : boot_of cmd ≡ None = subst (λ id. boot_of (with_id cmd id) ≡ None) (sym is.id) refl in
    ap (λ status. served_by_status status c cmd []) (erase-status (length c.flash) c.otp t cmd s k is)
    ∙ same_served _ _ _ _ steps reply boot

module _ (n : ℕ) (otp : List ℕ) (t : Option Table) (cmd : Cmd) (p : ℕ) (payload : List ℕ)
    (is : IsWrite n t p payload cmd) where
  write-offset : offset cmd ≡ 256 * p
  write-offset = let at = is.address in omega (arith, at)

  write-allowed : range_allowed t BootWrite (offset cmd) (size cmd) ≡ true
  write-allowed =
      ap₂ (range_allowed t BootWrite) write-offset is.size
      ∙ range-from_bytes t BootWrite (256 * p) (length payload) is.allowed

  write-status : status_of n otp t false cmd payload ≡ 0
  write-status =
      let at = is.address in
      let long = is.size in
      let inside = is.inside in
      let page : address cmd % 256 ≡ 0 = omega (arith, at) in
      let low : flash_base ≤ address cmd = omega (arith, at) in
      let high : address cmd + size cmd ≤ flash_base + n = omega (arith, at, long, inside) in
      let all = write_checks n t false cmd payload in
      at-write n otp t false cmd payload is.id
      ∙ passing COMMAND_LENGTH _ (drop 2 all) (eq-eqb _ _ is.arg_size)
      (passing TRANSFER_LENGTH _ (drop 3 all)
      (both_true _ _ (eq-eqb _ _ (is.transfer ∙ sym is.size)) (eq-eqb _ _ (sym is.transfer)))
      (passing ALIGNMENT _ (drop 4 all) (eq-eqb _ _ page)
      (passing ADDRESS _ (drop 5 all) (in_flash cmd n low high)
      (passing NOT_PERMITTED _ [] write-allowed refl))))

pub write-done : (c : Content) (t : Option Table) (cmd : Cmd) (p : ℕ) (payload : List ℕ)
    → IsWrite (length c.flash) t p payload cmd
    → served_on c t false cmd payload ≡ record { status = 0; steps = programs p payload; reply = []; boot = None }
write-done c t cmd p payload is =
    let first = ap (λ at. at / 256) (write-offset (length c.flash) c.otp t cmd p payload is) in
    let steps : command_steps cmd payload ≡ programs p payload =
    subst (λ id. command_steps (with_id cmd id) payload ≡ programs (offset cmd / 256) payload) (sym is.id) refl
    ∙ ap (λ page. programs page payload) (first ∙ omega arith) in
    let reply : reply_of c cmd ≡ [] = subst (λ id. reply_of c (with_id cmd id) ≡ []) (sym is.id) refl in
    let boot : boot_of cmd ≡ None = subst (λ id. boot_of (with_id cmd id) ≡ None) (sym is.id) refl in
    ap (λ status. served_by_status status c cmd payload) (write-status (length c.flash) c.otp t cmd p payload is)
    ∙ same_served _ _ _ _ steps reply boot
