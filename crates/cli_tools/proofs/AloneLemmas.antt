-- A sealed image that is written alone to a flash starts there.
use Rattle.std.proofs.Common.{◌≡◌, ℕ, ◌+◌, ◌-◌, ◌*◌, ◌/◌, ◌%◌, ◌^◌, ◌<◌, ◌≤◌, Bool, true, false, List, [], ◌∷◌, ◌++◌, length, replicate, get_or, Some, None, option_map, refl, sym, ap, ◌∙◌, subst, inr, arith}
use Rattle.std.specs.Prelude.{◌&&◌, if◌then◌else◌, nat_le, MatchBool, slice_get, take}
use Rattle.std.proofs.lemmas.List.{append_assoc, get_or-replicate, replicate-append-replicate, take_all}
use Rattle.pico_board.specs.declared.boot.Cpu.{Cpu}
use Rattle.pico_board.specs.declared.boot.BootKind.TheVariants.{Normal}
use Rattle.pico_board.specs.declared.window.Window.{Window}
use Rattle.pico_board.specs.Content.{Content, flash_base, window_bytes}
use Rattle.block_codec.proofs.AtLemmas.{AreErased-replicate}
use Rattle.load_map.specs.declared.addresses.TheConstants.{SRAM_START}
use Rattle.otp_roll.specs.Flags.{flash_off, slot_size, slot_size_of}
use Rattle.image_check.specs.Changes.{moved_to}
use Rattle.image_check.specs.Addressing.{in_flash}
use Rattle.image_check.specs.NotBelow.{NotBelow}
use Rattle.image_check.specs.Valid.{IsValidImage, Valid}
use Rattle.image_check.proofs.LawLemmas.{not-below, parts-valid, valid-parts}
use Rattle.image_check.proofs.LongerLemmas.{longer-valid}
use Rattle.image_pack.specs.declared.spec.SealSpec.{SealSpec}
use Rattle.image_pack.specs.Faults.{IsSealed, whole_window, zero_otp}
use Rattle.image_pack.specs.Filling.{whole_sectors}
use Rattle.image_pack.specs.ReadBack.{IsHalves}
use Rattle.image_pack.specs.Sealing.{sealed_text}
use Rattle.image_pack.proofs.ReadBackLemmas.{says-record}
use Rattle.slot_choice.specs.declared.unit.SlotUnit.{SlotUnit}
use Rattle.slot_choice.specs.declared.unit.Member.TheVariants.{A}
use Rattle.slot_choice.specs.declared.choice.Choice.{Choice}
use Rattle.slot_choice.specs.Units.{units, whole_flash}
use Rattle.boot_rules.specs.declared.decision.Decision.TheVariants.{Start, Bootsel}
use Rattle.boot_rules.specs.declared.decision.Fall.TheVariants.{FlashOff}
use Rattle.boot_rules.specs.Choosing.{boot_units_in, order_of}
use Rattle.boot_rules.specs.Chosen.{ChosenFrom, IsStart}
use Rattle.boot_rules.specs.Tables.{table_in}
use Rattle.cli_inputs.specs.Forms.{content_of_files, filled_flash, filled_length, otp_of}
use Rattle.cli_inputs.proofs.ContentLemmas.{filled-long}
use Rattle.cli_tools.specs.Elfs.{StartsAlone}

-- an OTP file of no bytes is an OTP of zeros
otp-zero : otp_of [] ≡ zero_otp
unfolding otp_of zero_otp
otp-zero = refl

-- the row of a place in an OTP of zeros
otp-row : (at : ℕ) → at < 4096 → get_or zero_otp at 0 ≡ 0
unfolding zero_otp
otp-row at low = get_or-replicate 4096 at 0 0 low

lt-zero : (i : ℕ) → i < 0 → ⊥
lt-zero i low = omega (arith, low)

none-some : (w : Window) → None ≡ Some w → ⊥
none-some w is = cc

off-not : flash_off zero_otp ≡ false
off-not = let row = otp-row 0x48 (omega arith) in cc

small-slots : (n : ℕ) → slot_size zero_otp n ≡ 4096
small-slots n =
    ap (λ row. slot_size_of (row % 16) n) (otp-row 0x55 (omega arith)) ∙ go (nat_le (2 * (4096 * 2 ^ 0)) n)
  where
    go : (b : Bool) → (if nat_le 0 11 && b then 4096 * 2 ^ 0 else 4096) ≡ 4096
    go true = refl
    go false = refl

-- a flash without a table and with an OTP of zeros is one unit
one-unit : (c : Content) (cpu : Cpu) → c.otp ≡ zero_otp → table_in c ≡ None
    → boot_units_in c cpu ≡ whole_flash (length c.flash) ∷ []
one-unit c cpu zeros none =
    ap (λ o. units (option_map (λ found. found.table) o) (length c.flash) (slot_size c.otp (length c.flash)) cpu) none
    ∙ (ap (λ otp. units None (length c.flash) (slot_size otp (length c.flash)) cpu) zeros
    ∙ ap (λ z. units None (length c.flash) z cpu) (small-slots (length c.flash)))

module _ (binary : List ℕ) (spec : SealSpec) (sealed : IsSealed binary spec) (halves : IsHalves spec.version) where
  abbrev file : List ℕ
  file = sealed_text binary spec

  abbrev c : Content
  c = content_of_files file []

  abbrev window : Window
  window = record { start = 0; len = length c.flash }

  abbrev behind : List ℕ
  behind = replicate (filled_length (length file) - 4096 * ((length file + 4095) / 4096)) 255

  same-flash : c.flash ≡ whole_sectors file ++ behind
  unfolding filled_flash
  same-flash =
      let n = length file in
      let sectors = 4096 * ((n + 4095) / 4096) in
      let both : filled_length n - n ≡ (sectors - n) + (filled_length n - sectors) = omega arith in
      ap (λ k. file ++ replicate k 255) both
      ∙ (ap (λ xs. file ++ xs) (sym (replicate-append-replicate (sectors - n) (filled_length n - sectors) 255))
      ∙ sym (append_assoc file (replicate (sectors - n) 255) behind))

  all-bytes : window_bytes c window ≡ c.flash
  all-bytes =
      let len : 0 + length c.flash - 0 ≡ length c.flash = omega arith in
      ap (λ n. take n c.flash) len ∙ take_all (length c.flash) c.flash (omega arith)

  below : flash_base + length (whole_sectors file ++ behind) ≤ SRAM_START
  below =
      let long = ap (λ (xs : List ℕ). length xs) same-flash in
      let filled-is = filled-long file in
      let few = sealed.short.image in omega (arith, long, filled-is, few)

  meets : NotBelow c.otp sealed.started
  meets =
      subst (λ otp. NotBelow otp sealed.started) (sym otp-zero)
      (not-below in_flash (whole_window file) spec.cpu true zero_otp (whole_sectors file) sealed.started sealed.boots)

  valid : Valid c window spec.cpu true (moved_to window sealed.started)
  valid =
      let here = subst
      (λ otp. IsValidImage in_flash (whole_window file) spec.cpu true otp (whole_sectors file) sealed.started)
      (sym otp-zero) sealed.boots in
      subst (λ ys. IsValidImage in_flash window spec.cpu true c.otp ys (moved_to window sealed.started))
      (sym (all-bytes ∙ same-flash))
      (longer-valid in_flash spec.cpu (whole_sectors file) behind (AreErased-replicate _) below (whole_window file)
      window true c.otp sealed.started here)

  plain : spec.trial ≡ false → Valid c window spec.cpu false (moved_to window sealed.started)
  plain off =
      let parts =
      valid-parts window spec.cpu true c.otp (window_bytes c window) (moved_to window sealed.started) valid in
      let trial : sealed.started.trial ≡ spec.trial = (says-record binary spec sealed halves window).trial in
      parts-valid window spec.cpu false c.otp (window_bytes c window) (moved_to window sealed.started) parts.0 parts.1
      (λ is. let e : false ≡ true = sym off ∙ (sym trial ∙ is) in cc) parts.3

  abbrev choice : Choice
  choice = record { image = moved_to window sealed.started; member = A; other = None; updated = false }

  pub starts-alone : spec.trial ≡ false → table_in c ≡ None → StartsAlone file spec.cpu sealed.started
  starts-alone off none =
      let one = one-unit c spec.cpu otp-zero none in
      let start : (us : List SlotUnit) → us ≡ whole_flash (length c.flash) ∷ []
      → IsStart c spec.cpu (record { units = us; updated = None }) choice = λ us is. record {
        place = 0;
        unit = whole_flash (length c.flash);
        counts = record {
          window = window;
          tried = ap (λ xs. slice_get xs 0) is;
          stands = refl;
          valid = plain off;
        };
        first = λ i u m s low counts. absurd (lt-zero i low);
        best = inr (record {
          no_update = λ t is counts. absurd (none-some counts.window counts.stands);
          better = λ t counts. absurd (none-some counts.window counts.stands);
        });
        other = refl;
        updated = refl;
      } in record {
        choice = choice;
        chosen = subst (λ b. MatchBool b (Start choice ≡ Bootsel FlashOff)
            (ChosenFrom c spec.cpu (order_of Normal (boot_units_in c spec.cpu)) (Start choice)))
            (sym (ap flash_off otp-zero ∙ off-not)) (start (boot_units_in c spec.cpu) one);
        image = refl;
      }
