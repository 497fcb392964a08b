-- A sealed image of a binary of at least a sector is firm, where its first sector has no block
-- beside its loop.
use Rattle.std.proofs.Common.{◌≡◌, ℕ, ◌+◌, ◌-◌, ◌%◌, ◌≤◌, true, List, ◌∷◌, ◌++◌, length, drop, refl, sym, ap, ◌∙◌, subst, arith, length-drop, length-take}
use Rattle.std.specs.Prelude.{Contains, IsSome}
use Rattle.pico_board.specs.declared.window.TheConstants.{MOST_FLASH_BYTES}
use Rattle.pico_board.specs.declared.window.Window.{Window}
use Rattle.pico_board.specs.Content.{Content, IsContent, window_bytes}
use Rattle.block_codec.specs.Blocks.{BlockView}
use Rattle.block_codec.specs.Erased.{AreErased}
use Rattle.load_map.specs.declared.load.Load.{Load}
use Rattle.load_map.specs.Stored.{AreStoredIn}
use Rattle.image_check.specs.declared.examining.Defined.{Defined}
use Rattle.image_check.specs.Addressing.{in_flash}
use Rattle.image_check.specs.Changes.{moved_to}
use Rattle.image_check.specs.NotBelow.{NotBelow}
use Rattle.image_check.specs.Valid.{IsValidImage}
use Rattle.image_pack.specs.declared.spec.SealSpec.{SealSpec}
use Rattle.image_pack.specs.Faults.{IsSealed, block_offset}
use Rattle.image_pack.specs.Filling.{whole_sectors}
use Rattle.image_pack.specs.ReadBack.{IsHalves}
use Rattle.image_pack.specs.Sealing.{load_in_place, sealed_text}
use Rattle.image_pack.specs.Unsealable.{KeepsRules}
use Rattle.boot_sweep.specs.Firms.{Firm, HasNoOtherBlock, IsFirm, LoadsFront}
use Rattle.law_plans.specs.Written.{planned}
use Rattle.law_plans.proofs.PlannedLemmas.{low-planned}
use Rattle.law_plans.proofs.PlannedValidLemmas.{planned-block, planned-valid}
use Rattle.law_plans.proofs.SealedLemmas.{IsSealedIn, late-block, sealed-in, sealed-padded, text-long}
use Rattle.law_plans.specs.Lone.{HasLoneLoop}

-- a window has no more bytes than the flash
window-room : (c : Content) (w : Window) → length (window_bytes c w) ≤ length c.flash
window-room c w =
    let most = length-take (w.start + w.len - w.start) (drop w.start c.flash) in
    let rest = length-drop w.start c.flash in
    omega (arith, most, rest)

module _ (binary : List ℕ) (spec : SealSpec) (sealed : IsSealed binary spec) (halves : IsHalves spec.version)
    (long : 4096 ≤ length binary) (lone : HasLoneLoop (sealed_text binary spec)) where
  -- what makes it firm in a window that it is valid in
  firm-in : (w : Window) (otp bytes : List ℕ)
      (v : IsValidImage in_flash w spec.cpu true otp bytes (moved_to w sealed.started)) (others : List Load)
      → IsSome v.image.def.digest → v.sound.loads ≡ load_in_place (block_offset binary) ∷ others
      → HasNoOtherBlock bytes v.sound.loop → IsFirm spec.cpu bytes (moved_to w sealed.started)
  firm-in w otp bytes v others digest front alone = record {
    held = record { image = v.image; entry = v.entry; sound = v.sound; started = v.started };
    late = late-block binary spec sealed long;
    hashed = digest;
    front = subst (LoadsFront sealed.started.block) (sym front) (refl, sym sealed.block);
    alone = alone;
  }

  firm-by : (w : Window) (otp bytes : List ℕ) → IsSealedIn binary spec sealed w otp bytes
      → IsFirm spec.cpu bytes (moved_to w sealed.started)
  firm-by w otp bytes good =
      firm-in w otp bytes good.valid good.others good.digest good.front
      (λ x b low at. lone good.valid.sound.loop good.loop x b low (good.back x b at))

  pub firm-filled : (c : Content) (w : Window) (f : List ℕ) → IsContent c → AreErased f
      → window_bytes c w ≡ whole_sectors (sealed_text binary spec) ++ f → NotBelow c.otp sealed.started
      → Firm c w spec.cpu (moved_to w sealed.started)
  firm-filled c w f right erased is fits =
      let room = window-room c w in
      let most = right.flash_length.most in
      let same = ap length is in
      let good = sealed-in binary spec sealed halves f erased (omega (arith, room, most, same)) w c.otp fits in
      let firm = firm-by w c.otp (whole_sectors (sealed_text binary spec) ++ f) good in record {
        valid = subst (λ bytes. IsValidImage in_flash w spec.cpu true c.otp bytes (moved_to w sealed.started)) (sym is)
            good.valid;
        firm = subst (λ bytes. IsFirm spec.cpu bytes (moved_to w sealed.started)) (sym is) firm;
      }

  -- what makes a sealed image firm in a window that a plan wrote it into
  module _ (w : Window) (old : List ℕ) (whole : w.len % 4096 ≡ 0) (most : w.len ≤ MOST_FLASH_BYTES)
      (room : length (sealed_text binary spec) ≤ w.len) (was : length old ≡ w.len)
      (own : KeepsRules spec.cpu (whole_sectors binary)) (stored : AreStoredIn (block_offset binary) own.loads) where
    abbrev text : List ℕ
    text = sealed_text binary spec

    firm-planned-bytes : (otp : List ℕ) → NotBelow otp sealed.started
        → IsValidImage in_flash w spec.cpu true otp (planned text old) (moved_to w sealed.started)
        × IsFirm spec.cpu (planned text old) (moved_to w sealed.started)
    firm-planned-bytes otp fits =
        let s = moved_to w sealed.started in
        let none = low-planned text old (text-long binary spec sealed long) in
        let good = sealed-padded binary spec sealed halves w otp fits whole most room in
        let k = planned-valid w text old whole most room was none spec.cpu true otp s good.valid
        (good.stored own stored) in (
          k.valid,
          firm-in w otp (planned text old) k.valid good.others
              (subst (λ (i : Defined). IsSome i.def.digest) (sym k.image) good.digest) (k.loads ∙ good.front)
              (λ x b low at. subst (λ (loop : List BlockView). Contains loop b) (sym k.loop)
              (lone good.valid.sound.loop good.loop x b low
              (good.back x b (planned-block w text old whole most room was none x b low at).1))),
        )

    pub firm-planned : (c : Content) → window_bytes c w ≡ planned text old → NotBelow c.otp sealed.started
        → Firm c w spec.cpu (moved_to w sealed.started)
    firm-planned c is fits =
        let both = firm-planned-bytes c.otp fits in record {
          valid = subst (λ bytes. IsValidImage in_flash w spec.cpu true c.otp bytes (moved_to w sealed.started))
              (sym is) both.0;
          firm = subst (λ bytes. IsFirm spec.cpu bytes (moved_to w sealed.started)) (sym is) both.1;
        }
