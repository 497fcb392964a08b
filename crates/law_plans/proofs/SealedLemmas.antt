-- A sealed image in a window that a plan wrote, and what its record and its loads are there.
use Rattle.std.proofs.Common.{◌≡◌, ℕ, ◌+◌, ◌-◌, ◌%◌, ◌<◌, ◌≤◌, Bool, true, List, ◌∷◌, ◌++◌, length, replicate, refl, sym, ap, ◌∙◌, subst, arith, append_assoc}
use Rattle.std.specs.Prelude.{IsSome, Option}
use Rattle.std.proofs.lemmas.List.{replicate-append-replicate}
use Rattle.pico_board.specs.declared.window.TheConstants.{MOST_FLASH_BYTES}
use Rattle.pico_board.specs.declared.window.Window.{Window}
use Rattle.pico_board.specs.Content.{flash_base}
use Rattle.block_codec.specs.Blocks.{BlockAt, BlockView}
use Rattle.block_codec.specs.Erased.{AreErased}
use Rattle.block_codec.proofs.AtLemmas.{AreErased-replicate, BlockAt-erased, BlockAt-room}
use Rattle.block_loop.specs.Loop.{IsLoop}
use Rattle.block_loop.proofs.ChainLemmas.{loop_of-loop}
use Rattle.block_loop.proofs.SameLoopLemmas.{IsLoop-from_answer, loop_of-erased}
use Rattle.image_def.specs.declared.started.Started.{Started}
use Rattle.load_map.specs.declared.addresses.TheConstants.{SRAM_START}
use Rattle.load_map.specs.declared.load.Load.{Load}
use Rattle.load_map.specs.Stored.{AreStoredIn}
use Rattle.image_check.specs.declared.examining.Defined.{Defined}
use Rattle.image_check.specs.Addressing.{in_flash}
use Rattle.image_check.specs.Changes.{moved_to}
use Rattle.image_check.specs.NotBelow.{NotBelow}
use Rattle.image_check.specs.Valid.{IsValidImage}
use Rattle.image_check.proofs.LongerLemmas.{longer-valid}
use Rattle.image_check.proofs.RollbackLemmas.{valid-elsewhere}
use Rattle.image_pack.specs.declared.spec.SealSpec.{SealSpec}
use Rattle.image_pack.specs.Faults.{IsSealed, block_offset, whole_window, zero_otp}
use Rattle.image_pack.specs.Filling.{padded, round_up, whole_sectors}
use Rattle.image_pack.specs.ReadBack.{IsHalves, IsReadBack}
use Rattle.image_pack.specs.Sealing.{load_in_place, sealed_text}
use Rattle.image_pack.specs.Unsealable.{KeepsRules}
use Rattle.image_pack.proofs.ReadBackLemmas.{is-read-back, offset-least, one-image, one-loads, stored-within}
use Rattle.image_pack.proofs.SealedBackLemmas.{definition_stands}
use Rattle.law_plans.specs.Written.{HasNoLowBlockPast, planned}
use Rattle.law_plans.proofs.PlannedLemmas.{length-padded, length-sectors, sectors-least}
use Rattle.law_plans.proofs.PlannedValidLemmas.{planned-valid}

-- bytes filled with 0xff are whole sectors with 0xff behind them
pub filled : (n : ℕ) (xs : List ℕ) → round_up 4096 (length xs) ≤ n
    → padded n xs ≡ whole_sectors xs ++ replicate (n - round_up 4096 (length xs)) 255
filled n xs room =
    let least = sectors-least (length xs) in
    let count : round_up 4096 (length xs) - length xs + (n - round_up 4096 (length xs)) ≡ n - length xs =
    omega (arith, least, room) in
    ap (λ k. xs ++ replicate k 255) (sym count)
    ∙ ap (λ r. xs ++ r)
    (sym (replicate-append-replicate (round_up 4096 (length xs) - length xs) (n - round_up 4096 (length xs)) 255))
    ∙ sym (append_assoc xs (replicate (round_up 4096 (length xs) - length xs) 255)
    (replicate (n - round_up 4096 (length xs)) 255))

module _ (binary : List ℕ) (spec : SealSpec) (sealed : IsSealed binary spec) (f : List ℕ) (erased : AreErased f)
    (below : flash_base + length (whole_sectors (sealed_text binary spec) ++ f) ≤ SRAM_START) where
  abbrev pub text : List ℕ
  text = sealed_text binary spec

  abbrev pub bytes : List ℕ
  bytes = whole_sectors text ++ f

  -- the sealed image is valid with 0xff behind it
  pub filled-valid : (w : Window) (otp : List ℕ) → NotBelow otp sealed.started
      → IsValidImage in_flash w spec.cpu true otp bytes (moved_to w sealed.started)
  filled-valid w otp fits =
      longer-valid in_flash spec.cpu (whole_sectors text) f erased below (whole_window text) w true otp sealed.started
      (valid-elsewhere in_flash (whole_window text) spec.cpu true zero_otp otp (whole_sectors text) sealed.started
      sealed.boots fits)

  -- the loop is that of the whole sectors
  pub filled-loop : (loop : List BlockView) → IsLoop bytes loop → IsLoop (whole_sectors text) loop
  filled-loop loop is =
      IsLoop-from_answer (whole_sectors text) loop
      (sym (loop_of-erased (whole_sectors text) f erased) ∙ loop_of-loop bytes loop is)

  pub filled-block : (x : ℕ) (b : BlockView) → BlockAt bytes x b → BlockAt (whole_sectors text) x b
  filled-block x b at = BlockAt-erased (whole_sectors text) f x b erased at

  module _ (halves : IsHalves spec.version) (w : Window) (trial : Bool) (otp : List ℕ) (s : Started)
      (v : IsValidImage in_flash w spec.cpu trial otp bytes s) where
    pub back : IsReadBack binary spec bytes
    back = is-read-back binary spec sealed halves f erased below

    image-is : v.image ≡ back.image
    image-is = one-image spec.cpu bytes v.sound.loop back.loop v.image back.image v.sound.defined back.defined

    loads-are : v.sound.loads ≡ back.loads
    loads-are =
        one-loads spec.cpu bytes v.sound.loop back.loop v.image back.image v.sound.loads back.loads v.sound.defined
        back.defined v.sound.map back.map

    -- the sealed image has a digest
    pub has-digest : IsSome v.image.def.digest
    has-digest =
        subst (λ (i : Defined). IsSome i.def.digest) (sym image-is)
        (subst (λ (o : Option (List ℕ)). IsSome o) (sym back.digest) refl)

    -- the first load of the sealed image is all before its block
    pub front-load : (others : List Load) × (v.sound.loads ≡ load_in_place (block_offset binary) ∷ others)
    front-load = (back.copied, loads-are ∙ back.first)

    -- the sealed image stores nothing past its end, where its binary's own loads are stored in the binary
    pub stored-inside : (own : KeepsRules spec.cpu (whole_sectors binary)) → AreStoredIn (block_offset binary) own.loads
        → AreStoredIn (length text) v.sound.loads
    stored-inside own stored =
        subst (AreStoredIn (length text)) (sym loads-are) (stored-within binary spec bytes back own stored)

-- the new block stands behind the first sector of a binary of at least a sector
pub late-block : (binary : List ℕ) (spec : SealSpec) (sealed : IsSealed binary spec) → 4096 ≤ length binary
    → 4096 ≤ sealed.started.block
late-block binary spec sealed long =
    let least = offset-least binary in let at = sealed.block in omega (arith, least, at, long)

module _ (binary : List ℕ) (spec : SealSpec) (sealed : IsSealed binary spec) where
  -- the image is longer than a sector, since its definition's block stands behind one
  pub text-long : 4096 ≤ length binary → 4096 < length (sealed_text binary spec)
  text-long long =
      let sectors = whole_sectors (sealed_text binary spec) in
      let image = sealed.boots.image in
      let stands = definition_stands spec.cpu sectors sealed.boots.sound.loop image sealed.boots.sound.defined in
      let room = BlockAt-room sectors image.block.at image.block stands in
      let count = length-sectors (sealed_text binary spec) in
      let late = late-block binary spec sealed long in
      let place = ap (λ (s : Started). s.block) sealed.boots.started in
      omega (arith, room, count, late, place)

  -- what is true of the sealed image in a window that begins with it
  pub record IsSealedIn (w : Window) (otp bytes : List ℕ) : Type 0 where
    pub valid : IsValidImage in_flash w spec.cpu true otp bytes (moved_to w sealed.started)
    pub digest : IsSome valid.image.def.digest
    pub others : List Load
    pub front : valid.sound.loads ≡ load_in_place (block_offset binary) ∷ others
    pub stored : (own : KeepsRules spec.cpu (whole_sectors binary)) → AreStoredIn (block_offset binary) own.loads
        → AreStoredIn (length (sealed_text binary spec)) valid.sound.loads
    pub loop : IsLoop (whole_sectors (sealed_text binary spec)) valid.sound.loop
    pub back : (x : ℕ) (b : BlockView) → BlockAt bytes x b
        → BlockAt (whole_sectors (sealed_text binary spec)) x b

  -- the sealed image in a window with 0xff behind it
  pub sealed-in : IsHalves spec.version → (f : List ℕ) (erased : AreErased f)
      (below : flash_base + length (whole_sectors (sealed_text binary spec) ++ f) ≤ SRAM_START) (w : Window)
      (otp : List ℕ) → NotBelow otp sealed.started
      → IsSealedIn w otp (whole_sectors (sealed_text binary spec) ++ f)
  sealed-in halves f erased below w otp fits =
      let s = moved_to w sealed.started in
      let v = filled-valid binary spec sealed f erased below w otp fits in
      let first = front-load binary spec sealed f erased below halves w true otp s v in
      record {
        valid = v;
        digest = has-digest binary spec sealed f erased below halves w true otp s v;
        others = first.0;
        front = first.1;
        stored = stored-inside binary spec sealed f erased below halves w true otp s v;
        loop = filled-loop binary spec sealed f erased below v.sound.loop v.sound.defined.closes;
        back = filled-block binary spec sealed f erased below;
      }

  -- the sealed image in a window that it is filled to with 0xff
  pub sealed-padded : IsHalves spec.version → (w : Window) (otp : List ℕ) → NotBelow otp sealed.started
      → w.len % 4096 ≡ 0 → w.len ≤ MOST_FLASH_BYTES → length (sealed_text binary spec) ≤ w.len
      → IsSealedIn w otp (padded w.len (sealed_text binary spec))
  sealed-padded halves w otp fits whole most room =
      let text = sealed_text binary spec in
      let reach : round_up 4096 (length text) ≤ w.len = omega (arith, room, whole) in
      let e = filled w.len text reach in
      let long = length-padded w.len text room in
      let same = ap length e in
      subst (IsSealedIn w otp) (sym e)
      (sealed-in halves (replicate (w.len - round_up 4096 (length text)) 255)
      (AreErased-replicate (w.len - round_up 4096 (length text))) (omega (arith, long, same, most)) w otp fits)

  -- whatever record it has there, it stores nothing past its end
  pub sealed-stored : IsHalves spec.version → (w : Window) (trial : Bool) (otp : List ℕ) (s : Started)
      (v : IsValidImage in_flash w spec.cpu trial otp (padded w.len (sealed_text binary spec)) s)
      (own : KeepsRules spec.cpu (whole_sectors binary)) → AreStoredIn (block_offset binary) own.loads
      → w.len % 4096 ≡ 0 → w.len ≤ MOST_FLASH_BYTES → length (sealed_text binary spec) ≤ w.len
      → AreStoredIn (length (sealed_text binary spec)) v.sound.loads
  sealed-stored halves w trial otp s v own stored whole most room =
      let text = sealed_text binary spec in
      let reach : round_up 4096 (length text) ≤ w.len = omega (arith, room, whole) in
      let e = filled w.len text reach in
      let long = length-padded w.len text room in
      let same = ap length e in
      subst (λ (bytes : List ℕ). (x : IsValidImage in_flash w spec.cpu trial otp bytes s)
      → AreStoredIn (length text) x.sound.loads) (sym e)
      (λ x. stored-inside binary spec sealed (replicate (w.len - round_up 4096 (length text)) 255)
      (AreErased-replicate (w.len - round_up 4096 (length text))) (omega (arith, long, same, most)) halves w trial otp
      s x own stored) v

  -- the sealed image is valid where a plan wrote it
  pub sealed-planned : IsHalves spec.version → (w : Window) (otp old : List ℕ) → NotBelow otp sealed.started
      → w.len % 4096 ≡ 0 → w.len ≤ MOST_FLASH_BYTES → length (sealed_text binary spec) ≤ w.len → length old ≡ w.len
      → HasNoLowBlockPast (round_up 4096 (length (sealed_text binary spec))) (planned (sealed_text binary spec) old)
      → (own : KeepsRules spec.cpu (whole_sectors binary)) → AreStoredIn (block_offset binary) own.loads
      → IsValidImage in_flash w spec.cpu true otp (planned (sealed_text binary spec) old) (moved_to w sealed.started)
  sealed-planned halves w otp old fits whole most room was none own stored =
      let good = sealed-padded halves w otp fits whole most room in
      (planned-valid w (sealed_text binary spec) old whole most room was none spec.cpu true otp
      (moved_to w sealed.started) good.valid (good.stored own stored)).valid
