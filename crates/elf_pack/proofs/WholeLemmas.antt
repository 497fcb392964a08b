-- The sealed image of a file starts, and gives the bytes of the file's segments.
use Rattle.std.proofs.Common.{◌≡◌, ◌⊎◌, ℕ, zero, suc, ◌+◌, ◌-◌, ◌^◌, ◌<◌, ◌≤◌, Bool, true, false, if◌then◌else◌, pos, List, [], ◌∷◌, ◌++◌, ◌&&◌, nat_le, nat_lt, length, filter, map, get_or, replicate, refl, sym, ap, subst, ◌∙◌, inl, inr, arith, length-append, Some, Result, Ok, slice_get}
use Rattle.std.specs.Prelude.{slice_range, OnOk, Err}
use Rattle.std.specs.List.{AllByRecursion}
use Rattle.std.proofs.lemmas.Bool.{cases_lt}
use Rattle.std.proofs.lemmas.List.{get_or-append-add, get_or_past}
use Rattle.std.proofs.lemmas.List.Edits.{get_or-between, length-between}
use Rattle.byteorder.specs.Numbers.{little_from-lt}
use Rattle.pico_board.specs.Content.{flash_base}
use Rattle.block_codec.specs.Blocks.{BlockAt, BlockView, block_size, frame}
use Rattle.block_codec.specs.Erased.{AreErased}
use Rattle.block_codec.specs.Words.{bytes_of}
use Rattle.block_codec.proofs.AtLemmas.{BlockAt-append}
use Rattle.image_def.specs.Definition.{def_of}
use Rattle.load_map.specs.declared.addresses.TheConstants.{SRAM_START}
use Rattle.load_map.specs.declared.load.Load.{Load}
use Rattle.load_map.specs.Addresses.{in_sram}
use Rattle.load_map.specs.Given.{byte_at, load_has_address as load_holds}
use Rattle.load_map.proofs.GivenLaws.{byte-stored, byte-window}
use Rattle.image_check.specs.Addressing.{in_flash}
use Rattle.image_check.specs.Changes.{moved_to}
use Rattle.image_check.specs.Rules.{map_loads}
use Rattle.image_check.specs.Valid.{IsSound, IsValidImage}
use Rattle.image_check.proofs.LongerLemmas.{longer-valid}
use Rattle.image_check.proofs.RollbackLemmas.{valid-elsewhere}
use Rattle.image_pack.specs.declared.spec.SealSpec.{SealSpec}
use Rattle.image_pack.specs.Faults.{IsSealed, whole_window, zero_otp}
use Rattle.image_pack.specs.Filling.{padded, round_up, whole_sectors}
use Rattle.image_pack.specs.ReadBack.{IsHalves}
use Rattle.image_pack.specs.Sealing.{link_offset_of, own_load, sealed_text}
use Rattle.image_pack.specs.Unsealable.{KeepsRules}
use Rattle.image_pack.proofs.ReadBackLemmas.{binary_keeps, entry, image, kept, link_at-is, loads, loads-are, loads-there, long_kept, meets-exactly, small, sound}
use Rattle.image_pack.proofs.SealedPartLemmas.{map_offset_of, own}
use Rattle.image_pack.proofs.WithinLemmas.{length-whole_sectors}
use Rattle.elf_pack.specs.declared.fault.ElfFault.{ElfFault}
use Rattle.elf_pack.specs.declared.segment.Segment.{Segment}
use Rattle.elf_pack.specs.Binaries.{are_in_flash, elf_binary, flash_binary, loads_from, sram_binary, sram_items, first_storage}
use Rattle.elf_pack.specs.Faults.{HasBinary, HasAddress, IsInFlash, IsInSram}
use Rattle.elf_pack.specs.Fields.{entry_address, word_at}
use Rattle.elf_pack.specs.Segments.{byte_of, segments}
use Rattle.elf_pack.specs.Whole.{IsElfWhole, IsOfLink, image_sectors}
use Rattle.elf_pack.proofs.BlockLemmas.{block-loads, last-of-one, loop-one}
use Rattle.elf_pack.proofs.ListLemmas.{all-at}
use Rattle.elf_pack.proofs.OwnLemmas.{load-from, own-kept}
use Rattle.elf_pack.proofs.PlacingLemmas.{length-flash}
use Rattle.elf_pack.proofs.SealedLemmas.{kept-at, long_text, long_window, long_words}
use Rattle.elf_pack.proofs.StoredLemmas.{all-readable, all_stored, block, block-stands, padded_long, where-stored}
use Rattle.elf_pack.proofs.StoringLemmas.{items_few}
use Rattle.elf_pack.proofs.TogetherLemmas.{all-in-flash, all-in-sram, all-inside, ends-below, flash-byte, no_later}

module _ (elf : List ℕ) (spec : SealSpec) (has : HasBinary spec.cpu elf)
    (sealed : IsSealed (elf_binary spec.cpu elf) spec) where
  abbrev xs : List Segment
  xs = segments elf

  abbrev binary : List ℕ
  binary = elf_binary spec.cpu elf

  -- the offset of the link that is rewritten
  abbrev link_offset : ℕ
  link_offset = sealed.short.sealable.parts.link_at

  -- in flash
  module _ (flash : are_in_flash xs ≡ true) (f : List ℕ) where
    flash-binary-is : binary ≡ flash_binary elf xs
    unfolding elf_binary
    flash-binary-is = ap (λ t. if t then flash_binary elf xs else sram_binary spec.cpu elf xs) flash

    pub flash-gives : (ls : List Load) (i : ℕ) (s : Segment) (a : ℕ) → slice_get xs i ≡ Some s → HasAddress a s
        → (IsOfLink link_offset a → ⊥) → byte_at flash_base (image_sectors elf spec ++ f) ls a ≡ Some (byte_of elf a s)
    flash-gives ls i s a at here unlinked =
        let inside = all-at IsInFlash xs i s at (all-in-flash xs has.all.together flash) in
        let low : flash_base ≤ a = omega (arith, inside.0, here.0) in
        let below = ends-below xs i s at in
        let size = ap length flash-binary-is ∙ length-flash elf xs _ in
        let lt : a - flash_base < length binary = omega (arith, size, low, here.1, below) in
        let out : (a - flash_base < link_offset) ⊎ (link_offset + 4 ≤ a - flash_base) =
        elim (cases_lt (a - flash_base) link_offset) [
          | inl lt ↦ inl lt
          | inr le ↦ elim (cases_lt (a - flash_base) (link_offset + 4)) [
            | inl within ↦ absurd (unlinked (omega (arith, le, low), omega (arith, within, low)))
            | inr above ↦ inr above
          ]
        ] in
        byte-window flash_base (image_sectors elf spec ++ f) ls a low
        (omega (
          arith,
          lt,
          long_words binary spec sealed f,
          long_text binary spec sealed f,
          long_window binary spec sealed f,
        ))
        ∙ ap (λ x. Some x) (kept-at binary spec sealed f (a - flash_base) lt out
        ∙ ap (λ ys. get_or ys (a - flash_base) 0) flash-binary-is
        ∙ flash-byte elf xs has.apart i s a at low here)

  -- in SRAM
  module _ (sram : are_in_flash xs ≡ false) (word : entry_address elf < 2 ^ 32) (halves : IsHalves spec.version) where
    abbrev few : length xs ≤ 29
    few = has.all.few

    in-sram : AllByRecursion IsInSram xs
    in-sram = all-in-sram (length elf) xs has.all.laid.placed has.all.together sram

    inside : AllByRecursion (λ (s : Segment). s.offset + s.size ≤ length elf) xs
    inside = all-inside (length elf) xs has.all.laid.placed

    abbrev front : List ℕ
    front = padded first_storage (bytes_of (frame (sram_items spec.cpu (entry_address elf) xs) (pos 0)))

    sram-binary-is : binary ≡ front ++ all_stored elf xs
    unfolding elf_binary
    sram-binary-is = ap (λ t. if t then flash_binary elf xs else sram_binary spec.cpu elf xs) sram

    long-binary : length binary ≡ 640 + length (all_stored elf xs)
    long-binary =
        let all = ap length sram-binary-is in
        let sum = length-append front (all_stored elf xs) in
        omega (arith, all, sum, padded_long spec.cpu (entry_address elf) xs few)

    abbrev sectors : List ℕ
    sectors = whole_sectors binary

    abbrev b : BlockView
    b = block spec.cpu (entry_address elf) xs few

    stands : BlockAt sectors 0 b
    stands =
        let bytes = bytes_of (frame (sram_items spec.cpu (entry_address elf) xs) (pos 0)) in
        BlockAt-append binary (replicate (round_up 4096 (length binary) - length binary) 255) 0 b
        (subst (λ ys. BlockAt ys 0 b) (sym sram-binary-is)
        (BlockAt-append front (all_stored elf xs) 0 b
        (block-stands spec.cpu (entry_address elf) xs few in-sram word (replicate (first_storage - length bytes) 255))))

    abbrev keeps : KeepsRules spec.cpu sectors
    keeps = binary_keeps binary spec sealed

    loop-is : keeps.loop ≡ b ∷ []
    loop-is = loop-one sectors b refl refl stands keeps.loop keeps.defined.closes

    block-is : keeps.image.block ≡ b
    block-is =
        last-of-one keeps.defined.defines.before keeps.defined.defines.behind b keeps.image.block
        (sym loop-is ∙ keeps.defined.defines.whole)

    long-sectors : length binary ≤ length sectors
    long-sectors =
        let sum = length-append binary (replicate (round_up 4096 (length binary) - length binary) 255) in
        omega (arith, sum)

    kept-loads : keeps.loads ≡ loads_from first_storage xs
    kept-loads =
        let most = length-whole_sectors binary (small binary spec sealed) in
        block-loads spec.cpu (entry_address elf) xs few keeps.image.def
        (subst (λ x. def_of x ≡ Ok keeps.image.def) block-is keeps.defined.items) (length sectors) keeps.loads
        (all-readable elf xs first_storage 20 (length sectors) inside (inl (omega arith))
        (omega (arith, long-sectors, long-binary)) (omega (arith, most)))
        (subst (λ x. map_loads in_flash (length sectors) x keeps.image.def ≡ Ok keeps.loads) block-is keeps.map)

    part-loads : loads binary spec sealed ≡ loads_from first_storage xs
    part-loads = loads-are binary spec sealed ∙ kept-loads

    -- the link lies in the block
    link-low : link_offset + 4 ≤ 640
    link-low =
        let is : link_offset ≡ 0 + (block_size b - 8) =
        link_at-is binary spec sealed
        ∙ ap (λ (loop : List BlockView). link_offset_of (slice_get loop (length loop - 1))) loop-is in
        omega (arith, is, items_few spec.cpu (entry_address elf) xs few, few)

    -- the loads of the sealed image
    abbrev mo : ℕ
    mo = map_offset_of spec (kept binary spec sealed) (entry binary spec sealed) (loads binary spec sealed)

    abbrev first : Load
    first = record { storage = Some 0; runtime = flash_base; size = length (kept binary spec sealed) }

    behind-all : first_storage + length (all_stored elf xs) < mo
    behind-all =
        let words = long_words binary spec sealed [] in
        omega (arith, long-binary, words, long_kept binary spec sealed)

    own-is : own spec (kept binary spec sealed) (entry binary spec sealed) (loads binary spec sealed)
        ≡ first ∷ loads_from first_storage xs
    own-is =
        ap (λ ls. first ∷ ls)
        (ap (λ ls. map (own_load mo) (filter (λ (load : Load). in_sram load.runtime load.size) ls)) part-loads
        ∙ own-kept elf xs first_storage mo inside in-sram behind-all)

    module _ (f : List ℕ) (erased : AreErased f)
        (below : flash_base + length (image_sectors elf spec ++ f) ≤ SRAM_START) where
      abbrev bytes : List ℕ
      bytes = image_sectors elf spec ++ f

      abbrev the_sound : IsSound in_flash spec.cpu bytes (image binary spec sealed halves) sealed.boots.entry
      the_sound = sound binary spec sealed halves f erased below

      window-loads : the_sound.loads ≡ first ∷ loads_from first_storage xs
      window-loads = loads-there binary spec sealed halves f erased below ∙ own-is

      pub sram-gives : (i : ℕ) (s : Segment) (a : ℕ) → slice_get xs i ≡ Some s → HasAddress a s
          → byte_at flash_base bytes the_sound.loads a ≡ Some (byte_of elf a s)
      sram-gives i s a at here =
          let own_sram = all-at IsInSram xs i s at in-sram in
          let stored = where-stored elf xs first_storage i s inside at in
          let k : ℕ = a - s.address in
          let lt : k < s.size = omega (arith, here.0, here.1) in
          let load_there : slice_get the_sound.loads (suc i)
          ≡ Some (record { storage = Some stored.x; runtime = s.address; size = s.size }) =
          ap (λ ls. slice_get ls (suc i)) window-loads ∙ stored.load in
          let within : stored.x + k < length binary = omega (arith, lt, stored.room, long-binary) in
          byte-stored flash_base bytes the_sound.loads a (suc i) stored.x
          (record { storage = Some stored.x; runtime = s.address; size = s.size })
          (inr (omega (arith, below, own_sram.0, here.0))) (omega (arith, own_sram.0, here.0))
          (omega (arith, own_sram.1, here.1)) load_there here.0 here.1
          (λ j later more there. later-not j later more
          (sym (ap (λ ls. slice_get ls j) window-loads) ∙ there)) refl
          ∙ ap (λ x. Some x)
          (kept-at binary spec sealed f (stored.x + k) within (inr (link-below stored.x k stored.behind))
          ∙ ap (λ ys. get_or ys (stored.x + k) 0) sram-binary-is
          ∙ (let place : stored.x + k ≡ length front + (stored.x - first_storage + k) =
          omega (arith, stored.behind, padded_long spec.cpu (entry_address elf) xs few) in
          ap (λ n. get_or (front ++ all_stored elf xs) n 0) place)
          ∙ get_or-append-add front (all_stored elf xs) (stored.x - first_storage + k) 0 ∙ stored.gives k lt)
        where
          later-not : (j : ℕ) (later : Load) → suc i < j
              → slice_get (first ∷ loads_from first_storage xs) j ≡ Some later
              → load_holds a later ≡ false
          later-not zero later more there = absurd (omega (arith, more))
          later-not (suc j) later more there =
              let t = load-from xs first_storage j later there in
              ap (λ n. (nat_le n a && nat_lt a (n + later.size))) t.2
              ∙ ap (λ m. (nat_le t.0.address a && nat_lt a (t.0.address + m))) t.3
              ∙ no_later xs has.apart i s a at here j t.0 (omega (arith, more)) t.1

          link-below : (x k : ℕ) → first_storage ≤ x → link_offset + 4 ≤ x + k
          link-below x k le = let low = link-low in omega (arith, le, low)

  module _ (word : entry_address elf < 2 ^ 32) (halves : IsHalves spec.version) where
    abbrev sound_of : (f : List ℕ) → AreErased f → flash_base + length (image_sectors elf spec ++ f) ≤ SRAM_START
        → IsSound in_flash spec.cpu (image_sectors elf spec ++ f) (image binary spec sealed halves) sealed.boots.entry
    sound_of f erased below = sound binary spec sealed halves f erased below

    gives-by : (flash : Bool) → are_in_flash xs ≡ flash → (f : List ℕ) (erased : AreErased f)
        (below : flash_base + length (image_sectors elf spec ++ f) ≤ SRAM_START) (i : ℕ) (s : Segment) (a : ℕ)
        → slice_get xs i ≡ Some s → HasAddress a s → (IsOfLink link_offset a → ⊥)
        → byte_at flash_base (image_sectors elf spec ++ f) (sound_of f erased below).loads a ≡ Some (byte_of elf a s)
    gives-by true is f erased below i s a at here unlinked =
        flash-gives is f (sound_of f erased below).loads i s a at here unlinked
    gives-by false is f erased below i s a at here unlinked =
        sram-gives is word halves f erased below i s a at here

    pub whole-image : IsElfWhole elf spec
    whole-image = record {
      sealed = sealed;
      starts = λ c w f erased is below meets.
          let text = sealed_text binary spec in
          let not_below = (meets-exactly binary spec sealed halves c.otp).1 meets in
          let here = valid-elsewhere in_flash (whole_window text) spec.cpu true zero_otp c.otp (whole_sectors text)
          sealed.started sealed.boots not_below in
          subst (λ ys. IsValidImage in_flash w spec.cpu true c.otp ys (moved_to w sealed.started)) (sym is)
          (longer-valid in_flash spec.cpu (whole_sectors text) f erased below (whole_window text) w true c.otp
          sealed.started here);
      bytes = λ f erased below.
          let whole = sound_of f erased below in record {
            loop = whole.loop;
            image = image binary spec sealed halves;
            loads = whole.loads;
            defined = whole.defined;
            map = whole.map;
            gives = λ i s a at here unlinked.
                gives-by (are_in_flash xs) refl f erased below i s a at here unlinked;
          };
    }

-- the entry is a word where the file has bytes
entry-fits : (elf : List ℕ) → 52 ≤ length elf → ((k : ℕ) → get_or elf k 0 < 256) → entry_address elf < 2 ^ 32
unfolding word_at
entry-fits elf long bytes = little_from-lt 0 4 (slice_range elf 24 28) each
  where
    four : length (slice_range elf 24 28) ≡ 4
    four = length-between elf 24 28 (omega (arith, long))

    each : (k : ℕ) → get_or (slice_range elf 24 28) k 0 < 256
    each k = elim (cases_lt k 4) [
      | inl lt ↦ subst (λ x. x < 256) (sym (get_or-between elf 24 28 k 0 (omega (arith, lt)))) (bytes (24 + k))
      | inr le ↦ subst (λ x. x < 256)
          (sym (get_or_past (slice_range elf 24 28) k 0 (omega (arith, le, four)))) (omega arith)
    ]

-- of each answer, the sealed image of an ELF file is whole
pub whole-told : {T : Type 0} (elf : List ℕ) (spec : SealSpec) (r : Result T ElfFault)
    → OnOk r (HasBinary spec.cpu elf) → OnOk r (IsSealed (elf_binary spec.cpu elf) spec) → IsHalves spec.version
    → ((k : ℕ) → get_or elf k 0 < 256) → OnOk r (IsElfWhole elf spec)
whole-told elf spec (Ok value) has sealed halves bytes =
    whole-image elf spec has sealed (entry-fits elf has.all.laid.head.begins.long bytes) halves
whole-told elf spec (Err e) has sealed halves bytes = tt
