-- A sealed image in a window, with erased bytes behind it, is read back as its spec asks.
use Rattle.std.proofs.Common.{◌≡◌, ◌≢◌, ◌↔◌, Option, None, [], ℕ, ◌+◌, ◌-◌, ◌<◌, ◌≤◌, List, ◌∷◌, ◌++◌, length, take, drop, replicate, ℤ, refl, sym, ap, subst, ◌∙◌, arith, Some, Result, Ok, length-append, length-drop, append_assoc}
use Rattle.std.specs.Prelude.{IsTrue, IfSome, slice_get, unwrap_or}
use Rattle.std.specs.List.{AllByRecursion, flat_map}
use Rattle.std.specs.Result.{result_ok}
use Rattle.std.proofs.lemmas.List.{drop_at, length-replicate, length-take, take_all}
use Rattle.pico_board.specs.declared.window.TheConstants.{MOST_FLASH_BYTES}
use Rattle.sha2.specs.Sha256.{sha256}
use Rattle.pico_board.specs.declared.window.Window.{Window}
use Rattle.pico_board.specs.declared.boot.Cpu.{Cpu}
use Rattle.pico_board.specs.declared.boot.Cpu.TheVariants.{Arm, Riscv}
use Rattle.pico_board.specs.Content.{flash_base}
use Rattle.block_codec.specs.Blocks.{BlockAt, BlockView, IsBlock, block_size, block_words, frame}
use Rattle.block_codec.specs.declared.definition.Def.{Def}
use Rattle.block_codec.specs.declared.definition.EntryPoint.{EntryPoint}
use Rattle.block_codec.specs.Erased.{AreErased}
use Rattle.block_codec.specs.Items.{AreItems}
use Rattle.block_codec.specs.Words.{bytes_of, word_bytes}
use Rattle.block_codec.proofs.AtLemmas.{BlockAt-append, BlockAt-unique}
use Rattle.block_codec.proofs.FrameLemmas.{length-frame}
use Rattle.block_codec.proofs.WordLemmas.{length-bytes_of, length-word_bytes}
use Rattle.image_def.specs.declared.started.Started.{Started}
use Rattle.image_def.specs.Definition.{def_of}
use Rattle.load_map.specs.declared.addresses.TheConstants.{SRAM_START}
use Rattle.load_map.specs.declared.load.Load.{Load}
use Rattle.load_map.specs.Covered.{covered_digest, covered_load, masked_words}
use Rattle.load_map.specs.Stored.{AreStoredIn}
use Rattle.image_check.specs.declared.examining.Defined.{Defined}
use Rattle.image_check.specs.declared.why.Why.{Why}
use Rattle.arrayvec.specs.ArrayVec.{ArrayVec}
use Rattle.otp_roll.specs.Flags.{rollback_required}
use Rattle.otp_roll.specs.Rows.{count}
use Rattle.image_check.specs.NotBelow.{NotBelow}
use Rattle.image_check.specs.declared.entry.Source.{Source}
use Rattle.image_check.specs.Addressing.{in_flash}
use Rattle.image_check.specs.Entering.{IsSource, IsTabled}
use Rattle.image_check.specs.Image.{defined_in}
use Rattle.image_check.specs.Changes.{moved_to}
use Rattle.image_check.specs.Rules.{map_loads}
use Rattle.image_check.specs.Valid.{IsDefined, IsSound}
use Rattle.image_check.proofs.AnsweredLemmas.{defined-ok}
use Rattle.image_check.proofs.MapLemmas.{map-stored}
use Rattle.image_check.proofs.LongerLemmas.{longer-sound}
use Rattle.image_pack.specs.declared.parts.Parts.{Parts}
use Rattle.image_pack.specs.declared.spec.SealSpec.{SealSpec}
use Rattle.image_pack.specs.Faults.{IsSealed, block_offset}
use Rattle.image_pack.specs.Filling.{round_up, whole_sectors, whole_words}
use Rattle.image_pack.specs.ReadBack.{IsHalves, IsReadBack, MeetsRollback, SaysSpec, covered_of, map_place}
use Rattle.image_pack.specs.Sealing.{block_link, copied_loads, link_offset_of, load_in_place, new_block, parts_in, parts_taken_over, relinked, sealed_from, sealed_items, sealed_text, sram_loads}
use Rattle.image_pack.specs.Starts.{KeepsStart, StartsAs, StartsBy}
use Rattle.image_pack.specs.Unsealable.{KeepsRules}
use Rattle.image_pack.proofs.LoadsBackLemmas.{IsReadable}
use Rattle.image_pack.proofs.OneItemLemmas.{IsCopied}
use Rattle.image_pack.proofs.SealedBackLemmas.{SaysSealed, copied_is, definition_stands, says_sealed}
use Rattle.image_pack.proofs.SealedItemLemmas.{are_whole}
use Rattle.image_pack.proofs.SealedLoadLemmas.{copied-readable, copied-same, copied-stored, map_place-is, sealed-loads}
use Rattle.image_pack.proofs.SealedPartLemmas.{are_parts, are_words, difference_fits, items_joined, map_offset_of, own}
use Rattle.image_pack.proofs.StartLemmas.{Copied, copied_of, keeps}
use Rattle.image_pack.proofs.TextLaws.{relinked-long, relinked-none}
use Rattle.image_pack.proofs.UnsealableLemmas.{keeps-parts, parts-kept}
use Rattle.image_pack.proofs.WithinLemmas.{IsWithin-parts, length-whole_sectors, stored-more}

same_ok : (r : Result Parts Why) (p q : Parts) → r ≡ Ok p → r ≡ Ok q → q ≡ p
same_ok r p q one two = cc

-- what is kept of a binary has at least its length
relinked-least : (bytes : List ℕ) (p : Parts) → length bytes ≤ length (relinked bytes (Some p))
unfolding relinked
relinked-least bytes p =
    let a = length-append (take p.link_at bytes) (word_bytes (length bytes - p.last) ++ drop (p.link_at + 4) bytes) in
    let b = length-append (word_bytes (length bytes - p.last)) (drop (p.link_at + 4) bytes) in
    let d = length-drop (p.link_at + 4) bytes in
    let t = length-take p.link_at bytes in
    let four = length-word_bytes (length bytes - p.last) in
    omega (arith, a, b, d, t, four)

-- a sealed text has at least the bytes before its new block
text-least-from : (spec : SealSpec) (bytes : List ℕ) (parts : Option Parts)
    → length bytes ≤ length (sealed_from spec bytes parts)
text-least-from spec bytes None =
    let sum = length-append (relinked bytes None) (new_block spec (relinked bytes None) None) in
    let same = ap length (relinked-none bytes) in
    omega (arith, sum, same)
text-least-from spec bytes (Some p) =
    let sum = length-append (relinked bytes (Some p)) (new_block spec (relinked bytes (Some p)) (Some p)) in
    let least = relinked-least bytes p in
    omega (arith, sum, least)

pub text-least : (binary : List ℕ) (spec : SealSpec) → block_offset binary ≤ length (sealed_text binary spec)
unfolding sealed_text
text-least binary spec =
    text-least-from spec (whole_words binary) (result_ok (parts_in spec.cpu (whole_sectors binary)))

pub offset-least : (binary : List ℕ) → length binary ≤ block_offset binary
offset-least binary =
    let whole = length-append binary (replicate (round_up 4 (length binary) - length binary) 255) in
    omega (arith, whole)

-- whole sectors, by the number of their bytes
pub long-sectors : (xs : List ℕ) → length (whole_sectors xs) ≡ round_up 4096 (length xs)
long-sectors xs =
    let whole = length-append xs (replicate (round_up 4096 (length xs) - length xs) 255) in
    let fill = length-replicate {A = ℕ} (round_up 4096 (length xs) - length xs) 255 in
    omega (arith, whole, fill)

pub sectors-more : (n m : ℕ) → n ≤ m → round_up 4096 n ≤ round_up 4096 m
sectors-more n m le = omega (arith, le)

-- a window has one definition, with one list of loads
one-ok : {A F : Type 0} (r : Result A F) (x y : A) → r ≡ Ok x → r ≡ Ok y → x ≡ y
one-ok r x y a b = cc

pub one-image : (cpu : Cpu) (bytes : List ℕ) (loop other : List BlockView) (image another : Defined)
    → IsDefined cpu bytes loop image → IsDefined cpu bytes other another → image ≡ another
one-image cpu bytes loop other image another one two =
    one-ok (defined_in cpu bytes) image another (defined-ok cpu bytes loop image one)
    (defined-ok cpu bytes other another two)

pub one-loads : (cpu : Cpu) (bytes : List ℕ) (loop other : List BlockView) (image another : Defined)
    (loads more : List Load) → IsDefined cpu bytes loop image → IsDefined cpu bytes other another
    → map_loads in_flash (length bytes) image.block image.def ≡ Ok loads
    → map_loads in_flash (length bytes) another.block another.def ≡ Ok more → loads ≡ more
one-loads cpu bytes loop other image another loads more one two mapped again =
    one-ok (map_loads in_flash (length bytes) another.block another.def) loads more
    (subst (λ (i : Defined). map_loads in_flash (length bytes) i.block i.def ≡ Ok loads)
    (one-image cpu bytes loop other image another one two) mapped)
    again

-- where a start comes from, by a definition that keeps another's
source-kept : (base : ℕ) (bytes : List ℕ) (cpu : Cpu) (def mine : Def) (loads : List Load) (o : Option EntryPoint)
    (source : Source) → mine.entry_point ≡ o → KeepsStart mine def → IsSource base bytes cpu def loads o source
    → IsSource base bytes cpu mine loads o source
source-kept base bytes cpu def mine loads (Some e) source is keeps found = found
source-kept base bytes Arm def mine loads None source is keeps found =
    subst (λ (v : Option ℕ). IsTabled base bytes loads (unwrap_or v base) source) (keeps.vector is) found
source-kept base bytes Riscv def mine loads None source is keeps found = found

module _ (binary : List ℕ) (spec : SealSpec) (sealed : IsSealed binary spec) where
  abbrev pub parts : Parts
  parts = sealed.short.sealable.parts

  abbrev pub kept : List ℕ
  kept = relinked (whole_words binary) (Some parts)

  abbrev pub entry : List ℕ
  entry = parts.entry.items

  abbrev pub loads : List Load
  loads = parts.loads.items

  abbrev pub items : List ℕ
  items = sealed_items spec kept entry loads

  abbrev pub link : ℤ
  link = block_link (length kept) (Some parts)

  pub text_is : sealed_text binary spec ≡ kept ++ bytes_of (frame items link)
  unfolding sealed_text
  text_is =
      ap (λ (r : Result Parts Why). sealed_from spec (whole_words binary) (result_ok r)) sealed.short.sealable.read

  long_words : length (whole_words binary) ≡ round_up 4 (length binary)
  long_words =
      let whole = length-append binary (replicate (round_up 4 (length binary) - length binary) 255) in
      let fill = length-replicate {A = ℕ} (round_up 4 (length binary) - length binary) 255 in
      omega (arith, whole, fill)

  pub small : length binary ≤ MOST_FLASH_BYTES
  small =
      let all = ap length text_is in
      let sum = length-append kept (bytes_of (frame items link)) in
      let least = relinked-least (whole_words binary) parts in
      omega (arith, all, sum, least, long_words, sealed.short.image)

  pub long_kept : length kept ≡ length (whole_words binary)
  long_kept =
      relinked-long (whole_words binary) parts (IsWithin-parts binary spec.cpu parts small sealed.short.sealable.read)

  -- the loop and the map of the binary, from which the parts are taken
  pub binary_keeps : KeepsRules spec.cpu (whole_sectors binary)
  binary_keeps = parts-kept spec.cpu (whole_sectors binary) parts sealed.short.sealable.read

  parts-are : parts_taken_over binary_keeps.loop binary_keeps.image.block binary_keeps.loads ≡ parts
  parts-are =
      same_ok (parts_in spec.cpu (whole_sectors binary)) parts
      (parts_taken_over binary_keeps.loop binary_keeps.image.block binary_keeps.loads) sealed.short.sealable.read
      (keeps-parts spec.cpu (whole_sectors binary) binary_keeps)

  pub loads-are : loads ≡ binary_keeps.loads
  loads-are = sym (ap (λ (q : Parts). q.loads.items) parts-are)

  pub link_at-is : parts.link_at ≡ link_offset_of (slice_get binary_keeps.loop (length binary_keeps.loop - 1))
  link_at-is = sym (ap (λ (q : Parts). q.link_at) parts-are)

  -- the copied item is one of the binary's definition
  pub copied : IsCopied entry
  copied =
      let bytes = whole_sectors binary in
      let keeps = parts-kept spec.cpu bytes parts sealed.short.sealable.read in
      let made : Parts = parts_taken_over keeps.loop keeps.image.block keeps.loads in
      let same : made ≡ parts =
      same_ok (parts_in spec.cpu bytes) parts made sealed.short.sealable.read (keeps-parts spec.cpu bytes keeps) in
      let stands = definition_stands spec.cpu bytes keeps.loop keeps.image keeps.defined in
      subst (λ (q : Parts). IsCopied q.entry.items) same
      (copied_is keeps.image.block (take (block_size keeps.image.block) (drop keeps.image.block.at bytes))
      stands.stands)

  few : length items ≤ 92
  few =
      let all = ap length text_is in
      let sum = length-append kept (bytes_of (frame items link)) in
      let size = length-bytes_of (frame items link) in
      let long = length-frame items link in
      omega (arith, all, sum, size, long, long_kept, sealed.short.block)

  pub few_words : length items ≤ 156
  few_words = omega (arith, few)

  abbrev pub new_one : BlockView
  new_one = record { at = length (whole_words binary); items = items; link = link }

  -- the new block stands behind the bytes before it
  module _ (halves : IsHalves spec.version) where
    is_block : IsBlock (bytes_of (frame items link)) items link
    is_block =
        let inside = IsWithin-parts binary spec.cpu parts small sealed.short.sealable.read in record {
          spelled = refl;
          whole =
              subst AreItems (sym (items_joined spec kept entry loads))
              (are_whole _ _ _ _ _ _ _ _ _ _
              (are_parts spec kept entry loads sealed.short.sealable.right copied few_words));
          few = few_words;
          words =
              are_words spec kept entry loads sealed.short.sealable.right copied few_words halves inside.stored
              (omega (arith, long_kept, inside.small));
          fits = difference_fits parts.first (length kept) (omega (arith, inside.first, inside.small))
              (omega (arith, long_kept, inside.small));
        }

    stands : BlockAt (sealed_text binary spec) (length (whole_words binary)) new_one
    stands =
        let size = length-bytes_of (frame items link) in
        let long = length-frame items link in
        let behind : drop (length (whole_words binary)) (sealed_text binary spec) ≡ bytes_of (frame items link) =
        ap (drop (length (whole_words binary))) text_is
        ∙ drop_at kept (bytes_of (frame items link)) (length (whole_words binary)) long_kept in
        let whole : take (block_size new_one) (drop (length (whole_words binary)) (sealed_text binary spec))
        ≡ bytes_of (frame items link) =
        ap (take (block_size new_one)) behind
        ∙ take_all (block_size new_one) (bytes_of (frame items link)) (omega (arith, size, long)) in record {
          aligned = omega (arith, long_words);
          placed = refl;
          stands = subst (λ p. IsBlock p items link) (sym whole) is_block;
        }

    abbrev pub image : Defined
    image = sealed.boots.image

    -- the new block is the definition of the sealed image
    place_is : image.block.at ≡ length (whole_words binary)
    place_is = sym (ap (λ (s : Started). s.block) sealed.boots.started) ∙ sealed.block

    pub definition_is : image.block ≡ new_one
    definition_is =
        let sectors = whole_sectors (sealed_text binary spec) in
        BlockAt-unique sectors (length (whole_words binary)) image.block new_one
        (subst (λ x. BlockAt sectors x image.block) place_is
        (definition_stands spec.cpu sectors sealed.boots.sound.loop image sealed.boots.sound.defined))
        (BlockAt-append (sealed_text binary spec) _ (length (whole_words binary)) new_one stands)

    pub read : def_of new_one ≡ Ok image.def
    read = subst (λ b. def_of b ≡ Ok image.def) definition_is sealed.boots.sound.defined.items

    says : SaysSealed spec image.def
    says =
        says_sealed spec kept entry loads (length (whole_words binary)) link sealed.short.sealable.right copied
        few_words halves image.def read

    pub says-record : (w : Window) → SaysSpec spec (moved_to w sealed.started)
    says-record w =
        let is = sealed.boots.started in record {
          version = ap (λ (s : Started). s.version) is ∙ says.version;
          rollback = ap (λ (s : Started). s.rollback) is ∙ says.rollback;
          rows = ap (λ (s : Started). s.rows) is ∙ says.rows;
          trial = ap (λ (s : Started). s.trial) is ∙ says.trial;
        }

    -- the sealed image keeps the start of the binary
    pub keeps-start : (own : KeepsRules spec.cpu (whole_sectors binary)) → KeepsStart own.image.def image.def
    keeps-start own =
        let bytes = whole_sectors binary in
        let made : Parts = parts_taken_over own.loop own.image.block own.loads in
        let same : made ≡ parts =
        same_ok (parts_in spec.cpu bytes) parts made sealed.short.sealable.read (keeps-parts spec.cpu bytes own) in
        let stands = definition_stands spec.cpu bytes own.loop own.image own.defined in
        let p = take (block_size own.image.block) (drop own.image.block.at bytes) in
        keeps spec kept entry loads (length (whole_words binary)) link sealed.short.sealable.right copied few_words
        image.def read own.image.block p stands.stands own.image.def own.defined.items
        (subst (λ (q : Parts). Copied own.image.block p stands.stands own.image.def own.defined.items q.entry.items)
        same (copied_of own.image.block p stands.stands own.image.def own.defined.items))

    -- where the start of the binary is an ENTRY_POINT, the sealed image starts there
    pub starts-as : (own : KeepsRules spec.cpu (whole_sectors binary)) (e : EntryPoint)
        → own.image.def.entry_point ≡ Some e → (w : Window) → StartsAs e (moved_to w sealed.started)
    starts-as own e has w =
        let enters = sealed.boots.sound.enters in
        let said : image.def.entry_point ≡ Some e = (keeps-start own).entry ∙ has in
        let from : enters.source ≡ record { entry = e; table = None } =
        subst (λ o. IsSource in_flash.base (whole_sectors (sealed_text binary spec)) spec.cpu image.def
        sealed.boots.sound.loads o enters.source) said enters.found in
        let entry_is : sealed.boots.entry ≡ e = enters.is ∙ ap (λ (x : Source). x.entry) from in
        let is = sealed.boots.started in record {
          pc = ap (λ (s : Started). s.pc) is ∙ ap (λ (x : EntryPoint). x.pc) entry_is;
          sp = ap (λ (s : Started). s.sp) is ∙ ap (λ (x : EntryPoint). x.sp) entry_is;
          limit = ap (λ (s : Started). s.limit) is ∙ ap (λ (x : EntryPoint). x.limit) entry_is;
        }

    -- the sealed image is not below its rows exactly for the OTPs that meet the spec's rollback rule
    pub meets-exactly : (otp : List ℕ) → NotBelow otp sealed.started ↔ MeetsRollback otp spec
    meets-exactly otp =
        let is = says-record sealed.started.window in
        let asks : Option ℕ → ArrayVec ℕ → Type 0 =
        λ rollback rows. IfSome rollback (λ v. count otp rows.items ≤ v) in
        let lists : ArrayVec ℕ → Type 0 = λ rows. IsTrue (rollback_required otp) → rows.items ≢ [] in (
          λ below. record {
            version =
                subst (λ (o : Option ℕ). asks o spec.rows) is.rollback
                (subst (λ (rows : ArrayVec ℕ). asks sealed.started.rollback rows) is.rows below.version);
            required = subst lists is.rows below.required;
          },
          λ meets. record {
            version =
                subst (λ (o : Option ℕ). asks o sealed.started.rows) (sym is.rollback)
                (subst (λ (rows : ArrayVec ℕ). asks spec.rollback rows) (sym is.rows) meets.version);
            required = subst lists (sym is.rows) meets.required;
          },
        )

    -- in each window the covered bytes begin with all bytes before it
    module _ (f : List ℕ) (erased : AreErased f)
        (below : flash_base + length (whole_sectors (sealed_text binary spec) ++ f) ≤ SRAM_START) where
      abbrev bytes : List ℕ
      bytes = whole_sectors (sealed_text binary spec) ++ f

      pub sound : IsSound in_flash spec.cpu bytes image sealed.boots.entry
      sound = longer-sound in_flash spec.cpu (whole_sectors (sealed_text binary spec)) f erased below image
          sealed.boots.entry sealed.boots.sound

      room : length kept ≤ length bytes
      room =
          let all = ap length text_is in
          let sum = length-append kept (bytes_of (frame items link)) in
          let filled = length-append (sealed_text binary spec)
          (replicate (round_up 4096 (length (sealed_text binary spec)) - length (sealed_text binary spec)) 255) in
          let more = length-append (whole_sectors (sealed_text binary spec)) f in
          omega (arith, all, sum, filled, more)

      abbrev mo : ℕ
      mo = map_offset_of spec kept entry loads

      -- the binary's loads lie in the window
      stored : AreStoredIn (length (whole_sectors binary)) loads
      stored =
          subst (AreStoredIn (length (whole_sectors binary))) (sym loads-are)
          (map-stored in_flash (length (whole_sectors binary)) binary_keeps.image.block binary_keeps.image.def
          binary_keeps.loads binary_keeps.map)

      wider : length (whole_sectors binary) ≤ length bytes
      wider =
          let all = ap length text_is in
          let sum = length-append kept (bytes_of (frame items link)) in
          let more = length-append (whole_sectors (sealed_text binary spec)) f in
          let least : length binary ≤ length (sealed_text binary spec) =
          omega (arith, all, sum, long_kept, long_words) in
          let grown = sectors-more (length binary) (length (sealed_text binary spec)) least in
          omega (arith, more, grown, long-sectors binary, long-sectors (sealed_text binary spec))

      readable : AllByRecursion (IsReadable mo (length bytes)) (own spec kept entry loads)
      readable =
          let near = length-whole_sectors binary small in (
            (λ none. omega (arith, none), omega (arith, room), omega arith),
            copied-readable mo (length bytes) (length (whole_sectors binary)) wider (omega (arith, near)) loads stored,
          )

      pub loads-there : sound.loads ≡ own spec kept entry loads
      loads-there =
          let inside = IsWithin-parts binary spec.cpu parts small sealed.short.sealable.read in
          sealed-loads spec kept entry loads (length (whole_words binary)) link sealed.short.sealable.right copied
          few_words halves image.def read (length bytes) sound.loads readable
          (subst (λ b. map_loads in_flash (length bytes) b image.def ≡ Ok sound.loads) definition_is sound.map)
          (sym long_kept) (omega (arith, long_kept, inside.small))

      -- where the LOAD_MAP item stands
      place-is : map_place image ≡ mo
      place-is =
          ap (λ (b : BlockView). map_place (record { block = b; def = image.def })) definition_is
          ∙ map_place-is spec kept entry loads (length (whole_words binary)) link sealed.short.sealable.right copied
          few_words halves image.def read (sym long_kept)

      kept-loads : (own : KeepsRules spec.cpu (whole_sectors binary))
          → copied_loads mo loads ≡ copied_loads (map_place image) own.loads
      kept-loads own =
          let made : Parts = parts_taken_over own.loop own.image.block own.loads in
          let same : made ≡ parts =
          same_ok (parts_in spec.cpu (whole_sectors binary)) parts made sealed.short.sealable.read
          (keeps-parts spec.cpu (whole_sectors binary) own) in
          ap (copied_loads mo) (sym (ap (λ (q : Parts). q.loads.items) same))
          ∙ ap (λ m. copied_loads m own.loads) (sym place-is)

      abbrev behind : List ℕ
      behind = bytes_of (take image.def.hash_words (masked_words (block_words image.block) image.def.image_word))

      abbrev others : List ℕ
      others = flat_map (covered_load bytes) (copied_loads mo loads)

      before : covered_of bytes image sound.loads ≡ take (block_offset binary) bytes ++ (others ++ behind)
      before =
          let count : 0 + length kept - 0 ≡ length (whole_words binary) = omega (arith, long_kept) in
          ap (λ ls. flat_map (covered_load bytes) ls ++ behind) loads-there
          ∙ ap (λ n. (take n bytes ++ others) ++ behind) count
          ∙ append_assoc (take (length (whole_words binary)) bytes) others behind

      value : image.def.digest ≡ Some (sha256 (covered_of bytes image sound.loads))
      unfolding covered_digest
      value =
          let has : says.value.0 ≡ covered_digest bytes image.block image.def sound.loads =
          subst (λ o. IfSome o (λ d. d ≡ covered_digest bytes image.block image.def sound.loads)) says.value.1
          sound.digest in
          says.value.1 ∙ ap Some has

      pub is-read-back : IsReadBack binary spec bytes
      is-read-back = record {
        loop = sound.loop;
        image = image;
        loads = sound.loads;
        defined = sound.defined;
        place = place_is;
        version = says.version;
        rollback = says.rollback;
        rows = says.rows;
        trial = says.trial;
        start = keeps-start;
        map = sound.map;
        copied = copied_loads mo loads;
        first = loads-there ∙ ap (λ n. load_in_place n ∷ copied_loads mo loads) long_kept;
        behind = subst (λ m. length (whole_words binary) < m) (sym place-is) (omega (arith, long_kept));
        kept = kept-loads;
        rest = others ++ behind;
        before = before;
        digest = value;
      }

      -- the sealed image starts as the binary's definition says
      pub starts-by : (own : KeepsRules spec.cpu (whole_sectors binary)) (back : IsReadBack binary spec bytes)
          (w : Window) → StartsBy spec.cpu own.image.def bytes back.loads (moved_to w sealed.started)
      starts-by own back w =
          let keeps = keeps-start own in
          let enters = sound.enters in
          let is = sealed.boots.started in
          let found = subst (λ o. IsSource in_flash.base bytes spec.cpu image.def sound.loads o enters.source)
          keeps.entry enters.found in
          subst (λ ls. StartsBy spec.cpu own.image.def bytes ls (moved_to w sealed.started))
          (one-loads spec.cpu bytes sound.loop back.loop image back.image sound.loads back.loads sound.defined
          back.defined sound.map back.map)
          (record {
            source = enters.source;
            said =
                source-kept in_flash.base bytes spec.cpu image.def own.image.def sound.loads
                own.image.def.entry_point enters.source refl keeps found;
            starts = record {
              pc = ap (λ (s : Started). s.pc) is ∙ ap (λ (x : EntryPoint). x.pc) enters.is;
              sp = ap (λ (s : Started). s.sp) is ∙ ap (λ (x : EntryPoint). x.sp) enters.is;
              limit = ap (λ (s : Started). s.limit) is ∙ ap (λ (x : EntryPoint). x.limit) enters.is;
            };
          })

-- the loads that are read back, where those of the binary are stored in it
module _ (binary : List ℕ) (spec : SealSpec) (bytes : List ℕ) (back : IsReadBack binary spec bytes)
    (own : KeepsRules spec.cpu (whole_sectors binary)) (stored : AreStoredIn (block_offset binary) own.loads) where
  pub stored-within : AreStoredIn (length (sealed_text binary spec)) back.loads
  stored-within =
      subst (AreStoredIn (length (sealed_text binary spec)))
      (sym (back.first ∙ ap (λ ls. load_in_place (block_offset binary) ∷ ls) (back.kept own))) (
        (let least = text-least binary spec in omega (arith, least)),
        stored-more (block_offset binary) (length (sealed_text binary spec))
            (copied_loads (map_place back.image) own.loads)
            (text-least binary spec) (copied-stored (map_place back.image) (block_offset binary) own.loads stored),
      )

  pub copied-are : back.copied ≡ sram_loads own.loads
  copied-are =
      back.kept own ∙ copied-same (map_place back.image) (block_offset binary) back.behind own.loads stored
