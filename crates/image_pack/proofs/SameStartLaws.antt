-- A sealed image starts as its binary does, where that is itself a valid image, and gives the same bytes.
use Rattle.std.proofs.Common.{◌≡◌, ◌⊎◌, ℕ, zero, suc, ◌+◌, ◌-◌, ◌<◌, ◌≤◌, Bool, List, [], ◌∷◌, ◌++◌, length, get_or, replicate, refl, sym, ap, subst, ◌∙◌, inl, inr, arith, Option, None, Some, Result, Ok, pos, length-append, slice_index_or}
use Rattle.std.specs.Prelude.{Contains, slice_get}
use Rattle.std.specs.Option.{option_and_then}
use Rattle.std.specs.List.{AllByRecursion}
use Rattle.std.proofs.lemmas.Bool.{cases_lt}
use Rattle.std.proofs.lemmas.List.{get_or_append_left, length-replicate}
use Rattle.std.proofs.lemmas.Option.{none-some, slice_get-get_or}
use Rattle.std.proofs.Math.Seq.{get_or-append_right}
use Rattle.pico_board.specs.declared.boot.Cpu.{Cpu}
use Rattle.pico_board.specs.declared.boot.Cpu.TheVariants.{Arm, Riscv}
use Rattle.pico_board.specs.declared.window.TheConstants.{MOST_FLASH_BYTES}
use Rattle.pico_board.specs.declared.window.Window.{Window}
use Rattle.pico_board.specs.Content.{flash_base}
use Rattle.block_codec.specs.declared.definition.Def.{Def}
use Rattle.block_codec.specs.declared.definition.EntryPoint.{EntryPoint}
use Rattle.block_codec.specs.Blocks.{BlockAt, BlockView, block_size, frame}
use Rattle.block_codec.specs.Erased.{AreErased}
use Rattle.block_codec.specs.Words.{bytes_of}
use Rattle.block_codec.proofs.AtLemmas.{AreErased-replicate, BlockAt-unique}
use Rattle.block_codec.specs.declared.items.Item.{Item}
use Rattle.block_codec.specs.Items.{items_of}
use Rattle.block_loop.proofs.ChainLemmas.{loop_of-loop}
use Rattle.block_loop.proofs.SameLoopLemmas.{IsLoop-from_answer, loop_of-erased}
use Rattle.load_map.proofs.LongerWindowLemmas.{loads_of-longer}
use Rattle.image_def.specs.declared.started.Started.{Started}
use Rattle.load_map.specs.declared.addresses.TheConstants.{SRAM_START}
use Rattle.load_map.specs.declared.load.Load.{Load}
use Rattle.load_map.specs.Given.{byte_at, load_has_address}
use Rattle.load_map.specs.Stored.{AreStoredIn, IsClearOf}
use Rattle.load_map.proofs.GivenLaws.{holds-range}
use Rattle.load_map.proofs.LastLoadLemmas.{last-in}
use Rattle.image_check.specs.declared.entry.Source.{Source}
use Rattle.image_check.specs.declared.why.Why.{Why}
use Rattle.image_check.specs.Addressing.{in_flash}
use Rattle.image_check.specs.Changes.{moved_to}
use Rattle.image_check.specs.Entering.{IsRunnable, IsSource, IsTabled, table_address}
use Rattle.image_check.specs.declared.examining.Defined.{Defined}
use Rattle.image_check.specs.Rules.{item_loads, map_loads}
use Rattle.image_check.specs.Valid.{IsDefined, IsValidImage}
use Rattle.image_check.proofs.MapLemmas.{map-clear, map-stored}
use Rattle.image_pack.specs.declared.parts.Parts.{Parts}
use Rattle.image_pack.specs.declared.spec.SealSpec.{SealSpec}
use Rattle.image_pack.specs.Faults.{IsSealed, block_offset}
use Rattle.image_pack.specs.Filling.{round_up, whole_sectors, whole_words}
use Rattle.image_pack.specs.ReadBack.{IsHalves, IsReadBack, map_place}
use Rattle.image_pack.specs.Sealing.{copied_loads, link_offset_of, load_in_place, offset_of_block, parts_in, parts_taken_over, sealed_text}
use Rattle.image_pack.specs.Starts.{AreRangesApart, IsLoadedFrom, LinkIsOutsideTable, StartsAs, StartsBy, Stays, TableIsStoredIn, start_of}
use Rattle.image_pack.specs.Unsealable.{KeepsRules}
use Rattle.image_pack.proofs.CopiedLoadLemmas.{ArePlaced, map-placed}
use Rattle.image_pack.proofs.KeptTableLemmas.{SameStart, flash-table, kept-high, loaded-table}
use Rattle.image_pack.proofs.ReadBackLemmas.{binary_keeps, is-read-back, items, kept, link, long-sectors, long_kept, offset-least, one-image, one-loads, parts, sectors-more, small, starts-by, text-least, text_is}
use Rattle.image_pack.proofs.SealedBackLemmas.{definition_stands}
use Rattle.image_pack.proofs.TextLaws.{relinked-others}
use Rattle.image_pack.proofs.UnsealableLemmas.{keeps-parts, parts-kept}
use Rattle.image_pack.proofs.WithinLemmas.{IsWithin-parts, length-whole_sectors}

same_parts : (r : Result Parts Why) (p q : Parts) → r ≡ Ok p → r ≡ Ok q → p ≡ q
same_parts r p q one two = cc

-- bytes that are filled with 0xff, up to a and up to more
module _ (xs : List ℕ) where
  filled-at : (n k : ℕ) → length xs ≤ k → k < length xs + n → get_or (xs ++ replicate n 255) k 0 ≡ 255
  filled-at n k from to =
      get_or-append_right xs (replicate n 255) k 0 from
      ∙ AreErased-replicate n (k - length xs)
      (let long = length-replicate {A = ℕ} n 255 in omega (arith, from, to, long))

  filled-same : (n m k : ℕ) → k < length xs + n → k < length xs + m
      → get_or (xs ++ replicate n 255) k 0 ≡ get_or (xs ++ replicate m 255) k 0
  filled-same n m k one two = elim (cases_lt k (length xs)) [
    | inl low ↦
        get_or_append_left xs (replicate n 255) 0 k low ∙ sym (get_or_append_left xs (replicate m 255) 0 k low)
    | inr high ↦ filled-at n k high one ∙ sym (filled-at m k high two)
  ]

starts-equal : (x y : EntryPoint) → x ≡ y → SameStart x y
starts-equal x y same = record {
  pc = ap (λ (e : EntryPoint). e.pc) same;
  sp = ap (λ (e : EntryPoint). e.sp) same;
  limit = ap (λ (e : EntryPoint). e.limit) same;
}

-- where a start comes from, by the same definition
same-source : (cpu : Cpu) (def : Def) (o : Option EntryPoint) (loads more : List Load) (binary sealed : List ℕ)
    (source other : Source) → IsSource flash_base binary cpu def loads o source
    → IsSource flash_base sealed cpu def more o other
    → (o ≡ None → cpu ≡ Arm → IsTabled flash_base binary loads (table_address flash_base def) source
    → IsTabled flash_base sealed more (table_address flash_base def) other → SameStart other.entry source.entry)
    → SameStart other.entry source.entry
same-source cpu def (Some e) loads more binary sealed source other found again table =
    starts-equal other.entry source.entry
    (ap (λ (x : Source). x.entry) again ∙ sym (ap (λ (x : Source). x.entry) found))
same-source Arm def None loads more binary sealed source other found again table = table refl refl found again
same-source Riscv def None loads more binary sealed source other found again table =
    starts-equal other.entry source.entry
    (ap (λ (x : Source). x.entry) again ∙ sym (ap (λ (x : Source). x.entry) found))

-- the bytes of a binary in its sealed image
module _ (binary : List ℕ) (spec : SealSpec) (sealed : IsSealed binary spec) where
  abbrev text : List ℕ
  text = sealed_text binary spec

  abbrev e : ℕ
  e = block_offset binary

  abbrev sectors : List ℕ
  sectors = whole_sectors binary

  few_sectors : length sectors ≤ MOST_FLASH_BYTES
  few_sectors = length-whole_sectors binary (small binary spec sealed)

  long_words : length (whole_words binary) ≡ round_up 4 (length binary)
  long_words =
      let whole = length-append binary (replicate (round_up 4 (length binary) - length binary) 255) in
      let fill = length-replicate {A = ℕ} (round_up 4 (length binary) - length binary) 255 in
      omega (arith, whole, fill)

  inside : e ≤ length sectors
  inside = let long = long-sectors binary in omega (arith, long, long_words)

  filled : (k : ℕ) → e ≤ k → k < length sectors → get_or sectors k 0 ≡ 255
  filled k from to =
      let long = long-sectors binary in
      let least = offset-least binary in
      filled-at binary (round_up 4096 (length binary) - length binary) k (omega (arith, from, least))
      (omega (arith, to, long))

  grown : length sectors ≤ length (whole_sectors text)
  grown =
      let least = text-least binary spec in
      let more =
      sectors-more (length binary) (length text) (let o = offset-least binary in omega (arith, least, o)) in
      omega (arith, more, long-sectors binary, long-sectors text)

  module _ (f : List ℕ) where
    abbrev window : List ℕ
    window = whole_sectors text ++ f

    room : length sectors ≤ length window
    room = let sum = length-append (whole_sectors text) f in omega (arith, sum, grown)

    module _ (p : Parts) (read : parts_in spec.cpu sectors ≡ Ok p) where
      link_is : (parts binary spec sealed).link_at ≡ p.link_at
      link_is =
          ap (λ (q : Parts). q.link_at) (same_parts (parts_in spec.cpu sectors) _ _ sealed.short.sealable.read read)

      kept-at : (k : ℕ) → k < e → AreRangesApart k 1 p.link_at 4 → get_or window k 0 ≡ get_or sectors k 0
      kept-at k lt apart =
          let new : List ℕ = bytes_of (frame (items binary spec sealed) (link binary spec sealed)) in
          let fill : List ℕ = replicate (round_up 4096 (length text) - length text) 255 in
          let least = text-least binary spec in
          let filled_text = length-append text fill in
          let within = IsWithin-parts binary spec.cpu (parts binary spec sealed) (small binary spec sealed)
          sealed.short.sealable.read in
          let long = long-sectors binary in
          get_or_append_left (whole_sectors text) f 0 k (omega (arith, lt, least, filled_text))
          ∙ get_or_append_left text fill 0 k (omega (arith, lt, least))
          ∙ ap (λ xs. get_or xs k 0) (text_is binary spec sealed)
          ∙ get_or_append_left (kept binary spec sealed) new 0 k (omega (arith, lt, long_kept binary spec sealed))
          ∙ relinked-others (whole_words binary) (parts binary spec sealed) within k (side apart)
          ∙ filled-same binary (round_up 4 (length binary) - length binary)
          (round_up 4096 (length binary) - length binary) k (omega (arith, lt, long_words))
          (omega (arith, lt, inside, long))
        where
          side : AreRangesApart k 1 p.link_at 4
              → (k < (parts binary spec sealed).link_at) ⊎ ((parts binary spec sealed).link_at + 4 ≤ k)
          side (inl under) = inl (omega (arith, under, link_is))
          side (inr over) = inr (omega (arith, over, link_is))

      -- a byte that stays, in flash
      pub flash-byte : (k : ℕ) → Stays e p.link_at k → get_or window k 0 ≡ get_or sectors k 0
      flash-byte k stays = kept-at k stays.inside stays.apart

      module _ (own : KeepsRules spec.cpu sectors) (in_space : flash_base + length window ≤ SRAM_START)
          (back : IsReadBack binary spec window) where
        abbrev at : ℕ
        at = map_place back.image

        loads_are : back.loads ≡ load_in_place e ∷ copied_loads at own.loads
        loads_are = back.first ∙ ap (λ ls. load_in_place e ∷ ls) (back.kept own)

        stored : AreStoredIn (length sectors) own.loads
        stored = map-stored in_flash (length sectors) own.image.block own.image.def own.loads own.map

        placed : ArePlaced own.loads
        placed = map-placed (length sectors) own.image.block own.image.def own.loads own.map

        -- a byte that is loaded into SRAM from bytes that stay
        pub sram-byte : (a : ℕ) → SRAM_START ≤ a
            → ((k : ℕ) → IsLoadedFrom own.loads a k → Stays e p.link_at k)
            → byte_at flash_base window back.loads a ≡ byte_at flash_base sectors own.loads a
        sram-byte a high stays =
            ap (λ ls. byte_at flash_base window ls a) loads_are
            ∙ kept-high sectors window own.loads e at p.link_at room few_sectors in_space inside back.behind kept-at
            filled stored placed a high stays

        -- the vector table that the binary has in a window that is erased behind it
        module _ (g : List ℕ) (erased : AreErased g) (few : length (sectors ++ g) ≤ MOST_FLASH_BYTES)
            (enough : length (sectors ++ g) ≤ length window) (loads : List Load) (same : own.loads ≡ loads)
            (lie : AreStoredIn (length (sectors ++ g)) loads) (right : ArePlaced loads) (table : ℕ)
            (source other : Source) (runs : IsRunnable flash_base (length (sectors ++ g)) source)
            (found : IsTabled flash_base (sectors ++ g) loads table source)
            (again : IsTabled flash_base window back.loads table other) where
          abbrev longer : List ℕ
          longer = sectors ++ g

          long : length longer ≡ length sectors + length g
          long = length-append sectors g

          within : e ≤ length longer
          within = omega (arith, inside, long)

          filled-longer : (k : ℕ) → e ≤ k → k < length longer → get_or longer k 0 ≡ 255
          filled-longer k from to = elim (cases_lt k (length sectors)) [
            | inl low ↦ get_or_append_left sectors g 0 k low ∙ filled k from low
            | inr high ↦
                get_or-append_right sectors g k 0 high
                ∙ erased (k - length sectors) (omega (arith, high, to, long))
          ]

          kept-longer : (k : ℕ) → k < e → AreRangesApart k 1 p.link_at 4 → get_or window k 0 ≡ get_or longer k 0
          kept-longer k lt apart =
              kept-at k lt apart ∙ sym (get_or_append_left sectors g 0 k (omega (arith, lt, inside)))

          copied : IsTabled flash_base window (load_in_place e ∷ copied_loads at loads) table other
          copied =
              subst (λ ls. IsTabled flash_base window ls table other)
              (loads_are ∙ ap (λ ls. load_in_place e ∷ copied_loads at ls) same)
              again

          in-flash : table < SRAM_START → LinkIsOutsideTable loads table p.link_at
              → SameStart other.entry source.entry
          in-flash low out =
              flash-table longer window loads e at p.link_at enough few in_space within back.behind kept-longer
              filled-longer lie right table source other found copied runs low out

          in-sram : TableIsStoredIn e loads table → LinkIsOutsideTable loads table p.link_at
              → SameStart other.entry source.entry
          in-sram from out =
              loaded-table longer window loads e at p.link_at enough few in_space within back.behind kept-longer
              filled-longer lie right table source other found copied runs from out

-- a binary that keeps the rules has the same image in a window that is erased behind it
module _ (cpu : Cpu) (bytes g : List ℕ) (erased : AreErased g) (own : KeepsRules cpu bytes) where
  longer-defined : IsDefined cpu (bytes ++ g) own.loop own.image
  longer-defined = record {
    closes =
        IsLoop-from_answer (bytes ++ g) own.loop
        (loop_of-erased bytes g erased ∙ loop_of-loop bytes own.loop own.defined.closes);
    defines = own.defined.defines;
    items = own.defined.items;
  }

  longer-item : (item : Option Item) → item_loads in_flash (length bytes) own.image.block item ≡ Ok own.loads
      → item_loads in_flash (length (bytes ++ g)) own.image.block item ≡ Ok own.loads
  longer-item None is = is
  longer-item (Some item) is =
      let long = length-append bytes g in
      loads_of-longer in_flash.base (length bytes) (length (bytes ++ g)) in_flash.in_place own.image.block item
      own.loads (omega (arith, long)) is

  longer-map : map_loads in_flash (length (bytes ++ g)) own.image.block own.image.def ≡ Ok own.loads
  longer-map = longer-item (option_and_then (slice_get (items_of own.image.block.items)) own.image.def.map_item) own.map

  module _ (w : Window) (trial : Bool) (otp : List ℕ) (s : Started)
      (valid : IsValidImage in_flash w cpu trial otp (bytes ++ g) s) where
    image-same : own.image ≡ valid.image
    image-same =
        one-image cpu (bytes ++ g) own.loop valid.sound.loop own.image valid.image longer-defined valid.sound.defined

    loads-same : own.loads ≡ valid.sound.loads
    loads-same =
        one-loads cpu (bytes ++ g) own.loop valid.sound.loop own.image valid.image own.loads valid.sound.loads
        longer-defined valid.sound.defined longer-map valid.sound.map

module _ (binary : List ℕ) (spec : SealSpec) (sealed : IsSealed binary spec) (halves : IsHalves spec.version)
    (g : List ℕ) (erased : AreErased g) (w : Window) (trial : Bool) (otp : List ℕ) (s : Started)
    (valid : IsValidImage in_flash w spec.cpu trial otp (whole_sectors binary ++ g) s) where
  abbrev bytes : List ℕ
  bytes = whole_sectors binary ++ g

  abbrev new : List ℕ
  new = whole_sectors (sealed_text binary spec)

  abbrev def : Def
  def = valid.image.def

  abbrev table : ℕ
  table = table_address flash_base def

  abbrev own : KeepsRules spec.cpu (whole_sectors binary)
  own = binary_keeps binary spec sealed

  -- the start of the binary's own image
  own-start : SameStart valid.sound.enters.source.entry (start_of s)
  own-start =
      let is = valid.started in
      let entry = valid.sound.enters.is in record {
        pc = sym (ap (λ (t : Started). t.pc) is ∙ ap (λ (x : EntryPoint). x.pc) entry);
        sp = sym (ap (λ (t : Started). t.sp) is ∙ ap (λ (x : EntryPoint). x.sp) entry);
        limit = sym (ap (λ (t : Started). t.limit) is ∙ ap (λ (x : EntryPoint). x.limit) entry);
      }

  -- the start of the sealed image in a window that is erased behind it
  module _ (f : List ℕ) (blank : AreErased f) (in_space : flash_base + length (new ++ f) ≤ SRAM_START) where
    back : IsReadBack binary spec (new ++ f)
    back = is-read-back binary spec sealed halves f blank in_space

    by : (v : Window) → StartsBy spec.cpu def (new ++ f) back.loads (moved_to v sealed.started)
    by v =
        subst (λ (i : Defined). StartsBy spec.cpu i.def (new ++ f) back.loads (moved_to v sealed.started))
        (image-same spec.cpu (whole_sectors binary) g erased own w trial otp s valid)
        (starts-by binary spec sealed halves f blank in_space own back v)

    starts : (v : Window)
        → (def.entry_point ≡ None → spec.cpu ≡ Arm
        → IsTabled flash_base bytes valid.sound.loads table valid.sound.enters.source
        → IsTabled flash_base (new ++ f) back.loads table (by v).source
        → SameStart (by v).source.entry valid.sound.enters.source.entry)
        → StartsAs (start_of s) (moved_to v sealed.started)
    starts v table_same =
        let same =
        same-source spec.cpu def def.entry_point valid.sound.loads back.loads bytes (new ++ f)
        valid.sound.enters.source (by v).source valid.sound.enters.found (by v).said table_same in record {
          pc = (by v).starts.pc ∙ same.pc ∙ own-start.pc;
          sp = (by v).starts.sp ∙ same.sp ∙ own-start.sp;
          limit = (by v).starts.limit ∙ same.limit ∙ own-start.limit;
        }

  nothing : AreErased []
  nothing i lt = absurd (omega (arith, lt))

  small_new : length new ≤ MOST_FLASH_BYTES
  small_new = length-whole_sectors (sealed_text binary spec) sealed.short.image

  alone : flash_base + length (new ++ []) ≤ SRAM_START
  alone = let sum = length-append {A = ℕ} new [] in omega (arith, small_new, sum)

  pub entry-starts : (entry : EntryPoint) → def.entry_point ≡ Some entry → (v : Window)
      → StartsAs (start_of s) (moved_to v sealed.started)
  entry-starts entry has v =
      starts [] nothing alone v (λ none arm found again. absurd (none-some entry (sym none ∙ has)))

  pub riscv-starts : spec.cpu ≡ Riscv → (v : Window) → StartsAs (start_of s) (moved_to v sealed.started)
  riscv-starts is v = starts [] nothing alone v (λ none arm found again. absurd (differ (sym arm ∙ is)))
    where
      differ : Arm ≡ Riscv → ⊥
      differ same = cc

  module _ (few : length (whole_sectors binary ++ g) ≤ MOST_FLASH_BYTES) (p : Parts)
      (read : parts_in spec.cpu (whole_sectors binary) ≡ Ok p) where
    in_space : flash_base + length (new ++ g) ≤ SRAM_START
    in_space =
        let sum = length-append new g in
        let all = length-append (whole_sectors binary) g in
        omega (arith, small_new, sum, all, few)

    enough : length bytes ≤ length (new ++ g)
    enough =
        let sum = length-append new g in
        let all = length-append (whole_sectors binary) g in
        omega (arith, sum, all, grown binary spec sealed)

    lie : AreStoredIn (length bytes) valid.sound.loads
    lie = map-stored in_flash (length bytes) valid.image.block def valid.sound.loads valid.sound.map

    right : ArePlaced valid.sound.loads
    right = map-placed (length bytes) valid.image.block def valid.sound.loads valid.sound.map

    pub flash-starts : table < SRAM_START → LinkIsOutsideTable valid.sound.loads table p.link_at → (v : Window)
        → StartsAs (start_of s) (moved_to v sealed.started)
    flash-starts low out v =
        starts g erased in_space v (λ none arm found again. in-flash binary spec sealed g p read own in_space
        (back g erased in_space) g erased few enough valid.sound.loads
        (loads-same spec.cpu (whole_sectors binary) g erased own w trial otp s valid) lie right table
        valid.sound.enters.source (by g erased in_space v).source valid.sound.enters.runs found again low out)

    pub loaded-starts : TableIsStoredIn (block_offset binary) valid.sound.loads table
        → LinkIsOutsideTable valid.sound.loads table p.link_at → (v : Window)
        → StartsAs (start_of s) (moved_to v sealed.started)
    loaded-starts within out v =
        starts g erased in_space v (λ none arm found again. in-sram binary spec sealed g p read own in_space
        (back g erased in_space) g erased few enough valid.sound.loads
        (loads-same spec.cpu (whole_sectors binary) g erased own w trial otp s valid) lie right table
        valid.sound.enters.source (by g erased in_space v).source valid.sound.enters.runs found again within out)

-- what is true of all elements is so of one
of-all : {X : Type 0} (P : X → Type 0) (xs : List X) (x : X) → AllByRecursion P xs → Contains xs x → P x
of-all P [] x all (k, lt, is) = absurd (omega (arith, lt))
of-all P (y ∷ ys) x all (zero, lt, is) = subst P is all.0
of-all P (y ∷ ys) x all (suc k, lt, is) = of-all P ys x all.1 (k, omega (arith, lt), is)

-- where the definition is the last block of the loop, the table keeps off its link
module _ (binary g : List ℕ) (erased : AreErased g) (w : Window) (trial : Bool) (otp : List ℕ) (s : Started)
    (valid : IsValidImage in_flash w Arm trial otp (whole_sectors binary ++ g) s)
    (none : valid.image.def.entry_point ≡ None) (p : Parts) (read : parts_in Arm (whole_sectors binary) ≡ Ok p)
    (last_is : p.last ≡ valid.image.block.at) where
  abbrev b : BlockView
  b = valid.image.block

  abbrev source : Source
  source = valid.sound.enters.source

  mine : KeepsRules Arm (whole_sectors binary)
  mine = parts-kept Arm (whole_sectors binary) p read

  own_parts : p ≡ parts_taken_over mine.loop mine.image.block mine.loads
  own_parts =
      same_parts (parts_in Arm (whole_sectors binary)) _ _ read (keeps-parts Arm (whole_sectors binary) mine)

  same_block : mine.image.block ≡ b
  same_block =
      ap (λ (i : Defined). i.block) (image-same Arm (whole_sectors binary) g erased mine w trial otp s valid)

  link_there : p.link_at ≡ b.at + (block_size b - 8)
  link_there =
      let chain = mine.defined.closes.chain in
      let no_block : BlockView = record { at = 0; items = []; link = pos 0 } in
      let last = length mine.loop - 1 in
      let z = slice_index_or mine.loop last no_block in
      let here = slice_get-get_or mine.loop last no_block (let some = chain.some in omega (arith, some)) in
      let at : z.at ≡ mine.image.block.at =
      sym (ap (λ (q : Parts). q.last) own_parts ∙ ap offset_of_block here) ∙ last_is
      ∙ sym (ap (λ (c : BlockView). c.at) same_block) in
      let stands = definition_stands Arm (whole_sectors binary) mine.loop mine.image mine.defined in
      let same : z ≡ mine.image.block =
      BlockAt-unique (whole_sectors binary) mine.image.block.at z mine.image.block
      (subst (λ x. BlockAt (whole_sectors binary) x z) at (chain.stand last z here)) stands in
      ap (λ (q : Parts). q.link_at) own_parts ∙ ap link_offset_of (here ∙ ap Some (same ∙ same_block))

  tabled : IsTabled flash_base (whole_sectors binary ++ g) valid.sound.loads (table_address flash_base valid.image.def)
      source
  tabled =
      subst (λ o. IsSource flash_base (whole_sectors binary ++ g) Arm valid.image.def valid.sound.loads o source) none
      valid.sound.enters.found

  abbrev table_at : ℕ
  table_at = table_address flash_base valid.image.def

  apart-in-flash : AreRangesApart table_at 8 (flash_base + p.link_at) 4
  apart-in-flash = elim (cases_lt (flash_base + p.link_at) (table_at + 8)) [
    | inr under ↦ inl under
    | inl one ↦ elim (cases_lt table_at (flash_base + p.link_at + 4)) [
      | inr over ↦ inr over
      | inl two ↦ elim (cases_lt table_at (flash_base + p.link_at)) [
        | inl before ↦
            absurd (valid.sound.enters.apart (inl (
              table_at,
              flash_base + p.link_at,
              tabled.from,
              (omega (arith, before), one),
              (omega (arith, link_there), omega (arith, link_there)),
            )))
        | inr behind ↦
            absurd (valid.sound.enters.apart (inl (
              table_at,
              table_at,
              tabled.from,
              (omega arith, omega arith),
              (omega (arith, behind, link_there), omega (arith, two, link_there)),
            )))
      ]
    ]
  ]

  apart-stored : (load : Load) (a start : ℕ) → load.storage ≡ Some start → load.runtime ≤ a
      → a < load.runtime + load.size → IsClearOf b load.storage load.size
      → AreRangesApart (start + (a - load.runtime)) 1 p.link_at 4
  apart-stored load a start is from to clear =
      side (subst (λ o. IsClearOf b o load.size) is clear)
    where
      side : (load.size ≡ 0) ⊎ ((start + load.size ≤ b.at) ⊎ (b.at + block_size b ≤ start))
          → AreRangesApart (start + (a - load.runtime)) 1 p.link_at 4
      side (inl empty) = absurd (omega (arith, empty, from, to))
      side (inr (inl before)) = inl (omega (arith, before, from, to, link_there))
      side (inr (inr behind)) = inr (omega (arith, behind, from, to, link_there))

  apart-loaded : (a offset : ℕ) → IsLoadedFrom valid.sound.loads a offset → AreRangesApart offset 1 p.link_at 4
  apart-loaded a offset from =
      let loads = valid.sound.loads in
      let held = last-in (load_has_address a) loads from.load from.last in
      let range = (holds-range a from.load).0 held.0 in
      let clear = map-clear in_flash (length (whole_sectors binary ++ g)) b valid.image.def loads valid.sound.map in
      subst (λ k. AreRangesApart k 1 p.link_at 4) (sym from.place)
      (apart-stored from.load a from.start from.storage range.0 range.1
      (of-all (λ (l : Load). IsClearOf b l.storage l.size) loads from.load clear held.1))

  pub link-outside : LinkIsOutsideTable valid.sound.loads table_at p.link_at
  link-outside = record { flash = apart-in-flash; loaded = λ i offset lt from. apart-loaded (table_at + i) offset from }
