-- An image that is sound stays sound where its trial bit is cleared: the blocks of its loop, its definition, its loads,
-- its entry and its covered bytes stay.
use Rattle.std.proofs.Common.{◌≡◌, ◌≢◌, ℕ, suc, zero, ◌+◌, ◌-◌, ◌*◌, ◌/◌, ◌%◌, ◌^◌, ◌<◌, ◌≤◌, Bool, true, false, List, [], ◌∷◌, ◌++◌, length, map, drop, take, get_or, Option, Some, None, IfSome, Ok, refl, sym, ap, subst, ◌∙◌, inl, inr, arith}
use Rattle.std.specs.Prelude.{slice_get, slice_index, slice_set, ◌==◌}
use Rattle.std.specs.Option.{option_and_then}
use Rattle.std.proofs.lemmas.Bool.{cases_lt, eqb-true}
use Rattle.std.proofs.lemmas.Bool.Decides.{nat_tests}
use Rattle.std.proofs.lemmas.List.{get_or-drop, get_or-set_other, get_or-set_same, get_or_past, length-set, map-append}
use Rattle.std.proofs.lemmas.List.Elements.{All-contains, All-from_recursion}
use Rattle.std.proofs.lemmas.Option.{none-some, same_Some, slice_get_within}
use Rattle.pico_board.specs.declared.boot.Cpu.{Cpu}
use Rattle.pico_board.specs.declared.boot.Cpu.TheVariants.{Arm, Riscv}
use Rattle.pico_board.specs.declared.window.Window.{Window}
use Rattle.block_codec.specs.declared.definition.Def.{Def}
use Rattle.block_codec.specs.declared.definition.EntryPoint.{EntryPoint}
use Rattle.block_codec.specs.declared.items.Item.{Item}
use Rattle.block_codec.specs.declared.kinds.TheConstants.{IMAGE_TYPE, LOAD_MAP}
use Rattle.block_codec.specs.Blocks.{BlockAt, BlockView, block_size, block_words}
use Rattle.block_codec.specs.HighByte.{ChangesHighByte, changed_block}
use Rattle.block_codec.specs.Items.{items_of}
use Rattle.block_codec.specs.Kinds.{first_spelling, is_of_kind}
use Rattle.block_codec.specs.Words.{word_of}
use Rattle.block_codec.proofs.AtLemmas.{AreBytes-block, BlockAt-room, BlockAt-word, block_byte}
use Rattle.block_codec.proofs.FrameLemmas.{word-item}
use Rattle.block_codec.proofs.SearchLemmas.{find-passes, find-place}
use Rattle.block_loop.specs.Loop.{IsLoop}
use Rattle.block_loop.proofs.SameLoopLemmas.{IsLoop-from_answer, changed_others, loop_of-changed}
use Rattle.image_def.specs.declared.started.Started.{Started}
use Rattle.image_def.specs.Flags.{is_trial}
use Rattle.image_def.specs.Guarantees.{IsDefinition, IsImageItem, IsLoadMapItem}
use Rattle.image_def.specs.Suits.{does_suit}
use Rattle.image_def.specs.Trial.{trial_cleared, untried, untried_answer}
use Rattle.image_def.proofs.GuaranteeLemmas.{definition_from_ok}
use Rattle.image_def.proofs.TrialLemmas.{changed-cleared, definition-cleared, item-cleared, size-cleared, suits-cleared, type_byte-there}
use Rattle.load_map.specs.declared.load.Load.{Load}
use Rattle.load_map.specs.Agree.{AgreeOn, SameButTrial}
use Rattle.load_map.specs.Covered.{covered_digest}
use Rattle.load_map.specs.Given.{in_window}
use Rattle.load_map.specs.Stored.{IsClearOf}
use Rattle.load_map.proofs.AgreementLemmas.{same-digest, same-word}
use Rattle.load_map.proofs.BlockWordLemmas.{SameButTrial-changed, trial-loads_of}
use Rattle.image_check.specs.declared.addressing.Addressing.{Addressing}
use Rattle.image_check.specs.declared.entry.Source.{Source}
use Rattle.image_check.specs.declared.examining.Defined.{Defined}
use Rattle.image_check.specs.Changes.{ClearsTrialBit, bought, place_of, untried_image}
use Rattle.image_check.specs.Entering.{IsEntry, IsRunnable, IsSource, MeetsBlock, table_address}
use Rattle.image_check.specs.Image.{started_of}
use Rattle.image_check.specs.Rules.{item_loads, map_loads}
use Rattle.image_check.specs.Valid.{HasItsDigest, IsDefined, IsLastWith, IsSound, IsValidImage}
use Rattle.image_check.proofs.MapLemmas.{map-clear}
use Rattle.image_check.proofs.RuleLemmas.{suits-type}

-- places of a list that is put together
middle-at : {X : Type 0} (before behind : List X) (x : X) → slice_get (before ++ x ∷ behind) (length before) ≡ Some x
middle-at [] behind x = refl
middle-at (y ∷ before) behind x = middle-at before behind x

before-at : {X : Type 0} (before rest : List X) (i : ℕ) (y : X) → slice_get before i ≡ Some y
    → slice_get (before ++ rest) i ≡ Some y
before-at [] rest i y at = absurd (none-some y at)
before-at (z ∷ before) rest zero y at = at
before-at (z ∷ before) rest (suc i) y at = before-at before rest i y at

behind-at : {X : Type 0} (before behind : List X) (x : X) (i : ℕ) (y : X) → slice_get behind i ≡ Some y
    → slice_get (before ++ x ∷ behind) (suc (length before + i)) ≡ Some y
behind-at [] behind x i y at = let e : 0 + i ≡ i = omega arith in rw e at
behind-at (z ∷ before) behind x i y at =
    let e : suc (length before) + i ≡ suc (length before + i) = omega arith in rw e (behind-at before behind x i y at)

-- a list of which each element is mapped to itself
map-same : {X : Type 0} (g : X → X) (xs : List X) → ((i : ℕ) (x : X) → slice_get xs i ≡ Some x → g x ≡ x)
    → map g xs ≡ xs
map-same g [] same = refl
map-same g (x ∷ xs) same =
    ap (λ y. y ∷ map g xs) (same 0 x refl) ∙ ap (λ ys. x ∷ ys) (map-same g xs (λ i y at. same (suc i) y at))

-- a list of which the one in the middle alone is mapped to another
map-middle : {X : Type 0} (g : X → X) (before behind : List X) (x y : X) → g x ≡ y
    → ((i : ℕ) (z : X) → i ≢ length before → slice_get (before ++ x ∷ behind) i ≡ Some z → g z ≡ z)
    → map g (before ++ x ∷ behind) ≡ before ++ y ∷ behind
map-middle g before behind x y is others =
    map-append g before (x ∷ behind)
    ∙ ap (λ zs. zs ++ map g (x ∷ behind)) (map-same g before (λ i z at.
    let lt = slice_get_within before i z at in
    others i z (λ e. omega (arith, e, lt)) (before-at before (x ∷ behind) i z at)))
    ∙ ap (λ z. before ++ z ∷ map g behind) is
    ∙ ap (λ zs. before ++ y ∷ zs) (map-same g behind (λ i z at.
    others (suc (length before + i)) z (λ e. omega (arith, e)) (behind-at before behind x i z at)))

-- the first four of a list are bytes
abbrev AreFourBytes : List ℕ → Type 0
AreFourBytes xs = (i : ℕ) → i < 4 → get_or xs i 0 < 256

-- a word of which the topmost bit is cleared
word-cleared : (xs ys : List ℕ) → AreFourBytes xs → get_or ys 0 0 ≡ get_or xs 0 0 → get_or ys 1 0 ≡ get_or xs 1 0
    → get_or ys 2 0 ≡ get_or xs 2 0
    → get_or ys 3 0 ≡ get_or xs 3 0 % 2 ^ 7 → word_of ys ≡ word_of xs % 2 ^ 31
unfolding word_of
word-cleared xs ys bytes a b c d =
    let h0 = bytes 0 (omega arith) in
    let h1 = bytes 1 (omega arith) in
    let h2 = bytes 2 (omega arith) in
    let h3 = bytes 3 (omega arith) in
    omega arith

word-first : (xs : List ℕ) → AreFourBytes xs → word_of xs % 256 ≡ get_or xs 0 0
unfolding word_of
word-first xs bytes =
    let h0 = bytes 0 (omega arith) in
    let h1 = bytes 1 (omega arith) in
    let h2 = bytes 2 (omega arith) in
    let h3 = bytes 3 (omega arith) in
    omega arith

-- the trial bit is none of the flags that are left
not-trial : (flags : ℕ) → is_trial (flags % 2 ^ 15) ≡ false
not-trial flags =
    let e : flags % 2 ^ 15 / 32768 % 2 ≡ 0 = omega arith in
    ap (λ n. n == 1) e

-- a block of the same place and size is met where the other one is
meets-same : (base : ℕ) (b c : BlockView) (source : Source) → c.at ≡ b.at → block_size c ≡ block_size b
    → MeetsBlock base c source
    → MeetsBlock base b source
meets-same base b c source at size (inl (table, address, is, one, two)) =
    inl (table, address, is, one, (omega (arith, two.0, at), omega (arith, two.1, at, size)))
meets-same base b c source at size (inr code) = inr (omega (arith, code.0, at), omega (arith, code.1, at, size))

image-kind : (item : Item) → is_of_kind IMAGE_TYPE item ≡ true → first_spelling item.kind ≡ IMAGE_TYPE
image-kind item is = eqb-true (first_spelling item.kind) IMAGE_TYPE is

map-kind : (item : Item) → is_of_kind LOAD_MAP item ≡ true → first_spelling item.kind ≢ IMAGE_TYPE
map-kind item is e = let f = eqb-true (first_spelling item.kind) LOAD_MAP is in absurd (omega (arith, e, f))

-- a place of a storage that is clear of a block is none of the block's
off-block : (b : BlockView) (storage : Option ℕ) (size start i : ℕ) → IsClearOf b storage size → storage ≡ Some start
    → start ≤ i → i < start + size
    → b.at ≤ i → i < b.at + block_size b → ⊥
off-block b None size start i clear is low high from to = none-some start is
off-block b (Some x) size start i clear is low high from to =
    let same : x ≡ start = same_Some x start is in
    elim clear [
      | inl empty ↦ omega (arith, empty, low, high)
      | inr apart ↦ elim apart [
        | inl before ↦ omega (arith, same, before, high, from)
        | inr behind ↦ omega (arith, same, behind, low, to)
      ]
    ]

module _ (a : Addressing) (cpu : Cpu) (w v : List ℕ) (image : Defined) (entry : EntryPoint)
    (s : IsSound a cpu w image entry)
    (change : ClearsTrialBit w v (place_of image)) where
  abbrev b : BlockView
  b = image.block

  abbrev def : Def
  def = image.def

  abbrev k : ℕ
  k = image.def.image_word

  abbrev last : IsLastWith (does_suit cpu) s.loop b
  last = s.defined.defines

  -- the definition stands in the window and has an IMAGE_TYPE item
  in-loop : slice_get s.loop (length last.before) ≡ Some b
  in-loop = ap (λ xs. slice_get xs (length last.before)) last.whole ∙ middle-at last.before last.behind b

  stands : BlockAt w b.at b
  stands = s.defined.closes.chain.stand (length last.before) b in-loop

  sure : IsDefinition b def
  sure = definition_from_ok b def stands.stands.whole (suits-type cpu b last.here) s.defined.items

  item : Item
  item = sure.image.0

  is-item : IsImageItem b def.flags k item
  unfolding item sure
  is-item = sure.image.1

  place : k ≡ item.first
  place = is-item.stands

  in-block : (1 ≤ k) × (k ≤ length b.items)
  in-block = (is-item.above, is-item.inside)

  room : b.at + block_size b ≤ length w
  room = BlockAt-room w b.at b stands

  -- the bytes and the word of the IMAGE_TYPE item's header
  byte-there : (i : ℕ) → i < 4 → slice_index w (place_of image + i) < 256
  byte-there i lt =
      let e : b.at + (4 * k + i) ≡ place_of image + i = omega arith in
      let inside : 4 * k + i < block_size b = omega (arith, in-block.1, lt) in
      subst (λ n. n < 256) (block_byte w b.at (block_size b) (4 * k + i) inside ∙ ap (slice_index w) e)
      (AreBytes-block (take (block_size b) (drop b.at w)) b.items b.link stands.stands (4 * k + i))

  four-there : AreFourBytes (drop (place_of image) w)
  four-there i lt = subst (λ n. n < 256) (sym (get_or-drop (place_of image) w i 0)) (byte-there i lt)

  word-at-item : get_or (block_words b) k 0 ≡ get_or b.items (k - 1) 0
  word-at-item = sym (word-item b.items b.link k (λ z. omega (arith, z, in-block.0)) in-block.1)

  word-there : word_of (drop (place_of image) w) ≡ get_or b.items (k - 1) 0
  word-there = BlockAt-word w b.at b k stands (omega (arith, in-block.1)) ∙ word-at-item

  kind-there : slice_index w (place_of image) ≡ 0x42
  kind-there =
      let type = type_byte-there b stands.stands.whole item is-item.first in
      let first : get_or (drop (place_of image) w) 0 0
      ≡ slice_index w (place_of image + 0) = get_or-drop (place_of image) w 0 0 in
      let e : place_of image + 0 ≡ place_of image = omega arith in
      ap (slice_index w) (sym e) ∙ sym first ∙ sym (word-first (drop (place_of image) w) four-there)
      ∙ ap (λ n. n % 256) word-there
      ∙ ap (λ n. get_or b.items (n - 1) 0 % 256) place ∙ type

  change-high : ChangesHighByte w v (place_of image)
  change-high =
      let aligned = stands.aligned in
      let old = byte-there 3 (omega arith) in
      let cleared = change.cleared in
      record {
        aligned = omega (arith, aligned);
        inside = omega (arith, room, in-block.1);
        long = change.long;
        kind = kind-there;
        old = old;
        new = omega (arith, cleared);
        others = change.others;
      }

  -- the word without its topmost bit, and the block with it
  kept-byte : (i : ℕ) → i < 3 → get_or (drop (place_of image) v) i 0 ≡ get_or (drop (place_of image) w) i 0
  kept-byte i lt =
      get_or-drop (place_of image) v i 0 ∙ change.others (place_of image + i) (λ e. omega (arith, e, lt))
      ∙ sym (get_or-drop (place_of image) w i 0)

  word-now : word_of (drop (place_of image) v) ≡ get_or b.items (k - 1) 0 % 2 ^ 31
  word-now =
      word-cleared (drop (place_of image) w) (drop (place_of image) v) four-there (kept-byte 0 (omega arith))
      (kept-byte 1 (omega arith))
      (kept-byte 2 (omega arith))
      (get_or-drop (place_of image) v 3 0 ∙ change.cleared
      ∙ ap (λ n. n % 2 ^ 7) (sym (get_or-drop (place_of image) w 3 0)))
      ∙ ap (λ n. n % 2 ^ 31) word-there

  cleared : changed_block (place_of image) (word_of (drop (place_of image) v)) b ≡ trial_cleared b
  cleared =
      ap (λ u. changed_block (place_of image) u b) (word-now ∙ ap (λ n. get_or b.items (n - 1) 0 % 2 ^ 31) place)
      ∙ changed-cleared b stands.stands.whole item is-item.first (place_of image) (omega (arith, place))

  low : b.at + 4 ≤ place_of image
  low = omega (arith, in-block.0)

  high : place_of image < b.at + 4 + 4 * length b.items
  high = omega (arith, in-block.1)

  same-block : SameButTrial k b (trial_cleared b)
  same-block =
      let u = word_of (drop (place_of image) v) in
      let e : (place_of image - b.at) / 4 ≡ k = omega arith in
      let bit : u % 2 ^ 31 ≡ get_or (block_words b) ((place_of image - b.at) / 4) 0 % 2 ^ 31 =
      (let twice : u % 2 ^ 31 ≡ get_or b.items (k - 1) 0 % 2 ^ 31 = (let n = word-now in omega (arith, n)) in
      twice ∙ ap (λ n. n % 2 ^ 31) (sym word-at-item) ∙ ap (λ n. get_or (block_words b) n 0 % 2 ^ 31) (sym e)) in
      let aligned : place_of image % 4 ≡ b.at % 4 = omega arith in
      subst (λ n. SameButTrial n b (trial_cleared b)) e
      (subst (λ (c : BlockView). SameButTrial ((place_of image - b.at) / 4) b c) cleared
      (SameButTrial-changed (place_of image) u b aligned low high bit))

  -- the loop, of which the definition alone is changed, and the definition
  loop-now : List BlockView
  loop-now = last.before ++ trial_cleared b ∷ last.behind

  closes-now : IsLoop v loop-now
  unfolding loop-now
  closes-now =
      let g = changed_block (place_of image) (word_of (drop (place_of image) v)) in
      IsLoop-from_answer v loop-now
      (loop_of-changed w v (place_of image) (length last.before) s.loop b change-high s.defined.closes in-loop low high
      ∙ ap (λ xs. Ok (map g xs)) last.whole
      ∙ ap (λ xs. Ok xs) (map-middle g last.before last.behind b (trial_cleared b) cleared
      (λ i z other at. changed_others w v (place_of image)
      (length last.before) s.loop b change-high s.defined.closes in-loop low high i z other
      (ap (λ xs. slice_get xs i) last.whole ∙ at))))

  defined-now : IsDefined cpu v loop-now (untried_image image)
  unfolding loop-now
  defined-now = record {
    closes = closes-now;
    defines = record {
      before = last.before;
      behind = last.behind;
      whole = refl;
      here = suits-cleared b stands.stands.whole item is-item.first cpu ∙ last.here;
      later = last.later;
    };
    items = definition-cleared b stands.stands.whole item is-item.first ∙ ap untried_answer s.defined.items;
  }

  -- the loads
  map-now : map_loads a (length v) (trial_cleared b) (untried def) ≡ Ok s.loads
  map-now = go def.map_item sure.map s.map
    where
      go : (o : Option ℕ) → IfSome o (λ i. (m : Item) × IsLoadMapItem b i m)
          → item_loads a (length w) b (option_and_then (slice_get (items_of b.items)) o) ≡ Ok s.loads
          → item_loads a (length v) (trial_cleared b) (option_and_then (slice_get (items_of (trial_cleared b).items)) o)
          ≡ Ok s.loads
      go None map is = is
      go (Some j) (m, map) is =
          let image_at = find-place (is_of_kind IMAGE_TYPE) (items_of b.items) item is-item.first in
          let kind = image-kind item (find-passes (is_of_kind IMAGE_TYPE) (items_of b.items) item is-item.first) in
          let other : image_at.0 ≢ j = λ e.
          (let one : item ≡ m = same_Some item m (sym image_at.1 ∙ ap (slice_get (items_of b.items)) e ∙ map.at) in
          map-kind m map.kind (ap (λ (x : Item). first_spelling x.kind) (sym one) ∙ kind)) in
          let size = is-item.size in
          ap (item_loads a (length v) (trial_cleared b))
          (item-cleared b stands.stands.whole item is-item.first j m map.at (map-kind m map.kind))
          ∙ ap (λ n. item_loads a n (trial_cleared b) (Some m)) change.long
          ∙ trial-loads_of a.base (length w) a.in_place b
          (trial_cleared b) image_at.0 j item m other image_at.1 map.at map.size
          (omega (arith, size)) (subst (λ n. SameButTrial n b (trial_cleared b)) place same-block)
          ∙ sym (ap (item_loads a (length w) b) map.at) ∙ is

  agree : AgreeOn s.loads w v
  agree = record {
    long = change.long;
    same = λ load i among stored.
        let clear = All-contains (λ (l : Load). IsClearOf b l.storage l.size) s.loads load
        (All-from_recursion (λ (l : Load). IsClearOf b l.storage l.size) s.loads
        (map-clear a (length w) b def s.loads s.map)) among in
        change.others i (λ e. off-block b load.storage load.size stored.0 i clear stored.1 stored.2 stored.3
        (omega (arith, e)) (omega (arith, e, in-block.1)));
  }

  -- the entry
  size-now : block_size (trial_cleared b) ≡ block_size b
  size-now = size-cleared b stands.stands.whole item is-item.first

  source-now : (item : Option EntryPoint) (source : Source) (p : Cpu) → (MeetsBlock a.base b source → ⊥)
      → IsSource a.base w p def s.loads item source → IsSource a.base v p (untried def) s.loads item source
  source-now (Some entry) source p apart is = is
  source-now None source Riscv apart is = is
  source-now None source Arm apart is =
      let table = table_address a.base def in
      record {
        sp = same-word a.base w v s.loads table agree (λ j lt inside. off j inside (omega (arith, lt))) ∙ is.sp;
        pc = same-word a.base w v s.loads (table + 4) agree (λ j lt inside.
            let e : table + 4 + j ≡ table + (4 + j) = omega arith in
            subst (λ n. slice_index v (n - a.base) ≡ slice_index w (n - a.base)) (sym e)
            (off (4 + j) (subst (λ n. in_window a.base (length w) n ≡ true) e inside) (omega (arith, lt)))) ∙ is.pc;
        limit = is.limit;
        from = is.from;
      }
    where
      off : (j : ℕ) → in_window a.base (length w) (table_address a.base def + j) ≡ true → j < 8
          → slice_index v (table_address a.base def + j - a.base)
          ≡ slice_index w (table_address a.base def + j - a.base)
      off j inside lt =
          let from : a.base ≤ table_address a.base def + j = grind (arith, nat_tests) in
          change.others (table_address a.base def + j - a.base) (λ e.
          apart (inl (
            table_address a.base def,
            table_address a.base def + j,
            is.from,
            (omega arith, omega (arith, lt)),
            (omega (arith, e, from), omega (arith, e, from, in-block.1)),
          )))

  runs-now : (source : Source) → IsRunnable a.base (length w) source → IsRunnable a.base (length v) source
  runs-now source runs = subst (λ n. IsRunnable a.base n source) (sym change.long) runs

  pub entry-now : IsEntry a.base v cpu (trial_cleared b) (untried def) s.loads entry
  entry-now = record {
    source = s.enters.source;
    found = source-now def.entry_point s.enters.source cpu s.enters.apart s.enters.found;
    apart =
        λ meets. s.enters.apart (meets-same a.base b (trial_cleared b) s.enters.source same-block.at size-now meets);
    runs = runs-now s.enters.source s.enters.runs;
    is = s.enters.is;
  }

  -- the digest covers the same bytes
  pub digest-same : covered_digest v (trial_cleared b) (untried def) s.loads ≡ covered_digest w b def s.loads
  digest-same = same-digest w v s.loads b (trial_cleared b) def (untried def) agree same-block refl refl

  digest-now : HasItsDigest v (untried_image image) s.loads
  digest-now = subst (λ d. IfSome def.digest (λ value. value ≡ d)) (sym digest-same) s.digest

  -- so all rules but the trial and the rollback rule hold
  pub cleared-sound : IsSound a cpu v (untried_image image) entry
  cleared-sound = record {
    loop = loop-now;
    loads = s.loads;
    defined = defined-now;
    map = map-now;
    enters = entry-now;
    digest = digest-now;
    delta = s.delta;
  }

  -- the record after the trial bit was cleared is the same but for that bit
  pub cleared-record : (window : Window) → started_of window (untried_image image) entry
      ≡ bought (started_of window image entry)
  cleared-record window = rw (same-block.at, not-trial def.flags) refl

pub cleared-valid : (a : Addressing) (window : Window) (cpu : Cpu) (trial allowed : Bool) (otp w v : List ℕ)
    (s : Started)
    → IsValidImage a window cpu trial otp w s → ClearsTrialBit w v s.image_at
    → IsValidImage a window cpu allowed otp v (bought s)
cleared-valid a window cpu trial allowed otp w v s valid change =
    let place : s.image_at ≡ place_of valid.image = ap (λ (t : Started). t.image_at) valid.started in
    let there = subst (ClearsTrialBit w v) place change in
    record {
      image = untried_image valid.image;
      entry = valid.entry;
      sound = cleared-sound a cpu w v valid.image valid.entry valid.sound there;
      tried = λ is. (let never : true ≡ false = sym is ∙ not-trial valid.image.def.flags in cc);
      listed = valid.listed;
      reached = valid.reached;
      started =
          ap bought valid.started ∙ sym (cleared-record a cpu w v valid.image valid.entry valid.sound there window);
    }

-- the change itself
pub clears-set : (w : List ℕ) (at : ℕ) → ClearsTrialBit w (slice_set w (at + 3) (slice_index w (at + 3) % 2 ^ 7)) at
clears-set w at = record {
  long = length-set w (at + 3) (slice_index w (at + 3) % 2 ^ 7);
  cleared = elim (cases_lt (at + 3) (length w)) [
    | inl within ↦ get_or-set_same w (at + 3) (slice_index w (at + 3) % 2 ^ 7) 0 within
    | inr past ↦
        let was = get_or_past w (at + 3) 0 past in
        let long = length-set w (at + 3) (slice_index w (at + 3) % 2 ^ 7) in
        get_or_past (slice_set w (at + 3) (slice_index w (at + 3) % 2 ^ 7)) (at + 3) 0 (omega (arith, long, past))
        ∙ sym (ap (λ n. n % 2 ^ 7) was)
  ];
  others = λ i other. get_or-set_other w (at + 3) i (slice_index w (at + 3) % 2 ^ 7) 0 other;
}
