-- What is to be looked up of the definitions of the members that a boot looks at, by the functions and in the words of
-- the rules.
use Rattle.std.proofs.Common.{◌≡◌, ◌≢◌, ℕ, zero, suc, ◌+◌, ◌-◌, ◌*◌, ◌==◌, ◌<◌, ◌≤◌, ◌&&◌, ◌||◌, not, Bool, true, false, cond, List, slice_get, Option, Some, None, Result, Ok, Err, is_some, option_map, option_and_then, refl, sym, ap, ◌∙◌, subst, arith}
use Rattle.std.specs.Prelude.{option_to_list}
use Rattle.std.specs.Bool.{Decides}
use Rattle.std.specs.List.{list_any, range_with_len}
use Rattle.std.specs.Option.{option_map_or}
use Rattle.std.specs.Result.{result_ok}
use Rattle.std.proofs.lemmas.Bool.{eqb-true, eq-eqb}
use Rattle.std.proofs.lemmas.Option.{same_Some}
use Rattle.pico_board.specs.declared.boot.Cpu.{Cpu}
use Rattle.pico_board.specs.declared.window.Window.{Window}
use Rattle.pico_board.specs.Content.{Content, window_bytes}
use Rattle.block_codec.specs.declared.items.Item.{Item}
use Rattle.block_codec.specs.declared.definition.Def.{Def}
use Rattle.block_codec.specs.Blocks.{BlockView}
use Rattle.block_codec.specs.Items.{items_of}
use Rattle.block_loop.specs.declared.fault.LoopFault.{LoopFault}
use Rattle.block_loop.specs.declared.fault.LoopFault.TheVariants.{NoBlock as NoFirst, Broken, TooMany, Overlap}
use Rattle.block_loop.specs.Loop.{IsLoop, loop_of}
use Rattle.block_loop.proofs.SameLoopLemmas.{IsLoop-from_answer}
use Rattle.image_def.specs.declared.fault.DefFault.{DefFault}
use Rattle.image_def.specs.Definition.{def_of}
use Rattle.image_def.specs.Guarantees.{IsLoadMapItem}
use Rattle.image_def.specs.Suits.{does_suit, has_image_type, last_suiting}
use Rattle.load_map.specs.Loads.{entry_count, is_absolute}
use Rattle.image_check.specs.declared.examining.Defined.{Defined}
use Rattle.image_check.specs.declared.why.Why.{Why}
use Rattle.image_check.specs.declared.why.Why.TheVariants.{Items, NoDefinition, NotForProcessor}
use Rattle.image_check.specs.Answers.{and_then, fault_as, or_fault}
use Rattle.image_check.specs.Image.{defined_in}
use Rattle.image_check.specs.Rules.{loop_answer}
use Rattle.image_check.specs.Valid.{IsDefined, IsLastWith}
use Rattle.image_check.proofs.AnsweredLemmas.{defined-ok}
use Rattle.image_check.proofs.LastLemmas.{last-found}
use Rattle.boot_reasons.specs.declared.looks.UnitReport.{UnitReport}
use Rattle.slot_caveats.specs.declared.caveat.Caveat.{Caveat}
use Rattle.slot_caveats.specs.declared.caveat.Caveat.TheVariants.{LongDefinition}
use Rattle.boot_caveats.specs.ImageCaveats.{looked_windows}
use Rattle.boot_caveats.specs.MemberCaveats.{absolute_map, bare_hash, definition_passes, entry_word, has_bare_hash, has_moving_entry, has_moving_map, is_moving, is_moving_map, long_definition, member_caveats}
use Rattle.slot_caveats.specs.Sought.{is_long_definition}
use Rattle.boot_caveats.specs.MemberRules.{AreMemberCaveats, HasAbsoluteMap, HasBareHash, IsAbsoluteMap, IsBareHash, IsLongDefinition}
use Rattle.slot_caveats.specs.SlotCaveats.{last_where}
use Rattle.slot_caveats.specs.SlotRules.{IsLastWhere}
use Rattle.slot_caveats.proofs.ListingLemmas.{IsJust, and-decides, both-just, each-one-just, not-decides, one-just, where-just}
use Rattle.slot_caveats.proofs.MoreLemmas.{range-rest}
use Rattle.slot_caveats.proofs.SlotLemmas.{last-says, says-last}

-- ---- long definitions

module _ (c : Content) (cpu : Cpu) (w : Window) where
  abbrev IsLong : ℕ → Type 0
  IsLong at = (b : BlockView) × IsLastWhere (is_long_definition cpu) (window_bytes c w) b × (b.at ≡ at)

  abbrev long_told : Option BlockView → Option Caveat
  long_told o = option_map (λ (b : BlockView). LongDefinition w b.at) o

  long-just : IsJust (IsLongDefinition c cpu w) (option_to_list (long_definition c cpu w))
  long-just =
      one-just IsLong (LongDefinition w) (long_definition c cpu w)
      (to (last_where (is_long_definition cpu) (window_bytes c w)) refl) from
    where
      to : (o : Option BlockView) → last_where (is_long_definition cpu) (window_bytes c w) ≡ o → (caveat : Caveat)
          → long_told o ≡ Some caveat → (at : ℕ) × IsLong at × (caveat ≡ LongDefinition w at)
      to None is caveat e = cc
      to (Some b) is caveat e = (
        b.at,
        (b, last-says (is_long_definition cpu) (window_bytes c w) b is, refl),
        sym (same_Some _ _ e),
      )

      from : (at : ℕ) → IsLong at → long_definition c cpu w ≡ Some (LongDefinition w at)
      from at is =
          ap long_told (says-last (is_long_definition cpu) (window_bytes c w) is.0 is.1)
          ∙ ap (λ x. Some (LongDefinition w x)) is.2

-- ---- the definition whose items are read

module _ (cpu : Cpu) (bytes : List ℕ) (image : Defined) where
  abbrev IsOne : Type 0
  IsOne = (loop : List BlockView) × IsDefined cpu bytes loop image

  by-items : (loop : List BlockView) → IsLoop bytes loop → (b : BlockView) → IsLastWith (does_suit cpu) loop b
      → (r : Result Def DefFault) → def_of b ≡ r
      → and_then (fault_as Items r) (λ def. let d : Result Defined Why = Ok (record { block = b; def = def }) in d)
      ≡ Ok image → IsOne
  by-items loop closes b last (Ok def) is e =
      let made : Defined = record { block = b; def = def } in
      let one : made ≡ image = same-ok made image e in
      subst (λ (i : Defined). (l : List BlockView) × IsDefined cpu bytes l i) one
      (loop, record { closes = closes; defines = last; items = is })
    where
      same-ok : (x y : Defined) → (let r : Result Defined Why = Ok x in r ≡ Ok y) → x ≡ y
      same-ok x y h = cc
  by-items loop closes b last (Err fault) is e = cc

  by-suiting : (loop : List BlockView) → IsLoop bytes loop → (typed : Bool) → (o : Option BlockView)
      → last_suiting cpu loop ≡ o
      → and_then (cond typed (or_fault o NotForProcessor) (Err NoDefinition))
      (λ block. and_then (fault_as Items (def_of block))
      (λ def. let d : Result Defined Why = Ok (record { block = block; def = def }) in d)) ≡ Ok image → IsOne
  by-suiting loop closes false o is e = cc
  by-suiting loop closes true None is e = cc
  by-suiting loop closes true (Some b) is e =
      by-items loop closes b (last-found (does_suit cpu) loop b is) (def_of b) refl e

  pub defined-from : defined_in cpu bytes ≡ Ok image → IsOne
  defined-from e = go (loop_of bytes) refl e
    where
      go : (r : Result (List BlockView) LoopFault) → loop_of bytes ≡ r
          → and_then (loop_answer r) (λ loop.
          and_then (cond (list_any has_image_type loop) (or_fault (last_suiting cpu loop) NotForProcessor)
          (Err NoDefinition))
          (λ block. and_then (fault_as Items (def_of block))
          (λ def. let d : Result Defined Why = Ok (record { block = block; def = def }) in d))) ≡ Ok image → IsOne
      go (Ok loop) closes e =
          by-suiting loop (IsLoop-from_answer bytes loop closes) (list_any has_image_type loop)
          (last_suiting cpu loop) refl e
      go (Err NoFirst) closes e = cc
      go (Err (Broken x)) closes e = cc
      go (Err TooMany) closes e = cc
      go (Err (Overlap i j)) closes e = cc

-- a test on it
passes-decides : (cpu : Cpu) (bytes : List ℕ) (passes : Defined → Bool) (P : Defined → Type 0)
    → ((image : Defined) → Decides (passes image) (P image))
    → Decides (definition_passes passes cpu bytes)
    ((image : Defined) × (loop : List BlockView) × IsDefined cpu bytes loop image × P image)
passes-decides cpu bytes passes P decides = (to (defined_in cpu bytes) refl, from)
  where
    to : (r : Result Defined Why) → defined_in cpu bytes ≡ r → option_map_or passes (result_ok r) false ≡ true
        → (image : Defined) × (loop : List BlockView) × IsDefined cpu bytes loop image × P image
    to (Ok image) is e =
        let d = defined-from cpu bytes image is in (image, d.0, d.1, (decides image).0 e)
    to (Err why) is e = cc

    from : ((image : Defined) × (loop : List BlockView) × IsDefined cpu bytes loop image × P image)
        → definition_passes passes cpu bytes ≡ true
    from is =
        ap (λ (r : Result Defined Why). option_map_or passes (result_ok r) false)
        (defined-ok cpu bytes is.1 is.0 is.2)
        ∙ (decides is.0).1 is.3

-- ---- absolute maps

-- a number that passes, from one on
abbrev Among : (ℕ → Bool) → ℕ → ℕ → Type 0
Among p a n = (k : ℕ) × (k < n) × (p (a + k) ≡ true)

any-next : (p : ℕ → Bool) (a n : ℕ) → Decides (list_any p (range_with_len (a + 1) n)) (Among p (a + 1) n)
    → Decides (list_any p (range_with_len a (suc n))) (Among p a (suc n))
any-next p a n rest = (to (p a) refl, from)
  where
    to : (b : Bool) → p a ≡ b → (b || list_any p (range_with_len (a + 1) n)) ≡ true → Among p a (suc n)
    to true is e = (0, omega arith, ap p (let same : a + 0 ≡ a = omega arith in same) ∙ is)
    to false is e =
        let one = rest.0 e in (
          suc one.0,
          omega (arith, one.1),
          ap p (let same : a + suc one.0 ≡ a + 1 + one.0 = omega arith in same) ∙ one.2,
        )

    right-one : (a b : Bool) → b ≡ true → (a || b) ≡ true
    right-one true b e = refl
    right-one false b e = e

    left-one : (a b : Bool) → a ≡ true → (a || b) ≡ true
    left-one true b e = refl
    left-one false b e = cc

    from : Among p a (suc n) → (p a || list_any p (range_with_len (a + 1) n)) ≡ true
    from (zero, lt, is) =
        left-one (p a) (list_any p (range_with_len (a + 1) n))
        (ap p (let same : a ≡ a + 0 = omega arith in same) ∙ is)
    from (suc k, lt, is) =
        right-one (p a) (list_any p (range_with_len (a + 1) n))
        (rest.1 (k, omega (arith, lt), ap p (let same : a + 1 + k ≡ a + suc k = omega arith in same) ∙ is))

any-among : (p : ℕ → Bool) (a n : ℕ) → Decides (list_any p (range_with_len a n)) (Among p a n)
any-among p a zero = (λ e. cc, λ is. absurd (omega (arith, is.1)))
any-among p a (suc n) = any-next p a n (any-among p (a + 1) n)

any-decides : (p : ℕ → Bool) (n : ℕ)
    → Decides (list_any p (range_with_len 0 n)) ((k : ℕ) × (k < n) × (p k ≡ true))
any-decides p n = (
  λ e. (let is = (any-among p 0 n).0 e in
      (is.0, is.1, ap p (let same : is.0 ≡ 0 + is.0 = omega arith in same) ∙ is.2)),
  λ is. (any-among p 0 n).1
      (is.0, is.1, ap p (let same : 0 + is.0 ≡ is.0 = omega arith in same) ∙ is.2),
)

differ-decides : (m n : ℕ) → Decides (not (m == n)) (m ≢ n)
differ-decides m n = not-decides (m ≡ n) (m == n) (eqb-true m n, eq-eqb m n)

abbrev Moves : BlockView → Item → ℕ → Type 0
Moves b item i = (entry_word b item i 1 ≢ 0) × (entry_word b item i 1 ≢ entry_word b item i 2)

moving-decides : (b : BlockView) (item : Item) (i : ℕ) → Decides (is_moving b item i) (Moves b item i)
moving-decides b item i =
    and-decides _ _ _ _ (differ-decides (entry_word b item i 1) 0)
    (differ-decides (entry_word b item i 1) (entry_word b item i 2))

-- the map of a definition
abbrev HasMovingMap : Defined → Type 0
HasMovingMap image = (place : ℕ) × (item : Item) × (entry : ℕ) × (image.def.map_item ≡ Some place)
    × (slice_get (items_of image.block.items) place ≡ Some item) × (is_absolute item ≡ true)
    × (entry < entry_count item) × (is_moving image.block item entry ≡ true)

map-decides : (image : Defined) → Decides (has_moving_map image) (HasMovingMap image)
map-decides image = (to image.def.map_item refl, from)
  where
    parts : (a b : Bool) → (a && b) ≡ true → (a ≡ true) × (b ≡ true)
    parts true true e = (refl, refl)
    parts true false e = cc
    parts false b e = cc

    both : (a b : Bool) → a ≡ true → b ≡ true → (a && b) ≡ true
    both true true e f = refl
    both true false e f = cc
    both false b e f = cc

    by : (place : ℕ) → image.def.map_item ≡ Some place → (o : Option Item)
        → slice_get (items_of image.block.items) place ≡ o
        → option_map_or (is_moving_map image.block) o false ≡ true → HasMovingMap image
    by place is None at e = cc
    by place is (Some item) at e =
        let two = parts (is_absolute item) (has_moving_entry image.block item) e in
        let one = (any-decides (is_moving image.block item) (entry_count item)).0 two.1 in
        (place, item, one.0, is, at, two.0, one.1, one.2)

    to : (o : Option ℕ) → image.def.map_item ≡ o
        → option_map_or (is_moving_map image.block) (option_and_then (slice_get (items_of image.block.items)) o) false
        ≡ true → HasMovingMap image
    to None is e = cc
    to (Some place) is e = by place is (slice_get (items_of image.block.items) place) refl e

    from : HasMovingMap image → has_moving_map image ≡ true
    from is =
        ap (λ o. option_map_or (is_moving_map image.block)
        (option_and_then (slice_get (items_of image.block.items)) o) false) is.3
        ∙ (ap (λ o. option_map_or (is_moving_map image.block) o false) is.4
        ∙ both (is_absolute is.1) (has_moving_entry image.block is.1) is.5
        ((any-decides (is_moving image.block is.1) (entry_count is.1)).1 (is.2, is.6, is.7)))

absolute-decides : (cpu : Cpu) (bytes : List ℕ)
    → Decides (definition_passes has_moving_map cpu bytes) (HasAbsoluteMap cpu bytes)
absolute-decides cpu bytes = (
  λ e. (let is = (passes-decides cpu bytes has_moving_map HasMovingMap map-decides).0 e in
      let map = is.3 in
      let moves = (moving-decides is.0.block map.1 map.2).0 map.7 in
      record {
        loop = is.1;
        image = is.0;
        place = map.0;
        item = map.1;
        entry = map.2;
        defined = is.2;
        map = map.3;
        at = map.4;
        absolute = map.5;
        among = map.6;
        stored = moves.0;
        moved = moves.1;
      }),
  λ has. (passes-decides cpu bytes has_moving_map HasMovingMap map-decides).1 (
    has.image,
    has.loop,
    has.defined,
    (
      has.place,
      has.item,
      has.entry,
      has.map,
      has.at,
      has.absolute,
      has.among,
      (moving-decides has.image.block has.item has.entry).1 (has.stored, has.moved),
    ),
  ),
)

-- ---- a digest without a map

abbrev IsBare : Defined → Type 0
IsBare image = (digest : List ℕ) × (image.def.digest ≡ Some digest) × (image.def.map_item ≡ None)

bare-test : (image : Defined) → Decides (has_bare_hash image) (IsBare image)
bare-test image = (to image.def.digest refl image.def.map_item refl, from)
  where
    to : (d : Option (List ℕ)) → image.def.digest ≡ d → (m : Option ℕ) → image.def.map_item ≡ m
        → (is_some d && not (is_some m)) ≡ true → IsBare image
    to None is m at e = cc
    to (Some digest) is (Some place) at e = cc
    to (Some digest) is None at e = (digest, is, at)

    from : IsBare image → has_bare_hash image ≡ true
    from is =
        ap (λ (d : Option (List ℕ)). is_some d && not (is_some image.def.map_item)) is.1
        ∙ ap (λ (m : Option ℕ). not (is_some m)) is.2

bare-decides : (cpu : Cpu) (bytes : List ℕ)
    → Decides (definition_passes has_bare_hash cpu bytes) (HasBareHash cpu bytes)
bare-decides cpu bytes = (
  λ e. (let is = (passes-decides cpu bytes has_bare_hash IsBare bare-test).0 e in
      record {
        loop = is.1;
        image = is.0;
        digest = is.3.0;
        defined = is.2;
        value = is.3.1;
        bare = is.3.2;
      }),
  λ has. (passes-decides cpu bytes has_bare_hash IsBare bare-test).1
      (has.image, has.loop, has.defined, (has.digest, has.value, has.bare)),
)

pub members-just : (c : Content) (cpu : Cpu) (looks : List UnitReport)
    → IsJust (AreMemberCaveats c cpu looks) (member_caveats c cpu looks)
members-just c cpu looks =
    both-just _ _ (each-one-just (IsLongDefinition c cpu) (long_definition c cpu) (long-just c cpu) (looked_windows looks))
    (both-just _ _
    (each-one-just (IsAbsoluteMap c cpu) (absolute_map c cpu)
    (λ w. where-just _ _ _ (absolute-decides cpu (window_bytes c w))) (looked_windows looks))
    (each-one-just (IsBareHash c cpu) (bare_hash c cpu)
    (λ w. where-just _ _ _ (bare-decides cpu (window_bytes c w))) (looked_windows looks)))

-- the LOAD_MAP item of a definition has three words for each of its entries
pub three_words : (b : BlockView) (i : ℕ) (item : Item) → ((map : Item) × IsLoadMapItem b i map)
    → slice_get (items_of b.items) i ≡ Some item → item.words ≡ 1 + 3 * entry_count item
three_words b i item map at =
    subst (λ (m : Item). m.words ≡ 1 + 3 * entry_count m) (same_Some map.0 item (sym map.1.at ∙ at)) map.1.size

-- ---- the first entry that is sought

module _ (p : ℕ → Bool) (n i : ℕ) where
  abbrev SoFar : ℕ → Type 0
  SoFar k = list_any p (range_with_len 0 n) ≡ list_any p (range_with_len (0 + k) (n - k))

  split : i < n → list_any p (range_with_len (0 + i) (n - i))
      ≡ (p i || list_any p (range_with_len (0 + (i + 1)) (n - (i + 1))))
  split lt =
      ap (list_any p) (range-rest 0 i n lt)
      ∙ ap (λ k. p k || list_any p (range_with_len (0 + (i + 1)) (n - (i + 1))))
      (let same : 0 + i ≡ i = omega arith in same)

  pub any-here : i < n → p i ≡ true → SoFar i → true ≡ list_any p (range_with_len 0 n)
  any-here lt is so_far =
      sym (so_far ∙ (split lt ∙ ap (λ b. b || list_any p (range_with_len (0 + (i + 1)) (n - (i + 1)))) is))

  pub any-more : i < n → p i ≡ false → SoFar i → SoFar (i + 1)
  any-more lt is so_far =
      so_far ∙ (split lt ∙ ap (λ b. b || list_any p (range_with_len (0 + (i + 1)) (n - (i + 1)))) is)

  pub any-none : n ≤ i → SoFar i → false ≡ list_any p (range_with_len 0 n)
  any-none le so_far =
      sym (so_far ∙ ap (λ k. list_any p (range_with_len (0 + i) k)) (let none : n - i ≡ 0 = omega (arith, le) in none))

-- none is passed over at first
pub any-start : (p : ℕ → Bool) (n : ℕ)
    → list_any p (range_with_len 0 n) ≡ list_any p (range_with_len (0 + 0) (n - 0))
any-start p n = ap (λ k. list_any p (range_with_len 0 k)) (let same : n ≡ n - 0 = omega arith in same)
