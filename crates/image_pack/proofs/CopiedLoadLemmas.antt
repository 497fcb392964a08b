-- Which load of a sealed image decides at an address of SRAM: the one that does so in its binary.
use Rattle.std.proofs.Common.{◌≡◌, ℕ, ◌+◌, ◌≤◌, Bool, true, false, ◌||◌, ◌&&◌, if◌then◌else◌, nat_le, nat_lt, List, [], ◌∷◌, map, refl, sym, ap, ◌∙◌, arith, Option, None, Some, Ok}
use Rattle.std.specs.Prelude.{find, reverse, slice_get}
use Rattle.std.specs.List.{AllByRecursion}
use Rattle.std.specs.Option.{option_and_then, option_map, option_or}
use Rattle.std.proofs.lemmas.Bool.{eqb-true}
use Rattle.std.proofs.lemmas.Bool.Decides.{nat_tests}
use Rattle.std.proofs.lemmas.List.{reverse-append}
use Rattle.std.proofs.lemmas.List.Folds.{find-append}
use Rattle.pico_board.specs.Content.{flash_base}
use Rattle.block_codec.specs.declared.definition.Def.{Def}
use Rattle.block_codec.specs.declared.items.Item.{Item}
use Rattle.block_codec.specs.Blocks.{BlockView}
use Rattle.block_codec.specs.Items.{items_of}
use Rattle.load_map.specs.declared.addresses.TheConstants.{SRAM_START}
use Rattle.load_map.specs.declared.load.Load.{Load}
use Rattle.load_map.specs.Addresses.{in_sram}
use Rattle.load_map.specs.Given.{load_has_address}
use Rattle.load_map.specs.Reading.{is_used_in_place}
use Rattle.load_map.specs.Stored.{AreStoredIn, IsStoredIn}
use Rattle.load_map.proofs.SoundLoadLemmas.{sound-loads_of}
use Rattle.image_check.specs.Addressing.{in_flash}
use Rattle.image_check.specs.Rules.{item_loads, map_loads}
use Rattle.image_pack.specs.Sealing.{copied_loads, load_in_place, own_load, sram_loads}

-- a load is used where it is stored, or lies in SRAM as a whole
abbrev pub IsPlaced : Load → Type 0
IsPlaced load = (is_used_in_place flash_base load.storage load.runtime || in_sram load.runtime load.size) ≡ true

abbrev pub ArePlaced : List Load → Type 0
ArePlaced loads = AllByRecursion IsPlaced loads

-- the loads of a map without a fault are
pub map-placed : (n : ℕ) (b : BlockView) (def : Def) (loads : List Load) → map_loads in_flash n b def ≡ Ok loads
    → ArePlaced loads
map-placed n b def = go (option_and_then (slice_get (items_of b.items)) def.map_item)
  where
    go : (item : Option Item) (loads : List Load) → item_loads in_flash n b item ≡ Ok loads → ArePlaced loads
    go None [] is = tt
    go None (load ∷ loads) is = cc
    go (Some item) loads is = (sound-loads_of in_flash.base n in_flash.in_place b item loads is).right

-- the last that passes, in a list with one more in front
last-more : {X : Type 0} (p : X → Bool) (x : X) (xs : List X)
    → find p (reverse (x ∷ xs)) ≡ option_or (find p (reverse xs)) (if p x then Some x else None)
last-more p x xs = rw (reverse-append (x ∷ []) xs, find-append p (reverse xs) (x ∷ [])) refl

or-none : {X : Type 0} (o : Option X) → option_or o None ≡ o
or-none None = refl
or-none (Some x) = refl

or-mapped : {X Y : Type 0} (f : X → Y) (t : Bool) (x : X) (o : Option X)
    → option_or (option_map f o) (if t then Some (f x) else None)
    ≡ option_map f (option_or o (if t then Some x else None))
or-mapped f true x None = refl
or-mapped f true x (Some y) = refl
or-mapped f false x None = refl
or-mapped f false x (Some y) = refl

only-left : (p q : Bool) → (p || q) ≡ true → q ≡ false → p ≡ true
only-left true q either none = refl
only-left false q either none = cc

module _ (a n at : ℕ) (high : SRAM_START ≤ a) (low : flash_base + n ≤ SRAM_START) where
  -- a load in flash does not hold the address
  below : (storage : Option ℕ) (runtime size : ℕ) → IsStoredIn n storage size
      → (is_used_in_place flash_base storage runtime || in_sram runtime size) ≡ true → in_sram runtime size ≡ false
      → (nat_le runtime a && nat_lt a (runtime + size)) ≡ false
  below None runtime size stored placed out = cc
  below (Some x) runtime size stored placed out =
      let there : runtime ≡ flash_base + x =
      eqb-true runtime (flash_base + x) (only-left _ (in_sram runtime size) placed out) in
      let past : runtime + size ≤ a = omega (arith, there, stored, low, high) in
      grind (arith, nat_tests, past)

  pub in_place-past : (size : ℕ) (loads : List Load) → size ≤ n
      → find (load_has_address a) (reverse (load_in_place size ∷ loads)) ≡ find (load_has_address a) (reverse loads)
  in_place-past size loads le =
      let past : flash_base + size ≤ a = omega (arith, le, low, high) in
      let fails : (nat_le flash_base a && nat_lt a (flash_base + size)) ≡ false = grind (arith, nat_tests, past) in
      last-more (load_has_address a) (load_in_place size) loads
      ∙ ap (λ t. option_or (find (load_has_address a) (reverse loads))
      (if t then Some (load_in_place size) else None)) fails
      ∙ or-none (find (load_has_address a) (reverse loads))

  pub last-copied : (loads : List Load) → AreStoredIn n loads → ArePlaced loads
      → find (load_has_address a) (reverse (copied_loads at loads))
      ≡ option_map (own_load at) (find (load_has_address a) (reverse loads))
  last-copied [] stored placed = refl
  last-copied (load ∷ loads) stored placed =
      go (in_sram load.runtime load.size) refl (last-copied loads stored.1 placed.1)
    where
      go : (t : Bool) → in_sram load.runtime load.size ≡ t
          → find (load_has_address a) (reverse (copied_loads at loads))
          ≡ option_map (own_load at) (find (load_has_address a) (reverse loads))
          → find (load_has_address a) (reverse (map (own_load at)
          (if t then load ∷ sram_loads loads else sram_loads loads)))
          ≡ option_map (own_load at) (find (load_has_address a) (reverse (load ∷ loads)))
      go true is rest =
          last-more (load_has_address a) (own_load at load) (copied_loads at loads)
          ∙ ap (λ o. option_or o (if load_has_address a load then Some (own_load at load) else None)) rest
          ∙ or-mapped (own_load at) (load_has_address a load) load (find (load_has_address a) (reverse loads))
          ∙ sym (ap (option_map (own_load at)) (last-more (load_has_address a) load loads))
      go false is rest =
          let fails : load_has_address a load ≡ false = below load.storage load.runtime load.size stored.0 placed.0 is in
          rest
          ∙ sym (ap (option_map (own_load at)) (last-more (load_has_address a) load loads
          ∙ ap (λ t. option_or (find (load_has_address a) (reverse loads)) (if t then Some load else None)) fails
          ∙ or-none (find (load_has_address a) (reverse loads))))
