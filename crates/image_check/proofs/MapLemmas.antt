-- The loads of an image are stored in its window and keep off its definition.
use Rattle.std.proofs.Common.{◌≡◌, ℕ, List, [], Option, Some, None, Result, Ok, subst}
use Rattle.std.specs.Prelude.{slice_get}
use Rattle.std.specs.Option.{option_and_then}
use Rattle.block_codec.specs.declared.definition.Def.{Def}
use Rattle.block_codec.specs.declared.items.Item.{Item}
use Rattle.block_codec.specs.Blocks.{BlockView}
use Rattle.block_codec.specs.Items.{items_of}
use Rattle.load_map.specs.declared.load.Load.{Load}
use Rattle.load_map.specs.declared.load.MapFault.{MapFault}
use Rattle.load_map.specs.Stored.{AreClearOf, AreStoredIn}
use Rattle.load_map.proofs.SoundLoadLemmas.{sound-loads_of}
use Rattle.image_check.specs.declared.addressing.Addressing.{Addressing}
use Rattle.image_check.specs.Rules.{item_loads, map_loads}

abbrev loaded : List Load → Result (List Load) MapFault
loaded loads = Ok loads

nothing : (loads : List Load) → loaded [] ≡ loaded loads → [] ≡ loads
nothing loads is = cc

module _ (a : Addressing) (n : ℕ) (b : BlockView) where
  item-stored : (item : Option Item) (loads : List Load) → item_loads a n b item ≡ Ok loads → AreStoredIn n loads
  item-stored None loads is = subst (AreStoredIn n) (nothing loads is) tt
  item-stored (Some item) loads is = (sound-loads_of a.base n a.in_place b item loads is).stored

  item-clear : (item : Option Item) (loads : List Load) → item_loads a n b item ≡ Ok loads → AreClearOf b loads
  item-clear None loads is = subst (AreClearOf b) (nothing loads is) tt
  item-clear (Some item) loads is = (sound-loads_of a.base n a.in_place b item loads is).clear

  pub map-stored : (def : Def) (loads : List Load) → map_loads a n b def ≡ Ok loads → AreStoredIn n loads
  map-stored def = item-stored (option_and_then (slice_get (items_of b.items)) def.map_item)

  pub map-clear : (def : Def) (loads : List Load) → map_loads a n b def ≡ Ok loads → AreClearOf b loads
  map-clear def = item-clear (option_and_then (slice_get (items_of b.items)) def.map_item)
