-- Why a window holds no valid image, in the words of the rules: the answer is that of the first
-- rule that fails, where those before it hold. This project's own where the datasheet is open.
use Rattle.std.specs.Prelude.{◌≡◌, ◌≢◌, ℕ, ◌<◌, Bool, true, false, List, length, pos, Any, Some, Ok, Err}
use Rattle.std.specs.List.{AllByRecursion}
use Rattle.pico_board.specs.declared.boot.Cpu.{Cpu}
use Rattle.pico_board.specs.declared.window.Window.{Window}
use Rattle.pico_board.specs.Content.{Content, window_bytes}
use Rattle.block_codec.specs.declared.definition.EntryPoint.{EntryPoint}
use Rattle.block_codec.specs.Blocks.{BlockView}
use Rattle.block_loop.specs.Loop.{IsLoopFault, IsLoop}
use Rattle.block_loop.specs.declared.fault.LoopFault.TheVariants.{NoBlock as NoFirst}
use Rattle.image_def.specs.Suits.{does_suit, has_image_type}
use Rattle.image_def.specs.Definition.{def_of}
use Rattle.load_map.specs.declared.load.Load.{Load}
use Rattle.otp_roll.specs.Rows.{count}
use Rattle.image_check.specs.declared.addressing.Addressing.{Addressing}
use Rattle.image_check.specs.declared.why.Why.{Why}
use Rattle.image_check.specs.declared.why.Why.TheVariants.{NoBlock, Loop, NoDefinition, NotForProcessor, Items, Trial, RollbackRequired, Below, Map, Entry, Digest, Delta}
use Rattle.image_check.specs.Addressing.{in_flash}
use Rattle.image_check.specs.Entering.{IsEntry, IsEntryFault}
use Rattle.image_check.specs.declared.examining.Defined.{Defined}
use Rattle.image_check.specs.Rules.{map_loads}
use Rattle.image_check.specs.Valid.{HasItsDigest, IsDefined, IsLastWith, ListsRequiredRows, MayBeTried, ReachesItsRows}

-- the rules up to the trial rule hold
pub record IsTried (cpu : Cpu) (trial : Bool) (bytes : List ℕ) (image : Defined) : Type 0 where
  pub loop : List BlockView
  pub defined : IsDefined cpu bytes loop image
  pub tried : MayBeTried trial image.def

-- the rules up to the rollback rule hold
pub record IsAdmitted (cpu : Cpu) (trial : Bool) (otp bytes : List ℕ)
    (image : Defined) : Type 0 where
  pub tried : IsTried cpu trial bytes image
  pub listed : ListsRequiredRows otp image.def
  pub reached : ReachesItsRows otp image.def

-- the rules up to the map rule hold
pub record IsLoaded (a : Addressing) (cpu : Cpu) (trial : Bool) (otp bytes : List ℕ)
    (image : Defined) (loads : List Load) : Type 0 where
  pub admitted : IsAdmitted cpu trial otp bytes image
  pub map : map_loads a (length bytes) image.block image.def ≡ Ok loads

-- the rules up to the entry rule hold
pub record IsEntered (a : Addressing) (cpu : Cpu) (trial : Bool) (otp bytes : List ℕ)
    (image : Defined) (loads : List Load) : Type 0 where
  pub loaded : IsLoaded a cpu trial otp bytes image loads
  pub entry : EntryPoint
  pub enters : IsEntry a.base bytes cpu image.block image.def loads entry

-- no block suits the processor, though one has an IMAGE_TYPE item
pub record SuitsAnother (cpu : Cpu) (loop : List BlockView) : Type 0 where
  pub some : Any (λ b. has_image_type b ≡ true) loop
  pub none : AllByRecursion (λ b. does_suit cpu b ≡ false) loop

-- the image's rollback version and the count of its rows, which is greater
pub record IsBelow (otp : List ℕ) (image : Defined) (version raised : ℕ) : Type 0 where
  pub version_is : image.def.rollback ≡ Some version
  pub raised_is : raised ≡ count otp image.def.rows.items
  pub below : version < raised

-- the answer of the first of the rules that fails for a window with these bytes
abbrev pub IsWhyNot : Addressing → Cpu → Bool → List ℕ → List ℕ → Why → Type 0
IsWhyNot a cpu trial otp bytes NoBlock = IsLoopFault bytes NoFirst
IsWhyNot a cpu trial otp bytes (Loop fault) = (fault ≢ NoFirst) × IsLoopFault bytes fault
IsWhyNot a cpu trial otp bytes NoDefinition =
    (loop : List BlockView) × IsLoop bytes loop
    × AllByRecursion (λ b. has_image_type b ≡ false) loop
IsWhyNot a cpu trial otp bytes NotForProcessor =
    (loop : List BlockView) × IsLoop bytes loop × SuitsAnother cpu loop
IsWhyNot a cpu trial otp bytes (Items fault) =
    (loop : List BlockView) × (b : BlockView) × IsLoop bytes loop
    × IsLastWith (does_suit cpu) loop b
    × (def_of b ≡ Err fault)
IsWhyNot a cpu trial otp bytes Trial =
    (loop : List BlockView) × (image : Defined) × IsDefined cpu bytes loop image
    × (MayBeTried trial image.def → ⊥)
IsWhyNot a cpu trial otp bytes RollbackRequired =
    (image : Defined) × IsTried cpu trial bytes image × (ListsRequiredRows otp image.def → ⊥)
IsWhyNot a cpu trial otp bytes (Below version raised) =
    (image : Defined) × IsTried cpu trial bytes image × ListsRequiredRows otp image.def
    × IsBelow otp image version raised
IsWhyNot a cpu trial otp bytes (Map fault) =
    (image : Defined) × IsAdmitted cpu trial otp bytes image
    × (map_loads a (length bytes) image.block image.def ≡ Err fault)
IsWhyNot a cpu trial otp bytes (Entry fault) =
    (image : Defined) × (loads : List Load) × IsLoaded a cpu trial otp bytes image loads
    × IsEntryFault a.base bytes cpu image.block image.def loads fault
IsWhyNot a cpu trial otp bytes Digest =
    (image : Defined) × (loads : List Load) × IsEntered a cpu trial otp bytes image loads
    × (HasItsDigest bytes image loads → ⊥)
IsWhyNot a cpu trial otp bytes Delta =
    (image : Defined) × (loads : List Load) × IsEntered a cpu trial otp bytes image loads
    × HasItsDigest bytes image loads × (image.def.delta ≢ pos 0)

-- WhyNot: why a window of a flash holds no valid image, for a processor, with a trial image allowed
-- or not
abbrev pub WhyNot : Content → Window → Cpu → Bool → Why → Type 0
WhyNot c window cpu trial y = IsWhyNot in_flash cpu trial c.otp (window_bytes c window) y
