-- Why a binary cannot be sealed, by the rules of a valid image. The rules are those from the first
-- block to the items, and the rule on the load map; the first that fails is the reason.
use Rattle.std.specs.Prelude.{◌≡◌, ℕ, true, List, length, Ok, Err}
use Rattle.pico_board.specs.declared.boot.Cpu.{Cpu}
use Rattle.block_codec.specs.Blocks.{BlockView}
use Rattle.load_map.specs.declared.load.Load.{Load}
use Rattle.load_map.specs.declared.load.MapFault.{MapFault}
use Rattle.image_check.specs.declared.examining.Defined.{Defined}
use Rattle.image_check.specs.declared.why.Why.{Why}
use Rattle.image_check.specs.declared.why.Why.TheVariants.{NoBlock, Loop, NoDefinition, NotForProcessor, Items, Map}
use Rattle.image_check.specs.Addressing.{in_flash}
use Rattle.image_check.specs.Rules.{map_loads}
use Rattle.image_check.specs.Valid.{IsDefined}
use Rattle.image_check.specs.WhyNot.{IsWhyNot}
use Rattle.image_pack.specs.Faults.{zero_otp}

-- a window with these bytes fails this rule of a valid image first; the rules meant here are those
-- from the first block to the items; they read neither the OTP nor whether a trial image is
-- allowed
abbrev pub FailsRuleFirst : Cpu → List ℕ → Why → Type 0
FailsRuleFirst cpu bytes why = IsWhyNot in_flash cpu true zero_otp bytes why

-- the rules from the first block to the items hold, and the rule on the load map fails
pub record HasWrongMap (cpu : Cpu) (bytes : List ℕ) (fault : MapFault) : Type 0 where
  pub loop : List BlockView
  pub image : Defined
  pub defined : IsDefined cpu bytes loop image
  pub wrong : map_loads in_flash (length bytes) image.block image.def ≡ Err fault

-- the rules from the first block to the items hold, and the rule on the load map
pub record KeepsRules (cpu : Cpu) (bytes : List ℕ) : Type 0 where
  pub loop : List BlockView
  pub image : Defined
  pub loads : List Load
  pub defined : IsDefined cpu bytes loop image
  pub map : map_loads in_flash (length bytes) image.block image.def ≡ Ok loads

-- the answer of the first of these rules that fails
abbrev pub IsUnsealable : Cpu → List ℕ → Why → Type 0
IsUnsealable cpu bytes NoBlock = FailsRuleFirst cpu bytes NoBlock
IsUnsealable cpu bytes (Loop fault) = FailsRuleFirst cpu bytes (Loop fault)
IsUnsealable cpu bytes NoDefinition = FailsRuleFirst cpu bytes NoDefinition
IsUnsealable cpu bytes NotForProcessor = FailsRuleFirst cpu bytes NotForProcessor
IsUnsealable cpu bytes (Items fault) = FailsRuleFirst cpu bytes (Items fault)
IsUnsealable cpu bytes (Map fault) = HasWrongMap cpu bytes fault
IsUnsealable cpu bytes why = ⊥
