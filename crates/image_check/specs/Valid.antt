-- When an image is valid, in the words of the rules (RP2350 Datasheet, chapter 5, Bootrom; this
-- project's own where the datasheet is open, and the rollback rule as a whole). Each rule is a
-- condition of its own, on the bytes of a window and on the OTP.
use Rattle.std.specs.Prelude.{◌≡◌, ◌≢◌, ℕ, ◌+◌, ◌*◌, ◌≤◌, Bool, true, false, List, [], ◌∷◌, ◌++◌, length, pos, IfSome, Ok}
use Rattle.std.specs.List.{AllByRecursion}
use Rattle.pico_board.specs.declared.boot.Cpu.{Cpu}
use Rattle.pico_board.specs.declared.window.Window.{Window}
use Rattle.pico_board.specs.Content.{Content, window_bytes}
use Rattle.block_codec.specs.declared.definition.Def.{Def}
use Rattle.block_codec.specs.declared.definition.EntryPoint.{EntryPoint}
use Rattle.block_codec.specs.Blocks.{BlockView}
use Rattle.block_loop.specs.Loop.{IsLoop}
use Rattle.image_def.specs.declared.started.Started.{Started}
use Rattle.image_def.specs.Flags.{is_trial}
use Rattle.image_def.specs.Suits.{does_suit}
use Rattle.image_def.specs.Definition.{def_of}
use Rattle.load_map.specs.declared.load.Load.{Load}
use Rattle.load_map.specs.Covered.{covered_digest}
use Rattle.otp_roll.specs.Rows.{count}
use Rattle.otp_roll.specs.Flags.{rollback_required}
use Rattle.image_check.specs.declared.addressing.Addressing.{Addressing}
use Rattle.image_check.specs.Addressing.{in_flash}
use Rattle.image_check.specs.Entering.{IsEntry}
use Rattle.image_check.specs.declared.examining.Defined.{Defined}
use Rattle.image_check.specs.Image.{started_of}
use Rattle.image_check.specs.Rules.{map_loads}

-- x is the last element that passes the test: it passes, and those behind it do not
pub record IsLastWith {X : Type 0} (passes : X → Bool) (xs : List X) (x : X) : Type 0 where
  pub before : List X
  pub behind : List X
  pub whole : xs ≡ before ++ x ∷ behind
  pub here : passes x ≡ true
  pub later : AllByRecursion (λ y. passes y ≡ false) behind

-- the rules first block, loop, definition, processor and items hold. The window's loop closes, its
-- last block that suits the processor is the definition, and that is read without a fault
pub record IsDefined (cpu : Cpu) (bytes : List ℕ) (loop : List BlockView)
    (image : Defined) : Type 0 where
  pub closes : IsLoop bytes loop
  pub defines : IsLastWith (does_suit cpu) loop image.block
  pub items : def_of image.block ≡ Ok image.def

-- the trial rule: an image is no trial, or a trial image is allowed here
abbrev pub MayBeTried : Bool → Def → Type 0
MayBeTried allowed def = is_trial def.flags ≡ true → allowed ≡ true

-- the first half of the rollback rule: where the OTP requires rollback versions the image lists
-- rows
abbrev pub ListsRequiredRows : List ℕ → Def → Type 0
ListsRequiredRows otp def = rollback_required otp ≡ true → def.rows.items ≢ []

-- the second half of the rollback rule: the rollback version, where there is one, is not below the
-- count of the rows
abbrev pub ReachesItsRows : List ℕ → Def → Type 0
ReachesItsRows otp def = IfSome def.rollback (λ version. count otp def.rows.items ≤ version)

-- the digest rule: a HASH_VALUE is the SHA-256 of the covered bytes
abbrev pub HasItsDigest : List ℕ → Defined → List Load → Type 0
HasItsDigest bytes image loads =
    IfSome image.def.digest (λ value. value ≡ covered_digest bytes image.block image.def loads)

-- the rules that read the window's bytes alone hold: all but the trial and the rollback rule
pub record IsSound (a : Addressing) (cpu : Cpu) (bytes : List ℕ) (image : Defined)
    (entry : EntryPoint) : Type 0 where
  pub loop : List BlockView
  pub loads : List Load
  pub defined : IsDefined cpu bytes loop image
  pub map : map_loads a (length bytes) image.block image.def ≡ Ok loads
  pub enters : IsEntry a.base bytes cpu image.block image.def loads entry
  pub digest : HasItsDigest bytes image loads
  pub delta : image.def.delta ≡ pos 0

-- all the rules hold of the window's bytes and the OTP, and s is the record of that image
pub record IsValidImage (a : Addressing) (window : Window) (cpu : Cpu) (trial : Bool)
    (otp bytes : List ℕ) (s : Started) : Type 0 where
  pub image : Defined
  pub entry : EntryPoint
  pub sound : IsSound a cpu bytes image entry
  pub tried : MayBeTried trial image.def
  pub listed : ListsRequiredRows otp image.def
  pub reached : ReachesItsRows otp image.def
  pub started : s ≡ started_of window image entry

-- Valid: an image in a window of a flash, for a processor, with a trial image allowed or not
abbrev pub Valid : Content → Window → Cpu → Bool → Started → Type 0
Valid c window cpu trial s = IsValidImage in_flash window cpu trial c.otp (window_bytes c window) s

-- a record says what the image's definition and entry say: where the definition and its IMAGE_TYPE
-- item stand; PC, SP and limit; version, rollback version and rows; and the trial bit
pub record IsRecordOfImage (a : Addressing) (window : Window) (cpu : Cpu) (bytes : List ℕ)
    (s : Started) : Type 0 where
  pub loop : List BlockView
  pub loads : List Load
  pub image : Defined
  pub entry : EntryPoint
  pub defined : IsDefined cpu bytes loop image
  pub enters : IsEntry a.base bytes cpu image.block image.def loads entry
  pub window_is : s.window ≡ window
  pub block_is : s.block ≡ image.block.at
  pub place_is : s.image_at ≡ image.block.at + 4 * image.def.image_word
  pub pc_is : s.pc ≡ entry.pc
  pub sp_is : s.sp ≡ entry.sp
  pub limit_is : s.limit ≡ entry.limit
  pub version_is : s.version ≡ image.def.version
  pub rollback_is : s.rollback ≡ image.def.rollback
  pub rows_are : s.rows ≡ image.def.rows
  pub trial_is : s.trial ≡ is_trial image.def.flags
