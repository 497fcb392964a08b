-- An image that is valid in a window with 0xff behind it is valid with other bytes there.
use Rattle.std.proofs.Common.{◌≡◌, ℕ, ◌+◌, ◌<◌, ◌≤◌, Bool, List, length, IfSome, Ok, refl, sym, subst, arith}
use Rattle.std.specs.Prelude.{slice_index}
use Rattle.pico_board.specs.declared.window.TheConstants.{MOST_FLASH_BYTES}
use Rattle.pico_board.specs.declared.boot.Cpu.{Cpu}
use Rattle.pico_board.specs.declared.window.Window.{Window}
use Rattle.block_codec.specs.declared.definition.EntryPoint.{EntryPoint}
use Rattle.block_codec.specs.Blocks.{BlockAt, BlockView, block_size}
use Rattle.block_codec.specs.Erased.{IsErasedFrom}
use Rattle.block_codec.proofs.AtLemmas.{BlockAt-room}
use Rattle.image_def.specs.declared.started.Started.{Started}
use Rattle.load_map.specs.declared.load.Load.{Load}
use Rattle.load_map.specs.Agree.{AgreeOn}
use Rattle.load_map.specs.Stored.{AreStoredIn}
use Rattle.load_map.proofs.AgreementLemmas.{same-digest}
use Rattle.image_check.specs.declared.examining.Defined.{Defined}
use Rattle.image_check.specs.Addressing.{in_flash}
use Rattle.image_check.specs.Rules.{map_loads}
use Rattle.image_check.specs.Valid.{HasItsDigest, IsSound, IsValidImage}
use Rattle.law_plans.specs.Written.{HasNoLowBlockPast}
use Rattle.law_plans.proofs.KeptBlockLemmas.{ends-before, kept-loop}
use Rattle.law_plans.proofs.KeptEntryLemmas.{agree, kept-entry}

module _ (one two : List ℕ) (n : ℕ) (long : length two ≡ length one) (few : length one ≤ MOST_FLASH_BYTES)
    (erased : IsErasedFrom one n (length one)) (same : (i : ℕ) → i < n → slice_index two i ≡ slice_index one i)
    (low : HasNoLowBlockPast n two) where
  -- the blocks of the first window end before its erased part
  ends : (x : ℕ) (b : BlockView) → BlockAt one x b → x + block_size b ≤ n
  ends x b at =
      ends-before one n (length one) x b
      (λ i from to is. let e = erased i from to in omega (arith, e, is)) (BlockAt-room one x b at) at

  kept-digest : (image : Defined) (loads : List Load) → AgreeOn loads one two → HasItsDigest one image loads
      → HasItsDigest two image loads
  kept-digest image loads agrees has =
      subst (λ d. IfSome image.def.digest (λ value. value ≡ d))
      (sym (same-digest one two loads image.block image.block image.def image.def agrees
      (record { at = refl; size = refl; words = refl }) refl refl)) has

  pub kept-sound : (cpu : Cpu) (image : Defined) (entry : EntryPoint) (s : IsSound in_flash cpu one image entry)
      → AreStoredIn n s.loads → IsSound in_flash cpu two image entry
  kept-sound cpu image entry s stored = record {
    loop = s.loop;
    loads = s.loads;
    defined = record {
      closes = kept-loop one two n long same s.loop ends low s.defined.closes;
      defines = s.defined.defines;
      items = s.defined.items;
    };
    map = subst (λ k. map_loads in_flash k image.block image.def ≡ Ok s.loads) (sym long) s.map;
    enters = kept-entry one two n long few erased same s.loads stored image.block image.def entry cpu s.enters;
    digest = kept-digest image s.loads (agree one two n s.loads long same stored) s.digest;
    delta = s.delta;
  }

  -- two windows have the same image, with the same loop and the same loads
  pub record IsKept (w : Window) (cpu : Cpu) (trial : Bool) (otp : List ℕ) (s : Started)
      (v : IsValidImage in_flash w cpu trial otp one s) : Type 0 where
    pub valid : IsValidImage in_flash w cpu trial otp two s
    pub image : valid.image ≡ v.image
    pub loop : valid.sound.loop ≡ v.sound.loop
    pub loads : valid.sound.loads ≡ v.sound.loads

  pub kept-valid : (w : Window) (cpu : Cpu) (trial : Bool) (otp : List ℕ) (s : Started)
      (v : IsValidImage in_flash w cpu trial otp one s) → AreStoredIn n v.sound.loads
      → IsKept w cpu trial otp s v
  unfolding kept-sound
  kept-valid w cpu trial otp s v stored = record {
    valid = record {
      image = v.image;
      entry = v.entry;
      sound = kept-sound cpu v.image v.entry v.sound stored;
      tried = v.tried;
      listed = v.listed;
      reached = v.reached;
      started = v.started;
    };
    image = refl;
    loop = refl;
    loads = refl;
  }
