-- An image that is sound in a window is sound in every longer one with erased bytes behind it.
use Rattle.std.proofs.Common.{◌≡◌, ℕ, ◌+◌, ◌≤◌, Bool, List, ◌++◌, length, Option, Some, None, IfSome, Ok, sym, ap, subst, ◌∙◌, inl, inr, arith}
use Rattle.std.specs.Prelude.{slice_get}
use Rattle.std.specs.Option.{option_and_then}
use Rattle.std.proofs.lemmas.List.{length-append}
use Rattle.pico_board.specs.declared.boot.Cpu.{Cpu}
use Rattle.pico_board.specs.declared.boot.Cpu.TheVariants.{Arm, Riscv}
use Rattle.pico_board.specs.declared.window.Window.{Window}
use Rattle.block_codec.specs.declared.definition.Def.{Def}
use Rattle.block_codec.specs.declared.definition.EntryPoint.{EntryPoint}
use Rattle.block_codec.specs.declared.items.Item.{Item}
use Rattle.block_codec.specs.Blocks.{BlockView}
use Rattle.block_codec.specs.Erased.{AreErased}
use Rattle.block_codec.specs.Items.{items_of}
use Rattle.block_loop.proofs.ChainLemmas.{loop_of-loop}
use Rattle.block_loop.proofs.SameLoopLemmas.{IsLoop-from_answer, loop_of-erased}
use Rattle.image_def.specs.declared.started.Started.{Started}
use Rattle.load_map.specs.declared.addresses.TheConstants.{SRAM_START}
use Rattle.load_map.specs.declared.load.Load.{Load}
use Rattle.load_map.specs.Stored.{AreStoredIn}
use Rattle.load_map.proofs.LengtheningLemmas.{digest-longer, word-longer}
use Rattle.load_map.proofs.LongerWindowLemmas.{loads_of-longer}
use Rattle.image_check.specs.declared.addressing.Addressing.{Addressing}
use Rattle.image_check.specs.declared.entry.Source.{Source}
use Rattle.image_check.specs.declared.examining.Defined.{Defined}
use Rattle.image_check.specs.Changes.{moved_to}
use Rattle.image_check.specs.Entering.{IsEntry, IsRunnable, IsSource, table_address}
use Rattle.image_check.specs.Rules.{item_loads, map_loads}
use Rattle.image_check.specs.Valid.{HasItsDigest, IsDefined, IsSound, IsValidImage}
use Rattle.image_check.proofs.MapLemmas.{map-stored}

module _ (a : Addressing) (cpu : Cpu) (w f : List ℕ) (erased : AreErased f)
    (below : a.base + length (w ++ f) ≤ SRAM_START) where
  longer-defined : (loop : List BlockView) (image : Defined) → IsDefined cpu w loop image
      → IsDefined cpu (w ++ f) loop image
  longer-defined loop image d = record {
    closes = IsLoop-from_answer (w ++ f) loop (loop_of-erased w f erased ∙ loop_of-loop w loop d.closes);
    defines = d.defines;
    items = d.items;
  }

  longer-map : (b : BlockView) (def : Def) (loads : List Load) → map_loads a (length w) b def ≡ Ok loads
      → map_loads a (length (w ++ f)) b def ≡ Ok loads
  longer-map b def loads = go (option_and_then (slice_get (items_of b.items)) def.map_item)
    where
      go : (item : Option Item) → item_loads a (length w) b item ≡ Ok loads
          → item_loads a (length (w ++ f)) b item ≡ Ok loads
      go None is = is
      go (Some item) is =
          let long = length-append w f in
          loads_of-longer a.base (length w) (length (w ++ f)) a.in_place b item loads (omega (arith, long)) is

  longer-source : (def : Def) (loads : List Load) → AreStoredIn (length w) loads
      → (item : Option EntryPoint) (source : Source) (p : Cpu)
      → IsSource a.base w p def loads item source → IsSource a.base (w ++ f) p def loads item source
  longer-source def loads stored (Some entry) source p is = is
  longer-source def loads stored None source Riscv is = is
  longer-source def loads stored None source Arm is =
      let table = table_address a.base def in
      record {
        sp = word-longer a.base w f loads table source.entry.sp stored below is.sp;
        pc = word-longer a.base w f loads (table + 4) source.entry.pc stored below is.pc;
        limit = is.limit;
        from = is.from;
      }

  longer-runnable : (source : Source) → IsRunnable a.base (length w) source → IsRunnable a.base (length (w ++ f)) source
  longer-runnable source (inl window) = let long = length-append w f in inl (window.0, omega (arith, long, window.1))
  longer-runnable source (inr sram) = inr sram

  longer-entry : (b : BlockView) (def : Def) (loads : List Load) (entry : EntryPoint) → AreStoredIn (length w) loads
      → IsEntry a.base w cpu b def loads entry → IsEntry a.base (w ++ f) cpu b def loads entry
  longer-entry b def loads entry stored e = record {
    source = e.source;
    found = longer-source def loads stored def.entry_point e.source cpu e.found;
    apart = e.apart;
    runs = longer-runnable e.source e.runs;
    is = e.is;
  }

  longer-digest : (image : Defined) (loads : List Load) → AreStoredIn (length w) loads → HasItsDigest w image loads
      → HasItsDigest (w ++ f) image loads
  longer-digest image loads stored has =
      subst (λ d. IfSome image.def.digest (λ value. value ≡ d))
      (sym (digest-longer w f loads image.block image.def stored)) has

  -- all rules but the trial and the rollback rule hold of the longer window too
  pub longer-sound : (image : Defined) (entry : EntryPoint) → IsSound a cpu w image entry
      → IsSound a cpu (w ++ f) image entry
  longer-sound image entry s =
      let stored = map-stored a (length w) image.block image.def s.loads s.map in
      record {
        loop = s.loop;
        loads = s.loads;
        defined = longer-defined s.loop image s.defined;
        map = longer-map image.block image.def s.loads s.map;
        enters = longer-entry image.block image.def s.loads entry stored s.enters;
        digest = longer-digest image s.loads stored s.digest;
        delta = s.delta;
      }

  -- so the same image is valid in the longer window
  pub longer-valid : (one two : Window) (trial : Bool) (otp : List ℕ) (s : Started)
      → IsValidImage a one cpu trial otp w s
      → IsValidImage a two cpu trial otp (w ++ f) (moved_to two s)
  longer-valid one two trial otp s v = record {
    image = v.image;
    entry = v.entry;
    sound = longer-sound v.image v.entry v.sound;
    tried = v.tried;
    listed = v.listed;
    reached = v.reached;
    started = ap (moved_to two) v.started;
  }
