-- The image of a window, or the answer of the first rule that fails. A function of the window's
-- bytes and of the OTP judges rule by rule (RP2350 Datasheet, chapter 5, Bootrom; this project's
-- own where the datasheet is open).
use Rattle.std.specs.Prelude.{ℕ, ◌+◌, ◌*◌, Bool, List, length, Ok, Result}
use Rattle.pico_board.specs.declared.boot.Cpu.{Cpu}
use Rattle.pico_board.specs.declared.window.Window.{Window}
use Rattle.pico_board.specs.Content.{Content, window_bytes}
use Rattle.block_codec.specs.declared.definition.EntryPoint.{EntryPoint}
use Rattle.block_loop.specs.Loop.{loop_of}
use Rattle.image_def.specs.declared.started.Started.{Started}
use Rattle.image_def.specs.Flags.{is_trial}
use Rattle.image_check.specs.declared.addressing.Addressing.{Addressing}
use Rattle.image_check.specs.declared.examining.Defined.{Defined}
use Rattle.image_check.specs.declared.why.Why.{Why}
use Rattle.image_check.specs.Addressing.{in_flash}
use Rattle.image_check.specs.Answers.{and_then, and_unless}
use Rattle.image_check.specs.Rules.{loop_answer, definition_answer, items_answer, trial_fault, rollback_fault, map_answer, entry_answer, digest_fault, delta_fault}

-- the first block, the loop, the definition, the processor and the items, in this order
abbrev pub defined_in : Cpu → List ℕ → Result Defined Why
defined_in cpu bytes =
    and_then (loop_answer (loop_of bytes)) (λ loop.
    and_then (definition_answer cpu loop) (λ block.
    and_then (items_answer block) (λ def.
    Ok (record { block = block; def = def }))))

-- the map, the entry, the digest and the delta, in this order: where the image starts
abbrev pub entered_in : Addressing → Cpu → List ℕ → Defined → Result EntryPoint Why
entered_in a cpu bytes image =
    and_then (map_answer a (length bytes) image.block image.def) (λ loads.
    and_then (entry_answer a.base bytes cpu image.block image.def loads) (λ entry.
    and_unless (digest_fault bytes image.block image.def loads image.def.digest)
    (and_unless (delta_fault image.def.delta)
    (Ok entry))))

-- the record of an image in its window
abbrev pub started_of : Window → Defined → EntryPoint → Started
started_of window image entry = record {
  window = window;
  block = image.block.at;
  image_at = image.block.at + 4 * image.def.image_word;
  pc = entry.pc;
  sp = entry.sp;
  limit = entry.limit;
  version = image.def.version;
  rollback = image.def.rollback;
  rows = image.def.rows;
  trial = is_trial image.def.flags;
}

-- the image of a window with these bytes, or the answer of the first of the rules that fails
unfoldable pub image_in : Addressing → Window → Cpu → Bool → List ℕ → List ℕ → Result Started Why
image_in a window cpu trial otp bytes =
    and_then (defined_in cpu bytes) (λ image.
    and_unless (trial_fault trial image.def)
    (and_unless (rollback_fault otp image.def)
    (and_then (entered_in a cpu bytes image) (λ entry.
    Ok (started_of window image entry)))))

-- the image of a window of a flash, or why there is none
abbrev pub image_at : Content → Window → Cpu → Bool → Result Started Why
image_at c window cpu trial = image_in in_flash window cpu trial c.otp (window_bytes c window)
