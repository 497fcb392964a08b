use Rattle.std.proofs.Common.{◌≡◌, ℕ, List, [], Vec, Global, false, length, refl, ap}
use Rattle.script_text.specs.declared.reading.Begun.{Begun}
use Rattle.script_text.specs.Reading.{Before, start, state_from}
use Rattle.script_text.proofs.TextLemmas.{script-read, whole-fault, whole-text}
use Rattle.script_text.proofs.reading.read_text.Goals as goal

-- before the first line
abbrev first : Vec ℕ Global → Begun
first bytes = record { script = record { bytes = bytes; records = 0 }; next = 1; ended = false }

abbrev at-size : ℕ → Before
at-size n = record { next = 1; ended = false; count = 0; size = n }

is-start : (bytes : Vec ℕ Global) → bytes.items ≡ [] → state_from (first bytes) ≡ start
is-start bytes none = ap (λ (bs : List ℕ). at-size (length bs)) none

pub returns-in-Err-clause-err : goal.returns-in-Err-clause-err
returns-in-Err-clause-err c = λ no_memory.
    whole-fault c.args.image.now c.args.text.now (first c.new.result) c.in-Err.fault
    (is-start c.new.result c.new.ensures.items) (c.in-Err.ensures.err no_memory)

pub returns-in-Ok-add_end-clause-ok : goal.returns-in-Ok-add_end-clause-ok
returns-in-Ok-add_end-clause-ok c =
    whole-text c.args.image.now c.args.text.now (first c.new.result) c.add_lines.new.begun c.add_end.new.script
    (is-start c.new.result c.new.ensures.items) c.new.ensures.items refl c.in-Ok.ensures.ok c.in-Ok-add_end.ensures

pub returns-in-Ok-add_end-clause-script : goal.returns-in-Ok-add_end-clause-script
returns-in-Ok-add_end-clause-script c =
    script-read c.args.image.now c.args.text.now (first c.new.result) c.add_lines.new.begun c.add_end.new.script
    c.new.ensures.items refl c.in-Ok.ensures.room c.in-Ok.ensures.ok c.in-Ok-add_end.ensures
