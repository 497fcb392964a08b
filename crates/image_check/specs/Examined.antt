-- The image of a window before its digest is made: what every rule before the digest rule lets
-- pass.
use Rattle.std.specs.Prelude.{ℕ, Bool, List, length, Result, Ok, Err}
use Rattle.arrayvec.specs.ArrayVec.{ArrayVec}
use Rattle.pico_board.specs.declared.boot.Cpu.{Cpu}
use Rattle.pico_board.specs.declared.window.Window.{Window}
use Rattle.block_codec.specs.declared.definition.Def.{Def}
use Rattle.image_def.specs.declared.started.Started.{Started}
use Rattle.load_map.specs.declared.load.Load.{Load}
use Rattle.image_check.specs.declared.addressing.Addressing.{Addressing}
use Rattle.image_check.specs.declared.examining.Candidate.{Candidate}
use Rattle.image_check.specs.declared.why.Why.{Why}
use Rattle.image_check.specs.Answers.{and_then, and_unless}
use Rattle.image_check.specs.declared.examining.Defined.{Defined}
use Rattle.image_check.specs.Image.{defined_in, started_of}
use Rattle.image_check.specs.Rules.{delta_fault, digest_fault, entry_answer, map_answer, rollback_fault, trial_fault}

-- the trial rule and the rollback rule, in this order
abbrev pub admitted_in : Bool → List ℕ → Def → Result (Unit {0}) Why
admitted_in trial otp def =
    and_unless (trial_fault trial def) (and_unless (rollback_fault otp def) (Ok tt))

-- the map rule and the entry rule, in this order
abbrev pub loaded_in : Addressing → Cpu → List ℕ → Defined → Result Candidate Why
loaded_in a cpu bytes image =
    and_then (map_answer a (length bytes) image.block image.def) (λ loads.
    and_then (entry_answer a.base bytes cpu image.block image.def loads) (λ entry.
    Ok (record {
      block = image.block;
      def = image.def;
      loads = record { items = loads };
      entry = entry;
    })))

-- the image that the rules before the digest rule let pass, or the answer of the first that fails
unfoldable pub examined_in : Addressing → Cpu → Bool → List ℕ → List ℕ → Result Candidate Why
examined_in a cpu trial otp bytes =
    and_then (defined_in cpu bytes) (λ image.
    and_then (admitted_in trial otp image.def) (λ u. loaded_in a cpu bytes image))

-- the record of a candidate whose digest is right, or the answer of the rule on the window's delta
abbrev pub record_in : Window → Candidate → Result Started Why
record_in window c =
    and_unless (delta_fault c.def.delta)
    (Ok (started_of window (record { block = c.block; def = c.def }) c.entry))

-- the record of a candidate of which the last two rules hold, those on the digest and on the
-- window's delta; or the answer of the first of them that fails
abbrev pub confirmed_in : Window → List ℕ → Candidate → Result Started Why
confirmed_in window bytes c =
    and_unless (digest_fault bytes c.block c.def c.loads.items c.def.digest) (record_in window c)

-- an answer of the code, which keeps the loads in an `ArrayVec`, with the loads as a list
abbrev pub map_answered : Result (ArrayVec Load) Why → Result (List Load) Why
map_answered (Ok loads) = Ok loads.items
map_answered (Err why) = Err why
