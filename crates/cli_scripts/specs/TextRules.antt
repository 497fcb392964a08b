-- What is right for a script as text, for the script of a text and for that of a UF2 file, by the
-- rules.
use Rattle.std.specs.Prelude.{◌≡◌, ℕ, ◌+◌, List, [], length, Ok}
use Rattle.std.specs.List.{AllByRecursion, flat_map}
use Rattle.boot_script.specs.Events.{EventView}
use Rattle.boot_script.specs.Scripts.{events}
use Rattle.cli_course.specs.declared.status.Status.TheVariants.{Done}
use Rattle.cli_course.specs.Outcomes.{AnswerView, one_file}
use Rattle.script_text.specs.declared.script.TextError.{TextError}
use Rattle.script_text.specs.Listing.{listed}
use Rattle.script_text.specs.Meaning.{IsScriptTextFault, IsScriptText}
use Rattle.script_text.specs.Reading.{script_of}
use Rattle.cli_scripts.specs.Copies.{copy_events, copy_line}
use Rattle.cli_scripts.specs.TextWorks.{script_line, text_fault}

-- `list`: the outcome prints the text of the script's events up to its end, and writes nothing
pub record IsListOf (script : List ℕ) (o : AnswerView) : Type 0 where
  pub happened : List EventView
  pub reads : events script ≡ Ok happened
  pub status : o.status ≡ Done
  pub text : o.text ≡ listed happened
  pub files : o.files ≡ []

-- `script`: the text, whose lines may take bytes of an image, is one of events; the outcome prints
-- how many records their script has with its end, and writes the script
pub record IsWrittenOf (image text out : List ℕ) (o : AnswerView) : Type 0 where
  pub happened : List EventView
  pub spelled : IsScriptText image text happened
  pub status : o.status ≡ Done
  pub told : o.text ≡ script_line (length happened + 1)
  pub files : o.files ≡ one_file out (script_of happened)

-- a text has a fault, and is refused for it
pub record IsTextRefused (name image text blamed fault : List ℕ) : Type 0 where
  pub error : TextError
  pub wrong : IsScriptTextFault image text error
  pub blames : blamed ≡ name
  pub tells : fault ≡ text_fault error

-- `copy`: the file is these blocks of 512 bytes; the outcome prints how many, and writes the
-- script that copies them in file order
pub record IsCopyOf (uf2 out : List ℕ) (o : AnswerView) : Type 0 where
  pub blocks : List (List ℕ)
  pub each : AllByRecursion (λ (block : List ℕ). length block ≡ 512) blocks
  pub whole : uf2 ≡ flat_map (λ block. block) blocks
  pub status : o.status ≡ Done
  pub told : o.text ≡ copy_line (length blocks)
  pub files : o.files ≡ one_file out (script_of (copy_events blocks))
