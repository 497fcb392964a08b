-- What the types of the code stand for.
use Rattle.std.specs.Prelude.{ℕ, Result, Ok, Err, List, map, Vec}
use Rattle.std.specs.declared.alloc.Global.{Global}
use Rattle.pico_board.specs.declared.store.StoreFail.{StoreFail}
use Rattle.pico_board.specs.Files.{File}
use Rattle.cli_course.specs.declared.status.Status.{Status}
use Rattle.cli_course.specs.declared.course.LimitedInput.{LimitedInput}
use Rattle.cli_course.specs.declared.answers.OutFile.{OutFile}
use Rattle.cli_course.specs.declared.answers.Answer.{Answer}
use Rattle.cli_course.specs.Outcomes.{LimitedInputView, AnswerView}

-- an input, with its name as text
abbrev pub limited_input_from : LimitedInput → LimitedInputView
limited_input_from input = record { name = input.name.now; limit = input.limit }

-- a file to write, with its name as text
abbrev pub out_file_from : OutFile → File
out_file_from file = record { name = file.name.now; bytes = file.bytes.items }

-- an answer, as an outcome
abbrev pub answer_from : Answer → AnswerView
answer_from answer =
    record {
      status = answer.status;
      text = answer.text.items;
      files = map out_file_from answer.files.items;
    }

-- the bytes of files that were read
abbrev pub bytes_of_files : List (Vec ℕ Global) → List (List ℕ)
bytes_of_files files = map (λ (file : Vec ℕ Global). file.items) files

-- what the read of a file answered
abbrev pub read_of : Result (Vec ℕ Global) StoreFail → Result (List ℕ) StoreFail
read_of (Ok bytes) = Ok bytes.items
read_of (Err fail) = Err fail

-- what the reads of all inputs answered
abbrev pub reading_of : Result (Vec (Vec ℕ Global) Global) Status → Result (List (List ℕ)) Status
reading_of (Ok files) = Ok (bytes_of_files files.items)
reading_of (Err status) = Err status
