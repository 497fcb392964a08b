-- What a run leaves: the calls that it made, and the files that stand afterwards.
use Rattle.std.specs.Prelude.{ℕ, ⊤, ◌≡◌, ◌⊎◌, ◌+◌, take, List, [], ◌∷◌, ◌++◌, Option, Some, None, Ok, Err}
use Rattle.pico_board.specs.declared.sink.SinkFail.{SinkFail}
use Rattle.pico_board.specs.Files.{File, StoreState, Access, Reads, Writes, IsReadOf, IsKeptBut, Lacks, ServesAll, file_of}
use Rattle.pico_board.specs.Puts.{SinkState, Put, IsPut, Takes}
use Rattle.cli_course.specs.declared.status.Status.{Status}
use Rattle.cli_course.specs.Outcomes.{AreBytes, LimitedInputView, AnswerView}

-- each input is of bytes; where the files are told, it was read as they say
abbrev pub AreRead : Option (List File) → List LimitedInputView → List (List ℕ) → Type 0
AreRead files [] [] = ⊤
AreRead files (input ∷ inputs) (bytes ∷ read) =
    AreBytes bytes × IsReadOf files input.name input.limit bytes
    × AreRead files inputs read
AreRead files _ _ = ⊥

-- told files lack the name of an input
abbrev pub LacksOne : Option (List File) → List LimitedInputView → Type 0
LacksOne files [] = ⊥
LacksOne files (input ∷ inputs) = Lacks files input.name ⊎ LacksOne files inputs

-- what is read of whole files: one byte more than the limit, or all where a file has fewer
abbrev pub cut : List LimitedInputView → List (List ℕ) → List (List ℕ)
cut (input ∷ inputs) (bytes ∷ read) = take (input.limit + 1) bytes ∷ cut inputs read
cut _ _ = []

-- the calls that read these bytes
abbrev pub read_calls : List LimitedInputView → List (List ℕ) → List Access
read_calls (input ∷ inputs) (bytes ∷ read) =
    Reads input.name input.limit (Ok bytes) ∷ read_calls inputs read
read_calls _ _ = []

-- the calls that write these files
abbrev pub write_calls : List File → List Access
write_calls [] = []
write_calls (file ∷ files) = Writes file.name file.bytes (Ok tt) ∷ write_calls files

-- the run made these calls: it read the inputs, wrote the files of the outcome and put its text
pub record DoesRun {S : Type 0} (state : S → StoreState) (history : S → List Access → Type 0)
    {K : Type 0} (shown : K → SinkState) (taken : K → List Put → Type 0)
    (inputs : List LimitedInputView) (read : List (List ℕ)) (o : AnswerView) (old : S) (before : K)
    (new : S)
    (after : K) : Type 0 where
  pub calls : ServesAll state history old (read_calls inputs read ++ write_calls o.files) new
  pub puts : Takes shown taken before (record { bytes = o.text; answer = Ok tt }) after

-- the files after writes in this order; the first of a name counts
abbrev pub saved : List File → List File → List File
saved [] old = old
saved (file ∷ files) old = saved files (file ∷ old)

-- told files are told afterwards: these are written, and every other name is as it was
abbrev pub IsSaved : List File → Option (List File) → Option (List File) → Type 0
IsSaved files None new = new ≡ None
IsSaved files (Some old) None = ⊥
IsSaved files (Some old) (Some new) =
    (name : List ℕ) → file_of new name ≡ file_of (saved files old) name

-- told files with one more
abbrev pub with_stored_file : File → Option (List File) → Option (List File)
with_stored_file file None = None
with_stored_file file (Some old) = Some (file ∷ old)

-- one of the writes failed: those before it stand; nothing is known of its name; every other name
-- has what it had
abbrev pub LeftAt : Option (List File) → List File → Option (List File) → Type 0
LeftAt old [] new = ⊥
LeftAt old (file ∷ files) new = IsKeptBut old file.name new
    ⊎ LeftAt (with_stored_file file old) files new

-- a write failed in a run on these inputs with the outcome by their bytes
pub record IsCutShort (told : Option (List File)) (inputs : List LimitedInputView)
    (outcome : List (List ℕ) → AnswerView) (new : Option (List File)) : Type 0 where
  pub read : List (List ℕ)
  pub are_read : AreRead told inputs read
  pub left : LeftAt told (outcome read).files new

-- all files were written, and the put failed so
pub record IsPutShort {K : Type 0} (shown : K → SinkState) (taken : K → List Put → Type 0)
    (told : Option (List File)) (inputs : List LimitedInputView)
    (outcome : List (List ℕ) → AnswerView) (new : Option (List File)) (before : K) (fail : SinkFail)
    (after : K) : Type 0 where
  pub read : List (List ℕ)
  pub are_read : AreRead told inputs read
  pub saved : IsSaved (outcome read).files told new
  pub puts : Takes shown taken before
      (record { bytes = (outcome read).text; answer = Err fail }) after

-- told files and told bytes are as the outcome says: its status, its text, and its files
pub record ShowsOutcome (o : AnswerView) (s : StoreState) (k : SinkState) (status : Status)
    (t : StoreState) (l : SinkState) : Type 0 where
  pub answer : status ≡ o.status
  pub text : IsPut k.bytes o.text l.bytes
  pub files : IsSaved o.files s.files t.files
