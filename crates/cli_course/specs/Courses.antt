-- The course of a run: its reads, one after another, until one fails; then its writes, one after
-- another, until one fails; then one put.
use Rattle.std.specs.Prelude.{ℕ, ◌≡◌, ◌⊎◌, Option, Some, None, Result, Ok, Err, List, [], ◌∷◌, ◌++◌}
use Rattle.pico_board.specs.declared.store.StoreFail.{StoreFail}
use Rattle.pico_board.specs.declared.store.StoreFail.TheVariants.{Fault as StoreFault, Memory as StoreMemory}
use Rattle.pico_board.specs.declared.sink.SinkFail.{SinkFail}
use Rattle.pico_board.specs.declared.sink.SinkFail.TheVariants.{Fault as SinkFault, Memory as SinkMemory}
use Rattle.pico_board.specs.Files.{File, StoreState, Access, Reads, Writes, Serves}
use Rattle.pico_board.specs.Puts.{SinkState, Put, Takes}
use Rattle.cli_course.specs.declared.status.Status.{Status}
use Rattle.cli_course.specs.declared.status.Status.TheVariants.{ReadFault, WriteFault, OutputFault, Memory}
use Rattle.cli_course.specs.Outcomes.{AreBytes, AnswerView, LimitedInputView}

-- the status of a run whose read failed
abbrev pub unread_status : StoreFail → Status
unread_status StoreFault = ReadFault
unread_status StoreMemory = Memory

-- the status of a run whose write failed
abbrev pub unwritten_status : StoreFail → Status
unwritten_status StoreFault = WriteFault
unwritten_status StoreMemory = Memory

-- the status of a run whose put was answered so; without a failed put it would end with this
-- status
abbrev pub put_status : Status → Result (Unit {0}) SinkFail → Status
put_status status (Ok done) = status
put_status status (Err SinkFault) = OutputFault
put_status status (Err SinkMemory) = Memory

-- there was no memory, and nothing more was done
pub record Stops {S : Type 0} (old : S) (end : Result (List (List ℕ)) Status)
    (new : S) : Type 0 where
  pub same : new ≡ old
  pub ends : end ≡ Err Memory

module _ {S : Type 0} (state : S → StoreState) (history : S → List Access → Type 0) where
  -- the inputs are read in their order, each up to one byte past its limit, until a read fails or
  -- there is no memory; the bytes `read` were read before; the end is all the bytes, or the status
  -- of the run
  abbrev pub ReadsIn : List LimitedInputView → List (List ℕ) → S → Result (List (List ℕ)) Status
      → S → Type 0
  ReadsIn [] read old end new = Stops old end new ⊎ ((new ≡ old) × (end ≡ Ok read))
  ReadsIn (input ∷ inputs) read old end new =
      Stops old end new
      ⊎ (((fail : StoreFail)
      × Serves state history old (Reads input.name input.limit (Err fail)) new
      × (end ≡ Err (unread_status fail)))
      ⊎ ((bytes : List ℕ) × (mid : S) × AreBytes bytes
      × Serves state history old (Reads input.name input.limit (Ok bytes)) mid
      × ReadsIn inputs (read ++ bytes ∷ []) mid end new))

  -- the files are written in their order until a write fails; the end is the status of the run, or
  -- none where all are written
  abbrev pub WritesOut : List File → S → Option Status → S → Type 0
  WritesOut [] old end new = (new ≡ old) × (end ≡ None)
  WritesOut (file ∷ files) old end new =
      ((fail : StoreFail) × Serves state history old (Writes file.name file.bytes (Err fail)) new
      × (end ≡ Some (unwritten_status fail)))
      ⊎ ((mid : S) × Serves state history old (Writes file.name file.bytes (Ok tt)) mid
      × WritesOut files mid end new)

-- the text was put in one call; where the put succeeded, the status is the wanted one
pub record PutsOnce {K : Type 0} (shown : K → SinkState) (taken : K → List Put → Type 0)
    (before : K) (text : List ℕ) (wanted status : Status) (after : K) : Type 0 where
  pub answer : Result (Unit {0}) SinkFail
  pub ends : status ≡ put_status wanted answer
  pub takes : Takes shown taken before (record { bytes = text; answer = answer }) after

module _ {S : Type 0} (state : S → StoreState) (history : S → List Access → Type 0)
    {K : Type 0} (shown : K → SinkState) (taken : K → List Put → Type 0) where
  -- the files of an outcome are written, and then its text is put; the sink takes nothing where a
  -- write fails
  pub data Finishes (o : AnswerView) (old : S) (before : K) (status : Status) (new : S)
      (after : K) : Type 0 where
    unwritten : WritesOut state history o.files old (Some status) new → after ≡ before
        → Finishes o old before status new after
    finished : WritesOut state history o.files old None new
        → PutsOnce shown taken before o.text o.status status after
        → Finishes o old before status new after

  -- A run on these inputs with the outcome by their bytes ends with this status. It reads the
  -- inputs. There may be no memory for the work. It writes the files of the outcome and puts its
  -- text.
  pub data Runs (inputs : List LimitedInputView) (outcome : List (List ℕ) → AnswerView) (old : S)
      (before : K)
      (status : Status) (new : S) (after : K) : Type 0 where
    not_read : ReadsIn state history inputs [] old (Err status) new → after ≡ before
        → Runs inputs outcome old before status new after
    no_room : (read : List (List ℕ)) → ReadsIn state history inputs [] old (Ok read) new
        → status ≡ Memory → after ≡ before → Runs inputs outcome old before status new after
    was_read : (read : List (List ℕ)) → (mid : S)
        → ReadsIn state history inputs [] old (Ok read) mid
        → Finishes (outcome read) mid before status new after
        → Runs inputs outcome old before status new after
