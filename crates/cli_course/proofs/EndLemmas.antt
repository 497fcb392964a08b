-- How a run ends: five ways, and what each says of the store and of the sink.
use Rattle.std.proofs.Common.{ℕ, ◌≡◌, ◌⊎◌, ◌≢◌, true, false, IsTrue, Result, Ok, Err, Some, None, List, [], length, refl, sym, ◌∙◌, ap, subst, inl, inr}
use Rattle.pico_board.specs.Board.{Rose}
use Rattle.pico_board.specs.declared.sink.SinkFail.{SinkFail}
use Rattle.pico_board.specs.declared.sink.SinkFail.TheVariants.{Fault as SinkFault, Memory as SinkMemory}
use Rattle.pico_board.specs.Files.{StoreState, Access, ServesAll}
use Rattle.pico_board.specs.Puts.{SinkState, Put, Takes}
use Rattle.cli_course.specs.declared.status.Status.{Status}
use Rattle.cli_course.specs.declared.status.Status.TheVariants.{ReadFault, WriteFault, OutputFault, Memory}
use Rattle.cli_course.specs.Outcomes.{LimitedInputView, AnswerView, is_finished}
use Rattle.cli_course.specs.Courses.{Runs, not_read, no_room, was_read, Finishes, unwritten, finished, put_status}
use Rattle.cli_course.specs.Ends.{AreRead, LacksOne, read_calls, write_calls, IsSaved, LeftAt, DoesRun, IsCutShort, IsPutShort}
use Rattle.cli_course.proofs.PhaseLemmas.{AllRead, all-read, NotRead, no_memory, at_fault, not-read, AllWritten, all-written, not-written, fails-more, serves-append}

-- a status with which the whole text was put is none of the others
pub not-finished : (status other : Status) → is_finished status ≡ true → status ≡ other → is_finished other ≡ false → ⊥
not-finished status other ends is not = let e : true ≡ false = sym ends ∙ (ap is_finished is ∙ not) in cc

module _ {S : Type 0} (state : S → StoreState) (history : S → List Access → Type 0) {K : Type 0} (shown : K → SinkState)
    (taken : K → List Put → Type 0)
    (inputs : List LimitedInputView) (outcome : List (List ℕ) → AnswerView) where
  -- how a run ends
  pub data RunEnd (old : S) (before : K) (status : Status) (new : S) (after : K) : Type 0 where
    room : status ≡ Memory → after ≡ before → (state new).files ≡ (state old).files → RunEnd old before status new after
    unread : status ≡ ReadFault → inputs ≢ [] → after ≡ before → (state new).files ≡ (state old).files
        → Rose (state old).read_faults (state new).read_faults
        → (IsTrue (state old).steady → LacksOne (state old).files inputs) → RunEnd old before status new after
    cut_short : IsCutShort (state old).files inputs outcome (state new).files → after ≡ before
        → (((status ≡ WriteFault) × Rose (state old).write_faults (state new).write_faults
        × (IsTrue (state old).steady → ⊥)) ⊎ (status ≡ Memory))
        → RunEnd old before status new after
    whole : (read : List (List ℕ)) → AreRead (state old).files inputs read → length read ≡ length inputs
        → IsSaved (outcome read).files (state old).files (state new).files
        → DoesRun state history shown taken inputs read (outcome read) old before new after
        → status ≡ (outcome read).status → RunEnd old before status new after
    put_fault : IsPutShort shown taken (state old).files inputs outcome (state new).files before SinkFault after
        → status ≡ OutputFault
        → RunEnd old before status new after
    put_memory : IsPutShort shown taken (state old).files inputs outcome (state new).files before SinkMemory after
        → status ≡ Memory
        → RunEnd old before status new after

  after-unread : (old new : S) (before after : K) (status : Status) → NotRead state history inputs old new status
      × ((state new).files ≡ (state old).files) → after ≡ before
      → RunEnd old before status new after
  after-unread old new before after status (no_memory is, files) same = room is same files
  after-unread old new before after status (at_fault is some rose lacks, files) same =
      unread is some same files rose lacks

  after-put : (old mid new : S) (before after : K) (status : Status) (read : List (List ℕ))
      → AllRead state history inputs [] read old mid
      → AllWritten state history (outcome read).files mid new → (answer : Result (Unit {0}) SinkFail)
      → status ≡ put_status (outcome read).status answer
      → Takes shown taken before (record { bytes = (outcome read).text; answer = answer }) after
      → RunEnd old before status new after
  after-put old mid new before after status read r w (Ok done) is takes =
      let are : AreRead (state old).files inputs read = subst (AreRead (state old).files inputs) (sym r.is) r.are in
      let long : length read ≡ length inputs = ap (λ xs. length xs) r.is ∙ r.long in
      let calls : ServesAll state history old (read_calls inputs read) mid =
      subst (λ xs. ServesAll state history old (read_calls inputs xs) mid) (sym r.is) r.calls in
      whole read are long (subst (λ files. IsSaved (outcome read).files files (state new).files) r.files w.is)
      (record {
        calls = serves-append state history (read_calls inputs read)
            (write_calls (outcome read).files) old mid new calls w.calls;
        puts = takes;
      }) is
  after-put old mid new before after status read r w (Err SinkFault) is takes =
      put_fault (record {
        read = read;
        are_read = subst (AreRead (state old).files inputs) (sym r.is) r.are;
        saved = subst (λ files. IsSaved (outcome read).files files (state new).files) r.files w.is;
        puts = takes;
      }) is
  after-put old mid new before after status read r w (Err SinkMemory) is takes =
      put_memory (record {
        read = read;
        are_read = subst (AreRead (state old).files inputs) (sym r.is) r.are;
        saved = subst (λ files. IsSaved (outcome read).files files (state new).files) r.files w.is;
        puts = takes;
      }) is

  after-read : (old mid new : S) (before after : K) (status : Status) (read : List (List ℕ))
      → AllRead state history inputs [] read old mid
      → Finishes state history shown taken (outcome read) mid before status new after
      → RunEnd old before status new after
  after-read old mid new before after status read r (unwritten writes same) =
      let w = not-written state history (outcome read).files mid new (Some status) status refl writes in
      cut_short (record {
        read = read;
        are_read = subst (AreRead (state old).files inputs) (sym r.is) r.are;
        left = subst (λ files. LeftAt files (outcome read).files (state new).files) r.files w.left;
      }) same (fails-more state history old mid new status r.goes w.fails)
  after-read old mid new before after status read r (finished writes once) =
      after-put old mid new before after status read r
      (all-written state history (outcome read).files mid new None refl writes) once.answer once.ends once.takes

  pub run-end : (old new : S) (before after : K) (status : Status)
      → Runs state history shown taken inputs outcome old before status new after
      → RunEnd old before status new after
  run-end old new before after status (not_read reads same) =
      after-unread old new before after status
      (not-read state history inputs [] old new (Err status) status refl reads) same
  run-end old new before after status (no_room read reads is same) =
      room is same (all-read state history inputs [] read old new (Ok read) refl reads).files
  run-end old new before after status (was_read read mid reads finishes) =
      after-read old mid new before after status read
      (all-read state history inputs [] read old mid (Ok read) refl reads) finishes

  -- what each way says, where every outcome is a text with its status
  module _ (ends : (read : List (List ℕ)) → is_finished (outcome read).status ≡ true) where
    -- the whole text was put
    pub record Finished (old : S) (before : K) (status : Status) (new : S) (after : K) : Type 0 where
      pub read : List (List ℕ)
      pub are : AreRead (state old).files inputs read
      pub long : length read ≡ length inputs
      pub saved : IsSaved (outcome read).files (state old).files (state new).files
      pub does : DoesRun state history shown taken inputs read (outcome read) old before new after
      pub is : status ≡ (outcome read).status

    pub end-finished : (old new : S) (before after : K) (status : Status) → RunEnd old before status new after
        → is_finished status ≡ true → Finished old before status new after
    end-finished old new before after status (room is same files) h = absurd (not-finished status _ h is refl)
    end-finished old new before after status (unread is some same files rose lacks) h =
        absurd (not-finished status _ h is refl)
    end-finished old new before after status (cut_short cut same (inl (is, rose, not))) h =
        absurd (not-finished status _ h is refl)
    end-finished old new before after status (cut_short cut same (inr is)) h = absurd (not-finished status _ h is refl)
    end-finished old new before after status (whole read are long saved does is) h =
        record { read = read; are = are; long = long; saved = saved; does = does; is = is }
    end-finished old new before after status (put_fault short is) h = absurd (not-finished status _ h is refl)
    end-finished old new before after status (put_memory short is) h = absurd (not-finished status _ h is refl)

    -- the status of an outcome is none of an early end
    finished-not : (read : List (List ℕ)) (status other : Status) → status ≡ (outcome read).status → status ≡ other
        → is_finished other ≡ false → ⊥
    finished-not read status other is h not = not-finished (outcome read).status other (ends read) (sym is ∙ h) not

    pub end-read_fault : (old new : S) (before after : K) (status : Status) → RunEnd old before status new after
        → status ≡ ReadFault
        → Rose (state old).read_faults (state new).read_faults × (after ≡ before)
        × ((state new).files ≡ (state old).files) × (IsTrue (state old).steady → LacksOne (state old).files inputs)
    end-read_fault old new before after status (room is same files) h = let e : Memory ≡ ReadFault = sym is ∙ h in cc
    end-read_fault old new before after status (unread is some same files rose lacks) h = (rose, same, files, lacks)
    end-read_fault old new before after status (cut_short cut same (inl (is, rose, not))) h =
        let e : WriteFault ≡ ReadFault = sym is ∙ h in cc
    end-read_fault old new before after status (cut_short cut same (inr is)) h = let e : Memory ≡ ReadFault =
        sym is ∙ h in cc
    end-read_fault old new before after status (whole read are long saved does is) h =
        absurd (finished-not read status ReadFault is h refl)
    end-read_fault old new before after status (put_fault short is) h = let e : OutputFault ≡ ReadFault =
        sym is ∙ h in cc
    end-read_fault old new before after status (put_memory short is) h = let e : Memory ≡ ReadFault = sym is ∙ h in cc

    pub end-write_fault : (old new : S) (before after : K) (status : Status) → RunEnd old before status new after
        → status ≡ WriteFault
        → Rose (state old).write_faults (state new).write_faults × (after ≡ before)
        × IsCutShort (state old).files inputs outcome (state new).files
        × (IsTrue (state old).steady → ⊥)
    end-write_fault old new before after status (room is same files) h = let e : Memory ≡ WriteFault = sym is ∙ h in cc
    end-write_fault old new before after status (unread is some same files rose lacks) h =
        let e : ReadFault ≡ WriteFault = sym is ∙ h in cc
    end-write_fault old new before after status (cut_short cut same (inl (is, rose, not))) h = (rose, same, cut, not)
    end-write_fault old new before after status (cut_short cut same (inr is)) h = let e : Memory ≡ WriteFault =
        sym is ∙ h in cc
    end-write_fault old new before after status (whole read are long saved does is) h =
        absurd (finished-not read status WriteFault is h refl)
    end-write_fault old new before after status (put_fault short is) h = let e : OutputFault ≡ WriteFault =
        sym is ∙ h in cc
    end-write_fault old new before after status (put_memory short is) h = let e : Memory ≡ WriteFault = sym is ∙ h in cc

    pub end-output_fault : (old new : S) (before after : K) (status : Status) → RunEnd old before status new after
        → status ≡ OutputFault
        → Rose (shown before).faults (shown after).faults
        × IsPutShort shown taken (state old).files inputs outcome (state new).files before SinkFault after
        × (IsTrue (shown before).steady → ⊥)
    end-output_fault old new before after status (room is same files) h = let e : Memory ≡ OutputFault =
        sym is ∙ h in cc
    end-output_fault old new before after status (unread is some same files rose lacks) h =
        let e : ReadFault ≡ OutputFault = sym is ∙ h in cc
    end-output_fault old new before after status (cut_short cut same (inl (is, rose, not))) h =
        let e : WriteFault ≡ OutputFault = sym is ∙ h in cc
    end-output_fault old new before after status (cut_short cut same (inr is)) h = let e : Memory ≡ OutputFault =
        sym is ∙ h in cc
    end-output_fault old new before after status (whole read are long saved does is) h =
        absurd (finished-not read status OutputFault is h refl)
    end-output_fault old new before after status (put_fault short is) h =
        (short.puts.fault refl, short, λ steady. short.puts.steady steady refl)
    end-output_fault old new before after status (put_memory short is) h = let e : Memory ≡ OutputFault =
        sym is ∙ h in cc

    pub end-memory : (old new : S) (before after : K) (status : Status) → RunEnd old before status new after
        → status ≡ Memory
        → ((after ≡ before)
        × (((state new).files ≡ (state old).files) ⊎ IsCutShort (state old).files inputs outcome (state new).files))
        ⊎ IsPutShort shown taken (state old).files inputs outcome (state new).files before SinkMemory after
    end-memory old new before after status (room is same files) h = inl (same, inl files)
    end-memory old new before after status (unread is some same files rose lacks) h = let e : ReadFault ≡ Memory =
        sym is ∙ h in cc
    end-memory old new before after status (cut_short cut same (inl (is, rose, not))) h = let e : WriteFault ≡ Memory =
        sym is ∙ h in cc
    end-memory old new before after status (cut_short cut same (inr is)) h = inl (same, inr cut)
    end-memory old new before after status (whole read are long saved does is) h =
        absurd (finished-not read status Memory is h refl)
    end-memory old new before after status (put_fault short is) h = let e : OutputFault ≡ Memory = sym is ∙ h in cc
    end-memory old new before after status (put_memory short is) h = inr short
