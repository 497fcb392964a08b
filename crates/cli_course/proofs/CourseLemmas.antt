-- One input more is read, and one file more is written.
use Rattle.std.proofs.Common.{ℕ, ◌≡◌, ◌+◌, ◌<◌, Result, Ok, Err, Option, List, [], ◌∷◌, ◌++◌, length, drop, get_or, map, sym, ap, subst, ◌∙◌, refl, inl, inr}
use Rattle.std.specs.Prelude.{Vec}
use Rattle.std.specs.declared.alloc.Global.{Global}
use Rattle.std.proofs.lemmas.List.{drop_more, map-append}
use Rattle.pico_board.specs.declared.store.StoreFail.{StoreFail}
use Rattle.pico_board.specs.Files.{StoreState, Access, Reads, Writes, Serves}
use Rattle.cli_course.specs.declared.status.Status.{Status}
use Rattle.cli_course.specs.declared.status.Status.TheVariants.{Memory}
use Rattle.cli_course.specs.declared.course.LimitedInput.{LimitedInput}
use Rattle.cli_course.specs.declared.answers.OutFile.{OutFile}
use Rattle.cli_course.specs.Outcomes.{AreBytes, LimitedInputView, AnswerView}
use Rattle.pico_board.specs.Puts.{SinkState, Put}
use Rattle.cli_course.specs.Courses.{ReadsIn, WritesOut, Finishes, Runs, was_read, no_room, unread_status}
use Rattle.cli_course.specs.Views.{limited_input_from, out_file_from, bytes_of_files}

module _ {S : Type 0} (state : S → StoreState) (history : S → List Access → Type 0) where
  -- there may be no memory at any moment
  pub reads-stop : (inputs : List LimitedInputView) (read : List (List ℕ)) (old : S)
      → ReadsIn state history inputs read old (Err Memory) old
  reads-stop [] read old = inl (record { same = refl; ends = refl })
  reads-stop (input ∷ inputs) read old = inl (record { same = refl; ends = refl })

  -- the read of the next input fails
  pub reads-fail : (inputs : List LimitedInput) (i : ℕ) (d : LimitedInput) (read : List (List ℕ)) (old new : S)
      (fail : StoreFail) → i < length inputs
      → Serves state history old (Reads (get_or inputs i d).name.now (get_or inputs i d).limit (Err fail)) new
      → ReadsIn state history (map limited_input_from (drop i inputs)) read old (Err (unread_status fail)) new
  reads-fail inputs i d read old new fail lt serves =
      subst (λ xs. ReadsIn state history (map limited_input_from xs) read old (Err (unread_status fail)) new)
      (sym (drop_more inputs i d lt))
      (inr (inl (fail, serves, refl)))

  -- the next input is read, and then the others
  pub reads-more : (inputs : List LimitedInput) (i : ℕ) (d : LimitedInput) (read more : List (List ℕ)) (old mid new : S)
      (bytes : List ℕ) (end : Result (List (List ℕ)) Status)
      → i < length inputs → AreBytes bytes
      → Serves state history old (Reads (get_or inputs i d).name.now (get_or inputs i d).limit (Ok bytes)) mid
      → more ≡ read ++ bytes ∷ []
      → ReadsIn state history (map limited_input_from (drop (i + 1) inputs)) more mid end new
      → ReadsIn state history (map limited_input_from (drop i inputs)) read old end new
  reads-more inputs i d read more old mid new bytes end lt small serves is rest =
      subst (λ xs. ReadsIn state history (map limited_input_from xs) read old end new) (sym (drop_more inputs i d lt))
      (inr (inr (
        bytes,
        mid,
        small,
        serves,
        subst
            (λ m. ReadsIn state history (map limited_input_from (drop (i + 1) inputs)) m mid end new) is rest,
      )))

  -- the next file is written, and then the others
  pub writes-more : (files : List OutFile) (i : ℕ) (file : OutFile) (old mid new : S) (end : Option Status)
      → i < length files → file ≡ get_or files i file
      → Serves state history old (Writes file.name.now file.bytes.items (Ok tt)) mid
      → WritesOut state history (map out_file_from (drop (i + 1) files)) mid end new
      → WritesOut state history (map out_file_from (drop i files)) old end new
  writes-more files i file old mid new end lt is serves rest =
      subst (λ xs. WritesOut state history (map out_file_from xs) old end new)
      (sym (drop_more files i file lt ∙ ap (λ x. x ∷ drop (i + 1) files) (sym is)))
      (inr (mid, serves, rest))

-- one file more was read
pub bytes-more : (files more : List (Vec ℕ Global)) (file : Vec ℕ Global) → more ≡ files ++ file ∷ []
    → bytes_of_files more ≡ bytes_of_files files ++ file.items ∷ []
bytes-more files more file is = ap bytes_of_files is ∙ map-append (λ (f : Vec ℕ Global). f.items) files (file ∷ [])

-- the ways in which a run on these inputs ends
module _ {S : Type 0} (state : S → StoreState) (history : S → List Access → Type 0) {K : Type 0} (shown : K → SinkState)
    (taken : K → List Put → Type 0)
    (inputs words : List LimitedInputView) (outcome : List (List ℕ) → AnswerView) (old : S) (before : K) where
  pub run-read : (read : List (List ℕ)) (o : AnswerView) (mid new : S) (status : Status) (after : K) → words ≡ inputs
      → ReadsIn state history words [] old (Ok read) mid
      → o ≡ outcome read → Finishes state history shown taken o mid before status new after
      → Runs state history shown taken inputs outcome old before status new after
  run-read read o mid new status after same reads is finishes =
      was_read read mid (subst (λ xs. ReadsIn state history xs [] old (Ok read) mid) same reads)
      (subst (λ (x : AnswerView). Finishes state history shown taken x mid before status new after) is finishes)

  pub run-no_room : (read : List (List ℕ)) (new : S) → words ≡ inputs → ReadsIn state history words [] old (Ok read) new
      → Runs state history shown taken inputs outcome old before Memory new before
  run-no_room read new same reads =
      no_room read (subst (λ xs. ReadsIn state history xs [] old (Ok read) new) same reads) refl refl
