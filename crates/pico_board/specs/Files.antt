-- The files of a store, and what its reads and writes do to them.
use Rattle.std.specs.Prelude.{◌≡◌, ◌≢◌, ⊤, ℕ, ◌+◌, ◌≤◌, Bool, IsTrue, Option, None, Some, IsSomeAnd, Result, Ok, Err, IfOk, OnOk, OnErr, if◌then◌else◌, List, [], ◌∷◌, length, take}
use Rattle.std.specs.Bool.{OnTrue}
use Rattle.std.specs.Str.{bytes_eq}
use Rattle.pico_board.specs.declared.store.StoreFail.{StoreFail}
use Rattle.pico_board.specs.declared.store.StoreFail.TheVariants.{Fault}
use Rattle.pico_board.specs.Board.{Rose}
use Rattle.pico_board.specs.Histories.{Extends}

-- a file: its name and its bytes
pub record File : Type 0 where
  pub name : List ℕ
  pub bytes : List ℕ

-- the bytes of the name in the finite map that the files stand for, where the first file of a name
-- counts
abbrev pub file_of : List File → List ℕ → Option (List ℕ)
file_of [] name = None
file_of (file ∷ files) name =
    if bytes_eq file.name name then Some file.bytes else file_of files name

-- what is known of a store: its files, where it tells them; how many reads and how many writes
-- were at fault; and whether it is steady, that is, tells that it has no faults of its own
pub record StoreState : Type 0 where
  pub files : Option (List File)
  pub read_faults : ℕ
  pub write_faults : ℕ
  pub steady : Bool

-- a call of a store: its arguments, and what it answered, where a read that succeeded answers the
-- bytes that it read
pub data Access : Type 0 where
  Reads : (name : List ℕ) → (limit : ℕ) → (answer : Result (List ℕ) StoreFail) → Access
  Writes : (name bytes : List ℕ) → (answer : Result (Unit {0}) StoreFail) → Access

-- what a read answered that left these bytes
abbrev pub read_answer : Result (Unit {0}) StoreFail → List ℕ → Result (List ℕ) StoreFail
read_answer (Ok done) bytes = Ok bytes
read_answer (Err fail) bytes = Err fail

-- neither count falls, and a steady store stays steady
pub record GoesOn (s t : StoreState) : Type 0 where
  pub reads : s.read_faults ≤ t.read_faults
  pub writes : s.write_faults ≤ t.write_faults
  pub steady : OnTrue s.steady (IsTrue t.steady)

-- what was read is the first `limit + 1` bytes of the file of this name, or all where it has
-- fewer; the told files have this name; where no files are told, it is at most `limit + 1` bytes
abbrev pub IsReadOf : Option (List File) → List ℕ → ℕ → List ℕ → Type 0
IsReadOf None name limit read = length read ≤ limit + 1
IsReadOf (Some files) name limit read =
    IsSomeAnd (file_of files name) (λ bytes. read ≡ take (limit + 1) bytes)

-- where files are told, they lack the name
abbrev pub Lacks : Option (List File) → List ℕ → Type 0
Lacks None name = ⊤
Lacks (Some files) name = file_of files name ≡ None

-- the new files have what the old ones have under every other name
abbrev pub KeepsOthers : List File → List ℕ → List File → Type 0
KeepsOthers old name new = (other : List ℕ) → other ≢ name → file_of new other ≡ file_of old other

-- the new files have these bytes under the name, and under every other name what the old ones have
pub record HasWritten (old : List File) (name bytes : List ℕ) (new : List File) : Type 0 where
  pub here : file_of new name ≡ Some bytes
  pub others : KeepsOthers old name new

-- told files are told afterwards, and the bytes were written under the name
abbrev pub IsWritten : Option (List File) → List ℕ → List ℕ → Option (List File) → Type 0
IsWritten None name bytes new = new ≡ None
IsWritten (Some old) name bytes None = ⊥
IsWritten (Some old) name bytes (Some new) = HasWritten old name bytes new

-- told files are told afterwards, and every name but this one has what it had
abbrev pub IsKeptBut : Option (List File) → List ℕ → Option (List File) → Type 0
IsKeptBut None name new = new ≡ None
IsKeptBut (Some old) name None = ⊥
IsKeptBut (Some old) name (Some new) = KeepsOthers old name new

-- What a store shows after a read with this answer: the bytes are those of the file, and its files
-- are as they were. Where the read is at fault, the count of faults rose (it saturates). A steady
-- store faults only on a missing name.
pub record ShowsRead (s : StoreState) (name : List ℕ) (limit : ℕ)
    (answer : Result (List ℕ) StoreFail) (t : StoreState) : Type 0 where
  pub bytes : IfOk answer (IsReadOf s.files name limit)
  pub fault : answer ≡ Err Fault → Rose s.read_faults t.read_faults
  pub steady : IsTrue s.steady → answer ≡ Err Fault → Lacks s.files name
  pub files : t.files ≡ s.files

-- What a store shows after a write with this answer: after Ok the bytes stand under the name;
-- after an error nothing is known of that name; other names keep what they have. Where the write
-- is at fault, the count of faults rose (it saturates). A write of a steady store is never at
-- fault.
pub record ShowsWrite (s : StoreState) (name bytes : List ℕ) (answer : Result (Unit {0}) StoreFail)
    (t : StoreState) : Type 0 where
  pub ok : OnOk answer (IsWritten s.files name bytes t.files)
  pub err : OnErr answer (IsKeptBut s.files name t.files)
  pub fault : answer ≡ Err Fault → Rose s.write_faults t.write_faults
  pub steady : IsTrue s.steady → answer ≢ Err Fault

-- what a store shows after a call
abbrev pub Shows : StoreState → Access → StoreState → Type 0
Shows s (Reads name limit answer) t = ShowsRead s name limit answer t
Shows s (Writes name bytes answer) t = ShowsWrite s name bytes answer t

-- the old store answers the call, and is then the new one; the call is appended to the history
pub record Serves {S : Type 0} (state : S → StoreState) (history : S → List Access → Type 0)
    (old : S) (call : Access) (new : S) : Type 0 where
  pub shows : Shows (state old) call (state new)
  pub counts : GoesOn (state old) (state new)
  pub recorded : Extends history old (call ∷ []) new

-- the old store answers these calls, in their order, and is then the new one; each call is
-- appended to the history
abbrev pub ServesAll : {S : Type 0} → (S → StoreState) → (S → List Access → Type 0) → S
    → List Access → S → Type 0
ServesAll state history old [] new = new ≡ old
ServesAll state history old (call ∷ calls) new = (mid : _) × Serves state history old call mid
    × ServesAll state history mid calls new
