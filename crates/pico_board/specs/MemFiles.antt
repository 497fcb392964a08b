-- What a store in memory and a sink in memory show.
use Rattle.std.specs.Prelude.{◌≡◌, ℕ, ◌-◌, ◌^◌, ◌<◌, ◌&&◌, ◌==◌, min, Bool, true, false, None, Some, Result, Ok, Err, List, [], Vec, String, string_bytes, length, map, take, count_by, slice_index_or}
use Rattle.std.specs.List.{list_any, flat_map}
use Rattle.std.specs.declared.alloc.Global.{Global}
use Rattle.pico_board.specs.declared.mem_store.MemStore.{MemStore}
use Rattle.pico_board.specs.declared.mem_sink.MemSink.{MemSink}
use Rattle.pico_board.specs.declared.sink.SinkFail.{SinkFail}
use Rattle.pico_board.specs.Files.{File, StoreState, Access, Reads, Writes, file_of}
use Rattle.pico_board.specs.Puts.{SinkState, Put}

-- the number is in the list of calls that are to fail
abbrev pub is_listed : List ℕ → ℕ → Bool
is_listed bad n = list_any (λ k. k == n) bad

-- a file, of its name and its bytes
abbrev pub file_from : String Global × Vec ℕ Global → File
file_from entry = record { name = string_bytes entry.0; bytes = entry.1.items }

-- the files, in their order
abbrev pub files_from : List (String Global × Vec ℕ Global) → List File
files_from entries = map file_from entries

-- the files of a store
abbrev pub files_of : MemStore → List File
files_of store = files_from store.files.items

-- the number of the next read, and of the next write
abbrev pub reads_of : MemStore → ℕ
reads_of store = store.reads

abbrev pub writes_of : MemStore → ℕ
writes_of store = store.writes

-- the numbers of the reads, and of the writes, that are to fail
abbrev pub bad_reads_of : MemStore → List ℕ
bad_reads_of store = store.bad_reads.items

abbrev pub bad_writes_of : MemStore → List ℕ
bad_writes_of store = store.bad_writes.items

-- a store is steady where no call is listed to fail
abbrev pub store_state : MemStore → StoreState
store_state store = record {
  files = Some (files_of store);
  read_faults = store.read_faults;
  write_faults = store.write_faults;
  steady = (length store.bad_reads.items == 0) && (length store.bad_writes.items == 0);
}

-- a call is a read
abbrev pub is_read : Access → Bool
is_read (Reads name limit answer) = true
is_read (Writes name bytes answer) = false

-- a call is a write
abbrev pub is_write : Access → Bool
is_write (Reads name limit answer) = false
is_write (Writes name bytes answer) = true

-- a count of n calls, which saturates at 2^64 - 1
abbrev pub counted_to : ℕ → ℕ
counted_to n = min n (2 ^ 64 - 1)

-- A store in memory may have answered these calls: it has counted as many reads and as many
-- writes. It keeps no more of them.
pub record HasAnswered (store : MemStore) (calls : List Access) : Type 0 where
  pub reads : reads_of store ≡ counted_to (count_by is_read calls)
  pub writes : writes_of store ≡ counted_to (count_by is_write calls)

-- the number of the next put, and the numbers of those that are to fail
abbrev pub puts_of : MemSink → ℕ
puts_of sink = sink.puts

abbrev pub bad_puts_of : MemSink → List ℕ
bad_puts_of sink = sink.bad_puts.items

-- the bytes that were put
abbrev pub put_bytes : MemSink → List ℕ
put_bytes sink = sink.bytes.items

-- a sink is steady where no put is listed to fail
abbrev pub sink_state : MemSink → SinkState
sink_state sink = record {
  bytes = Some (put_bytes sink);
  faults = sink.faults;
  steady = length sink.bad_puts.items == 0;
}

-- what a put of these bytes with this answer appended
abbrev pub appended : List ℕ → Result (Unit {0}) SinkFail → List ℕ
appended bytes (Ok done) = bytes
appended bytes (Err fail) = []

-- what a put appended
abbrev pub appended_by : Put → List ℕ
appended_by put = appended put.bytes put.answer

-- A sink in memory may have answered these puts: it has counted as many, and its bytes are those
-- of the ones that succeeded.
pub record HasTakenPuts (sink : MemSink) (puts : List Put) : Type 0 where
  pub number : puts_of sink ≡ counted_to (length puts)
  pub bytes : put_bytes sink ≡ flat_map appended_by puts

-- i is the place of the first file of the name
pub record IsFirstOf (entries : List (String Global × Vec ℕ Global)) (name : List ℕ)
    (i : ℕ) : Type 0 where
  pub inside : i < length entries
  pub before : file_of (files_from (take i entries)) name ≡ None
  pub here : (d : String Global × Vec ℕ Global) → string_bytes (slice_index_or entries i d).0 ≡ name
