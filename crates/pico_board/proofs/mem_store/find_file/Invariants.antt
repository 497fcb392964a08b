-- No file before has the name.
use Rattle.std.proofs.Common.{◌≡◌, None, take}
use Rattle.pico_board.specs.Files.{file_of}
use Rattle.pico_board.specs.MemFiles.{files_from}
use Rattle.pico_board.proofs.mem_store.find_file.Given as goal

abbrev pub invariant-loop-i : goal.invariant-loop-i
invariant-loop-i l = file_of (files_from (take l.i l.files)) l.name ≡ None
