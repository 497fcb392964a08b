use Rattle.std.proofs.Common.{ℕ, ◌≡◌, List, [], Result, length, map, drop}
use Rattle.cli_course.specs.declared.status.Status.{Status}
use Rattle.cli_course.specs.Courses.{ReadsIn}
use Rattle.cli_course.specs.Views.{limited_input_from, bytes_of_files}
use Rattle.cli_course.proofs.course.read_all.Given as goal

-- whatever reads the rest from here reads all from the start, and one file was read for each input
abbrev pub invariant-loop-input : goal.invariant-loop-input
invariant-loop-input g l = record {
  reads : (end : Result (List (List ℕ)) Status) (new : _)
      → ReadsIn g.S.Store.state g.S.Store.history (map limited_input_from (drop l.input-index l.inputs))
      (bytes_of_files l.files.items) l.store end new
      → ReadsIn g.S.Store.state g.S.Store.history (map limited_input_from l.inputs) [] l.fn.store end new;
  count : length l.files.items ≡ l.input-index;
}
