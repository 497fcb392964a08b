use Rattle.std.proofs.Common.{Option, map, drop}
use Rattle.cli_course.specs.declared.status.Status.{Status}
use Rattle.cli_course.specs.Courses.{WritesOut}
use Rattle.cli_course.specs.Views.{out_file_from}
use Rattle.cli_course.proofs.course.write_all.Given as goal

-- whatever writes the rest from here writes all from the start
abbrev pub invariant-loop-file : goal.invariant-loop-file
invariant-loop-file g l = (end : Option Status) (new : _)
    → WritesOut g.S.Store.state g.S.Store.history (map out_file_from (drop l.file-index l.files)) l.store end new
    → WritesOut g.S.Store.state g.S.Store.history (map out_file_from l.files) l.fn.store end new
