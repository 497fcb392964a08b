use Rattle.cli_course.proofs.CourseLemmas.{writes-more}
use Rattle.cli_course.proofs.course.write_all.Goals as goal

pub loop-file-preserved : goal.loop-file-preserved
loop-file-preserved g c = λ end new rest.
    c.loop-file.invariant _ _
    (writes-more g.S.Store.state g.S.Store.history c.args.files.now c.loop-file.file-index c.file-item.result
    c.loop-file.store c.write_file.new.store new
    end c.loop-file-test.true c.file-item.is c.in-Ok.ensures rest)
