use Rattle.cli_words.specs.Rows.{asked}
use Rattle.boot_run.specs.Commands.{inputs_in, outcome_in}
use Rattle.boot_run.proofs.RunLemmas.{outcome-finished, run-ends, run-told, run-boot, run-session, run-confined, run-lacking, run-words, run-no_command, run-complete, run-steady, run-obeys}
use Rattle.cli_course.proofs.EndLemmas.{end-read_fault, end-write_fault, end-output_fault, end-memory}
use Rattle.boot_run.proofs.program.run.Goals as goal

pub returns-clause-boot : goal.returns-clause-boot
returns-clause-boot g c =
    run-boot _ _ _ _ (asked c.args.words.now) _ _ _ _ _ (run-ends (asked c.args.words.now) c.run_asked.ensures)

pub returns-clause-session : goal.returns-clause-session
returns-clause-session g c =
    run-session _ _ _ _ (asked c.args.words.now) _ _ _ _ _ (run-ends (asked c.args.words.now) c.run_asked.ensures)

pub returns-clause-confined : goal.returns-clause-confined
returns-clause-confined g c =
    run-confined _ _ _ _ (asked c.args.words.now) _ _ _ _ _ (run-ends (asked c.args.words.now) c.run_asked.ensures)

pub returns-clause-told : goal.returns-clause-told
returns-clause-told g c =
    run-told _ _ _ _ (asked c.args.words.now) _ _ _ _ _ (run-ends (asked c.args.words.now) c.run_asked.ensures)

pub returns-clause-lacking : goal.returns-clause-lacking
returns-clause-lacking g c =
    run-lacking _ _ _ _ (asked c.args.words.now) _ _ _ _ _ (run-ends (asked c.args.words.now) c.run_asked.ensures)

pub returns-clause-words : goal.returns-clause-words
returns-clause-words g c = (
  run-words _ _ _ _ (asked c.args.words.now) _ _ _ _ _ (run-ends (asked c.args.words.now) c.run_asked.ensures),
  run-no_command _ _ _ _ (asked c.args.words.now) _ _ _ _ _ (run-ends (asked c.args.words.now) c.run_asked.ensures),
)

pub returns-clause-complete : goal.returns-clause-complete
returns-clause-complete g c =
    run-complete _ _ _ _ (asked c.args.words.now) _ _ _ _ _ (run-ends (asked c.args.words.now) c.run_asked.ensures)

pub returns-clause-steady : goal.returns-clause-steady
returns-clause-steady g c =
    run-steady _ _ _ _ (asked c.args.words.now) _ _ _ _ _ (run-ends (asked c.args.words.now) c.run_asked.ensures)

pub returns-clause-read_fault : goal.returns-clause-read_fault
returns-clause-read_fault g c =
    λ h. let f =
    end-read_fault _ _ _ _ (inputs_in (asked c.args.words.now)) (outcome_in (asked c.args.words.now))
    (outcome-finished (asked c.args.words.now)) _ _ _ _ _ (run-ends (asked c.args.words.now) c.run_asked.ensures) h
    in (f.0, f.1, f.2)

pub returns-clause-write_fault : goal.returns-clause-write_fault
returns-clause-write_fault g c =
    λ h. let f =
    end-write_fault _ _ _ _ (inputs_in (asked c.args.words.now)) (outcome_in (asked c.args.words.now))
    (outcome-finished (asked c.args.words.now)) _ _ _ _ _ (run-ends (asked c.args.words.now) c.run_asked.ensures) h
    in (f.0, f.1, f.2)

pub returns-clause-output_fault : goal.returns-clause-output_fault
returns-clause-output_fault g c =
    λ h. let f =
    end-output_fault _ _ _ _ (inputs_in (asked c.args.words.now)) (outcome_in (asked c.args.words.now))
    (outcome-finished (asked c.args.words.now)) _ _ _ _ _ (run-ends (asked c.args.words.now) c.run_asked.ensures) h
    in (f.0, f.1)

pub returns-clause-memory : goal.returns-clause-memory
returns-clause-memory g c =
    end-memory _ _ _ _ (inputs_in (asked c.args.words.now)) (outcome_in (asked c.args.words.now))
    (outcome-finished (asked c.args.words.now)) _ _ _ _ _ (run-ends (asked c.args.words.now) c.run_asked.ensures)

pub returns-clause-obeys : goal.returns-clause-obeys
returns-clause-obeys g c =
    λ command asks h. let f =
    run-obeys _ _ _ _ (asked c.args.words.now) _ _ _ _ _ (run-ends (asked c.args.words.now) c.run_asked.ensures)
    command asks h
    in (f.read, f.o, f.right, f.answer, f.input, f.does)
