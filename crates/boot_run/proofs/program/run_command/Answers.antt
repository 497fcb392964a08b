use Rattle.std.proofs.Common.{◌≡◌, ◌∙◌, ap, map, length, List, subst, sym, Ok, []}
use Rattle.std.proofs.lemmas.List.{length-map}
use Rattle.cli_course.specs.Outcomes.{LimitedInputView}
use Rattle.cli_course.specs.declared.course.LimitedInput.{LimitedInput}
use Rattle.cli_course.specs.Courses.{ReadsIn}
use Rattle.cli_course.specs.Views.{limited_input_from, bytes_of_files}
use Rattle.cli_course.proofs.CourseLemmas.{run-read, run-no_room}
use Rattle.cli_inputs.specs.declared.inputs.FormInput.{FormInput}
use Rattle.cli_inputs.specs.Inputs.{FormInputView, readings, form_input_from}
use Rattle.cli_inputs.proofs.InputLemmas.{readings-long}
use Rattle.cli_words.specs.Rows.{command_from}
use Rattle.boot_run.specs.Inputs.{inputs_of}
use Rattle.boot_run.specs.Commands.{command_outcome}
use Rattle.boot_run.proofs.program.run_command.Goals as goal

pub answer-requires : goal.answer-requires
answer-requires g c =
    let read = c.in-Ok-read_all.ensures.count
    ∙ ap (λ (xs : List LimitedInput). length xs) c.deref-2.ensures.value in
    let named = sym (length-map c.in-Ok-readings.to_read.items limited_input_from)
    ∙ (ap (λ (xs : List LimitedInputView). length xs) c.in-Ok-readings.ensures
    ∙ readings-long (map form_input_from c.deref.result.now)) in
    let formed : map form_input_from c.deref.result.now ≡ inputs_of (command_from c.args.command.now) =
    ap (λ (xs : List FormInput). map form_input_from xs) c.deref.ensures.value ∙ c.in-Ok.ensures in
    read ∙ (named ∙ ap (λ (xs : List FormInputView). length xs) formed)

pub returns-in-Ok-answer : goal.returns-in-Ok-answer
returns-in-Ok-answer g c =
    run-read g.S.Store.state g.S.Store.history g.K.Sink.state g.K.Sink.history
    (readings (inputs_of (command_from c.args.command.now)))
    (map limited_input_from c.in-Ok-readings.to_read.items)
    (command_outcome (command_from c.args.command.now)) c.args.store.now c.args.out.now
    (bytes_of_files c.in-Ok-read_all.files.items) _ c.read_all.new.store _ _ _
    (c.in-Ok-readings.ensures ∙ ap readings
    (ap (λ (xs : List FormInput). map form_input_from xs) c.deref.ensures.value ∙ c.in-Ok.ensures))
    (subst (λ (xs : List LimitedInput). ReadsIn g.S.Store.state g.S.Store.history
    (map limited_input_from xs) [] c.args.store.now
    (Ok (bytes_of_files c.in-Ok-read_all.files.items)) c.read_all.new.store)
    c.deref-2.ensures.value c.in-Ok-read_all.ensures.course) c.in-Ok-answer.ensures c.finish.ensures

pub returns : goal.returns
returns g c =
    run-no_room g.S.Store.state g.S.Store.history g.K.Sink.state g.K.Sink.history
    (readings (inputs_of (command_from c.args.command.now)))
    (map limited_input_from c.in-Ok-readings.to_read.items)
    (command_outcome (command_from c.args.command.now)) c.args.store.now c.args.out.now
    (bytes_of_files c.in-Ok-read_all.files.items) c.read_all.new.store
    (c.in-Ok-readings.ensures ∙ ap readings
    (ap (λ (xs : List FormInput). map form_input_from xs) c.deref.ensures.value ∙ c.in-Ok.ensures))
    (subst (λ (xs : List LimitedInput). ReadsIn g.S.Store.state g.S.Store.history
    (map limited_input_from xs) [] c.args.store.now
    (Ok (bytes_of_files c.in-Ok-read_all.files.items)) c.read_all.new.store)
    c.deref-2.ensures.value c.in-Ok-read_all.ensures.course)
