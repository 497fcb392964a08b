use Rattle.std.proofs.Common.{subst, refl, ◌∙◌, ap, map, List, String, inr, Option}
use Rattle.std.specs.Prelude.{string_bytes}
use Rattle.std.specs.declared.alloc.Global.{Global}
use Rattle.cli_words.specs.Rows.{CommandLineView, command_of}
use Rattle.boot_run.specs.Commands.{inputs_in, outcome_in}
use Rattle.cli_course.specs.Courses.{Runs, was_read, finished}
use Rattle.boot_run.proofs.program.run_asked.Goals as goal

pub returns-in-Some : goal.returns-in-Some
returns-in-Some g c =
    subst (λ (command : Option CommandLineView). Runs g.S.Store.state g.S.Store.history g.K.Sink.state g.K.Sink.history
    (inputs_in command) (outcome_in command)
    c.args.store.now c.args.out.now c.run_command.result c.run_command.new.store c.run_command.new.out)
    (c.in-Some.ensures ∙ ap
    (λ (words : List (String Global)). command_of (map string_bytes words)) c.deref.ensures.value)
    c.run_command.ensures

pub returns-in-None : goal.returns-in-None
returns-in-None g c =
    subst (λ (command : Option CommandLineView). Runs g.S.Store.state g.S.Store.history g.K.Sink.state g.K.Sink.history
    (inputs_in command) (outcome_in command)
    c.args.store.now c.args.out.now c.put_text.result c.args.store.now c.put_text.new.out)
    (c.in-None.ensures ∙ ap
    (λ (words : List (String Global)). command_of (map string_bytes words)) c.deref.ensures.value)
    (was_read _ _ (inr (refl, refl)) (finished (refl, refl) c.put_text.ensures))
