-- By computing.
use Rattle.std.proofs.Common.{[], ◌∷◌, refl, inl}
use Rattle.std.specs.Fmt.{padded_integral, digits, char_count}
use Rattle.block_codec.specs.Words.{bytes_of}
use Rattle.text_lines.specs.Outcomes.{command_outcome}
use Rattle.text_lines.specs.declared.outcome.EventOutcome.{EventOutcome}
use Rattle.block_codec.specs.Words.{word_of, word_bytes}
use Rattle.worked_flashes.specs.Flashes.{tables_content}
use Rattle.boot_script.specs.Events.{EventView}
use Rattle.info_reply.specs.Examples.{info}
use Rattle.picoboot_cmd.specs.Commands.{written_command}
use Rattle.picoboot_cmd.specs.Examples.{otp_write_command}
use Rattle.boot_machine.specs.Machines.{InBootsel}
use Rattle.boot_machine.specs.Moves.{Moves}
use Rattle.boot_machine.specs.Examples.{idle, machine_at, told_done}
use Rattle.boot_machine.specs.Serving.{info_reply, info_status}
use Rattle.boot_machine.proofs.examples.play.a_slot_size_that_is_raised.Goals as goal

abbrev raised : EventOutcome
raised = told_done 0x0d

abbrev answered : EventOutcome
answered = command_outcome (info 16 3 0) 0 (bytes_of (0x6000 ∷ 0 ∷ 0 ∷ 0x2000 ∷ []))

raises : Moves (machine_at (tables_content 0 [] []) (InBootsel idle))
    (EventView.Command (written_command (otp_write_command 0x055 1 0)) (1 ∷ 0 ∷ 0 ∷ 0 ∷ []))
    (machine_at (tables_content 1 [] []) (InBootsel idle)) raised
unfolding padded_integral digits char_count word_of word_bytes
raises = inl (record {
  content = refl;
  armed_cut = record { answer = refl; left = refl; next = refl };
  cpu = refl;
  place = refl;
  told = refl;
})

answers : Moves (machine_at (tables_content 1 [] []) (InBootsel idle))
    (EventView.Command (written_command (info 16 3 0)) [])
    (machine_at (tables_content 1 [] []) (InBootsel idle)) answered
unfolding padded_integral digits char_count info_status info_reply word_of word_bytes
answers = inl (record {
  content = refl;
  armed_cut = record { answer = refl; left = refl; next = refl };
  cpu = refl;
  place = refl;
  told = refl;
})

pub returns-clause-before : goal.returns-clause-before
unfolding padded_integral digits char_count info_status info_reply word_of word_bytes
returns-clause-before c = refl

pub returns-clause-plays : goal.returns-clause-plays
returns-clause-plays c = (
  machine_at (tables_content 1 [] []) (InBootsel idle),
  raised,
  answered ∷ [],
  raises,
  (machine_at (tables_content 1 [] []) (InBootsel idle), answered, [], answers, (refl, refl), refl),
  refl,
)
