-- The outcome of `check` by a text of what is asked, where each file has its form.
use Rattle.std.proofs.Common.{◌≡◌, List, [], ◌∷◌, Option, Some, None, Ok, refl, sym, ap, ◌∙◌}
use Rattle.std.specs.Prelude.{ℕ, option_map}
use Rattle.std.specs.Option.{option_or}
use Rattle.pico_board.specs.Board.{State}
use Rattle.pico_board.specs.MemBoard.{new_state}
use Rattle.check_require.specs.Requires.{RequireView}
use Rattle.check_require.specs.Texts.{require_read}
use Rattle.cli_check.specs.CheckWorks.{asked_work, check_work}
use Rattle.cli_course.specs.Outcomes.{AnswerView, refused, worked}
use Rattle.cli_inputs.specs.declared.forms.Form.TheVariants.{Flash, Otp, Script, Pattern, Require}
use Rattle.cli_inputs.specs.Forms.{content_of_files, filled_flash, form_fault, otp_of}
use Rattle.cli_inputs.specs.Inputs.{first_input_fault, unless_refused}
use Rattle.cli_words.specs.Rows.{command_line}
use Rattle.cli_words.specs.Values.{ValuesView}
use Rattle.cli_words.specs.declared.rows.Verb.TheVariants.{CheckAsked}
use Rattle.boot_run.specs.Commands.{command_outcome}
use Rattle.boot_run.specs.Inputs.{inputs_of}

-- one input more has its form
none-more : (name : List ℕ) (fault : Option (List ℕ)) (rest : Option AnswerView) → fault ≡ None → rest ≡ None
    → option_or (option_map (refused name) fault) rest ≡ None
none-more name None rest none others = others
none-more name (Some fault) rest none others = cc

pub asked-outcome : (v : ValuesView) (f g s p r : List ℕ) (ask : RequireView) → form_fault Flash f ≡ None
    → form_fault Otp g ≡ None → form_fault Script s ≡ None → form_fault Pattern p ≡ None
    → form_fault Require r ≡ None → require_read r ≡ Ok ask
    → worked (check_work (content_of_files f g) v.cpu v.file s p ask)
    ≡ command_outcome (command_line CheckAsked v) (f ∷ g ∷ s ∷ p ∷ r ∷ [])
asked-outcome v f g s p r ask flash otp script pattern require reads =
    let read = f ∷ g ∷ s ∷ p ∷ r ∷ [] in
    let none : first_input_fault (inputs_of (command_line CheckAsked v)) read ≡ None =
    none-more v.flash (form_fault Flash f) _ flash
    (none-more v.otp (form_fault Otp g) _ otp
    (none-more v.file (form_fault Script s) _ script
    (none-more v.pattern (form_fault Pattern p) _ pattern
    (none-more v.require (form_fault Require r) None require refl)))) in
    ap (λ q. worked (asked_work (content_of_files f g) v.cpu v.file s p q)) (sym reads)
    ∙ sym (ap (λ o. unless_refused o (worked (asked_work (content_of_files f g) v.cpu v.file s p (require_read r)))) none)

-- by what is read of the files
pub asked-told : (v : ValuesView) (files : List (List ℕ)) (f g s p r otp script pattern require bytes spread : List ℕ)
    (state : State) (ask : RequireView) (o : AnswerView) → files ≡ (f ∷ g ∷ s ∷ p ∷ r ∷ []) → otp ≡ g → script ≡ s
    → pattern ≡ p → require ≡ r → state ≡ new_state (filled_flash f) (otp_of otp) → form_fault Flash f ≡ None
    → form_fault Otp otp ≡ None → form_fault Script script ≡ None → form_fault Pattern pattern ≡ None
    → form_fault Require require ≡ None → bytes ≡ script → spread ≡ pattern → require_read require ≡ Ok ask
    → o ≡ worked (check_work state.content v.cpu v.file bytes spread ask)
    → o ≡ command_outcome (command_line CheckAsked v) files
asked-told v files f g s p r otp script pattern require bytes spread state ask o whole e0 e1 e2 e3 board flash_has otp_has
    script_has pattern_has require_has script_is pattern_is reads told =
    told
    ∙ (ap (λ (x : State). worked (check_work x.content v.cpu v.file bytes spread ask)) board
    ∙ (ap (λ x. worked (check_work (content_of_files f otp) v.cpu v.file x spread ask)) script_is
    ∙ (ap (λ x. worked (check_work (content_of_files f otp) v.cpu v.file script x ask)) pattern_is
    ∙ (asked-outcome v f otp script pattern require ask flash_has otp_has script_has pattern_has require_has reads
    ∙ ap (λ read. command_outcome (command_line CheckAsked v) read)
    (ap (λ x. f ∷ x ∷ script ∷ pattern ∷ require ∷ []) e0
    ∙ (ap (λ x. f ∷ g ∷ x ∷ pattern ∷ require ∷ []) e1
    ∙ (ap (λ x. f ∷ g ∷ s ∷ x ∷ require ∷ []) e2
    ∙ (ap (λ x. f ∷ g ∷ s ∷ p ∷ x ∷ []) e3 ∙ sym whole))))))))
