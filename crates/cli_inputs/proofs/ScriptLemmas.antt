-- Bytes have the form of a script exactly where they have no fault, which is then the one that the rules name.
use Rattle.std.proofs.Common.{ℕ, ◌≡◌, List, Option, Some, None, option_map, refl, sym, ◌∙◌, ap}
use Rattle.boot_script.specs.declared.event.ScriptError.{ScriptError}
use Rattle.boot_script.specs.Judging.{IsScript, IsScriptError, script_error}
use Rattle.boot_script.proofs.JudgingLemmas.{error-exact, error-told, script-exact as no-error, script-formed}
use Rattle.cli_inputs.specs.Forms.{script_text}

-- what is told of an error
told-none : (o : Option ScriptError) → option_map script_text o ≡ None → o ≡ None
told-none None is = refl
told-none (Some error) is = cc

told-some : (o : Option ScriptError) (text : List ℕ) → option_map script_text o ≡ Some text
    → (error : ScriptError) × (o ≡ Some error) × (text ≡ script_text error)
told-some None text is = cc
told-some (Some error) text is = let same : text ≡ script_text error = cc in (error, refl, same)

pub script-none : (bytes : List ℕ) → option_map script_text (script_error bytes) ≡ None → IsScript bytes
script-none bytes is = script-formed bytes (told-none (script_error bytes) is)

-- a fault is one that the rules name
abbrev pub IsScriptFault : List ℕ → List ℕ → Type 0
IsScriptFault bytes text = (error : ScriptError) × IsScriptError bytes error × (text ≡ script_text error)

pub script-faulty : (bytes text : List ℕ) → option_map script_text (script_error bytes) ≡ Some text
    → IsScriptFault bytes text
script-faulty bytes text is =
    let told = told-some (script_error bytes) text is in (told.0, error-told bytes told.0 told.1, told.2)

pub script-exact : (bytes text : List ℕ) → IsScriptFault bytes text
    → option_map script_text (script_error bytes) ≡ Some text
script-exact bytes text (error, is, same) =
    ap (λ o. option_map script_text o) (error-exact bytes error is) ∙ ap Some (sym same)

pub script-apart : (bytes text : List ℕ) → IsScript bytes → IsScriptFault bytes text → ⊥
script-apart bytes text form (error, is, same) =
    let e : None ≡ Some error = sym (no-error bytes form) ∙ error-exact bytes error is in cc
