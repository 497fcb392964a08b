-- A text gives what is asked of an update, or has the fault that the rules name first.
use Rattle.std.proofs.Common.{ℕ, ◌≡◌, List, Option, Some, None, Result, Ok, Err, refl, sym, ◌∙◌, ap}
use Rattle.check_require.specs.declared.requirement.RequireFault.{RequireFault}
use Rattle.check_require.specs.Requires.{RequireView}
use Rattle.check_require.specs.Texts.{IsRequireText, IsRequireFault, require_read}
use Rattle.check_require.proofs.TextLemmas.{faulty-read, read-faulty, read-text, text-read}
use Rattle.cli_inputs.specs.Asks.{IsAskFault, ask_fault, ask_text}

pub ask-formed : (bytes : List ℕ) → ask_fault (require_read bytes) ≡ None → (ask : RequireView) × IsRequireText bytes ask
ask-formed bytes h = go (require_read bytes) refl h
  where
    go : (r : Result RequireView RequireFault) → require_read bytes ≡ r → ask_fault r ≡ None
        → (ask : RequireView) × IsRequireText bytes ask
    go (Ok ask) is e = (ask, read-text bytes ask is)
    go (Err fault) is e = cc

pub ask-gives : (bytes : List ℕ) (ask : RequireView) → IsRequireText bytes ask → require_read bytes ≡ Ok ask
ask-gives bytes ask is = text-read bytes ask is

pub ask-faulty : (bytes text : List ℕ) → ask_fault (require_read bytes) ≡ Some text → IsAskFault bytes text
ask-faulty bytes text h = go (require_read bytes) refl h
  where
    go : (r : Result RequireView RequireFault) → require_read bytes ≡ r → ask_fault r ≡ Some text
        → IsAskFault bytes text
    go (Ok ask) is e = cc
    go (Err fault) is e =
        let same : text ≡ ask_text fault = cc in (fault, read-faulty bytes fault is, same)

pub ask-exact : (bytes text : List ℕ) → IsAskFault bytes text → ask_fault (require_read bytes) ≡ Some text
ask-exact bytes text (fault, is, same) =
    ap (λ r. ask_fault r) (faulty-read bytes fault is) ∙ ap Some (sym same)

apart-by : (r : Result RequireView RequireFault) (ask : RequireView) (text : List ℕ) → r ≡ Ok ask
    → ask_fault r ≡ Some text → ⊥
apart-by (Ok other) ask text is h = cc
apart-by (Err fault) ask text is h = cc

-- what gives a value has no fault
pub ask-apart : (bytes text : List ℕ) (ask : RequireView) → IsRequireText bytes ask → IsAskFault bytes text → ⊥
ask-apart bytes text ask is fault =
    apart-by (require_read bytes) ask text (ask-gives bytes ask is) (ask-exact bytes text fault)
