use Rattle.std.proofs.Common.{◌≡◌, ◌≢◌, Ok, Err, Result, IfOk, IfErr, refl, sym, ◌∙◌, ap}
use Rattle.std.specs.Prelude.{ℕ, List}
use Rattle.check_require.specs.declared.requirement.Require.{Require}
use Rattle.check_require.specs.declared.requirement.RequireFault.{RequireFault}
use Rattle.check_require.specs.declared.requirement.RequireFault.TheVariants.{Memory}
use Rattle.check_require.specs.Requires.{require_answer, require_from}
use Rattle.check_require.specs.Texts.{IsRequireFault, IsRequireText, require_read}
use Rattle.check_require.proofs.TextLemmas.{exactly, read-text, read-faulty}
use Rattle.check_require.proofs.reading.require_of.Goals as goal

-- what is read of a text, by what the reader answers
asks-of : (bytes : List ℕ) (r : Result Require RequireFault) → (r ≢ Err Memory → require_answer r ≡ require_read bytes)
    → IfOk r (λ a. IsRequireText bytes (require_from a))
asks-of bytes (Ok a) is = read-text bytes (require_from a) (sym (is (λ (e : Ok a ≡ Err Memory). cc)))
asks-of bytes (Err f) is = _

first-of : (bytes : List ℕ) (r : Result Require RequireFault) → (r ≢ Err Memory → require_answer r ≡ require_read bytes)
    → IfErr r (λ f. f ≢ Memory → IsRequireFault bytes f)
first-of bytes (Ok a) is = _
first-of bytes (Err f) is =
    λ room. read-faulty bytes f (sym (is (λ (e : Err f ≡ Err Memory). let same : f ≡ Memory = cc in room same)))

pub returns-clause-function : goal.returns-clause-function
returns-clause-function c =
    exactly _ _ c.read_require.ensures.asks c.read_require.ensures.first c.read_require.ensures.exact

pub returns-clause-asks : goal.returns-clause-asks
returns-clause-asks c =
    asks-of _ _
    (exactly _ _ c.read_require.ensures.asks c.read_require.ensures.first c.read_require.ensures.exact)

pub returns-clause-first : goal.returns-clause-first
returns-clause-first c =
    first-of _ _
    (exactly _ _ c.read_require.ensures.asks c.read_require.ensures.first c.read_require.ensures.exact)
