-- What a text asks of an update, or its first fault, by its bytes.
use Rattle.std.specs.Prelude.{◌≡◌, ◌⊎◌, ℕ, if◌then◌else◌, List, Option, None, Some, Result, Ok, Err}
use Rattle.std.specs.Str.{is_utf8}
use Rattle.serde_json.specs.Data.{Data}
use Rattle.serde_json.specs.Read.{read}
use Rattle.check_require.specs.declared.requirement.RequireFault.{RequireFault}
use Rattle.check_require.specs.declared.requirement.RequireFault.TheVariants.{NotJson}
use Rattle.check_require.specs.Requires.{IsJsonText, RequireView, require_of_value}
use Rattle.check_require.specs.Rules.{first_broken, require_rules}

-- the bytes are the text of no value
abbrev pub IsNoText : List ℕ → Type 0
IsNoText bytes = (d : Data) → IsJsonText bytes d → ⊥

-- the text of what is asked: its value breaks no rule, and asks this
pub record IsRequireText (bytes : List ℕ) (ask : RequireView) : Type 0 where
  pub value : Data
  pub text : IsJsonText bytes value
  pub unbroken : first_broken (require_rules value) ≡ None
  pub gives : require_of_value value ≡ Ok ask

-- the fault of a text: it is that of no value; or its value breaks a rule, and this is the fault of
-- the first one
abbrev pub IsRequireFault : List ℕ → RequireFault → Type 0
IsRequireFault bytes fault =
    (IsNoText bytes × (fault ≡ NotJson))
    ⊎ ((d : Data) × IsJsonText bytes d × (first_broken (require_rules d) ≡ Some fault))

-- the value of a text, as a function
abbrev pub value_of : List ℕ → Option Data
value_of bytes = if is_utf8 bytes then read bytes else None

abbrev pub read_by : Option Data → Result RequireView RequireFault
read_by None = Err NotJson
read_by (Some d) = require_of_value d

-- what a text asks, or its first fault
unfoldable pub require_read : List ℕ → Result RequireView RequireFault
require_read bytes = read_by (value_of bytes)
