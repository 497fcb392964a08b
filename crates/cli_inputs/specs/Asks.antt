-- The faults of a text that says what is asked of an update, and the texts that name them.
use Rattle.std.specs.Prelude.{◌≡◌, ℕ, List, ◌++◌, Option, Some, None, Result, Ok, Err, codes}
use Rattle.check_require.specs.declared.requirement.RequireFault.{RequireFault}
use Rattle.check_require.specs.declared.requirement.RequireFault.TheVariants.{NotJson, Unknown, Value, Memory}
use Rattle.check_require.specs.Members.{member_name}
use Rattle.check_require.specs.Requires.{RequireView}
use Rattle.check_require.specs.Texts.{IsRequireFault}

-- the fault of such a text; the last one is never the fault of a text
abbrev pub ask_text : RequireFault → List ℕ
ask_text NotJson = codes "not-json"
ask_text Unknown = codes "unknown top"
ask_text (Value member) = codes "value top " ++ member_name member
ask_text Memory = codes "memory"

-- the text has this fault, which is named so
abbrev pub IsAskFault : List ℕ → List ℕ → Type 0
IsAskFault bytes text = (fault : RequireFault) × IsRequireFault bytes fault × (text ≡ ask_text fault)

-- the text of the fault that was read, if any
abbrev pub ask_fault : Result RequireView RequireFault → Option (List ℕ)
ask_fault (Ok ask) = None
ask_fault (Err fault) = Some (ask_text fault)
