-- The rules of a text as one list, in the order in which they are judged. Each rule has the fault
-- of a text that breaks it. Requires says the same as a function.
use Rattle.std.specs.Prelude.{Bool, false, if◌then◌else◌, List, [], ◌∷◌, is_none}
use Rattle.std.specs.Prelude.{Option, None, Some}
use Rattle.std.specs.Option.{option_map_or}
use Rattle.serde_json.specs.Data.{Data}
use Rattle.serde_json.specs.Find.{get, as_object, as_bool}
use Rattle.check_require.specs.declared.members.Member.{Member}
use Rattle.check_require.specs.declared.members.Member.TheVariants.{Effect, Records, Written, Keep, Data as OfData, Cuts, Version, Fallback, Again, Covered, Hash, NoRows, Session, Boot, Buy, Caveats}
use Rattle.check_require.specs.declared.requirement.RequireFault.{RequireFault}
use Rattle.check_require.specs.declared.requirement.RequireFault.TheVariants.{Unknown, Value}
use Rattle.check_require.specs.Forms.{allowances_form, allowed_caveats_form, effect_form, session_form, version_form}
use Rattle.check_require.specs.Members.{has_unknown, member_name}

-- a rule, whether it is broken, and the fault of a text that breaks it
pub record Rule : Type 0 where
  pub broken : Bool
  pub fault : RequireFault

abbrev pub rule : Bool → RequireFault → Rule
rule is_broken of_fault = record { broken = is_broken; fault = of_fault }

-- the fault of the first rule that is broken
abbrev pub first_broken : List Rule → Option RequireFault
first_broken [] = None
first_broken (r ∷ rs) = if r.broken then Some r.fault else first_broken rs

-- a member that is there has its form
abbrev pub member_rule : {A : Type 0} → (Data → Option A) → Member → Data → Rule
member_rule form m d =
    rule (option_map_or (λ x. is_none (form x)) (get (member_name m) d) false) (Value m)

-- the value is an object, each of its members is listed, and each that is there has its form
abbrev pub require_rules : Data → List Rule
require_rules d =
    rule (is_none (as_object d)) (Value Effect)
    ∷ rule (option_map_or has_unknown (as_object d) false) Unknown
    ∷ member_rule effect_form Effect d
    ∷ member_rule as_bool Records d
    ∷ member_rule as_bool Written d
    ∷ member_rule as_bool Keep d
    ∷ member_rule as_bool OfData d
    ∷ member_rule allowances_form Cuts d
    ∷ member_rule version_form Version d
    ∷ member_rule as_bool Fallback d
    ∷ member_rule as_bool Again d
    ∷ member_rule as_bool Covered d
    ∷ member_rule as_bool Hash d
    ∷ member_rule as_bool NoRows d
    ∷ member_rule session_form Session d
    ∷ member_rule as_bool Boot d
    ∷ member_rule as_bool Buy d
    ∷ member_rule allowed_caveats_form Caveats d
    ∷ []
