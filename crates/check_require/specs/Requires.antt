-- What is asked of an update, and what a text's value asks.
use Rattle.std.specs.Prelude.{◌≡◌, ℕ, Bool, true, false, ⊤, if◌then◌else◌, List, [], ◌∷◌, IsUtf8}
use Rattle.std.specs.Prelude.{Option, None, Some, Result, Ok, Err, Vec, ok_or}
use Rattle.std.specs.declared.alloc.Global.{Global}
use Rattle.serde_json.specs.Data.{Data, Members}
use Rattle.serde_json.specs.Find.{get, as_bool, as_object}
use Rattle.serde_json.specs.Read.{read}
use Rattle.check_require.specs.declared.caveats.CaveatName.{CaveatName}
use Rattle.check_require.specs.declared.members.Member.{Member}
use Rattle.check_require.specs.declared.members.Member.TheVariants.{Effect, Records, Written, Keep, Data as OfData, Cuts, Version, Fallback, Again, Covered, Hash, NoRows, Session, Boot, Buy, Caveats}
use Rattle.check_require.specs.declared.requirement.WantedEffect.{WantedEffect}
use Rattle.check_require.specs.declared.requirement.WantedEffect.TheVariants.{Image}
use Rattle.check_require.specs.declared.requirement.VersionAsk.{VersionAsk}
use Rattle.check_require.specs.declared.requirement.VersionAsk.TheVariants.{Any}
use Rattle.check_require.specs.declared.requirement.SessionAsk.{SessionAsk}
use Rattle.check_require.specs.declared.requirement.SessionAsk.TheVariants.{Any as AnyLaw}
use Rattle.check_require.specs.declared.requirement.Allowance.{Allowance}
use Rattle.check_require.specs.declared.requirement.Allowance.TheVariants.{Whole}
use Rattle.check_require.specs.declared.requirement.AllowedCaveat.{AllowedCaveat}
use Rattle.check_require.specs.declared.requirement.Require.{Require}
use Rattle.check_require.specs.declared.requirement.RequireFault.{RequireFault}
use Rattle.check_require.specs.declared.requirement.RequireFault.TheVariants.{Unknown, Value}
use Rattle.check_require.specs.Forms.{allowances_form, allowed_caveats_form, effect_form, everywhere, session_form, version_form}
use Rattle.check_require.specs.Members.{has_unknown, member_name}
use Rattle.check_require.specs.Names.{caveat_names, is_of_files}
use Rattle.check_require.specs.Steps.{◌>>=◌}

-- bytes are the text of a value where they are UTF-8 and the reader reads them as this value; the
-- reader reads what nests at most 127 deep
pub record IsJsonText (bytes : List ℕ) (d : Data) : Type 0 where
  pub utf8 : IsUtf8 bytes
  pub reads : read bytes ≡ Some d

-- what is asked, as plain data
pub record RequireView : Type 0 where
  pub effect : WantedEffect
  pub records : Bool
  pub written : Bool
  pub keep : Bool
  pub whole_data : Bool
  pub cuts : List Allowance
  pub version : VersionAsk
  pub fallback : Bool
  pub again : Bool
  pub covered : Bool
  pub hash : Bool
  pub no_rows : Bool
  pub session : SessionAsk
  pub boot : Bool
  pub buy : Bool
  pub caveats : List AllowedCaveat

abbrev pub require_from : Require → RequireView
require_from r = record {
  effect = r.effect;
  records = r.records;
  written = r.written;
  keep = r.keep;
  whole_data = r.whole_data;
  cuts = r.cuts.items;
  version = r.version;
  fallback = r.fallback;
  again = r.again;
  covered = r.covered;
  hash = r.hash;
  no_rows = r.no_rows;
  session = r.session;
  boot = r.boot;
  buy = r.buy;
  caveats = r.caveats.items;
}

-- what the reading of a list answers, as plain data
abbrev pub items_answer : {A : Type 0} → Result (Vec A Global) RequireFault
    → Result (List A) RequireFault
items_answer (Ok list) = Ok list.items
items_answer (Err fault) = Err fault

-- what a reading answers, as plain data
abbrev pub require_answer : Result Require RequireFault → Result RequireView RequireFault
require_answer (Ok r) = Ok (require_from r)
require_answer (Err fault) = Err fault

-- of these caveats those that may come where the text says nothing of them: all but those that say
-- of a file that it is not the board that is judged
abbrev pub allowed_of : List CaveatName → List AllowedCaveat
allowed_of [] = []
allowed_of (n ∷ ns) = if is_of_files n then allowed_of ns else everywhere n ∷ allowed_of ns

abbrev pub default_caveats : List AllowedCaveat
default_caveats = allowed_of caveat_names

-- what is asked where the text has no member
abbrev pub default_require : RequireView
default_require = record {
  effect = Image;
  records = true;
  written = true;
  keep = true;
  whole_data = true;
  cuts = Whole ∷ [];
  version = Any;
  fallback = false;
  again = false;
  covered = true;
  hash = false;
  no_rows = false;
  session = AnyLaw;
  boot = false;
  buy = false;
  caveats = default_caveats;
}

-- the members of an object are judged before all: Unknown where one is not listed; a value that is
-- no object is answered as a faulty effect
abbrev pub object_judged_as : Option Members → Result ⊤ RequireFault
object_judged_as None = Err (Value Effect)
object_judged_as (Some ms) = if has_unknown ms then Err Unknown else Ok tt

abbrev pub object_judged : Data → Result ⊤ RequireFault
object_judged d = object_judged_as (as_object d)

-- a member has its default where it is absent, and its form otherwise
abbrev pub asked_in : {A : Type 0} → (Data → Option A) → A → Member → Option Data
    → Result A RequireFault
asked_in form default m None = Ok default
asked_in form default m (Some d) = ok_or (form d) (Value m)

abbrev pub asked : {A : Type 0} → (Data → Option A) → A → Member → Data → Result A RequireFault
asked form default m d = asked_in form default m (get (member_name m) d)

-- what is asked, of these parts
abbrev pub require_with : WantedEffect → Bool → Bool → Bool → Bool → List Allowance → VersionAsk
    → Bool → Bool → Bool → Bool → Bool → SessionAsk → Bool → Bool → List AllowedCaveat
    → RequireView
require_with of_effect of_records of_written of_keep of_data of_cuts of_version of_fallback of_again
    of_covered of_hash of_rows of_session of_boot of_buy of_caveats = record {
      effect = of_effect;
      records = of_records;
      written = of_written;
      keep = of_keep;
      whole_data = of_data;
      cuts = of_cuts;
      version = of_version;
      fallback = of_fallback;
      again = of_again;
      covered = of_covered;
      hash = of_hash;
      no_rows = of_rows;
      session = of_session;
      boot = of_boot;
      buy = of_buy;
      caveats = of_caveats;
    }

-- what a text's value asks, or its first fault: its object is judged first, then its members in
-- this order
abbrev pub require_of_value : Data → Result RequireView RequireFault
require_of_value d = do
  judged ← object_judged d
  effect ← asked effect_form default_require.effect Effect d
  records ← asked as_bool default_require.records Records d
  written ← asked as_bool default_require.written Written d
  keep ← asked as_bool default_require.keep Keep d
  whole ← asked as_bool default_require.whole_data OfData d
  cuts ← asked allowances_form default_require.cuts Cuts d
  version ← asked version_form default_require.version Version d
  fallback ← asked as_bool default_require.fallback Fallback d
  again ← asked as_bool default_require.again Again d
  covered ← asked as_bool default_require.covered Covered d
  hash ← asked as_bool default_require.hash Hash d
  no_rows ← asked as_bool default_require.no_rows NoRows d
  session ← asked session_form default_require.session Session d
  boot ← asked as_bool default_require.boot Boot d
  buy ← asked as_bool default_require.buy Buy d
  caveats ← asked allowed_caveats_form default_require.caveats Caveats d
  Ok (require_with effect records written keep whole cuts version fallback again covered hash
      no_rows session boot buy caveats)
