-- The first rule that a text breaks, and that no value is answered NotJson or Memory.
use Rattle.std.proofs.Common.{◌≡◌, ◌≢◌, Bool, true, false, List, [], ◌∷◌, Option, None, Some, Result, Ok, Err, is_none, ok_or, refl, if◌then◌else◌}
use Rattle.std.specs.Bool.{⊤}
use Rattle.std.specs.Option.{option_map_or}
use Rattle.std.specs.Result.{result_err}
use Rattle.serde_json.specs.Data.{Data, Members}
use Rattle.serde_json.specs.Find.{get, as_object, as_bool}
use Rattle.check_require.specs.declared.members.Member.{Member}
use Rattle.check_require.specs.declared.members.Member.TheVariants.{Effect, Records, Written, Keep, Data as OfData, Cuts, Version, Fallback, Again, Covered, Hash, NoRows, Session, Boot, Buy, Caveats}
use Rattle.check_require.specs.declared.requirement.RequireFault.{RequireFault}
use Rattle.check_require.specs.declared.requirement.RequireFault.TheVariants.{NotJson, Memory, Unknown, Value}
use Rattle.check_require.specs.Forms.{allowances_form, allowed_caveats_form, effect_form, session_form, version_form}
use Rattle.check_require.specs.Members.{has_unknown, member_name}
use Rattle.check_require.specs.Requires.{asked, asked_in, object_judged_as, require_of_value}
use Rattle.check_require.specs.Rules.{Rule, first_broken, member_rule, require_rules, rule}
use Rattle.check_require.specs.Steps.{◌>>=◌}

-- an answer that is neither
pub record IsPlain {A : Type 0} (r : Result A RequireFault) : Type 0 where
  pub json : r ≢ Err NotJson
  pub memory : r ≢ Err Memory

ok_plain : {A : Type 0} (a : A) → IsPlain (Ok a)
ok_plain a = record { json = λ e. cc; memory = λ e. cc }

unknown_plain : {A : Type 0} → IsPlain {A = A} (Err Unknown)
unknown_plain = record { json = λ e. cc; memory = λ e. cc }

value_plain : {A : Type 0} (m : Member) → IsPlain {A = A} (Err (Value m))
value_plain m = record { json = λ e. cc; memory = λ e. cc }

-- a step and the one after it: the fault of the first broken rule, and no other answer
pub record IsJudged {B : Type 0} (rules : List Rule) (r : Result B RequireFault) : Type 0 where
  pub first : result_err r ≡ first_broken rules
  pub plain : IsPlain r

module _ {B : Type 0} (rest : List Rule) where
  unknown_step : (unknown : Bool) (next : ⊤ → Result B RequireFault) → IsJudged rest (next (tt {0}))
      → IsJudged (rule unknown Unknown ∷ rest) ((if unknown then Err Unknown else Ok (tt {0})) >>= next)
  unknown_step true next later = record { first = refl; plain = unknown_plain }
  unknown_step false next later = record { first = later.first; plain = later.plain }

  object_step_as : (found : Option Members) (next : ⊤ → Result B RequireFault) → IsJudged rest (next (tt {0}))
      → IsJudged (rule (is_none found) (Value Effect) ∷ rule (option_map_or has_unknown found false) Unknown ∷ rest)
      (object_judged_as found >>= next)
  object_step_as None next later = record { first = refl; plain = value_plain Effect }
  object_step_as (Some ms) next later =
      let step = unknown_step (has_unknown ms) next later in record { first = step.first; plain = step.plain }

  formed_step : {A : Type 0} (read : Option A) (m : Member) (next : A → Result B RequireFault)
      → ((a : A) → IsJudged rest (next a))
      → IsJudged (rule (is_none read) (Value m) ∷ rest) (ok_or read (Value m) >>= next)
  formed_step None m next later = record { first = refl; plain = value_plain m }
  formed_step (Some a) m next later = let step = later a in record { first = step.first; plain = step.plain }

  asked_step_in : {A : Type 0} (form : Data → Option A) (default : A) (m : Member) (found : Option Data)
      (next : A → Result B RequireFault) → ((a : A) → IsJudged rest (next a))
      → IsJudged (rule (option_map_or (λ x. is_none (form x)) found false) (Value m) ∷ rest)
      (asked_in form default m found >>= next)
  asked_step_in form default m None next later =
      let step = later default in record { first = step.first; plain = step.plain }
  asked_step_in form default m (Some x) next later = formed_step (form x) m next later

  -- a member is asked for, and then what comes after it
  asked_step : {A : Type 0} (form : Data → Option A) (default : A) (m : Member) (d : Data)
      (next : A → Result B RequireFault) → ((a : A) → IsJudged rest (next a))
      → IsJudged (member_rule form m d ∷ rest) (asked form default m d >>= next)
  asked_step form default m d next later = asked_step_in form default m (get (member_name m) d) next later

ok_judged : {B : Type 0} (b : B) → IsJudged [] (Ok b)
ok_judged b = record { first = refl; plain = ok_plain b }

pub require_judged : (d : Data) → IsJudged (require_rules d) (require_of_value d)
require_judged d =
    object_step_as _ (as_object d) _
    (asked_step _ effect_form _ Effect d _
    (λ effect. asked_step _ as_bool _ Records d _
    (λ records. asked_step _ as_bool _ Written d _
    (λ written. asked_step _ as_bool _ Keep d _
    (λ keep. asked_step _ as_bool _ OfData d _
    (λ whole. asked_step _ allowances_form _ Cuts d _
    (λ cuts. asked_step _ version_form _ Version d _
    (λ version. asked_step _ as_bool _ Fallback d _
    (λ fallback. asked_step _ as_bool _ Again d _
    (λ again. asked_step _ as_bool _ Covered d _
    (λ covered. asked_step _ as_bool _ Hash d _
    (λ hash. asked_step _ as_bool _ NoRows d _
    (λ no_rows. asked_step _ session_form _ Session d _
    (λ session. asked_step _ as_bool _ Boot d _
    (λ boot. asked_step _ as_bool _ Buy d _
    (λ buy. asked_step _ allowed_caveats_form _ Caveats d _
    (λ caveats. ok_judged _)))))))))))))))))
