-- The forms of the values of members: a form reads a value, or refuses it.
use Rattle.std.specs.Prelude.{ℕ, false, if◌then◌else◌, true, List, [], ◌∷◌, ◌++◌, codes, bytes_eq}
use Rattle.std.specs.Prelude.{Option, None, Some, option_map, option_and_then}
use Rattle.serde_json.specs.Data.{Data, Items, no_items, item}
use Rattle.serde_json.specs.Find.{as_str, as_array}
use Rattle.text_words.specs.Reading.{behind_word}
use Rattle.check_require.specs.declared.caveats.CaveatName.{CaveatName}
use Rattle.check_require.specs.declared.requirement.WantedEffect.{WantedEffect}
use Rattle.check_require.specs.declared.requirement.WantedEffect.TheVariants.{Image, Table, Flash, Nothing}
use Rattle.check_require.specs.declared.requirement.VersionAsk.{VersionAsk}
use Rattle.check_require.specs.declared.requirement.VersionAsk.TheVariants.{Up, Same, Any}
use Rattle.check_require.specs.declared.requirement.SessionAsk.{SessionAsk}
use Rattle.check_require.specs.declared.requirement.SessionAsk.TheVariants.{Staged, Gated, Confined, Any as AnyLaw}
use Rattle.check_require.specs.declared.requirement.Allowance.{Allowance}
use Rattle.check_require.specs.declared.requirement.Allowance.TheVariants.{Whole, Tail, Mixed, Bootsel, Raising}
use Rattle.check_require.specs.declared.requirement.AllowedCaveat.{AllowedCaveat}
use Rattle.check_require.specs.Names.{caveat_named}

-- what a word says that an update is for
abbrev pub effect_named : List ℕ → Option WantedEffect
effect_named word =
    if bytes_eq word (codes "image") then Some Image
    else if bytes_eq word (codes "table") then Some Table
    else if bytes_eq word (codes "flash") then Some Flash
    else if bytes_eq word (codes "none") then Some Nothing
    else None

abbrev pub effect_form : Data → Option WantedEffect
effect_form d = option_and_then effect_named (as_str d)

-- which versions a word lets come
abbrev pub version_named : List ℕ → Option VersionAsk
version_named word =
    if bytes_eq word (codes "up") then Some Up
    else if bytes_eq word (codes "same") then Some Same
    else if bytes_eq word (codes "any") then Some Any
    else None

abbrev pub version_form : Data → Option VersionAsk
version_form d = option_and_then version_named (as_str d)

-- the law of a session that a word asks for
abbrev pub session_named : List ℕ → Option SessionAsk
session_named word =
    if bytes_eq word (codes "staged") then Some Staged
    else if bytes_eq word (codes "gated") then Some Gated
    else if bytes_eq word (codes "confined") then Some Confined
    else if bytes_eq word (codes "any") then Some AnyLaw
    else None

abbrev pub session_form : Data → Option SessionAsk
session_form d = option_and_then session_named (as_str d)

-- what a word allows a loss of power to leave
abbrev pub allowance_named : List ℕ → Option Allowance
allowance_named word =
    if bytes_eq word (codes "whole") then Some Whole
    else if bytes_eq word (codes "tail") then Some Tail
    else if bytes_eq word (codes "mixed") then Some Mixed
    else if bytes_eq word (codes "bootsel") then Some Bootsel
    else if bytes_eq word (codes "raising") then Some Raising
    else None

abbrev pub allowance_form : Data → Option Allowance
allowance_form d = option_and_then allowance_named (as_str d)

-- a caveat that is allowed everywhere, and one that is allowed at cuts alone
abbrev pub everywhere : CaveatName → AllowedCaveat
everywhere caveat = record { name = caveat; only_in_cuts = false }

abbrev pub at_cuts : CaveatName → AllowedCaveat
at_cuts caveat = record { name = caveat; only_in_cuts = true }

-- the caveat that a text allows: a name, or `cuts:` and a name
abbrev pub allowed_behind : Option (List ℕ) → List ℕ → Option AllowedCaveat
allowed_behind (Some rest) text = option_map at_cuts (caveat_named rest)
allowed_behind None text = option_map everywhere (caveat_named text)

abbrev pub allowed_caveat : List ℕ → Option AllowedCaveat
allowed_caveat text = allowed_behind (behind_word (codes "cuts:") text) text

abbrev pub caveat_form : Data → Option AllowedCaveat
caveat_form d = option_and_then allowed_caveat (as_str d)

-- the values of a list, in its order
abbrev pub values_of : Items → List Data
values_of no_items = []
values_of (item d ds) = d ∷ values_of ds

abbrev pub values_in : Data → Option (List Data)
values_in d = option_map values_of (as_array d)

-- what a form reads of each value, behind what was read before; or none where it refuses one
abbrev pub read_after : {A : Type 0} → (Data → Option A) → List A → List Data → Option (List A)
read_after form done [] = Some done
read_after form done (d ∷ ds) =
    option_and_then (λ one. read_after form (done ++ one ∷ []) ds) (form d)

-- lists of words, and of texts that allow caveats
abbrev pub allowances_form : Data → Option (List Allowance)
allowances_form d = option_and_then (read_after allowance_form []) (values_in d)

abbrev pub allowed_caveats_form : Data → Option (List AllowedCaveat)
allowed_caveats_form d = option_and_then (read_after caveat_form []) (values_in d)
