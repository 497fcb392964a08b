-- The version of a spec that was read of a text.
use Rattle.std.proofs.Common.{◌≡◌, ℕ, ◌<◌, false, refl, List, [], ◌∷◌, Option, None, Some, Ok, option_and_then, subst, arith}
use Rattle.serde_json.specs.Data.{Data}
use Rattle.serde_json.specs.Find.{as_bool}
use Rattle.block_codec.specs.declared.versions.Version.{Version}
use Rattle.image_pack.specs.declared.spec.SealSpec.{SealSpec}
use Rattle.image_pack.specs.ReadBack.{IsHalves}
use Rattle.table_json.specs.declared.fault.Place.TheVariants.{Top}
use Rattle.table_json.specs.declared.fault.Field.TheVariants.{Version as OfVersion, Processor, Rollback, Rows, Trial}
use Rattle.table_json.specs.declared.members.Shape.TheVariants.{OfSpec}
use Rattle.table_json.specs.Forms.{number_below, values_in, version_form, version_in_list, version_of_numbers}
use Rattle.table_json.specs.Members.{object_judged, optional, required}
use Rattle.table_json.specs.Seals.{no_rows, processor_form, rollback_form, rows_form, spec_from, spec_with}
use Rattle.table_json.specs.Tables.{no_version}
use Rattle.table_json.proofs.SaysLemmas.{number_less, ok_back, optional_has, then_ok}

-- a version that is read has two half words
version_halves : (d : Data) (v : Version) → version_form d ≡ Some v → IsHalves v
version_halves d v is = whole (values_in d) is
  where
    parts : (a b : Option ℕ) → ((n : ℕ) → a ≡ Some n → n < 65536) → ((n : ℕ) → b ≡ Some n → n < 65536)
        → version_of_numbers a b ≡ Some v → IsHalves v
    parts (Some high) (Some low) one two is =
        let same : record { major = high; minor = low } ≡ v = cc in
        subst IsHalves same (record { major = one high refl; minor = two low refl })
    parts None b one two is = cc
    parts (Some high) None one two is = cc

    list : (ds : List Data) → version_in_list ds ≡ Some v → IsHalves v
    list [] is = cc
    list (a ∷ []) is = cc
    list (a ∷ b ∷ []) is =
        parts (number_below 65536 a) (number_below 65536 b) (number_less 65536 a) (number_less 65536 b) is
    list (a ∷ b ∷ c ∷ ds) is = cc

    whole : (o : Option (List Data)) → option_and_then version_in_list o ≡ Some v → IsHalves v
    whole None is = cc
    whole (Some ds) is = list ds is

none_halves : IsHalves no_version
none_halves = record { major = omega arith; minor = omega arith }

pub spec_halves : (d : Data) (spec : SealSpec) → spec_from d ≡ Ok spec → IsHalves spec.version
spec_halves d spec is =
    let judged = then_ok (object_judged OfSpec Top Processor d) _ spec is in
    let cpu = then_ok (required processor_form Top Processor d) _ spec judged.2 in
    let version = then_ok (optional version_form no_version Top OfVersion d) _ spec cpu.2 in
    let rollback = then_ok (optional rollback_form None Top Rollback d) _ spec version.2 in
    let rows = then_ok (optional rows_form no_rows Top Rows d) _ spec rollback.2 in
    let trial = then_ok (optional as_bool false Top Trial d) _ spec rows.2 in
    let made : spec_with cpu.0 version.0 rollback.0 rows.0 trial.0 ≡ spec = ok_back _ _ trial.2 in
    subst (λ (s : SealSpec). IsHalves s.version) made
    (optional_has version_form IsHalves version_halves Top OfVersion d no_version none_halves version.0 version.1)
