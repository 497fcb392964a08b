-- What an optional member gives, absent and present.
use Rattle.std.proofs.Common.{◌≡◌, ℕ, List, Option, None, Some, Ok, ok_or, ap, ◌∙◌}
use Rattle.serde_json.specs.Data.{Data}
use Rattle.serde_json.specs.Find.{get}
use Rattle.table_json.specs.declared.fault.Place.{Place}
use Rattle.table_json.specs.declared.fault.Field.{Field}
use Rattle.table_json.specs.declared.fault.JsonFault.TheVariants.{Value}
use Rattle.table_json.specs.Members.{member_name, optional_in, optional}

module _ {A : Type 0} (form : Data → Option A) (default : A) (place : Place) (field : Field) (d : Data) (name : List ℕ)
    (named : name ≡ member_name field) where
  pub optional_absent : None ≡ get name d → Ok default ≡ optional form default place field d
  optional_absent absent =
      ap (λ (o : Option Data). optional_in form default place field o) (absent ∙ ap (λ (n : List ℕ). get n d) named)

  pub optional_present : (v : Data) (read : Option A) → Some v ≡ get name d → read ≡ form v
      → ok_or read (Value place field) ≡ optional form default place field d
  optional_present v read present is =
      ap (λ (o : Option A). ok_or o (Value place field)) is
      ∙ ap (λ (o : Option Data). optional_in form default place field o)
      (present ∙ ap (λ (n : List ℕ). get n d) named)
