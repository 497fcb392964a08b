-- The members of a text that says what is asked of an update, in their order.
use Rattle.std.specs.Prelude.{ℕ, Bool, false, ◌||◌, not, List, [], ◌∷◌, codes, bytes_eq}
use Rattle.std.specs.List.{list_any}
use Rattle.serde_json.specs.Data.{Members, no_members, member}
use Rattle.check_require.specs.declared.members.Member.{Member}
use Rattle.check_require.specs.declared.members.Member.TheVariants.{Effect, Records, Written, Keep, Data, Cuts, Version, Fallback, Again, Covered, Hash, NoRows, Session, Boot, Buy, Caveats}

-- the members, in the order in which they are judged and told
abbrev pub all_members : List Member
all_members =
    Effect ∷ Records ∷ Written ∷ Keep ∷ Data ∷ Cuts ∷ Version ∷ Fallback ∷ Again ∷ Covered ∷ Hash
    ∷ NoRows ∷ Session ∷ Boot ∷ Buy ∷ Caveats ∷ []

-- the name of a member
abbrev pub member_name : Member → List ℕ
member_name Effect = codes "effect"
member_name Records = codes "records"
member_name Written = codes "written"
member_name Keep = codes "keep"
member_name Data = codes "data"
member_name Cuts = codes "cuts"
member_name Version = codes "version"
member_name Fallback = codes "fallback"
member_name Again = codes "again"
member_name Covered = codes "covered"
member_name Hash = codes "hash"
member_name NoRows = codes "no_rows"
member_name Session = codes "session"
member_name Boot = codes "boot"
member_name Buy = codes "buy"
member_name Caveats = codes "caveats"

-- whether a name is that of a member
abbrev pub is_member_name : List ℕ → Bool
is_member_name name = list_any (λ m. bytes_eq name (member_name m)) all_members

-- whether an object has a member of another name
abbrev pub has_unknown : Members → Bool
has_unknown no_members = false
has_unknown (member name d ms) = not (is_member_name name) || has_unknown ms
