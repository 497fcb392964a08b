-- A block's items say no table exactly where the rules say so.
use Rattle.std.proofs.Common.{◌≡◌, ◌≢◌, ◌⊎◌, inl, inr, ℕ, zero, suc, ◌%◌, ◌==◌, ◌&&◌, ◌||◌, Bool, true, false, cond, List, [], ◌∷◌, length, drop, refl, sym, ap, ◌∙◌, Option, None, Some, option_map, option_and_then}
use Rattle.std.specs.Prelude.{is_none}
use Rattle.std.proofs.lemmas.Bool.{lt-ltb, ltb-true, ne_eqb}
use Rattle.std.proofs.lemmas.Option.{none-some}
use Rattle.block_codec.specs.declared.items.Item.{Item}
use Rattle.block_codec.specs.declared.kinds.TheConstants.{HASH_DEF, HASH_VALUE, PARTITION_TABLE, VERSION}
use Rattle.block_codec.specs.declared.versions.Version.{Version}
use Rattle.block_codec.specs.Kinds.{digest_of, hash_count_of, is_of_kind, item_of_kind, items_of_kind, version_of, version_words}
use Rattle.part_table.specs.declared.partition.Partition.{Partition}
use Rattle.part_table.specs.declared.table.Table.{Table}
use Rattle.part_table.specs.BadItems.{AreFilled, Fill, HasBadItem, HasItem, HasNoItem, HasWrong, IsMisplacedHash, IsWrongHashDef, IsWrongHashValue, IsWrongVersion, StandsTwice, told_words}
use Rattle.part_table.specs.Contents.{body_of, fields_of_items, has_bad_hash, hash_count, is_bad, is_misplaced_digest, is_misread, is_repeated, said, table_from, table_of_items, version_in}
use Rattle.part_table.specs.Partitions.{partition_from, partition_words, partitions_in}
use Rattle.part_table.proofs.TestLemmas.{any_of_two, differ, found_place, mapped_none, mapped_some, search_of}
use Rattle.part_table.proofs.TwiceLemmas.{of-twice, only-found, twice-of, two-from, two-to}

-- a kind stands twice exactly where it is repeated
pub repeated-to : (items : List Item) (kind : ℕ) → is_repeated items kind ≡ true → StandsTwice items kind
repeated-to items kind e =
    let two = twice-of (is_of_kind kind) items (two-from (length (items_of_kind kind items)) e) in record {
      place = two.place;
      later = two.later;
      one = two.one;
      other = two.other;
      apart = two.apart;
      first = two.first;
      second = two.second;
    }

pub repeated-back : (items : List Item) (kind : ℕ) → StandsTwice items kind → is_repeated items kind ≡ true
repeated-back items kind two =
    two-to _ (of-twice (is_of_kind kind) items two.place two.later two.one two.other two.apart two.first two.second)

-- no item is of a kind exactly where none is found
none-to : (items : List Item) (kind : ℕ) → item_of_kind kind items ≡ None → HasNoItem items kind
none-to items kind none x has = elim (search_of (is_of_kind kind) items) [
  | inl absent ↦ (let no_way = sym (absent.fails has.0 x has.1.0) ∙ has.1.1 in cc)
  | inr found ↦ none-some found.1 (sym none ∙ found.2.sought)
]

none-back : (items : List Item) (kind : ℕ) → HasNoItem items kind → item_of_kind kind items ≡ None
none-back items kind never = elim (search_of (is_of_kind kind) items) [
  | inl absent ↦ absent.unfound
  | inr found ↦ absurd (never found.1 (found.0, (found.2.at, found.2.passes)))
]

there : (items : List Item) (kind : ℕ) (x : Item) → item_of_kind kind items ≡ Some x → HasItem items kind x
there items kind x is = let found = found_place (is_of_kind kind) items x is in (found.0, (found.1, found.2))

the-only : (items : List Item) (kind : ℕ) (x : Item) → is_repeated items kind ≡ false → HasItem items kind x
    → item_of_kind kind items ≡ Some x
the-only items kind x few has = only-found (is_of_kind kind) items has.0 x few has.1

-- a kind is bad exactly where it stands twice, or an item of it is wrong
module _ {A : Type 0} (read : Item → Option A) (kind : ℕ) (items : List Item) (IsWrong : Item → Type 0)
    (to : (x : Item) → is_none (read x) ≡ true → IsWrong x)
    (back : (x : Item) → IsWrong x → is_none (read x) ≡ true) where
  pub bad-to : is_bad read kind items ≡ true → StandsTwice items kind ⊎ HasWrong items kind IsWrong
  bad-to e = go (is_repeated items kind) refl e
    where
      by-item : (o : Option Item) → item_of_kind kind items ≡ o → is_misread read o ≡ true
          → HasWrong items kind IsWrong
      by-item None is misread = cc
      by-item (Some x) is misread = (x, there items kind x is, to x misread)

      go : (r : Bool) → is_repeated items kind ≡ r → (r || is_misread read (item_of_kind kind items)) ≡ true
          → StandsTwice items kind ⊎ HasWrong items kind IsWrong
      go true is misread = inl (repeated-to items kind is)
      go false is misread = inr (by-item (item_of_kind kind items) refl misread)

  pub bad-twice : StandsTwice items kind → is_bad read kind items ≡ true
  bad-twice two =
      ap (λ r. r || is_misread read (item_of_kind kind items)) (repeated-back items kind two)

  pub bad-wrong : HasWrong items kind IsWrong → is_bad read kind items ≡ true
  bad-wrong wrong = go (is_repeated items kind) refl
    where
      go : (r : Bool) → is_repeated items kind ≡ r → (r || is_misread read (item_of_kind kind items)) ≡ true
      go true is = refl
      go false is =
          ap (is_misread read) (the-only items kind wrong.0 is wrong.1) ∙ back wrong.0 wrong.2

-- a value that comes with a test
none-if : {A : Type 0} (test : Bool) (x : A) → is_none (cond test (Some x) None) ≡ true → test ≡ false
none-if true x e = cc
none-if false x e = refl

if-none : {A : Type 0} (test : Bool) (x : A) → test ≡ false → is_none (cond test (Some x) None) ≡ true
if-none true x e = cc
if-none false x e = refl

some-if : {A : Type 0} (test : Bool) (x : A) → is_none (cond test (Some x) None) ≡ false
    → cond test (Some x) None ≡ Some x
some-if true x e = refl
some-if false x e = cc

one-differs : (a b : ℕ) → (a == 2 && b == 1) ≡ false → (a ≢ 2) ⊎ (b ≢ 1)
one-differs a b e = go (a == 2) refl e
  where
    go : (t : Bool) → (a == 2) ≡ t → (t && b == 1) ≡ false → (a ≢ 2) ⊎ (b ≢ 1)
    go true is other = inr (differ b 1 other)
    go false is other = inl (differ a 2 is)

differs-one : (a b : ℕ) → (a ≢ 2) ⊎ (b ≢ 1) → (a == 2 && b == 1) ≡ false
differs-one a b (inl no_two) = ap (λ t. t && b == 1) (ne_eqb a 2 no_two)
differs-one a b (inr no_one) = go (a == 2)
  where
    go : (t : Bool) → (t && b == 1) ≡ false
    go true = ne_eqb b 1 no_one
    go false = refl

-- partitions that fill their words are read, and others are not
not-filled : (n : ℕ) (ws : List ℕ) → partitions_in n ws ≡ None → Fill n ws → ⊥
not-filled zero [] e fill = cc
not-filled zero (w ∷ ws) e fill = cc
not-filled (suc n) ws e fill =
    not-filled n (drop fill.0 ws)
    (mapped_none (λ ps. partition_from ws ∷ ps) (partitions_in n (drop fill.0 ws))
    (sym (ap (option_and_then (λ size. option_map (λ ps. partition_from ws ∷ ps)
    (partitions_in n (drop size ws)))) fill.1) ∙ e)) fill.2

filled : (n : ℕ) (ws : List ℕ) (ps : List Partition) → partitions_in n ws ≡ Some ps → Fill n ws
filled zero [] ps e = refl
filled zero (w ∷ ws) ps e = cc
filled (suc n) ws ps e = go (partition_words ws) refl e (λ size qs. filled n (drop size ws) qs)
  where
    parts : ℕ → Option (List Partition)
    parts size = option_map (λ ps. partition_from ws ∷ ps) (partitions_in n (drop size ws))

    go : (o : Option ℕ) → partition_words ws ≡ o → option_and_then parts o ≡ Some ps
        → ((size : ℕ) (qs : List Partition) → partitions_in n (drop size ws) ≡ Some qs → Fill n (drop size ws))
        → Fill (suc n) ws
    go None is read fills = cc
    go (Some size) is read fills =
        let rest = mapped_some (λ ps. partition_from ws ∷ ps) (partitions_in n (drop size ws)) ps read in
        (size, is, fills size rest.0 rest.1)

unread : (n : ℕ) (ws : List ℕ) → (Fill n ws → ⊥) → partitions_in n ws ≡ None
unread n ws never = go (partitions_in n ws) refl
  where
    go : (o : Option (List Partition)) → partitions_in n ws ≡ o → o ≡ None
    go None is = refl
    go (Some ps) is = absurd (never (filled n ws ps is))

table-unfilled : (v : Version) (high : ℕ) (body : List ℕ) → table_from v high body ≡ None → AreFilled high body → ⊥
table-unfilled v high [] e fill = fill
table-unfilled v high (word ∷ ws) e fill =
    not-filled (high % 16) ws (mapped_none _ (partitions_in (high % 16) ws) e) fill

unfilled-table : (v : Version) (high : ℕ) (body : List ℕ) → (AreFilled high body → ⊥) → table_from v high body ≡ None
unfilled-table v high [] never = refl
unfilled-table v high (word ∷ ws) never = ap (option_map _) (unread (high % 16) ws never)

module _ (words : List ℕ) (items : List Item) where
  -- which items of the three kinds are misread
  version-to : (x : Item) → is_none (version_of words x) ≡ true → IsWrongVersion x
  version-to x e = differ x.words (version_words x.high) (none-if (x.words == version_words x.high) _ e)

  version-back : (x : Item) → IsWrongVersion x → is_none (version_of words x) ≡ true
  version-back x wrong = if-none (x.words == version_words x.high) _ (ne_eqb x.words (version_words x.high) wrong)

  hash_def-to : (x : Item) → is_none (hash_count_of words x) ≡ true → IsWrongHashDef x
  hash_def-to x e = one-differs x.words x.high (none-if (x.words == 2 && x.high == 1) (told_words words x) e)

  hash_def-back : (x : Item) → IsWrongHashDef x → is_none (hash_count_of words x) ≡ true
  hash_def-back x wrong =
      if-none (x.words == 2 && x.high == 1) (told_words words x) (differs-one x.words x.high wrong)

  hash_value-to : (x : Item) → is_none (digest_of words x) ≡ true → IsWrongHashValue x
  hash_value-to x e = differ x.words 9 (none-if (x.words == 9) _ e)

  hash_value-back : (x : Item) → IsWrongHashValue x → is_none (digest_of words x) ≡ true
  hash_value-back x wrong = if-none (x.words == 9) _ (ne_eqb x.words 9 wrong)

  abbrev bad_version : Bool
  bad_version = is_bad (version_of words) VERSION items

  abbrev bad_def : Bool
  bad_def = is_bad (hash_count_of words) HASH_DEF items

  abbrev bad_value : Bool
  bad_value = is_bad (digest_of words) HASH_VALUE items

  abbrev misplaced : Bool
  misplaced = is_misplaced_digest (length words) (item_of_kind HASH_VALUE items) (hash_count words items)

  abbrev table_in : Item → Option Table
  table_in x = table_from (version_in words items) x.high (body_of words x)

  told : (x : Item) → is_none (hash_count_of words x) ≡ false → hash_count_of words x ≡ Some (told_words words x)
  told x e = some-if (x.words == 2 && x.high == 1) (told_words words x) e

  -- a digest that is misplaced
  misplaced-to : is_misread (hash_count_of words) (item_of_kind HASH_DEF items) ≡ false → misplaced ≡ true
      → IsMisplacedHash words items
  misplaced-to right e = go (item_of_kind HASH_VALUE items) (item_of_kind HASH_DEF items) refl refl right e
    where
      go : (v d : Option Item) → item_of_kind HASH_VALUE items ≡ v → item_of_kind HASH_DEF items ≡ d
          → is_misread (hash_count_of words) d ≡ false
          → is_misplaced_digest (length words) v (option_and_then (hash_count_of words) d) ≡ true
          → IsMisplacedHash words items
      go None None value def read e = cc
      go (Some v) None value def read e = inl (v, there items HASH_VALUE v value, none-to items HASH_DEF def)
      go None (Some d) value def read e =
          let past = ltb-true (length words) (told_words words d)
          (sym (ap (is_misplaced_digest (length words) None) (told d read)) ∙ e) in
          inr (inr (d, none-to items HASH_VALUE value, there items HASH_DEF d def, past))
      go (Some v) (Some d) value def read e =
          let past = ltb-true v.first (told_words words d)
          (sym (ap (is_misplaced_digest (length words) (Some v)) (told d read)) ∙ e) in
          inr (inl (v, d, there items HASH_VALUE v value, there items HASH_DEF d def, past))

  placed_as : (v d : Option Item) → item_of_kind HASH_VALUE items ≡ v → item_of_kind HASH_DEF items ≡ d
      → misplaced ≡ is_misplaced_digest (length words) v (option_and_then (hash_count_of words) d)
  placed_as v d value def =
      ap (λ o. is_misplaced_digest (length words) o (hash_count words items)) value
      ∙ ap (λ o. is_misplaced_digest (length words) v (option_and_then (hash_count_of words) o)) def

  misplaced-back : bad_def ≡ false → bad_value ≡ false → IsMisplacedHash words items → misplaced ≡ true
  misplaced-back def_right value_right is = go is
    where
      no_def : is_repeated items HASH_DEF ≡ false
      no_def = (any_of_two (is_repeated items HASH_DEF) _ def_right).0

      no_value : is_repeated items HASH_VALUE ≡ false
      no_value = (any_of_two (is_repeated items HASH_VALUE) _ value_right).0

      count : (d : Item) → item_of_kind HASH_DEF items ≡ Some d → hash_count_of words d ≡ Some (told_words words d)
      count d def =
          told d (sym (ap (is_misread (hash_count_of words)) def)
          ∙ (any_of_two (is_repeated items HASH_DEF) _ def_right).1)

      go : IsMisplacedHash words items → misplaced ≡ true
      go (inl (v, value, none)) =
          placed_as (Some v) None (the-only items HASH_VALUE v no_value value) (none-back items HASH_DEF none)
      go (inr (inl (v, d, value, def, past))) =
          let found = the-only items HASH_DEF d no_def def in
          placed_as (Some v) (Some d) (the-only items HASH_VALUE v no_value value) found
          ∙ ap (is_misplaced_digest (length words) (Some v)) (count d found) ∙ lt-ltb v.first (told_words words d) past
      go (inr (inr (d, none, def, past))) =
          let found = the-only items HASH_DEF d no_def def in
          placed_as None (Some d) (none-back items HASH_VALUE none) found
          ∙ ap (is_misplaced_digest (length words) None) (count d found)
          ∙ lt-ltb (length words) (told_words words d) past

  -- what is bad, by the tests
  version-bad : bad_version ≡ true → HasBadItem words items
  version-bad e =
      elim (bad-to (version_of words) VERSION items IsWrongVersion version-to version-back e) [
        | inl two ↦ inl (inr (inl two))
        | inr wrong ↦ inr (inl (inl wrong))
      ]

  hash-bad : has_bad_hash words items ≡ true → HasBadItem words items
  hash-bad e = go bad_def bad_value refl refl e
    where
      go : (a b : Bool) → bad_def ≡ a → bad_value ≡ b → (a || b || misplaced) ≡ true → HasBadItem words items
      go true b def value e =
          elim (bad-to (hash_count_of words) HASH_DEF items IsWrongHashDef hash_def-to hash_def-back def) [
            | inl two ↦ inl (inr (inr (inl two)))
            | inr wrong ↦ inr (inl (inr (inl wrong)))
          ]
      go false true def value e =
          elim (bad-to (digest_of words) HASH_VALUE items IsWrongHashValue hash_value-to hash_value-back value) [
            | inl two ↦ inl (inr (inr (inr two)))
            | inr wrong ↦ inr (inl (inr (inr wrong)))
          ]
      go false false def value e =
          inr (inr (inl (misplaced-to (any_of_two (is_repeated items HASH_DEF) _ def).1 e)))

  fields-bad : fields_of_items words items ≡ None → HasBadItem words items
  fields-bad e = go (is_repeated items PARTITION_TABLE) bad_version refl refl e
    where
      by-item : (o : Option Item) → item_of_kind PARTITION_TABLE items ≡ o → option_and_then table_in o ≡ None
          → HasBadItem words items
      by-item None is none = inr (inr (inr (inr (none-to items PARTITION_TABLE is))))
      by-item (Some x) is none =
          inr (inr (inr (inl (
            x,
            there items PARTITION_TABLE x is,
            table-unfilled (version_in words items) x.high (body_of words x) none,
          ))))

      go : (r v : Bool) → is_repeated items PARTITION_TABLE ≡ r → bad_version ≡ v
          → cond (r || v) None (said table_in PARTITION_TABLE items) ≡ None → HasBadItem words items
      go true v is bad none = inl (inl (repeated-to items PARTITION_TABLE is))
      go false true is bad none = version-bad bad
      go false false is bad none = by-item (item_of_kind PARTITION_TABLE items) refl none

  pub bad-from : table_of_items words items ≡ None → HasBadItem words items
  bad-from e = go (has_bad_hash words items) refl e
    where
      go : (h : Bool) → has_bad_hash words items ≡ h → cond h None (fields_of_items words items) ≡ None
          → HasBadItem words items
      go true is none = hash-bad is
      go false is none = fields-bad none

  -- items that are bad by the tests have no table
  by-hash : has_bad_hash words items ≡ true → table_of_items words items ≡ None
  by-hash e = ap (λ h. cond h None (fields_of_items words items)) e

  by-fields : fields_of_items words items ≡ None → table_of_items words items ≡ None
  by-fields e = go (has_bad_hash words items)
    where
      go : (h : Bool) → cond h None (fields_of_items words items) ≡ None
      go true = refl
      go false = e

  by-def : bad_def ≡ true → table_of_items words items ≡ None
  by-def e = by-hash (ap (λ a. a || bad_value || misplaced) e)

  by-value : bad_value ≡ true → table_of_items words items ≡ None
  by-value e = by-hash (go bad_def)
    where
      go : (a : Bool) → (a || bad_value || misplaced) ≡ true
      go true = refl
      go false = ap (λ b. b || misplaced) e

  by-place : IsMisplacedHash words items → table_of_items words items ≡ None
  by-place is = by-hash (go bad_def bad_value refl refl)
    where
      go : (a b : Bool) → bad_def ≡ a → bad_value ≡ b → (a || b || misplaced) ≡ true
      go true b def value = refl
      go false true def value = refl
      go false false def value = misplaced-back def value is

  by-version : bad_version ≡ true → table_of_items words items ≡ None
  by-version e = by-fields (go (is_repeated items PARTITION_TABLE))
    where
      go : (r : Bool) → cond (r || bad_version) None (said table_in PARTITION_TABLE items) ≡ None
      go true = refl
      go false = ap (λ v. cond v None (said table_in PARTITION_TABLE items)) e

  by-repeated : is_repeated items PARTITION_TABLE ≡ true → table_of_items words items ≡ None
  by-repeated e = by-fields (ap (λ r. cond (r || bad_version) None (said table_in PARTITION_TABLE items)) e)

  by-item : (is_repeated items PARTITION_TABLE ≡ false → said table_in PARTITION_TABLE items ≡ None)
      → table_of_items words items ≡ None
  by-item none = by-fields (go (is_repeated items PARTITION_TABLE) bad_version refl)
    where
      go : (r v : Bool) → is_repeated items PARTITION_TABLE ≡ r
          → cond (r || v) None (said table_in PARTITION_TABLE items) ≡ None
      go true v is = refl
      go false true is = refl
      go false false is = none is

  pub bad-back : HasBadItem words items → table_of_items words items ≡ None
  bad-back (inl (inl two)) = by-repeated (repeated-back items PARTITION_TABLE two)
  bad-back (inl (inr (inl two))) =
      by-version (bad-twice (version_of words) VERSION items IsWrongVersion version-to version-back two)
  bad-back (inl (inr (inr (inl two)))) =
      by-def (bad-twice (hash_count_of words) HASH_DEF items IsWrongHashDef hash_def-to hash_def-back two)
  bad-back (inl (inr (inr (inr two)))) =
      by-value (bad-twice (digest_of words) HASH_VALUE items IsWrongHashValue hash_value-to hash_value-back two)
  bad-back (inr (inl (inl wrong))) =
      by-version (bad-wrong (version_of words) VERSION items IsWrongVersion version-to version-back wrong)
  bad-back (inr (inl (inr (inl wrong)))) =
      by-def (bad-wrong (hash_count_of words) HASH_DEF items IsWrongHashDef hash_def-to hash_def-back wrong)
  bad-back (inr (inl (inr (inr wrong)))) =
      by-value (bad-wrong (digest_of words) HASH_VALUE items IsWrongHashValue hash_value-to hash_value-back wrong)
  bad-back (inr (inr (inl is))) = by-place is
  bad-back (inr (inr (inr (inl (x, has, unfilled))))) = by-item (λ few.
      ap (option_and_then table_in) (the-only items PARTITION_TABLE x few has)
      ∙ unfilled-table (version_in words items) x.high (body_of words x) unfilled)
  bad-back (inr (inr (inr (inr never)))) = by-item (λ few.
      ap (option_and_then table_in) (none-back items PARTITION_TABLE never))
