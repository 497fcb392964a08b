-- The fault of an item, and what is true of items without one.
use Rattle.std.proofs.Common.{◌≡◌, ◌≢◌, ℕ, ◌*◌, ◌≤◌, ◌&&◌, not, Bool, true, false, cond, eqb, List, length, take, Option, Some, None, refl, sym, ap, subst, ◌∙◌, arith}
use Rattle.std.proofs.lemmas.Bool.{eqb-true, leb-true, le-leb, eq-eqb, ne_eqb, and_parts}
use Rattle.std.proofs.lemmas.Bool.Decides.{nat_tests}
use Rattle.std.proofs.lemmas.Option.{slice_get_within, get_or_from_slice_get}
use Rattle.std.proofs.Math.Dec.{leb}
use Rattle.std.specs.List.{list_any, Contains}
use Rattle.std.specs.List.{slice_get}
use Rattle.std.specs.Option.{is_some, unwrap_or, option_map}
use Rattle.block_codec.specs.declared.items.Item.{Item}
use Rattle.block_codec.specs.declared.kinds.TheConstants.{VECTOR_TABLE, ENTRY_POINT, WINDOW_DELTA, HASH_DEF, VERSION, HASH_VALUE}
use Rattle.block_codec.specs.Blocks.{BlockView, block_words}
use Rattle.block_codec.specs.Items.{items_of}
use Rattle.block_codec.specs.Kinds.{first_spelling, is_of_kind, item_of_kind, version_words, version_of}
use Rattle.block_codec.specs.FirstFault.{first_fault, AreSound}
use Rattle.block_codec.proofs.FirstFaultLemmas.{sound_from_none}
use Rattle.image_def.specs.declared.fault.DefFault.{DefFault}
use Rattle.image_def.specs.declared.fault.DefFault.TheVariants.{Repeated, BadItem}
use Rattle.image_def.specs.Kinds.{is_read_kind}
use Rattle.image_def.specs.Held.{IsHeldItem, IsVersion}
use Rattle.image_def.specs.Rows.{rollback_in, rows_in, row_fault}
use Rattle.image_def.specs.Faults.{first_item_fault, hashed_fault, hash_count_in, last_fault, is_right_version, is_well_formed, is_well_formed_as, item_fault}
use Rattle.block_codec.proofs.SearchLemmas.{find-place, find-passes}

-- the order of an item's faults, by its tests
abbrev pub judged : Bool → Bool → Bool → Bool → ℕ → Option DefFault → Option DefFault
judged read some right version kind rows =
    cond (not read) None (cond some (Some (Repeated kind))
    (cond (not right) (Some (BadItem kind)) (cond version rows None)))

module _ (words : List ℕ) (before : List Item) (item : Item) (kind : ℕ) (is : kind ≡ first_spelling item.kind)
    (read : is_read_kind kind ≡ true) where
  at_kind : item_fault words before item
      ≡ judged (is_read_kind kind) (list_any (is_of_kind kind) before) (is_well_formed words item)
      (eqb kind VERSION) kind (first_fault row_fault (rows_in words item))
  at_kind =
      ap (λ k. judged (is_read_kind k) (list_any (is_of_kind k) before) (is_well_formed words item)
      (eqb k VERSION) k (first_fault row_fault (rows_in words item)))
      (sym is)

  read_kind : item_fault words before item
      ≡ judged true (list_any (is_of_kind kind) before) (is_well_formed words item) (eqb kind VERSION) kind
      (first_fault row_fault (rows_in words item))
  read_kind =
      at_kind
      ∙ ap (λ b. judged b (list_any (is_of_kind kind) before) (is_well_formed words item) (eqb kind VERSION) kind
      (first_fault row_fault (rows_in words item))) read

  pub fault-repeated : list_any (is_of_kind kind) before ≡ true → Some (Repeated kind) ≡ item_fault words before item
  fault-repeated some =
      sym (read_kind ∙ ap (λ b. judged true b (is_well_formed words item) (eqb kind VERSION) kind
      (first_fault row_fault (rows_in words item))) some)

  first_one : list_any (is_of_kind kind) before ≡ false → item_fault words before item
      ≡ judged true false (is_well_formed words item) (eqb kind VERSION) kind
      (first_fault row_fault (rows_in words item))
  first_one none =
      read_kind ∙ ap (λ b. judged true b (is_well_formed words item) (eqb kind VERSION) kind
      (first_fault row_fault (rows_in words item))) none

  pub fault-bad : list_any (is_of_kind kind) before ≡ false → is_well_formed words item ≡ false
      → Some (BadItem kind) ≡ item_fault words before item
  fault-bad none wrong =
      sym (first_one none ∙ ap (λ b. judged true false b (eqb kind VERSION) kind
      (first_fault row_fault (rows_in words item))) wrong)

  right_one : list_any (is_of_kind kind) before ≡ false → is_well_formed words item ≡ true
      → item_fault words before item
      ≡ judged true false true (eqb kind VERSION) kind (first_fault row_fault (rows_in words item))
  right_one none right =
      first_one none ∙ ap (λ b. judged true false b (eqb kind VERSION) kind
      (first_fault row_fault (rows_in words item))) right

  pub fault-rows : list_any (is_of_kind kind) before ≡ false → is_well_formed words item ≡ true → kind ≡ VERSION
      → first_fault row_fault (rows_in words item) ≡ item_fault words before item
  fault-rows none right version =
      sym (right_one none right ∙ ap
      (λ b. judged true false true b kind (first_fault row_fault (rows_in words item)))
      (eq-eqb kind VERSION version))

  pub fault-none : list_any (is_of_kind kind) before ≡ false → is_well_formed words item ≡ true → kind ≢ VERSION
      → None ≡ item_fault words before item
  fault-none none right other =
      sym (right_one none right ∙ ap
      (λ b. judged true false true b kind (first_fault row_fault (rows_in words item)))
      (ne_eqb kind VERSION other))

pub fault-unread : (words : List ℕ) (before : List Item) (item : Item)
    → is_read_kind (first_spelling item.kind) ≡ false → item_fault words before item ≡ None
fault-unread words before item unread =
    ap (λ b. judged b (list_any (is_of_kind (first_spelling item.kind)) before) (is_well_formed words item)
    (eqb (first_spelling item.kind) VERSION) (first_spelling item.kind)
    (first_fault row_fault (rows_in words item))) unread

-- what an item without a fault has
faultless : (read some right version : Bool) (kind : ℕ) (rows : Option DefFault)
    → judged read some right version kind rows ≡ None → read ≡ true
    → (some ≡ false) × (right ≡ true) × (version ≡ true → rows ≡ None)
faultless read some right version kind rows none is = grind arith

pub faultless_item : (words : List ℕ) (before : List Item) (item : Item) → item_fault words before item ≡ None
    → is_read_kind (first_spelling item.kind) ≡ true
    → (list_any (is_of_kind (first_spelling item.kind)) before ≡ false) × (is_well_formed words item ≡ true)
    × (eqb (first_spelling item.kind) VERSION ≡ true → first_fault row_fault (rows_in words item) ≡ None)
faultless_item words before item none read =
    faultless (is_read_kind (first_spelling item.kind)) _ _ _ (first_spelling item.kind)
    (first_fault row_fault (rows_in words item)) none read

-- the item of a kind that is read, among items without a fault
pub record IsSoundItem (words : List ℕ) (items : List Item) (kind : ℕ) (item : Item) : Type 0 where
  pub of_items : Contains items item
  pub kind_is : first_spelling item.kind ≡ kind
  pub right : is_well_formed_as kind words item ≡ true
  pub rows : kind ≡ VERSION → first_fault row_fault (rows_in words item) ≡ None

pub sound_at : (words : List ℕ) (items : List Item) (kind i : ℕ) (item : Item)
    → AreSound (item_fault words) items (length items)
    → is_read_kind kind ≡ true → slice_get items i ≡ Some item → is_of_kind kind item ≡ true
    → IsSoundItem words items kind item
sound_at words items kind i item sound read at is =
    let same : first_spelling item.kind ≡ kind = eqb-true (first_spelling item.kind) kind is in
    let lt = slice_get_within items i item at in
    let none = sound i item lt at in
    let facts = faultless_item words (take i items) item none (subst (λ k. is_read_kind k ≡ true) (sym same) read) in
    record {
      of_items = (i, lt, get_or_from_slice_get items i item item at);
      kind_is = same;
      right = subst (λ k. is_well_formed_as k words item ≡ true) same facts.1;
      rows = λ e. facts.2 (eq-eqb (first_spelling item.kind) VERSION (same ∙ e));
    }

pub sound_item : (words : List ℕ) (items : List Item) (kind : ℕ) (item : Item)
    → AreSound (item_fault words) items (length items)
    → is_read_kind kind ≡ true → item_of_kind kind items ≡ Some item → IsSoundItem words items kind item
sound_item words items kind item sound read is =
    let at = find-place (is_of_kind kind) items item is in
    sound_at words items kind at.0 item sound read at.1 (find-passes (is_of_kind kind) items item is)

version_kind : (kind : ℕ) → first_spelling kind ≡ VERSION → kind ≡ VERSION
version_kind kind e = grind (arith, nat_tests)

pub version_size : (words : List ℕ) (item : Item) → is_some (version_of words item) ≡ true
    → item.words ≡ version_words item.high
version_size words item e = grind (arith, nat_tests)

-- what a right VERSION item has
pub record IsRightVersion (words : List ℕ) (item : Item) : Type 0 where
  pub size : item.words ≡ version_words item.high
  pub few : item.high ≤ 32
  pub within : unwrap_or (rollback_in words item) 0 ≤ 24 * item.high

pub right_version : (words : List ℕ) (item : Item) → is_right_version words item ≡ true → IsRightVersion words item
right_version words item e =
    let most = leb (unwrap_or (rollback_in words item) 0) (24 * item.high) in
    let p = and_parts (is_some (version_of words item) && leb item.high 32) most e in
    let q = and_parts (is_some (version_of words item)) (leb item.high 32) p.0 in
    record {
      size = version_size words item q.0;
      few = leb-true item.high 32 q.1;
      within = leb-true (unwrap_or (rollback_in words item) 0) (24 * item.high) p.1;
    }

-- the size of an item that is well formed, and what it has beside
pub in_range : (item : Item) (least most : ℕ) (inside : Bool)
    → ((leb least item.words && leb item.words most) && inside) ≡ true
    → ((least ≤ item.words) × (item.words ≤ most)) × (inside ≡ true)
in_range item least most inside e =
    let p = and_parts (leb least item.words && leb item.words most) inside e in
    let q = and_parts (leb least item.words) (leb item.words most) p.0 in
    ((leb-true least item.words q.0, leb-true item.words most q.1), p.1)

version_fits : (words high : ℕ) → words ≡ version_words high → high ≤ 32 → (2 ≤ words) × (words ≤ 19)
version_fits words high e few = grind (arith, nat_tests)

-- a right VERSION item has the size of its kind
pub well_formed_version : (words : List ℕ) (item : Item) → is_right_version words item ≡ true
    → is_well_formed_as VERSION words item ≡ true
well_formed_version words item right =
    let v = right_version words item right in
    let fits = version_fits item.words item.high v.size v.few in
    ap (λ t. (t && leb item.words 19) && is_right_version words item) (le-leb 2 item.words fits.0)
    ∙ (ap (λ t. t && is_right_version words item) (le-leb item.words 19 fits.1) ∙ right)

module _ (b : BlockView) (none : first_item_fault b ≡ None) where
  sound : AreSound (item_fault (block_words b)) (items_of b.items) (length (items_of b.items))
  sound = sound_from_none (item_fault (block_words b)) (items_of b.items) none

  pub held-vector : (item : Item) → item_of_kind VECTOR_TABLE (items_of b.items) ≡ Some item → IsHeldItem b 2 item
  held-vector item is =
      let s = sound_item (block_words b) (items_of b.items) VECTOR_TABLE item sound refl is in
      record { of_block = s.of_items; size = (in_range item 2 2 true s.right).0.0 }

  pub held-delta : (item : Item) → item_of_kind WINDOW_DELTA (items_of b.items) ≡ Some item → IsHeldItem b 2 item
  held-delta item is =
      let s = sound_item (block_words b) (items_of b.items) WINDOW_DELTA item sound refl is in
      record { of_block = s.of_items; size = (in_range item 2 2 true s.right).0.0 }

  pub held-entry : (item : Item) → item_of_kind ENTRY_POINT (items_of b.items) ≡ Some item → IsHeldItem b 3 item
  held-entry item is =
      let s = sound_item (block_words b) (items_of b.items) ENTRY_POINT item sound refl is in
      record { of_block = s.of_items; size = (in_range item 3 4 true s.right).0.0 }

  pub held-digest : (item : Item) → item_of_kind HASH_VALUE (items_of b.items) ≡ Some item → IsHeldItem b 0 item
  held-digest item is =
      let s = sound_item (block_words b) (items_of b.items) HASH_VALUE item sound refl is in
      record { of_block = s.of_items; size = omega arith }

  pub held-version : (item : Item) → item_of_kind VERSION (items_of b.items) ≡ Some item → IsVersion b item
  held-version item is =
      let s = sound_item (block_words b) (items_of b.items) VERSION item sound refl is in
      let v = right_version (block_words b) item (in_range item 2 19 _ s.right).1 in
      record { of_block = s.of_items; kind = version_kind item.kind s.kind_is; size = v.size; few = v.few }

-- the fault for after all items, where there is a HASH_DEF and no HASH_VALUE
pub last-counted : (words : List ℕ) (items : List Item) (count : ℕ) → item_of_kind HASH_VALUE items ≡ None
    → hash_count_in words items ≡ Some count
    → last_fault words items ≡ cond (leb count (length words)) None (Some (BadItem HASH_DEF))
last-counted words items count none some =
    ap (λ o. hashed_fault (option_map (λ (item : Item). item.first) o) (hash_count_in words items) (length words)) none
    ∙ ap (λ o. hashed_fault None o (length words)) some
