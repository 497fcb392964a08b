-- What is true of each definition that a block gives.
use Rattle.std.proofs.Common.{◌≡◌, ◌≢◌, ◌↔◌, ℕ, zero, suc, ◌+◌, ◌-◌, ◌*◌, ◌%◌, ◌^◌, ◌<◌, ◌≤◌, Bool, true, false, cond, eqb, List, [], ◌∷◌, length, take, drop, get_or, slice_range, Option, Some, None, Result, Ok, Err, refl, sym, ap, subst, ◌∙◌, inl, inr, arith, length-drop}
use Rattle.std.proofs.lemmas.Bool.{eqb-true, leb-true, ltb-false, and_cases, cases_eq, eq-eqb, ne_eqb, true≢false}
use Rattle.std.proofs.lemmas.Bool.Decides.{nat_tests}
use Rattle.std.proofs.lemmas.List.{length-take-le, get_or-take}
use Rattle.std.proofs.lemmas.Option.{slice_get-get_or, none-some, same_Some}
use Rattle.std.proofs.Math.Dec.{leb, ltb}
use Rattle.std.specs.List.{list_any, Contains, position}
use Rattle.std.specs.Option.{is_some, IfSome, unwrap_or, option_map, option_map_or, option_and_then}
use Rattle.block_codec.specs.declared.items.Item.{Item}
use Rattle.block_codec.specs.Kinds.{version_words}
use Rattle.block_codec.specs.FirstFault.{first_fault}
use Rattle.block_codec.proofs.FirstFaultLemmas.{sound_from_none}
use Rattle.otp_roll.specs.Rows.{AreRowsApart, AreRollbackRows, IsRollbackVersion}
use Rattle.image_def.specs.declared.fault.DefFault.{DefFault}
use Rattle.image_def.specs.declared.fault.DefFault.TheVariants.{BadItem}
use Rattle.image_def.specs.Rows.{version_tail, rollback_in, rows_in, is_near, row_fault}
use Rattle.image_def.proofs.RowLemmas.{length-halves}
use Rattle.image_def.proofs.FaultLemmas.{IsRightVersion, in_range, sound_at, sound_item, right_version}
use Rattle.block_codec.specs.Words.{bytes_of}
use Rattle.block_codec.specs.Blocks.{BlockView, block_words}
use Rattle.block_codec.specs.Items.{AreItems, items_of, item_at, low_byte, high_byte}
use Rattle.block_codec.specs.Kinds.{is_of_kind, item_of_kind, digest_of}
use Rattle.block_codec.specs.declared.kinds.TheConstants.{HASH_DEF, IMAGE_TYPE, LOAD_MAP, VERSION, HASH_VALUE}
use Rattle.block_codec.proofs.ItemLemmas.{IsItemOf-from_contains}
use Rattle.block_codec.proofs.FrameLemmas.{length-frame}
use Rattle.image_def.specs.Faults.{hash_count_in, hashed_fault, IsFaultless, IsDefFault}
use Rattle.image_def.specs.Definition.{def_record, def_of}
use Rattle.image_def.proofs.RelationLemmas.{faultless_from_ok, fault_from_err}
use Rattle.block_codec.specs.declared.definition.Def.{Def}
use Rattle.image_def.specs.Flags.{flags_of}
use Rattle.std.specs.Result.{IfOk, IfErr}
use Rattle.std.proofs.lemmas.List.Edits.{length-between}
use Rattle.std.proofs.lemmas.List.Quantifiers.{position-Some}
use Rattle.block_codec.proofs.WordLemmas.{length-bytes_of}
use Rattle.image_def.specs.Suits.{has_image_type, image_type_of}
use Rattle.image_def.specs.Guarantees.{IsImageItem, IsLoadMapItem, IsDigestItem, IsDefinition}

-- a row without a fault, behind the rows before it
row_judged : (before : List ℕ) (row : ℕ) → row_fault before row ≡ None
    → (0x0c0 ≤ row) × (row ≤ 0xefd) × (list_any (is_near row) before ≡ false)
row_judged before row e = grind (arith, nat_tests)

none_near : (p : ℕ → Bool) (xs : List ℕ) (k d : ℕ) → list_any p xs ≡ false → k < length xs → p (get_or xs k d) ≡ false
none_near p [] k d e lt = absurd (omega arith)
none_near p (x ∷ xs) zero d e lt = grind arith
none_near p (x ∷ xs) (suc k) d e lt = none_near p xs k d (grind arith) (omega arith)

apart : (r s : ℕ) → is_near s r ≡ false → AreRowsApart r s
apart r s e =
    elim (and_cases (ltb s (r + 3)) (ltb r (s + 3)) e) [
      | inl far ↦ inl (ltb-false s (r + 3) far)
      | inr far ↦ inr (ltb-false r (s + 3) far)
    ]

pub rollback_rows : (rows : List ℕ) → length rows ≤ 32 → first_fault row_fault rows ≡ None → AreRollbackRows rows
rollback_rows rows few none =
    let sound = sound_from_none row_fault rows none in
    let each : (k d : ℕ) → k < length rows → row_fault (take k rows) (get_or rows k d) ≡ None =
    λ k d lt. sound k (get_or rows k d) lt (slice_get-get_or rows k d lt) in
    record {
      few = few;
      in_range = λ k d lt. let j = row_judged (take k rows) (get_or rows k d) (each k d lt) in (j.0, j.1);
      apart = λ i j d lt inside.
          let long : length (take j rows) ≡ j = length-take-le j rows (omega (arith, inside)) in
          let far = none_near (is_near (get_or rows j d)) (take j rows) i d
          (row_judged (take j rows) (get_or rows j d) (each j d inside)).2 (omega (arith, long, lt)) in
          apart (get_or rows i d) (get_or rows j d)
          (subst (λ r. is_near (get_or rows j d) r ≡ false) (get_or-take j rows i d lt) far);
    }

length-tail : (words : List ℕ) (item : Item) → length (version_tail words item) ≡ 2 * (length words - (item.first + 2))
length-tail words item = length-halves (drop (item.first + 2) words)
    ∙ ap (λ n. 2 * n) (length-drop (item.first + 2) words)

size_rows : (high words : ℕ) → words ≡ version_words high → high ≢ 0 → high + 5 ≤ 2 * words
size_rows high words e some = grind (arith, nat_tests)

-- a VERSION item of the right size that lies in the block has as many rows as its header says
pub length-rows : (words : List ℕ) (item : Item) → item.words ≡ version_words item.high
    → item.first + item.words ≤ length words → length (rows_in words item) ≡ item.high
length-rows words item size inside =
    let tail = length-tail words item in
    let rest : length (drop 1 (version_tail words item)) ≡ length (version_tail words item) - 1 =
    length-drop 1 (version_tail words item) in
    elim (cases_eq item.high 0) [
      | inl zero_rows ↦ length-take-le item.high (drop 1 (version_tail words item)) (omega (arith, zero_rows))
      | inr some ↦
          let most = size_rows item.high item.words size some in
          length-take-le item.high (drop 1 (version_tail words item)) (omega (arith, tail, rest, most, inside))
    ]

-- what a VERSION item gives, where there is one
pub record GivesRows (rows : List ℕ) (rollback : Option ℕ) : Type 0 where
  pub are_rows : AreRollbackRows rows
  pub within : IfSome rollback (λ version. IsRollbackVersion version rows)
  pub listed : (rollback ≡ None) ↔ (rows ≡ [])

empty : (xs : List ℕ) → length xs ≡ 0 → xs ≡ []
empty [] e = refl
empty (x ∷ xs) e = absurd (omega (arith, e))

rollback-none : (words : List ℕ) (item : Item) → item.high ≡ 0 → rollback_in words item ≡ None
rollback-none words item e = ap (λ b. cond b None (Some (get_or (version_tail words item) 0 0))) (eq-eqb item.high 0 e)

rollback-some : (words : List ℕ) (item : Item) → item.high ≢ 0
    → rollback_in words item ≡ Some (get_or (version_tail words item) 0 0)
rollback-some words item ne = ap (λ b. cond b None (Some (get_or (version_tail words item) 0 0)))
    (ne_eqb item.high 0 ne)

none_listed : (words : List ℕ) (item : Item) → length (rows_in words item) ≡ item.high
    → (rollback_in words item ≡ None) ↔ (rows_in words item ≡ [])
none_listed words item long =
    elim (cases_eq item.high 0) [
      | inl zero_rows ↦ (λ _. empty (rows_in words item) (long ∙ zero_rows), λ _. rollback-none words item zero_rows)
      | inr some ↦ (
        λ none. absurd (none-some _ (sym none ∙ rollback-some words item some)),
        λ none. absurd (some (sym long ∙ ap length none)),
      )
    ]

within_some : (o : Option ℕ) (n m : ℕ) → unwrap_or o 0 ≤ n → n ≡ m → IfSome o (λ version. version ≤ m)
within_some None n m le e = tt
within_some (Some version) n m le e = omega (arith, le, e)

pub gives_rows : (words : List ℕ) (item : Item) → IsRightVersion words item → item.first + item.words ≤ length words
    → first_fault row_fault (rows_in words item) ≡ None → GivesRows (rows_in words item) (rollback_in words item)
gives_rows words item v inside none =
    let long = length-rows words item v.size inside in
    record {
      are_rows = rollback_rows (rows_in words item) (omega (arith, long, v.few)) none;
      within = within_some (rollback_in words item) (24 * item.high) (24 * length (rows_in words item)) v.within
          (ap (λ n. 24 * n) (sym long));
      listed = none_listed words item long;
    }

gives_none : GivesRows [] None
gives_none = record {
  are_rows =
      record {
        few = omega arith;
        in_range = λ k d lt. absurd (omega arith);
        apart =
            λ i j d lt inside. absurd (omega arith);
      };
  within = tt;
  listed = (λ _. refl, λ _. refl);
}

pub gives_slot : (words : List ℕ) (o : Option Item)
    → ((item : Item) → o ≡ Some item → GivesRows (rows_in words item) (rollback_in words item))
    → GivesRows (option_map_or (rows_in words) o []) (option_and_then (rollback_in words) o)
gives_slot words None each = gives_none
gives_slot words (Some item) each = each item refl

-- the 32 bytes of a digest
digest_long : (words : List ℕ) (item : Item) (digest : List ℕ) → item.first + item.words ≤ length words
    → digest_of words item ≡ Some digest → length digest ≡ 32
digest_long words item digest inside e = go (eqb item.words 9) refl e
  where
    go : (b : Bool) → eqb item.words 9 ≡ b
        → cond b (Some (bytes_of (slice_range words (item.first + 1) (item.first + 9)))) None ≡ Some digest
        → length digest ≡ 32
    go true t f =
        let size : item.words ≡ 9 = eqb-true item.words 9 t in
        let room = length-between words (item.first + 1) (item.first + 9) (omega (arith, inside, size)) in
        ap length (sym (same_Some _ digest f))
        ∙ length-bytes_of (slice_range words (item.first + 1) (item.first + 9)) ∙ omega (arith, room)
    go false t f = absurd (none-some digest f)

-- the fault for after all items does not come
placed : (place : ℕ) (count : Option ℕ) (n : ℕ) → hashed_fault (Some place) count n ≡ None → unwrap_or count 0 ≤ place
placed place None n e = absurd (none-some _ (sym e))
placed place (Some count) n e = go (leb count place) refl e
  where
    go : (b : Bool) → leb count place ≡ b → cond b None (Some (BadItem HASH_DEF)) ≡ None → count ≤ place
    go true t f = leb-true count place t
    go false t f = absurd (none-some _ (sym f))

sized : (count : Option ℕ) (n : ℕ) → hashed_fault None count n ≡ None → unwrap_or count 0 ≤ n
sized None n e = omega arith
sized (Some count) n e = go (leb count n) refl e
  where
    go : (b : Bool) → leb count n ≡ b → cond b None (Some (BadItem HASH_DEF)) ≡ None → count ≤ n
    go true t f = leb-true count n t
    go false t f = absurd (none-some _ (sym f))

module _ (b : BlockView) (whole : AreItems b.items) (none : IsFaultless b) where
  abbrev pub words : List ℕ
  words = block_words b

  abbrev pub items : List Item
  items = items_of b.items

  abbrev pub count : ℕ
  count = unwrap_or (hash_count_in words items) 0

  item-inside : (item : Item) → Contains items item → item.first + item.words ≤ length words
  item-inside item contains =
      let is = IsItemOf-from_contains b.items item whole contains in
      let long = length-frame b.items b.link in
      omega (arith, is.inside, long)

  version_rows : GivesRows (option_map_or (rows_in words) (item_of_kind VERSION items) [])
      (option_and_then (rollback_in words) (item_of_kind VERSION items))
  version_rows =
      gives_slot words (item_of_kind VERSION items) (λ item is.
      let s = sound_item words items VERSION item none.items refl is in
      gives_rows words item (right_version words item (in_range item 2 19 _ s.right).1) (item-inside item s.of_items)
      (s.rows refl))

  map_there : (o : Option ℕ) → position (is_of_kind LOAD_MAP) items ≡ o
      → IfSome o (λ i. (item : Item) × IsLoadMapItem b i item)
  map_there None e = tt
  map_there (Some i) e =
      let at = position-Some (is_of_kind LOAD_MAP) items i (item_at 0 0) e in
      let item = get_or items i (item_at 0 0) in
      let here = slice_get-get_or items i (item_at 0 0) at.0 in
      let s = sound_at words items LOAD_MAP i item none.items refl here at.1 in
      let size = eqb-true item.words (1 + 3 * (item.high % 128)) (in_range item 1 382 _ s.right).1 in
      (item, record { at = here; kind = at.1; size = size })

  map_within : (o : Option ℕ) → position (is_of_kind LOAD_MAP) items ≡ o → IfSome o (λ i. i < length items)
  map_within None e = tt
  map_within (Some i) e = (position-Some (is_of_kind LOAD_MAP) items i (item_at 0 0) e).0

  hashed_inside : (o : Option Item) → item_of_kind HASH_VALUE items ≡ o → count ≤ length b.items + 4
  hashed_inside None e =
      let long = length-frame b.items b.link in
      let most = sized (hash_count_in words items) (length words)
      (sym (ap (λ o. hashed_fault (option_map (λ (item : Item). item.first) o) (hash_count_in words items)
      (length words)) e) ∙ none.after) in
      omega (arith, long, most)
  hashed_inside (Some item) e =
      let s = sound_item words items HASH_VALUE item none.items refl e in
      let long = length-frame b.items b.link in
      let most = placed item.first (hash_count_in words items) (length words)
      (sym (ap (λ o. hashed_fault (option_map (λ (item : Item). item.first) o) (hash_count_in words items)
      (length words)) e) ∙ none.after) in
      let inside = item-inside item s.of_items in
      omega (arith, long, most, inside)

  digest_there : (o : Option Item) → item_of_kind HASH_VALUE items ≡ o
      → IfSome (option_and_then (digest_of words) o) (λ d. (item : Item) × IsDigestItem b count d item)
  digest_there None e = tt
  digest_there (Some item) e =
      let s = sound_item words items HASH_VALUE item none.items refl e in
      let most = placed item.first (hash_count_in words items) (length words)
      (sym (ap (λ o. hashed_fault (option_map (λ (item : Item). item.first) o) (hash_count_in words items)
      (length words)) e) ∙ none.after) in
      go (digest_of words item) refl most (item-inside item s.of_items)
    where
      go : (d : Option (List ℕ)) → digest_of words item ≡ d → count ≤ item.first
          → item.first + item.words ≤ length words → IfSome d (λ d. (item : Item) × IsDigestItem b count d item)
      go None is most inside = tt
      go (Some bytes) is most inside =
          (item, record { first = e; is = is; long = digest_long words item bytes inside is; behind = most })

  image_there : (o : Option Item) → image_type_of b ≡ o → is_some o ≡ true
      → (item : Item) × IsImageItem b (option_map_or flags_of o 0)
      (option_map_or (λ (item : Item). item.first) o 0) item
  image_there None e some = absurd (true≢false (sym some))
  image_there (Some item) e some =
      let s = sound_item words items IMAGE_TYPE item none.items refl e in
      let range = (in_range item 1 1 true s.right).0 in
      let size : item.words ≡ 1 = omega (arith, range) in
      let is = IsItemOf-from_contains b.items item whole s.of_items in (
        item,
        record {
          first = e;
          size = size;
          flags_are = refl;
          stands = refl;
          above = is.first;
          inside =
              omega (arith, is.inside, size);
        },
      )

  flags_fit : (o : Option Item) → image_type_of b ≡ o → option_map_or flags_of o 0 < 2 ^ 16
  flags_fit None e = omega arith
  flags_fit (Some item) e =
      let s = sound_item words items IMAGE_TYPE item none.items refl e in
      let is = IsItemOf-from_contains b.items item whole s.of_items in
      let low : item.low ≡ low_byte (get_or b.items (item.first - 1) 0) = ap (λ (i : Item). i.low) is.is in
      let high : item.high ≡ high_byte (get_or b.items (item.first - 1) 0) = ap (λ (i : Item). i.high) is.is in
      omega (arith, low, high)

  pub definition : has_image_type b ≡ true → IsDefinition b (def_record words items)
  definition typed = record {
    flags = flags_fit (image_type_of b) refl;
    image = image_there (image_type_of b) refl typed;
    map = map_there (position (is_of_kind LOAD_MAP) items) refl;
    map_index = map_within (position (is_of_kind LOAD_MAP) items) refl;
    hashed = hashed_inside (item_of_kind HASH_VALUE items) refl;
    digest = digest_there (item_of_kind HASH_VALUE items) refl;
    rows = version_rows.are_rows;
    rollback = version_rows.within;
    listed = version_rows.listed;
  }

pub definition_from_ok : (b : BlockView) (def : Def) → AreItems b.items → has_image_type b ≡ true
    → def_of b ≡ Ok def → IsDefinition b def
definition_from_ok b def whole typed e =
    let p = faultless_from_ok b def e in
    subst (IsDefinition b) p.1 (definition b whole p.0 typed)

pub if_definition : (b : BlockView) (r : Result Def DefFault) → AreItems b.items → has_image_type b ≡ true
    → r ≡ def_of b → IfOk r (λ def. IsDefinition b def)
if_definition b (Ok def) whole typed e = definition_from_ok b def whole typed (sym e)
if_definition b (Err f) whole typed e = tt

pub if_fault : (b : BlockView) (r : Result Def DefFault) → r ≡ def_of b → IfErr r (λ f. IsDefFault b f)
if_fault b (Ok def) e = tt
if_fault b (Err f) e = fault_from_err b f (sym e)
