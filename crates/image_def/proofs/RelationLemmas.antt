-- The first fault as a relation.
use Rattle.std.proofs.Common.{◌≡◌, ◌⊎◌, ℕ, zero, suc, ◌<◌, ◌||◌, Bool, true, false, List, [], ◌∷◌, length, take, Option, Some, None, Ok, Err, refl, sym, ap, subst, ◌∙◌, inl, inr, arith}
use Rattle.std.proofs.lemmas.Bool.{cases_order, eqb-true, eq-eqb, cases_eq, cases_Bool, true≢false}
use Rattle.std.proofs.lemmas.Option.{none-some, same_Some, slice_get_within}
use Rattle.std.proofs.lemmas.Bool.Decides.{nat_tests}
use Rattle.image_def.proofs.FaultLemmas.{fault-bad, fault-none, fault-repeated, fault-rows, fault-unread, in_range, well_formed_version}
use Rattle.block_codec.proofs.SearchLemmas.{is_some-find, find-place, find-passes}
use Rattle.std.specs.List.{slice_get, list_any}
use Rattle.std.specs.Option.{option_or, is_some}
use Rattle.block_codec.specs.declared.items.Item.{Item}
use Rattle.block_codec.specs.declared.definition.Def.{Def}
use Rattle.block_codec.specs.declared.kinds.TheConstants.{VERSION}
use Rattle.block_codec.specs.Blocks.{BlockView, block_words}
use Rattle.block_codec.specs.Items.{items_of}
use Rattle.block_codec.specs.Kinds.{first_spelling, is_of_kind, item_of_kind}
use Rattle.block_codec.specs.FirstFault.{first_fault, ok_unless, IsFirst, AreSound}
use Rattle.block_codec.proofs.FirstFaultLemmas.{sound_from_none, none_from_sound_at, fault_from_first, first_from_fault}
use Rattle.image_def.specs.declared.fault.DefFault.{DefFault}
use Rattle.image_def.specs.declared.fault.DefFault.TheVariants.{Repeated, BadItem, BadRow, RepeatedRow}
use Rattle.image_def.specs.Kinds.{is_read_kind}
use Rattle.image_def.specs.Rows.{rows_in, row_fault}
use Rattle.image_def.specs.Faults.{is_well_formed, is_well_formed_as, item_fault, last_fault, def_fault, IsRepeated, ListsRows, IsItemFault, IsFaultless, IsDefFault}
use Rattle.image_def.specs.Definition.{def_record, def_of}

ok_unless-ok : {A F : Type 0} (o : Option F) (x y : A) → ok_unless o x ≡ Ok y → (o ≡ None) × (x ≡ y)
ok_unless-ok None x y e = (refl, cc)
ok_unless-ok (Some f) x y e = cc

ok_unless-err : {A F : Type 0} (o : Option F) (x : A) (f : F) → ok_unless o x ≡ Err f → o ≡ Some f
ok_unless-err None x f e = cc
ok_unless-err (Some g) x f e = cc

or-none : {F : Type 0} (o p : Option F) → option_or o p ≡ None → (o ≡ None) × (p ≡ None)
or-none None p e = (refl, e)
or-none (Some f) p e = absurd (none-some f (sym e))

or-some : {F : Type 0} (o p : Option F) (f : F) → option_or o p ≡ Some f → (o ≡ Some f) ⊎ ((o ≡ None) × (p ≡ Some f))
or-some None p f e = inr (refl, e)
or-some (Some g) p f e = inl e

pub get-take : {X : Type 0} (xs : List X) (i j : ℕ) (x : X) → i < j → slice_get xs i ≡ Some x
    → slice_get (take j xs) i ≡ Some x
get-take [] i j x lt at = absurd (none-some x at)
get-take (y ∷ xs) i zero x lt at = absurd (omega arith)
get-take (y ∷ xs) zero (suc j) x lt at = at
get-take (y ∷ xs) (suc i) (suc j) x lt at = get-take xs i j x (omega arith) at

module _ (b : BlockView) where
  -- a block that gives a definition has no fault, and the definition is what its items say
  pub faultless_from_ok : (def : Def) → def_of b ≡ Ok def
      → IsFaultless b × (def_record (block_words b) (items_of b.items) ≡ def)
  unfolding def_of
  faultless_from_ok def e =
      let words = block_words b in
      let items = items_of b.items in
      let p = ok_unless-ok (def_fault words items) (def_record words items) def e in
      let q = or-none (first_fault (item_fault words) items) (last_fault words items) p.0 in
      (record { items = sound_from_none (item_fault words) items q.0; after = q.1 }, p.1)

  pub ok_from_faultless : IsFaultless b → def_of b ≡ Ok (def_record (block_words b) (items_of b.items))
  unfolding def_of
  ok_from_faultless none =
      let words = block_words b in
      let items = items_of b.items in
      ap (λ o. ok_unless (option_or o (last_fault words items)) (def_record words items))
      (none_from_sound_at (item_fault words) items (length items) (omega arith) none.items)
      ∙ ap (λ o. ok_unless o (def_record words items)) none.after

  pub fault_from_err : (f : DefFault) → def_of b ≡ Err f → IsDefFault b f
  unfolding def_of
  fault_from_err f e =
      let words = block_words b in
      let items = items_of b.items in
      elim (or-some (first_fault (item_fault words) items) (last_fault words items) f
      (ok_unless-err (def_fault words items) (def_record words items) f e)) [
        | inl first ↦ inl (first_from_fault (item_fault words) items f first)
        | inr last ↦ inr (sound_from_none (item_fault words) items last.0, last.1)
      ]

  pub err_from_fault : (f : DefFault) → IsDefFault b f → def_of b ≡ Err f
  unfolding def_of
  err_from_fault f fault =
      let words = block_words b in
      let items = items_of b.items in
      elim fault [
        | inl first ↦
            ap (λ o. ok_unless (option_or o (last_fault words items)) (def_record words items))
            (fault_from_first (item_fault words) items first.0 f first.1)
        | inr last ↦
            ap (λ o. ok_unless (option_or o (last_fault words items)) (def_record words items))
            (none_from_sound_at (item_fault words) items (length items) (omega arith) last.0)
            ∙ ap (λ o. ok_unless o (def_record words items)) last.1
      ]

pub any_at : {X : Type 0} (p : X → Bool) (xs : List X) (j : ℕ) (x : X) → slice_get xs j ≡ Some x → p x ≡ true
    → list_any p xs ≡ true
any_at p [] j x at is = absurd (none-some x at)
any_at p (y ∷ xs) zero x at is = ap (λ b. b || list_any p xs) (ap p (same_Some y x at) ∙ is)
any_at p (y ∷ xs) (suc j) x at is = go (p y) (any_at p xs j x at is)
  where
    go : (b : Bool) → list_any p xs ≡ true → (b || list_any p xs) ≡ true
    go true rest = refl
    go false rest = rest

repeated_true : (kind : ℕ) (before : List Item) → IsRepeated kind before → list_any (is_of_kind kind) before ≡ true
repeated_true kind before (j, other, at, is) = any_at (is_of_kind kind) before j other at is

found_some : (o : Option Item) → is_some o ≡ true → (item : Item) × (o ≡ Some item)
found_some None e = absurd (true≢false (sym e))
found_some (Some item) e = (item, refl)

repeated_from : (kind : ℕ) (before : List Item) → list_any (is_of_kind kind) before ≡ true → IsRepeated kind before
repeated_from kind before e =
    let some = found_some (item_of_kind kind before) (is_some-find (is_of_kind kind) before ∙ e) in
    let at = find-place (is_of_kind kind) before some.0 some.1 in
    (at.0, some.0, at.1, find-passes (is_of_kind kind) before some.0 some.1)

lacks : (kind : ℕ) (before : List Item) → (IsRepeated kind before → ⊥) → list_any (is_of_kind kind) before ≡ false
lacks kind before none =
    elim (cases_Bool (list_any (is_of_kind kind) before)) [
      | inl some ↦ absurd (none (repeated_from kind before some))
      | inr f ↦ f
    ]

lacked : (kind : ℕ) (before : List Item) → list_any (is_of_kind kind) before ≡ false → IsRepeated kind before → ⊥
lacked kind before f some = true≢false (sym (repeated_true kind before some) ∙ f)

-- a fault of a row is one of rows
row_only : (before : List ℕ) (row : ℕ) (f : DefFault) → row_fault before row ≡ Some f
    → (f ≡ BadRow row) ⊎ (f ≡ RepeatedRow row)
row_only before row f e = grind (arith, nat_tests)

rows_fault : (words : List ℕ) (before : List Item) (item : Item) (f : DefFault) → ListsRows words before item
    → ((i : ℕ) × IsFirst row_fault (rows_in words item) i f)
    → item_fault words before item ≡ Some f
rows_fault words before item f lists (i, first) =
    let same : VERSION ≡ first_spelling item.kind = sym (eqb-true (first_spelling item.kind) VERSION lists.kind) in
    sym (fault-rows words before item VERSION same refl (lacks VERSION before lists.first)
    (subst (λ k. is_well_formed_as k words item ≡ true) same (well_formed_version words item lists.right)) refl)
    ∙ fault_from_first row_fault (rows_in words item) i f first

pub item_fault_from : (words : List ℕ) (before : List Item) (item : Item) (f : DefFault)
    → IsItemFault words before item f → item_fault words before item ≡ Some f
item_fault_from words before item (Repeated kind) (read, is, some) =
    sym (fault-repeated words before item kind (sym (eqb-true (first_spelling item.kind) kind is)) read
    (repeated_true kind before some))
item_fault_from words before item (BadItem kind) (read, is, none, wrong) =
    let same : kind ≡ first_spelling item.kind = sym (eqb-true (first_spelling item.kind) kind is) in
    sym (fault-bad words before item kind same read (lacks kind before none)
    (subst (λ k. is_well_formed_as k words item ≡ false) same wrong))
item_fault_from words before item (BadRow row) fault = rows_fault words before item (BadRow row) fault.0 fault.1
item_fault_from words before item (RepeatedRow row) fault =
    rows_fault words before item (RepeatedRow row) fault.0 fault.1

row_relation : (words : List ℕ) (before : List Item) (item : Item) (f : DefFault) → ListsRows words before item
    → ((i : ℕ) × IsFirst row_fault (rows_in words item) i f)
    → IsItemFault words before item f
row_relation words before item f lists (i, first) =
    let (row, at, fault) = first.here in
    elim (row_only (take i (rows_in words item)) row f fault) [
      | inl bad ↦ subst (IsItemFault words before item) (sym bad)
          (lists, (i, subst (IsFirst row_fault (rows_in words item) i) bad first))
      | inr near ↦ subst (IsItemFault words before item) (sym near)
          (lists, (i, subst (IsFirst row_fault (rows_in words item) i) near first))
    ]

pub item_fault_is : (words : List ℕ) (before : List Item) (item : Item) (f : DefFault)
    → item_fault words before item ≡ Some f → IsItemFault words before item f
item_fault_is words before item f e =
    let kind = first_spelling item.kind in
    let own : is_of_kind kind item ≡ true = eq-eqb kind kind refl in
    elim (cases_Bool (is_read_kind kind)) [
      | inr unread ↦ absurd (none-some f (sym (fault-unread words before item unread) ∙ e))
      | inl read ↦ elim (cases_Bool (list_any (is_of_kind kind) before)) [
        | inl some ↦
            subst (IsItemFault words before item)
            (same_Some (Repeated kind) f (fault-repeated words before item kind refl read some ∙ e))
            (read, own, repeated_from kind before some)
        | inr none ↦ elim (cases_Bool (is_well_formed words item)) [
          | inr wrong ↦
              subst (IsItemFault words before item)
              (same_Some (BadItem kind) f (fault-bad words before item kind refl read none wrong ∙ e))
              (read, own, lacked kind before none, wrong)
          | inl right ↦ elim (cases_eq kind VERSION) [
            | inr other ↦ absurd (none-some f (fault-none words before item kind refl read none right other ∙ e))
            | inl version ↦
                row_relation words before item f
                (record {
                  kind = subst (λ k. is_of_kind k item ≡ true) version own;
                  first = subst (λ k. IsRepeated k before → ⊥) version (lacked kind before none);
                  right = (in_range item 2 19 _ (subst (λ k. is_well_formed_as k words item ≡ true) version right)).1;
                })
                (first_from_fault row_fault (rows_in words item) f
                (fault-rows words before item kind refl read none right version ∙ e))
          ]
        ]
      ]
    ]

-- of two items of a kind that is read, without faults, none stands before the other
not_before : (words : List ℕ) (items : List Item) (kind i j : ℕ) (item other : Item)
    → AreSound (item_fault words) items (length items) → is_read_kind kind ≡ true
    → slice_get items i ≡ Some item → is_of_kind kind item ≡ true → slice_get items j ≡ Some other
    → is_of_kind kind other ≡ true → i < j → ⊥
not_before words items kind i j item other sound read at is there too lt =
    let same : kind ≡ first_spelling other.kind = sym (eqb-true (first_spelling other.kind) kind too) in
    let none = sound j other (slice_get_within items j other there) there in
    let some = any_at (is_of_kind kind) (take j items) i item (get-take items i j item lt at) is in
    none-some _ (sym none ∙ sym (fault-repeated words (take j items) other kind same read some))

-- two items of a kind that is read are one
pub one_of_kind : (b : BlockView) (def : Def) (kind i j : ℕ) (item other : Item) → def_of b ≡ Ok def
    → is_read_kind kind ≡ true
    → slice_get (items_of b.items) i ≡ Some item → is_of_kind kind item ≡ true
    → slice_get (items_of b.items) j ≡ Some other → is_of_kind kind other ≡ true
    → i ≡ j
one_of_kind b def kind i j item other e read at is there too =
    let sound = (faultless_from_ok b def e).0.items in
    elim (cases_order i j) [
      | inl same ↦ same
      | inr ne ↦ elim ne [
        | inl lt ↦ absurd (not_before (block_words b)
            (items_of b.items) kind i j item other sound read at is there too lt)
        | inr lt ↦ absurd (not_before (block_words b)
            (items_of b.items) kind j i other item sound read there too at is lt)
      ]
    ]
