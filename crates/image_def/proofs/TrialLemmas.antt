-- A block whose trial bit is cleared gives the same definition but for that bit.
use Rattle.std.proofs.Common.{◌≡◌, ◌≢◌, ℕ, suc, ◌+◌, ◌-◌, ◌*◌, ◌/◌, ◌%◌, ◌^◌, ◌<◌, ◌≤◌, ◌&&◌, ◌||◌, Bool, true, false, cond, eqb, ℤ, List, [], ◌∷◌, ◌++◌, length, map, get_or, set, Option, Some, None, Ok, pos, refl, sym, ap, subst, ◌∙◌, inl, inr, arith}
use Rattle.std.proofs.Math.Dec.{leb}
use Rattle.std.proofs.lemmas.Bool.{eqb-true, cases_eq, eq-eqb, ne_eqb, true≢false}
use Rattle.std.proofs.lemmas.Bool.Decides.{nat_tests}
use Rattle.std.proofs.lemmas.List.{length-set, get_or-set_other, map-append}
use Rattle.std.proofs.lemmas.Iterator.Adapters.{position_from-zero}
use Rattle.std.proofs.lemmas.Option.{none-some, same_Some, slice_get-map}
use Rattle.std.specs.Int.{w32, cast_signed}
use Rattle.std.specs.List.{slice_get, find, list_any, position, position_from}
use Rattle.std.specs.Option.{is_some, unwrap_or, option_or, option_map, option_map_or, option_and_then}
use Rattle.pico_board.specs.declared.boot.Cpu.{Cpu}
use Rattle.pico_board.specs.declared.boot.Cpu.TheVariants.{Arm, Riscv}
use Rattle.block_codec.specs.declared.items.Item.{Item}
use Rattle.block_codec.specs.declared.definition.Def.{Def}
use Rattle.block_codec.specs.declared.definition.EntryPoint.{EntryPoint}
use Rattle.block_codec.specs.declared.versions.Version.{Version}
use Rattle.block_codec.specs.declared.kinds.TheConstants.{IMAGE_TYPE, VECTOR_TABLE, ENTRY_POINT, WINDOW_DELTA, LOAD_MAP, HASH_DEF, VERSION, HASH_VALUE}
use Rattle.block_codec.specs.Blocks.{BlockView, frame, block_words, block_size}
use Rattle.block_codec.specs.HighByte.{changed_block, with_high}
use Rattle.block_codec.specs.Items.{AreItems, IsItemOf, item_at, items_of, low_byte, high_byte}
use Rattle.block_codec.specs.Kinds.{first_spelling, is_of_kind, item_of_kind, version_words, version_of, hash_count_of, digest_of}
use Rattle.block_codec.specs.FirstFault.{first_from, first_fault, ok_unless, AreSound}
use Rattle.block_codec.proofs.FirstFaultLemmas.{sound_from_none}
use Rattle.block_codec.proofs.FrameLemmas.{length-frame}
use Rattle.block_codec.proofs.HighByteLemmas.{frame-set_item, items_of-set, changed_item}
use Rattle.block_codec.proofs.ItemLemmas.{IsItemOf-from_get}
use Rattle.image_def.specs.declared.fault.DefFault.{DefFault}
use Rattle.image_def.specs.Flags.{flags_of, image_kind, chip_of, processor_of, security_of}
use Rattle.image_def.specs.Kinds.{is_read_kind}
use Rattle.image_def.specs.Rows.{rollback_in, rows_in, row_fault}
use Rattle.image_def.specs.Faults.{is_well_formed, is_well_formed_as, item_fault, hashed_fault, hash_count_in, hash_value_place, last_fault, def_fault}
use Rattle.image_def.specs.Definition.{second_word, entry_point_in, no_version, def_record, def_of}
use Rattle.image_def.specs.Suits.{image_type_of, has_image_type, image_flags_of, suits_flags, does_suit}
use Rattle.image_def.specs.Trial.{top_cleared, trial_cleared, untried, untried_answer}
use Rattle.image_def.proofs.ApartLemmas.{Lies, Same, Before, Behind, lies, right_as, rows_same, rollback_same, hash_count_same, digest_same, version_same, read}
use Rattle.block_codec.proofs.SearchLemmas.{find-place, find-passes}
use Rattle.image_def.proofs.FaultLemmas.{in_range, judged, right_version, sound_item}

-- lists of which each element is mapped
any-map : {X : Type 0} (p : X → Bool) (h : X → X) → ((x : X) → p (h x) ≡ p x) → (xs : List X)
    → list_any p (map h xs) ≡ list_any p xs
any-map p h same [] = refl
any-map p h same (x ∷ xs) = ap (λ b. b || list_any p (map h xs)) (same x) ∙ ap (λ b. p x || b) (any-map p h same xs)

find-map : {X : Type 0} (p : X → Bool) (h : X → X) → ((x : X) → p (h x) ≡ p x) → (xs : List X)
    → find p (map h xs) ≡ option_map h (find p xs)
find-map p h same [] = refl
find-map p h same (x ∷ xs) = ap (λ b. cond b (Some (h x)) (find p (map h xs))) (same x)
    ∙ go (p x) (find-map p h same xs)
  where
    go : (b : Bool) → find p (map h xs) ≡ option_map h (find p xs)
        → cond b (Some (h x)) (find p (map h xs)) ≡ option_map h (cond b (Some x) (find p xs))
    go true rest = refl
    go false rest = rest

from-map : {X : Type 0} (p : X → Bool) (h : X → X) → ((x : X) → p (h x) ≡ p x) → (i : ℕ) (xs : List X)
    → position_from p i (map h xs) ≡ position_from p i xs
from-map p h same i [] = refl
from-map p h same i (x ∷ xs) =
    ap (λ b. cond b (Some i) (position_from p (i + 1) (map h xs))) (same x)
    ∙ ap (λ o. cond (p x) (Some i) o) (from-map p h same (i + 1) xs)

position-map : {X : Type 0} (p : X → Bool) (h : X → X) → ((x : X) → p (h x) ≡ p x) → (xs : List X)
    → position p (map h xs) ≡ position p xs
position-map p h same xs = position_from-zero p (map h xs) ∙ from-map p h same 0 xs ∙ sym (position_from-zero p xs)

first_from-map : {X F : Type 0} (new old : List X → X → Option F) (h : X → X) (before xs : List X)
    → ((front : List X) (j : ℕ) (x : X) → slice_get xs j ≡ Some x → new (map h front) (h x) ≡ old front x)
    → first_from new (map h before) (map h xs) ≡ first_from old before xs
first_from-map new old h before [] same = refl
first_from-map new old h before (x ∷ xs) same =
    ap (λ o. option_or o (first_from new (map h before ++ h x ∷ []) (map h xs))) (same before 0 x refl)
    ∙ ap (λ o. option_or (old before x) o)
    (ap (λ front. first_from new front (map h xs)) (sym (map-append h before (x ∷ [])))
    ∙ first_from-map new old h (before ++ x ∷ []) xs (λ front j y at. same front (suc j) y at))

map_some : {X Y : Type 0} (f g : X → Y) (o : Option X) → ((x : X) → o ≡ Some x → f x ≡ g x)
    → option_map f o ≡ option_map g o
map_some f g None same = refl
map_some f g (Some x) same = ap Some (same x refl)

then_some : {X Y : Type 0} (f g : X → Option Y) (o : Option X) → ((x : X) → o ≡ Some x → f x ≡ g x)
    → option_and_then f o ≡ option_and_then g o
then_some f g None same = refl
then_some f g (Some x) same = same x refl

or_some : {X Y : Type 0} (f g : X → Y) (o : Option X) (d : Y) → ((x : X) → o ≡ Some x → f x ≡ g x)
    → option_map_or f o d ≡ option_map_or g o d
or_some f g None d same = refl
or_some f g (Some x) d same = same x refl

of_either : (f : Item → ℕ) (b : Bool) (r x : Item) → f r ≡ f x → f (cond b r x) ≡ f x
of_either f true r x e = e
of_either f false r x e = refl

-- an item with another fourth byte
module _ (p u : ℕ) where
  kept : (x : Item) → x.first ≢ p → with_high p u x ≡ x
  kept x other = ap (λ t. cond t
      (record { first = x.first; words = x.words; kind = x.kind; low = x.low; high = high_byte u }) x)
      (ne_eqb x.first p other)

  kind_kept : (x : Item) → (with_high p u x).kind ≡ x.kind
  kind_kept x = of_either (λ (y : Item). y.kind) (eqb x.first p) _ x refl

  words_kept : (x : Item) → (with_high p u x).words ≡ x.words
  words_kept x = of_either (λ (y : Item). y.words) (eqb x.first p) _ x refl

  first_kept : (x : Item) → (with_high p u x).first ≡ x.first
  first_kept x = of_either (λ (y : Item). y.first) (eqb x.first p) _ x refl

  of_kind : (kind : ℕ) (x : Item) → is_of_kind kind (with_high p u x) ≡ is_of_kind kind x
  of_kind kind x = ap (λ k. eqb (first_spelling k) kind) (kind_kept x)

judged_rows : (read some right version : Bool) (kind : ℕ) (r s : Option DefFault)
    → (right ≡ true → version ≡ true → r ≡ s)
    → judged read some right version kind r ≡ judged read some right version kind s
judged_rows read some false version kind r s same = refl
judged_rows read some true false kind r s same = refl
judged_rows read some true true kind r s same = ap (judged read some true true kind) (same refl refl)

same_entry : {a b c x y z : ℕ} → a ≡ x → b ≡ y → c ≡ z
    → ◌≡◌ {A = EntryPoint} (record { pc = a; sp = b; limit = c }) (record { pc = x; sp = y; limit = z })
same_entry p q r = rw (p, q, r) refl

or_none : {F : Type 0} (o r : Option F) → option_or o r ≡ None → o ≡ None
or_none None r e = refl
or_none (Some f) r e = absurd (none-some f (sym e))

kind_untried : (f : ℕ) → image_kind (f % 2 ^ 15) ≡ image_kind f
kind_untried f = omega arith

chip_untried : (f : ℕ) → chip_of (f % 2 ^ 15) ≡ chip_of f
chip_untried f = omega arith

processor_untried : (f : ℕ) → processor_of (f % 2 ^ 15) ≡ processor_of f
processor_untried f = omega arith

security_untried : (f : ℕ) → security_of (f % 2 ^ 15) ≡ security_of f
security_untried f = omega arith

-- the trial bit is none of those by which an image suits
for_arm : (k c p s k' c' p' s' : ℕ) → k ≡ k' → c ≡ c' → p ≡ p' → s ≡ s'
    → (eqb k 1 && eqb c 1 && eqb p 0 && eqb s 2) ≡ (eqb k' 1 && eqb c' 1 && eqb p' 0 && eqb s' 2)
for_arm k c p s k' c' p' s' e f g h = rw (e, f, g, h) refl

for_riscv : (k c p k' c' p' : ℕ) → k ≡ k' → c ≡ c' → p ≡ p'
    → (eqb k 1 && eqb c 1 && eqb p 1) ≡ (eqb k' 1 && eqb c' 1 && eqb p' 1)
for_riscv k c p k' c' p' e f g = rw (e, f, g) refl

suits_untried : (cpu : Cpu) (f : ℕ) → suits_flags cpu (f % 2 ^ 15) ≡ suits_flags cpu f
suits_untried Arm f = for_arm _ _ _ _ _ _ _ _ (kind_untried f) (chip_untried f) (processor_untried f)
    (security_untried f)
suits_untried Riscv f = for_riscv _ _ _ _ _ _ (kind_untried f) (chip_untried f) (processor_untried f)

same_def : (f f' i i' n n' : ℕ) (v v' : Option ℕ) (e e' : Option EntryPoint) (d d' : ℤ) (m m' : Option ℕ)
    (g g' : Option (List ℕ)) (w w' : Version) (r r' : Option ℕ) (l l' : List ℕ)
    → f ≡ f' → i ≡ i' → v ≡ v' → e ≡ e' → d ≡ d' → m ≡ m' → n ≡ n' → g ≡ g' → w ≡ w' → r ≡ r' → l ≡ l'
    → ◌≡◌ {A = Def}
    (record {
      flags = f;
      image_word = i;
      vector = v;
      entry_point = e;
      delta = d;
      map_item = m;
      hash_words =
          n;
      digest = g;
      version = w;
      rollback = r;
      rows = record { items = l };
    })
    (record {
      flags = f';
      image_word = i';
      vector = v';
      entry_point = e';
      delta = d';
      map_item = m';
      hash_words =
          n';
      digest = g';
      version = w';
      rollback = r';
      rows = record { items = l' };
    })
same_def f f' i i' n n' v v' e e' d d' m m' g g' w w' r r' l l' a b c h j k o q s t u =
    rw (a, b, c, h, j, k, o, q, s, t, u) refl

-- a block's words and items, before and after a change of the fourth byte at p, where an item of
-- another kind than IMAGE_TYPE has neither its header nor a word behind it
module _ (words new : List ℕ) (items : List Item) (p u : ℕ) (long : length new ≡ length words)
    (other : (k : ℕ) → k ≢ p → get_or new k 0 ≡ get_or words k 0)
    (here : (j : ℕ) (x : Item) → slice_get items j ≡ Some x → x.first ≡ p → first_spelling x.kind ≡ IMAGE_TYPE)
    (apart : (j : ℕ) (x : Item) → slice_get items j ≡ Some x → (i : ℕ) → 1 ≤ i → i < x.words → x.first + i ≢ p) where
  abbrev h : Item → Item
  h x = with_high p u x

  elsewhere : (j : ℕ) (x : Item) → slice_get items j ≡ Some x → first_spelling x.kind ≢ IMAGE_TYPE → h x ≡ x
  elsewhere j x at ne = kept p u x (λ e. ne (here j x at e))

  right-kept : (j : ℕ) (x : Item) → slice_get items j ≡ Some x → is_well_formed new (h x) ≡ is_well_formed words x
  right-kept j x at =
      elim (cases_eq (first_spelling x.kind) IMAGE_TYPE) [
        | inl e ↦
            ap (λ k. is_well_formed_as (first_spelling k) new (h x)) (kind_kept p u x)
            ∙ ap (λ k. is_well_formed_as k new (h x)) e
            ∙ ap (λ n. (leb 1 n && leb n 1) && true) (words_kept p u x) ∙ sym (ap (λ k. is_well_formed_as k words x) e)
        | inr ne ↦ ap (is_well_formed new) (elsewhere j x at ne)
            ∙ right_as words new p long other x (apart j x at) (first_spelling x.kind)
      ]

  rows-kept : (j : ℕ) (x : Item) → slice_get items j ≡ Some x → is_well_formed words x ≡ true
      → eqb (first_spelling x.kind) VERSION ≡ true → rows_in new (h x) ≡ rows_in words x
  rows-kept j x at right version =
      let is = eqb-true (first_spelling x.kind) VERSION version in
      let ne : first_spelling x.kind ≢ IMAGE_TYPE = λ e. absurd (omega (arith, is, e)) in
      let sized = right_version words x
      (in_range x 2 19 _ (subst (λ k. is_well_formed_as k words x ≡ true) is right)).1 in
      ap (rows_in new) (elsewhere j x at ne) ∙ rows_same words new p long other x (apart j x at) sized.size

  fault-kept : (front : List Item) (j : ℕ) (x : Item) → slice_get items j ≡ Some x
      → item_fault new (map h front) (h x) ≡ item_fault words front x
  fault-kept front j x at =
      let k = first_spelling x.kind in
      let rows = first_fault row_fault (rows_in new (h x)) in
      ap (λ n. judged (is_read_kind n) (list_any (is_of_kind n) (map h front)) (is_well_formed new (h x))
      (eqb n VERSION) n rows) (ap first_spelling (kind_kept p u x))
      ∙ ap (λ b. judged (is_read_kind k) b (is_well_formed new (h x)) (eqb k VERSION) k rows)
      (any-map (is_of_kind k) h (of_kind p u k) front)
      ∙ ap (λ b. judged (is_read_kind k) (list_any (is_of_kind k) front) b (eqb k VERSION) k rows) (right-kept j x at)
      ∙ judged_rows (is_read_kind k) (list_any (is_of_kind k) front) (is_well_formed words x) (eqb k VERSION) k rows
      (first_fault row_fault (rows_in words x))
      (λ right version. ap (first_fault row_fault) (rows-kept j x at right version))

  first-kept : first_fault (item_fault new) (map h items) ≡ first_fault (item_fault words) items
  first-kept = first_from-map (item_fault new) (item_fault words) h [] items fault-kept

  slot-kept : (kind : ℕ) → kind ≢ IMAGE_TYPE → item_of_kind kind (map h items) ≡ item_of_kind kind items
  slot-kept kind ne = find-map (is_of_kind kind) h (of_kind p u kind) items ∙ go (item_of_kind kind items) refl
    where
      go : (o : Option Item) → item_of_kind kind items ≡ o → option_map h o ≡ o
      go None e = refl
      go (Some x) e =
          let at = find-place (is_of_kind kind) items x e in
          let is = eqb-true (first_spelling x.kind) kind (find-passes (is_of_kind kind) items x e) in
          ap Some (elsewhere at.0 x at.1 (λ f. ne (sym is ∙ f)))

  slot_apart : (kind : ℕ) (x : Item) → item_of_kind kind items ≡ Some x → (i : ℕ) → 1 ≤ i → i < x.words
      → x.first + i ≢ p
  slot_apart kind x e = let at = find-place (is_of_kind kind) items x e in apart at.0 x at.1

  count-kept : hash_count_in new (map h items) ≡ hash_count_in words items
  count-kept =
      ap (option_and_then (hash_count_of new)) (slot-kept HASH_DEF (λ e. absurd (omega (arith, e))))
      ∙ then_some _ _ (item_of_kind HASH_DEF items)
      (λ x e. hash_count_same words new p long other x (slot_apart HASH_DEF x e))

  last-kept : last_fault new (map h items) ≡ last_fault words items
  last-kept =
      ap (λ o. hashed_fault (option_map (λ (item : Item). item.first) o) (hash_count_in new (map h items))
      (length new)) (slot-kept HASH_VALUE (λ e. absurd (omega (arith, e))))
      ∙ ap (λ o. hashed_fault (hash_value_place items) o (length new)) count-kept
      ∙ ap (λ n. hashed_fault (hash_value_place items) (hash_count_in words items) n) long

  second-kept : (kind : ℕ) (x : Item) → item_of_kind kind items ≡ Some x → 2 ≤ x.words
      → second_word new x ≡ second_word words x
  second-kept kind x e size = read words new p long other x (slot_apart kind x e) 1 (x.first + 1) refl (omega arith)
      (omega (arith, size))

  entry-kept : (x : Item) → item_of_kind ENTRY_POINT items ≡ Some x → 3 ≤ x.words
      → entry_point_in new x ≡ entry_point_in words x
  entry-kept x e most =
      let free = slot_apart ENTRY_POINT x e in
      same_entry (read words new p long other x free 1 (x.first + 1) refl (omega arith) (omega (arith, most)))
      (read words new p long other x free 2 (x.first + 2) refl (omega arith) (omega (arith, most)))
      (limit (eqb x.words 4) refl free)
    where
      limit : (b : Bool) → eqb x.words 4 ≡ b → ((i : ℕ) → 1 ≤ i → i < x.words → x.first + i ≢ p)
          → cond b (get_or new (x.first + 3) 0) 0 ≡ cond b (get_or words (x.first + 3) 0) 0
      limit true t free =
          let n = eqb-true x.words 4 t in
          read words new p long other x free 3 (x.first + 3) refl (omega arith) (omega (arith, n))
      limit false t free = refl

  sized : (x : Item) → item_of_kind VERSION items ≡ Some x → AreSound (item_fault words) items (length items)
      → x.words ≡ version_words x.high
  sized x e sound =
      (right_version words x (in_range x 2 19 _ (sound_item words items VERSION x sound refl e).right).1).size

  pub fault-same : def_fault new (map h items) ≡ def_fault words items
  fault-same = ap (λ o. option_or o (last_fault new (map h items))) first-kept
      ∙ ap (λ o. option_or (first_fault (item_fault words) items) o) last-kept

  pub record-same : (image : Item) → item_of_kind IMAGE_TYPE items ≡ Some image
      → flags_of (h image) ≡ flags_of image % 2 ^ 15
      → AreSound (item_fault words) items (length items)
      → def_record new (map h items) ≡ untried (def_record words items)
  record-same image is flags sound =
      let there : item_of_kind IMAGE_TYPE (map h items) ≡ Some (h image) =
      find-map (is_of_kind IMAGE_TYPE) h (of_kind p u IMAGE_TYPE) items ∙ ap (option_map h) is in
      same_def _ _ _ _ _ _ _ _ _ _ _ _ _ _ _ _ _ _ _ _ _ _
      (ap (λ o. option_map_or flags_of o 0) there ∙ flags ∙ sym (ap (λ o. option_map_or flags_of o 0 % 2 ^ 15) is))
      (ap (λ o. option_map_or (λ (item : Item). item.first) o 0) there ∙ first_kept p u image
      ∙ sym (ap (λ o. option_map_or (λ (item : Item). item.first) o 0) is))
      (ap (option_map (second_word new)) (slot-kept VECTOR_TABLE (λ e. absurd (omega (arith, e))))
      ∙ map_some _ _ (item_of_kind VECTOR_TABLE items)
      (λ x e. second-kept VECTOR_TABLE x e
      (in_range x 2 2 true (sound_item words items VECTOR_TABLE x sound refl e).right).0.0))
      (ap (option_map (entry_point_in new)) (slot-kept ENTRY_POINT (λ e. absurd (omega (arith, e))))
      ∙ map_some _ _ (item_of_kind ENTRY_POINT items)
      (λ x e. entry-kept x e (in_range x 3 4 true (sound_item words items ENTRY_POINT x sound refl e).right).0.0))
      (ap (λ o. option_map_or (λ (item : Item). cast_signed w32 (second_word new item)) o (pos 0))
      (slot-kept WINDOW_DELTA (λ e. absurd (omega (arith, e))))
      ∙ or_some _ _ (item_of_kind WINDOW_DELTA items) (pos 0)
      (λ x e. ap (cast_signed w32) (second-kept WINDOW_DELTA x e
      (in_range x 2 2 true (sound_item words items WINDOW_DELTA x sound refl e).right).0.0)))
      (position-map (is_of_kind LOAD_MAP) h (of_kind p u LOAD_MAP) items)
      (ap (λ o. unwrap_or o 0) count-kept)
      (ap (option_and_then (digest_of new)) (slot-kept HASH_VALUE (λ e. absurd (omega (arith, e))))
      ∙ then_some _ _ (item_of_kind HASH_VALUE items)
      (λ x e. digest_same words new p long other x (slot_apart HASH_VALUE x e)))
      (ap (λ o. unwrap_or (option_and_then (version_of new) o) no_version)
      (slot-kept VERSION (λ e. absurd (omega (arith, e))))
      ∙ ap (λ o. unwrap_or o no_version)
      (then_some _ _ (item_of_kind VERSION items)
      (λ x e. version_same words new p long other x (slot_apart VERSION x e))))
      (ap (option_and_then (rollback_in new)) (slot-kept VERSION (λ e. absurd (omega (arith, e))))
      ∙ then_some _ _ (item_of_kind VERSION items)
      (λ x e. rollback_same words new p long other x (slot_apart VERSION x e) (sized x e sound)))
      (ap (λ o. option_map_or (rows_in new) o []) (slot-kept VERSION (λ e. absurd (omega (arith, e))))
      ∙ or_some _ _ (item_of_kind VERSION items) []
      (λ x e. rows_same words new p long other x (slot_apart VERSION x e) (sized x e sound)))

-- the flags of an IMAGE_TYPE item whose header's topmost bit is cleared
cleared_flags : (p w : ℕ) (image : Item) → image ≡ item_at p w
    → flags_of (with_high p (w % 2 ^ 31) image) ≡ flags_of image % 2 ^ 15
cleared_flags p w image is =
    let low : image.low ≡ low_byte w = ap (λ (i : Item). i.low) is in
    let high : image.high ≡ high_byte w = ap (λ (i : Item). i.high) is in
    let here : image.first ≡ p = ap (λ (i : Item). i.first) is in
    let number : image.low + 256 * high_byte (w % 2 ^ 31) ≡ (image.low + 256 * image.high) % 2 ^ 15 =
    omega (arith, low, high) in
    ap (λ t. flags_of (cond t (record {
      first = image.first;
      words = image.words;
      kind = image.kind;
      low =
          image.low;
      high = high_byte (w % 2 ^ 31);
    }) image)) (eq-eqb image.first p here)
    ∙ number

image_kind_is : (kind : ℕ) → first_spelling kind ≡ IMAGE_TYPE → kind ≡ IMAGE_TYPE
image_kind_is kind e = grind (arith, nat_tests)

abbrev changed_at : BlockView → ℕ → ℕ → BlockView
changed_at b u k = record { at = b.at; items = set b.items k u; link = b.link }

module _ (b : BlockView) (whole : AreItems b.items) (image : Item) (is : image_type_of b ≡ Some image) where
  abbrev p : ℕ
  p = image.first

  abbrev w : ℕ
  w = get_or b.items (p - 1) 0

  abbrev u : ℕ
  u = w % 2 ^ 31

  abbrev new : List ℕ
  new = frame (set b.items (p - 1) u) b.link

  at : (i : ℕ) × (slice_get (items_of b.items) i ≡ Some image)
  at = find-place (is_of_kind IMAGE_TYPE) (items_of b.items) image is

  stands : IsItemOf b.items image
  stands = IsItemOf-from_get b.items at.0 image whole at.1

  kind_there : first_spelling image.kind ≡ IMAGE_TYPE
  kind_there = eqb-true (first_spelling image.kind) IMAGE_TYPE
      (find-passes (is_of_kind IMAGE_TYPE) (items_of b.items) image is)

  lies_at : (j : ℕ) (x : Item) → slice_get (items_of b.items) j ≡ Some x → Lies j at.0 x image
  lies_at j x e = lies 1 0 b.items j at.0 x image e at.1

  here : (j : ℕ) (x : Item) → slice_get (items_of b.items) j ≡ Some x → x.first ≡ p → first_spelling x.kind ≡ IMAGE_TYPE
  here j x e f =
      elim (lies_at j x e) [
        | Same same ↦
            let one : x ≡ image = same_Some x image (sym e ∙ ap (slice_get (items_of b.items)) same ∙ at.1) in
            ap (λ (i : Item). first_spelling i.kind) one ∙ kind_there
        | Before ends lt ↦ absurd (omega (arith, f, lt))
        | Behind lt ↦ absurd (omega (arith, f, lt))
      ]

  apart : (j : ℕ) (x : Item) → slice_get (items_of b.items) j ≡ Some x → (i : ℕ) → 1 ≤ i → i < x.words → x.first + i ≢ p
  apart j x e i low lt f =
      elim (lies_at j x e) [
        | Same same ↦
            let one : x.first ≡ image.first =
            ap (λ (y : Item). y.first) (same_Some x image
            (sym e ∙ ap (slice_get (items_of b.items)) same ∙ at.1)) in
            omega (arith, one, f, low)
        | Before ends less ↦ omega (arith, ends, lt, f)
        | Behind less ↦ omega (arith, less, f)
      ]

  room : p - 1 < length b.items
  room = omega (arith, stands.first, stands.some, stands.inside)

  low_same : (w % 256 ≡ 0x42) × (u % 16777216 ≡ w % 16777216)
  low_same =
      let kind : image.kind ≡ w % 256 = ap (λ (i : Item). i.kind) stands.is in
      (sym kind ∙ image_kind_is image.kind kind_there, omega arith)

  items-same : items_of (set b.items (p - 1) u) ≡ map (with_high p u) (items_of b.items)
  items-same =
      let place : 1 + (p - 1) ≡ p = omega (arith, stands.first) in
      items_of-set b.items (p - 1) u room low_same ∙ ap (λ q. map (with_high q u) (items_of b.items)) place

  long : length new ≡ length (block_words b)
  long =
      length-frame (set b.items (p - 1) u) b.link ∙ ap (λ n. n + 4) (length-set b.items (p - 1) u)
      ∙ sym (length-frame b.items b.link)

  other : (k : ℕ) → k ≢ p → get_or new k 0 ≡ get_or (block_words b) k 0
  other k ne =
      sym (ap (λ xs. get_or xs k 0) (frame-set_item b.items b.link (p - 1) u room))
      ∙ get_or-set_other (block_words b) (suc (p - 1)) k u 0 (λ e. ne (omega (arith, e, stands.first)))

  cleared : trial_cleared b ≡ top_cleared b p
  cleared = ap (λ o. option_map_or (λ (item : Item). top_cleared b item.first) o b) is

  answer : (o : Option DefFault) → def_fault (block_words b) (items_of b.items) ≡ o
      → ok_unless o (def_record new (map (with_high p u) (items_of b.items))) ≡ untried_answer
      (ok_unless o (def_record (block_words b) (items_of b.items)))
  answer None e =
      let sound = sound_from_none (item_fault (block_words b)) (items_of b.items)
      (or_none (first_fault (item_fault (block_words b)) (items_of b.items))
      (last_fault (block_words b) (items_of b.items)) e) in
      ap Ok (record-same (block_words b) new (items_of b.items) p u long other here apart image is
      (cleared_flags p w image stands.is) sound)
  answer (Some f) e = refl

  pub definition-cleared : def_of (trial_cleared b) ≡ untried_answer (def_of b)
  unfolding def_of
  definition-cleared =
      let words = block_words b in
      let items = items_of b.items in
      let mapped = map (with_high p u) items in
      ap def_of cleared
      ∙ ap (λ xs. ok_unless (def_fault new xs) (def_record new xs)) items-same
      ∙ ap (λ o. ok_unless o (def_record new mapped)) (fault-same words new items p u long other here apart)
      ∙ answer (def_fault words items) refl

  -- an item of another kind stays as it was
  pub item-cleared : (j : ℕ) (x : Item) → slice_get (items_of b.items) j ≡ Some x → first_spelling x.kind ≢ IMAGE_TYPE
      → slice_get (items_of (trial_cleared b).items) j ≡ Some x
  item-cleared j x there other_kind =
      ap (λ (c : BlockView). slice_get (items_of c.items) j) cleared ∙ ap (λ xs. slice_get xs j) items-same
      ∙ slice_get-map (with_high p u) (items_of b.items) j ∙ ap (option_map (with_high p u)) there
      ∙ ap Some (kept p u x (λ e. other_kind (here j x there e)))

  -- the header has the type byte of IMAGE_TYPE
  pub type_byte-there : w % 256 ≡ 0x42
  type_byte-there = low_same.0

  pub type-cleared : image_type_of (trial_cleared b) ≡ Some (with_high p u image)
  type-cleared =
      ap image_type_of cleared ∙ ap (item_of_kind IMAGE_TYPE) items-same
      ∙ find-map (is_of_kind IMAGE_TYPE) (with_high p u) (of_kind p u IMAGE_TYPE) (items_of b.items)
      ∙ ap (option_map (with_high p u)) is

  pub flags-cleared : image_flags_of (trial_cleared b) ≡ Some (flags_of image % 2 ^ 15)
  flags-cleared = ap (option_map flags_of) type-cleared ∙ ap Some (cleared_flags p w image stands.is)

  pub size-cleared : block_size (trial_cleared b) ≡ block_size b
  size-cleared = ap block_size cleared ∙ ap (λ n. 4 * n + 16) (length-set b.items (p - 1) u)

  pub suits-cleared : (cpu : Cpu) → does_suit cpu (trial_cleared b) ≡ does_suit cpu b
  suits-cleared cpu =
      ap (λ n. leb n 384 && option_map_or (suits_flags cpu) (image_flags_of (trial_cleared b)) false) size-cleared
      ∙ ap (λ o. leb (block_size b) 384 && option_map_or (suits_flags cpu) o false) flags-cleared
      ∙ ap (λ t. leb (block_size b) 384 && t) (suits_untried cpu (flags_of image))
      ∙ sym (ap (λ o. leb (block_size b) 384 && option_map_or (suits_flags cpu) (option_map flags_of o) false) is)

  pub changed-cleared : (a : ℕ) → a ≡ b.at + 4 * image.first → changed_block a u b ≡ trial_cleared b
  changed-cleared a e =
      let k : (a - (b.at + 4)) / 4 ≡ p - 1 = omega (arith, e, stands.first) in
      changed_item a u b (omega (arith, e, stands.first)) (omega (arith, e, stands.inside, stands.some))
      ∙ ap (λ n. changed_at b u n) k ∙ sym cleared

some_there : {X : Type 0} (o : Option X) → is_some o ≡ true → (x : X) × (o ≡ Some x)
some_there None e = absurd (true≢false (sym e))
some_there (Some x) e = (x, refl)

pub image_there : (b : BlockView) → has_image_type b ≡ true → (image : Item) × (image_type_of b ≡ Some image)
image_there b typed = some_there (image_type_of b) typed

flags_in : (o : Option Item) (flags : ℕ) → option_map flags_of o ≡ Some flags
    → (image : Item) × (o ≡ Some image) × (flags_of image ≡ flags)
flags_in None flags e = absurd (none-some flags e)
flags_in (Some image) flags e = (image, refl, same_Some (flags_of image) flags e)

pub flags_there : (b : BlockView) (flags : ℕ) → image_flags_of b ≡ Some flags
    → (image : Item) × (image_type_of b ≡ Some image) × (flags_of image ≡ flags)
flags_there b flags e = flags_in (image_type_of b) flags e
