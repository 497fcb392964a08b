-- The loads depend on the offset, the size and the entries' words of the block alone; a trial bit is none of these,
-- and is not covered.
use Rattle.std.proofs.Common.{◌≡◌, ◌≢◌, ℕ, zero, suc, ◌+◌, ◌-◌, ◌*◌, ◌/◌, ◌%◌, ◌<◌, ◌≤◌, Bool, true, false, List, [], ◌∷◌, ◌++◌, length, take, get_or, set, arith, refl, sym, ap, subst, ◌∙◌, inl, inr, ◌⊎◌}
use Rattle.std.specs.Prelude.{◌&&◌, ◌==◌, Option, None, Some, slice_index, slice_set, slice_get}
use Rattle.std.proofs.lemmas.List.{length-set, set-set, get_or-set_same, get_or-set_other}
use Rattle.std.proofs.lemmas.Bool.{cases_lt}
use Rattle.std.proofs.lemmas.Option.{none-some, same_Some}
use Rattle.block_codec.specs.Blocks.{BlockView, block_words}
use Rattle.block_codec.specs.Items.{size_of, item_at, items_from, items_of}
use Rattle.block_codec.specs.declared.items.Item.{Item}
use Rattle.block_codec.proofs.FrameLemmas.{eqb_true, length-frame}
use Rattle.block_codec.proofs.HighByteLemmas.{frame-set_item, changed_item}
use Rattle.block_codec.specs.HighByte.{changed_block}
use Rattle.block_codec.specs.Kinds.{first_spelling, is_of_kind}
use Rattle.block_codec.specs.declared.kinds.TheConstants.{LOAD_MAP}
use Rattle.std.proofs.lemmas.Grind.{common_steps}
use Rattle.std.proofs.lemmas.Bool.Decides.{nat_tests}
use Rattle.load_map.proofs.EntryLemmas.{IsMapAt-from}
use Rattle.load_map.specs.Agree.{HaveSameEntries, SameButTrial}
use Rattle.load_map.specs.Covered.{masked_words, without_trial}
use Rattle.load_map.specs.Loads.{IsMapAt, is_load_map, entries_from, entries_of, entry_count, is_absolute}
use Rattle.block_codec.specs.FirstFault.{first_from}
use Rattle.load_map.specs.Reading.{loads_of, loads_or_fault, setting_of, entry_fault, load_fault, load_of, covers_block}
use Rattle.load_map.specs.declared.load.Load.{Load}
use Rattle.load_map.specs.declared.setting.Setting.{Setting}
use Rattle.load_map.specs.declared.entry.Entry.{Entry}

-- a word of the masked words
pub masked-here : (words : List ℕ) (k : ℕ) → k < length words
    → slice_index (masked_words words k) k ≡ without_trial (slice_index words k)
masked-here words k lt = get_or-set_same words k (without_trial (slice_index words k)) 0 lt

pub masked-other : (words : List ℕ) (k j : ℕ) → j ≢ k → slice_index (masked_words words k) j ≡ slice_index words j
masked-other words k j other = get_or-set_other words k j (without_trial (slice_index words k)) 0 other

pub masked-count : (words : List ℕ) (k : ℕ) → length (masked_words words k) ≡ length words
masked-count words k = length-set words k (without_trial (slice_index words k))

-- words in front of the masked one
pub masked-front : (words : List ℕ) (k n : ℕ) → n ≤ k → take n (masked_words words k) ≡ take n words
masked-front words k n front = take-set words k n (without_trial (slice_index words k)) front
  where
    take-set : (ws : List ℕ) (i m x : ℕ) → m ≤ i → take m (set ws i x) ≡ take m ws
    take-set ws i zero x le = refl
    take-set [] i (suc m) x le = refl
    take-set (w ∷ ws) zero (suc m) x le = absurd (omega (arith, le))
    take-set (w ∷ ws) (suc i) (suc m) x le = ap (λ rest. w ∷ rest) (take-set ws i m x (omega (arith, le)))

-- the words but the one at place k are the same
pub same-others : (k : ℕ) (b c : BlockView) → SameButTrial k b c → (j : ℕ) → j ≢ k
    → slice_index (block_words c) j ≡ slice_index (block_words b) j
same-others k b c same j other =
    sym (masked-other (block_words c) k j other) ∙ ap (λ words. slice_index words j) same.words
    ∙ masked-other (block_words b) k j other

-- a block with another word among its items that is the same without its trial bit
pub SameButTrial-set : (b : BlockView) (k u : ℕ) → k < length b.items
    → without_trial u ≡ without_trial (slice_index (block_words b) (suc k)) →
    SameButTrial (suc k) b (record { at = b.at; items = slice_set b.items k u; link = b.link })
SameButTrial-set b k u lt bit = record {
  at = refl;
  size = length-set b.items k u;
  words =
      let words = block_words b in
      let long = length-frame b.items b.link in
      let changed : set words (suc k) u ≡ block_words
      (record { at = b.at; items = slice_set b.items k u; link = b.link }) = frame-set_item b.items b.link k u lt in
      let new : get_or (set words (suc k) u) (suc k) 0 ≡ u = get_or-set_same words (suc k) u 0
      (omega (arith, long, lt))
      in
      subst (λ ws. masked_words ws (suc k) ≡ masked_words words (suc k)) changed
      (rw new (set-set words (suc k) u (without_trial u) ∙ ap (λ x. set words (suc k) x) bit));
}

same-entries : (ws us : List ℕ) (place n : ℕ)
    → ((j : ℕ) → place ≤ j → j < place + 3 * n → slice_index us j ≡ slice_index ws j)
    → entries_from us place n ≡ entries_from ws place n
same-entries ws us place zero same = refl
same-entries ws us place (suc n) same =
    let one = same place (omega arith) (omega arith) in
    let two = same (place + 1) (omega arith) (omega arith) in
    let three = same (place + 2) (omega arith) (omega arith) in
    let rest = same-entries ws us (place + 3) n (λ j from to. same j (omega (arith, from)) (omega (arith, to))) in
    rw (one, two, three, rest) refl

same-covers : (b c : BlockView) (storage : Option ℕ) (size : ℕ) → c.at ≡ b.at → length c.items ≡ length b.items
    → covers_block c storage size ≡ covers_block b storage size
same-covers b c None size at long = refl
same-covers b c (Some x) size at long = rw (at, long) refl

same-load_fault : (s : Setting) (b c : BlockView) (i : ℕ) (given : Option Load) → c.at ≡ b.at
    → length c.items ≡ length b.items → load_fault s c i given ≡ load_fault s b i given
same-load_fault s b c i None at long = refl
same-load_fault s b c i (Some load) at long = rw (same-covers b c load.storage load.size at long) refl

same-first : (s : Setting) (b c : BlockView) (absolute : Bool) (before entries : List Entry) → c.at ≡ b.at
    → length c.items ≡ length b.items
    → first_from (entry_fault s c absolute) before entries ≡ first_from (entry_fault s b absolute) before entries
same-first s b c absolute before [] at long = refl
same-first s b c absolute before (entry ∷ entries) at long =
    rw (
      same-load_fault s b c (length before) (load_of s absolute entry) at long,
      same-first s b c absolute
          (before ++ entry ∷ []) entries at long,
    ) refl

same-faults : (s : Setting) (b c : BlockView) (absolute : Bool) (entries : List Entry) → c.at ≡ b.at
    → length c.items ≡ length b.items → loads_or_fault s c absolute entries ≡ loads_or_fault s b absolute entries
same-faults s b c absolute entries at long = rw (same-first s b c absolute [] entries at long) refl

pub same-loads_of : (base n : ℕ) (in_place : Bool) (b c : BlockView) (item : Item) → HaveSameEntries item b c
    → loads_of base in_place n c item ≡ loads_of base in_place n b item
same-loads_of base n in_place b c item same =
    let entries = same-entries (block_words b) (block_words c) (item.first + 1) (entry_count item)
    (λ j from to. same.words j (omega (arith, from)) (omega (arith, to))) in
    ap (λ es. loads_or_fault (setting_of base in_place n c item) c (is_absolute item) es) entries
    ∙ (same-faults (setting_of base in_place n c item) b c (is_absolute item) (entries_of (block_words b) item)
    same.at same.size
    ∙ ap (λ at. loads_or_fault (record { base = base; in_place = in_place; len = n; item_at = at + 4 * item.first }) b
    (is_absolute item) (entries_of (block_words b) item)) same.at)

-- items stand one behind the other
later-from : (place k : ℕ) (ws : List ℕ) (i : ℕ) (item : Item) → slice_get (items_from place k ws) i ≡ Some item
    → place + k ≤ item.first
later-from place k [] i item at = absurd (none-some item at)
later-from place (suc k) (w ∷ ws) i item at = let later = later-from (place + 1) k ws i item at in omega (arith, later)
later-from place zero (h ∷ ws) zero item at =
    let same = same_Some (item_at place h) item at in
    subst (λ (x : Item). place + 0 ≤ x.first) same (let zeroth : place + 0 ≤ place = omega arith in zeroth)
later-from place zero (h ∷ ws) (suc i) item at =
    let later = later-from (place + 1) (size_of h - 1) ws i item at in omega (arith, later)

pub items-in-order : (place k : ℕ) (ws : List ℕ) (i j : ℕ) (one two : Item) → i < j
    → slice_get (items_from place k ws) i ≡ Some one → slice_get (items_from place k ws) j ≡ Some two
    → one.first + one.words ≤ two.first
items-in-order place k [] i j one two lt at_i at_j = absurd (none-some one at_i)
items-in-order place (suc k) (w ∷ ws) i j one two lt at_i at_j = items-in-order (place + 1) k ws i j one two lt at_i
    at_j
items-in-order place zero (h ∷ ws) i zero one two lt at_i at_j = absurd (omega (arith, lt))
items-in-order place zero (h ∷ ws) zero (suc j) one two lt at_i at_j =
    let later = later-from (place + 1) (size_of h - 1) ws j two at_j in
    let same = same_Some (item_at place h) one at_i in
    subst (λ (x : Item). x.first + x.words ≤ two.first) same
    (let end : place + size_of h ≤ two.first = omega (arith, later) in end)
items-in-order place zero (h ∷ ws) (suc i) (suc j) one two lt at_i at_j =
    items-in-order (place + 1) (size_of h - 1) ws i j one two (omega (arith, lt)) at_i at_j

-- a changed block whose changed word is the same without its trial bit
pub SameButTrial-changed : (a u : ℕ) (b : BlockView) → a % 4 ≡ b.at % 4 → b.at + 4 ≤ a
    → a < b.at + 4 + 4 * length b.items
    → without_trial u ≡ without_trial (slice_index (block_words b) ((a - b.at) / 4))
    → SameButTrial ((a - b.at) / 4) b (changed_block a u b)
SameButTrial-changed a u b aligned from to bit =
    let place : (a - b.at) / 4 ≡ suc ((a - (b.at + 4)) / 4) = omega (arith, aligned, from) in
    let lt : (a - (b.at + 4)) / 4 < length b.items = omega (arith, aligned, from, to) in
    rw (changed_item a u b from to, place) (SameButTrial-set b ((a - (b.at + 4)) / 4) u lt (rw place at bit))

-- the loads of a LOAD_MAP item of a block are the same where the trial bit of another item's header differs
pub trial-loads_of : (base n : ℕ) (in_place : Bool) (b c : BlockView) (i j : ℕ) (image map : Item) → i ≢ j
    → slice_get (items_of b.items) i ≡ Some image → slice_get (items_of b.items) j ≡ Some map
    → map.words ≡ 1 + 3 * entry_count map → 1 ≤ image.words → SameButTrial image.first b c
    → loads_of base in_place n c map ≡ loads_of base in_place n b map
trial-loads_of base n in_place b c i j image map other at_i at_j size some same =
    same-loads_of base n in_place b c map (record {
      at = same.at;
      size = same.size;
      words = λ k from to. same-others image.first b c same k (apart k from to);
    })
  where
    apart : (k : ℕ) → map.first < k → k ≤ map.first + 3 * entry_count map → k ≢ image.first
    apart k from to is =
        elim (cases_lt i j) [
          | inl before ↦ let order = items-in-order 1 0 b.items i j image map before at_i at_j in omega
              (arith, order, is, from, some)
          | inr after ↦
              let less : j < i = omega (arith, after, other) in
              let order = items-in-order 1 0 b.items j i map image less at_j at_i in omega (arith, order, is, to, size)
        ]

and-right : (x y : Bool) → (x && y) ≡ true → y ≡ true
and-right true y is = is
and-right false y is = cc

and-left : (x y : Bool) → (x && y) ≡ true → x ≡ true
and-left true y is = refl
and-left false y is = cc

-- a LOAD_MAP item has three words for each entry
pub map-words : (map : Item) → is_load_map map ≡ true → map.words ≡ 1 + 3 * entry_count map
map-words map is = eqb_true map.words (1 + 3 * entry_count map) (and-right _ (map.words == 1 + 3 * entry_count map) is)

-- a word that is none of the entries' may differ
pub HaveSameEntries-set : (b : BlockView) (item : Item) (k u : ℕ) → k < length b.items → (k + 1 ≤ item.first)
    ⊎ (item.first + 3 * entry_count item < k + 1)
    → HaveSameEntries item b (record { at = b.at; items = slice_set b.items k u; link = b.link })
HaveSameEntries-set b item k u lt apart = record {
  at = refl;
  size = length-set b.items k u;
  words = λ j from to.
      subst (λ ws. slice_index ws j ≡ slice_index (block_words b) j) (frame-set_item b.items b.link k u lt)
      (get_or-set_other (block_words b) (suc k) j u 0 (λ same. elsewhere j from to same apart));
}
  where
    elsewhere : (j : ℕ) → item.first < j → j ≤ item.first + 3 * entry_count item → j ≡ suc k → (k + 1 ≤ item.first)
        ⊎ (item.first + 3 * entry_count item < k + 1) → ⊥
    elsewhere j from to same (inl before) = omega (arith, from, same, before)
    elsewhere j from to same (inr behind) = omega (arith, to, same, behind)

spelled : (kind : ℕ) → (first_spelling kind == LOAD_MAP) ≡ true → (kind ≡ 0x06) ⊎ (kind ≡ 0x86)
spelled kind is = grind (arith, common_steps, nat_tests)

load-map-parts : (item : Item) → is_load_map item ≡ true
    → ((item.kind ≡ 0x06) ⊎ (item.kind ≡ 0x86)) × (item.words ≡ 1 + 3 * (item.high % 128))
load-map-parts item is = (
  spelled item.kind
      (and-left (is_of_kind LOAD_MAP item) (item.words == 1 + 3 * entry_count item) is),
  map-words item is,
)

-- where a load map stands
pub map-parts : (b : BlockView) (k : ℕ) (item : Item) → slice_get (items_of b.items) k ≡ Some item → IsMapAt b k
    → ((item.kind ≡ 0x06) ⊎ (item.kind ≡ 0x86)) × (item.words ≡ 1 + 3 * (item.high % 128))
map-parts b k item at is = load-map-parts item (rw at at is)

kind-spelled : (item : Item) → (item.kind ≡ 0x06) ⊎ (item.kind ≡ 0x86) → is_of_kind LOAD_MAP item ≡ true
kind-spelled item (inl short) = rw short refl
kind-spelled item (inr long) = rw long refl

pub map-from-parts : (b : BlockView) (k : ℕ) (item : Item) → slice_get (items_of b.items) k ≡ Some item
    → ((item.kind ≡ 0x06) ⊎ (item.kind ≡ 0x86)) × (item.words ≡ 1 + 3 * (item.high % 128)) → IsMapAt b k
map-from-parts b k item at (kind, size) = IsMapAt-from b k item at (kind-spelled item kind) size
