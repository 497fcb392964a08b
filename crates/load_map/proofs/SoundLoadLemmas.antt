-- What the loads of a load map without a fault have in common, and that a longer window leaves them as they are.
use Rattle.std.proofs.Common.{◌≡◌, ℕ, ◌+◌, ◌-◌, ◌<◌, ◌≤◌, Bool, true, false, List, [], ◌∷◌, ◌++◌, length, cond, arith, refl, sym, ap, suc, zero, ◌∙◌, subst, inl, inr}
use Rattle.std.specs.Prelude.{ℤ, pos, negsuc, ◌+ℤ◌, ◌&&◌, ◌==◌, ◌⊎◌, not, min, max, nat_le, nat_lt, Option, None, Some, Ok, filter_map}
use Rattle.std.specs.Option.{option_map, option_or}
use Rattle.std.specs.Int.{cast_signed, w32}
use Rattle.std.proofs.lemmas.Bool.{cases_lt}
use Rattle.std.proofs.lemmas.Bool.Decides.{nat_tests}
use Rattle.std.proofs.lemmas.Option.{none-some, same_Some}
use Rattle.std.proofs.lemmas.Grind.{common_steps}
use Rattle.block_codec.specs.Blocks.{BlockView, block_size, block_words}
use Rattle.block_codec.specs.declared.items.Item.{Item}
use Rattle.block_codec.specs.FirstFault.{first_from, first_fault, ok_unless}
use Rattle.load_map.specs.declared.entry.Entry.{Entry}
use Rattle.load_map.specs.Loads.{entries_of, entries_from, entry_count, is_absolute}
use Rattle.load_map.specs.declared.setting.Setting.{Setting}
use Rattle.load_map.specs.Reading.{offset_within, stored_at, relative_load, absolute_load, clear_load, load_of, is_runtime_right, covers_block, load_fault, entry_fault, loads_or_fault, loads_of, setting_of}
use Rattle.load_map.specs.Stored.{IsStoredIn, AreStoredIn, IsClearOf, AreClearOf, AreRuntimeRight}
use Rattle.load_map.specs.declared.load.Load.{Load}
use Rattle.load_map.specs.declared.load.MapFault.{MapFault}
use Rattle.load_map.specs.declared.load.MapFault.TheVariants.{Runtime, CoversBlock}

-- as many entries are read as were asked for
pub length-entries : (words : List ℕ) (place n : ℕ) → length (entries_from words place n) ≡ n
length-entries words place zero = refl
length-entries words place (suc n) = ap suc (length-entries words (place + 3) n)

within-offset : (n : ℕ) (z : ℤ) (size x : ℕ) → offset_within n z size ≡ Some x → x + size ≤ n
within-offset n (pos y) size x is = grind (arith, common_steps)
within-offset n (negsuc y) size x is = cc

within-parts : (base place extent n : ℕ)
    → (nat_le base place && nat_le place extent && nat_le extent (base + n)) ≡ true
    → (place - base) + (extent - place) ≤ n
within-parts base place extent n test = grind (arith, nat_tests)

at-or-past : (a b : ℕ) → nat_lt a b ≡ false → b ≤ a
at-or-past a b test = grind (arith, nat_tests)

pub chosen : {X : Type 0} (test : Bool) (x y z : X) → cond test x y ≡ z → ((test ≡ true) × (x ≡ z))
    ⊎ ((test ≡ false) × (y ≡ z))
chosen true x y z is = inl (refl, is)
chosen false x y z is = inr (refl, is)

stored-relative : (s : Setting) (entry : Entry) (place : Option ℕ) (load : Load)
    → ((x : ℕ) → place ≡ Some x → x + entry.extent ≤ s.len)
    → option_map (stored_at entry entry.extent) place ≡ Some load → IsStoredIn s.len load.storage load.size
stored-relative s entry None load inside is = absurd (none-some load is)
stored-relative s entry (Some x) load inside is =
    subst (λ (l : Load). IsStoredIn s.len l.storage l.size) (same_Some (stored_at entry entry.extent x) load is)
    (inside x refl)

abbrev pub none_load : Option Load
none_load = None

stored-absolute : (s : Setting) (entry : Entry) (load : Load) → absolute_load s entry ≡ Some load
    → IsStoredIn s.len load.storage load.size
stored-absolute s entry load is =
    by_test (chosen (nat_le s.base entry.place && nat_le entry.place entry.extent && nat_le entry.extent
    (s.base + s.len)) _ None (Some load) is)
  where
    by_test : (((nat_le s.base entry.place && nat_le entry.place entry.extent && nat_le entry.extent (s.base + s.len))
        ≡ true) × (Some (stored_at entry (entry.extent - entry.place) (entry.place - s.base)) ≡ Some load))
        ⊎ (((nat_le s.base entry.place && nat_le entry.place entry.extent && nat_le entry.extent (s.base + s.len)) ≡
        false) × (none_load ≡ Some load))
        → IsStoredIn s.len load.storage load.size
    by_test (inl right) =
        let fits : (entry.place - s.base) + (entry.extent - entry.place) ≤ s.len = within-parts s.base entry.place
        entry.extent s.len right.0 in
        subst (λ (l : Load). IsStoredIn s.len l.storage l.size) (same_Some _ load right.1) fits
    by_test (inr wrong) = absurd (none-some load wrong.1)

-- the load of an entry lies in the window
pub stored-load : (s : Setting) (absolute : Bool) (entry : Entry) (load : Load)
    → load_of s absolute entry ≡ Some load → IsStoredIn s.len load.storage load.size
stored-load s absolute entry load is = by_clear (chosen (entry.place == 0) (Some (clear_load entry)) _ (Some load) is)
  where
    by_form : (form : Bool) → cond form (absolute_load s entry) (relative_load s entry) ≡ Some load
        → IsStoredIn s.len load.storage load.size
    by_form true stored = stored-absolute s entry load stored
    by_form false stored =
        stored-relative s entry (offset_within s.len (pos s.item_at +ℤ cast_signed w32 entry.place) entry.extent) load
        (λ x at. within-offset s.len (pos s.item_at +ℤ cast_signed w32 entry.place) entry.extent x at) stored

    by_clear : (((entry.place == 0) ≡ true) × (Some (clear_load entry) ≡ Some load))
        ⊎ (((entry.place == 0) ≡ false) × (cond absolute (absolute_load s entry) (relative_load s entry) ≡ Some load))
        → IsStoredIn s.len load.storage load.size
    by_clear (inl clear) = subst (λ (l : Load). IsStoredIn s.len l.storage l.size)
        (same_Some (clear_load entry) load clear.1) tt
    by_clear (inr stored) = by_form absolute stored.1

-- a storage that covers no byte of the block is clear of it
pub clear-of : (b : BlockView) (storage : Option ℕ) (size : ℕ) → covers_block b storage size ≡ false
    → IsClearOf b storage size
clear-of b None size apart = tt
clear-of b (Some x) size apart = by_side (cases_lt b.at (x + size)) (cases_lt x (b.at + block_size b))
  where
    past : min (x + size) (b.at + block_size b) ≤ max x b.at
    past = at-or-past (max x b.at) (min (x + size) (b.at + block_size b)) apart

    by_side : (b.at < x + size) ⊎ (x + size ≤ b.at) → (x < b.at + block_size b) ⊎ (b.at + block_size b ≤ x)
        → IsClearOf b (Some x) size
    by_side (inr before) side = inr (inl before)
    by_side (inl in_front) (inr after) = inr (inr after)
    by_side (inl in_front) (inl behind) = inl (omega (arith, past))

judged-none : (right covers : Bool) (wrong covering : MapFault)
    → cond (not right) (Some wrong) (cond covers (Some covering) None) ≡ None → (right ≡ true) × (covers ≡ false)
judged-none true false wrong covering none = (refl, refl)
judged-none true true wrong covering none = cc
judged-none false covers wrong covering none = cc

-- an entry without a fault has a load, which is right and clear of the block
pub no-fault : (s : Setting) (b : BlockView) (i : ℕ) (given : Option Load) → load_fault s b i given ≡ None
    → (load : Load) × (given ≡ Some load) × (is_runtime_right s load ≡ true) ×
    (covers_block b load.storage load.size ≡ false)
no-fault s b i None none = cc
no-fault s b i (Some load) none =
    let right = judged-none (is_runtime_right s load) (covers_block b load.storage load.size) (Runtime i)
    (CoversBlock i) none in
    (load, refl, right.0, right.1)

pub no-first : {F : Type 0} (one rest : Option F) → option_or one rest ≡ None → (one ≡ None) × (rest ≡ None)
no-first None rest none = (refl, none)
no-first (Some f) rest none = cc

-- what the loads of entries without a fault have in common
pub record AreSoundLoads (s : Setting) (b : BlockView) (loads : List Load) : Type 0 where
  pub stored : AreStoredIn s.len loads
  pub clear : AreClearOf b loads
  pub right : AreRuntimeRight s loads

sound-from : (s : Setting) (b : BlockView) (absolute : Bool) (before entries : List Entry)
    → first_from (entry_fault s b absolute) before entries ≡ None
    → AreSoundLoads s b (filter_map (load_of s absolute) entries)
sound-from s b absolute before [] none = record { stored = tt; clear = tt; right = tt }
sound-from s b absolute before (entry ∷ entries) none =
    let parts = no-first (entry_fault s b absolute before entry)
    (first_from (entry_fault s b absolute) (before ++ entry ∷ []) entries) none in
    let here = no-fault s b (length before) (load_of s absolute entry) parts.0 in
    let rest = sound-from s b absolute (before ++ entry ∷ []) entries parts.1 in
    rw here.1 (record {
      stored = (stored-load s absolute entry here.0 here.1, rest.stored);
      clear = (clear-of b here.0.storage here.0.size here.3, rest.clear);
      right = (here.2, rest.right);
    })

pub ok_unless-Ok : (fault : Option MapFault) (loads given : List Load) → ok_unless fault loads ≡ Ok given
    → (fault ≡ None) × (loads ≡ given)
ok_unless-Ok None loads given is = (refl, cc)
ok_unless-Ok (Some fault) loads given is = cc

pub sound-loads : (s : Setting) (b : BlockView) (absolute : Bool) (entries : List Entry) (loads : List Load)
    → loads_or_fault s b absolute entries ≡ Ok loads → AreSoundLoads s b loads
sound-loads s b absolute entries loads is =
    let parts = ok_unless-Ok (first_fault (entry_fault s b absolute) entries)
    (filter_map (load_of s absolute) entries) loads is in
    subst (λ ls. AreSoundLoads s b ls) parts.1 (sound-from s b absolute [] entries parts.0)

pub sound-loads_of : (base n : ℕ) (in_place : Bool) (b : BlockView) (item : Item) (loads : List Load)
    → loads_of base in_place n b item ≡ Ok loads → AreSoundLoads (setting_of base in_place n b item) b loads
sound-loads_of base n in_place b item loads is =
    sound-loads (setting_of base in_place n b item) b (is_absolute item) (entries_of (block_words b) item) loads is

-- an entry without a fault gives one load
counted-from : (s : Setting) (b : BlockView) (absolute : Bool) (before entries : List Entry)
    → first_from (entry_fault s b absolute) before entries ≡ None
    → length (filter_map (load_of s absolute) entries) ≡ length entries
counted-from s b absolute before [] none = refl
counted-from s b absolute before (entry ∷ entries) none =
    let parts = no-first (entry_fault s b absolute before entry)
    (first_from (entry_fault s b absolute) (before ++ entry ∷ []) entries) none in
    let here = no-fault s b (length before) (load_of s absolute entry) parts.0 in
    rw here.1 (ap suc (counted-from s b absolute (before ++ entry ∷ []) entries parts.1))

pub counted-loads_of : (base n : ℕ) (in_place : Bool) (b : BlockView) (item : Item) (loads : List Load)
    → loads_of base in_place n b item ≡ Ok loads → length loads ≡ entry_count item
counted-loads_of base n in_place b item loads is =
    let s = setting_of base in_place n b item in
    let entries = entries_of (block_words b) item in
    let parts = ok_unless-Ok (first_fault (entry_fault s b (is_absolute item)) entries)
    (filter_map (load_of s (is_absolute item)) entries) loads is in
    ap length (sym parts.1) ∙ (counted-from s b (is_absolute item) [] entries parts.0
    ∙ length-entries (block_words b) (item.first + 1) (entry_count item))
