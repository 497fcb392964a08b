-- A load map without a fault in a window has the same loads in a longer one.
use Rattle.std.proofs.Common.{◌≡◌, ℕ, ◌+◌, ◌-◌, ◌≤◌, Bool, true, false, List, [], ◌∷◌, ◌++◌, length, cond, arith, refl, sym, ◌∙◌, inl, inr}
use Rattle.std.specs.Prelude.{ℤ, pos, negsuc, ◌+ℤ◌, ◌&&◌, ◌==◌, ◌⊎◌, nat_le, Option, None, Some, Ok, filter_map}
use Rattle.std.specs.Option.{option_map}
use Rattle.std.specs.Int.{cast_signed, w32}
use Rattle.std.proofs.lemmas.Grind.{common_steps}
use Rattle.std.proofs.lemmas.Bool.Decides.{nat_tests}
use Rattle.std.proofs.lemmas.Option.{none-some}
use Rattle.block_codec.specs.Blocks.{BlockView, block_words}
use Rattle.block_codec.specs.declared.items.Item.{Item}
use Rattle.block_codec.specs.FirstFault.{first_from, first_fault}
use Rattle.load_map.specs.declared.entry.Entry.{Entry}
use Rattle.load_map.specs.Loads.{entries_of, is_absolute}
use Rattle.load_map.specs.declared.setting.Setting.{Setting}
use Rattle.load_map.specs.Reading.{offset_within, stored_at, relative_load, absolute_load, clear_load, load_of, entry_fault, loads_or_fault, loads_of, setting_of}
use Rattle.load_map.specs.declared.load.Load.{Load}
use Rattle.load_map.proofs.SoundLoadLemmas.{chosen, no-fault, no-first, ok_unless-Ok, none_load}

-- the setting of a load map in a window of m bytes
abbrev pub longer : Setting → ℕ → Setting
longer s m = record { base = s.base; in_place = s.in_place; len = m; item_at = s.item_at }

offset-longer : (n m : ℕ) (z : ℤ) (size x : ℕ) → n ≤ m → offset_within n z size ≡ Some x
    → offset_within m z size ≡ Some x
offset-longer n m (pos y) size x more is = grind (arith, common_steps)
offset-longer n m (negsuc y) size x more is = cc

parts-longer : (base place extent n m : ℕ) → n ≤ m
    → (nat_le base place && nat_le place extent && nat_le extent (base + n)) ≡ true
    → (nat_le base place && nat_le place extent && nat_le extent (base + m)) ≡ true
parts-longer base place extent n m more test = grind (arith, nat_tests)

relative-longer : (entry : Entry) (place wider : Option ℕ) (load : Load)
    → ((x : ℕ) → place ≡ Some x → wider ≡ Some x) → option_map (stored_at entry entry.extent) place ≡ Some load
    → option_map (stored_at entry entry.extent) wider ≡ Some load
relative-longer entry None wider load same is = absurd (none-some load is)
relative-longer entry (Some x) wider load same is = rw (same x refl) is

absolute-longer : (s : Setting) (m : ℕ) (entry : Entry) (load : Load) → s.len ≤ m → absolute_load s entry ≡ Some load
    → absolute_load (longer s m) entry ≡ Some load
absolute-longer s m entry load more is =
    by_test (chosen (nat_le s.base entry.place && nat_le entry.place entry.extent && nat_le entry.extent
    (s.base + s.len)) _ None (Some load) is)
  where
    by_test : (((nat_le s.base entry.place && nat_le entry.place entry.extent && nat_le entry.extent (s.base + s.len))
        ≡ true) × (Some (stored_at entry (entry.extent - entry.place) (entry.place - s.base)) ≡ Some load))
        ⊎ (((nat_le s.base entry.place && nat_le entry.place entry.extent && nat_le entry.extent (s.base + s.len)) ≡
        false) × (none_load ≡ Some load))
        → absolute_load (longer s m) entry ≡ Some load
    by_test (inl right) = rw (parts-longer s.base entry.place entry.extent s.len m more right.0) right.1
    by_test (inr wrong) = absurd (none-some load wrong.1)

load-longer : (s : Setting) (m : ℕ) (absolute : Bool) (entry : Entry) (load : Load) → s.len ≤ m
    → load_of s absolute entry ≡ Some load → load_of (longer s m) absolute entry ≡ Some load
load-longer s m absolute entry load more is = by_clear
    (chosen (entry.place == 0) (Some (clear_load entry)) _ (Some load) is)
  where
    by_form : (form : Bool) → cond form (absolute_load s entry) (relative_load s entry) ≡ Some load
        → cond form (absolute_load (longer s m) entry) (relative_load (longer s m) entry) ≡ Some load
    by_form true stored = absolute-longer s m entry load more stored
    by_form false stored =
        relative-longer entry (offset_within s.len (pos s.item_at +ℤ cast_signed w32 entry.place) entry.extent)
        (offset_within m (pos s.item_at +ℤ cast_signed w32 entry.place) entry.extent) load
        (λ x at. offset-longer s.len m (pos s.item_at +ℤ cast_signed w32 entry.place) entry.extent x more at) stored

    by_clear : (((entry.place == 0) ≡ true) × (Some (clear_load entry) ≡ Some load))
        ⊎ (((entry.place == 0) ≡ false) × (cond absolute (absolute_load s entry) (relative_load s entry) ≡ Some load))
        → load_of (longer s m) absolute entry ≡ Some load
    by_clear (inl clear) = rw clear.0 clear.1
    by_clear (inr stored) = rw stored.0 (by_form absolute stored.1)

-- an entry without a fault has none in a longer window, and the same load
same-fault : (s : Setting) (m : ℕ) (b : BlockView) (absolute : Bool) (before : List Entry) (entry : Entry)
    → s.len ≤ m → entry_fault s b absolute before entry ≡ None
    → (entry_fault (longer s m) b absolute before entry ≡ None) ×
    (load_of (longer s m) absolute entry ≡ load_of s absolute entry)
same-fault s m b absolute before entry more none =
    let here = no-fault s b (length before) (load_of s absolute entry) none in
    let wide = load-longer s m absolute entry here.0 more here.1 in
    (rw wide (rw here.1 at none), wide ∙ sym here.1)

from-longer : (s : Setting) (m : ℕ) (b : BlockView) (absolute : Bool) → s.len ≤ m → (entries before : List Entry)
    → first_from (entry_fault s b absolute) before entries ≡ None
    → (first_from (entry_fault (longer s m) b absolute) before entries ≡ None) ×
    (filter_map (load_of (longer s m) absolute) entries ≡ filter_map (load_of s absolute) entries)
from-longer s m b absolute more [] before none = (refl, refl)
from-longer s m b absolute more (entry ∷ entries) before none =
    let parts = no-first (entry_fault s b absolute before entry)
    (first_from (entry_fault s b absolute) (before ++ entry ∷ []) entries) none in
    let here = same-fault s m b absolute before entry more parts.0 in
    let rest = from-longer s m b absolute more entries (before ++ entry ∷ []) parts.1 in
    (rw here.0 rest.0, rw (here.1, rest.1) refl)

pub loads-longer : (s : Setting) (m : ℕ) (b : BlockView) (absolute : Bool) (entries : List Entry) (loads : List Load)
    → s.len ≤ m → loads_or_fault s b absolute entries ≡ Ok loads
    → loads_or_fault (longer s m) b absolute entries ≡ Ok loads
loads-longer s m b absolute entries loads more is =
    let parts = ok_unless-Ok (first_fault (entry_fault s b absolute) entries)
    (filter_map (load_of s absolute) entries) loads is in
    let wide = from-longer s m b absolute more entries [] parts.0 in
    rw (wide.0, wide.1) (rw parts.1 refl)

pub loads_of-longer : (base n m : ℕ) (in_place : Bool) (b : BlockView) (item : Item) (loads : List Load) → n ≤ m
    → loads_of base in_place n b item ≡ Ok loads → loads_of base in_place m b item ≡ Ok loads
loads_of-longer base n m in_place b item loads more is =
    loads-longer (setting_of base in_place n b item) m b (is_absolute item) (entries_of (block_words b) item) loads
    more is
