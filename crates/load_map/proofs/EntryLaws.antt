-- What the loads of entries and their faults are, in words.
use Rattle.std.proofs.Common.{◌≡◌, ◌≢◌, ◌⊎◌, ℕ, ◌+◌, ◌-◌, ◌<◌, ◌≤◌, Bool, true, false, List, length, arith, refl, sym, ap, ◌∙◌, inl, inr, cond}
use Rattle.std.specs.Prelude.{pos, negsuc, ◌+ℤ◌, ◌&&◌, ◌||◌, not, min, max, nat_le, Option, None, Some, Ok, Err, filter_map}
use Rattle.std.specs.Int.{cast_signed, w32}
use Rattle.std.proofs.lemmas.Bool.{false_from_ne_true, ne_eqb, le-leb, lt-ltb}
use Rattle.std.proofs.lemmas.Bool.Decides.{nat_tests}
use Rattle.std.proofs.lemmas.Option.{none-some, same_Some}
use Rattle.block_codec.specs.Blocks.{BlockView, block_size}
use Rattle.block_codec.specs.FirstFault.{first_fault, ok_unless, IsFirst, AreSound}
use Rattle.block_codec.proofs.FirstFaultLemmas.{first_from_fault, fault_from_first, none_from_sound_at, sound_from_none}
use Rattle.load_map.specs.Addresses.{in_sram}
use Rattle.load_map.specs.Reading.{load_of, is_used_in_place, is_runtime_right, covers_block, load_fault, entry_fault, loads_or_fault}
use Rattle.load_map.specs.Faults.{IsUsedInPlace, IsLoadedToSram, IsShared}
use Rattle.load_map.specs.declared.entry.Entry.{Entry}
use Rattle.load_map.specs.declared.load.Load.{Load}
use Rattle.load_map.specs.declared.load.MapFault.{MapFault}
use Rattle.load_map.specs.declared.load.MapFault.TheVariants.{Storage, Runtime, CoversBlock}
use Rattle.load_map.specs.declared.setting.Setting.{Setting}
use Rattle.load_map.specs.declared.addresses.TheConstants.{SRAM_START, SRAM_END}
use Rattle.load_map.specs.Stored.{IsClearOf}
use Rattle.load_map.proofs.SoundLoadLemmas.{clear-of, ok_unless-Ok}

ok_unless-Err : {A : Type 0} (fault : Option MapFault) (value : A) (given : MapFault)
    → ok_unless fault value ≡ Err given → fault ≡ Some given
ok_unless-Err None value given is = cc
ok_unless-Err (Some fault) value given is = cc

abbrev load_with : Option ℕ → ℕ → ℕ → Load
load_with storage runtime size = record { storage = storage; runtime = runtime; size = size }

pub load-clear : (s : Setting) (absolute : Bool) (entry : Entry) → entry.place ≡ 0
    → load_of s absolute entry ≡ Some (load_with None entry.runtime entry.extent)
load-clear s absolute entry clear = rw clear refl

pub load-relative : (s : Setting) (entry : Entry) (x : ℕ) → entry.place ≢ 0
    → pos s.item_at +ℤ cast_signed w32 entry.place ≡ pos x → x + entry.extent ≤ s.len
    → load_of s false entry ≡ Some (load_with (Some x) entry.runtime entry.extent)
load-relative s entry x stored start inside = rw
    (ne_eqb entry.place 0 stored, start, le-leb (x + entry.extent) s.len inside) refl

pub none-past : (s : Setting) (entry : Entry) (x : ℕ) → entry.place ≢ 0
    → pos s.item_at +ℤ cast_signed w32 entry.place ≡ pos x → s.len < x + entry.extent → load_of s false entry ≡ None
none-past s entry x stored start past =
    let test : nat_le (x + entry.extent) s.len ≡ false = grind (arith, nat_tests) in
    rw (ne_eqb entry.place 0 stored, start, test) refl

pub none-before : (s : Setting) (entry : Entry) (x : ℕ) → entry.place ≢ 0
    → pos s.item_at +ℤ cast_signed w32 entry.place ≡ negsuc x → load_of s false entry ≡ None
none-before s entry x stored start = rw (ne_eqb entry.place 0 stored, start) refl

pub load-absolute : (s : Setting) (entry : Entry) → entry.place ≢ 0 → s.base ≤ entry.place
    → entry.place ≤ entry.extent → entry.extent ≤ s.base + s.len
    → load_of s true entry ≡ Some (load_with (Some (entry.place - s.base)) entry.runtime (entry.extent - entry.place))
load-absolute s entry stored above forward inside =
    rw (
      ne_eqb entry.place 0 stored,
      le-leb s.base entry.place above,
      le-leb entry.place entry.extent forward,
      le-leb
          entry.extent (s.base + s.len) inside,
    ) refl

pub none-absolute : (s : Setting) (entry : Entry) → entry.place ≢ 0 → (entry.place < s.base)
    ⊎ (entry.extent < entry.place) ⊎ (s.base + s.len < entry.extent) → load_of s true entry ≡ None
none-absolute s entry stored wrong =
    let test : (nat_le s.base entry.place && nat_le entry.place entry.extent && nat_le entry.extent (s.base + s.len))
    ≡ false = grind (arith, nat_tests, wrong) in
    rw (ne_eqb entry.place 0 stored, test) refl

used : (base : ℕ) (storage : Option ℕ) (runtime : ℕ) → is_used_in_place base storage runtime ≡ true
    → IsUsedInPlace base storage runtime
used base None runtime is = cc
used base (Some x) runtime is = (x, refl, grind (arith, nat_tests))

using : (base : ℕ) (storage : Option ℕ) (runtime : ℕ) → IsUsedInPlace base storage runtime
    → is_used_in_place base storage runtime ≡ true
using base None runtime (x, here, at) = absurd (none-some x here)
using base (Some y) runtime (x, here, at) =
    let same = same_Some y x here in
    let sum : runtime ≡ base + y = omega (arith, at, same) in
    grind (arith, nat_tests)

in-sram : (address size : ℕ) → in_sram address size ≡ true → (SRAM_START ≤ address) × (address + size ≤ SRAM_END)
in-sram address size is = grind (arith, nat_tests)

or-parts : (x y : Bool) → (x || y) ≡ true → (x ≡ true) ⊎ (y ≡ true)
or-parts true y is = inl refl
or-parts false y is = inr is

and-not : (x y : Bool) → (not x && y) ≡ true → (x ≡ false) × (y ≡ true)
and-not false y is = (refl, is)
and-not true y is = cc

-- where a runtime address is right
pub runtime-right : (s : Setting) (load : Load) → is_runtime_right s load ≡ true →
    IsUsedInPlace s.base load.storage load.runtime ⊎ IsLoadedToSram s.in_place load
runtime-right s load is =
    elim (or-parts (is_used_in_place s.base load.storage load.runtime)
    (not s.in_place && in_sram load.runtime load.size) is) [
      | inl here ↦ inl (used s.base load.storage load.runtime here)
      | inr loaded ↦
          let parts = and-not s.in_place (in_sram load.runtime load.size) loaded in
          let range = in-sram load.runtime load.size parts.1 in
          inr (parts.0, range.0, range.1)
    ]

or-left : (x y : Bool) → x ≡ true → (x || y) ≡ true
or-left true y is = refl
or-left false y is = cc

or-right : (x y : Bool) → y ≡ true → (x || y) ≡ true
or-right true y is = refl
or-right false y is = is

pub right-in-place : (s : Setting) (load : Load) → IsUsedInPlace s.base load.storage load.runtime
    → is_runtime_right s load ≡ true
right-in-place s load here = or-left (is_used_in_place s.base load.storage load.runtime)
    (not s.in_place && in_sram load.runtime load.size) (using s.base load.storage load.runtime here)

pub right-in-sram : (s : Setting) (load : Load) → s.in_place ≡ false → SRAM_START ≤ load.runtime
    → load.runtime + load.size ≤ SRAM_END → is_runtime_right s load ≡ true
right-in-sram s load allowed from to =
    or-right (is_used_in_place s.base load.storage load.runtime) (not s.in_place && in_sram load.runtime load.size)
    (rw (allowed, le-leb SRAM_START load.runtime from, le-leb (load.runtime + load.size) SRAM_END to) refl)

pub right-loaded : (s : Setting) (load : Load) → IsUsedInPlace s.base load.storage load.runtime
    ⊎ IsLoadedToSram s.in_place load → is_runtime_right s load ≡ true
right-loaded s load (inl here) = right-in-place s load here
right-loaded s load (inr (allowed, from, to)) = right-in-sram s load allowed from to

-- a storage that covers the block has a byte in common with it
pub shared-byte : (b : BlockView) (x size : ℕ) → covers_block b (Some x) size ≡ true → (k : ℕ) × IsShared b x size k
shared-byte b x size covers =
    let less : max x b.at < min (x + size) (b.at + block_size b) = grind (arith, nat_tests) in
    (max x b.at, (omega arith, omega (arith, less), omega arith, omega (arith, less)))

pub covering-byte : (b : BlockView) (x size k : ℕ) → IsShared b x size k → covers_block b (Some x) size ≡ true
covering-byte b x size k (from, to, after, before) =
    lt-ltb (max x b.at) (min (x + size) (b.at + block_size b)) (omega (arith, from, to, after, before))

-- a storage without a byte in common with the block is clear of it
pub apart-clear : (b : BlockView) (x size : ℕ) → ((k : ℕ) → IsShared b x size k → ⊥) → IsClearOf b (Some x) size
apart-clear b x size apart = clear-of b (Some x) size (false_from_ne_true (covers_block b (Some x) size)
    (λ covers. let shared = shared-byte b x size covers in apart shared.0 shared.1))

pub clear-apart : (b : BlockView) (x size : ℕ) → IsClearOf b (Some x) size → (k : ℕ) → IsShared b x size k → ⊥
clear-apart b x size (inl empty) k (from, to, after, before) = omega (arith, empty, from, to)
clear-apart b x size (inr (inl ahead)) k (from, to, after, before) = omega (arith, ahead, to, after)
clear-apart b x size (inr (inr behind)) k (from, to, after, before) = omega (arith, behind, from, before)

-- the faults of one entry, in their order
pub fault-storage : (s : Setting) (b : BlockView) (absolute : Bool) (before : List Entry) (entry : Entry)
    → load_of s absolute entry ≡ None → entry_fault s b absolute before entry ≡ Some (Storage (length before))
fault-storage s b absolute before entry none = ap (λ given. load_fault s b (length before) given) none

pub fault-runtime : (s : Setting) (b : BlockView) (absolute : Bool) (before : List Entry) (entry : Entry)
    (load : Load) → load_of s absolute entry ≡ Some load → is_runtime_right s load ≡ false
    → entry_fault s b absolute before entry ≡ Some (Runtime (length before))
fault-runtime s b absolute before entry load is wrong =
    ap (λ given. load_fault s b (length before) given) is
    ∙ ap (λ right. cond (not right) (Some (Runtime (length before)))
    (cond (covers_block b load.storage load.size) (Some (CoversBlock (length before))) None)) wrong

pub fault-covers : (s : Setting) (b : BlockView) (absolute : Bool) (before : List Entry) (entry : Entry) (load : Load)
    (covers : Bool) → load_of s absolute entry ≡ Some load → is_runtime_right s load ≡ true
    → covers_block b load.storage load.size ≡ covers
    → entry_fault s b absolute before entry ≡ cond covers (Some (CoversBlock (length before))) None
fault-covers s b absolute before entry load covers is right covering =
    ap (λ given. load_fault s b (length before) given) is
    ∙ (ap (λ test. cond (not test) (Some (Runtime (length before)))
    (cond (covers_block b load.storage load.size) (Some (CoversBlock (length before))) None)) right
    ∙ ap (λ test. cond test (Some (CoversBlock (length before))) None) covering)

module _ (s : Setting) (b : BlockView) (absolute : Bool) (entries : List Entry) where
  -- a map has a fault exactly where it is the first
  pub fault-first : (fault : MapFault) → loads_or_fault s b absolute entries ≡ Err fault
      → (i : ℕ) × IsFirst (entry_fault s b absolute) entries i fault
  fault-first fault is = first_from_fault (entry_fault s b absolute) entries fault
      (ok_unless-Err (first_fault (entry_fault s b absolute) entries) _ fault is)

  pub first-fault : (i : ℕ) (fault : MapFault) → IsFirst (entry_fault s b absolute) entries i fault
      → loads_or_fault s b absolute entries ≡ Err fault
  first-fault i fault first = rw (fault_from_first (entry_fault s b absolute) entries i fault first) refl

  -- a map without a fault has the loads of its entries
  pub loads-sound : (loads : List Load) → loads_or_fault s b absolute entries ≡ Ok loads
      → AreSound (entry_fault s b absolute) entries (length entries) ×
      (loads ≡ filter_map (load_of s absolute) entries)
  loads-sound loads is =
      let parts = ok_unless-Ok (first_fault (entry_fault s b absolute) entries)
      (filter_map (load_of s absolute) entries) loads is in
      (sound_from_none (entry_fault s b absolute) entries parts.0, sym parts.1)

  pub sound-loads-of : AreSound (entry_fault s b absolute) entries (length entries)
      → loads_or_fault s b absolute entries ≡ Ok (filter_map (load_of s absolute) entries)
  sound-loads-of sound = rw (none_from_sound_at (entry_fault s b absolute) entries (length entries) (omega arith)
      sound) refl
