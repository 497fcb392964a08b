-- The bytes that loads give, and the covered bytes, depend on the stored bytes and on those of the window's own places
-- alone.
use Rattle.std.proofs.Common.{◌≡◌, zero, suc, ◌⊎◌, sym, subst, ◌∙◌, inl, inr, ◌≤◌, ℕ, ◌+◌, ◌-◌, ◌<◌, Bool, true, false, List, [], ◌∷◌, length, arith, refl, ap, cond}
use Rattle.std.specs.Prelude.{Contains, ◌≢◌, slice_set, Option, None, Some, find, reverse, slice_index}
use Rattle.std.specs.List.{flat_map}
use Rattle.std.specs.Option.{option_map}
use Rattle.std.proofs.lemmas.Bool.Decides.{nat_tests}
use Rattle.std.proofs.lemmas.List.{length-set, get_or-set_other}
use Rattle.std.proofs.lemmas.Option.{none-some, same_Some}
use Rattle.pico_board.proofs.ConfinementLemmas.{slice_range_ext}
use Rattle.block_codec.specs.Blocks.{BlockView}
use Rattle.block_codec.specs.declared.definition.Def.{Def}
use Rattle.load_map.specs.Addresses.{is_sram}
use Rattle.load_map.specs.Agree.{AgreeOn, IsStoredAt, SameButTrial}
use Rattle.load_map.specs.Covered.{covered, covered_digest, covered_load, covered_piece}
use Rattle.load_map.specs.Given.{byte_at, load_has_address, in_window, loaded_byte, stored_byte, given_word}
use Rattle.load_map.specs.declared.load.Load.{Load}
use Rattle.load_map.proofs.LastLoadLemmas.{Contains-later, last-in}

pub AgreeOn-refl : (loads : List Load) (w : List ℕ) → AgreeOn loads w w
AgreeOn-refl loads w = record { long = refl; same = λ load i within stored. refl }

Agree-rest : (load : Load) (loads : List Load) (w v : List ℕ) → AgreeOn (load ∷ loads) w v → AgreeOn loads w v
Agree-rest load loads w v agree = record {
  long = agree.long;
  same = λ other i within stored. agree.same other i (Contains-later load other loads within) stored;
}

same-piece : (w v : List ℕ) (storage : Option ℕ) (size : ℕ) → length v ≡ length w
    → ((i start : ℕ) → storage ≡ Some start → start ≤ i → i < start + size → slice_index v i ≡ slice_index w i)
    → covered_piece v storage size ≡ covered_piece w storage size
same-piece w v None size long same = refl
same-piece w v (Some x) size long same = slice_range_ext v w x (x + size) long (λ i from to. same i x refl from to)

pub same-loads : (w v : List ℕ) (loads : List Load) → AgreeOn loads w v
    → flat_map (covered_load v) loads ≡ flat_map (covered_load w) loads
same-loads w v [] agree = refl
same-loads w v (load ∷ loads) agree =
    let here = same-piece w v load.storage load.size agree.long
    (λ i start is from to. agree.same load i (0, omega arith, refl) (start, is, from, to)) in
    let rest = same-loads w v loads (Agree-rest load loads w v agree) in
    rw (here, rest) refl

pub same-covered : (w v : List ℕ) (loads : List Load) (b c : BlockView) (hash_words image_word : ℕ)
    → AgreeOn loads w v → SameButTrial image_word b c
    → covered v loads c hash_words image_word ≡ covered w loads b hash_words image_word
same-covered w v loads b c hash_words image_word agree same = rw (same-loads w v loads agree, same.words) refl

pub same-digest : (w v : List ℕ) (loads : List Load) (b c : BlockView) (def other : Def) → AgreeOn loads w v
    → SameButTrial def.image_word b c → other.hash_words ≡ def.hash_words → other.image_word ≡ def.image_word
    → covered_digest v c other loads ≡ covered_digest w b def loads
unfolding covered_digest
same-digest w v loads b c def other agree same count place =
    rw (count, place, same-covered w v loads b c def.hash_words def.image_word agree same) refl

same-loaded : (w v : List ℕ) (storage : Option ℕ) (size k : ℕ) → k < size
    → ((i start : ℕ) → storage ≡ Some start → start ≤ i → i < start + size → slice_index v i ≡ slice_index w i)
    → stored_byte v storage k ≡ stored_byte w storage k
same-loaded w v None size k lt same = refl
same-loaded w v (Some x) size k lt same = same (x + k) x refl (omega arith) (omega (arith, lt))

held-within : (address : ℕ) (load : Load) → load_has_address address load ≡ true → address - load.runtime < load.size
held-within address load held = grind (arith, nat_tests)

same-last : (w v : List ℕ) (loads : List Load) (address : ℕ) → AgreeOn loads w v → (last : Option Load)
    → find (load_has_address address) (reverse loads) ≡ last
    → option_map (loaded_byte v address) last ≡ option_map (loaded_byte w address) last
same-last w v loads address agree None is = refl
same-last w v loads address agree (Some load) is =
    let found = last-in (load_has_address address) loads load is in
    ap (λ byte. Some byte)
    (same-loaded w v load.storage load.size (address - load.runtime) (held-within address load found.0)
    (λ i start at from to. agree.same load i found.1 (start, at, from, to)))

-- the byte at an address
pub same-byte : (base : ℕ) (w v : List ℕ) (loads : List Load) (address : ℕ) → AgreeOn loads w v
    → (in_window base (length w) address ≡ true → slice_index v (address - base) ≡ slice_index w (address - base))
    → byte_at base v loads address ≡ byte_at base w loads address
same-byte base w v loads address agree here = rw agree.long (by_window (in_window base (length w) address) refl)
  where
    by_window : (inside : Bool) → in_window base (length w) address ≡ inside →
        cond inside (Some (slice_index v (address - base)))
        (cond (is_sram address) (option_map (loaded_byte v address)
        (find (load_has_address address) (reverse loads))) None)
        ≡ cond inside (Some (slice_index w (address - base)))
        (cond (is_sram address) (option_map (loaded_byte w address)
        (find (load_has_address address) (reverse loads))) None)
    by_window true inside = ap (λ byte. Some byte) (here inside)
    by_window false outside = rw (same-last w v loads address agree
        (find (load_has_address address) (reverse loads)) refl) refl

-- the word at an address
pub same-word : (base : ℕ) (w v : List ℕ) (loads : List Load) (address : ℕ) → AgreeOn loads w v
    → ((k : ℕ) → k < 4 → in_window base (length w) (address + k) ≡ true
    → slice_index v (address + k - base) ≡ slice_index w (address + k - base))
    → given_word base v loads address ≡ given_word base w loads address
same-word base w v loads address agree here =
    let zeroth : address + 0 ≡ address = omega arith in
    let at = subst (λ a. in_window base (length w) a ≡ true
    → slice_index v (a - base) ≡ slice_index w (a - base)) zeroth (here 0 (omega arith)) in
    let one = same-byte base w v loads address agree at in
    let two = same-byte base w v loads (address + 1) agree (here 1 (omega arith)) in
    let three = same-byte base w v loads (address + 2) agree (here 2 (omega arith)) in
    let four = same-byte base w v loads (address + 3) agree (here 3 (omega arith)) in
    rw (one, two, three, four) refl

-- a byte where the load is not stored may differ
set-apart : (w : List ℕ) (load : Load) (i x : ℕ) → ((k : ℕ) → IsStoredAt load k → k ≢ i)
    → AgreeOn (load ∷ []) w (slice_set w i x)
set-apart w load i x apart = record {
  long = length-set w i x;
  same = λ other k within stored. get_or-set_other w i k x 0
      (apart k (subst (λ l. IsStoredAt l k) (sym (single other within)) stored));
}
  where
    single : (other : Load) → Contains (load ∷ []) other → load ≡ other
    single other (zero, lt, is) = is
    single other (suc k, lt, is) = absurd (omega (arith, lt))

pub AgreeOn-set : (w : List ℕ) (load : Load) (start i x : ℕ) → load.storage ≡ Some start → (i < start)
    ⊎ (start + load.size ≤ i) → AgreeOn (load ∷ []) w (slice_set w i x)
AgreeOn-set w load start i x is apart = set-apart w load i x (λ k stored same. elsewhere k stored same apart)
  where
    elsewhere : (k : ℕ) → IsStoredAt load k → k ≡ i → (i < start) ⊎ (start + load.size ≤ i) → ⊥
    elsewhere k (first, at, from, to) same (inl before) =
        let begins : first ≡ start = same_Some first start (sym at ∙ is) in omega (arith, begins, from, same, before)
    elsewhere k (first, at, from, to) same (inr behind) =
        let begins : first ≡ start = same_Some first start (sym at ∙ is) in omega (arith, begins, to, same, behind)

pub AgreeOn-clear : (w : List ℕ) (load : Load) (i x : ℕ) → load.storage ≡ None
    → AgreeOn (load ∷ []) w (slice_set w i x)
AgreeOn-clear w load i x clear = set-apart w load i x (λ k stored same. none-some stored.0 (sym clear ∙ stored.1))
