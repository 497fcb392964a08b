-- What the byte and the word at an address are, in words.
use Rattle.std.proofs.Common.{◌≡◌, ◌⊎◌, ℕ, zero, suc, ◌+◌, ◌-◌, ◌<◌, ◌≤◌, Bool, true, false, List, [], ◌∷◌, length, arith, refl, ap, subst, ◌∙◌, cond}
use Rattle.std.specs.Prelude.{◌↔◌, Option, None, Some, find, reverse, slice_get, slice_index}
use Rattle.std.specs.Option.{option_map}
use Rattle.std.proofs.lemmas.Bool.{le-leb, lt-ltb}
use Rattle.std.proofs.lemmas.Bool.Decides.{nat_tests}
use Rattle.block_codec.specs.Words.{word_of}
use Rattle.load_map.specs.Addresses.{is_sram}
use Rattle.load_map.specs.Given.{byte_at, load_has_address, in_window, loaded_byte, stored_byte, given_word, word_if_given}
use Rattle.load_map.specs.declared.addresses.TheConstants.{SRAM_START, SRAM_END}
use Rattle.load_map.specs.declared.load.Load.{Load}
use Rattle.load_map.proofs.LastLoadLemmas.{last-at, none-last}

pub holds-range : (a : ℕ) (load : Load)
    → (load_has_address a load ≡ true) ↔ ((load.runtime ≤ a) × (a < load.runtime + load.size))
holds-range a load = (λ is. (grind (arith, nat_tests), grind (arith, nat_tests)), λ range. held load range.0 range.1)
  where
    held : (l : Load) → l.runtime ≤ a → a < l.runtime + l.size → load_has_address a l ≡ true
    held l from to = rw (le-leb l.runtime a from, lt-ltb a (l.runtime + l.size) to) refl

outside-test : (base n a : ℕ) → (a < base) ⊎ (base + n ≤ a) → in_window base n a ≡ false
outside-test base n a apart = grind (arith, nat_tests, apart)

pub byte-window : (base : ℕ) (w : List ℕ) (loads : List Load) (a : ℕ) → base ≤ a → a < base + length w
    → byte_at base w loads a ≡ Some (slice_index w (a - base))
byte-window base w loads a from to = rw (le-leb base a from, lt-ltb a (base + length w) to) refl

-- a byte that is not the window's
byte-outside : (base : ℕ) (w : List ℕ) (loads : List Load) (a : ℕ) → (a < base) ⊎ (base + length w ≤ a)
    → byte_at base w loads a ≡ cond (is_sram a)
    (option_map (loaded_byte w a) (find (load_has_address a) (reverse loads))) None
byte-outside base w loads a apart = rw (outside-test base (length w) a apart) refl

pub byte-elsewhere : (base : ℕ) (w : List ℕ) (loads : List Load) (a : ℕ) → (a < base) ⊎ (base + length w ≤ a)
    → (a < SRAM_START) ⊎ (SRAM_END ≤ a) → byte_at base w loads a ≡ None
byte-elsewhere base w loads a apart elsewhere =
    let test : is_sram a ≡ false = grind (arith, nat_tests, elsewhere) in
    byte-outside base w loads a apart
    ∙ ap (λ inside. cond inside (option_map (loaded_byte w a) (find (load_has_address a) (reverse loads))) None) test

abbrev no_byte : Option ℕ
no_byte = None

nothing : (test : Bool) → cond test no_byte None ≡ None
nothing true = refl
nothing false = refl

pub byte-not_loaded : (base : ℕ) (w : List ℕ) (loads : List Load) (a : ℕ) → (a < base) ⊎ (base + length w ≤ a)
    → ((i : ℕ) (load : Load) → slice_get loads i ≡ Some load → load_has_address a load ≡ false)
    → byte_at base w loads a ≡ None
byte-not_loaded base w loads a apart fails =
    byte-outside base w loads a apart
    ∙ (ap (λ last. cond (is_sram a) (option_map (loaded_byte w a) last) None)
    (none-last (load_has_address a) loads fails)
    ∙ nothing (is_sram a))

byte-loaded : (base : ℕ) (w : List ℕ) (loads : List Load) (a i : ℕ) (load : Load) → (a < base)
    ⊎ (base + length w ≤ a) → SRAM_START ≤ a → a < SRAM_END → slice_get loads i ≡ Some load → load.runtime ≤ a
    → a < load.runtime + load.size
    → ((j : ℕ) (later : Load) → i < j → slice_get loads j ≡ Some later → load_has_address a later ≡ false)
    → byte_at base w loads a ≡ Some (loaded_byte w a load)
byte-loaded base w loads a i load apart from to here start end later =
    let held = (holds-range a load).1 (start, end) in
    byte-outside base w loads a apart
    ∙ (ap (λ last. cond (is_sram a) (option_map (loaded_byte w a) last) None)
    (last-at (load_has_address a) loads i load here held later)
    ∙ rw (le-leb SRAM_START a from, lt-ltb a SRAM_END to) refl)

pub byte-stored : (base : ℕ) (w : List ℕ) (loads : List Load) (a i x : ℕ) (load : Load) → (a < base)
    ⊎ (base + length w ≤ a) → SRAM_START ≤ a → a < SRAM_END → slice_get loads i ≡ Some load → load.runtime ≤ a
    → a < load.runtime + load.size
    → ((j : ℕ) (later : Load) → i < j → slice_get loads j ≡ Some later → load_has_address a later ≡ false)
    → load.storage ≡ Some x → byte_at base w loads a ≡ Some (slice_index w (x + (a - load.runtime)))
byte-stored base w loads a i x load apart from to here start end later stored =
    byte-loaded base w loads a i load apart from to here start end later
    ∙ ap (λ storage. Some (stored_byte w storage (a - load.runtime))) stored

pub byte-clear : (base : ℕ) (w : List ℕ) (loads : List Load) (a i : ℕ) (load : Load) → (a < base)
    ⊎ (base + length w ≤ a) → SRAM_START ≤ a → a < SRAM_END → slice_get loads i ≡ Some load → load.runtime ≤ a
    → a < load.runtime + load.size
    → ((j : ℕ) (later : Load) → i < j → slice_get loads j ≡ Some later → load_has_address a later ≡ false)
    → load.storage ≡ None
    → byte_at base w loads a ≡ Some 0
byte-clear base w loads a i load apart from to here start end later clear =
    byte-loaded base w loads a i load apart from to here start end later
    ∙ ap (λ storage. Some (stored_byte w storage (a - load.runtime))) clear

pub word-given : (base : ℕ) (w : List ℕ) (loads : List Load) (at a b c d : ℕ) → byte_at base w loads at ≡ Some a
    → byte_at base w loads (at + 1) ≡ Some b → byte_at base w loads (at + 2) ≡ Some c
    → byte_at base w loads (at + 3) ≡ Some d → given_word base w loads at ≡ Some (word_of (a ∷ b ∷ c ∷ d ∷ []))
word-given base w loads at a b c d one two three four = rw (one, two, three, four) refl

none-first : (b c d : Option ℕ) → word_if_given None b c d ≡ None
none-first b c d = refl

none-second : (a c d : Option ℕ) → word_if_given a None c d ≡ None
none-second None c d = refl
none-second (Some a) c d = refl

none-third : (a b d : Option ℕ) → word_if_given a b None d ≡ None
none-third None b d = refl
none-third (Some a) None d = refl
none-third (Some a) (Some b) d = refl

none-fourth : (a b c : Option ℕ) → word_if_given a b c None ≡ None
none-fourth None b c = refl
none-fourth (Some a) None c = refl
none-fourth (Some a) (Some b) None = refl
none-fourth (Some a) (Some b) (Some c) = refl

pub word-none : (base : ℕ) (w : List ℕ) (loads : List Load) (at k : ℕ) → k < 4 → byte_at base w loads (at + k) ≡ None
    → given_word base w loads at ≡ None
word-none base w loads at zero lt none =
    let zeroth : at + 0 ≡ at = omega arith in
    let here = subst (λ a. byte_at base w loads a ≡ None) zeroth none in
    rw here refl
word-none base w loads at (suc zero) lt none =
    rw none (none-second (byte_at base w loads at) (byte_at base w loads (at + 2)) (byte_at base w loads (at + 3)))
word-none base w loads at (suc (suc zero)) lt none =
    rw none (none-third (byte_at base w loads at) (byte_at base w loads (at + 1)) (byte_at base w loads (at + 3)))
word-none base w loads at (suc (suc (suc zero))) lt none =
    rw none (none-fourth (byte_at base w loads at) (byte_at base w loads (at + 1)) (byte_at base w loads (at + 2)))
word-none base w loads at (suc (suc (suc (suc k)))) lt none = absurd (omega (arith, lt))
