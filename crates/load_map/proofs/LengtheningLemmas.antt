-- A window with more bytes behind it gives and covers the same bytes.
use Rattle.std.proofs.Common.{◌≡◌, ℕ, ◌+◌, ◌-◌, ◌<◌, ◌≤◌, Bool, true, false, List, [], ◌∷◌, ◌++◌, length, drop, arith, refl, ap, ◌∙◌, cond}
use Rattle.std.specs.Prelude.{Option, None, Some, find, reverse, slice_index, slice_range}
use Rattle.std.specs.List.{flat_map}
use Rattle.std.specs.Option.{option_map}
use Rattle.std.proofs.lemmas.Bool.{le-leb, lt-ltb}
use Rattle.std.proofs.lemmas.Bool.Decides.{nat_tests}
use Rattle.std.proofs.lemmas.List.{drop-append-le, get_or_append_left, length-append, length-drop, take-append-le}
use Rattle.std.proofs.lemmas.List.Elements.{All-contains, All-from_recursion}
use Rattle.std.proofs.lemmas.Option.{none-some, same_Some}
use Rattle.block_codec.specs.Blocks.{BlockView}
use Rattle.block_codec.specs.declared.definition.Def.{Def}
use Rattle.load_map.specs.Addresses.{is_sram}
use Rattle.load_map.specs.Covered.{covered, covered_digest, covered_load, covered_piece}
use Rattle.load_map.specs.Given.{byte_at, load_has_address, in_window, loaded_byte, stored_byte, given_word, word_if_given}
use Rattle.load_map.specs.Stored.{AreStoredIn, IsStoredIn}
use Rattle.load_map.specs.declared.addresses.TheConstants.{SRAM_START}
use Rattle.load_map.specs.declared.load.Load.{Load}
use Rattle.load_map.proofs.LastLoadLemmas.{last-in}
use Rattle.load_map.proofs.GivenLaws.{holds-range}

range-longer : (w f : List ℕ) (x size : ℕ) → x + size ≤ length w
    → slice_range (w ++ f) x (x + size) ≡ slice_range w x (x + size)
range-longer w f x size within =
    rw (drop-append-le x w f (omega (arith, within)))
    (take-append-le (x + size - x) (drop x w) f (let long = length-drop x w in omega (arith, within, long)))

piece-longer : (w f : List ℕ) (storage : Option ℕ) (size : ℕ) → IsStoredIn (length w) storage size
    → covered_piece (w ++ f) storage size ≡ covered_piece w storage size
piece-longer w f None size stored = refl
piece-longer w f (Some x) size stored = range-longer w f x size stored

texts-longer : (w f : List ℕ) (loads : List Load) → AreStoredIn (length w) loads
    → flat_map (covered_load (w ++ f)) loads ≡ flat_map (covered_load w) loads
texts-longer w f [] stored = refl
texts-longer w f (load ∷ loads) (here, stored) =
    rw (piece-longer w f load.storage load.size here, texts-longer w f loads stored) refl

pub covered-longer : (w f : List ℕ) (loads : List Load) (b : BlockView) (n k : ℕ) → AreStoredIn (length w) loads
    → covered (w ++ f) loads b n k ≡ covered w loads b n k
covered-longer w f loads b n k stored = rw (texts-longer w f loads stored) refl

pub digest-longer : (w f : List ℕ) (loads : List Load) (b : BlockView) (def : Def) → AreStoredIn (length w) loads
    → covered_digest (w ++ f) b def loads ≡ covered_digest w b def loads
unfolding covered_digest
digest-longer w f loads b def stored = rw (covered-longer w f loads b def.hash_words def.image_word stored) refl

stored-longer : (w f : List ℕ) (storage : Option ℕ) (size k : ℕ) → IsStoredIn (length w) storage size → k < size
    → stored_byte (w ++ f) storage k ≡ stored_byte w storage k
stored-longer w f None size k stored lt = refl
stored-longer w f (Some x) size k stored lt = get_or_append_left w f 0 (x + k) (omega (arith, stored, lt))

-- what an address of the window gives
window-longer : (base : ℕ) (w f : List ℕ) (loads : List Load) (a x : ℕ) → in_window base (length w) a ≡ true
    → slice_index w (a - base) ≡ x → byte_at base (w ++ f) loads a ≡ Some x
window-longer base w f loads a x inside is =
    let from : base ≤ a = grind (arith, nat_tests) in
    let to : a < base + length w = grind (arith, nat_tests) in
    let long = length-append w f in
    let test : in_window base (length (w ++ f)) a ≡ true =
    rw (le-leb base a from, lt-ltb a (base + length (w ++ f)) (omega (arith, to, long))) refl in
    rw test (ap (λ y. Some y) (get_or_append_left w f 0 (a - base) (omega (arith, from, to)) ∙ is))

-- what a load gives
last-longer : (w f : List ℕ) (loads : List Load) (a x : ℕ) → AreStoredIn (length w) loads → (last : Option Load)
    → find (load_has_address a) (reverse loads) ≡ last → option_map (loaded_byte w a) last ≡ Some x
    → option_map (loaded_byte (w ++ f) a) last ≡ Some x
last-longer w f loads a x stored None found is = absurd (none-some x is)
last-longer w f loads a x stored (Some load) found is =
    let held = last-in (load_has_address a) loads load found in
    let range = (holds-range a load).0 held.0 in
    let here = All-contains (λ (l : Load). IsStoredIn (length w) l.storage l.size) loads load
    (All-from_recursion (λ (l : Load). IsStoredIn (length w) l.storage l.size) loads stored) held.1 in
    ap (λ y. Some y) (stored-longer w f load.storage load.size (a - load.runtime) here
    (omega (arith, range.0, range.1)))
    ∙ is

-- what SRAM gives behind a window that ends below it
sram-longer : (base : ℕ) (w f : List ℕ) (loads : List Load) (a x : ℕ) → AreStoredIn (length w) loads
    → base + length (w ++ f) ≤ SRAM_START → (inside : Bool) → is_sram a ≡ inside
    → cond inside (option_map (loaded_byte w a) (find (load_has_address a) (reverse loads))) None ≡ Some x
    → byte_at base (w ++ f) loads a ≡ Some x
sram-longer base w f loads a x stored below false test is = absurd (none-some x is)
sram-longer base w f loads a x stored below true test is =
    let from : SRAM_START ≤ a = grind (arith, nat_tests) in
    let outside : in_window base (length (w ++ f)) a ≡ false = grind (arith, nat_tests) in
    rw (outside, test) (last-longer w f loads a x stored (find (load_has_address a) (reverse loads)) refl is)

pub byte-longer : (base : ℕ) (w f : List ℕ) (loads : List Load) (a x : ℕ) → AreStoredIn (length w) loads
    → base + length (w ++ f) ≤ SRAM_START → byte_at base w loads a ≡ Some x → byte_at base (w ++ f) loads a ≡ Some x
byte-longer base w f loads a x stored below = by_window (in_window base (length w) a) refl
  where
    by_window : (inside : Bool) → in_window base (length w) a ≡ inside
        → cond inside (Some (slice_index w (a - base)))
        (cond (is_sram a) (option_map (loaded_byte w a) (find (load_has_address a) (reverse loads))) None) ≡ Some x
        → byte_at base (w ++ f) loads a ≡ Some x
    by_window true inside is = window-longer base w f loads a x inside (same_Some (slice_index w (a - base)) x is)
    by_window false outside is = sram-longer base w f loads a x stored below (is_sram a) refl is

word-from : (a b c d e g h i : Option ℕ) (x : ℕ) → ((y : ℕ) → a ≡ Some y → e ≡ Some y)
    → ((y : ℕ) → b ≡ Some y → g ≡ Some y)
    → ((y : ℕ) → c ≡ Some y → h ≡ Some y) → ((y : ℕ) → d ≡ Some y → i ≡ Some y)
    → word_if_given a b c d ≡ Some x → word_if_given e g h i ≡ Some x
word-from None b c d e g h i x one two three four is = absurd (none-some x is)
word-from (Some a) None c d e g h i x one two three four is = absurd (none-some x is)
word-from (Some a) (Some b) None d e g h i x one two three four is = absurd (none-some x is)
word-from (Some a) (Some b) (Some c) None e g h i x one two three four is = absurd (none-some x is)
word-from (Some a) (Some b) (Some c) (Some d) e g h i x one two three four is =
    rw (one a refl, two b refl, three c refl, four d refl) is

pub word-longer : (base : ℕ) (w f : List ℕ) (loads : List Load) (a x : ℕ) → AreStoredIn (length w) loads
    → base + length (w ++ f) ≤ SRAM_START → given_word base w loads a ≡ Some x
    → given_word base (w ++ f) loads a ≡ Some x
word-longer base w f loads a x stored below is =
    word-from (byte_at base w loads a) (byte_at base w loads (a + 1)) (byte_at base w loads (a + 2))
    (byte_at base w loads (a + 3)) (byte_at base (w ++ f) loads a) (byte_at base (w ++ f) loads (a + 1))
    (byte_at base (w ++ f) loads (a + 2)) (byte_at base (w ++ f) loads (a + 3)) x
    (λ y at. byte-longer base w f loads a y stored below at)
    (λ y at. byte-longer base w f loads (a + 1) y stored below at)
    (λ y at. byte-longer base w f loads (a + 2) y stored below at)
    (λ y at. byte-longer base w f loads (a + 3) y stored below at) is
