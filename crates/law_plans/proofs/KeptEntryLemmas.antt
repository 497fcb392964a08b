-- The entry of an image in a window whose bytes past the image's end are others.
use Rattle.std.proofs.Common.{◌≡◌, ℕ, ◌+◌, ◌-◌, ◌*◌, ◌<◌, ◌≤◌, Bool, true, false, List, [], ◌∷◌, length, Option, Some, None, cond, refl, sym, ap, ◌∙◌, subst, inl, inr, arith}
use Rattle.std.specs.Prelude.{find, reverse, slice_index}
use Rattle.std.specs.Option.{option_map}
use Rattle.std.proofs.lemmas.Bool.{cases_lt}
use Rattle.std.proofs.lemmas.Bool.Decides.{nat_tests}
use Rattle.std.proofs.lemmas.List.Elements.{All-contains, All-from_recursion}
use Rattle.std.proofs.lemmas.Option.{none-some, same_Some}
use Rattle.pico_board.specs.declared.window.TheConstants.{MOST_FLASH_BYTES}
use Rattle.pico_board.specs.declared.boot.Cpu.{Cpu}
use Rattle.pico_board.specs.declared.boot.Cpu.TheVariants.{Arm, Riscv}
use Rattle.pico_board.specs.Content.{flash_base}
use Rattle.block_codec.specs.declared.definition.Def.{Def}
use Rattle.block_codec.specs.declared.definition.EntryPoint.{EntryPoint}
use Rattle.block_codec.specs.Blocks.{BlockView}
use Rattle.block_codec.specs.Erased.{IsErasedFrom}
use Rattle.block_codec.specs.Words.{word_of}
use Rattle.load_map.specs.declared.load.Load.{Load}
use Rattle.load_map.specs.Addresses.{is_sram}
use Rattle.load_map.specs.Agree.{AgreeOn}
use Rattle.load_map.specs.Given.{byte_at, load_has_address, in_window, loaded_byte, given_word, word_if_given}
use Rattle.load_map.specs.Stored.{AreStoredIn, IsStoredIn}
use Rattle.load_map.proofs.AgreementLemmas.{same-word}
use Rattle.image_check.specs.declared.entry.Source.{Source}
use Rattle.image_check.specs.Entering.{IsEntry, IsRunnable, IsSource, table_address}

-- the last byte of a word is given, and the word is no less than it says
top-byte : (a b c d : Option ℕ) (x : ℕ) → word_if_given a b c d ≡ Some x
    → (y : ℕ) × (d ≡ Some y) × (y * 16777216 ≤ x)
unfolding word_of
top-byte None b c d x is = absurd (none-some x is)
top-byte (Some a) None c d x is = absurd (none-some x is)
top-byte (Some a) (Some b) None d x is = absurd (none-some x is)
top-byte (Some a) (Some b) (Some c) None x is = absurd (none-some x is)
top-byte (Some a) (Some b) (Some c) (Some d) x is =
    let same = same_Some (word_of (a ∷ b ∷ c ∷ d ∷ [])) x is in (d, refl, omega (arith, same))

within : (n : ℕ) (storage : Option ℕ) (size start i : ℕ) → IsStoredIn n storage size → storage ≡ Some start
    → i < start + size → i < n
within n None size start i stored is lt = absurd (none-some start is)
within n (Some x) size start i stored is lt = let e = same_Some x start is in omega (arith, stored, e, lt)

-- windows that are the same up to an end agree on loads that are stored before it
pub agree : (one two : List ℕ) (n : ℕ) (loads : List Load) → length two ≡ length one
    → ((i : ℕ) → i < n → slice_index two i ≡ slice_index one i) → AreStoredIn n loads → AgreeOn loads one two
agree one two n loads long same stored = record {
  long = long;
  same = λ load i has at.
      same i (within n load.storage load.size at.0 i
      (All-contains (λ (l : Load). IsStoredIn n l.storage l.size) loads load
      (All-from_recursion (λ (l : Load). IsStoredIn n l.storage l.size) loads stored) has) at.1 at.3);
}

module _ (one two : List ℕ) (n : ℕ) (long : length two ≡ length one) (few : length one ≤ MOST_FLASH_BYTES)
    (erased : IsErasedFrom one n (length one)) (same : (i : ℕ) → i < n → slice_index two i ≡ slice_index one i)
    (loads : List Load) (stored : AreStoredIn n loads) where
  -- a byte at an address of the erased part, or behind it up to eight bytes, is 0xff or is not given
  high-byte : (a y : ℕ) → n ≤ a - flash_base → flash_base ≤ a → a < flash_base + 16777224
      → byte_at flash_base one loads a ≡ Some y → y ≡ 255
  high-byte a y past low high = by_window (in_window flash_base (length one) a) refl
    where
      by_window : (inside : Bool) → in_window flash_base (length one) a ≡ inside
          → cond inside (Some (slice_index one (a - flash_base)))
          (cond (is_sram a) (option_map (loaded_byte one a) (find (load_has_address a) (reverse loads))) None) ≡ Some y
          → y ≡ 255
      by_window true inside is =
          let to : a < flash_base + length one = grind (arith, nat_tests) in
          sym (same_Some (slice_index one (a - flash_base)) y is)
          ∙ erased (a - flash_base) past (omega (arith, low, to))
      by_window false inside is =
          let no_sram : is_sram a ≡ false = grind (arith, nat_tests) in
          absurd (none-some y
          (ap (λ t. cond t (option_map (loaded_byte one a) (find (load_has_address a) (reverse loads))) None)
          (sym no_sram)
          ∙ is))

  -- the eight bytes of a vector table whose second word is no address of the erased part stand
  -- before it
  low-table : (table pc : ℕ) → given_word flash_base one loads (table + 4) ≡ Some pc → pc < 0xff000000
      → (k : ℕ) → k < 8 → in_window flash_base (length one) (table + k) ≡ true → table + k - flash_base < n
  low-table table pc is small k lt inside =
      elim (cases_lt (table + k - flash_base) n) [
        | inl less ↦ less
        | inr past ↦
            let from : flash_base ≤ table + k = grind (arith, nat_tests) in
            let to : table + k < flash_base + length one = grind (arith, nat_tests) in
            let top = top-byte _ _ _ _ pc is in
            let e = high-byte (table + 4 + 3) top.0 (omega (arith, past, lt)) (omega (arith, from, lt))
            (omega (arith, to, few)) top.1 in
            absurd (omega (arith, e, top.2, small))
      ]

  kept-word : (address : ℕ)
      → ((k : ℕ) → k < 4 → in_window flash_base (length one) (address + k) ≡ true → address + k - flash_base < n)
      → given_word flash_base two loads address ≡ given_word flash_base one loads address
  kept-word address low =
      same-word flash_base one two loads address (agree one two n loads long same stored)
      (λ k lt inside. same (address + k - flash_base) (low k lt inside))

  kept-source : (def : Def) (item : Option EntryPoint) (source : Source) (cpu : Cpu)
      → IsRunnable flash_base (length one) source
      → IsSource flash_base one cpu def loads item source → IsSource flash_base two cpu def loads item source
  kept-source def (Some entry) source cpu runs is = is
  kept-source def None source Riscv runs is = is
  kept-source def None source Arm runs is =
      let table = table_address flash_base def in
      let low = low-table table source.entry.pc is.pc (small-pc source runs) in
      record {
        sp = kept-word table (λ k lt inside. low k (omega (arith, lt)) inside) ∙ is.sp;
        pc = kept-word (table + 4) (λ k lt inside.
            subst (λ a. in_window flash_base (length one) a ≡ true → a - flash_base < n) (omega (arith, lt))
            (low (4 + k) (omega (arith, lt))) inside) ∙ is.pc;
        limit = is.limit;
        from = is.from;
      }
    where
      small-pc : (source : Source) → IsRunnable flash_base (length one) source → source.entry.pc < 0xff000000
      small-pc source (inl window) = omega (arith, window.1, few)
      small-pc source (inr sram) = omega (arith, sram.1)

  pub kept-entry : (b : BlockView) (def : Def) (entry : EntryPoint) (cpu : Cpu)
      → IsEntry flash_base one cpu b def loads entry → IsEntry flash_base two cpu b def loads entry
  kept-entry b def entry cpu e = record {
    source = e.source;
    found = kept-source def def.entry_point e.source cpu e.runs e.found;
    apart = e.apart;
    runs = subst (λ k. IsRunnable flash_base k e.source) (sym long) e.runs;
    is = e.is;
  }
