-- The vector table of a binary has the same words in its sealed image, where its bytes are the binary's there.
use Rattle.std.proofs.Common.{◌≡◌, ℕ, ◌+◌, ◌-◌, ◌*◌, ◌<◌, ◌≤◌, false, cond, if◌then◌else◌, List, [], ◌∷◌, length, get_or, refl, sym, ap, subst, ◌∙◌, inl, inr, arith, Option, None, Some}
use Rattle.std.specs.Prelude.{find, reverse}
use Rattle.std.specs.Option.{option_map}
use Rattle.std.proofs.lemmas.Bool.{cases_lt, ne_eqb}
use Rattle.std.proofs.lemmas.Bool.Decides.{nat_tests}
use Rattle.std.proofs.lemmas.Option.{none-some, same_Some}
use Rattle.pico_board.specs.declared.window.TheConstants.{MOST_FLASH_BYTES}
use Rattle.pico_board.specs.Content.{flash_base}
use Rattle.block_codec.specs.declared.definition.EntryPoint.{EntryPoint}
use Rattle.block_codec.specs.Words.{word_of}
use Rattle.load_map.specs.declared.addresses.TheConstants.{SRAM_START}
use Rattle.load_map.specs.declared.load.Load.{Load}
use Rattle.load_map.specs.Addresses.{is_sram}
use Rattle.load_map.specs.Given.{byte_at, load_has_address, in_window, loaded_byte, stored_byte, given_word}
use Rattle.load_map.specs.Stored.{AreStoredIn}
use Rattle.load_map.proofs.GivenLaws.{byte-elsewhere, byte-window, word-given, word-none}
use Rattle.image_check.specs.declared.entry.Source.{Source}
use Rattle.image_check.specs.Entering.{IsRunnable, IsTabled}
use Rattle.image_pack.specs.Sealing.{copied_loads, load_in_place, own_load, own_storage}
use Rattle.image_pack.specs.Starts.{AreRangesApart, IsLoadedFrom, LinkIsOutsideTable, Stays, TableIsStoredIn}
use Rattle.image_pack.proofs.CopiedLoadLemmas.{ArePlaced, in_place-past, last-copied}

-- two starts are the same
pub record SameStart (x y : EntryPoint) : Type 0 where
  pub pc : x.pc ≡ y.pc
  pub sp : x.sp ≡ y.sp
  pub limit : x.limit ≡ y.limit

-- the highest byte of a word
word_of-top : (a b c d : ℕ) → 16777216 * d ≤ word_of (a ∷ b ∷ c ∷ d ∷ [])
unfolding word_of
word_of-top a b c d = omega arith

-- a window has the bytes of a binary in its first e, but for a link; the loads of the binary are copied for a LOAD_MAP
-- item behind them
module _ (binary sealed : List ℕ) (loads : List Load) (e at link : ℕ) (room : length binary ≤ length sealed)
    (few : length binary ≤ MOST_FLASH_BYTES) (in_space : flash_base + length sealed ≤ SRAM_START)
    (inside : e ≤ length binary) (before : e < at)
    (same : (k : ℕ) → k < e → AreRangesApart k 1 link 4 → get_or sealed k 0 ≡ get_or binary k 0)
    (filled : (k : ℕ) → e ≤ k → k < length binary → get_or binary k 0 ≡ 255)
    (stored : AreStoredIn (length binary) loads) (placed : ArePlaced loads) where
  abbrev pub own : List Load
  own = load_in_place e ∷ copied_loads at loads

  -- the byte at this offset stays
  abbrev IsKept : ℕ → Type 0
  IsKept k = Stays e link k

  -- the byte at this address stays, in flash or in SRAM
  record IsKeptAt (a : ℕ) : Type 0 where
    flash : (k : ℕ) → a ≡ flash_base + k → k < length binary → IsKept k
    loaded : (k : ℕ) → SRAM_START ≤ a → IsLoadedFrom loads a k → IsKept k

  kept-in : (k : ℕ) → IsKept k → get_or sealed k 0 ≡ get_or binary k 0
  kept-in k is = same k is.inside is.apart

  stored-same : (d : ℕ) (storage : Option ℕ) → ((x : ℕ) → storage ≡ Some x → IsKept (x + d))
      → stored_byte sealed (own_storage at storage) d ≡ stored_byte binary storage d
  stored-same d None kept = refl
  stored-same d (Some x) kept =
      let here = kept x refl in
      ap (λ t. stored_byte sealed (if t then None else Some x) d)
      (ne_eqb x at (λ is. omega (arith, is, here.inside, before)))
      ∙ kept-in (x + d) here

  loaded-same : (a : ℕ) (last : Option Load) → find (load_has_address a) (reverse loads) ≡ last
      → ((k : ℕ) → IsLoadedFrom loads a k → IsKept k)
      → option_map (loaded_byte sealed a) (option_map (own_load at) last) ≡ option_map (loaded_byte binary a) last
  loaded-same a None is kept = refl
  loaded-same a (Some load) is kept =
      ap (λ byte. Some byte)
      (stored-same (a - load.runtime) load.storage (λ x has. kept (x + (a - load.runtime))
      (record { load = load; last = is; start = x; storage = has; place = refl })))

  outside : (w : List ℕ) (ls : List Load) (a : ℕ) → flash_base + length w ≤ a
      → byte_at flash_base w ls a
      ≡ cond (is_sram a) (option_map (loaded_byte w a) (find (load_has_address a) (reverse ls))) None
  outside w ls a past =
      let test : in_window flash_base (length w) a ≡ false = grind (arith, nat_tests, past) in
      rw test refl

  pub kept-high : (a : ℕ) → SRAM_START ≤ a → ((k : ℕ) → IsLoadedFrom loads a k → IsKept k)
      → byte_at flash_base sealed own a ≡ byte_at flash_base binary loads a
  kept-high a high kept =
      let low : flash_base + length binary ≤ SRAM_START = omega (arith, few) in
      let past : flash_base + length sealed ≤ a = omega (arith, in_space, high) in
      let behind : flash_base + length binary ≤ a = omega (arith, low, high) in
      outside sealed own a past
      ∙ ap (λ last. cond (is_sram a) (option_map (loaded_byte sealed a) last) None)
      (in_place-past a (length binary) at high low e (copied_loads at loads) inside
      ∙ last-copied a (length binary) at high low loads stored placed)
      ∙ ap (λ byte. cond (is_sram a) byte None) (loaded-same a (find (load_has_address a) (reverse loads)) refl kept)
      ∙ sym (outside binary loads a behind)

  kept-byte : (a x : ℕ) → byte_at flash_base binary loads a ≡ Some x → IsKeptAt a
      → byte_at flash_base sealed own a ≡ byte_at flash_base binary loads a
  kept-byte a x is kept = elim (cases_lt a SRAM_START) [
    | inl below ↦ elim (cases_lt a flash_base) [
      | inl under ↦
          absurd (none-some x (sym (byte-elsewhere flash_base binary loads a (inl under) (inl below)) ∙ is))
      | inr from ↦ elim (cases_lt a (flash_base + length binary)) [
        | inl to ↦
            let k = a - flash_base in
            byte-window flash_base sealed own a from (omega (arith, to, room))
            ∙ ap (λ byte. Some byte)
            (kept-in k (kept.flash k (omega (arith, from)) (omega (arith, from, to))))
            ∙ sym (byte-window flash_base binary loads a from to)
        | inr past ↦
            absurd (none-some x (sym (byte-elsewhere flash_base binary loads a (inr past) (inl below)) ∙ is))
      ]
    ]
    | inr high ↦ kept-high a high (λ k from. kept.loaded k high from)
  ]

  given-byte : (t w k : ℕ) → k < 4 → given_word flash_base binary loads t ≡ Some w
      → (x : ℕ) × (byte_at flash_base binary loads (t + k) ≡ Some x)
  given-byte t w k lt is = go (byte_at flash_base binary loads (t + k)) refl
    where
      go : (o : Option ℕ) → byte_at flash_base binary loads (t + k) ≡ o
          → (x : ℕ) × (byte_at flash_base binary loads (t + k) ≡ Some x)
      go (Some x) has = (x, has)
      go None has = absurd (none-some w (sym (word-none flash_base binary loads t k lt has) ∙ is))

  kept-word : (t w : ℕ) → given_word flash_base binary loads t ≡ Some w → ((k : ℕ) → k < 4 → IsKeptAt (t + k))
      → given_word flash_base sealed own t ≡ Some w
  kept-word t w is kept =
      let byte : (k : ℕ) → k < 4 → byte_at flash_base sealed own (t + k) ≡ byte_at flash_base binary loads (t + k) =
      λ k lt. kept-byte (t + k) (given-byte t w k lt is).0 (given-byte t w k lt is).1 (kept k lt) in
      let zeroth : t + 0 ≡ t = omega arith in
      let zero = subst (λ a. byte_at flash_base sealed own a ≡ byte_at flash_base binary loads a) zeroth
      (byte 0 (omega arith)) in
      let one = byte 1 (omega arith) in
      let two = byte 2 (omega arith) in
      let three = byte 3 (omega arith) in
      rw (zero, one, two, three) is

  module _ (table : ℕ) (source other : Source) (found : IsTabled flash_base binary loads table source)
      (again : IsTabled flash_base sealed own table other) where
    -- a table whose bytes are kept says the same start
    kept-table : ((i : ℕ) → i < 8 → IsKeptAt (table + i)) → SameStart other.entry source.entry
    kept-table kept =
        let late : (k : ℕ) → k < 4 → IsKeptAt (table + 4 + k) =
        λ k lt. (let there : table + (4 + k) ≡ table + 4 + k = omega arith in
        subst IsKeptAt there (kept (4 + k) (omega (arith, lt)))) in record {
          pc = same_Some _ _ (sym again.pc ∙ kept-word (table + 4) source.entry.pc found.pc late);
          sp =
              same_Some _ _
              (sym again.sp ∙ kept-word table source.entry.sp found.sp (λ k lt. kept k (omega (arith, lt))));
          limit = again.limit ∙ sym found.limit;
        }

    given-at : (i : ℕ) → i < 8 → (x : ℕ) × (byte_at flash_base binary loads (table + i) ≡ Some x)
    given-at i lt = elim (cases_lt i 4) [
      | inl early ↦ given-byte table source.entry.sp i early found.sp
      | inr late ↦
          let there : table + 4 + (i - 4) ≡ table + i = omega (arith, late) in
          let has = given-byte (table + 4) source.entry.pc (i - 4) (omega (arith, late, lt)) found.pc in
          (has.0, subst (λ a. byte_at flash_base binary loads a ≡ Some has.0) there has.1)
    ]

    in-flash : (a x : ℕ) → byte_at flash_base binary loads a ≡ Some x → a < SRAM_START
        → (flash_base ≤ a) × (a < flash_base + length binary)
    in-flash a x is low = elim (cases_lt a flash_base) [
      | inl under ↦
          absurd (none-some x (sym (byte-elsewhere flash_base binary loads a (inl under) (inl low)) ∙ is))
      | inr from ↦ elim (cases_lt a (flash_base + length binary)) [
        | inl to ↦ (from, to)
        | inr past ↦
            absurd (none-some x (sym (byte-elsewhere flash_base binary loads a (inr past) (inl low)) ∙ is))
      ]
    ]

    -- the last byte of a table in flash is no filling: PC would lie in no window and not in SRAM
    module _ (runs : IsRunnable flash_base (length binary) source) (low : table < SRAM_START) where
      in-window : (i : ℕ) → i < 8 → (flash_base ≤ table + i) × (table + i < flash_base + length binary)
      in-window i lt =
          let zeroth : table + 0 ≡ table = omega arith in
          let first = given-at 0 (omega arith) in
          let begins = in-flash (table + 0) first.0 first.1 (omega (arith, low)) in
          let here = given-at i lt in
          in-flash (table + i) here.0 here.1 (omega (arith, lt, begins.1, few))

      not-high : 16777216 * 255 ≤ source.entry.pc → ⊥
      not-high high = elim runs [
        | inl window ↦ omega (arith, high, window.1, few)
        | inr sram ↦ omega (arith, high, sram.1)
      ]

      ends : table + 7 < flash_base + e
      ends = elim (cases_lt (table + 7) (flash_base + e)) [
        | inl lt ↦ lt
        | inr le ↦
            let last = in-window 7 (omega arith) in
            let at_pc = table + 4 in
            let zeroth : at_pc + 0 ≡ at_pc = omega arith in
            let a = given-byte at_pc source.entry.pc 0 (omega arith) found.pc in
            let b = given-byte at_pc source.entry.pc 1 (omega arith) found.pc in
            let c = given-byte at_pc source.entry.pc 2 (omega arith) found.pc in
            let d = given-byte at_pc source.entry.pc 3 (omega arith) found.pc in
            let a_is : byte_at flash_base binary loads at_pc ≡ Some a.0 =
            subst (λ x. byte_at flash_base binary loads x ≡ Some a.0) zeroth a.1 in
            let word = word-given flash_base binary loads at_pc a.0 b.0 c.0 d.0 a_is b.1 c.1 d.1 in
            let pc : source.entry.pc ≡ word_of (a.0 ∷ b.0 ∷ c.0 ∷ d.0 ∷ []) = same_Some _ _ (sym found.pc ∙ word) in
            let k = at_pc + 3 - flash_base in
            let fill : get_or binary k 0 ≡ 255 =
            filled k (omega (arith, le)) (omega (arith, last.0, last.1)) in
            let top : d.0 ≡ 255 =
            same_Some _ _ (sym d.1
            ∙ byte-window flash_base binary loads (at_pc + 3) (omega (arith, last.0)) (omega (arith, last.1)))
            ∙ fill in
            let most = word_of-top a.0 b.0 c.0 d.0 in
            absurd (not-high (omega (arith, most, top, pc)))
      ]

    pub flash-table : IsRunnable flash_base (length binary) source → table < SRAM_START
        → LinkIsOutsideTable loads table link → SameStart other.entry source.entry
    flash-table runs low out =
        let last = ends runs low in
        let apart : (i k : ℕ) → i < 8 → table + i ≡ flash_base + k → AreRangesApart k 1 link 4 =
        λ i k lt is. elim out.flash [
          | inl under ↦ inl (omega (arith, lt, is, under))
          | inr over ↦ inr (omega (arith, lt, is, over))
        ] in
        kept-table (λ i lt. record {
          flash = λ k is there. record { inside = omega (arith, last, is, lt); apart = apart i k lt is };
          loaded = λ k high from.
              absurd (let there = in-window runs low i lt in omega (arith, high, there.1, few));
        })

    pub loaded-table : IsRunnable flash_base (length binary) source → TableIsStoredIn e loads table
        → LinkIsOutsideTable loads table link → SameStart other.entry source.entry
    loaded-table runs within out = elim (cases_lt table SRAM_START) [
      | inl low ↦ flash-table runs low out
      | inr high ↦
          kept-table (λ i lt. record {
            flash = λ k is there. absurd (omega (arith, high, is, there, few));
            loaded = λ k above from. record { inside = within i k lt from; apart = out.loaded i k lt from };
          })
    ]
