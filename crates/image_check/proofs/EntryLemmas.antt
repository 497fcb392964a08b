-- An entry in the words of the rules is what the function of it answers.
use Rattle.std.proofs.Common.{◌≡◌, ◌⊎◌, ℕ, suc, zero, ◌+◌, ◌-◌, ◌<◌, ◌≤◌, Bool, true, false, ◌||◌, not, if◌then◌else◌, List, length, Option, Some, None, Result, Ok, Err, refl, sym, ap, ◌∙◌, subst, inl, inr, arith}
use Rattle.std.specs.Option.{option_map_or}
use Rattle.std.proofs.lemmas.Bool.{cases_lt}
use Rattle.std.proofs.lemmas.Bool.Decides.{nat_tests}
use Rattle.pico_board.specs.declared.boot.Cpu.{Cpu}
use Rattle.pico_board.specs.declared.boot.Cpu.TheVariants.{Arm, Riscv}
use Rattle.block_codec.specs.declared.definition.Def.{Def}
use Rattle.block_codec.specs.declared.definition.EntryPoint.{EntryPoint}
use Rattle.block_codec.specs.Blocks.{BlockView, block_size}
use Rattle.load_map.specs.declared.load.Load.{Load}
use Rattle.load_map.specs.declared.addresses.TheConstants.{SRAM_START, SRAM_END}
use Rattle.load_map.specs.Given.{byte_at, given_word, word_if_given}
use Rattle.image_check.specs.declared.why.EntryFault.{EntryFault}
use Rattle.image_check.specs.declared.why.EntryFault.TheVariants.{Table, InBlock, Pc}
use Rattle.image_check.specs.declared.entry.Source.{Source}
use Rattle.image_check.specs.Entry.{code_address, entry_of, from_table, from_words, is_in_block, is_runnable, is_shared, is_within, judged_source, judged_sources, source_of}
use Rattle.image_check.specs.Entering.{IsAddressIn, IsEntry, IsEntryFault, IsRunnable, IsSource, IsTabled, MeetsBlock, table_address}

-- a test of a range
within-is : (address at size : ℕ) → is_within address at size ≡ true → IsAddressIn address at size
within-is address at size h = (grind (arith, nat_tests), grind (arith, nat_tests))

is-within : (address at size : ℕ) → IsAddressIn address at size → is_within address at size ≡ true
is-within address at size is = grind (arith, nat_tests)

-- two ranges that share an address
shared-is : (at size other other_size : ℕ) → 1 ≤ size → 1 ≤ other_size → is_shared at size other other_size ≡ true
    → (address : ℕ) × IsAddressIn address at size × IsAddressIn address other other_size
shared-is at size other other_size some more h = elim (cases_lt at other) [
  | inl below ↦ (other, (omega (arith, below), grind (arith, nat_tests)), (omega arith, omega (arith, more)))
  | inr above ↦ (at, (omega arith, omega (arith, some)), (omega (arith, above), grind (arith, nat_tests)))
]

is-shared : (at size other other_size address : ℕ) → IsAddressIn address at size → IsAddressIn address other other_size
    → is_shared at size other other_size ≡ true
is-shared at size other other_size address one two = grind (arith, nat_tests)

-- whether the entry meets the block
true-or : (a b : Bool) → (a || b) ≡ true → (a ≡ true) ⊎ (b ≡ true)
true-or true b h = inl refl
true-or false b h = inr h

or-left : (a b : Bool) → a ≡ true → (a || b) ≡ true
or-left a b h = rw h refl

or-right : (a b : Bool) → b ≡ true → (a || b) ≡ true
or-right true b h = refl
or-right false b h = h

table-shares : (base : ℕ) (b : BlockView) (table : Option ℕ)
    → option_map_or (λ t. is_shared t 8 (base + b.at) (block_size b)) table false ≡ true
    → (t : ℕ) × (address : ℕ) × (table ≡ Some t) × IsAddressIn address t 8
    × IsAddressIn address (base + b.at) (block_size b)
table-shares base b None h = cc
table-shares base b (Some t) h =
    let found = shared-is t 8 (base + b.at) (block_size b) (omega arith) (omega arith) h in
    (t, found.0, refl, found.1, found.2)

shares-table : (base : ℕ) (b : BlockView) (table : Option ℕ) (t address : ℕ) → table ≡ Some t → IsAddressIn address t 8
    → IsAddressIn address (base + b.at) (block_size b) → option_map_or
    (λ t. is_shared t 8 (base + b.at) (block_size b)) table false ≡ true
shares-table base b table t address is one two =
    ap (λ (o : Option ℕ). option_map_or (λ t. is_shared t 8 (base + b.at) (block_size b)) o false) is
    ∙ is-shared t 8 (base + b.at) (block_size b) address one two

pub meets-is : (base : ℕ) (b : BlockView) (source : Source) → is_in_block base b source ≡ true
    → MeetsBlock base b source
meets-is base b source h = elim (true-or _ _ h) [
  | inl table ↦ inl (table-shares base b source.table table)
  | inr code ↦ inr (within-is (code_address source.entry.pc) (base + b.at) (block_size b) code)
]

is-meets : (base : ℕ) (b : BlockView) (source : Source) → MeetsBlock base b source → is_in_block base b source ≡ true
is-meets base b source (inl (t, address, is, one, two)) =
    or-left _ _ (shares-table base b source.table t address is one two)
is-meets base b source (inr code) =
    or-right _ _ (is-within (code_address source.entry.pc) (base + b.at) (block_size b) code)

runs-is : (base n : ℕ) (source : Source) → is_runnable base n source ≡ true → IsRunnable base n source
runs-is base n source h = elim (true-or _ _ h) [
  | inl window ↦ inl (within-is (code_address source.entry.pc) base n window)
  | inr sram ↦ inr (within-is (code_address source.entry.pc) SRAM_START (SRAM_END - SRAM_START) sram)
]

is-runs : (base n : ℕ) (source : Source) → IsRunnable base n source → is_runnable base n source ≡ true
is-runs base n source (inl window) = or-left _ _ (is-within (code_address source.entry.pc) base n window)
is-runs base n source (inr sram) =
    or-right _ _ (is-within (code_address source.entry.pc) SRAM_START (SRAM_END - SRAM_START) sram)

-- which byte of a word is not given
missing-of : (a b c d : Option ℕ) → word_if_given a b c d ≡ None → (a ≡ None) ⊎ ((b ≡ None) ⊎ ((c ≡ None) ⊎ (d ≡ None)))
missing-of None b c d h = inl refl
missing-of (Some w) None c d h = inr (inl refl)
missing-of (Some w) (Some x) None d h = inr (inr (inl refl))
missing-of (Some w) (Some x) (Some y) None h = inr (inr (inr refl))
missing-of (Some w) (Some x) (Some y) (Some z) h = cc

abbrev ok_source : Source → Result Source EntryFault
ok_source source = Ok source

same_source : (x y : Source) → ok_source x ≡ ok_source y → x ≡ y
same_source x y h = cc

-- the source that has these four
abbrev source_with : ℕ → ℕ → ℕ → Option ℕ → Source
source_with pc sp limit table = record { entry = record { pc = pc; sp = sp; limit = limit }; table = table }

module _ (base : ℕ) (bytes : List ℕ) (loads : List Load) where
  missing : (at : ℕ) → given_word base bytes loads at ≡ None
      → (k : ℕ) × (k < 4) × (byte_at base bytes loads (at + k) ≡ None)
  missing at h =
      elim (missing-of (byte_at base bytes loads at) (byte_at base bytes loads (at + 1))
      (byte_at base bytes loads (at + 2))
      (byte_at base bytes loads (at + 3)) h) [
        | inl a ↦ (0, omega arith, (let e : at + 0 ≡ at = omega arith in ap (byte_at base bytes loads) e) ∙ a)
        | inr rest ↦ elim rest [
          | inl b ↦ (1, omega arith, b)
          | inr more ↦ elim more [
            | inl c ↦ (2, omega arith, c)
            | inr d ↦ (3, omega arith, d)
          ]
        ]
      ]

  not-given : (a b c d : Option ℕ) → (a ≡ None) ⊎ ((b ≡ None) ⊎ ((c ≡ None) ⊎ (d ≡ None)))
      → word_if_given a b c d ≡ None
  not-given None b c d h = refl
  not-given (Some w) None c d h = refl
  not-given (Some w) (Some x) None d h = refl
  not-given (Some w) (Some x) (Some y) None h = refl
  not-given (Some w) (Some x) (Some y) (Some z) h = elim h [
    | inl a ↦ cc
    | inr rest ↦ elim rest [ inl b ↦ cc | inr more ↦ elim more [ inl c ↦ cc | inr d ↦ cc ] ]
  ]

  lacks : (at k : ℕ) → k < 4 → byte_at base bytes loads (at + k) ≡ None → given_word base bytes loads at ≡ None
  lacks at zero lt h =
      not-given (byte_at base bytes loads at) _ _ _
      (inl ((let e : at ≡ at + 0 = omega arith in ap (byte_at base bytes loads) e) ∙ h))
  lacks at (suc zero) lt h = not-given _ (byte_at base bytes loads (at + 1)) _ _ (inr (inl h))
  lacks at (suc (suc zero)) lt h = not-given _ _ (byte_at base bytes loads (at + 2)) _ (inr (inr (inl h)))
  lacks at (suc (suc (suc zero))) lt h = not-given _ _ _ (byte_at base bytes loads (at + 3)) (inr (inr (inr h)))
  lacks at (suc (suc (suc (suc k)))) lt h = absurd (omega arith)

  -- a table that is found has its words, and one that is not lacks a byte
  tabled-is : (table : ℕ) (sp pc : Option ℕ) → given_word base bytes loads table ≡ sp
      → given_word base bytes loads (table + 4) ≡ pc
      → (source : Source) → from_words table sp pc ≡ Ok source → IsTabled base bytes loads table source
  tabled-is table None pc first second source h = cc
  tabled-is table (Some sp) None first second source h = cc
  tabled-is table (Some sp) (Some pc) first second source h =
      subst (IsTabled base bytes loads table) (same_source (source_with pc sp 0 (Some table)) source h)
      (record { sp = first; pc = second; limit = refl; from = refl })

  fault-is : (table : ℕ) (sp pc : Option ℕ) → given_word base bytes loads table ≡ sp
      → given_word base bytes loads (table + 4) ≡ pc
      → (fault : EntryFault) → from_words table sp pc ≡ Err fault
      → (fault ≡ Table) × ((k : ℕ) × (k < 8) × (byte_at base bytes loads (table + k) ≡ None))
  fault-is table (Some sp) (Some pc) first second fault h = cc
  fault-is table (Some sp) None first second fault h =
      let m = missing (table + 4) second in
      let e : table + 4 + m.0 ≡ table + (4 + m.0) = omega arith in
      (cc, (4 + m.0, omega (arith, m.1), ap (byte_at base bytes loads) (sym e) ∙ m.2))
  fault-is table None pc first second fault h =
      let m = missing table first in
      (cc, (m.0, omega (arith, m.1), m.2))

  is-tabled : (table : ℕ) (source : Source) → IsTabled base bytes loads table source
      → from_table base bytes loads table ≡ Ok source
  is-tabled table source is =
      rw (is.sp, is.pc) (ap Ok (same source.entry.pc source.entry.sp source.entry.limit source.table is.limit is.from))
    where
      same : (pc sp limit : ℕ) (from : Option ℕ) → limit ≡ 0 → from ≡ Some table
          → source_with pc sp 0 (Some table) ≡ source_with pc sp limit from
      same pc sp limit from none is = rw (none, is) refl

  is-fault : (table k : ℕ) → k < 8 → byte_at base bytes loads (table + k) ≡ None
      → from_table base bytes loads table ≡ Err Table
  is-fault table k lt h = elim (cases_lt k 4) [
    | inl low ↦ rw (lacks table k low h) refl
    | inr high ↦
        let e : table + k ≡ table + 4 + (k - 4) = omega arith in
        second (given_word base bytes loads table) (given_word base bytes loads (table + 4))
        (lacks (table + 4) (k - 4) (omega arith) (ap (byte_at base bytes loads) (sym e) ∙ h))
  ]
    where
      second : (sp pc : Option ℕ) → pc ≡ None → from_words table sp pc ≡ Err Table
      second None pc h = refl
      second (Some sp) pc h = rw h refl

  -- where PC and SP come from is found, or the table is not given
  abbrev SaysSource : Cpu → Def → Option EntryPoint → Result Source EntryFault → Type 0
  SaysSource cpu def item (Ok source) = IsSource base bytes cpu def loads item source
  SaysSource cpu def item (Err fault) =
      (fault ≡ Table) × (item ≡ None) × (cpu ≡ Arm)
      × ((k : ℕ) × (k < 8) × (byte_at base bytes loads (table_address base def + k) ≡ None))

  source-says : (cpu : Cpu) (def : Def) (item : Option EntryPoint)
      → SaysSource cpu def item (source_of base bytes cpu def loads item)
  source-says cpu def (Some entry) = refl
  source-says Riscv def None = refl
  source-says Arm def None = go (from_table base bytes loads (table_address base def)) refl
    where
      go : (r : Result Source EntryFault) → from_table base bytes loads (table_address base def) ≡ r
          → SaysSource Arm def None r
      go (Ok source) is = tabled-is (table_address base def) _ _ refl refl source is
      go (Err fault) is =
          let f = fault-is (table_address base def) _ _ refl refl fault is in
          (f.0, refl, refl, f.1)

  is-source : (cpu : Cpu) (def : Def) (item : Option EntryPoint) (source : Source)
      → IsSource base bytes cpu def loads item source
      → source_of base bytes cpu def loads item ≡ Ok source
  is-source cpu def (Some entry) source is = ap ok_source (sym is)
  is-source Riscv def None source is = ap ok_source (sym is)
  is-source Arm def None source is = is-tabled (table_address base def) source is

  module _ (cpu : Cpu) (b : BlockView) (def : Def) where
    -- an entry, or its first fault, in the words of the rules
    abbrev pub SaysEntry : Result EntryPoint EntryFault → Type 0
    SaysEntry (Ok entry) = IsEntry base bytes cpu b def loads entry
    SaysEntry (Err fault) = IsEntryFault base bytes cpu b def loads fault

    says-judged : (source : Source) → IsSource base bytes cpu def loads def.entry_point source
        → SaysEntry (judged_source base (length bytes) b source)
    says-judged source found = go (is_in_block base b source) refl (is_runnable base (length bytes) source) refl
      where
        go : (meets : Bool) → is_in_block base b source ≡ meets → (runs : Bool)
            → is_runnable base (length bytes) source ≡ runs
            → SaysEntry (if meets then Err InBlock else (if not runs then Err Pc else Ok source.entry))
        go true meets runs runnable = (source, found, meets-is base b source meets)
        go false apart false stuck = (
          source,
          found,
          (λ m. let t =
              is-meets base b source m in cc),
          (λ r. let t = is-runs base (length bytes) source r in cc),
        )
        go false apart true runs = record {
          source = source;
          found = found;
          apart = λ m. let t = is-meets base b source m in cc;
          runs = runs-is base (length bytes) source runs;
          is = refl;
        }

    pub entry-says : SaysEntry (entry_of base bytes cpu b def loads)
    entry-says = go (source_of base bytes cpu def loads def.entry_point) (source-says cpu def def.entry_point)
      where
        go : (r : Result Source EntryFault) → SaysSource cpu def def.entry_point r
            → SaysEntry (judged_sources base (length bytes) b r)
        go (Ok source) found = says-judged source found
        go (Err fault) (is, no_item, arm, (k, lt, none)) =
            subst (IsEntryFault base bytes cpu b def loads) (sym is)
            (record { no_item = no_item; processor = arm; place = k; inside = lt; not_given = none })

    -- an entry that is runnable and lies outside the block is what is judged
    judged-ok : (source : Source) → (MeetsBlock base b source → ⊥) → IsRunnable base (length bytes) source
        → judged_source base (length bytes) b source ≡ Ok source.entry
    judged-ok source apart runs =
        go (is_in_block base b source) (λ t. apart (meets-is base b source t)) (is_runnable base (length bytes) source)
        (is-runs base (length bytes) source runs)
      where
        go : (meets : Bool) → (meets ≡ true → ⊥) → (runs : Bool) → runs ≡ true
            → (if meets then Err InBlock else (if not runs then Err Pc else Ok source.entry)) ≡ Ok source.entry
        go true apart runs runnable = absurd (apart refl)
        go false apart true runnable = refl
        go false apart false runnable = cc

    pub entry-ok : (entry : EntryPoint) → IsEntry base bytes cpu b def loads entry
        → entry_of base bytes cpu b def loads ≡ Ok entry
    entry-ok entry e =
        ap (judged_sources base (length bytes) b) (is-source cpu def def.entry_point e.source e.found)
        ∙ judged-ok e.source e.apart e.runs ∙ ap Ok (sym e.is)

    judged-meets : (source : Source) → MeetsBlock base b source
        → judged_source base (length bytes) b source ≡ Err InBlock
    judged-meets source meets = rw (is-meets base b source meets) refl

    judged-stuck : (source : Source) → (MeetsBlock base b source → ⊥) → (IsRunnable base (length bytes) source → ⊥)
        → judged_source base (length bytes) b source ≡ Err Pc
    judged-stuck source apart stuck =
        go (is_in_block base b source) (λ t. apart (meets-is base b source t)) (is_runnable base (length bytes) source)
        (λ t. stuck (runs-is base (length bytes) source t))
      where
        go : (meets : Bool) → (meets ≡ true → ⊥) → (runs : Bool) → (runs ≡ true → ⊥)
            → (if meets then Err InBlock else (if not runs then Err Pc else Ok source.entry)) ≡ Err Pc
        go true apart runs stuck = absurd (apart refl)
        go false apart true stuck = absurd (stuck refl)
        go false apart false stuck = refl

    table-lacks : (arm : cpu ≡ Arm) (none : def.entry_point ≡ None) (k : ℕ) → k < 8
        → byte_at base bytes loads (table_address base def + k) ≡ None
        → source_of base bytes cpu def loads def.entry_point ≡ Err Table
    table-lacks arm none k lt not_given =
        ap (λ (p : Cpu). source_of base bytes p def loads def.entry_point) arm
        ∙ ap (source_of base bytes Arm def loads) none ∙ is-fault (table_address base def) k lt not_given

    pub entry-err : (fault : EntryFault) → IsEntryFault base bytes cpu b def loads fault
        → entry_of base bytes cpu b def loads ≡ Err fault
    entry-err Table lacks =
        ap (judged_sources base (length bytes) b)
        (table-lacks lacks.processor lacks.no_item lacks.place lacks.inside lacks.not_given)
    entry-err InBlock (source, found, meets) =
        ap (judged_sources base (length bytes) b) (is-source cpu def def.entry_point source found)
        ∙ judged-meets source meets
    entry-err Pc (source, found, apart, stuck) =
        ap (judged_sources base (length bytes) b) (is-source cpu def def.entry_point source found)
        ∙ judged-stuck source apart stuck
