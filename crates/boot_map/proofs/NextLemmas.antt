-- The partition that starts first at or past an offset, and how many there are.
use Rattle.std.proofs.Common.{◌≡◌, ◌≢◌, ◌⊎◌, inl, inr, ℕ, zero, suc, ◌+◌, ◌<◌, ◌≤◌, ◌==◌, ◌&&◌, Bool, true, false, List, [], ◌∷◌, length, Some, None, refl, sym, ◌∙◌, arith}
use Rattle.std.specs.Prelude.{nat_le, nat_lt, if◌then◌else◌}
use Rattle.std.proofs.lemmas.Bool.{leb-true, leb-false, ltb-true, ltb-false, eqb-true, eq-eqb}
use Rattle.part_table.specs.declared.partition.Partition.{Partition}
use Rattle.part_table.specs.Partitions.{no_partition, part_at}
use Rattle.part_table.specs.Windows.{part_window}
use Rattle.part_table.proofs.TestLemmas.{none_passes, passes_at_position}
use Rattle.boot_map.specs.Windows.{nearer_start, next_part, next_start, starts_at}

-- where a partition starts
abbrev pub start_of : List Partition → ℕ → ℕ
start_of parts i = (part_window (part_at parts i)).start

abbrev IsNearer : ℕ → ℕ → ℕ → ℕ → Type 0
IsNearer at start least m =
    ((m ≡ start) × (at ≤ start) × (start < least)) ⊎ ((m ≡ least) × (at ≤ start → least ≤ start))

nearer-is : (at start least : ℕ) → IsNearer at start least (nearer_start at start least)
nearer-is at start least = go (nat_le at start) (nat_lt start least) refl refl
  where
    go : (a b : Bool) → nat_le at start ≡ a → nat_lt start least ≡ b
        → IsNearer at start least (if a && b then start else least)
    go true true ea eb = inl (refl, leb-true at start ea, ltb-true start least eb)
    go true false ea eb = inr (refl, λ le. ltb-false start least eb)
    go false b ea eb = inr (refl, λ le. let gt : start < at = leb-false at start ea in absurd (omega arith))

-- what is taken lies at or below both
nearer-most : (at start least m : ℕ) → IsNearer at start least m → m ≤ least
nearer-most at start least m (inl near) = let same = near.0 in let lt = near.2 in omega arith
nearer-most at start least m (inr far) = let same = far.0 in omega arith

nearer-start : (at start least m : ℕ) → IsNearer at start least m → at ≤ start → m ≤ start
nearer-start at start least m (inl near) le = let same = near.0 in omega arith
nearer-start at start least m (inr far) le = let same = far.0 in let past = far.1 le in omega arith

nearer-from : (at start least m : ℕ) → IsNearer at start least m → at ≤ least → at ≤ m
nearer-from at start least m (inl near) le = let same = near.0 in let from = near.1 in omega arith
nearer-from at start least m (inr far) le = let same = far.0 in omega arith

le-refl : (a : ℕ) → a ≤ a
le-refl a = omega arith

le-trans : (a b c : ℕ) → a ≤ b → b ≤ c → a ≤ c
le-trans a b c one two = omega arith

module _ (at : ℕ) where
  pub next-most : (ps : List Partition) (least : ℕ) → next_start at ps least ≤ least
  next-most [] least = le-refl least
  next-most (p ∷ ps) least =
      let start = (part_window p).start in
      le-trans _ _ _ (next-most ps (nearer_start at start least))
      (nearer-most at start least (nearer_start at start least) (nearer-is at start least))

  pub next-from : (ps : List Partition) (least : ℕ) → at ≤ least → at ≤ next_start at ps least
  next-from [] least le = le
  next-from (p ∷ ps) least le =
      let start = (part_window p).start in
      next-from ps (nearer_start at start least)
      (nearer-from at start least (nearer_start at start least) (nearer-is at start least) le)

  pub next-least : (ps : List Partition) (least j : ℕ) → j < length ps → at ≤ start_of ps j
      → next_start at ps least ≤ start_of ps j
  next-least [] least j lt le = absurd (omega arith)
  next-least (p ∷ ps) least zero lt le =
      let start = (part_window p).start in
      le-trans _ _ _ (next-most ps (nearer_start at start least))
      (nearer-start at start least (nearer_start at start least) (nearer-is at start least) le)
  next-least (p ∷ ps) least (suc j) lt le =
      next-least ps (nearer_start at (part_window p).start least) j (omega (arith, lt)) le

  -- the next start is the bound, or the start of a partition
  pub next-source : (ps : List Partition) (least : ℕ) → (next_start at ps least ≡ least)
      ⊎ ((i : ℕ) × (i < length ps) × (start_of ps i ≡ next_start at ps least))
  next-source [] least = inl refl
  next-source (p ∷ ps) least =
      by (nearer-is at (part_window p).start least)
      (next-source ps (nearer_start at (part_window p).start least))
    where
      by : IsNearer at (part_window p).start least (nearer_start at (part_window p).start least)
          → (next_start at ps (nearer_start at (part_window p).start least)
          ≡ nearer_start at (part_window p).start least)
          ⊎ ((i : ℕ) × (i < length ps) × (start_of ps i
          ≡ next_start at ps (nearer_start at (part_window p).start least)))
          → (next_start at (p ∷ ps) least ≡ least)
          ⊎ ((i : ℕ) × (i < length (p ∷ ps)) × (start_of (p ∷ ps) i ≡ next_start at (p ∷ ps) least))
      by near (inr found) =
          let lt = found.1 in inr (suc found.0, omega arith, found.2)
      by (inl near) (inl same) = inr (0, omega arith, sym (same ∙ near.0))
      by (inr far) (inl same) = inl (same ∙ far.0)

-- the partition that is found starts there; where none is found, none starts there
pub part-found : (parts : List Partition) (at end i : ℕ) → next_part at parts end ≡ Some i
    → (i < length parts) × (start_of parts i ≡ next_start at parts end)
part-found parts at end i e =
    let found = passes_at_position (starts_at (next_start at parts end)) parts i no_partition e in
    (found.0, eqb-true _ _ found.1)

pub none-found : (parts : List Partition) (at end : ℕ) → next_part at parts end ≡ None
    → (j : ℕ) → j < length parts → start_of parts j ≢ next_start at parts end
none-found parts at end e j lt = λ same.
    let fails : (start_of parts j == next_start at parts end) ≡ false =
    none_passes (starts_at (next_start at parts end)) parts e j no_partition lt in
    let holds : (start_of parts j == next_start at parts end) ≡ true = eq-eqb _ _ same in
    cc

-- how many partitions start at or past an offset
abbrev pub one_ahead : ℕ → ℕ → ℕ
one_ahead at start = if nat_le at start then 1 else 0

abbrev pub ahead : ℕ → List Partition → ℕ
ahead at [] = 0
ahead at (p ∷ ps) = one_ahead at (part_window p).start + ahead at ps

abbrev IsOneAhead : ℕ → ℕ → ℕ → Type 0
IsOneAhead at start one = ((at ≤ start) × (one ≡ 1)) ⊎ ((start < at) × (one ≡ 0))

one-is : (at start : ℕ) → IsOneAhead at start (one_ahead at start)
one-is at start = go (nat_le at start) refl
  where
    go : (a : Bool) → nat_le at start ≡ a → IsOneAhead at start (if a then 1 else 0)
    go true e = inl (leb-true at start e, refl)
    go false e = inr (leb-false at start e, refl)

one-most : (at start one : ℕ) → IsOneAhead at start one → one ≤ 1
one-most at start one (inl hit) = let is = hit.1 in omega arith
one-most at start one (inr miss) = let is = miss.1 in omega arith

one-less : (at past start one two : ℕ) → at ≤ past → IsOneAhead at start one → IsOneAhead past start two → two ≤ one
one-less at past start one two le (inl hit) (inl also) = let a = hit.1 in let b = also.1 in omega arith
one-less at past start one two le (inl hit) (inr not_b) = let b = not_b.1 in omega arith
one-less at past start one two le (inr not_a) (inl also) =
    let a = not_a.0 in let b = also.0 in absurd (omega arith)
one-less at past start one two le (inr not_a) (inr not_b) = let b = not_b.1 in omega arith

one-passed : (at past start one two : ℕ) → at ≤ start → start < past → IsOneAhead at start one
    → IsOneAhead past start two → two < one
one-passed at past start one two le lt (inl hit) (inl also) = let b = also.0 in absurd (omega arith)
one-passed at past start one two le lt (inl hit) (inr not_b) =
    let a = hit.1 in let b = not_b.1 in omega arith
one-passed at past start one two le lt (inr not_a) two_is = let a = not_a.0 in absurd (omega arith)

sum-le : (a b x y : ℕ) → a ≤ b → x ≤ y → a + x ≤ b + y
sum-le a b x y one two = omega arith

sum-lt : (a b x y : ℕ) → a < b → x ≤ y → a + x < b + y
sum-lt a b x y one two = omega arith

sum-lt-rest : (a b x y : ℕ) → a ≤ b → x < y → a + x < b + y
sum-lt-rest a b x y one two = omega arith

pub ahead-most : (at : ℕ) (ps : List Partition) → ahead at ps ≤ length ps
ahead-most at [] = le-refl 0
ahead-most at (p ∷ ps) =
    let start = (part_window p).start in
    let one : one_ahead at start ≤ 1 = one-most at start (one_ahead at start) (one-is at start) in
    let rest = ahead-most at ps in
    le-trans _ _ _ (sum-le _ _ _ _ one rest) (more (length ps))
  where
    more : (n : ℕ) → 1 + n ≤ suc n
    more n = omega arith

module _ (at past : ℕ) (le : at ≤ past) where
  pub ahead-less : (ps : List Partition) → ahead past ps ≤ ahead at ps
  ahead-less [] = le-refl 0
  ahead-less (p ∷ ps) =
      let start = (part_window p).start in
      sum-le _ _ _ _ (one-less at past start (one_ahead at start) (one_ahead past start) le (one-is at start)
      (one-is past start)) (ahead-less ps)

  -- fewer partitions start ahead once one is passed
  pub ahead-passed : (ps : List Partition) (i : ℕ) → i < length ps → at ≤ start_of ps i → start_of ps i < past
      → ahead past ps < ahead at ps
  ahead-passed [] i lt from to = absurd (omega arith)
  ahead-passed (p ∷ ps) zero lt from to =
      let start = (part_window p).start in
      sum-lt _ _ _ _ (one-passed at past start (one_ahead at start) (one_ahead past start) from to (one-is at start)
      (one-is past start)) (ahead-less ps)
  ahead-passed (p ∷ ps) (suc i) lt from to =
      let start = (part_window p).start in
      sum-lt-rest _ _ _ _ (one-less at past start (one_ahead at start) (one_ahead past start) le (one-is at start)
      (one-is past start)) (ahead-passed ps i (omega (arith, lt)) from to)

-- where there are none, each starts before
pub ahead-none : (at : ℕ) (ps : List Partition) → ahead at ps ≤ 0 → (j : ℕ) → j < length ps → start_of ps j < at
ahead-none at [] none j lt = absurd (omega arith)
ahead-none at (p ∷ ps) none zero lt = by (one-is at (part_window p).start)
  where
    by : IsOneAhead at (part_window p).start (one_ahead at (part_window p).start) → (part_window p).start < at
    by (inl hit) = absurd (too_many (one_ahead at (part_window p).start) (ahead at ps) hit.1 none)
      where
        too_many : (a b : ℕ) → a ≡ 1 → a + b ≤ 0 → ⊥
        too_many a b is le = omega arith
    by (inr miss) = miss.0
ahead-none at (p ∷ ps) none (suc j) lt =
    ahead-none at ps (rest (one_ahead at (part_window p).start) (ahead at ps) none) j (omega (arith, lt))
  where
    rest : (a b : ℕ) → a + b ≤ 0 → b ≤ 0
    rest a b le = omega arith
