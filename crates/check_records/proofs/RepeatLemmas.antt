-- Steps that are done again from a content that differs only where they erase and raise.
use Rattle.std.proofs.Common.{◌≡◌, ◌⊎◌, inl, inr, ℕ, zero, suc, ◌+◌, ◌-◌, ◌*◌, ◌/◌, ◌<◌, ◌≤◌, ◌==◌, Bool, true, false, cond, List, [], ◌∷◌, ◌++◌, length, get_or, slice_index, slice_set, bit_and, bit_or, Some, None, refl, sym, ap, ◌∙◌, subst, arith, append_assoc, length-set}
use Rattle.std.specs.Prelude.{◌&&◌, ◌||◌, max, not}
use Rattle.std.specs.Int.{bit_at}
use Rattle.std.specs.List.{AllByRecursion, list_any}
use Rattle.std.proofs.lemmas.Bool.{cases_Bool, cases_eq, cases_lt, cases_order, eq-eqb, eqb-false, eqb-true, ne_eqb, or_left, or_right}
use Rattle.std.proofs.lemmas.List.{ext_get_or, get_or-set_other, get_or-set_same, set_past}
use Rattle.std.proofs.lemmas.List.Folds.{list_any-append}
use Rattle.std.proofs.lemmas.Nat.Bits.{bit_at-lt, bit_at_above, bit_at_or, same_from_bits}
use Rattle.pico_board.specs.declared.Step.{Step}
use Rattle.pico_board.specs.declared.Step.TheVariants.{Erase, Program, Raise}
use Rattle.pico_board.specs.Content.{Content}
use Rattle.pico_board.specs.Steps.{CutOf, SameOutside, Torn, after, after_all, changed}
use Rattle.pico_board.proofs.ChangedLemmas.{changed-inside, changed-outside, changed-same, length-changed}
use Rattle.check_records.specs.Examples.{short_content}
use Rattle.check_records.specs.Repeats.{DiffersOnlyIn, raises_bit}
use Rattle.check_records.specs.Unerased.{erases, first_unerased, is_unerased, unerased_from}

past : (xs : List ℕ) (i : ℕ) → length xs ≤ i → get_or xs i 0 ≡ 0
past [] i le = refl
past (x ∷ xs) zero le = absurd (omega (arith, le))
past (x ∷ xs) (suc i) le = past xs i (omega (arith, le))

both-past : (f : ℕ → ℕ → ℕ) (at n : ℕ) (xs ys : List ℕ) (i : ℕ) → length ys ≡ length xs → length xs ≤ i
    → get_or (changed f at n ys) i 0 ≡ get_or (changed f at n xs) i 0
both-past f at n xs ys i long le =
    let one = length-changed f at n xs in
    let two = length-changed f at n ys in
    past (changed f at n ys) i (omega (arith, two, long, le)) ∙ sym (past (changed f at n xs) i (omega (arith, one, le)))

-- an element that two lists share is shared after a change of both
pub changed-agree : (f : ℕ → ℕ → ℕ) (at n : ℕ) (xs ys : List ℕ) (i : ℕ) → length ys ≡ length xs
    → get_or ys i 0 ≡ get_or xs i 0 → get_or (changed f at n ys) i 0 ≡ get_or (changed f at n xs) i 0
changed-agree f at n xs ys i long same = elim (cases_lt i (length xs)) [
  | inr le ↦ both-past f at n xs ys i long le
  | inl lt ↦ elim (cases_lt i at) [
    | inl below ↦ changed-outside f at n ys i (inl below) ∙ (same ∙ sym (changed-outside f at n xs i (inl below)))
    | inr low ↦ elim (cases_lt i (at + n)) [
      | inl high ↦ changed-inside f at n ys i low high (omega (arith, lt, long))
          ∙ (ap (λ x. f (i - at) x) same ∙ sym (changed-inside f at n xs i low high lt))
      | inr above ↦ changed-outside f at n ys i (inr above) ∙ (same ∙ sym (changed-outside f at n xs i (inr above)))
    ]
  ]
]

-- an element of a range that is erased in both
erased-agree : (at n : ℕ) (xs ys : List ℕ) (i : ℕ) → length ys ≡ length xs → at ≤ i → i < at + n
    → get_or (changed (λ i b. 255) at n ys) i 0 ≡ get_or (changed (λ i b. 255) at n xs) i 0
erased-agree at n xs ys i long low high = elim (cases_lt i (length xs)) [
  | inr le ↦ both-past (λ i b. 255) at n xs ys i long le
  | inl lt ↦ changed-inside (λ i b. 255) at n ys i low high (omega (arith, lt, long))
      ∙ sym (changed-inside (λ i b. 255) at n xs i low high lt)
]

-- what a program makes of the bytes of its page
abbrev programmed : List ℕ → ℕ → ℕ → ℕ
programmed bytes i b = bit_and b (slice_index bytes i)

-- a later step does what the first one does not
later-any : (b rest : Bool) → b ≡ false → (b || rest) ≡ true → rest ≡ true
later-any true rest lacks holds = cc
later-any false rest lacks holds = holds

abbrev raised : List ℕ → ℕ → ℕ → List ℕ
raised xs r b = slice_set xs r (bit_or (slice_index xs r) b)

raised-other : (xs : List ℕ) (r b row : ℕ) → (row ≡ r → ⊥) → slice_index (raised xs r b) row ≡ slice_index xs row
raised-other xs r b row other = get_or-set_other xs r row (bit_or (slice_index xs r) b) 0 other

raised-past : (xs : List ℕ) (r b row : ℕ) → length xs ≤ r → slice_index (raised xs r b) row ≡ slice_index xs row
raised-past xs r b row le = ap (λ (ys : List ℕ). get_or ys row 0) (grind (arith, set_past))

raised-same : (xs : List ℕ) (r b k : ℕ) → r < length xs
    → bit_at (slice_index (raised xs r b) r) k ≡ max (bit_at (slice_index xs r) k) (bit_at b k)
raised-same xs r b k lt =
    ap (λ v. bit_at v k) (get_or-set_same xs r (bit_or (slice_index xs r) b) 0 lt) ∙ bit_at_or (slice_index xs r) b k

bit-few : (v k : ℕ) → (bit_at v k == 1) ≡ false → bit_at v k ≡ 0
bit-few v k lacks = go (bit_at v k) (bit_at-lt v k) (eqb-false (bit_at v k) 1 lacks)
  where
    go : (b : ℕ) → b < 2 → (b ≡ 1 → ⊥) → b ≡ 0
    go zero lt other = refl
    go (suc zero) lt other = absurd (other refl)
    go (suc (suc b)) lt other = absurd (omega (arith, lt))

-- a bit that the raise does not have
kept-bit : (xs : List ℕ) (r b row k : ℕ) → (r == row && bit_at b k == 1) ≡ false
    → bit_at (slice_index (raised xs r b) row) k ≡ bit_at (slice_index xs row) k
kept-bit xs r b row k lacks = elim (cases_eq row r) [
  | inr other ↦ ap (λ v. bit_at v k) (raised-other xs r b row other)
  | inl same ↦ elim (cases_lt r (length xs)) [
    | inr le ↦ ap (λ v. bit_at v k) (raised-past xs r b row le)
    | inl lt ↦ subst (λ (j : ℕ). bit_at (slice_index (raised xs r b) j) k ≡ bit_at (slice_index xs j) k) (sym same)
        (let now = raised-same xs r b k lt in
        let none = bit-few b k (not-bit (r == row) (bit_at b k == 1) (eq-eqb r row (sym same)) lacks) in
        omega (arith, now, none))
  ]
]
  where
    not-bit : (x y : Bool) → x ≡ true → (x && y) ≡ false → y ≡ false
    not-bit true y holds lacks = lacks
    not-bit false y holds lacks = cc

-- a bit that two lists of rows share is shared after a raise of both
shared-bit : (xs ys : List ℕ) (r b row k : ℕ) → length ys ≡ length xs
    → bit_at (slice_index ys row) k ≡ bit_at (slice_index xs row) k
    → bit_at (slice_index (raised ys r b) row) k ≡ bit_at (slice_index (raised xs r b) row) k
shared-bit xs ys r b row k long same = elim (cases_eq row r) [
  | inr other ↦ ap (λ v. bit_at v k) (raised-other ys r b row other)
      ∙ (same ∙ sym (ap (λ v. bit_at v k) (raised-other xs r b row other)))
  | inl here ↦ elim (cases_lt r (length xs)) [
    | inr le ↦ ap (λ v. bit_at v k) (raised-past ys r b row (omega (arith, le, long)))
        ∙ (same ∙ sym (ap (λ v. bit_at v k) (raised-past xs r b row le)))
    | inl lt ↦ subst (λ (j : ℕ). bit_at (slice_index ys j) k ≡ bit_at (slice_index xs j) k
        → bit_at (slice_index (raised ys r b) j) k ≡ bit_at (slice_index (raised xs r b) j) k) (sym here)
        (λ agree. let one = raised-same xs r b k lt in
        let two = raised-same ys r b k (omega (arith, lt, long)) in omega (arith, one, two, agree)) same
  ]
]

-- a bit that the raise has is the same in both
raised-bit : (xs ys : List ℕ) (r b row k : ℕ) → length ys ≡ length xs → (r == row && bit_at b k == 1) ≡ true
    → bit_at (slice_index (raised ys r b) row) k ≡ bit_at (slice_index (raised xs r b) row) k
raised-bit xs ys r b row k long holds =
    let parts = both-true (r == row) (bit_at b k == 1) holds in
    let here : r ≡ row = eqb-true r row parts.0 in
    let one : bit_at b k ≡ 1 = eqb-true (bit_at b k) 1 parts.1 in
    subst (λ (j : ℕ). bit_at (slice_index (raised ys r b) j) k ≡ bit_at (slice_index (raised xs r b) j) k) here
    (elim (cases_lt r (length xs)) [
      | inr le ↦ past-both le
      | inl lt ↦ let first = raised-same xs r b k lt in
          let second = raised-same ys r b k (omega (arith, lt, long)) in
          let low = bit_at-lt (slice_index xs r) k in
          let also = bit_at-lt (slice_index ys r) k in omega (arith, first, second, one, low, also)
    ])
  where
    both-true : (x y : Bool) → (x && y) ≡ true → (x ≡ true) × (y ≡ true)
    both-true true true e = (refl, refl)
    both-true true false e = cc
    both-true false y e = cc

    past-both : length xs ≤ r
        → bit_at (slice_index (raised ys r b) r) k ≡ bit_at (slice_index (raised xs r b) r) k
    past-both le =
        ap (λ v. bit_at v k)
        (raised-past ys r b r (omega (arith, le, long)) ∙ (past ys r (omega (arith, le, long))
        ∙ sym (raised-past xs r b r le ∙ past xs r le)))

-- one step from both contents
step-differs : (step : Step) (steps : List Step) (c d : Content) → DiffersOnlyIn (step ∷ steps) c d
    → DiffersOnlyIn steps (after c step) (after d step)
step-differs (Erase s) steps c d by = record {
  flash = let one = length-changed (λ i b. 255) (4096 * s) 4096 c.flash in
      let two = length-changed (λ i b. 255) (4096 * s) 4096 d.flash in let same = by.flash in omega (arith, one, two, same);
  otp = by.otp;
  bytes = λ i. elim (cases_eq s (i / 4096)) [
    | inl here ↦ inl (erased-agree (4096 * s) 4096 c.flash d.flash i by.flash (omega (arith, here)) (omega (arith, here)))
    | inr other ↦ elim (by.bytes i) [
      | inl same ↦ inl (changed-agree (λ i b. 255) (4096 * s) 4096 c.flash d.flash i by.flash same)
      | inr later ↦ inr (later-any (s == i / 4096) _ (ne_eqb s (i / 4096) other) later)
    ]
  ];
  bits = λ row k. by.bits row k;
}
step-differs (Program p data_) steps c d by = record {
  flash = let one = length-changed (programmed data_) (256 * p) 256 c.flash in
      let two = length-changed (programmed data_) (256 * p) 256 d.flash in let same = by.flash in omega (arith, one, two, same);
  otp = by.otp;
  bytes = λ i. elim (by.bytes i) [
    | inl same ↦ inl (changed-agree (programmed data_) (256 * p) 256 c.flash d.flash i by.flash same)
    | inr later ↦ inr later
  ];
  bits = λ row k. by.bits row k;
}
step-differs (Raise r b) steps c d by = record {
  flash = by.flash;
  otp = let one = length-set c.otp r (bit_or (slice_index c.otp r) b) in
      let two = length-set d.otp r (bit_or (slice_index d.otp r) b) in let same = by.otp in omega (arith, one, two, same);
  bytes = λ i. by.bytes i;
  bits = λ row k. elim (cases_Bool (r == row && bit_at b k == 1)) [
    | inl holds ↦ inl (raised-bit c.otp d.otp r b row k by.otp holds)
    | inr lacks ↦ elim (by.bits row k) [
      | inl same ↦ inl (shared-bit c.otp d.otp r b row k by.otp same)
      | inr later ↦ inr (later-any (r == row && bit_at b k == 1) _ lacks later)
    ]
  ];
}

never : (P : Type 0) → false ≡ true → P
never P e = cc

-- where nothing is left to do both are one
none-differs : (c d : Content) → DiffersOnlyIn [] c d → d ≡ c
none-differs c d by =
    ap (λ (xs : List ℕ). content_of xs d.otp) flash ∙ ap (λ (ys : List ℕ). content_of c.flash ys) otp
  where
    content_of : List ℕ → List ℕ → Content
    content_of xs ys = record { flash = xs; otp = ys }

    flash : d.flash ≡ c.flash
    flash = ext_get_or 0 d.flash c.flash by.flash (λ i lt. elim (by.bytes i) [
      | inl same ↦ same
      | inr later ↦ never (get_or d.flash i 0 ≡ get_or c.flash i 0) later
    ])

    otp : d.otp ≡ c.otp
    otp = ext_get_or 0 d.otp c.otp by.otp (λ row lt.
        same_from_bits (slice_index d.otp row) (slice_index c.otp row) (λ k. elim (by.bits row k) [
          | inl same ↦ same
          | inr later ↦ never (bit_at (slice_index d.otp row) k ≡ bit_at (slice_index c.otp row) k) later
        ]))

pub same-end : (steps : List Step) (c d : Content) → DiffersOnlyIn steps c d → after_all d steps ≡ after_all c steps
same-end [] c d by = none-differs c d by
same-end (step ∷ steps) c d by = same-end steps (after c step) (after d step) (step-differs step steps c d by)

-- a step changes only what the list erases or raises
abbrev IsCovered : List Step → Step → Type 0
IsCovered all (Erase s) = list_any (erases s) all ≡ true
IsCovered all (Program p d) = list_any (erases (p / 16)) all ≡ true
IsCovered all (Raise r b) =
    (row k : ℕ) → (r == row && bit_at b k == 1) ≡ true → list_any (raises_bit row k) all ≡ true

abbrev AreCovered : List Step → List Step → Type 0
AreCovered all steps = AllByRecursion (IsCovered all) steps

differs-not : (all : List Step) (c : Content) → DiffersOnlyIn all c c
differs-not all c = record {
  flash = refl;
  otp = refl;
  bytes = λ i. inl refl;
  bits = λ row k. inl refl;
}

differs-twice : (all : List Step) (c m d : Content) → DiffersOnlyIn all c m → DiffersOnlyIn all m d
    → DiffersOnlyIn all c d
differs-twice all c m d one two = record {
  flash = two.flash ∙ one.flash;
  otp = two.otp ∙ one.otp;
  bytes = λ i. elim (one.bytes i) [
    | inr holds ↦ inr holds
    | inl first ↦ elim (two.bytes i) [ inr holds ↦ inr holds | inl same ↦ inl (same ∙ first) ]
  ];
  bits = λ row k. elim (one.bits row k) [
    | inr holds ↦ inr holds
    | inl first ↦ elim (two.bits row k) [ inr holds ↦ inr holds | inl same ↦ inl (same ∙ first) ]
  ];
}

-- bytes that differ only in a range that lies in a sector of the list
outside-differs : (all : List Step) (c d : Content) (at n sector : ℕ) → SameOutside at n c.flash d.flash
    → d.otp ≡ c.otp → 4096 * sector ≤ at → at + n ≤ 4096 * sector + 4096 → list_any (erases sector) all ≡ true
    → DiffersOnlyIn all c d
outside-differs all c d at n sector same rows low high holds = record {
  flash = same.long;
  otp = ap (λ (xs : List ℕ). length xs) rows;
  bytes = λ i. elim (cases_lt i at) [
    | inl below ↦ inl (same.below i below)
    | inr from ↦ elim (cases_lt i (at + n)) [
      | inr above ↦ inl (same.above i above)
      | inl inside ↦
          let here : sector ≡ i / 4096 = omega (arith, low, high, from, inside) in
          inr (subst (λ (s : ℕ). list_any (erases s) all ≡ true) here holds)
    ]
  ];
  bits = λ row k. inl (ap (λ (xs : List ℕ). bit_at (slice_index xs row) k) rows);
}

page-low : (p : ℕ) → 4096 * (p / 16) ≤ 256 * p
page-low p = omega arith

page-high : (p : ℕ) → 256 * p + 256 ≤ 4096 * (p / 16) + 4096
page-high p = omega arith

-- a row in which each bit is as it was or as the raise leaves it
raise-differs : (all : List Step) (c d : Content) (r b : ℕ) → SameOutside r 1 c.otp d.otp → d.flash ≡ c.flash
    → ((k : ℕ) → (bit_at (slice_index d.otp r) k ≡ bit_at (slice_index c.otp r) k)
    ⊎ (bit_at (slice_index d.otp r) k ≡ bit_at (slice_index (raised c.otp r b) r) k))
    → IsCovered all (Raise r b) → DiffersOnlyIn all c d
raise-differs all c d r b same flash between covered = record {
  flash = ap (λ (xs : List ℕ). length xs) flash;
  otp = same.long;
  bytes = λ i. inl (ap (λ (xs : List ℕ). slice_index xs i) flash);
  bits = λ row k. elim (cases_eq row r) [
    | inr other ↦ inl (ap (λ v. bit_at v k) (outside row other))
    | inl here ↦ subst (λ (j : ℕ). (bit_at (slice_index d.otp j) k ≡ bit_at (slice_index c.otp j) k)
        ⊎ (list_any (raises_bit j k) all ≡ true)) (sym here) (at-row k)
  ];
}
  where
    outside : (row : ℕ) → (row ≡ r → ⊥) → slice_index d.otp row ≡ slice_index c.otp row
    outside row other = elim (cases_order row r) [
      | inl here ↦ absurd (other here)
      | inr (inl below) ↦ same.below row below
      | inr (inr above) ↦ same.above row (omega (arith, above))
    ]

    at-row : (k : ℕ) → (bit_at (slice_index d.otp r) k ≡ bit_at (slice_index c.otp r) k)
        ⊎ (list_any (raises_bit r k) all ≡ true)
    at-row k = elim (cases_Bool (r == r && bit_at b k == 1)) [
      | inl holds ↦ inr (covered r k holds)
      | inr lacks ↦ elim (between k) [
        | inl agree ↦ inl agree
        | inr agree ↦ inl (agree ∙ kept-bit c.otp r b r k lacks)
      ]
    ]

torn-differs : (all : List Step) (c : Content) (step : Step) (d : Content) → IsCovered all step → Torn c step d
    → DiffersOnlyIn all c d
torn-differs all c (Erase s) d covered torn =
    outside-differs all c d (4096 * s) 4096 s torn.outside torn.rows (omega arith) (omega arith) covered
torn-differs all c (Program p bytes) d covered torn =
    outside-differs all c d (256 * p) 256 (p / 16) torn.outside torn.rows (page-low p) (page-high p) covered
torn-differs all c (Raise r b) d covered torn = raise-differs all c d r b torn.outside torn.bytes torn.between covered

done-differs : (all : List Step) (c : Content) (step : Step) → IsCovered all step → DiffersOnlyIn all c (after c step)
done-differs all c (Erase s) covered =
    outside-differs all c (after c (Erase s)) (4096 * s) 4096 s (changed-same (λ i b. 255) (4096 * s) 4096 c.flash) refl
    (omega arith) (omega arith) covered
done-differs all c (Program p bytes) covered =
    outside-differs all c (after c (Program p bytes)) (256 * p) 256 (p / 16)
    (changed-same (programmed bytes) (256 * p) 256 c.flash) refl (page-low p) (page-high p) covered
done-differs all c (Raise r b) covered =
    raise-differs all c (after c (Raise r b)) r b (record {
      long = length-set c.otp r (bit_or (slice_index c.otp r) b);
      below = λ i lt. raised-other c.otp r b i (λ same. absurd (omega (arith, lt, same)));
      above = λ i le. raised-other c.otp r b i (λ same. absurd (omega (arith, le, same)));
    }) refl (λ k. inr refl) covered

cut-differs : (all steps : List Step) (c d : Content) → AreCovered all steps → CutOf c steps d → DiffersOnlyIn all c d
cut-differs all [] c d covered cut = absurd cut
cut-differs all (step ∷ steps) c d covered (inl torn) = torn-differs all c step d covered.0 torn
cut-differs all (step ∷ steps) c d covered (inr later) =
    differs-twice all c (after c step) d (done-differs all c step covered.0)
    (cut-differs all steps (after c step) d covered.1 later)

-- the steps of a list in which each program's sector is erased before it
any-behind : (p : Step → Bool) (before : List Step) (step : Step) (behind : List Step) → p step ≡ true
    → list_any p (before ++ step ∷ behind) ≡ true
any-behind p before step behind holds =
    list_any-append p before (step ∷ behind)
    ∙ or_right (list_any p before) (p step || list_any p behind) (or_left (p step) (list_any p behind) holds)

any-before : (p : Step → Bool) (before behind : List Step) → list_any p before ≡ true
    → list_any p (before ++ behind) ≡ true
any-before p before behind holds =
    list_any-append p before behind ∙ or_left (list_any p before) (list_any p behind) holds

step-covered : (before : List Step) (step : Step) (behind : List Step) → is_unerased before step ≡ false
    → IsCovered (before ++ step ∷ behind) step
step-covered before (Erase s) behind bare =
    any-behind (erases s) before (Erase s) behind (eq-eqb s s refl)
step-covered before (Program p d) behind bare =
    any-before (erases (p / 16)) before (Program p d ∷ behind) (go (list_any (erases (p / 16)) before) bare)
  where
    go : (b : Bool) → not b ≡ false → b ≡ true
    go true e = refl
    go false e = cc
step-covered before (Raise r b) behind bare = λ row k holds. any-behind (raises_bit row k) before (Raise r b) behind holds

all-covered : (before steps : List Step) (k : ℕ) → unerased_from before k steps ≡ None
    → AreCovered (before ++ steps) steps
all-covered before [] k none = tt
all-covered before (step ∷ steps) k none =
    let here = split (is_unerased before step) none in (
      step-covered before step steps here.0,
      subst (λ (all : List Step). AreCovered all steps) (append_assoc before (step ∷ []) steps)
          (all-covered (before ++ step ∷ []) steps (k + 1) here.1),
    )
  where
    split : (b : Bool) → cond b (Some k) (unerased_from (before ++ step ∷ []) (k + 1) steps) ≡ None
        → (b ≡ false) × (unerased_from (before ++ step ∷ []) (k + 1) steps ≡ None)
    split true e = cc
    split false e = (refl, e)

pub cut-differs-only : (steps : List Step) (c d : Content) → first_unerased steps ≡ None → CutOf c steps d
    → DiffersOnlyIn steps c d
cut-differs-only steps c d none cut = cut-differs steps steps c d (all-covered [] steps 0 none) cut

pub cut-again : (steps : List Step) (c d : Content) → first_unerased steps ≡ None → CutOf c steps d
    → after_all d steps ≡ after_all c steps
cut-again steps c d none cut = same-end steps c d (cut-differs-only steps c d none cut)

bit_at-none : (k : ℕ) → bit_at 0 k ≡ 0
bit_at-none k = bit_at_above 0 0 k (omega arith) (omega arith)

-- two short contents that differ in a sector and in a bit
pub short-differs : DiffersOnlyIn (Erase 0 ∷ Raise 1 4 ∷ []) (short_content 1 2 3 0) (short_content 7 2 3 4)
short-differs = record {
  flash = refl;
  otp = refl;
  bytes = bytes;
  bits = bits;
}
  where
    bytes : (i : ℕ) → (slice_index (short_content 7 2 3 4).flash i ≡ slice_index (short_content 1 2 3 0).flash i)
        ⊎ (list_any (erases (i / 4096)) (Erase 0 ∷ Raise 1 4 ∷ []) ≡ true)
    bytes zero = inr refl
    bytes (suc zero) = inl refl
    bytes (suc (suc i)) = inl refl

    bits : (row k : ℕ) → (bit_at (slice_index (short_content 7 2 3 4).otp row) k
        ≡ bit_at (slice_index (short_content 1 2 3 0).otp row) k)
        ⊎ (list_any (raises_bit row k) (Erase 0 ∷ Raise 1 4 ∷ []) ≡ true)
    bits zero k = inl refl
    bits (suc zero) k = elim (cases_Bool (bit_at 4 k == 1)) [
      | inl holds ↦ inr (ap (λ b. b || false) holds)
      | inr lacks ↦ inl (bit-few 4 k lacks ∙ sym (bit_at-none k))
    ]
    bits (suc (suc row)) k = inl refl
