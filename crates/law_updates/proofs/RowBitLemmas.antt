-- The bits of the rows of an OTP, as steps that raise them leave them, done or cut.
use Rattle.std.proofs.Common.{◌≡◌, ◌⊎◌, inl, inr, ℕ, ◌+◌, ◌<◌, ◌≤◌, ◌==◌, Bool, true, false, cond, List, [], ◌∷◌, ◌++◌, length, get_or, slice_index, bit_or, refl, sym, ap, ◌∙◌, subst, arith, length-set}
use Rattle.std.specs.Prelude.{◌&&◌, max, nat_lt}
use Rattle.std.specs.Int.{bit_at}
use Rattle.std.specs.List.{AllByRecursion}
use Rattle.std.proofs.lemmas.Bool.{cases_eq, cases_lt, eq-eqb, ne_eqb}
use Rattle.std.proofs.lemmas.List.{ext_get_or, get_or-set_other, get_or-set_same, set_past}
use Rattle.std.proofs.lemmas.Nat.Bits.{bit_at_or, same_from_bits}
use Rattle.pico_board.specs.declared.Step.{Step}
use Rattle.pico_board.specs.declared.step.Step.TheVariants.{Erase, Program, Raise}
use Rattle.pico_board.specs.Content.{Content}
use Rattle.pico_board.specs.Steps.{CutOf, IsRaise, Torn, after, after_all}
use Rattle.pico_board.proofs.StepLemmas.{CutOf-append_cases}
use Rattle.law_updates.specs.Raised.{IsRaiseOf}

-- a bit of a row
abbrev pub row_bit : Content → ℕ → ℕ → ℕ
row_bit c row k = bit_at (slice_index c.otp row) k

-- the bit that a step adds to a row of n rows
abbrev pub step_bit : ℕ → Step → ℕ → ℕ → ℕ
step_bit n (Erase s) row k = 0
step_bit n (Program p d) row k = 0
step_bit n (Raise r b) row k = cond (r == row && nat_lt r n) (bit_at b k) 0

-- the bit that some of the steps add
abbrev pub added : ℕ → List Step → ℕ → ℕ → ℕ
added n [] row k = 0
added n (step ∷ steps) row k = max (step_bit n step row k) (added n steps row k)

and-both : (a b : Bool) → a ≡ true → b ≡ true → (a && b) ≡ true
and-both true true e f = refl
and-both true false e f = cc
and-both false b e f = cc

and-first : (a b : Bool) → a ≡ false → (a && b) ≡ false
and-first false b e = refl
and-first true b e = cc

and-second : (a b : Bool) → b ≡ false → (a && b) ≡ false
and-second true b e = e
and-second false b e = refl

lt-is : (r n : ℕ) → r < n → nat_lt r n ≡ true
lt-is r n lt = grind (arith, lt)

ge-is : (r n : ℕ) → n ≤ r → nat_lt r n ≡ false
ge-is r n le = grind (arith, le)

-- a raise of a row inside adds its bits there
pub raise-here : (n r b k : ℕ) → r < n → step_bit n (Raise r b) r k ≡ bit_at b k
raise-here n r b k lt =
    ap (λ t. cond t (bit_at b k) 0) (and-both (r == r) (nat_lt r n) (eq-eqb r r refl) (lt-is r n lt))

pub raise-there : (n r b row k : ℕ) → (r ≡ row → ⊥) → step_bit n (Raise r b) row k ≡ 0
raise-there n r b row k other = ap (λ t. cond t (bit_at b k) 0) (and-first (r == row) (nat_lt r n) (ne_eqb r row other))

pub raise-past : (n r b row k : ℕ) → n ≤ r → step_bit n (Raise r b) row k ≡ 0
raise-past n r b row k le = ap (λ t. cond t (bit_at b k) 0) (and-second (r == row) (nat_lt r n) (ge-is r n le))

pub raise-most : (n r b row k : ℕ) → step_bit n (Raise r b) row k ≤ bit_at b k
raise-most n r b row k = go (r == row && nat_lt r n)
  where
    go : (t : Bool) → cond t (bit_at b k) 0 ≤ bit_at b k
    go true = omega arith
    go false = omega arith

-- the rows after a step
pub long-after : (c : Content) (step : Step) → length (after c step).otp ≡ length c.otp
long-after c (Erase s) = refl
long-after c (Program p d) = refl
long-after c (Raise r b) = length-set c.otp r (bit_or (slice_index c.otp r) b)

pub bit-after : (c : Content) (step : Step) (row k : ℕ)
    → row_bit (after c step) row k ≡ max (row_bit c row k) (step_bit (length c.otp) step row k)
bit-after c (Erase s) row k = omega arith
bit-after c (Program p d) row k = omega arith
bit-after c (Raise r b) row k = elim (cases_eq r row) [
  | inr other ↦
      (let none = raise-there (length c.otp) r b row k other in
      let same = ap (λ v. bit_at v k)
      (get_or-set_other c.otp r row (bit_or (slice_index c.otp r) b) 0 (λ e. other (sym e))) in
      omega (arith, none, same))
  | inl here ↦ subst (λ j. row_bit (after c (Raise r b)) j k
      ≡ max (row_bit c j k) (step_bit (length c.otp) (Raise r b) j k))
      here (elim (cases_lt r (length c.otp)) [
        | inl lt ↦
            (let all = raise-here (length c.otp) r b k lt in
            let now = ap (λ v. bit_at v k) (get_or-set_same c.otp r (bit_or (slice_index c.otp r) b) 0 lt) in
            let both = bit_at_or (slice_index c.otp r) b k in omega (arith, all, now, both))
        | inr le ↦
            (let none = raise-past (length c.otp) r b r k le in
            let same : row_bit (after c (Raise r b)) r k ≡ row_bit c r k =
            ap (λ (ys : List ℕ). bit_at (get_or ys r 0) k) (grind (arith, set_past)) in omega (arith, none, same))
      ])
]

pub long-all : (c : Content) (steps : List Step) → length (after_all c steps).otp ≡ length c.otp
long-all c [] = refl
long-all c (step ∷ steps) = long-all (after c step) steps ∙ long-after c step

pub bit-all : (c : Content) (steps : List Step) (row k : ℕ)
    → row_bit (after_all c steps) row k ≡ max (row_bit c row k) (added (length c.otp) steps row k)
bit-all c [] row k = omega arith
bit-all c (step ∷ steps) row k =
    let one = bit-after c step row k in
    let rest = bit-all (after c step) steps row k in
    let same = ap (λ n. added n steps row k) (long-after c step) in
    omega (arith, one, rest, same)

pub added-append : (n : ℕ) (xs ys : List Step) (row k : ℕ)
    → added n (xs ++ ys) row k ≡ max (added n xs row k) (added n ys row k)
added-append n [] ys row k = omega arith
added-append n (x ∷ xs) ys row k = let rest = added-append n xs ys row k in omega (arith, rest)

-- what a loss of power within a step leaves lies between
pub torn-between : (c : Content) (step : Step) (d : Content) → Torn c step d → (row k : ℕ)
    → (row_bit c row k ≤ row_bit d row k)
    × (row_bit d row k ≤ max (row_bit c row k) (step_bit (length c.otp) step row k))
torn-between c (Erase s) d torn row k =
    let same = ap (λ (xs : List ℕ). bit_at (slice_index xs row) k) torn.rows in
    (omega (arith, same), omega (arith, same))
torn-between c (Program p bytes) d torn row k =
    let same = ap (λ (xs : List ℕ). bit_at (slice_index xs row) k) torn.rows in
    (omega (arith, same), omega (arith, same))
torn-between c (Raise r b) d torn row k = elim (cases_eq row r) [
  | inr other ↦
      (let same = ap (λ v. bit_at v k) (outside other) in (omega (arith, same), omega (arith, same)))
  | inl here ↦
      (let all = bit-after c (Raise r b) r k in
      subst (λ j. (row_bit c j k ≤ row_bit d j k)
      × (row_bit d j k ≤ max (row_bit c j k) (step_bit (length c.otp) (Raise r b) j k))) (sym here)
      (elim (torn.between k) [
        | inl same ↦ (omega (arith, same), omega (arith, same))
        | inr done ↦ (omega (arith, done, all), omega (arith, done, all))
      ]))
]
  where
    outside : (row ≡ r → ⊥) → slice_index d.otp row ≡ slice_index c.otp row
    outside other = elim (cases_lt row r) [
      | inl below ↦ torn.outside.below row below
      | inr from ↦ torn.outside.above row (above from (λ e. other e))
    ]
      where
        above : r ≤ row → (row ≡ r → ⊥) → r + 1 ≤ row
        above le ne = elim (cases_lt r row) [
          | inl lt ↦ omega (arith, lt)
          | inr ge ↦ absurd (ne (omega (arith, le, ge)))
        ]

pub torn-long : (c : Content) (step : Step) (d : Content) → Torn c step d → length d.otp ≡ length c.otp
torn-long c (Erase s) d torn = ap (λ (xs : List ℕ). length xs) torn.rows
torn-long c (Program p bytes) d torn = ap (λ (xs : List ℕ). length xs) torn.rows
torn-long c (Raise r b) d torn = torn.outside.long

pub cut-long : (c : Content) (steps : List Step) (d : Content) → CutOf c steps d → length d.otp ≡ length c.otp
cut-long c [] d cut = absurd cut
cut-long c (step ∷ steps) d (inl torn) = torn-long c step d torn
cut-long c (step ∷ steps) d (inr later) = cut-long (after c step) steps d later ∙ long-after c step

pub cut-between : (c : Content) (steps : List Step) (d : Content) → CutOf c steps d → (row k : ℕ)
    → (row_bit c row k ≤ row_bit d row k)
    × (row_bit d row k ≤ max (row_bit c row k) (added (length c.otp) steps row k))
cut-between c [] d cut row k = absurd cut
cut-between c (step ∷ steps) d (inl torn) row k =
    let both = torn-between c step d torn row k in
    let one = both.0 in
    let two = both.1 in (omega (arith, one), omega (arith, two))
cut-between c (step ∷ steps) d (inr later) row k =
    let both = cut-between (after c step) steps d later row k in
    let one = both.0 in
    let two = both.1 in
    let here = bit-after c step row k in
    let same = ap (λ n. added n steps row k) (long-after c step) in
    (omega (arith, one, here), omega (arith, two, here, same))

-- The rows of d lie between those of c and those after the steps. Of each two parts of the steps, the first is done in
-- them whole, or nothing but it is done. Rows that are free may have more bits.
pub record LiesIn (Free : ℕ → Type 0) (n : ℕ) (steps : List Step) (c d : Content) : Type 0 where
  pub former_long : length c.otp ≡ n
  pub long : length d.otp ≡ n
  pub risen : (row k : ℕ) → row_bit c row k ≤ row_bit d row k
  pub few : (row k : ℕ) → (Free row → ⊥) → row_bit d row k ≤ max (row_bit c row k) (added n steps row k)
  pub ordered : (xs ys : List Step) → steps ≡ xs ++ ys
      → ((row k : ℕ) → (Free row → ⊥) → row_bit d row k ≤ max (row_bit c row k) (added n xs row k))
      ⊎ ((row k : ℕ) → added n xs row k ≤ row_bit d row k)

pub lies-self : (Free : ℕ → Type 0) (steps : List Step) (c : Content) → LiesIn Free (length c.otp) steps c c
lies-self Free steps c = record {
  former_long = refl;
  long = refl;
  risen = λ row k. omega arith;
  few = λ row k held. omega arith;
  ordered = λ xs ys whole. inl (λ row k held. omega arith);
}

-- a further loss of power in the steps
pub lies-on : (Free : ℕ → Type 0) (n : ℕ) (c : Content) (steps : List Step) (x d : Content)
    → LiesIn Free n steps c x → CutOf x steps d → LiesIn Free n steps c d
lies-on Free n c steps x d lies cut = record {
  former_long = lies.former_long;
  long = cut-long x steps d cut ∙ lies.long;
  risen = λ row k. (let was = lies.risen row k in let now = (cut-between x steps d cut row k).0 in omega (arith, was, now));
  few = λ row k held.
      (let was = lies.few row k held in let now = most steps cut row k in omega (arith, was, now));
  ordered = λ xs ys whole.
      elim (CutOf-append_cases x xs ys d (subst (λ zs. CutOf x zs d) whole cut)) [
        | inl first ↦ elim (lies.ordered xs ys whole) [
          | inl nothing ↦ inl (λ row k held.
              (let was = nothing row k held in let now = most xs first row k in omega (arith, was, now)))
          | inr done ↦ inr (λ row k.
              (let was = done row k in let now = (cut-between x xs d first row k).0 in omega (arith, was, now)))
        ]
        | inr second ↦ inr (λ row k.
            (let rises = (cut-between (after_all x xs) ys d second row k).0 in
            let now = bit-all x xs row k in
            let same = ap (λ m. added m xs row k) lies.long in omega (arith, rises, now, same)))
      ];
}
  where
    most : (xs : List Step) → CutOf x xs d → (row k : ℕ)
        → row_bit d row k ≤ max (row_bit x row k) (added n xs row k)
    most xs lost row k =
        let now = (cut-between x xs d lost row k).1 in
        let same = ap (λ m. added m xs row k) lies.long in omega (arith, now, same)

-- raises of other rows than this one
held-none : (Free : ℕ → Type 0) (n : ℕ) (raises : List Step) → AllByRecursion (IsRaiseOf Free) raises → (row k : ℕ)
    → (Free row → ⊥) → added n raises row k ≡ 0
held-none Free n [] all row k held = refl
held-none Free n (step ∷ raises) all row k held =
    let rest = held-none Free n raises all.1 row k held in
    let one = first step all.0 in omega (arith, rest, one)
  where
    first : (step : Step) → IsRaiseOf Free step → step_bit n step row k ≡ 0
    first (Erase s) is = absurd is
    first (Program p d) is = absurd is
    first (Raise r b) is = raise-there n r b row k (λ same. held (subst Free same is))

-- raises of free rows
pub lies-raised : (Free : ℕ → Type 0) (n : ℕ) (c : Content) (steps : List Step) (x : Content) (raises : List Step)
    → LiesIn Free n steps c x → AllByRecursion (IsRaiseOf Free) raises → LiesIn Free n steps c (after_all x raises)
lies-raised Free n c steps x raises lies all = record {
  former_long = lies.former_long;
  long = long-all x raises ∙ lies.long;
  risen = λ row k. (let was = lies.risen row k in let now = bit-all x raises row k in omega (arith, was, now));
  few = λ row k held. (let was = lies.few row k held in let now = same row k held in omega (arith, was, now));
  ordered = λ xs ys whole. elim (lies.ordered xs ys whole) [
    | inl nothing ↦ inl (λ row k held.
        (let was = nothing row k held in let now = same row k held in omega (arith, was, now)))
    | inr done ↦ inr (λ row k.
        (let was = done row k in let now = bit-all x raises row k in omega (arith, was, now)))
  ];
}
  where
    same : (row k : ℕ) → (Free row → ⊥) → row_bit (after_all x raises) row k ≡ row_bit x row k
    same row k held =
        let now = bit-all x raises row k in
        let none = held-none Free (length x.otp) raises all row k held in omega (arith, now, none)

-- the steps of a first part are done in both
pub lies-after : (Free : ℕ → Type 0) (n : ℕ) (first rest : List Step) (c d : Content)
    → LiesIn Free n (first ++ rest) c d → LiesIn Free n rest (after_all c first) (after_all d first)
lies-after Free n first rest c d lies = record {
  former_long = long-all c first ∙ lies.former_long;
  long = long-all d first ∙ lies.long;
  risen = λ row k.
      (let one = one row k in let two = two row k in let was = lies.risen row k in omega (arith, one, two, was));
  few = λ row k held.
      (let one = one row k in let two = two row k in let was = lies.few row k held in
      let parts = added-append n first rest row k in omega (arith, one, two, was, parts));
  ordered = λ xs ys whole.
      elim (lies.ordered (first ++ xs) ys (ap (λ zs. first ++ zs) whole ∙ sym (append-assoc first xs ys))) [
        | inl nothing ↦ inl (λ row k held.
            (let one = one row k in let two = two row k in let was = nothing row k held in
            let parts = added-append n first xs row k in omega (arith, one, two, was, parts)))
        | inr done ↦ inr (λ row k.
            (let two = two row k in let was = done row k in
            let parts = added-append n first xs row k in omega (arith, two, was, parts)))
      ];
}
  where
    one : (row k : ℕ) → row_bit (after_all c first) row k ≡ max (row_bit c row k) (added n first row k)
    one row k = bit-all c first row k ∙ ap (λ m. max (row_bit c row k) (added m first row k)) lies.former_long

    two : (row k : ℕ) → row_bit (after_all d first) row k ≡ max (row_bit d row k) (added n first row k)
    two row k = bit-all d first row k ∙ ap (λ m. max (row_bit d row k) (added m first row k)) lies.long

    append-assoc : (xs ys zs : List Step) → (xs ++ ys) ++ zs ≡ xs ++ (ys ++ zs)
    append-assoc [] ys zs = refl
    append-assoc (x ∷ xs) ys zs = ap (λ ws. x ∷ ws) (append-assoc xs ys zs)

-- raises that are done already change nothing
flash-raises : (c : Content) (steps : List Step) → AllByRecursion IsRaise steps → (after_all c steps).flash ≡ c.flash
flash-raises c [] all = refl
flash-raises c (step ∷ steps) all = flash-raises (after c step) steps all.1 ∙ flash-one c step all.0
  where
    flash-one : (c : Content) (step : Step) → IsRaise step → (after c step).flash ≡ c.flash
    flash-one c (Raise r b) is = refl
    flash-one c (Erase s) is = absurd is
    flash-one c (Program p d) is = absurd is

pub done-already : (d : Content) (steps : List Step) → AllByRecursion IsRaise steps
    → ((row k : ℕ) → added (length d.otp) steps row k ≤ row_bit d row k) → after_all d steps ≡ d
done-already d steps all done =
    ap (λ (xs : List ℕ). content_of xs (after_all d steps).otp) (flash-raises d steps all)
    ∙ ap (λ (ys : List ℕ). content_of d.flash ys)
    (ext_get_or 0 (after_all d steps).otp d.otp (long-all d steps) (λ row lt.
    same_from_bits (slice_index (after_all d steps).otp row) (slice_index d.otp row) (λ k.
    (let now = bit-all d steps row k in let has = done row k in
    let same : row_bit (after_all d steps) row k ≡ row_bit d row k = omega (arith, now, has) in same))))
  where
    content_of : List ℕ → List ℕ → Content
    content_of xs ys = record { flash = xs; otp = ys }

-- where nothing is left to do, a row that is not free is the same
pub none-left : (Free : ℕ → Type 0) (n : ℕ) (c d : Content) → LiesIn Free n [] c d → (row : ℕ) → (Free row → ⊥)
    → slice_index d.otp row ≡ slice_index c.otp row
none-left Free n c d lies row held =
    same_from_bits (slice_index d.otp row) (slice_index c.otp row) (λ k.
    (let low = lies.risen row k in let high = lies.few row k held in
    let same : row_bit d row k ≡ row_bit c row k = omega (arith, low, high) in same))
