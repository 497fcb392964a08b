-- The caveats that are seen are those of the rules.
use Rattle.std.proofs.Common.{◌≡◌, ◌↔◌, ℕ, zero, suc, ◌+◌, ◌<◌, Bool, true, false, ◌||◌, if◌then◌else◌, cond, List, [], ◌∷◌, ◌++◌, length, refl, sym, ap, ◌∙◌, subst, inl, inr, arith, append_assoc}
use Rattle.std.specs.Prelude.{⊤, Contains, count_by, map}
use Rattle.std.specs.List.{AllByRecursion, flat_map, slice_index_or}
use Rattle.std.proofs.lemmas.List.Folds.{list_any-append}
use Rattle.std.proofs.lemmas.List.Sums.{sum_by-append}
use Rattle.std.proofs.lemmas.Map.Views.{Contains-from_any}
use Rattle.pico_board.specs.declared.boot.Cpu.{Cpu}
use Rattle.pico_board.specs.declared.boot.BootKind.TheVariants.{Normal}
use Rattle.pico_board.specs.Content.{Content}
use Rattle.slot_caveats.specs.declared.caveat.Caveat.{Caveat}
use Rattle.slot_caveats.specs.Same.{is_same_caveat}
use Rattle.slot_caveats.proofs.SameLemmas.{same-decides}
use Rattle.boot_caveats.proofs.CaveatLemmas.{caveats-right}
use Rattle.check_counts.specs.declared.seen.CaveatSeen.{CaveatSeen}
use Rattle.check_counts.specs.CaveatsSeen.{all_caveats, caveats_seen, firsts, has_caveat, seen_on, with_first, with_firsts}
use Rattle.check_counts.specs.Facts.{Sides, caveats_on}
use Rattle.check_counts.specs.Rules.{AreCaveatsSeen, AreInOrder, AreListsOf, ComesFirst, IsInSoMany, IsTold, IsToldRight}
use Rattle.check_counts.specs.Tallies.{is_seen}
use Rattle.check_counts.proofs.SeenLemmas.{firsts-append, none-firsts, seen-list}

-- ---- truth values

apart : (b : Bool) → b ≡ true → b ≡ false → ⊥
apart true e f = cc
apart false e f = cc

neither : (a b : Bool) → (a || b) ≡ false → (a ≡ false) × (b ≡ false)
neither true b e = cc
neither false b e = (refl, e)

both-false : (a b : Bool) → a ≡ false → b ≡ false → (a || b) ≡ false
both-false a b e f = ap (λ x. x || b) e ∙ f

or-first : (a b : Bool) → a ≡ true → (a || b) ≡ true
or-first a b e = ap (λ x. x || b) e

or-second : (a b : Bool) → b ≡ true → (a || b) ≡ true
or-second true b e = refl
or-second false b e = e

-- ---- caveats in lists

held-at : (xs : List Caveat) (x : Caveat) (k : ℕ) → k < length xs → slice_index_or xs k x ≡ x → has_caveat xs x ≡ true
held-at [] x k lt e = absurd (omega (arith, lt))
held-at (y ∷ ys) x zero lt e = or-first (is_same_caveat x y) (has_caveat ys x) ((same-decides x y).1 (sym e))
held-at (y ∷ ys) x (suc k) lt e =
    or-second (is_same_caveat x y) (has_caveat ys x) (held-at ys x k (omega (arith, lt)) e)

has-held : (xs : List Caveat) (x : Caveat) → Contains xs x → has_caveat xs x ≡ true
has-held xs x at = held-at xs x at.0 at.1 at.2

held-has : (xs : List Caveat) (x : Caveat) → has_caveat xs x ≡ true → Contains xs x
held-has xs x e = Contains-from_any (λ y z same. (same-decides y z).0 same) x xs e

-- the test is true just of a caveat of the list
pub has-iff : (xs : List Caveat) (x : Caveat) → (has_caveat xs x ≡ true) ↔ Contains xs x
has-iff xs x = (held-has xs x, has-held xs x)

-- ---- at how many cuts

many-next : (cpu : Cpu) (x : Caveat) (d : Content) (ds : List Content) (b : Bool)
    → has_caveat (caveats_on cpu d) x ≡ b
    → IsInSoMany x (map (caveats_on cpu) ds) (count_by (λ e. has_caveat (caveats_on cpu e) x) ds)
    → IsInSoMany x (map (caveats_on cpu) (d ∷ ds)) (count_by (λ e. has_caveat (caveats_on cpu e) x) (d ∷ ds))
many-next cpu x d ds b is rest = by b is
  where
    counted_so : (a : Bool) → has_caveat (caveats_on cpu d) x ≡ a
        → count_by (λ e. has_caveat (caveats_on cpu e) x) (d ∷ ds)
        ≡ (0 + cond a 1 0) + count_by (λ e. has_caveat (caveats_on cpu e) x) ds
    counted_so a e =
        sum_by-append (λ y. cond (has_caveat (caveats_on cpu y) x) 1 0) (d ∷ []) ds
        ∙ ap (λ c. (0 + cond c 1 0) + count_by (λ y. has_caveat (caveats_on cpu y) x) ds) e

    by : (a : Bool) → has_caveat (caveats_on cpu d) x ≡ a
        → IsInSoMany x (map (caveats_on cpu) (d ∷ ds)) (count_by (λ e. has_caveat (caveats_on cpu e) x) (d ∷ ds))
    by true e = inl (
      held-has (caveats_on cpu d) x e,
      (count_by (λ y. has_caveat (caveats_on cpu y) x) ds, counted_so true e, rest),
    )
    by false e = inr (
      λ holds. apart (has_caveat (caveats_on cpu d) x) (has-held (caveats_on cpu d) x holds) e,
      subst (λ n. IsInSoMany x (map (caveats_on cpu) ds) n) (sym (counted_so false e ∙ zero-more _)) rest,
    )
      where
        zero-more : (n : ℕ) → (0 + cond false 1 0) + n ≡ n
        zero-more n = omega arith

in-so-many : (cpu : Cpu) (x : Caveat) (ds : List Content)
    → IsInSoMany x (map (caveats_on cpu) ds) (count_by (λ e. has_caveat (caveats_on cpu e) x) ds)
in-so-many cpu x [] = refl
in-so-many cpu x (d ∷ ds) =
    many-next cpu x d ds (has_caveat (caveats_on cpu d) x) refl (in-so-many cpu x ds)

lists-right : (cpu : Cpu) (ds : List Content) → AreListsOf cpu ds (map (caveats_on cpu) ds)
lists-right cpu [] = tt
lists-right cpu (d ∷ ds) = (caveats-right d cpu Normal, lists-right cpu ds)

flat-lists : (cpu : Cpu) (ds : List Content)
    → flat_map (λ list. list) (map (caveats_on cpu) ds) ≡ flat_map (caveats_on cpu) ds
flat-lists cpu [] = refl
flat-lists cpu (d ∷ ds) = ap (λ l. caveats_on cpu d ++ l) (flat-lists cpu ds)

told-right : (s : Sides) (ds : List Content) (F : List Caveat)
    → AllByRecursion (IsToldRight (caveats_on s.cpu s.first) (caveats_on s.cpu s.last) (map (caveats_on s.cpu) ds))
    (map (seen_on s ds) F)
told-right s ds [] = tt
told-right s ds (x ∷ F) = (
  record {
    former = has-iff (caveats_on s.cpu s.first) x;
    end_ = has-iff (caveats_on s.cpu s.last) x;
    number = in-so-many s.cpu x ds;
  },
  told-right s ds F,
)

-- ---- which caveats are told

told-at : (seen : List CaveatSeen) (s : CaveatSeen) (x : Caveat) (k : ℕ) → k < length seen
    → slice_index_or seen k s ≡ s → s.caveat ≡ x → is_seen seen x ≡ true
told-at [] s x k lt e is = absurd (omega (arith, lt))
told-at (t ∷ seen) s x zero lt e is =
    or-first (is_same_caveat x t.caveat) (is_seen seen x)
    ((same-decides x t.caveat).1 (sym is ∙ ap (λ (u : CaveatSeen). u.caveat) (sym e)))
told-at (t ∷ seen) s x (suc k) lt e is =
    or-second (is_same_caveat x t.caveat) (is_seen seen x) (told-at seen s x k (omega (arith, lt)) e is)

is-told : (seen : List CaveatSeen) (x : Caveat) → is_seen seen x ≡ true → IsTold seen x
is-told [] x e = cc
is-told (t ∷ seen) x e = by (is_same_caveat x t.caveat) refl (is-told seen x)
  where
    by : (b : Bool) → is_same_caveat x t.caveat ≡ b → (is_seen seen x ≡ true → IsTold seen x) → IsTold (t ∷ seen) x
    by true same rest = (t, (0, omega arith, refl), sym ((same-decides x t.caveat).0 same))
    by false same rest =
        let later = rest (sym (ap (λ b. b || is_seen seen x) same) ∙ e) in
        (later.0, (suc later.1.0, (let lt = later.1.1 in omega (arith, lt)), later.1.2), later.2)

none-after : (F L : List Caveat) (y : Caveat) → has_caveat F y ≡ false → has_caveat L y ≡ false
    → has_caveat (with_firsts F L) y ≡ false
none-after F [] y out rest = out
none-after F (x ∷ L) y out rest =
    let two = neither (is_same_caveat y x) (has_caveat L y) rest in
    none-after (with_first F x) L y (added (has_caveat F x) two.0) two.1
  where
    added : (b : Bool) → is_same_caveat y x ≡ false → has_caveat (if b then F else F ++ x ∷ []) y ≡ false
    added true e = out
    added false e =
        list_any-append (is_same_caveat y) F (x ∷ [])
        ∙ both-false (has_caveat F y) _ out (both-false (is_same_caveat y x) false e refl)

-- each caveat of a list is one of the first ones, and no other one
firsts-has : (L : List Caveat) (y : Caveat) → has_caveat (firsts L) y ≡ has_caveat L y
firsts-has L y = by (has_caveat (firsts L) y) refl (has_caveat L y) refl
  where
    by : (a : Bool) → has_caveat (firsts L) y ≡ a → (b : Bool) → has_caveat L y ≡ b → a ≡ b
    by true e true f = refl
    by true e false f = absurd (apart (has_caveat (firsts L) y) e (none-after [] L y refl f))
    by false e true f = absurd (apart (has_caveat L y) f (none-firsts [] L y e).1)
    by false e false f = refl

told-iff : (g : Caveat → CaveatSeen) → ((x : Caveat) → (g x).caveat ≡ x) → (L : List Caveat) (x : Caveat)
    → IsTold (map g (firsts L)) x ↔ Contains L x
told-iff g names L x = (
  λ told. held-has L x
      (sym (seen-list g names (firsts L) x ∙ firsts-has L x)
      ∙ told-at (map g (firsts L)) told.0 x told.1.0 told.1.1 told.1.2 told.2),
  λ holds. is-told (map g (firsts L)) x
      (seen-list g names (firsts L) x ∙ (firsts-has L x ∙ has-held L x holds)),
)

-- ---- their order

abbrev AreFirst : List Caveat → List Caveat → Type 0
AreFirst L [] = ⊤
AreFirst L (x ∷ F) = AllByRecursion (λ y. ComesFirst L x y) F × AreFirst L F

record Split (pre : List Caveat) (y : Caveat) : Type 0 where
  before : List Caveat
  behind : List Caveat
  whole : pre ≡ before ++ y ∷ behind

split : (pre : List Caveat) (y : Caveat) → has_caveat pre y ≡ true → Split pre y
split [] y e = cc
split (p ∷ pre) y e = by (is_same_caveat y p) refl (split pre y)
  where
    by : (b : Bool) → is_same_caveat y p ≡ b → (has_caveat pre y ≡ true → Split pre y) → Split (p ∷ pre) y
    by true same rest = record {
      before = [];
      behind = pre;
      whole = ap (λ z. z ∷ pre) (sym ((same-decides y p).0 same));
    }
    by false same rest =
        let later = rest (sym (ap (λ b. b || has_caveat pre y) same) ∙ e) in
        record { before = p ∷ later.before; behind = later.behind; whole = ap (λ l. p ∷ l) later.whole }

-- a caveat that stands before comes first
comes-first : (pre xs : List Caveat) (x y : Caveat) → has_caveat pre y ≡ true → has_caveat pre x ≡ false
    → ComesFirst (pre ++ x ∷ xs) y x
comes-first pre xs x y held out =
    let parts = split pre y held in
    record {
      before = parts.before;
      behind = parts.behind ++ x ∷ xs;
      whole = ap (λ l. l ++ x ∷ xs) parts.whole ∙ append_assoc parts.before (y ∷ parts.behind) (x ∷ xs);
      later = λ holds. apart (has_caveat (parts.before ++ y ∷ []) x)
          (has-held (parts.before ++ y ∷ []) x holds)
          (neither (has_caveat (parts.before ++ y ∷ []) x) (has_caveat parts.behind x)
          (sym (list_any-append (is_same_caveat x) (parts.before ++ y ∷ []) parts.behind)
          ∙ (ap (λ l. has_caveat l x)
          (append_assoc parts.before (y ∷ []) parts.behind ∙ sym parts.whole) ∙ out))).0;
    }

each-first : (pre xs : List Caveat) (x : Caveat) (G : List Caveat) → has_caveat pre x ≡ false
    → ((y : Caveat) → has_caveat G y ≡ true → has_caveat pre y ≡ true)
    → AreFirst (pre ++ x ∷ xs) G → AreFirst (pre ++ x ∷ xs) (G ++ x ∷ [])
each-first pre xs x [] out held are = (tt, tt)
each-first pre xs x (y ∷ G) out held are = (
  last-too G are.0,
  each-first pre xs x G out (λ z e. held z (or-second (is_same_caveat z y) (has_caveat G z) e)) are.1,
)
  where
    last-too : (H : List Caveat) → AllByRecursion (λ z. ComesFirst (pre ++ x ∷ xs) y z) H
        → AllByRecursion (λ z. ComesFirst (pre ++ x ∷ xs) y z) (H ++ x ∷ [])
    last-too [] all = (
      comes-first pre xs x y
          (held y (or-first (is_same_caveat y y) (has_caveat G y) ((same-decides y y).1 refl))) out,
      tt,
    )
    last-too (z ∷ H) all = (all.0, last-too H all.1)

next-first : (pre xs : List Caveat) (x : Caveat) (b : Bool) → has_caveat (firsts pre) x ≡ b
    → AreFirst (pre ++ x ∷ xs) (firsts pre)
    → AreFirst (pre ++ x ∷ xs) (if b then firsts pre else firsts pre ++ x ∷ [])
next-first pre xs x true e are = are
next-first pre xs x false e are =
    each-first pre xs x (firsts pre) (sym (firsts-has pre x) ∙ e) (λ y held. sym (firsts-has pre y) ∙ held) are

in-order : (pre xs : List Caveat) → AreFirst (pre ++ xs) (firsts pre) → AreFirst (pre ++ xs) (with_firsts (firsts pre) xs)
in-order pre [] are = are
in-order pre (x ∷ xs) are =
    subst (λ l. AreFirst l (with_firsts (with_first (firsts pre) x) xs)) (append_assoc pre (x ∷ []) xs)
    (subst (λ F. AreFirst ((pre ++ x ∷ []) ++ xs) (with_firsts F xs)) (firsts-append [] pre (x ∷ []))
    (in-order (pre ++ x ∷ []) xs
    (subst (λ l. AreFirst l (firsts (pre ++ x ∷ []))) (sym (append_assoc pre (x ∷ []) xs))
    (subst (λ F. AreFirst (pre ++ x ∷ xs) F) (sym (firsts-append [] pre (x ∷ [])))
    (next-first pre xs x (has_caveat (firsts pre) x) refl are)))))

told-order : (g : Caveat → CaveatSeen) → ((x : Caveat) → (g x).caveat ≡ x) → (L F : List Caveat)
    → AreFirst L F → AreInOrder L (map g F)
told-order g names L [] are = tt
told-order g names L (x ∷ F) are = (each F are.0, told-order g names L F are.1)
  where
    each : (G : List Caveat) → AllByRecursion (λ y. ComesFirst L x y) G
        → AllByRecursion (λ (t : CaveatSeen). ComesFirst L (g x).caveat t.caveat) (map g G)
    each [] all = tt
    each (y ∷ G) all = (
      subst (λ z. ComesFirst L (g x).caveat z) (sym (names y))
          (subst (λ z. ComesFirst L z y) (sym (names x)) all.0),
      each G all.1,
    )

-- ---- all of it

pub seen-right : (s : Sides) (ds : List Content)
    → AreCaveatsSeen s.first s.last s.cpu ds (caveats_seen s ds)
seen-right s ds = record {
  first = caveats_on s.cpu s.first;
  last = caveats_on s.cpu s.last;
  cuts = map (caveats_on s.cpu) ds;
  are_first = caveats-right s.first s.cpu Normal;
  are_last = caveats-right s.last s.cpu Normal;
  are_cuts = lists-right s.cpu ds;
  right = told-right s ds (firsts (all_caveats s ds));
  told = λ x. subst (λ l. IsTold (caveats_seen s ds) x ↔ Contains l x) listed
      (told-iff (seen_on s ds) (λ y. refl) (all_caveats s ds) x);
  order = subst (λ l. AreInOrder l (caveats_seen s ds)) listed
      (told-order (seen_on s ds) (λ y. refl) (all_caveats s ds) (firsts (all_caveats s ds))
      (in-order [] (all_caveats s ds) tt));
}
  where
    listed : all_caveats s ds
        ≡ caveats_on s.cpu s.first
        ++ (caveats_on s.cpu s.last ++ flat_map (λ list. list) (map (caveats_on s.cpu) ds))
    listed =
        ap (λ l. caveats_on s.cpu s.first ++ (caveats_on s.cpu s.last ++ l)) (sym (flat-lists s.cpu ds))
