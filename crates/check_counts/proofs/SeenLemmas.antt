-- The caveats that are seen, cut after cut.
use Rattle.std.proofs.Common.{◌≡◌, ℕ, ◌<◌, Bool, true, false, ◌||◌, if◌then◌else◌, List, [], ◌∷◌, ◌++◌, length, refl, sym, ap, ◌∙◌, append_assoc, append-nil}
use Rattle.std.specs.Prelude.{count_by, map}
use Rattle.std.specs.List.{flat_map, list_any}
use Rattle.std.proofs.lemmas.Grind.{flat_map-append}
use Rattle.std.proofs.lemmas.List.{map-append}
use Rattle.std.proofs.lemmas.List.Folds.{list_any-append}
use Rattle.pico_board.specs.Content.{Content}
use Rattle.slot_caveats.specs.declared.caveat.Caveat.{Caveat}
use Rattle.slot_caveats.specs.Same.{is_same_caveat}
use Rattle.slot_caveats.proofs.SameLemmas.{same-decides}
use Rattle.check_counts.specs.declared.seen.CaveatSeen.{CaveatSeen}
use Rattle.check_counts.specs.CaveatsSeen.{all_caveats, caveats_seen, firsts, has_caveat, seen_on, with_first, with_firsts}
use Rattle.check_counts.specs.Facts.{Sides, caveats_on}
use Rattle.check_counts.specs.Tallies.{counted, first_seen, is_seen, seen_again, seen_first, seen_with, with_seen}
use Rattle.check_counts.proofs.CountLemmas.{count-more, count-none}

-- ---- truth values

or-right : (a b : Bool) → b ≡ true → (a || b) ≡ true
or-right true b e = refl
or-right false b e = e

or-left : (a b : Bool) → a ≡ true → (a || b) ≡ true
or-left true b e = refl
or-left false b e = cc

neither : (a b : Bool) → (a || b) ≡ false → (a ≡ false) × (b ≡ false)
neither true b e = cc
neither false b e = (refl, e)

not-both : (b : Bool) → b ≡ true → b ≡ false → ⊥
not-both true e f = cc
not-both false e f = cc

-- ---- caveats in lists

-- a caveat is in a list that has it first
has-first : (x : Caveat) (xs : List Caveat) → has_caveat (x ∷ xs) x ≡ true
has-first x xs = or-left (is_same_caveat x x) (has_caveat xs x) ((same-decides x x).1 refl)

-- a list that ends in a caveat
has-last : (F : List Caveat) (x y : Caveat) → has_caveat (F ++ x ∷ []) y ≡ false
    → (has_caveat F y ≡ false) × (is_same_caveat y x ≡ false)
has-last F x y out =
    let both = neither (has_caveat F y) _ (sym (list_any-append (is_same_caveat y) F (x ∷ [])) ∙ out) in
    (both.0, (neither (is_same_caveat y x) false both.1).0)

-- what is not in the list that is left was in neither of the two
module _ (F L : List Caveat) (x y : Caveat) where
  other : (s : Bool) → is_same_caveat y x ≡ s → has_caveat F x ≡ true → has_caveat F y ≡ false → s ≡ false
  other true e is none =
      absurd (not-both (has_caveat F x) is (sym (ap (λ z. has_caveat F z) ((same-decides y x).0 e)) ∙ none))
  other false e is none = refl

  join : is_same_caveat y x ≡ false → has_caveat L y ≡ false → has_caveat (x ∷ L) y ≡ false
  join e f = ap (λ b. b || has_caveat L y) e ∙ f

  none-first : (b : Bool) → has_caveat F x ≡ b
      → (has_caveat (with_firsts F L) y ≡ false → (has_caveat F y ≡ false) × (has_caveat L y ≡ false))
      → (has_caveat (with_firsts (F ++ x ∷ []) L) y ≡ false
      → (has_caveat (F ++ x ∷ []) y ≡ false) × (has_caveat L y ≡ false))
      → has_caveat (with_firsts (if b then F else F ++ x ∷ []) L) y ≡ false
      → (has_caveat F y ≡ false) × (has_caveat (x ∷ L) y ≡ false)
  none-first true e one two out =
      let left = one out in (left.0, join (other (is_same_caveat y x) refl e left.0) left.1)
  none-first false e one two out =
      let left = two out in let last = has-last F x y left.0 in (last.0, join last.1 left.1)

pub none-firsts : (F L : List Caveat) (y : Caveat) → has_caveat (with_firsts F L) y ≡ false
    → (has_caveat F y ≡ false) × (has_caveat L y ≡ false)
none-firsts F [] y out = (out, refl)
none-firsts F (x ∷ L) y out =
    none-first F L x y (has_caveat F x) refl (none-firsts F L y) (none-firsts (F ++ x ∷ []) L y) out

-- one list after another
pub firsts-append : (F xs ys : List Caveat) → with_firsts F (xs ++ ys) ≡ with_firsts (with_firsts F xs) ys
firsts-append F [] ys = refl
firsts-append F (x ∷ xs) ys = firsts-append (with_first F x) xs ys

-- ---- what is seen

pub seen-list : (g : Caveat → CaveatSeen) → ((x : Caveat) → (g x).caveat ≡ x) → (F : List Caveat) (x : Caveat)
    → is_seen (map g F) x ≡ has_caveat F x
seen-list g names [] x = refl
seen-list g names (y ∷ F) x =
    ap (λ z. is_same_caveat x z || is_seen (map g F) x) (names y)
    ∙ ap (λ b. is_same_caveat x y || b) (seen-list g names F x)

-- where those that are seen are told by g, and a further one too, all are
module _ (make g : Caveat → CaveatSeen) (names : (x : Caveat) → (g x).caveat ≡ x) (F L : List Caveat)
    (x : Caveat) (fresh : (y : Caveat) → has_caveat F y ≡ false → has_caveat (x ∷ L) y ≡ true → make y ≡ g y) where
  abbrev Told : List Caveat → Type 0
  Told G =
      ((y : Caveat) → has_caveat G y ≡ false → has_caveat L y ≡ true → make y ≡ g y)
      → with_seen make (map g G) L ≡ map g (with_firsts G L)

  first-seen : (b : Bool) → has_caveat F x ≡ b → Told F → Told (F ++ x ∷ [])
      → with_seen make (if b then map g F else map g F ++ make x ∷ []) L
      ≡ map g (with_firsts (if b then F else F ++ x ∷ []) L)
  first-seen true e one two =
      one (λ y out held. fresh y out (or-right (is_same_caveat y x) (has_caveat L y) held))
  first-seen false e one two =
      ap (λ s. with_seen make (map g F ++ s ∷ []) L) (fresh x e (has-first x L))
      ∙ (ap (λ ss. with_seen make ss L) (sym (map-append g F (x ∷ [])))
      ∙ two (λ y out held.
      fresh y (has-last F x y out).0 (or-right (is_same_caveat y x) (has_caveat L y) held)))

pub firsts-seen : (make g : Caveat → CaveatSeen) → ((x : Caveat) → (g x).caveat ≡ x) → (F L : List Caveat)
    → ((x : Caveat) → has_caveat F x ≡ false → has_caveat L x ≡ true → make x ≡ g x)
    → with_seen make (map g F) L ≡ map g (with_firsts F L)
firsts-seen make g names F [] fresh = refl
firsts-seen make g names F (x ∷ L) fresh =
    ap (λ b. with_seen make (if b then map g F else map g F ++ make x ∷ []) L) (seen-list g names F x)
    ∙ first-seen make g names F L x fresh (has_caveat F x) refl (firsts-seen make g names F L)
    (firsts-seen make g names (F ++ x ∷ []) L)

module _ (s : Sides) where
  -- the caveats of the two ends and of one cut more
  all-more : (cs : List Content) (d : Content)
      → all_caveats s (cs ++ d ∷ []) ≡ all_caveats s cs ++ caveats_on s.cpu d
  all-more cs d =
      ap (λ l. c ++ (z ++ l))
      (flat_map-append (caveats_on s.cpu) cs (d ∷ []) ∙ ap (λ l. flat_map (caveats_on s.cpu) cs ++ l) (append-nil here))
      ∙ (ap (λ l. c ++ l) (sym (append_assoc z (flat_map (caveats_on s.cpu) cs) here))
      ∙ sym (append_assoc c (z ++ flat_map (caveats_on s.cpu) cs) here))
    where
      c : List Caveat
      c = caveats_on s.cpu s.first

      z : List Caveat
      z = caveats_on s.cpu s.last

      here : List Caveat
      here = caveats_on s.cpu d

  -- a caveat that holds nowhere
  nowhere : (cs : List Content) (x : Caveat) → has_caveat (all_caveats s cs) x ≡ false
      → (has_caveat (caveats_on s.cpu s.first) x ≡ false) × (has_caveat (caveats_on s.cpu s.last) x ≡ false)
      × (count_by (λ d. has_caveat (caveats_on s.cpu d) x) cs ≡ 0)
  nowhere cs x out =
      let first = neither _ _ (sym (list_any-append (is_same_caveat x) (caveats_on s.cpu s.first) _) ∙ out) in
      let last = neither _ _ (sym (list_any-append (is_same_caveat x) (caveats_on s.cpu s.last) _) ∙ first.1) in
      (first.0, last.0, count-none (λ d. has_caveat (caveats_on s.cpu d) x) cs (at-out cs last.1))
    where
      at-out : (ds : List Content) → has_caveat (flat_map (caveats_on s.cpu) ds) x ≡ false
          → list_any (λ d. has_caveat (caveats_on s.cpu d) x) ds ≡ false
      at-out [] e = refl
      at-out (d ∷ ds) e =
          let two = neither (has_caveat (caveats_on s.cpu d) x) _
          (sym (list_any-append (is_same_caveat x) (caveats_on s.cpu d) (flat_map (caveats_on s.cpu) ds)) ∙ e) in
          ap (λ b. b || list_any (λ d. has_caveat (caveats_on s.cpu d) x) ds) two.0 ∙ at-out ds two.1

  -- one cut more
  pub seen-more : (cs : List Content) (d : Content) → length cs < 0xffff_ffff
      → seen_with (caveats_seen s cs) (caveats_on s.cpu d) ≡ caveats_seen s (cs ++ d ∷ [])
  seen-more cs d few =
      ap (λ l. with_seen (first_seen [] [] 1) l (caveats_on s.cpu d)) (again (firsts (all_caveats s cs)))
      ∙ (firsts-seen (first_seen [] [] 1) (seen_on s (cs ++ d ∷ [])) (λ x. refl) (firsts (all_caveats s cs))
      (caveats_on s.cpu d) fresh
      ∙ ap (map (seen_on s (cs ++ d ∷ [])))
      (sym (firsts-append [] (all_caveats s cs) (caveats_on s.cpu d)) ∙ ap firsts (sym (all-more cs d))))
    where
      once_more : (x : Caveat) → seen_again (caveats_on s.cpu d) (seen_on s cs x) ≡ seen_on s (cs ++ d ∷ []) x
      once_more x =
          ap (λ (n : ℕ). record {
            caveat = x;
            former = has_caveat (caveats_on s.cpu s.first) x;
            end = has_caveat (caveats_on s.cpu s.last) x;
            cuts = n;
          }) (count-more (λ e. has_caveat (caveats_on s.cpu e) x) cs d few)

      again : (F : List Caveat)
          → map (seen_again (caveats_on s.cpu d)) (map (seen_on s cs) F) ≡ map (seen_on s (cs ++ d ∷ [])) F
      again [] = refl
      again (x ∷ F) =
          ap (λ y. y ∷ map (seen_again (caveats_on s.cpu d)) (map (seen_on s cs) F)) (once_more x)
          ∙ ap (λ ys. seen_on s (cs ++ d ∷ []) x ∷ ys) (again F)

      fresh : (x : Caveat) → has_caveat (firsts (all_caveats s cs)) x ≡ false → has_caveat (caveats_on s.cpu d) x ≡ true
          → first_seen [] [] 1 x ≡ seen_on s (cs ++ d ∷ []) x
      fresh x out held =
          let none = nowhere cs x (none-firsts [] (all_caveats s cs) x out).1 in
          let one : 1 ≡ count_by (λ e. has_caveat (caveats_on s.cpu e) x) (cs ++ d ∷ []) =
          sym (ap (λ n. counted n (has_caveat (caveats_on s.cpu d) x)) none.2 ∙ ap (λ b. counted 0 b) held)
          ∙ count-more (λ e. has_caveat (caveats_on s.cpu e) x) cs d few in
          told (has_caveat (caveats_on s.cpu s.first) x) (has_caveat (caveats_on s.cpu s.last) x) _ none.0 none.1 one
        where
          told : (a b : Bool) (n : ℕ) → a ≡ false → b ≡ false → 1 ≡ n
              → first_seen [] [] 1 x ≡ record { caveat = x; former = a; end = b; cuts = n }
          told a b n ea eb en =
              ap (λ (m : ℕ). record { caveat = x; former = false; end = false; cuts = m }) en
              ∙ (ap (λ (y : Bool). record { caveat = x; former = y; end = false; cuts = n }) (sym ea)
              ∙ ap (λ (y : Bool). record { caveat = x; former = a; end = y; cuts = n }) (sym eb))

  -- before any cut
  pub seen-none : seen_first (caveats_on s.cpu s.first) (caveats_on s.cpu s.last) ≡ caveats_seen s []
  seen-none =
      firsts-seen (first_seen (caveats_on s.cpu s.first) (caveats_on s.cpu s.last) 0) (seen_on s []) (λ x. refl) []
      (caveats_on s.cpu s.first ++ caveats_on s.cpu s.last) (λ x out held. refl)
      ∙ ap (λ l. map (seen_on s []) (firsts (caveats_on s.cpu s.first ++ l))) (sym (append-nil (caveats_on s.cpu s.last)))

-- one list after another
pub seen-append : (make : Caveat → CaveatSeen) (seen : List CaveatSeen) (xs ys : List Caveat)
    → with_seen make seen (xs ++ ys) ≡ with_seen make (with_seen make seen xs) ys
seen-append make seen [] ys = refl
seen-append make seen (x ∷ xs) ys =
    seen-append make (if is_seen seen x then seen else seen ++ make x ∷ []) xs ys
