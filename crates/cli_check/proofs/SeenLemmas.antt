-- Of the caveats that are seen no other list is told by the rules.
use Rattle.std.proofs.Common.{◌≡◌, ◌⊎◌, ◌↔◌, inl, inr, ℕ, ◌+◌, Bool, true, List, [], ◌∷◌, ◌++◌, refl, sym, ap, ◌∙◌, subst}
use Rattle.std.specs.Prelude.{Contains, map}
use Rattle.std.specs.List.{AllByRecursion, flat_map}
use Rattle.pico_board.specs.declared.boot.Cpu.{Cpu}
use Rattle.pico_board.specs.declared.boot.BootKind.TheVariants.{Normal}
use Rattle.pico_board.specs.Content.{Content}
use Rattle.slot_caveats.specs.declared.caveat.Caveat.{Caveat}
use Rattle.boot_caveats.proofs.CaveatLemmas.{caveats-only}
use Rattle.check_counts.specs.declared.seen.CaveatSeen.{CaveatSeen}
use Rattle.check_counts.specs.Facts.{caveats_on}
use Rattle.check_counts.specs.Rules.{AreCaveatsSeen, AreInOrder, AreListsOf, ComesFirst, IsInSoMany, IsTold, IsToldRight}
use Rattle.check_data.proofs.ListLemmas.{in-cases, in-first, in-none, in-rest}
use Rattle.cli_check.proofs.TestLemmas.{one-test}

-- what holds of all holds of one of them
all-at : {X : Type 0} (P : X → Type 0) (xs : List X) (x : X) → AllByRecursion P xs → Contains xs x → P x
all-at P [] x all is = absurd (in-none x is)
all-at P (y ∷ ys) x all is = go (all-at P ys x all.1) (in-cases y x ys is)
  where
    go : (Contains ys x → P x) → (y ≡ x) ⊎ Contains ys x → P x
    go rest (inl first) = subst P first all.0
    go rest (inr later) = rest later

head-is : {X : Type 0} (x y : X) (xs ys : List X) → (x ∷ xs) ≡ (y ∷ ys) → x ≡ y
head-is x y xs ys e = cc

tail-is : {X : Type 0} (x y : X) (xs ys : List X) → (x ∷ xs) ≡ (y ∷ ys) → xs ≡ ys
tail-is x y xs ys e = cc

-- of two elements of a list one stands up to the other
one-stands : (b c d e : List Caveat) (x y : Caveat) → b ++ x ∷ c ≡ d ++ y ∷ e
    → Contains (b ++ x ∷ []) y ⊎ Contains (d ++ y ∷ []) x
one-stands [] c [] e x y same =
    inl (subst (λ z. Contains (x ∷ []) z) (head-is x y c e same) (in-first x []))
one-stands [] c (w ∷ d) e x y same =
    inr (subst (λ z. Contains (w ∷ (d ++ y ∷ [])) z) (sym (head-is x w c (d ++ y ∷ e) same))
    (in-first w (d ++ y ∷ [])))
one-stands (w ∷ b) c [] e x y same =
    inl (subst (λ z. Contains (w ∷ (b ++ x ∷ [])) z) (head-is w y (b ++ x ∷ c) e same)
    (in-first w (b ++ x ∷ [])))
one-stands (w ∷ b) c (v ∷ d) e x y same =
    go (one-stands b c d e x y (tail-is w v (b ++ x ∷ c) (d ++ y ∷ e) same))
  where
    go : Contains (b ++ x ∷ []) y ⊎ Contains (d ++ y ∷ []) x
        → Contains (w ∷ (b ++ x ∷ [])) y ⊎ Contains (v ∷ (d ++ y ∷ [])) x
    go (inl first) = inl (in-rest w y (b ++ x ∷ []) first)
    go (inr second) = inr (in-rest v x (d ++ y ∷ []) second)

-- two caveats do not both come first
not-both : (L : List Caveat) (x y : Caveat) → ComesFirst L x y → ComesFirst L y x → ⊥
not-both L x y one two =
    go (one-stands one.before one.behind two.before two.behind x y (sym one.whole ∙ two.whole))
  where
    go : Contains (one.before ++ x ∷ []) y ⊎ Contains (two.before ++ y ∷ []) x → ⊥
    go (inl first) = one.later first
    go (inr second) = two.later second

-- how many lists have a caveat
one-number : (x : Caveat) (lists : List (List Caveat)) (m n : ℕ) → IsInSoMany x lists m → IsInSoMany x lists n → m ≡ n
one-number x [] m n one two = one ∙ sym two
one-number x (list ∷ lists) m n (inl (has, (p, one, rest))) (inl (also, (q, two, more))) =
    one ∙ (ap (λ k. 1 + k) (one-number x lists p q rest more) ∙ sym two)
one-number x (list ∷ lists) m n (inl (has, (p, one, rest))) (inr (lacks, more)) = absurd (lacks has)
one-number x (list ∷ lists) m n (inr (lacks, rest)) (inl (also, (q, two, more))) = absurd (lacks also)
one-number x (list ∷ lists) m n (inr (lacks, rest)) (inr (none, more)) = one-number x lists m n rest more

lists-once : (cpu : Cpu) (ds : List Content) (lists : List (List Caveat)) → AreListsOf cpu ds lists
    → lists ≡ map (caveats_on cpu) ds
lists-once cpu [] [] all = refl
lists-once cpu [] (list ∷ lists) all = absurd all
lists-once cpu (d ∷ ds) [] all = absurd all
lists-once cpu (d ∷ ds) (list ∷ lists) all =
    ap (λ l. l ∷ lists) (caveats-only d cpu Normal list all.0)
    ∙ ap (λ ls. caveats_on cpu d ∷ ls) (lists-once cpu ds lists all.1)

-- by these lists
module _ (first last : List Caveat) (cuts : List (List Caveat)) (L : List Caveat) where
  same-seen : (s t : CaveatSeen) → s.caveat ≡ t.caveat → IsToldRight first last cuts s
      → IsToldRight first last cuts t → s ≡ t
  same-seen s t same one two =
      parts s t same
      (one-test s.former t.former one.former
      (subst (λ x. (t.former ≡ true) ↔ Contains first x) (sym same) two.former))
      (one-test s.end t.end one.end_ (subst (λ x. (t.end ≡ true) ↔ Contains last x) (sym same) two.end_))
      (one-number s.caveat cuts s.cuts t.cuts one.number
      (subst (λ x. IsInSoMany x cuts t.cuts) (sym same) two.number))
    where
      parts : (s t : CaveatSeen) → s.caveat ≡ t.caveat → s.former ≡ t.former → s.end ≡ t.end → s.cuts ≡ t.cuts
          → s ≡ t
      parts s t e f g h =
          let made : Caveat → Bool → Bool → ℕ → CaveatSeen = λ x p q n. record {
            caveat = x;
            former = p;
            end = q;
            cuts = n;
          } in
          ap (λ x. made x s.former s.end s.cuts) e
          ∙ (ap (λ p. made t.caveat p s.end s.cuts) f
          ∙ (ap (λ q. made t.caveat t.former q s.cuts) g
          ∙ ap (λ n. made t.caveat t.former t.end n) h))

  told-cases : (s : CaveatSeen) (seen : List CaveatSeen) (x : Caveat) → IsTold (s ∷ seen) x
      → (s.caveat ≡ x) ⊎ IsTold seen x
  told-cases s seen x told = go (in-cases s told.0 seen told.1)
    where
      go : (s ≡ told.0) ⊎ Contains seen told.0 → (s.caveat ≡ x) ⊎ IsTold seen x
      go (inl here) = inl (ap (λ (t : CaveatSeen). t.caveat) here ∙ told.2)
      go (inr later) = inr (told.0, later, told.2)

  told-rest : (s : CaveatSeen) (seen : List CaveatSeen) (x : Caveat) → IsTold seen x → IsTold (s ∷ seen) x
  told-rest s seen x told = (told.0, in-rest s told.0 seen told.1, told.2)

  told-here : (s : CaveatSeen) (seen : List CaveatSeen) → IsTold (s ∷ seen) s.caveat
  told-here s seen = (s, in-first s seen, refl)

  -- the first comes before each that is told behind it
  comes : (s : CaveatSeen) (seen : List CaveatSeen) (x : Caveat) → AreInOrder L (s ∷ seen) → IsTold seen x
      → ComesFirst L s.caveat x
  comes s seen x order told =
      subst (λ y. ComesFirst L s.caveat y) told.2
      (all-at (λ (t : CaveatSeen). ComesFirst L s.caveat t.caveat) seen told.0 order.0 told.1)

  abbrev AlsoIn : List CaveatSeen → List CaveatSeen → Type 0
  AlsoIn a b = (x : Caveat) → IsTold a x → IsTold b x

  same-first : (s t : CaveatSeen) (a b : List CaveatSeen) → AreInOrder L (s ∷ a) → AreInOrder L (t ∷ b)
      → AlsoIn (s ∷ a) (t ∷ b) → AlsoIn (t ∷ b) (s ∷ a) → s.caveat ≡ t.caveat
  same-first s t a b one two there back =
      go (told-cases t b s.caveat (there s.caveat (told-here s a)))
      (told-cases s a t.caveat (back t.caveat (told-here t b)))
    where
      go : (t.caveat ≡ s.caveat) ⊎ IsTold b s.caveat → (s.caveat ≡ t.caveat) ⊎ IsTold a t.caveat
          → s.caveat ≡ t.caveat
      go (inl same) other = sym same
      go (inr later) (inl same) = same
      go (inr later) (inr more) =
          absurd (not-both L s.caveat t.caveat (comes s a t.caveat one more) (comes t b s.caveat two later))

  rest-in : (s t : CaveatSeen) (a b : List CaveatSeen) → AreInOrder L (s ∷ a) → s.caveat ≡ t.caveat
      → AlsoIn (s ∷ a) (t ∷ b) → AlsoIn a b
  rest-in s t a b order same there x told =
      go (told-cases t b x (there x (told-rest s a x told)))
    where
      go : (t.caveat ≡ x) ⊎ IsTold b x → IsTold b x
      go (inl here) =
          let twice = subst (λ y. ComesFirst L s.caveat y) (sym (same ∙ here)) (comes s a x order told) in
          absurd (not-both L s.caveat s.caveat twice twice)
      go (inr later) = later

  none-told : (s : CaveatSeen) (seen : List CaveatSeen) → AlsoIn (s ∷ seen) [] → ⊥
  none-told s seen there = let told = there s.caveat (told-here s seen) in in-none told.0 told.1

  one-told : (a b : List CaveatSeen) → AllByRecursion (IsToldRight first last cuts) a
      → AllByRecursion (IsToldRight first last cuts) b → AreInOrder L a → AreInOrder L b → AlsoIn a b → AlsoIn b a
      → a ≡ b
  one-told [] [] one two first_ second there back = refl
  one-told [] (t ∷ b) one two first_ second there back = absurd (none-told t b back)
  one-told (s ∷ a) [] one two first_ second there back = absurd (none-told s a there)
  one-told (s ∷ a) (t ∷ b) one two first_ second there back =
      let same = same-first s t a b first_ second there back in
      ap (λ x. x ∷ a) (same-seen s t same one.0 two.0)
      ∙ ap (λ xs. t ∷ xs)
      (one-told a b one.1 two.1 first_.1 second.1 (rest-in s t a b first_ same there)
      (rest-in t s b a second (sym same) back))

-- what is told of two contents and of what the cuts leave is one list
pub one-seen : (c z : Content) (cpu : Cpu) (contents : List Content) (a b : List CaveatSeen)
    → AreCaveatsSeen c z cpu contents a → AreCaveatsSeen c z cpu contents b → a ≡ b
one-seen c z cpu contents a b one two =
    let same_first : two.first ≡ one.first =
    caveats-only c cpu Normal two.first two.are_first ∙ sym (caveats-only c cpu Normal one.first one.are_first) in
    let same_last : two.last ≡ one.last =
    caveats-only z cpu Normal two.last two.are_last ∙ sym (caveats-only z cpu Normal one.last one.are_last) in
    let same_cuts : two.cuts ≡ one.cuts =
    lists-once cpu contents two.cuts two.are_cuts ∙ sym (lists-once cpu contents one.cuts one.are_cuts) in
    let all : List Caveat → List Caveat → List (List Caveat) → List Caveat =
    λ first last cuts. first ++ (last ++ flat_map (λ list. list) cuts) in
    let same : all two.first two.last two.cuts ≡ all one.first one.last one.cuts =
    ap (λ l. all l two.last two.cuts) same_first
    ∙ (ap (λ l. all one.first l two.cuts) same_last ∙ ap (λ ls. all one.first one.last ls) same_cuts) in
    let right : AllByRecursion (IsToldRight one.first one.last one.cuts) b =
    subst (λ ls. AllByRecursion (IsToldRight one.first one.last ls) b) same_cuts
    (subst (λ l. AllByRecursion (IsToldRight one.first l two.cuts) b) same_last
    (subst (λ l. AllByRecursion (IsToldRight l two.last two.cuts) b) same_first two.right)) in
    one-told one.first one.last one.cuts (all one.first one.last one.cuts) a b one.right right one.order
    (subst (λ l. AreInOrder l b) same two.order)
    (λ x told. (two.told x).1 (subst (λ l. Contains l x) (sym same) ((one.told x).0 told)))
    (λ x told. (one.told x).1 (subst (λ l. Contains l x) same ((two.told x).0 told)))
