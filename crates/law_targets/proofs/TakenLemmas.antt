-- The member that a normal boot takes of a unit, by the words on windows.
use Rattle.std.proofs.Common.{◌≡◌, ◌⊎◌, true, false, Option, Some, None, refl, sym, ap, ◌∙◌, subst, inl, inr}
use Rattle.std.specs.Prelude.{option_and_then, option_map}
use Rattle.std.proofs.lemmas.Option.{same_Some}
use Rattle.pico_board.specs.declared.boot.Cpu.{Cpu}
use Rattle.pico_board.specs.declared.window.Window.{Window}
use Rattle.pico_board.specs.Content.{Content}
use Rattle.image_def.specs.declared.started.Started.{Started}
use Rattle.slot_choice.specs.declared.unit.Member.{Member}
use Rattle.slot_choice.specs.declared.unit.Member.TheVariants.{A, B}
use Rattle.slot_choice.specs.declared.unit.SlotUnit.{SlotUnit}
use Rattle.slot_choice.specs.declared.choice.Choice.{Choice}
use Rattle.slot_choice.specs.Versions.{is_below}
use Rattle.slot_choice.proofs.VersionLemmas.{first_of_two, second_of_two}
use Rattle.boot_rules.specs.Choosing.{images_in, member_image, other_of}
use Rattle.boot_rules.specs.Chosen.{IsBetter, is_member}
use Rattle.boot_rules.specs.Picking.{taken, taken_member}
use Rattle.boot_rules.specs.Targets.{member_for}
use Rattle.boot_rules.proofs.DecisionLemmas.{found-valid, valid-found}
use Rattle.boot_rules.proofs.UnitLemmas.{image-window, unit-none, unit-some}
use Rattle.law_targets.specs.Taking.{HasNoneIn, TakesFirst, TakesSecond}
use Rattle.law_targets.specs.TargetRules.{WritesOther}
use Rattle.law_targets.proofs.WordLemmas.{below-lower, lower-below}

-- of a pair one member at most would be taken
pub not-both : (c : Content) (cpu : Cpu) (one two : Window) → TakesFirst c cpu one (Some two)
    → TakesSecond c cpu one two → ⊥
not-both c cpu one two first second =
    first.best two second.image refl second.valid (second.best first.image first.valid)

module _ (c : Content) (cpu : Cpu) (u : SlotUnit) where
  -- what it means that this member is taken
  abbrev pub Taken : Member → Type 0
  Taken A = TakesFirst c cpu u.a u.b
  Taken B = (two : Window) × (u.b ≡ Some two) × TakesSecond c cpu u.a two

  by-member : (m : Member) (s : Started) → member_image (images_in c cpu) u m false ≡ Some s
      → ((t : Started) → member_image (images_in c cpu) u (other_of m) false ≡ Some t
      → IsBetter m s.version t.version)
      → Taken m
  by-member A s image best = record {
    image = s;
    valid = found-valid c cpu u.a false s image;
    best = λ w other pair valid lower.
        let held : member_image (images_in c cpu) u B false ≡ Some other =
        ap (option_and_then (λ (x : Window). images_in c cpu x false)) pair ∙ valid-found c cpu w false other valid in
        let better : is_below s.version other.version ≡ false =
        (first_of_two s.version other.version).0 (best other held) in
        let below : is_below s.version other.version ≡ true = lower-below s.version other.version lower in
        cc (better, below);
  }
  by-member B s image best =
      let found = image-window (images_in c cpu) u B false s image in (
        found.0,
        found.1,
        record {
          image = s;
          valid = found-valid c cpu found.0 false s found.2;
          best = λ other valid. below-lower other.version s.version
              ((second_of_two other.version s.version).0 (best other (valid-found c cpu u.a false other valid)));
        },
      )

  -- what is taken is so by the words
  pub taken-by : (choice : Choice) → taken c cpu u ≡ Some choice → Taken choice.member
  taken-by choice e =
      let is = unit-some (images_in c cpu) u None choice e in
      by-member choice.member choice.image is.image_is (better is.best)
    where
      better : (is_member None choice.member ≡ true)
          ⊎ (((t : Started) → is_member None (other_of choice.member) ≡ true
          → member_image (images_in c cpu) u (other_of choice.member) false ≡ Some t → ⊥)
          × ((t : Started) → member_image (images_in c cpu) u (other_of choice.member) false ≡ Some t
          → IsBetter choice.member choice.image.version t.version))
          → (t : Started) → member_image (images_in c cpu) u (other_of choice.member) false ≡ Some t
          → IsBetter choice.member choice.image.version t.version
      better (inl it) t image = let never : false ≡ true = it in cc
      better (inr q) t image = q.1 t image

  clash : {P : Type 0} (o : Option Started) (s : Started) → o ≡ None → o ≡ Some s → P
  clash o s e f = let h : None ≡ Some s = sym e ∙ f in cc

  -- where nothing is taken neither member has an image
  pub none-first : taken c cpu u ≡ None → HasNoneIn c cpu u.a
  none-first e s valid =
      clash (member_image (images_in c cpu) u A false) s (unit-none (images_in c cpu) u None e A)
      (valid-found c cpu u.a false s valid)

  pub none-second : taken c cpu u ≡ None → (two : Window) → u.b ≡ Some two → HasNoneIn c cpu two
  none-second e two pair s valid =
      clash (member_image (images_in c cpu) u B false) s (unit-none (images_in c cpu) u None e B)
      (ap (option_and_then (λ (x : Window). images_in c cpu x false)) pair ∙ valid-found c cpu two false s valid)

  one-member : (m n : Member) → Taken m → Taken n → m ≡ n
  one-member A A f s = refl
  one-member B B f s = refl
  one-member A B f s =
      absurd (not-both c cpu u.a s.0 (subst (TakesFirst c cpu u.a) s.1 f) s.2)
  one-member B A s f =
      absurd (not-both c cpu u.a s.0 (subst (TakesFirst c cpu u.a) s.1 f) s.2)

  not-none : taken c cpu u ≡ None → (m : Member) → Taken m → ⊥
  not-none e A f = none-first e f.image f.valid
  not-none e B s = none-second e s.0 s.1 s.2.image s.2.valid

  -- a member is taken exactly where the words say so
  pub member-words : (m : Member) → taken_member c cpu u ≡ Some m → Taken m
  member-words m e = by (taken c cpu u) refl e
    where
      by : (o : Option Choice) → taken c cpu u ≡ o → option_map (λ (choice : Choice). choice.member) o ≡ Some m
          → Taken m
      by None is h = cc
      by (Some choice) is h = subst Taken (same_Some choice.member m h) (taken-by choice is)

  pub words-member : (m : Member) → Taken m → taken_member c cpu u ≡ Some m
  words-member m takes = by (taken c cpu u) refl
    where
      by : (o : Option Choice) → taken c cpu u ≡ o → taken_member c cpu u ≡ Some m
      by None is = absurd (not-none is m takes)
      by (Some choice) is =
          ap (option_map (λ (x : Choice). x.member)) is
          ∙ ap Some (one-member choice.member m (taken-by choice is) takes)

  -- no member is taken where neither has an image
  pub none-words : taken_member c cpu u ≡ None → taken c cpu u ≡ None
  none-words e = by (taken c cpu u) refl e
    where
      by : (o : Option Choice) → taken c cpu u ≡ o → option_map (λ (choice : Choice). choice.member) o ≡ None
          → taken c cpu u ≡ None
      by None is h = is
      by (Some choice) is h = cc

  -- the member that is written
  pub writes-other : (two : Window) → u.b ≡ Some two → WritesOther c cpu u.a two (member_for (taken_member c cpu u))
  writes-other two pair = by (taken_member c cpu u) refl
    where
      by : (o : Option Member) → taken_member c cpu u ≡ o → WritesOther c cpu u.a two (member_for o)
      by None e = inr (record {
        first = none-first (none-words e);
        second = none-second (none-words e) two pair;
      })
      by (Some A) e = subst (TakesFirst c cpu u.a) pair (member-words A e)
      by (Some B) e =
          let s = member-words B e in
          inl (subst (TakesSecond c cpu u.a) (same_Some s.0 two (sym s.1 ∙ pair)) s.2)

-- one member of a pair is written
pub one-written : (c : Content) (cpu : Cpu) (one two : Window) (m n : Member) → WritesOther c cpu one two m
    → WritesOther c cpu one two n → m ≡ n
one-written c cpu one two A A f s = refl
one-written c cpu one two B B f s = refl
one-written c cpu one two A B (inl second) first = absurd (not-both c cpu one two first second)
one-written c cpu one two A B (inr neither) first = absurd (neither.first first.image first.valid)
one-written c cpu one two B A first (inl second) = absurd (not-both c cpu one two first second)
one-written c cpu one two B A first (inr neither) = absurd (neither.first first.image first.valid)
