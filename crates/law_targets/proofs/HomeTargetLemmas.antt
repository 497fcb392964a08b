-- Which targets are boot members.
use Rattle.std.proofs.Common.{◌≡◌, ◌⊎◌, ℕ, ◌/◌, ◌==◌, Bool, true, false, length, Option, Some, None, arith, refl, sym, ap, ◌∙◌, subst, inl, inr}
use Rattle.std.specs.Prelude.{option_map}
use Rattle.std.proofs.lemmas.Bool.{eqb-true}
use Rattle.pico_board.specs.declared.boot.Cpu.{Cpu}
use Rattle.pico_board.specs.declared.window.Window.{Window}
use Rattle.pico_board.specs.Content.{Content, IsContent}
use Rattle.part_table.specs.declared.partition.Partition.{Partition}
use Rattle.part_table.specs.declared.table.Table.{Table}
use Rattle.part_table.specs.declared.target.Target.{Target}
use Rattle.part_table.specs.Families.{absolute_family}
use Rattle.part_table.specs.Fields.{is_ignored, link_type}
use Rattle.part_table.specs.Windows.{part_window}
use Rattle.part_table.proofs.TestLemmas.{differ}
use Rattle.slot_choice.specs.declared.unit.Member.{Member}
use Rattle.slot_choice.specs.declared.unit.Member.TheVariants.{A, B}
use Rattle.boot_rules.specs.declared.tables.Found.{Found}
use Rattle.boot_rules.specs.Chosen.{IsBootMember}
use Rattle.boot_rules.specs.Starts.{table_of_content}
use Rattle.boot_rules.specs.Tables.{table_in}
use Rattle.boot_rules.specs.Targets.{target_of}
use Rattle.boot_rules.proofs.TableLemmas.{found-sound}
use Rattle.law_targets.specs.HomeRules.{IsBootMemberTarget, IsInBootPair, IsInKeptPair}
use Rattle.law_targets.specs.Loads.{IsExecutable}
use Rattle.law_targets.specs.TargetRules.{IsLoneTarget, IsPairTarget, IsPartTarget, IsSlotTarget, IsSmallTarget, IsTarget, IsWholeFlash, partition_of_member, slot_size_in, window_of_member}
use Rattle.law_targets.proofs.HomeLemmas.{home-slots, home-words, lone-not, same-first, slots-home, whole-not, words-home}
use Rattle.law_targets.proofs.TargetLemmas.{target-words}
use Rattle.law_targets.proofs.WordLemmas.{slot-not_absolute}

-- the window of a member of a pair
in-pair : (m : Member) (p q : Partition) (w : Window) → w ≡ part_window (partition_of_member m p q)
    → (w ≡ part_window p) ⊎ (w ≡ part_window q)
in-pair A p q w is = inl is
in-pair B p q w is = inr is

in-slots : (m : Member) (one two w : Window) → w ≡ window_of_member m one two → (w ≡ one) ⊎ (w ≡ two)
in-slots A one two w is = inl is
in-slots B one two w is = inr is

flag : {P : Type 0} (x : Bool) → x ≡ true → x ≡ false → P
flag x a b = cc

module _ (c : Content) (cpu : Cpu) (family : ℕ) (target : Target) where
  whole-no : IsContent c → IsWholeFlash c target → IsBootMember c target.window cpu → ⊥
  whole-no right whole boot_member = whole-not c cpu right (subst (λ w. IsBootMember c w cpu) whole.window boot_member)

  module _ (found : Found) (is : table_in c ≡ Some found) where
    abbrev t : Table
    t = found.table

    boot-pair : IsBootMemberTarget c t cpu family target → IsInBootPair t cpu target.window
    boot-pair it = record {
      number = it.number;
      first = it.first;
      stands = it.load.stands;
      no_second = it.load.may.first;
      boots = it.boots;
      other = it.pair.number;
      second = it.pair.second;
      pair = it.pair.pair;
      member = in-pair it.pair.member it.first it.pair.second target.window it.pair.window;
    }

    pub target-home : IsBootMemberTarget c t cpu family target → IsBootMember c target.window cpu
    target-home it = words-home c cpu target.window found is (boot-pair it)

    pub home-target : IsContent c → IsTarget c (Some t) cpu family target → IsBootMember c target.window cpu
        → IsBootMemberTarget c t cpu family target
    home-target right (inl absolute) boot_member = absurd (whole-no right absolute.whole boot_member)
    home-target right (inr part) boot_member = by part.placed
      where
        pair : IsInBootPair t cpu target.window
        pair = home-words c cpu target.window found is boot_member

        by : IsLoneTarget t part.number part.first target
            ⊎ IsPairTarget c t cpu family part.number part.first target
            → IsBootMemberTarget c t cpu family target
        by (inl lone) =
            absurd (lone-not t (length c.flash / 4096) (found-sound c found is) cpu part.number part.first
            part.load.stands part.load.may.first lone.lone
            (subst (IsInBootPair t cpu) lone.window pair))
        by (inr two) =
            let both = same-first t (length c.flash / 4096) (found-sound c found is) cpu target.window pair part.number
            two.number part.first two.second part.load.stands part.load.may.first two.pair
            (in-pair two.member part.first two.second target.window two.window) in
            record {
              number = part.number;
              first = part.first;
              load = part.load;
              pair = two;
              boots = both;
            }

    -- a gated target is in a pair that boots or in one that is kept
    kept-pair : (part : IsPartTarget c t cpu family target) → IsPairTarget c t cpu family part.number part.first target
        → (link_type part.first ≡ 2) ⊎ (is_ignored cpu part.first ≡ true) → IsInKeptPair t cpu target.window
    kept-pair part two why = record {
      number = part.number;
      first = part.first;
      stands = part.load.stands;
      no_second = part.load.may.first;
      kept = why;
      other = two.number;
      second = two.second;
      pair = two.pair;
      member = in-pair two.member part.first two.second target.window two.window;
    }

    pub gated-either : IsTarget c (Some t) cpu family target → target.gated ≡ true
        → IsBootMember c target.window cpu ⊎ IsInKeptPair t cpu target.window
    gated-either (inl absolute) gated = flag target.gated gated absolute.whole.gated
    gated-either (inr part) gated = by part.placed
      where
        pair : IsPairTarget c t cpu family part.number part.first target
            → IsBootMember c target.window cpu ⊎ IsInKeptPair t cpu target.window
        pair two = go (link_type part.first == 2) refl (is_ignored cpu part.first) refl
          where
            go : (owned : Bool) → (link_type part.first == 2) ≡ owned → (ignored : Bool)
                → is_ignored cpu part.first ≡ ignored
                → IsBootMember c target.window cpu ⊎ IsInKeptPair t cpu target.window
            go true o ignored e = inr (kept-pair part two (inl (eqb-true (link_type part.first) 2 o)))
            go false o true e = inr (kept-pair part two (inr e))
            go false o false e = inl (target-home (record {
              number = part.number;
              first = part.first;
              load = part.load;
              pair = two;
              boots = record { no_owner = differ (link_type part.first) 2 o; not_ignored = e };
            }))

        by : IsLoneTarget t part.number part.first target
            ⊎ IsPairTarget c t cpu family part.number part.first target
            → IsBootMember c target.window cpu ⊎ IsInKeptPair t cpu target.window
        by (inl lone) = flag target.gated gated lone.gated
        by (inr two) = pair two

  module _ (none : table_in c ≡ None) where
    pub slot-home : IsSlotTarget c cpu family target → IsBootMember c target.window cpu
    slot-home slot =
        slots-home c cpu target.window none slot.large
        (in-slots slot.member (record { start = 0; len = slot_size_in c })
        (record { start = slot_size_in c; len = slot_size_in c })
        target.window slot.window)

    pub home-slot : IsContent c → IsTarget c None cpu family target → IsBootMember c target.window cpu
        → IsSlotTarget c cpu family target
    home-slot right (inl absolute) boot_member = absurd (whole-no right absolute.whole boot_member)
    home-slot right (inr tableless) boot_member = by tableless.placed
      where
        by : IsSlotTarget c cpu family target ⊎ IsSmallTarget c target → IsSlotTarget c cpu family target
        by (inl slot) = slot
        by (inr small) =
            let slots = home-slots c cpu target.window none boot_member in
            let large = slots.0 in
            let least = small.small in
            absurd (omega (arith, large, least))

    pub gated-slot : IsTarget c None cpu family target → target.gated ≡ true → IsBootMember c target.window cpu
    gated-slot (inl absolute) gated = flag target.gated gated absolute.whole.gated
    gated-slot (inr tableless) gated = by tableless.placed
      where
        by : IsSlotTarget c cpu family target ⊎ IsSmallTarget c target → IsBootMember c target.window cpu
        by (inl slot) = slot-home slot
        by (inr small) = flag target.gated gated small.whole.gated

-- the words of a target by the content's own table
module _ (c : Content) (cpu : Cpu) (family : ℕ) (target : Target)
    (targeted : target_of c (table_of_content c) cpu family ≡ Some target) where
  pub own-words : (found : Found) → table_in c ≡ Some found → IsTarget c (Some found.table) cpu family target
  own-words found is =
      target-words c cpu family (Some found.table) (found-sound c found is) target
      (sym (ap (λ (o : Option Found). target_of c (option_map (λ (f : Found). f.table) o) cpu family) is) ∙ targeted)

  pub none-words : table_in c ≡ None → IsTarget c None cpu family target
  none-words none =
      target-words c cpu family None tt target
      (sym (ap (λ (o : Option Found). target_of c (option_map (λ (f : Found). f.table) o) cpu family) none) ∙ targeted)

  -- the target of executables that is a boot member is gated
  pub home-gated : IsContent c → IsExecutable family → IsBootMember c target.window cpu → target.gated ≡ true
  home-gated right executable boot_member = by (table_in c) refl
    where
      by : (o : Option Found) → table_in c ≡ o → target.gated ≡ true
      by (Some found) is =
          (home-target c cpu family target found is right (own-words found is) boot_member).pair.gated.1 executable
      by None none = (home-slot c cpu family target none right (none-words none) boot_member).gated.1 executable

  -- the whole flash is no boot member
  pub absolute-not : IsContent c → family ≡ absolute_family → IsBootMember c target.window cpu → ⊥
  absolute-not right absolute boot_member = by (table_in c) refl
    where
      by : (o : Option Found) → table_in c ≡ o → ⊥
      by (Some found) is = go (own-words found is)
        where
          go : IsTarget c (Some found.table) cpu family target → ⊥
          go (inl whole) = whole-no c cpu family target right whole.whole boot_member
          go (inr part) = part.other absolute
      by None none = go (none-words none)
        where
          go : IsTarget c None cpu family target → ⊥
          go (inl whole) = whole-no c cpu family target right whole.whole boot_member
          go (inr slot) = slot-not_absolute family slot.taken absolute
