-- Facts and counts of the worked examples.
use Rattle.std.specs.Prelude.{ℕ, Bool, false, List, [], ◌∷◌}
use Rattle.boot_rules.specs.declared.decision.Decision.{Decision}
use Rattle.cut_class.specs.declared.class.Class.{Class}
use Rattle.slot_caveats.specs.declared.caveat.Caveat.{Caveat}
use Rattle.check_counts.specs.declared.seen.CaveatSeen.{CaveatSeen}
use Rattle.check_counts.specs.Facts.{Facts}
use Rattle.check_counts.specs.Tallies.{Tally}

-- a caveat that holds before a script, after it, and at so many cuts
abbrev pub seen_so : Caveat → Bool → Bool → ℕ → CaveatSeen
seen_so x former end_ cuts = record { caveat = x; former = former; end = end_; cuts = cuts }

-- the facts of a cut of this class and with this decision, and nothing else
abbrev pub plain_facts : Class → Decision → Facts
plain_facts class decision = record {
  answer = record { class = class; decision = decision };
  early = false;
  other_data = [];
  raises = false;
  other_table = false;
  caveats = [];
}

-- the classes and falls that were counted, and whether a class is neither former nor a fall
abbrev pub class_counts : Tally → List ℕ
class_counts t =
    t.former ∷ t.finished ∷ t.whole ∷ t.tail ∷ t.mixed ∷ t.bootsel ∷ t.falls ∷ []
