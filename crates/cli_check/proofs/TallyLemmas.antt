-- Counts over cuts are the tally of these.
use Rattle.std.proofs.Common.{◌≡◌, ◌∙◌, ℕ, Bool, List, ap}
use Rattle.pico_board.specs.Content.{Content}
use Rattle.check_counts.specs.declared.seen.CaveatSeen.{CaveatSeen}
use Rattle.check_counts.specs.Counted.{AreCounts}
use Rattle.check_counts.specs.Facts.{Sides}
use Rattle.check_counts.specs.Tallies.{Tally}
use Rattle.cli_check.specs.Finding.{tally_in}

abbrev made : ℕ → ℕ → ℕ → ℕ → ℕ → ℕ → ℕ → ℕ → List ℕ → ℕ → Bool → Bool → List CaveatSeen → Tally
made a b c d e f g h i j k l m = record {
  former = a;
  finished = b;
  whole = c;
  tail = d;
  mixed = e;
  bootsel = f;
  falls = g;
  early = h;
  other_data = i;
  by_mixed = j;
  other_table = k;
  other_class = l;
  caveats = m;
}

pub counts-told : (s : Sides) (contents : List Content) (t : Tally) → AreCounts s contents t → t ≡ tally_in s contents
counts-told s contents t is =
    let u = tally_in s contents in
    ap (λ x. made x t.finished t.whole t.tail t.mixed t.bootsel t.falls t.early t.other_data t.by_mixed t.other_table
    t.other_class t.caveats) is.former
    ∙ (ap (λ x. made u.former x t.whole t.tail t.mixed t.bootsel t.falls t.early t.other_data t.by_mixed
    t.other_table t.other_class t.caveats) is.finished
    ∙ (ap (λ x. made u.former u.finished x t.tail t.mixed t.bootsel t.falls t.early t.other_data t.by_mixed
    t.other_table t.other_class t.caveats) is.whole
    ∙ (ap (λ x. made u.former u.finished u.whole x t.mixed t.bootsel t.falls t.early t.other_data t.by_mixed
    t.other_table t.other_class t.caveats) is.tail
    ∙ (ap (λ x. made u.former u.finished u.whole u.tail x t.bootsel t.falls t.early t.other_data t.by_mixed
    t.other_table t.other_class t.caveats) is.mixed
    ∙ (ap (λ x. made u.former u.finished u.whole u.tail u.mixed x t.falls t.early t.other_data t.by_mixed
    t.other_table t.other_class t.caveats) is.bootsel
    ∙ (ap (λ x. made u.former u.finished u.whole u.tail u.mixed u.bootsel x t.early t.other_data t.by_mixed
    t.other_table t.other_class t.caveats) is.falls
    ∙ (ap (λ x. made u.former u.finished u.whole u.tail u.mixed u.bootsel u.falls x t.other_data t.by_mixed
    t.other_table t.other_class t.caveats) is.early
    ∙ (ap (λ x. made u.former u.finished u.whole u.tail u.mixed u.bootsel u.falls u.early x t.by_mixed t.other_table
    t.other_class t.caveats) is.other_data
    ∙ (ap (λ x. made u.former u.finished u.whole u.tail u.mixed u.bootsel u.falls u.early u.other_data x
    t.other_table t.other_class t.caveats) is.by_mixed
    ∙ (ap (λ x. made u.former u.finished u.whole u.tail u.mixed u.bootsel u.falls u.early u.other_data u.by_mixed x
    t.other_class t.caveats) is.other_table
    ∙ (ap (λ x. made u.former u.finished u.whole u.tail u.mixed u.bootsel u.falls u.early u.other_data u.by_mixed
    u.other_table x t.caveats) is.other_class
    ∙ ap (λ x. made u.former u.finished u.whole u.tail u.mixed u.bootsel u.falls u.early u.other_data u.by_mixed
    u.other_table u.other_class x) is.caveats)))))))))))
