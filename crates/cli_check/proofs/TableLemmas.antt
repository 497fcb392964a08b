-- Two tables, with their slots, differ exactly where the test says so.
use Rattle.std.proofs.Common.{◌≡◌, ◌≢◌, ◌↔◌, ◌∙◌, ◌==◌, true, Option, Some, None, refl, ap}
use Rattle.std.specs.Prelude.{not}
use Rattle.std.proofs.lemmas.Bool.{and_from, and_parts, eq-eqb, eqb-true}
use Rattle.pico_board.specs.Content.{Content}
use Rattle.boot_rules.specs.declared.tables.Found.{Found}
use Rattle.boot_rules.specs.Tables.{table_in}
use Rattle.slot_caveats.specs.TableCaveats.{is_same_table}
use Rattle.slot_caveats.proofs.TableCaveatLemmas.{table-decides}
use Rattle.check_counts.specs.Facts.{has_other_table}
use Rattle.check_images.specs.Comparing.{is_same_found}
use Rattle.cli_check.proofs.TestLemmas.{negated}

parts : (f g : Found) → f.slot ≡ g.slot → f.table ≡ g.table → f ≡ g
parts f g slot table =
    ap (λ n. record { slot = n; table = f.table }) slot ∙ ap (λ t. record { slot = g.slot; table = t }) table

inside : (f g : Found) → Some f ≡ Some g → f ≡ g
inside f g e = cc

same-found : (f g : Option Found) → is_same_found f g ≡ true → f ≡ g
same-found None None e = refl
same-found None (Some g) e = cc
same-found (Some f) None e = cc
same-found (Some f) (Some g) e =
    let both = and_parts (f.slot == g.slot) (is_same_table f.table g.table) e in
    ap Some (parts f g (eqb-true f.slot g.slot both.0) ((table-decides f.table g.table).0 both.1))

found-same : (f g : Option Found) → f ≡ g → is_same_found f g ≡ true
found-same None None e = refl
found-same None (Some g) e = cc
found-same (Some f) None e = cc
found-same (Some f) (Some g) e =
    let same = inside f g e in
    and_from (f.slot == g.slot) (is_same_table f.table g.table)
    (eq-eqb f.slot g.slot (ap (λ (x : Found). x.slot) same))
    ((table-decides f.table g.table).1 (ap (λ (x : Found). x.table) same))

pub other-found : (f g : Option Found) → (not (is_same_found f g) ≡ true) ↔ (f ≢ g)
other-found f g = negated (is_same_found f g) (same-found f g, found-same f g)

-- d has another table than c
pub other-table : (c d : Content) → (has_other_table c d ≡ true) ↔ (table_in d ≢ table_in c)
other-table c d = other-found (table_in d) (table_in c)
