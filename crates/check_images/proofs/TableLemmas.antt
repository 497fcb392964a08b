-- Two tables with their slots are the same exactly where the test says so.
use Rattle.std.proofs.Common.{◌≡◌, ◌≢◌, ◌↔◌, ◌∙◌, ◌==◌, ℕ, Bool, true, false, Option, Some, None, refl, sym, ap}
use Rattle.std.specs.Prelude.{◌&&◌, not, option_map}
use Rattle.std.specs.Borrow.{Bor}
use Rattle.std.specs.Option.{option_copied}
use Rattle.std.proofs.lemmas.Bool.{and_from, and_parts, eqb-true, eq-eqb}
use Rattle.part_table.specs.declared.table.Table.{Table}
use Rattle.boot_rules.specs.declared.tables.Found.{Found}
use Rattle.slot_caveats.specs.TableCaveats.{is_same_table}
use Rattle.slot_caveats.proofs.TableCaveatLemmas.{table-decides}
use Rattle.check_images.specs.Comparing.{is_same_found}

same-found : (f g : Found) → f.slot ≡ g.slot → f.table ≡ g.table → f ≡ g
same-found f g slot table =
    ap (λ n. record { slot = n; table = f.table }) slot ∙ ap (λ t. record { slot = g.slot; table = t }) table

same-some : (f g : Found) → Some f ≡ Some g → f ≡ g
same-some f g e = cc

found-to : (f g : Option Found) → is_same_found f g ≡ true → f ≡ g
found-to None None e = refl
found-to None (Some g) e = cc
found-to (Some f) None e = cc
found-to (Some f) (Some g) e =
    let both = and_parts (f.slot == g.slot) (is_same_table f.table g.table) e in
    ap Some (same-found f g (eqb-true f.slot g.slot both.0) ((table-decides f.table g.table).0 both.1))

found-from : (f g : Option Found) → f ≡ g → is_same_found f g ≡ true
found-from None None e = refl
found-from None (Some g) e = cc
found-from (Some f) None e = cc
found-from (Some f) (Some g) e =
    let same = same-some f g e in
    and_from (f.slot == g.slot) (is_same_table f.table g.table)
    (eq-eqb f.slot g.slot (ap (λ (x : Found). x.slot) same))
    ((table-decides f.table g.table).1 (ap (λ (x : Found). x.table) same))

-- they differ exactly where the test fails
pub others-are : (f g : Option Found) (same : Bool) → same ≡ is_same_found f g → (not same ≡ true) ↔ (g ≢ f)
others-are f g true is = ((λ e. cc), (λ differ. absurd (differ (sym (found-to f g (sym is))))))
others-are f g false is = ((λ e alike. not-both (is_same_found f g) (sym is) (found-from f g (sym alike))), λ differ. refl)
  where
    not-both : (b : Bool) → b ≡ false → b ≡ true → ⊥
    not-both b e f = cc

-- a borrowed table, where there is one
copied-map : (o : Option (Bor Found)) → option_copied o ≡ option_map (λ (b : Bor Found). b.now) o
copied-map None = refl
copied-map (Some b) = refl

-- by tables that are borrowed
pub borrowed-others : (f g : Option Found) (o p : Option (Bor Found)) → option_copied o ≡ f → option_copied p ≡ g
    → (same : Bool)
    → same ≡ is_same_found (option_map (λ (b : Bor Found). b.now) o) (option_map (λ (b : Bor Found). b.now) p)
    → (not same ≡ true) ↔ (g ≢ f)
borrowed-others f g o p first last same is =
    others-are f g same
    (is ∙ (ap (λ x. is_same_found x (option_map (λ (b : Bor Found). b.now) p)) (sym (copied-map o) ∙ first)
    ∙ ap (λ y. is_same_found f y) (sym (copied-map p) ∙ last)))
