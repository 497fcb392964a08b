-- A download stands for the same blocks after calls that leave what is out of the pool.
use Rattle.std.proofs.Common.{◌≡◌, ℕ, List, [], Option, None, Some, refl, sym, ap, ◌∙◌, subst, Bor}
use Rattle.std.specs.Prelude.{slice_get}
use Rattle.std.specs.Option.{ForSome, option_map}
use Rattle.std.proofs.lemmas.Option.{unwrap_or-slice_get, same_Some}
use Rattle.std.specs.Prelude.{unwrap_or}
use Rattle.sector_pool.specs.Keeping.{KeepsOut}
use Rattle.sector_pool.specs.Pool.{Pool}
use Rattle.part_table.specs.declared.Table.{Table}
use Rattle.part_table.specs.declared.Target.{Target}
use Rattle.part_table.specs.Sound.{IsSoundTable}
use Rattle.uf2_place.specs.declared.block.Uf2.{Uf2}
use Rattle.uf2_place.specs.declared.current.Held.{Held}
use Rattle.uf2_place.specs.Accepting.{DownloadView}
use Rattle.uf2_place.specs.Downloads.{HoldsLease, pool_sector_bytes, held_page}
use Rattle.boot_rules.specs.declared.tables.Found.{Found}
use Rattle.boot_machine.specs.Machines.{Placing}
use Rattle.boot_machine.specs.Serving.{table_of_found}
use Rattle.boot_machine.specs.Standing.{Carries}

same-bytes : (old new : Pool) (k : ℕ) → slice_get new.sectors k ≡ slice_get old.sectors k
    → pool_sector_bytes new k ≡ pool_sector_bytes old k
same-bytes old new k same =
    sym (unwrap_or-slice_get new.sectors k []) ∙ ap (λ x. unwrap_or x []) same ∙ unwrap_or-slice_get old.sectors k []

holds-kept : (old new : Pool) (t : Target) (blocks : List Uf2) (held : Option Held) → KeepsOut old new
    → HoldsLease old t blocks held → HoldsLease new t blocks held
holds-kept old new t blocks None keeps holds = holds
holds-kept old new t blocks (Some h) keeps holds =
    let same = same-bytes old new h.lease (keeps.kept h.lease holds.out) in record {
      gated = holds.gated;
      out = ap (λ out. slice_get out h.lease) keeps.same ∙ holds.out;
      pages = λ i lt. ap (λ bytes. held_page h.pages bytes i) same ∙ holds.pages i lt;
    }

pub carried : (d : DownloadView) (old new : Pool) (placing : Option Placing) → KeepsOut old new → Carries d old placing
    → Carries d new placing
carried d old new None keeps none = none
carried d old new (Some p) keeps stands =
    let f = stands.follows in record {
      some = stands.some;
      current = stands.current;
      is = stands.is;
      target = stands.target;
      more = stands.more;
      follows = record {
        are = f.are;
        inside = f.inside;
        left = f.left;
        numbers = f.numbers;
        sectors = f.sectors;
        held = holds-kept old new stands.current.target p.blocks stands.current.held keeps f.held;
      };
    }

-- the table that was found is sound
pub sound-of : (n : ℕ) (table : Option (Bor Table)) (found : Option Found)
    → option_map (λ (t : Bor Table). t.now) table ≡ table_of_found found
    → ForSome found (λ f. IsSoundTable f.table n) → (x : Bor Table) → table ≡ Some x → IsSoundTable x.now n
sound-of n table None same sound x is =
    let no : Some x.now ≡ None = ap (option_map (λ (t : Bor Table). t.now)) (sym is) ∙ same in cc no
sound-of n table (Some f) same sound x is =
    let one : Some x.now ≡ Some f.table = ap (option_map (λ (t : Bor Table). t.now)) (sym is) ∙ same in
    subst (λ t. IsSoundTable t n) (sym (same_Some x.now f.table one)) (sound f refl)
