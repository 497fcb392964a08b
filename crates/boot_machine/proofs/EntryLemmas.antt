-- The parts of a machine are steady once BOOTSEL is entered.
use Rattle.std.proofs.Common.{◌≡◌, ◌/◌, None, Some, length, sym, ◌∙◌, subst}
use Rattle.std.specs.Prelude.{IsTrue}
use Rattle.pico_board.specs.Content.{Content}
use Rattle.pico_board.specs.Board.{State}
use Rattle.part_table.specs.Sound.{IsSoundTable}
use Rattle.uf2_place.specs.Downloads.{lease_of}
use Rattle.boot_rules.specs.declared.tables.Found.{Found}
use Rattle.boot_rules.specs.Tables.{table_in}
use Rattle.boot_rules.proofs.TableLemmas.{found-sound}
use Rattle.boot_machine.specs.declared.parts.Parts.{Parts}
use Rattle.boot_machine.specs.Standing.{HasRoom, IsSteady, hosting}

-- the table of a content is sound
pub table-of-content : (c : Content) (found : Found) → table_in c ≡ Some found
    → IsSoundTable found.table (length c.flash / 4096)
table-of-content c found is = found-sound c found is

pub steady-hosting : {B : Type 0} (state : B → State) (p : Parts B) → IsTrue (state p.board).powered
    → p.download.current ≡ None → HasRoom p.pool None
    → IsSteady state (hosting p (table_in (state p.board).content))
steady-hosting state p power none room = record {
  power = λ on. power;
  room = subst (λ current. HasRoom p.pool (lease_of current)) (sym none) room;
  target = λ current is. let no : None ≡ Some current = sym none ∙ is in cc no;
  carries = (None, none);
  idle = λ off. none;
  found = λ on found is. table-of-content (state p.board).content found is;
  held = λ choice run. let state_is = run.state in cc state_is;
}

pub steady-entered : {B : Type 0} (state : B → State) (p q : Parts B) → q ≡ hosting p (table_in (state p.board).content)
    → IsTrue (state p.board).powered → p.download.current ≡ None → HasRoom p.pool None → IsSteady state q
steady-entered state p q is power none room = subst (IsSteady state) (sym is) (steady-hosting state p power none room)
