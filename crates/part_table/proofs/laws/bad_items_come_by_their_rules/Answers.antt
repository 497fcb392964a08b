use Rattle.std.proofs.Common.{◌≡◌, ℕ, List, inl, inr, refl, Err}
use Rattle.block_codec.specs.Blocks.{BlockView, block_words}
use Rattle.block_codec.specs.Items.{items_of}
use Rattle.part_table.specs.declared.partition.Partition.{Partition}
use Rattle.part_table.specs.declared.table.TableFault.TheVariants.{BadItem, Permissions, Range, Overlap, Link, Hash}
use Rattle.part_table.specs.BadItems.{HasBadItem}
use Rattle.part_table.specs.Rules.{IsFirstTableFault}
use Rattle.part_table.specs.TableOf.{table_of}
use Rattle.part_table.proofs.AnswerLemmas.{read_back, read_to}
use Rattle.part_table.proofs.BadItemLemmas.{bad-back, bad-from}
use Rattle.part_table.proofs.laws.bad_items_come_by_their_rules.Goals as goal

no-permissions : (i : ℕ) → BadItem ≡ Permissions i → ⊥
no-permissions i e = cc

no-range : (i : ℕ) → BadItem ≡ Range i → ⊥
no-range i e = cc

no-overlap : (i j : ℕ) → BadItem ≡ Overlap i j → ⊥
no-overlap i j e = cc

no-link : (i : ℕ) → BadItem ≡ Link i → ⊥
no-link i e = cc

no-hash : BadItem ≡ Hash → ⊥
no-hash e = cc

-- no partition has a bad item
never-bad : (parts : List Partition) (n m : ℕ) → IsFirstTableFault parts n m BadItem → ⊥
never-bad parts n m (inl least) = no-permissions least.place least.here.0
never-bad parts n m (inr (inl least)) = no-range least.1.place least.1.here.0
never-bad parts n m (inr (inr (inl least))) = no-overlap least.2.place least.2.here.0 least.2.here.1
never-bad parts n m (inr (inr (inr least))) = no-link least.3.place least.3.here.0

of-block : (b : BlockView) (n m : ℕ) → table_of b n m ≡ Err BadItem → HasBadItem (block_words b) (items_of b.items)
of-block b n m e = elim (read_to b n m (Err BadItem) e) [
  | inl none ↦ bad-from (block_words b) (items_of b.items) none.0
  | inr (inl fault) ↦ absurd (never-bad fault.0.parts.items n m fault.2)
  | inr (inr hash) ↦ absurd (no-hash hash.4)
]

pub returns-clause-items : goal.returns-clause-items
returns-clause-items c = λ words items. (bad-from words items, bad-back words items)

pub returns-clause-block : goal.returns-clause-block
returns-clause-block c = λ b n m. (
  of-block b n m,
  λ bad. read_back b n m (Err BadItem) (inl (bad-back (block_words b) (items_of b.items) bad, refl)),
)
