-- What a block is read as, by the rules.
use Rattle.std.proofs.Common.{◌≡◌, inl, inr, ℕ, Bool, true, false, refl, sym, ◌∙◌, ap, subst, Option, None, Some, Result, Ok, Err, if◌then◌else◌}
use Rattle.std.specs.Option.{option_or}
use Rattle.block_codec.specs.FirstFault.{ok_unless}
use Rattle.block_codec.specs.Blocks.{BlockView, block_words}
use Rattle.block_codec.specs.Items.{items_of}
use Rattle.part_table.specs.declared.table.Table.{Table}
use Rattle.part_table.specs.declared.table.TableFault.{TableFault}
use Rattle.part_table.specs.declared.table.TableFault.TheVariants.{Hash}
use Rattle.part_table.specs.Contents.{table_of_items, has_wrong_hash}
use Rattle.part_table.specs.Faults.{parts_fault}
use Rattle.part_table.specs.Rules.{HasNoFault, IsTableAnswer, IsReadTo}
use Rattle.part_table.specs.TableOf.{table_or_fault, table_of}
use Rattle.part_table.proofs.RuleLemmas.{first_to_rules, rules_to_first, none_to_rules, rules_to_none}

-- the answer of a table whose partitions have this fault or none, and whose hash is wrong or not
abbrev answer : Table → Option TableFault → Bool → Result Table TableFault
answer t fault wrong = ok_unless (option_or fault (if wrong then Some Hash else None)) t

module _ (t : Table) (n m : ℕ) where
  answer_to : (fault : Option TableFault) (wrong : Bool) (r : Result Table TableFault)
      → parts_fault t.parts.items n m ≡ fault → answer t fault wrong ≡ r
      → IsTableAnswer (Some t) wrong n m r
  answer_to None false (Ok u) is e =
      let same : t ≡ u =
      cc in (
        ap Some same,
        subst (λ v. HasNoFault v.parts.items n m) same
            (none_to_rules t.parts.items n m is),
        refl,
      )
  answer_to None false (Err f) is e = cc
  answer_to None true (Ok u) is e = cc
  answer_to None true (Err f) is e = inr (inr (t, refl, none_to_rules t.parts.items n m is, refl, cc))
  answer_to (Some g) wrong (Ok u) is e = cc
  answer_to (Some g) wrong (Err f) is e =
      let same : g ≡ f = cc in inr (inl (t, refl, first_to_rules t.parts.items n m f (is ∙ ap Some same)))

pub read_to_of : (says : Option Table) (wrong : Bool) (n m : ℕ) (r : Result Table TableFault)
    → table_or_fault says n m (if wrong then Some Hash else None) ≡ r → IsTableAnswer says wrong n m r
read_to_of None wrong n m (Ok u) e = cc
read_to_of None wrong n m (Err f) e = inl (refl, cc)
read_to_of (Some t) wrong n m r e = answer_to t n m (parts_fault t.parts.items n m) wrong r refl e

answered : (t : Table) (n m : ℕ) (wrong : Bool) (fault : Option TableFault) → parts_fault t.parts.items n m ≡ fault
    → table_or_fault (Some t) n m (if wrong then Some Hash else None) ≡ answer t fault wrong
answered t n m wrong fault is = ap (λ o. answer t o wrong) is

pub read_back_of : (says : Option Table) (wrong : Bool) (n m : ℕ) (r : Result Table TableFault)
    → IsTableAnswer says wrong n m r → table_or_fault says n m (if wrong then Some Hash else None) ≡ r
read_back_of says wrong n m (Ok t) is =
    ap (λ o. table_or_fault o n m (if wrong then Some Hash else None)) is.0
    ∙ answered t n m wrong None (rules_to_none t.parts.items n m is.1) ∙ ap (λ b. answer t None b) is.2
read_back_of says wrong n m (Err f) (inl none) =
    ap (λ o. table_or_fault o n m (if wrong then Some Hash else None)) none.0 ∙ ap Err (sym none.1)
read_back_of says wrong n m (Err f) (inr (inl fault)) =
    ap (λ o. table_or_fault o n m (if wrong then Some Hash else None)) fault.1
    ∙ answered fault.0 n m wrong (Some f) (rules_to_first fault.0.parts.items n m f fault.2)
read_back_of says wrong n m (Err f) (inr (inr hash)) =
    ap (λ o. table_or_fault o n m (if wrong then Some Hash else None)) hash.1
    ∙ answered hash.0 n m wrong None (rules_to_none hash.0.parts.items n m hash.2)
    ∙ ap (λ b. answer hash.0 None b) hash.3 ∙ ap Err (sym hash.4)

pub read_to : (b : BlockView) (n m : ℕ) (r : Result Table TableFault) → table_of b n m ≡ r → IsReadTo b n m r
read_to b n m r =
    read_to_of (table_of_items (block_words b) (items_of b.items))
    (has_wrong_hash (block_words b) (items_of b.items)) n m r

pub read_back : (b : BlockView) (n m : ℕ) (r : Result Table TableFault) → IsReadTo b n m r → table_of b n m ≡ r
read_back b n m r =
    read_back_of (table_of_items (block_words b) (items_of b.items))
    (has_wrong_hash (block_words b) (items_of b.items)) n m r
