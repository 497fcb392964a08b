-- Whose table is that of the flash, and why, by the function and in the words of the rules.
use Rattle.std.proofs.Common.{◌≡◌, ◌≢◌, ◌⊎◌, ◌↔◌, ℕ, zero, suc, Bool, true, false, ◌||◌, not, if◌then◌else◌, Option, Some, None, refl, sym, ap, ◌∙◌, subst, inl, inr}
use Rattle.std.specs.Prelude.{Result, option_map}
use Rattle.boot_rules.specs.declared.slots.SlotFault.{SlotFault}
use Rattle.boot_reasons.specs.Reasons.{table_in_force_in}
use Rattle.std.specs.Result.{result_ok}
use Rattle.std.proofs.lemmas.Option.{same_Some}
use Rattle.pico_board.specs.Content.{Content}
use Rattle.block_codec.specs.declared.versions.Version.{Version as VersionOf}
use Rattle.part_table.specs.declared.table.Table.{Table}
use Rattle.slot_choice.specs.Versions.{is_below}
use Rattle.slot_choice.proofs.VersionLemmas.{irreflexive, total}
use Rattle.boot_rules.specs.declared.tables.Found.{Found}
use Rattle.boot_rules.specs.Tables.{found_of, slot_answer_in, table_in}
use Rattle.boot_rules.specs.TableRules.{IsSlotTable, IsTableIn}
use Rattle.boot_rules.proofs.TableRuleLemmas.{table-words}
use Rattle.boot_reasons.specs.declared.slots.TableReason.{TableReason}
use Rattle.boot_reasons.specs.declared.slots.TableReason.TheVariants.{Only, Singleton, Version, Tie}
use Rattle.boot_reasons.specs.declared.slots.TableInForce.{TableInForce}
use Rattle.boot_reasons.specs.Slots.{taken_table, in_force, table_in_force}
use Rattle.boot_reasons.specs.SlotRules.{IsOnlyTable, HasSingleton, AreOfTwoVersions, AreOfOneVersion, IsTableReason, IsTableInForce}
use Rattle.boot_rules.proofs.SlotLemmas.{has-table, table-has, table-found}

-- the table in force of two tables, by the three tests
abbrev told_by : Bool → Bool → Bool → Option TableInForce
told_by singleton lower higher =
    in_force (if singleton || not lower then 0 else 1)
    (if singleton then Singleton else (if lower || higher then Version else Tie))

abbrev found_by : Bool → Bool → Table → Table → Option Found
found_by singleton lower t u =
    if singleton || not lower then Some (record { slot = 0; table = t })
    else Some (record { slot = 1; table = u })

-- the table in force is the one that is found
taken-by : (singleton lower higher : Bool) (t u : Table)
    → taken_table (told_by singleton lower higher) (Some t) (Some u)
    ≡ option_map (λ (f : Found). f.table) (found_by singleton lower t u)
taken-by true lower higher t u = refl
taken-by false true higher t u = refl
taken-by false false true t u = refl
taken-by false false false t u = refl

pub taken-found : (a b : Option Table) → taken_table (table_in_force a b) a b
    ≡ option_map (λ (f : Found). f.table) (found_of a b)
taken-found None None = refl
taken-found None (Some u) = refl
taken-found (Some t) None = refl
taken-found (Some t) (Some u) =
    taken-by t.singleton (is_below t.version u.version) (is_below u.version t.version) t u

pub taken-in : (c : Content)
    → taken_table (table_in_force (result_ok (slot_answer_in c 0)) (result_ok (slot_answer_in c 1)))
    (result_ok (slot_answer_in c 0)) (result_ok (slot_answer_in c 1))
    ≡ option_map (λ (f : Found). f.table) (table_in c)
taken-in c = taken-found (result_ok (slot_answer_in c 0)) (result_ok (slot_answer_in c 1))
    ∙ ap (option_map (λ (f : Found). f.table)) (sym (table-found c))

-- a and b are the tables of the slots of c
pub record AreSlotTables (c : Content) (a b : Option Table) : Type 0 where
  pub one_is : (t : Table) → a ≡ Some t → IsSlotTable c 0 t
  pub is_one : (t : Table) → IsSlotTable c 0 t → a ≡ Some t
  pub two_is : (t : Table) → b ≡ Some t → IsSlotTable c 1 t
  pub is_two : (t : Table) → IsSlotTable c 1 t → b ≡ Some t
  pub found_is : (f : Found) → found_of a b ≡ Some f → IsTableIn c f
  pub is_found : (f : Found) → IsTableIn c f → found_of a b ≡ Some f

slot-tables : (c : Content) → AreSlotTables c (result_ok (slot_answer_in c 0)) (result_ok (slot_answer_in c 1))
slot-tables c = record {
  one_is = has-table c 0;
  is_one = table-has c 0;
  two_is = has-table c 1;
  is_two = table-has c 1;
  found_is = λ f e. (table-words c f).0 (table-found c ∙ e);
  is_found = λ f is. sym (table-found c) ∙ (table-words c f).1 is;
}

none-some : {X : Type 0} {P : Type 0} (x : X) → None ≡ Some x → P
none-some x e = cc

true-false : (x : Bool) → x ≡ true → x ≡ false → ⊥
true-false x e f = cc

-- the table in force of two tables
module _ (c : Content) (t u : Table) (are : AreSlotTables c (Some t) (Some u)) where
  one : IsSlotTable c 0 t
  one = are.one_is t refl

  two : IsSlotTable c 1 u
  two = are.two_is u refl

  same-one : (v : Table) → IsSlotTable c 0 v → t ≡ v
  same-one v is = same_Some t v (are.is_one v is)

  same-two : (v : Table) → IsSlotTable c 1 v → u ≡ v
  same-two v is = same_Some u v (are.is_two v is)

  single : t.singleton ≡ false → HasSingleton c → ⊥
  single no_one (v, is, e) =
      true-false t.singleton (ap (λ (x : Table). x.singleton) (same-one v is) ∙ e) no_one

  differ : (is_below t.version u.version ≡ true) ⊎ (is_below u.version t.version ≡ true) → t.version ≢ u.version
  differ (inl lower) same =
      true-false _ (ap (λ (v : VersionOf). is_below v u.version) (sym same) ∙ lower) (irreflexive u.version)
  differ (inr higher) same =
      true-false _ (ap (is_below u.version) (sym same) ∙ higher) (irreflexive u.version)

  agree : t.version ≡ u.version → AreOfTwoVersions c → ⊥
  agree same (v, w, is, also, apart) =
      apart (ap (λ (x : Table). x.version) (sym (same-one v is))
      ∙ (same ∙ ap (λ (x : Table). x.version) (same-two w also)))

  at : (singleton lower : Bool) → t.singleton ≡ singleton → is_below t.version u.version ≡ lower
      → found_of (Some t) (Some u) ≡ found_by singleton lower t u
  at singleton lower s l = ap (λ x. found_by x (is_below t.version u.version) t u) s
      ∙ ap (λ x. found_by singleton x t u) l

  pair-right : (singleton lower higher : Bool) → t.singleton ≡ singleton → is_below t.version u.version ≡ lower
      → is_below u.version t.version ≡ higher → IsTableInForce c (told_by singleton lower higher)
  pair-right true lower higher s l h = ((t, are.found_is _ (at true lower s l)), ((λ only. only u two), (t, one, s)))
  pair-right false true higher s l h = (
    (u, are.found_is _ (at false true s l)),
    ((λ only. only t one), single s, (t, u, one, two, differ (inl l))),
  )
  pair-right false false true s l h = (
    (t, are.found_is _ (at false false s l)),
    ((λ only. only u two), single s, (t, u, one, two, differ (inr h))),
  )
  pair-right false false false s l h =
      let same : t.version ≡ u.version = total t.version u.version l h in (
        (t, are.found_is _ (at false false s l)),
        ((λ only. only u two), single s, agree same, (t, u, one, two, same)),
      )

right-of : (c : Content) (a b : Option Table) → AreSlotTables c a b → IsTableInForce c (table_in_force a b)
right-of c None None are = λ found is. none-some found (are.is_found found is)
right-of c None (Some u) are = ((u, are.found_is _ refl), λ v is. none-some v (are.is_one v is))
right-of c (Some t) None are = ((t, are.found_is _ refl), λ v is. none-some v (are.is_two v is))
right-of c (Some t) (Some u) are = pair-right c t u are _ _ _ refl refl refl

-- the table in force, and why it is, are right by the rules
pub told-right : (c : Content)
    → IsTableInForce c (table_in_force (result_ok (slot_answer_in c 0)) (result_ok (slot_answer_in c 1)))
told-right c = right-of c _ _ (slot-tables c)

-- no two different reasons are right by the rules
reason-once : (c : Content) (slot : ℕ) (r q : TableReason) → IsTableReason c slot r → IsTableReason c slot q → r ≡ q
reason-once c slot Only Only x y = refl
reason-once c slot Only Singleton x y = absurd (y.0 x)
reason-once c slot Only Version x y = absurd (y.0 x)
reason-once c slot Only Tie x y = absurd (y.0 x)
reason-once c slot Singleton Only x y = absurd (x.0 y)
reason-once c slot Singleton Singleton x y = refl
reason-once c slot Singleton Version x y = absurd (y.1 x.1)
reason-once c slot Singleton Tie x y = absurd (y.1 x.1)
reason-once c slot Version Only x y = absurd (x.0 y)
reason-once c slot Version Singleton x y = absurd (x.1 y.1)
reason-once c slot Version Version x y = refl
reason-once c slot Version Tie x y = absurd (y.2 x.2)
reason-once c slot Tie Only x y = absurd (x.0 y)
reason-once c slot Tie Singleton x y = absurd (x.1 y.1)
reason-once c slot Tie Version x y = absurd (x.2 y.2)
reason-once c slot Tie Tie x y = refl

same-told : (x y : TableInForce) → x.slot ≡ y.slot → x.because ≡ y.because → x ≡ y
same-told x y e f = ap (λ s. record { slot = s; because = x.because }) e
    ∙ ap (λ r. record { slot = y.slot; because = r }) f

told-once : (c : Content) (x y : Option TableInForce) → IsTableInForce c x → IsTableInForce c y → x ≡ y
told-once c None None p q = refl
told-once c None (Some y) p q = absurd (p _ q.0.1)
told-once c (Some x) None p q = absurd (q _ p.0.1)
told-once c (Some x) (Some y) p q =
    let one = (table-words c (record { slot = x.slot; table = p.0.0 })).1 p.0.1 in
    let two = (table-words c (record { slot = y.slot; table = q.0.0 })).1 q.0.1 in
    let slot : x.slot ≡ y.slot = ap (λ (f : Found). f.slot) (same_Some _ _ (sym one ∙ two)) in
    ap Some (same-told x y slot (reason-once c y.slot x.because y.because
    (subst (λ (s : ℕ). IsTableReason c s x.because) slot p.1) q.1))

pub told-only : (c : Content) (x : Option TableInForce) → IsTableInForce c x
    → x ≡ table_in_force (result_ok (slot_answer_in c 0)) (result_ok (slot_answer_in c 1))
told-only c x is = told-once c x _ is (told-right c)

-- the table in force by the answers of the slots
pub told-from : (c : Content) (a b : Result Table SlotFault) (k : Option TableInForce) → a ≡ slot_answer_in c 0
    → b ≡ slot_answer_in c 1 → k ≡ table_in_force (result_ok a) (result_ok b)
    → k ≡ table_in_force (result_ok (slot_answer_in c 0)) (result_ok (slot_answer_in c 1))
told-from c a b k ea eb ek =
    ek ∙ (ap (λ (x : Result Table SlotFault). table_in_force (result_ok x) (result_ok b)) ea
    ∙ ap (λ (x : Result Table SlotFault). table_in_force (result_ok (slot_answer_in c 0)) (result_ok x)) eb)

pub taken-from : (c : Content) (a b : Result Table SlotFault) (k : Option TableInForce) → a ≡ slot_answer_in c 0
    → b ≡ slot_answer_in c 1 → k ≡ table_in_force (result_ok a) (result_ok b)
    → taken_table k (result_ok a) (result_ok b) ≡ option_map (λ (f : Found). f.table) (table_in c)
taken-from c a b k ea eb ek =
    ap (λ x. taken_table x (result_ok a) (result_ok b)) (told-from c a b k ea eb ek)
    ∙ (ap (λ (x : Result Table SlotFault). taken_table (table_in_force_in c) (result_ok x) (result_ok b)) ea
    ∙ (ap (λ (x : Result Table SlotFault).
    taken_table (table_in_force_in c) (result_ok (slot_answer_in c 0)) (result_ok x)) eb
    ∙ taken-in c))
