-- The table that is found is the one that the rules name.
use Rattle.std.proofs.Common.{◌≡◌, ◌⊎◌, ◌↔◌, ℕ, zero, suc, ◌≤◌, Bool, true, false, if◌then◌else◌, Option, Some, None, refl, sym, ap, ◌∙◌, subst, inl, inr, arith}
use Rattle.std.specs.Result.{result_ok}
use Rattle.std.proofs.lemmas.Option.{same_Some}
use Rattle.part_table.specs.declared.table.Table.{Table}
use Rattle.pico_board.specs.Content.{Content}
use Rattle.boot_rules.specs.declared.tables.Found.{Found}
use Rattle.boot_rules.specs.Tables.{found_of, is_first_taken, slot_answer_in, table_in}
use Rattle.boot_rules.specs.TableRules.{IsSlotTable, IsTableIn}
use Rattle.boot_rules.proofs.SlotLemmas.{has-table, table-found, table-has}

-- the table of a slot
abbrev table_at : Content → ℕ → Option Table
table_at c number = result_ok (slot_answer_in c number)

found-at : (slot : ℕ) (t : Table) (f : Found) → f.slot ≡ slot → f.table ≡ t
    → Some (record { slot = slot; table = t }) ≡ Some f
found-at slot t f at is = ap (λ k. Some (record { slot = k; table = t })) (sym at)
    ∙ ap (λ u. Some (record { slot = f.slot; table = u })) (sym is)

-- which of the tables of two slots is found
module _ (one two : Option Table) (f : Found) where
  abbrev TakesFirst : Type 0
  TakesFirst = (f.slot ≡ 0) × (one ≡ Some f.table)
      × ((u : Table) → two ≡ Some u → is_first_taken f.table u ≡ true)

  abbrev TakesSecond : Type 0
  TakesSecond = (f.slot ≡ 1) × (two ≡ Some f.table)
      × ((u : Table) → one ≡ Some u → is_first_taken u f.table ≡ false)

taken-of : (one two : Option Table) (f : Found) → found_of one two ≡ Some f
    → TakesFirst one two f ⊎ TakesSecond one two f
taken-of None None f e = cc
taken-of None (Some t) f e =
    subst (λ g. TakesFirst None (Some t) g ⊎ TakesSecond None (Some t) g)
    (same_Some (record { slot = 1; table = t }) f e)
    (inr (refl, refl, λ u never. cc))
taken-of (Some t) None f e =
    subst (λ g. TakesFirst (Some t) None g ⊎ TakesSecond (Some t) None g)
    (same_Some (record { slot = 0; table = t }) f e)
    (inl (refl, refl, λ u never. cc))
taken-of (Some t) (Some u) f e = go (is_first_taken t u) refl e
  where
    go : (yes : Bool) → is_first_taken t u ≡ yes
        → (if yes then Some (record { slot = 0; table = t }) else Some (record { slot = 1; table = u })) ≡ Some f
        → TakesFirst (Some t) (Some u) f ⊎ TakesSecond (Some t) (Some u) f
    go true is same =
        subst (λ g. TakesFirst (Some t) (Some u) g ⊎ TakesSecond (Some t) (Some u) g)
        (same_Some (record { slot = 0; table = t }) f same)
        (inl (
          refl,
          refl,
          λ v at. subst (λ x. is_first_taken t x ≡ true) (same_Some u v at) is,
        ))
    go false is same =
        subst (λ g. TakesFirst (Some t) (Some u) g ⊎ TakesSecond (Some t) (Some u) g)
        (same_Some (record { slot = 1; table = u }) f same)
        (inr (
          refl,
          refl,
          λ v at. subst (λ x. is_first_taken x u ≡ false) (same_Some t v at) is,
        ))

first-of : (one two : Option Table) (f : Found) → TakesFirst one two f → found_of one two ≡ Some f
first-of None two f (at, never, over) = cc
first-of (Some t) None f takes = found-at 0 t f takes.0 (sym (same_Some t f.table takes.1))
first-of (Some t) (Some u) f takes =
    let same : t ≡ f.table = same_Some t f.table takes.1 in
    let over : is_first_taken t u ≡ true = subst (λ x. is_first_taken x u ≡ true) (sym same) (takes.2 u refl) in
    ap (λ yes. if yes then Some (record { slot = 0; table = t }) else Some (record { slot = 1; table = u }))
    over
    ∙ found-at 0 t f takes.0 (sym same)

second-of : (one two : Option Table) (f : Found) → TakesSecond one two f → found_of one two ≡ Some f
second-of None None f (at, never, over) = cc
second-of (Some t) None f (at, never, over) = cc
second-of None (Some u) f takes = found-at 1 u f takes.0 (sym (same_Some u f.table takes.1))
second-of (Some t) (Some u) f takes =
    let same : u ≡ f.table = same_Some u f.table takes.1 in
    let under : is_first_taken t u ≡ false = subst (λ x. is_first_taken t x ≡ false) (sym same) (takes.2 t refl) in
    ap (λ yes. if yes then Some (record { slot = 0; table = t }) else Some (record { slot = 1; table = u }))
    under
    ∙ found-at 1 u f takes.0 (sym same)

pub table-words : (c : Content) (f : Found) → (table_in c ≡ Some f) ↔ IsTableIn c f
table-words c f = (
  λ e. elim (taken-of (table_at c 0) (table_at c 1) f (sym (table-found c) ∙ e)) [
    | inl takes ↦ inl (
      takes.0,
      record {
        stands = has-table c 0 f.table takes.1;
        taken = λ u is. takes.2 u (table-has c 1 u is);
      },
    )
    | inr takes ↦ inr (
      takes.0,
      record {
        stands = has-table c 1 f.table takes.1;
        taken = λ u is. takes.2 u (table-has c 0 u is);
      },
    )
  ],
  λ is. elim is [
    | inl taken ↦ table-found c ∙ first-of (table_at c 0) (table_at c 1) f
        (taken.0, table-has c 0 f.table taken.1.stands, λ u at. taken.1.taken u (has-table c 1 u at))
    | inr taken ↦ table-found c ∙ second-of (table_at c 0) (table_at c 1) f
        (taken.0, table-has c 1 f.table taken.1.stands, λ u at. taken.1.taken u (has-table c 0 u at))
  ],
)

none-of : (one two : Option Table) → found_of one two ≡ None → (one ≡ None) × (two ≡ None)
none-of None None e = (refl, refl)
none-of None (Some u) e = cc
none-of (Some t) None e = cc
none-of (Some t) (Some u) e = absurd (go (is_first_taken t u) e)
  where
    go : (yes : Bool) → (let o : Option Found = if yes then Some (record { slot = 0; table = t })
        else Some (record { slot = 1; table = u }) in o)
        ≡ None → ⊥
    go true same = absurd cc
    go false same = absurd cc

absent : (o : Option Table) → ((t : Table) → o ≡ Some t → ⊥) → o ≡ None
absent None never = refl
absent (Some t) never = absurd (never t refl)

nothing : (t : Table) → None ≡ Some t → ⊥
nothing t both = absurd cc

present : (o : Option Table) (t : Table) → o ≡ None → o ≡ Some t → ⊥
present o t none some = nothing t (sym none ∙ some)

pub no-table-words : (c : Content)
    → (table_in c ≡ None) ↔ ((number : ℕ) (t : Table) → number ≤ 1 → IsSlotTable c number t → ⊥)
no-table-words c = (
  λ e number. by number (none-of (table_at c 0) (table_at c 1) (sym (table-found c) ∙ e)),
  λ never. table-found c ∙ (ap (λ o. found_of o (table_at c 1))
      (absent (table_at c 0) (λ t at. never 0 t (omega arith) (has-table c 0 t at)))
      ∙ ap (found_of None) (absent (table_at c 1) (λ t at. never 1 t (omega arith) (has-table c 1 t at)))),
)
  where
    by : (number : ℕ) → (table_at c 0 ≡ None) × (table_at c 1 ≡ None) → (t : Table) → number ≤ 1
        → IsSlotTable c number t → ⊥
    by zero both t le is = present (table_at c 0) t both.0 (table-has c 0 t is)
    by (suc zero) both t le is = present (table_at c 1) t both.1 (table-has c 1 t is)
    by (suc (suc n)) both t le is = absurd (omega (arith, le))
