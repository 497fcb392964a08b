use Rattle.std.proofs.Common.{◌≡◌, ◌↔◌, ◌≤◌, ℕ, List, length, Result, Ok, Err, refl, ap, subst}
use Rattle.std.specs.Prelude.{OnOk, IfErr, IsErrOf}
use Rattle.block_codec.specs.declared.error.BlockError.{BlockError}
use Rattle.block_codec.specs.declared.error.BlockError.TheVariants.{ItemSize, Memory}
use Rattle.block_codec.specs.Items.{AreItems}
use Rattle.block_codec.specs.Writing.{IsBadAt}
use Rattle.block_codec.proofs.ExactLemmas.{AreWords-from_each}
use Rattle.block_codec.proofs.WriteLemmas.{IsBadAt-whole, IsBadAt-unique}
use Rattle.block_codec.proofs.writing.write_block.Goals as goal

on_ok : (r : Result (Unit {0}) BlockError) (P : Type 0) → P → OnOk r P
on_ok (Ok u) P p = p
on_ok (Err e) P p = tt

not_bad : (ws : List ℕ) (r : Result (Unit {0}) BlockError) → IfErr r (λ e. e ≡ Memory) → AreItems ws → (i : ℕ) →
    IsErrOf r (ItemSize i) ↔ ((length ws ≤ 156) × IsBadAt ws i)
not_bad ws (Ok u) memory whole i = (λ e. cc, λ bad. absurd (IsBadAt-whole ws i whole bad.1))
not_bad ws (Err e) memory whole i = (λ f. cc, λ bad. absurd (IsBadAt-whole ws i whole bad.1))

the_bad : (ws : List ℕ) (place : ℕ) → length ws ≤ 156 → IsBadAt ws place → (i : ℕ) →
    IsErrOf {T = Unit {0}} (Err (ItemSize place)) (ItemSize i) ↔ ((length ws ≤ 156) × IsBadAt ws i)
the_bad ws place few bad i = (
  λ e. let same : place ≡ i = cc in (few, subst (IsBadAt ws) same bad),
  λ p. ap (λ k. Err (ItemSize k)) (IsBadAt-unique ws place i bad p.1),
)

pub returns-in-Some-clause-item_size : goal.returns-in-Some-clause-item_size
returns-in-Some-clause-item_size c i =
    the_bad c.args.items.now c.in-Some.place c.if-items-gt-MOST_ITEM_WORDS.false c.in-Some.ensures.found i

pub returns-in-None-clause-block : goal.returns-in-None-clause-block
returns-in-None-clause-block c =
    on_ok c.append.result _
    (record {
      spelled = refl;
      whole = c.in-None.ensures.none;
      few = c.if-items-gt-MOST_ITEM_WORDS.false;
      words = AreWords-from_each c.args.items.now (λ k. (c.type_inv.items k).fits);
      fits = c.ranges.link;
    })

pub returns-in-None-clause-item_size : goal.returns-in-None-clause-item_size
returns-in-None-clause-item_size c i =
    not_bad c.args.items.now c.append.result c.append.ensures.memory c.in-None.ensures.none i
