-- A caveat is told by its code, so two caveats have one code just where they are the same.
use Rattle.std.proofs.Common.{◌≡◌, ℕ, ◌==◌, Bool, true, false, if◌then◌else◌, refl, sym, ap, ◌∙◌}
use Rattle.std.specs.Bool.{Decides}
use Rattle.std.specs.Prelude.{◌&&◌}
use Rattle.std.proofs.lemmas.Bool.{eqb-true, eq-eqb}
use Rattle.pico_board.specs.declared.window.Window.{Window}
use Rattle.block_loop.specs.declared.fault.LoopFault.{LoopFault}
use Rattle.block_loop.specs.declared.fault.LoopFault.TheVariants as loop_faults
use Rattle.image_def.specs.declared.fault.DefFault.{DefFault}
use Rattle.image_def.specs.declared.fault.DefFault.TheVariants.{Repeated, BadItem, BadRow, RepeatedRow}
use Rattle.load_map.specs.declared.load.MapFault.{MapFault}
use Rattle.load_map.specs.declared.load.MapFault.TheVariants.{Storage, Runtime, CoversBlock}
use Rattle.image_check.specs.declared.why.EntryFault.{EntryFault}
use Rattle.image_check.specs.declared.why.EntryFault.TheVariants.{Table, InBlock, Pc}
use Rattle.image_check.specs.declared.why.Why.{Why}
use Rattle.image_check.specs.declared.why.Why.TheVariants.{NoBlock, Loop, NoDefinition, NotForProcessor, Items, Trial, RollbackRequired, Below, Map, Entry, Digest, Delta}
use Rattle.part_table.specs.declared.table.TableFault.{TableFault}
use Rattle.part_table.specs.declared.table.TableFault.TheVariants as table_faults
use Rattle.slot_caveats.specs.declared.caveat.Caveat.{Caveat}
use Rattle.slot_caveats.specs.declared.caveat.Caveat.TheVariants.{SecureBoot, RawFlags, RawSlotSize, ShortFlash, ShortSlots, TableInImage, OtherProcessor, SlotImage, Tie, UpdateOfSlot, UpdateMovesUnit, RollbackRows, RollbackFull, RollbackGap, FirstBlock, ItemOrder, MayStart, OwnedImage, UnreadTargets, UnreadSide, TableTie, ImageInSlot, SlotEnd, FaultyTable, TableOrder, RawCritical, LongDefinition, AbsoluteMap, BareHash, IgnoreFlags, NoRead, UpdateOfNothing}
use Rattle.slot_caveats.specs.declared.same.CaveatCode.{CaveatCode}
use Rattle.slot_caveats.specs.declared.same.Told.{Told}
use Rattle.slot_caveats.specs.Same.{caveat_code, def_told, entry_told, is_same_caveat, is_same_code, is_same_told, loop_told, map_told, table_told, why_told}

-- what tells these numbers
abbrev loop_of : Told → LoopFault
loop_of t =
    if t.two == 0 then loop_faults.NoBlock
    else if t.two == 1 then loop_faults.Broken t.three
    else if t.two == 2 then loop_faults.TooMany
    else loop_faults.Overlap t.three t.four

abbrev def_of : Told → DefFault
def_of t =
    if t.two == 0 then Repeated t.three
    else if t.two == 1 then BadItem t.three
    else if t.two == 2 then BadRow t.three
    else RepeatedRow t.three

abbrev map_of : Told → MapFault
map_of t =
    if t.two == 0 then Storage t.three else if t.two == 1 then Runtime t.three else CoversBlock t.three

abbrev entry_of : Told → EntryFault
entry_of t = if t.two == 0 then Table else if t.two == 1 then InBlock else Pc

abbrev why_of : Told → Why
why_of t =
    if t.one == 0 then NoBlock
    else if t.one == 1 then Loop (loop_of t)
    else if t.one == 2 then NoDefinition
    else if t.one == 3 then NotForProcessor
    else if t.one == 4 then Items (def_of t)
    else if t.one == 5 then Trial
    else if t.one == 6 then RollbackRequired
    else if t.one == 7 then Below t.two t.three
    else if t.one == 8 then Map (map_of t)
    else if t.one == 9 then Entry (entry_of t)
    else if t.one == 10 then Digest
    else Delta

abbrev table_of : Told → TableFault
table_of t =
    if t.one == 0 then table_faults.BadItem
    else if t.one == 1 then table_faults.Permissions t.two
    else if t.one == 2 then table_faults.Range t.two
    else if t.one == 3 then table_faults.Overlap t.two t.three
    else if t.one == 4 then table_faults.Link t.two
    else table_faults.Hash

abbrev window_of : CaveatCode → Window
window_of x = record { start = x.first; len = x.second }

abbrev other_of : CaveatCode → Window
other_of x = record { start = x.told.one; len = x.told.two }

-- the caveat of a code
abbrev caveat_of : CaveatCode → Caveat
caveat_of x =
    if x.variant == 0 then SecureBoot
    else if x.variant == 1 then RawFlags x.first x.second
    else if x.variant == 2 then RawSlotSize x.first
    else if x.variant == 3 then ShortFlash x.first x.second
    else if x.variant == 4 then ShortSlots x.first
    else if x.variant == 5 then TableInImage (window_of x) x.told.one
    else if x.variant == 6 then OtherProcessor (window_of x)
    else if x.variant == 7 then SlotImage (window_of x)
    else if x.variant == 8 then Tie (window_of x) (other_of x)
    else if x.variant == 9 then UpdateOfSlot x.first
    else if x.variant == 10 then UpdateMovesUnit x.first
    else if x.variant == 11 then RollbackRows (window_of x)
    else if x.variant == 12 then RollbackFull (window_of x)
    else if x.variant == 13 then RollbackGap x.first
    else if x.variant == 14 then FirstBlock (window_of x)
    else if x.variant == 15 then ItemOrder (window_of x)
    else if x.variant == 16 then MayStart (window_of x) (why_of x.told)
    else if x.variant == 17 then OwnedImage x.first
    else if x.variant == 18 then UnreadTargets x.first
    else if x.variant == 19 then UnreadSide x.first
    else if x.variant == 20 then TableTie
    else if x.variant == 21 then ImageInSlot x.first
    else if x.variant == 22 then SlotEnd (window_of x) x.told.one
    else if x.variant == 23 then FaultyTable x.first (table_of x.told)
    else if x.variant == 24 then TableOrder x.first
    else if x.variant == 25 then RawCritical x.first x.second
    else if x.variant == 26 then LongDefinition (window_of x) x.told.one
    else if x.variant == 27 then AbsoluteMap (window_of x)
    else if x.variant == 28 then BareHash (window_of x)
    else if x.variant == 29 then IgnoreFlags x.first
    else if x.variant == 30 then NoRead x.first
    else UpdateOfNothing x.first

loop-back : (f : LoopFault) → why_of (loop_told f) ≡ Loop f
loop-back loop_faults.NoBlock = refl
loop-back (loop_faults.Broken at) = refl
loop-back loop_faults.TooMany = refl
loop-back (loop_faults.Overlap one two) = refl

def-back : (f : DefFault) → why_of (def_told f) ≡ Items f
def-back (Repeated kind) = refl
def-back (BadItem kind) = refl
def-back (BadRow row) = refl
def-back (RepeatedRow row) = refl

map-back : (f : MapFault) → why_of (map_told f) ≡ Map f
map-back (Storage i) = refl
map-back (Runtime i) = refl
map-back (CoversBlock i) = refl

entry-back : (f : EntryFault) → why_of (entry_told f) ≡ Entry f
entry-back Table = refl
entry-back InBlock = refl
entry-back Pc = refl

why-back : (why : Why) → why_of (why_told why) ≡ why
why-back NoBlock = refl
why-back (Loop fault) = loop-back fault
why-back NoDefinition = refl
why-back NotForProcessor = refl
why-back (Items fault) = def-back fault
why-back Trial = refl
why-back RollbackRequired = refl
why-back (Below version count) = refl
why-back (Map fault) = map-back fault
why-back (Entry fault) = entry-back fault
why-back Digest = refl
why-back Delta = refl

table-back : (f : TableFault) → table_of (table_told f) ≡ f
table-back table_faults.BadItem = refl
table-back (table_faults.Permissions i) = refl
table-back (table_faults.Range i) = refl
table-back (table_faults.Overlap i k) = refl
table-back (table_faults.Link i) = refl
table-back table_faults.Hash = refl

caveat-back : (x : Caveat) → caveat_of (caveat_code x) ≡ x
caveat-back SecureBoot = refl
caveat-back (RawFlags row bits) = refl
caveat-back (RawSlotSize bits) = refl
caveat-back (ShortFlash slot part) = refl
caveat-back (ShortSlots size) = refl
caveat-back (TableInImage w at) = refl
caveat-back (OtherProcessor w) = refl
caveat-back (SlotImage w) = refl
caveat-back (Tie w v) = refl
caveat-back (UpdateOfSlot slot) = refl
caveat-back (UpdateMovesUnit part) = refl
caveat-back (RollbackRows w) = refl
caveat-back (RollbackFull w) = refl
caveat-back (RollbackGap row) = refl
caveat-back (FirstBlock w) = refl
caveat-back (ItemOrder w) = refl
caveat-back (MayStart w why) = ap (MayStart w) (why-back why)
caveat-back (OwnedImage part) = refl
caveat-back (UnreadTargets bits) = refl
caveat-back (UnreadSide part) = refl
caveat-back TableTie = refl
caveat-back (ImageInSlot slot) = refl
caveat-back (SlotEnd w at) = refl
caveat-back (FaultyTable slot fault) = ap (FaultyTable slot) (table-back fault)
caveat-back (TableOrder slot) = refl
caveat-back (RawCritical row bits) = refl
caveat-back (LongDefinition w at) = refl
caveat-back (AbsoluteMap w) = refl
caveat-back (BareHash w) = refl
caveat-back (IgnoreFlags part) = refl
caveat-back (NoRead part) = refl
caveat-back (UpdateOfNothing base) = refl

parts_of : (a b : Bool) → (a && b) ≡ true → (a ≡ true) × (b ≡ true)
parts_of true b e = (refl, e)
parts_of false b e = cc

told-to : (x y : Told) → is_same_told x y ≡ true → x ≡ y
told-to x y e =
    let three = parts_of _ _ e in
    let two = parts_of _ _ three.0 in
    let one = parts_of _ _ two.0 in
    ap (λ n. record { one = n; two = x.two; three = x.three; four = x.four }) (eqb-true x.one y.one one.0)
    ∙ (ap (λ n. record { one = y.one; two = n; three = x.three; four = x.four }) (eqb-true x.two y.two one.1)
    ∙ (ap (λ n. record { one = y.one; two = y.two; three = n; four = x.four }) (eqb-true x.three y.three two.1)
    ∙ ap (λ n. record { one = y.one; two = y.two; three = y.three; four = n }) (eqb-true x.four y.four three.1)))

code-to : (x y : CaveatCode) → is_same_code x y ≡ true → x ≡ y
code-to x y e =
    let three = parts_of _ _ e in
    let two = parts_of _ _ three.0 in
    let one = parts_of _ _ two.0 in
    ap (λ n. record { variant = n; first = x.first; second = x.second; told = x.told })
    (eqb-true x.variant y.variant one.0)
    ∙ (ap (λ n. record { variant = y.variant; first = n; second = x.second; told = x.told })
    (eqb-true x.first y.first one.1)
    ∙ (ap (λ n. record { variant = y.variant; first = y.first; second = n; told = x.told })
    (eqb-true x.second y.second two.1)
    ∙ ap (λ t. record { variant = y.variant; first = y.first; second = y.second; told = t })
    (told-to x.told y.told three.1)))

alike : (n : ℕ) → (n == n) ≡ true
alike n = eq-eqb n n refl

both : (a b : Bool) → a ≡ true → b ≡ true → (a && b) ≡ true
both true true e f = refl
both true false e f = cc
both false b e f = cc

code-same : (x : CaveatCode) → is_same_code x x ≡ true
code-same x =
    both _ _ (both _ _ (both _ _ (alike x.variant) (alike x.first)) (alike x.second))
    (both _ _ (both _ _ (both _ _ (alike x.told.one) (alike x.told.two)) (alike x.told.three)) (alike x.told.four))

pub same-decides : (x y : Caveat) → Decides (is_same_caveat x y) (x ≡ y)
same-decides x y = (
  λ e. sym (caveat-back x) ∙ (ap caveat_of (code-to (caveat_code x) (caveat_code y) e) ∙ caveat-back y),
  λ e. sym (ap (λ z. is_same_caveat x z) e) ∙ code-same (caveat_code x),
)
