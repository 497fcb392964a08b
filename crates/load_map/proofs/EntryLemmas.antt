-- The loop that reads a load map: its entries one by one, and the loads or the first fault.
use Rattle.std.proofs.Common.{◌≡◌, ℕ, zero, suc, ◌+◌, ◌*◌, ◌<◌, ◌≤◌, Bool, true, List, [], ◌∷◌, ◌++◌, length, take, arith, refl, sym, ap, ◌∙◌}
use Rattle.std.specs.Prelude.{Option, None, Some, Result, Ok, Err, IfOk, filter_map, slice_index, slice_get}
use Rattle.std.proofs.lemmas.List.{take_more, take_all, length-take-le}
use Rattle.std.proofs.lemmas.List.Elements.{filter_map-append}
use Rattle.std.proofs.lemmas.Bool.{eq-eqb}
use Rattle.std.proofs.lemmas.Option.{slice_get_within, get_or_from_slice_get}
use Rattle.block_codec.specs.Blocks.{BlockView}
use Rattle.block_codec.specs.FirstFault.{AreSound}
use Rattle.block_codec.proofs.FirstFaultLemmas.{sound_more, none_from_sound_at, first_at, fault_from_first}
use Rattle.block_codec.specs.Items.{items_of}
use Rattle.block_codec.specs.Kinds.{is_of_kind}
use Rattle.block_codec.specs.declared.items.Item.{Item}
use Rattle.block_codec.specs.declared.kinds.TheConstants.{LOAD_MAP}
use Rattle.load_map.specs.Loads.{IsMapAt, entry_at, entry_count, entries_from}
use Rattle.arrayvec.specs.ArrayVec.{ArrayVec}
use Rattle.load_map.specs.Reading.{load_of, load_fault, entry_fault, loads_or_fault, loads_answered}
use Rattle.load_map.specs.Stored.{AreStoredIn}
use Rattle.load_map.proofs.SoundLoadLemmas.{sound-loads}
use Rattle.load_map.specs.declared.entry.Entry.{Entry}
use Rattle.load_map.specs.declared.load.Load.{Load}
use Rattle.load_map.specs.declared.load.MapFault.{MapFault}
use Rattle.load_map.specs.declared.setting.Setting.{Setting}

-- an item of a block that is a LOAD_MAP with three words for each entry
pub IsMapAt-from : (b : BlockView) (k : ℕ) (item : Item) → slice_get (items_of b.items) k ≡ Some item
    → is_of_kind LOAD_MAP item ≡ true → item.words ≡ 1 + 3 * entry_count item → IsMapAt b k
IsMapAt-from b k item at kind size = rw at (rw (kind, eq-eqb item.words (1 + 3 * entry_count item) size) refl)

-- the entry at place i, three words an entry
pub entry-here : (words : List ℕ) (place n i : ℕ) → i < n
    → slice_get (entries_from words place n) i ≡ Some (entry_at words (place + 3 * i))
entry-here words place zero i lt = absurd (omega arith)
entry-here words place (suc n) zero lt =
    let same : place ≡ place + 3 * 0 = omega arith in
    ap (λ k. Some (entry_at words k)) same
entry-here words place (suc n) (suc i) lt =
    let next : place + 3 + 3 * i ≡ place + 3 * suc i = omega arith in
    entry-here words (place + 3) n i (omega arith) ∙ ap (λ k. Some (entry_at words k)) next

-- the entry whose words were read at these places
pub entry-read : (words : List ℕ) (first n i a b c : ℕ) → i < n → a ≡ slice_index words (first + (3 * i + 1))
    → b ≡ slice_index words (first + (3 * i + 2)) → c ≡ slice_index words (first + (3 * i + 3))
    → slice_get (entries_from words (first + 1) n) i ≡ Some (record { place = a; runtime = b; extent = c })
entry-read words first n i a b c lt at_a at_b at_c =
    let one : first + 1 + 3 * i ≡ first + (3 * i + 1) = omega arith in
    let two : first + 1 + 3 * i + 1 ≡ first + (3 * i + 2) = omega arith in
    let three : first + 1 + 3 * i + 2 ≡ first + (3 * i + 3) = omega arith in
    entry-here words (first + 1) n i lt
    ∙ made (ap (slice_index words) one ∙ sym at_a) (ap (slice_index words) two
    ∙ sym at_b) (ap (slice_index words) three ∙ sym at_c)
  where
    entry : ℕ → ℕ → ℕ → Entry
    entry x y z = record { place = x; runtime = y; extent = z }

    made : {x y z : ℕ} → x ≡ a → y ≡ b → z ≡ c → Some (entry x y z) ≡ Some (entry a b c)
    made p q r = cc

module _ (s : Setting) (b : BlockView) (absolute : Bool) (entries : List Entry) where
  -- the fault of the entry at place i is judged by its place alone
  judged-here : (i : ℕ) (entry : Entry) (fault : Option MapFault) → slice_get entries i ≡ Some entry
      → load_fault s b i (load_of s absolute entry) ≡ fault → entry_fault s b absolute (take i entries) entry ≡ fault
  judged-here i entry fault here is =
      let lt = slice_get_within entries i entry here in
      ap (λ k. load_fault s b k (load_of s absolute entry)) (length-take-le i entries (omega (arith, lt))) ∙ is

  -- one more entry was read, and its load
  pub sound-next : (i : ℕ) (entry : Entry) → AreSound (entry_fault s b absolute) entries i
      → slice_get entries i ≡ Some entry → load_fault s b i (load_of s absolute entry) ≡ None
      → AreSound (entry_fault s b absolute) entries (i + 1)
  sound-next i entry sound here none = sound_more (entry_fault s b absolute) entries i entry sound here
      (judged-here i entry None here none)

  pub loads-next : (i : ℕ) (entry : Entry) (load : Load) (loads : List Load)
      → loads ≡ filter_map (load_of s absolute) (take i entries) → slice_get entries i ≡ Some entry
      → load_of s absolute entry ≡ Some load
      → loads ++ load ∷ [] ≡ filter_map (load_of s absolute) (take (i + 1) entries)
  loads-next i entry load loads so_far here is =
      let lt = slice_get_within entries i entry here in
      let at = get_or_from_slice_get entries i entry entry here in
      let more = take_more entries i entry lt in
      let one : filter_map (load_of s absolute) (entry ∷ []) ≡ load ∷ [] = rw is refl in
      rw (so_far, more, at, filter_map-append (load_of s absolute) (take i entries) (entry ∷ []), one) refl

  -- the loads of all entries, where none has a fault
  pub loads-all : (n : ℕ) (loads : List Load) → length entries ≤ n → AreSound (entry_fault s b absolute) entries n
      → loads ≡ filter_map (load_of s absolute) (take n entries) → Ok loads ≡ loads_or_fault s b absolute entries
  loads-all n loads all sound so_far =
      let none = none_from_sound_at (entry_fault s b absolute) entries n all sound in
      rw (none, so_far, take_all n entries all) refl

  -- the loads of an answer lie in the window
  pub stored-answer : (answer : Result (ArrayVec Load) MapFault)
      → loads_answered answer ≡ loads_or_fault s b absolute entries
      → IfOk answer (λ loads. AreStoredIn s.len loads.items)
  stored-answer (Ok loads) is = (sound-loads s b absolute entries loads.items (sym is)).stored
  stored-answer (Err fault) is = tt

  -- the fault of an entry behind those without one
  pub loads-fault : (i : ℕ) (entry : Entry) (fault : MapFault) → AreSound (entry_fault s b absolute) entries i
      → slice_get entries i ≡ Some entry → load_fault s b i (load_of s absolute entry) ≡ Some fault
      → Err fault ≡ loads_or_fault s b absolute entries
  loads-fault i entry fault sound here is =
      let first = first_at (entry_fault s b absolute) entries i entry fault sound here
      (judged-here i entry (Some fault) here is) in
      rw (fault_from_first (entry_fault s b absolute) entries i fault first) refl
