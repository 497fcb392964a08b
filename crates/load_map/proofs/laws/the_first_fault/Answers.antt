use Rattle.std.proofs.Common.{◌+◌, subst, sym}
use Rattle.block_codec.specs.Blocks.{block_words}
use Rattle.block_codec.specs.FirstFault.{AreSound}
use Rattle.load_map.specs.Loads.{entries_of, entry_count, is_absolute}
use Rattle.load_map.specs.Reading.{entry_fault, setting_of}
use Rattle.load_map.proofs.SoundLoadLemmas.{length-entries}
use Rattle.load_map.proofs.EntryLaws.{fault-first, first-fault, loads-sound, sound-loads-of}
use Rattle.load_map.proofs.laws.the_first_fault.Goals as goal

pub returns-clause-fault : goal.returns-clause-fault
returns-clause-fault c = λ base n in_place b item fault.
    let s = setting_of base in_place n b item in
    let entries = entries_of (block_words b) item in (
      fault-first s b (is_absolute item) entries fault,
      λ first. first-fault s b (is_absolute item) entries first.0
          fault first.1,
    )

pub returns-clause-sound : goal.returns-clause-sound
returns-clause-sound c = λ base n in_place b item loads is.
    let s = setting_of base in_place n b item in
    let entries = entries_of (block_words b) item in
    let long = length-entries (block_words b) (item.first + 1) (entry_count item) in
    subst (AreSound (entry_fault s b (is_absolute item)) entries) long
    (loads-sound s b (is_absolute item) entries loads is).0

pub returns-clause-loads : goal.returns-clause-loads
returns-clause-loads c = λ base n in_place b item sound.
    let s = setting_of base in_place n b item in
    let entries = entries_of (block_words b) item in
    let long = length-entries (block_words b) (item.first + 1) (entry_count item) in
    sound-loads-of s b (is_absolute item) entries
    (subst (AreSound (entry_fault s b (is_absolute item)) entries) (sym long) sound)
