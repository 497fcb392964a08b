use Rattle.load_map.proofs.GivenLaws.{byte-window, byte-stored, byte-clear, byte-not_loaded, byte-elsewhere}
use Rattle.load_map.proofs.laws.the_byte_at_an_address.Goals as goal

pub returns-clause-window : goal.returns-clause-window
returns-clause-window c = byte-window

pub returns-clause-stored : goal.returns-clause-stored
returns-clause-stored c = byte-stored

pub returns-clause-clear : goal.returns-clause-clear
returns-clause-clear c = byte-clear

pub returns-clause-not_loaded : goal.returns-clause-not_loaded
returns-clause-not_loaded c = byte-not_loaded

pub returns-clause-elsewhere : goal.returns-clause-elsewhere
returns-clause-elsewhere c = byte-elsewhere
