-- The stages of a pick as the code takes them. A member's image is seen before its digest is made,
-- so that only the image of the better version is hashed.
use Rattle.std.specs.Prelude.{false, Option, Some, None, option_map}
use Rattle.std.specs.Result.{result_ok}
use Rattle.pico_board.specs.declared.boot.Cpu.{Cpu}
use Rattle.pico_board.specs.declared.window.Window.{Window}
use Rattle.pico_board.specs.Content.{Content, window_bytes}
use Rattle.block_codec.specs.declared.versions.Version.{Version}
use Rattle.image_check.specs.declared.examining.Candidate.{Candidate}
use Rattle.image_check.specs.Addressing.{in_flash}
use Rattle.image_check.specs.Examined.{examined_in}

-- the image of a member before its digest is made, where no trial image is allowed
abbrev pub candidate_in : Content → Cpu → Option Window → Option Candidate
candidate_in c cpu None = None
candidate_in c cpu (Some w) = result_ok (examined_in in_flash cpu false c.otp (window_bytes c w))

-- the version of the image that was seen of a member
abbrev pub candidate_version : Option Candidate → Option Version
candidate_version seen = option_map (λ (x : Candidate). x.def.version) seen
