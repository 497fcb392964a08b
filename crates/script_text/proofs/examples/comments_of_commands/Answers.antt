use Rattle.std.proofs.Common.{refl}
use Rattle.std.specs.Fmt.{padded_integral, digits, char_count}
use Rattle.hex.specs.Hex.{decode_pairs, encode_with}
use Rattle.block_codec.specs.Words.{word_bytes, word_of}
use Rattle.script_text.specs.Comments.{command_text, uf2_counts, uf2_target, uf2_text}
use Rattle.script_text.proofs.examples.comments_of_commands.Goals as goal

pub returns-clause-exclusive : goal.returns-clause-exclusive
unfolding encode_with command_text uf2_text padded_integral digits char_count decode_pairs uf2_counts uf2_target word_bytes word_of
returns-clause-exclusive c = refl

pub returns-clause-erase : goal.returns-clause-erase
unfolding encode_with command_text uf2_text padded_integral digits char_count decode_pairs uf2_counts uf2_target word_bytes word_of
returns-clause-erase c = refl

pub returns-clause-read : goal.returns-clause-read
unfolding encode_with command_text uf2_text padded_integral digits char_count decode_pairs uf2_counts uf2_target word_bytes word_of
returns-clause-read c = refl

pub returns-clause-write : goal.returns-clause-write
unfolding encode_with command_text uf2_text padded_integral digits char_count decode_pairs uf2_counts uf2_target word_bytes word_of
returns-clause-write c = refl

pub returns-clause-exit_xip : goal.returns-clause-exit_xip
unfolding encode_with command_text uf2_text padded_integral digits char_count decode_pairs uf2_counts uf2_target word_bytes word_of
returns-clause-exit_xip c = refl

pub returns-clause-enter_xip : goal.returns-clause-enter_xip
unfolding encode_with command_text uf2_text padded_integral digits char_count decode_pairs uf2_counts uf2_target word_bytes word_of
returns-clause-enter_xip c = refl

pub returns-clause-otp_read : goal.returns-clause-otp_read
unfolding encode_with command_text uf2_text padded_integral digits char_count decode_pairs uf2_counts uf2_target word_bytes word_of
returns-clause-otp_read c = refl

pub returns-clause-otp_write : goal.returns-clause-otp_write
unfolding encode_with command_text uf2_text padded_integral digits char_count decode_pairs uf2_counts uf2_target word_bytes word_of
returns-clause-otp_write c = refl

pub returns-clause-another : goal.returns-clause-another
unfolding encode_with command_text uf2_text padded_integral digits char_count decode_pairs uf2_counts uf2_target word_bytes word_of
returns-clause-another c = refl

pub returns-clause-another_size : goal.returns-clause-another_size
unfolding encode_with command_text uf2_text padded_integral digits char_count decode_pairs uf2_counts uf2_target word_bytes word_of
returns-clause-another_size c = refl

pub returns-clause-info_size : goal.returns-clause-info_size
unfolding encode_with command_text uf2_text padded_integral digits char_count decode_pairs uf2_counts uf2_target word_bytes word_of
returns-clause-info_size c = refl

pub returns-clause-bad_magic : goal.returns-clause-bad_magic
unfolding encode_with command_text uf2_text padded_integral digits char_count decode_pairs uf2_counts uf2_target word_bytes word_of
returns-clause-bad_magic c = refl
