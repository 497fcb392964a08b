use Rattle.std.proofs.Common.{refl}
use Rattle.std.specs.Fmt.{padded_integral, digits, char_count}
use Rattle.hex.specs.Hex.{decode_pairs, encode_with}
use Rattle.block_codec.specs.Words.{word_bytes, word_of}
use Rattle.script_words.proofs.examples.lines_of_records.Goals as goal

pub returns-clause-power : goal.returns-clause-power
unfolding encode_with decode_pairs padded_integral digits char_count word_bytes word_of
returns-clause-power c = refl

pub returns-clause-normal : goal.returns-clause-normal
unfolding encode_with decode_pairs padded_integral digits char_count word_bytes word_of
returns-clause-normal c = refl

pub returns-clause-bootsel : goal.returns-clause-bootsel
unfolding encode_with decode_pairs padded_integral digits char_count word_bytes word_of
returns-clause-bootsel c = refl

pub returns-clause-update : goal.returns-clause-update
unfolding encode_with decode_pairs padded_integral digits char_count word_bytes word_of
returns-clause-update c = refl

pub returns-clause-before : goal.returns-clause-before
unfolding encode_with decode_pairs padded_integral digits char_count word_bytes word_of
returns-clause-before c = refl

pub returns-clause-within : goal.returns-clause-within
unfolding encode_with decode_pairs padded_integral digits char_count word_bytes word_of
returns-clause-within c = refl

pub returns-clause-buy : goal.returns-clause-buy
unfolding encode_with decode_pairs padded_integral digits char_count word_bytes word_of
returns-clause-buy c = refl

pub returns-clause-end : goal.returns-clause-end
unfolding encode_with decode_pairs padded_integral digits char_count word_bytes word_of
returns-clause-end c = refl

pub returns-clause-exclusive : goal.returns-clause-exclusive
unfolding encode_with decode_pairs padded_integral digits char_count word_bytes word_of
returns-clause-exclusive c = refl

pub returns-clause-erase : goal.returns-clause-erase
unfolding encode_with decode_pairs padded_integral digits char_count word_bytes word_of
returns-clause-erase c = refl

pub returns-clause-read : goal.returns-clause-read
unfolding encode_with decode_pairs padded_integral digits char_count word_bytes word_of
returns-clause-read c = refl

pub returns-clause-write : goal.returns-clause-write
unfolding encode_with decode_pairs padded_integral digits char_count word_bytes word_of
returns-clause-write c = refl

pub returns-clause-exit_xip : goal.returns-clause-exit_xip
unfolding encode_with decode_pairs padded_integral digits char_count word_bytes word_of
returns-clause-exit_xip c = refl

pub returns-clause-enter_xip : goal.returns-clause-enter_xip
unfolding encode_with decode_pairs padded_integral digits char_count word_bytes word_of
returns-clause-enter_xip c = refl

pub returns-clause-reboot : goal.returns-clause-reboot
unfolding encode_with decode_pairs padded_integral digits char_count word_bytes word_of
returns-clause-reboot c = refl

pub returns-clause-reboot_bootsel : goal.returns-clause-reboot_bootsel
unfolding encode_with decode_pairs padded_integral digits char_count word_bytes word_of
returns-clause-reboot_bootsel c = refl

pub returns-clause-reboot_update : goal.returns-clause-reboot_update
unfolding encode_with decode_pairs padded_integral digits char_count word_bytes word_of
returns-clause-reboot_update c = refl

pub returns-clause-reboot_ram : goal.returns-clause-reboot_ram
unfolding encode_with decode_pairs padded_integral digits char_count word_bytes word_of
returns-clause-reboot_ram c = refl

pub returns-clause-otp_read : goal.returns-clause-otp_read
unfolding encode_with decode_pairs padded_integral digits char_count word_bytes word_of
returns-clause-otp_read c = refl

pub returns-clause-otp_write : goal.returns-clause-otp_write
unfolding encode_with decode_pairs padded_integral digits char_count word_bytes word_of
returns-clause-otp_write c = refl

pub returns-clause-info_table : goal.returns-clause-info_table
unfolding encode_with decode_pairs padded_integral digits char_count word_bytes word_of
returns-clause-info_table c = refl

pub returns-clause-info_target : goal.returns-clause-info_target
unfolding encode_with decode_pairs padded_integral digits char_count word_bytes word_of
returns-clause-info_target c = refl

pub returns-clause-info_device : goal.returns-clause-info_device
unfolding encode_with decode_pairs padded_integral digits char_count word_bytes word_of
returns-clause-info_device c = refl

pub returns-clause-info_partition : goal.returns-clause-info_partition
unfolding encode_with decode_pairs padded_integral digits char_count word_bytes word_of
returns-clause-info_partition c = refl
