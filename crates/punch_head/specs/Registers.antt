-- The punch head's sixteen registers (02, 2026-05): places, bits, and the rules that refuse a step. Assumes nothing.
use Rattle.std.specs.Prelude.{ℕ, ◌+◌, ◌-◌, ◌*◌, ◌/◌, ◌%◌, ◌^◌, Bool, not, ◌&&◌, ◌||◌, List, eqb, length, get_or, take, drop}
use Rattle.laws.specs.Masks.{bit_of}
use Rattle.laws.specs.Refusals.{refuse, or_else}
use Rattle.section.specs.Records.{record_size, start_at, strikes_at}

-- "0 command, 1 status, 2 to 3 zero, 4 to 7 mask, 8 to 15 position"
abbrev pub command_at : ℕ
command_at = 0

abbrev pub status_at : ℕ
status_at = 1

abbrev pub zero_at : ℕ
zero_at = 2

abbrev pub mask_at : ℕ
mask_at = 4

abbrev pub position_at : ℕ
position_at = 8

abbrev pub registers_size : ℕ
registers_size = 16

-- "1 load, 2 strike, 3 clear"
abbrev pub load_command : ℕ
load_command = 1

abbrev pub strike_command : ℕ
strike_command = 2

abbrev pub clear_command : ℕ
clear_command = 3

-- "bit 0 loaded, bit 1 late, bit 7 interrupt"
abbrev pub loaded_bit : ℕ
loaded_bit = 0

abbrev pub late_bit : ℕ
late_bit = 1

abbrev pub interrupt_bit : ℕ
interrupt_bit = 7

-- bit k of a byte is on; the byte with it on, and with it off
abbrev pub is_on : ℕ → ℕ → Bool
is_on s k = eqb (bit_of s k) 1

abbrev pub with_bit : ℕ → ℕ → ℕ
with_bit s k = s + (1 - bit_of s k) * 2 ^ k

abbrev pub without_bit : ℕ → ℕ → ℕ
without_bit s k = s - bit_of s k * 2 ^ k

-- bits 2 to 6, the status bits other than these three
abbrev pub other_bits : ℕ → ℕ
other_bits s = s / 2 ^ 2 % 2 ^ 5

-- what the registers say
abbrev pub command_of : List ℕ → ℕ
command_of g = get_or g command_at 0

abbrev pub status_of : List ℕ → ℕ
status_of g = get_or g status_at 0

abbrev pub loaded : List ℕ → Bool
loaded g = is_on (status_of g) loaded_bit

abbrev pub late : List ℕ → Bool
late g = is_on (status_of g) late_bit

abbrev pub interrupt : List ℕ → Bool
interrupt g = is_on (status_of g) interrupt_bit

abbrev pub mask_bytes : List ℕ → List ℕ
mask_bytes g = take 4 (drop mask_at g)

abbrev pub position_bytes : List ℕ → List ℕ
position_bytes g = take 8 (drop position_at g)

-- "a record's mask and start", as its bytes
abbrev pub row_mask : List ℕ → List ℕ
row_mask r = take 4 (drop strikes_at r)

abbrev pub row_start : List ℕ → List ℕ
row_start r = take 8 (drop start_at r)

-- "15, registers not 16 bytes, or bytes 2 and 3 not zero", either of them, "or other status bits set"
unfoldable pub registers_rule : List ℕ → ℕ
registers_rule g =
    refuse 15
    (not (eqb (length g) registers_size)
    || (not (eqb (get_or g zero_at 0) 0) || (not (eqb (get_or g (zero_at + 1) 0) 0) || not (eqb (other_bits (status_of g)) 0))))

-- "13, on a load only, for a bad record"
unfoldable pub load_rule : ℕ → List ℕ → ℕ
load_rule command r = refuse 13 (eqb command load_command && not (eqb (length r) record_size))

-- "15 first of all; 13 follows"
unfoldable pub head_rule : List ℕ → ℕ → List ℕ → ℕ
head_rule g command r = or_else (registers_rule g) (load_rule command r)
