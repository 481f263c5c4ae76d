-- A tune's path where it opens (01, 'Open'). Assumes nothing.
use Rattle.std.specs.Prelude.{ℕ, false, replicate, None}
use Rattle.row_path.specs.declared.machine.Path.{Path}

-- order 0, row 0, loop order and count absent, loop start 0, hold 0, held no, card start 0, ended no; S infos at first 0;
-- remainder 0 (02, 2026-01)
unfoldable pub first_path : ℕ → ℕ → ℕ → Path
first_path speed tempo rate =
    record {
      place = record { order = 0; row = 0 };
      pattern_loop = record { order = None; start_row = 0; count = None };
      hold = record { left = 0; held = false };
      clock = record { speed = speed; tempo = tempo; rate = rate; start = 0; remainder = 0 };
      ended = false;
      s_info = replicate 32 0;
    }
