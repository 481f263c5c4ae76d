-- Silence, volumes and pans (the Rust's `clamp_pcm_volume`, `apply_dxy_tick0_fast_slide`, Dxy, SAx and X). Assumes nothing.
use Rattle.std.specs.Prelude.{ℕ, ◌+◌, ◌-◌, ◌*◌, ◌/◌, ◌%◌, min, Bool, false, ◌&&◌, not, eqb, ltb, pos, Float}
use Rattle.std.specs.Float.{fin}
use Rattle.laws.specs.Choice.{pick}

-- no frequency
abbrev pub silence : Float
silence = fin false 0 (pos 0)

-- a volume peaks at 63; one that an AdLib channel loads with its instrument peaks at 64
abbrev pub peak : ℕ → ℕ
peak v = min v 63

abbrev pub load_peak : Bool → ℕ → ℕ
load_peak adlib v = pick adlib (min v 64) (peak v)

abbrev pub raised : ℕ → ℕ → ℕ
raised v x = peak (v + x)

abbrev pub lowered : ℕ → ℕ → ℕ
lowered v y = v - y

-- fast slides: Dx0 goes up on tick 0; D0y, and Dxy with both nibbles 1 to 14, go down
unfoldable pub fast_slid : ℕ → ℕ → ℕ → ℕ
fast_slid v x y =
    pick (not (eqb x 0) && eqb y 0 && not (eqb x 15)) (raised v x)
    (pick (not (eqb y 0) && eqb x 0 && not (eqb y 15)) (lowered v y)
    (pick (not (eqb x 0) && not (eqb y 0) && not (eqb x 15) && not (eqb y 15)) (lowered v y)
    v))

-- Dxy on tick 0: DFF and DF0 go up 15, D0F down 15, DFy down y, DxF up x; the others only with fast slides
unfoldable pub volume_slid : ℕ → ℕ → ℕ → Bool → ℕ
volume_slid v x y fast =
    pick (eqb x 15 && eqb y 15) (raised v 15)
    (pick (eqb x 15 && eqb y 0) (raised v 15)
    (pick (eqb x 0 && eqb y 15) (lowered v 15)
    (pick (eqb x 15 && not (eqb y 0)) (lowered v y)
    (pick (eqb y 15 && not (eqb x 0)) (raised v x)
    (pick fast (fast_slid v x y)
    v)))))

-- SAx: 0 and 2 the bank's own side, 1 and 3 the other, 4 to 7 the middle, 8 up nothing
unfoldable pub stereo_pan : ℕ → Bool → ℕ → ℕ
stereo_pan p right pan =
    pick (ltb p 4) (pick (eqb (p % 2) 0) (pick right 15 0) (pick right 0 15)) (pick (ltb p 8) 7 pan)

-- X: 0 to 0x80 onto 0 to 15
abbrev pub set_pan : ℕ → ℕ
set_pan info = min (info * 15 / 128) 15
