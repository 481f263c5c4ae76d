-- What enter and leave keep where the tables hold bytes. Assumes nothing.
use Prim.Native.Nat.{ℕ, ◌+◌, ◌≤◌, ◌<◌}
use mathlib.Core.Path.{◌≡◌, refl}
use mathlib.Core.Bool.{Bool, true, false}
use mathlib.Core.List.{List}
use native.Mathlib.Omega.{arith}
use borrow.Author.Tests.{eqb-false, ltb-true, ltb-false}
use lib.Dec.{eqb, ltb}
use lib.ListN.{length, get_or, take, drop, length-take, get_or-eq_default}
use lib.Seq.{get_or-take, get_or-drop}
use Rattle.tune.specs.Cells.{row_place, row_cells}
use Rattle.tune.specs.Numbers.{Bytes}
use Rattle.row_path.specs.Orders.{next_order}
use Rattle.row_path.specs.Enter.{entered}
use Rattle.row_path.specs.Leave.{left}
use Rattle.row_path.specs.Sound.{Sound, SoundEntered}
use Rattle.row_path.specs.declared.machine.Path.{Path}
use Rattle.row_path.specs.declared.machine.Entered.{Entered}
use Rattle.row_path.proofs.Ends.{skipped_most}
use Rattle.row_path.proofs.Keeping.{Keeps, entered_keeps, left_keeps}

taken_byte : (s : List ℕ) (n k : ℕ) (b : Bool) → ltb k n ≡ b → get_or s k 0 < 256 → get_or (take n s) k 0 < 256
taken_byte s n k true e h = let l = ltb-true k n e in rw get_or-take h
taken_byte s n k false e h =
    rw (get_or-eq_default (take n s) 0 {n = k} (simp length-take (omega (arith, ltb-false k n e)))) (omega arith)

-- a row's cells are bytes, if the table's are
pub row_bytes : (cells : List ℕ) (pattern row : ℕ) → Bytes cells → Bytes (row_cells cells pattern row)
unfolding row_cells
row_bytes cells pattern row b k =
    taken_byte (drop (row_place pattern row) cells) 160 k (ltb k 160) refl (rw get_or-drop (b (row_place pattern row + k)))

-- a byte is an order, and a speed where it is not 0
abbrev Order : ℕ → Type 0
Order x = x ≤ 255

abbrev Speed : ℕ → Type 0
Speed x = (1 ≤ x) × (x ≤ 255)

abbrev Rate : ℕ → Type 0
Rate x = (1 ≤ x) × (x ≤ 100000)

order_of : (x : ℕ) → x < 256 → Order x
order_of x b = omega arith

speed_of : (x : ℕ) → x < 256 → eqb x 0 ≡ false → Speed x
speed_of x b e = (omega (arith, eqb-false x 0 e), omega arith)

next : (x : ℕ) → Order (next_order x)
next x = omega arith

parts : (p : Path) → Sound p → Keeps Order Speed Rate p
parts p h = record { order = h.order; row = h.row; start_row = h.start_row; speed = (h.slow, h.fast); tempo = h.tempo; rate = (h.moves, h.rate); remainder = h.remainder }

whole : (p : Path) → Keeps Order Speed Rate p → Sound p
whole p k =
    record { order = k.order; row = k.row; start_row = k.start_row; slow = k.speed.0; fast = k.speed.1; tempo = k.tempo; moves = k.rate.0; rate = k.rate.1; remainder = k.remainder }

-- enter keeps a sound path sound, and the jump that it leaves is one to a pattern's row
pub entered_kept : (orders cells : List ℕ) (p : Path) → length orders ≤ 255 → Bytes cells → Sound p → SoundEntered (entered orders cells p)
entered_kept orders cells p l b h =
    let k = entered_keeps (λ x. x < 256) Order Speed Rate order_of speed_of next orders cells p (λ v r. row_bytes cells v r b) (skipped_most orders p.place.order l h.order) (parts p h) in
    record { path = whole (entered orders cells p).path k.0; jump = k.1 }

-- leave keeps a sound path sound
pub left_kept : (orders : List ℕ) (e : Entered) → SoundEntered e → Sound (left orders e)
left_kept orders e s = whole (left orders e) (left_keeps (λ x. x < 256) Order Speed Rate order_of speed_of next orders e (parts e.path s.path) s.jump)
