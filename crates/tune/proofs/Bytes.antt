-- The library's bytes of a number are this crate's. Assumes nothing.
use Rattle.std.proofs.Common.{◌≡◌, ℕ, Bool, true, false, ◌∷◌, [], ◌/◌, ◌%◌, List, refl, sym, ap, arith}
use Rattle.std.proofs.Math.Nat.{div-div-eq-div-mul}
use Rattle.std.specs.Int.{w16, w32, w64, to_le_bytes, from_bool}
use Rattle.tune.specs.Numbers.{bytes_of, flag}

pub two_bytes : (x : ℕ) → to_le_bytes w16 x ≡ bytes_of 2 x
unfolding bytes_of
two_bytes x = refl

pub four_bytes : (x : ℕ) → to_le_bytes w32 x ≡ bytes_of 4 x
unfolding bytes_of
four_bytes x = simp div-div-eq-div-mul

pub eight_bytes : (x : ℕ) → to_le_bytes w64 x ≡ bytes_of 8 x
unfolding bytes_of
eight_bytes x = simp div-div-eq-div-mul

pub flag_byte : (b : Bool) → from_bool b ≡ flag b
flag_byte true = refl
flag_byte false = refl
