-- A column comes of one byte of each record alone. Assumes nothing.
use Rattle.std.proofs.Common.{◌≡◌, ℕ, ◌<◌, List, sym, ◌∙◌, arith}
use Rattle.columns.specs.Columns.{byte_of, column_of, stored}
use Rattle.columns.proofs.Differences.{differences_same}
use Rattle.columns.proofs.Inverse.{stored_byte_lem}

pub columns_alike : (a b : List ℕ) (m c : ℕ) → c < 536 → ((r : ℕ) → r < m → byte_of a c r ≡ byte_of b c r) → (r : ℕ) → r < m → column_of (stored a m) m c r ≡ column_of (stored b m) m c r
columns_alike a b m c h same r l =
    stored_byte_lem a m c r h l
    ∙ differences_same (byte_of a c) (byte_of b c) r (λ k i. same k (omega arith))
    ∙ sym (stored_byte_lem b m c r h l)
