-- S2x: the c5 speed of each of sixteen finetunes (the Rust's `S2X_FINETUNE_TABLE`). Assumes nothing.
use Rattle.std.specs.Prelude.{ℕ, List, [], ◌∷◌, get_or}

abbrev pub finetunes : List ℕ
finetunes =
    7895 ∷ 7941 ∷ 7985 ∷ 8046 ∷ 8107 ∷ 8169 ∷ 8232 ∷ 8280 ∷ 8363 ∷ 8413 ∷ 8463 ∷ 8529 ∷ 8581 ∷ 8651 ∷ 8723 ∷ 8757 ∷ []

unfoldable pub finetune_of : ℕ → ℕ
finetune_of x = get_or finetunes x 0
