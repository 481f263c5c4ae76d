-- The Rust knows no transposition: it is compared where every channel's is 0 (02, 2026-06). Assumes nothing.
use Rattle.std.specs.Prelude.{ℕ, ◌<◌, ◌≡◌, List, pos, length, get_or}
use Rattle.channel.specs.declared.state.Channel.{Channel}

abbrev pub Untransposed : List Channel → Type 0
Untransposed cs = (i : ℕ) (d : Channel) → i < length cs → (get_or cs i d).fixed.transposition ≡ pos 0
