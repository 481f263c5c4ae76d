-- A choice by a test. Assumes nothing.
use Rattle.std.specs.Prelude.{Bool, true, false}

-- the first where the test is true, else the second
abbrev pub pick {ℓ} : {A : Type ℓ} → Bool → A → A → A
pick true a b = a
pick false a b = b
