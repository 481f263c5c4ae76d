-- Commands to the punch head whose registers are worked out by hand (02, 2026-05). Assumes nothing.
use Rattle.std.specs.Prelude.{ℕ, Bool, ◌&&◌, List, [], ◌∷◌, ◌++◌, map, take, replicate}
use Rattle.tune.specs.Numbers.{bytes_of}
use Rattle.punch_head.specs.Registers.{registers_rule}
use Rattle.punch_head.specs.Histories.{Call, steps, behind, sixteen_zeros}
use Rattle.examples.specs.Marked.{same}

-- a record of a start and a strike mask, with so many bytes behind them; all else is 0
unfoldable pub head_record : ℕ → ℕ → ℕ → List ℕ
head_record start mask more = replicate 8 0 ++ (bytes_of 8 start ++ (bytes_of 4 mask ++ replicate more 0))

abbrev call : ℕ → List ℕ → Call
call c r = record { command = c; row = r }

-- load, load, strike, strike, 9, clear, a load of 535 bytes, load
unfoldable pub head_calls : List Call
head_calls =
    call 1 (head_record 5 6 516) ∷ call 1 (head_record 7 8 516) ∷ call 2 [] ∷ call 2 [] ∷ call 9 [] ∷ call 3 [] ∷ call 1 (head_record 9 10 515) ∷ call 1 (head_record 7200 258 516) ∷ []

-- the registers behind the first n of them
unfoldable pub registers_at : ℕ → List ℕ
registers_at n = behind sixteen_zeros (steps sixteen_zeros (take n head_calls))

-- the number that each step says
unfoldable pub refusals : List ℕ
refusals = map (λ m. m.says.number) (steps sixteen_zeros head_calls)

unfoldable pub head_example : Bool
head_example =
    same refusals (0 ∷ 0 ∷ 0 ∷ 0 ∷ 0 ∷ 0 ∷ 13 ∷ 0 ∷ [])
    -- loaded; then late as well, with mask and position as they were; then struck, with the interrupt; a strike on nothing
    && (same (registers_at 1) (1 ∷ 1 ∷ 0 ∷ 0 ∷ 6 ∷ 0 ∷ 0 ∷ 0 ∷ 5 ∷ 0 ∷ 0 ∷ 0 ∷ 0 ∷ 0 ∷ 0 ∷ 0 ∷ [])
    && (same (registers_at 2) (1 ∷ 3 ∷ 0 ∷ 0 ∷ 6 ∷ 0 ∷ 0 ∷ 0 ∷ 5 ∷ 0 ∷ 0 ∷ 0 ∷ 0 ∷ 0 ∷ 0 ∷ 0 ∷ [])
    && (same (registers_at 3) (2 ∷ 130 ∷ 0 ∷ 0 ∷ 6 ∷ 0 ∷ 0 ∷ 0 ∷ 5 ∷ 0 ∷ 0 ∷ 0 ∷ 0 ∷ 0 ∷ 0 ∷ 0 ∷ [])
    && (same (registers_at 4) (2 ∷ 130 ∷ 0 ∷ 0 ∷ 6 ∷ 0 ∷ 0 ∷ 0 ∷ 5 ∷ 0 ∷ 0 ∷ 0 ∷ 0 ∷ 0 ∷ 0 ∷ 0 ∷ [])
    -- another command is kept; cleared; the refused load writes nothing, byte 0 included
    && (same (registers_at 5) (9 ∷ 130 ∷ 0 ∷ 0 ∷ 6 ∷ 0 ∷ 0 ∷ 0 ∷ 5 ∷ 0 ∷ 0 ∷ 0 ∷ 0 ∷ 0 ∷ 0 ∷ 0 ∷ [])
    && (same (registers_at 6) (3 ∷ 0 ∷ 0 ∷ 0 ∷ 6 ∷ 0 ∷ 0 ∷ 0 ∷ 5 ∷ 0 ∷ 0 ∷ 0 ∷ 0 ∷ 0 ∷ 0 ∷ 0 ∷ [])
    && (same (registers_at 7) (registers_at 6)
    -- 258 is 2 + 256, and 7,200 is 32 + 28 × 256
    && (same (registers_at 8) (1 ∷ 1 ∷ 0 ∷ 0 ∷ 2 ∷ 1 ∷ 0 ∷ 0 ∷ 32 ∷ 28 ∷ 0 ∷ 0 ∷ 0 ∷ 0 ∷ 0 ∷ 0 ∷ [])
    -- refused as 15: 15 bytes, byte 2, byte 3, status bits 2 and 6; status 131 is taken
    && same (map registers_rule (replicate 15 0 ∷ (0 ∷ 0 ∷ 1 ∷ replicate 13 0) ∷ (0 ∷ 0 ∷ 0 ∷ 1 ∷ replicate 12 0) ∷ (0 ∷ 4 ∷ replicate 14 0) ∷ (0 ∷ 64 ∷ replicate 14 0) ∷ (0 ∷ 131 ∷ replicate 14 0) ∷ [])) (15 ∷ 15 ∷ 15 ∷ 15 ∷ 15 ∷ 0 ∷ [])))))))))
