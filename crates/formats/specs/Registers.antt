-- Register numbers.
-- Assumes nothing.
use Rattle.std.specs.Prelude.{ℕ, cond, ◌==◌}
use Rattle.formats.specs.declared.register.Register.{Register}
use Rattle.formats.specs.declared.register.Register.TheVariants.{R0, R1, R2, R3, R4, R5, R6, R7}

-- the number of a register, 0 to 7
abbrev pub register_number : Register → ℕ
register_number R0 = 0
register_number R1 = 1
register_number R2 = 2
register_number R3 = 3
register_number R4 = 4
register_number R5 = 5
register_number R6 = 6
register_number R7 = 7

-- the register of a number below 8
abbrev pub register_at : ℕ → Register
register_at n =
    cond (n == 0) R0 (cond (n == 1) R1 (cond (n == 2) R2 (cond (n == 3) R3 (cond (n == 4) R4 (cond (n == 5) R5 (cond (n == 6) R6 R7))))))
