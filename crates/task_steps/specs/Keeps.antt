-- The number that an entry has for the child that a task keeps.
use Rattle.std.specs.Prelude.{ℕ, zero, suc}
use Rattle.task_steps.specs.declared.keep.Keep.{Keep}
use Rattle.task_steps.specs.declared.keep.Keep.TheVariants.{Low, High, Neither}

-- 0 for the first child, 1 for the second, and 2 for none
abbrev pub number_of : Keep → ℕ
number_of Low = 0
number_of High = 1
number_of Neither = 2

-- each number above 1 says that no child is kept
abbrev pub keep_of : ℕ → Keep
keep_of zero = Low
keep_of (suc zero) = High
keep_of (suc (suc more)) = Neither
