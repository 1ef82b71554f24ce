use Rattle.std.specs.Prelude.{Bool, true, false, nat_lt}
use Rattle.ip_core.specs.declared.row_ref.RowRef.{RowRef}
use Rattle.ip_core.specs.declared.row_ref.RowRef.TheVariants.{Model, Cut}

-- whether a row's name comes before another: every row of the model before every cut, and then the lesser number
abbrev pub is_before : RowRef → RowRef → Bool
is_before (Model a) (Model b) = nat_lt a b
is_before (Model a) (Cut b) = true
is_before (Cut a) (Model b) = false
is_before (Cut a) (Cut b) = nat_lt a b
