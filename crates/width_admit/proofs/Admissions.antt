use Rattle.std.specs.Prelude.{ℕ, ◌≡◌, ◌^◌, ◌*◌, ◌-◌, ◌+◌, Bool, true, false, List, [], ◌∷◌, Option, Some, None, refl, codes, ℤ, pos, negsuc, replicate}
use Rattle.ip_core.specs.Decimals.{Number}
use Rattle.mps_model.specs.declared.model.MpsModel.{MpsModel}
use Rattle.mps_model.specs.declared.model.MpsRow.{MpsRow}
use Rattle.mps_model.specs.declared.model.MpsEntry.{MpsEntry}
use Rattle.mps_model.specs.declared.model.MpsCol.{MpsCol}
use Rattle.mps_model.specs.declared.model.RowKind.{RowKind}
use Rattle.mps_model.specs.declared.model.RowKind.TheVariants.{Less, Greater, Equal}
use Rattle.mps_model.specs.declared.model.Limit.{Limit}
use Rattle.mps_model.specs.declared.model.Limit.TheVariants.{Unset, Free, At}
use Rattle.width_admit.specs.declared.refusal.Refusal.TheVariants.{Continuous, NegativeUpper, Unbounded, BoundTooLarge, TooManyColumns, RowTooFine, RowTooWide, ObjectiveTooWide}
use Rattle.width_admit.specs.Admission.{admitted_model, refusal}

-- small models with what they are admitted as, or why they are refused

abbrev decimal : ℤ → ℤ → Number
decimal mantissa exponent = record { mantissa = mantissa; exponent = exponent }

abbrev number : ℕ → Number
number n = decimal (pos n) (pos 0)

abbrev minus : ℕ → Number
minus n = decimal (negsuc (n - 1)) (pos 0)

abbrev row : RowKind → Number → Option Number → MpsRow
row kind rhs range = record { name = codes "a"; kind = kind; rhs = rhs; range = range }

abbrev entry : ℕ → Number → MpsEntry
entry i value = record { row = i; value = value }

-- an integer column
abbrev column : Number → List MpsEntry → Limit → Limit → MpsCol
column cost entries low high = record { name = codes "x"; integer = true; cost = cost; entries = entries; low = low; high = high }

abbrev model : Bool → Number → List MpsRow → List MpsCol → MpsModel
model maximise constant rows cols = record { name = codes "T"; maximise = maximise; objective = codes "c"; constant = constant; rows = rows; cols = cols }

-- an equality with a range below 0, and its maximising form: x in 0..9, cost 1
abbrev ranged : Bool → MpsModel
ranged maximise = model maximise (number 0) (row Equal (number 5) (Some (minus 2)) ∷ []) (column (number 1) (entry 0 (number 1) ∷ []) Unset (At (number 9)) ∷ [])

pub ranged_passes : refusal (ranged false) None ≡ None
ranged_passes = refl

pub ranged_is : admitted_model (ranged false) None ≡ record {
  name = codes "T";
  cols = codes "x" ∷ [];
  costs = pos 1 ∷ [];
  constant = pos 0;
  decimals = 0;
  maximise = false;
  root = record { lows = pos 0 ∷ []; highs = pos 9 ∷ [] };
  rows =
      record { terms = record { col = 0; coef = pos 1 } ∷ []; least = pos 3 }
      ∷ record { terms = record { col = 0; coef = negsuc 0 } ∷ []; least = negsuc 4 }
      ∷ [];
}
ranged_is = refl

pub maximised_costs : (admitted_model (ranged true) None).costs ≡ negsuc 0 ∷ []
maximised_costs = refl

-- a constant of -10, and one of 0.5 under which costs of 1 have one decimal
pub constant_is : (admitted_model (model true (minus 10) [] (column (number 1) [] Unset (At (number 1)) ∷ [])) None).constant ≡ pos 10
constant_is = refl

abbrev half_constant : MpsModel
half_constant = model false (decimal (pos 5) (negsuc 0)) [] (column (number 1) [] Unset (At (number 1)) ∷ [])

pub half_constant-decimals : (admitted_model half_constant None).decimals ≡ 1
half_constant-decimals = refl

pub half_constant-costs : (admitted_model half_constant None).costs ≡ pos 10 ∷ []
half_constant-costs = refl

pub half_constant-constant : (admitted_model half_constant None).constant ≡ pos 5
half_constant-constant = refl

-- the small packing model: costs of hundredths, and a row of at most
abbrev packing : MpsModel
packing = model false (number 0) (row Less (number 7) None ∷ [])
    (column (decimal (negsuc 224) (negsuc 1)) (entry 0 (number 3) ∷ []) Unset (At (number 4))
    ∷ column (decimal (negsuc 14) (negsuc 0)) (entry 0 (number 2) ∷ []) Unset (At (number 4))
    ∷ column (decimal (negsuc 3) (negsuc 0)) (entry 0 (number 1) ∷ []) (At (number 0)) (At (number 1))
    ∷ [])

pub packing_passes : refusal packing None ≡ None
packing_passes = refl

pub packing_costs : (admitted_model packing None).costs ≡ negsuc 224 ∷ negsuc 149 ∷ negsuc 39 ∷ []
packing_costs = refl

pub packing_decimals : (admitted_model packing None).decimals ≡ 2
packing_decimals = refl

pub packing_rows : (admitted_model packing None).rows ≡ record {
  terms = record { col = 0; coef = negsuc 2 } ∷ record { col = 1; coef = negsuc 1 } ∷ record { col = 2; coef = negsuc 0 } ∷ [];
  least = negsuc 6;
} ∷ []
packing_rows = refl

-- a row of 0.5 x + y between 1.25 - 0.75 and 1.25: its decimals are those of the sides after the range, of which one is 1.25
abbrev fine_side : MpsModel
fine_side = model false (number 0) (row Less (decimal (pos 125) (negsuc 1)) (Some (decimal (pos 75) (negsuc 1))) ∷ [])
    (column (number 0) (entry 0 (decimal (pos 5) (negsuc 0)) ∷ []) Unset (At (number 1)) ∷ column (number 0) (entry 0 (number 1) ∷ []) Unset (At (number 1)) ∷ [])

pub fine_side-rows : (admitted_model fine_side None).rows ≡
    record { terms = record { col = 0; coef = pos 50 } ∷ record { col = 1; coef = pos 100 } ∷ []; least = pos 50 }
    ∷ record { terms = record { col = 0; coef = negsuc 49 } ∷ record { col = 1; coef = negsuc 99 } ∷ []; least = negsuc 124 }
    ∷ []
fine_side-rows = refl

-- a column without a high, alone and with a given one
abbrev open_high : MpsModel
open_high = model false (number 0) (row Less (number 20) None ∷ []) (column (minus 1) (entry 0 (number 1) ∷ []) Unset Unset ∷ [])

pub open_high-refused : refusal open_high None ≡ Some (Unbounded 0)
open_high-refused = refl

pub open_high-passes : refusal open_high (Some 9) ≡ None
open_high-passes = refl

pub open_high-root : (admitted_model open_high (Some 9)).root ≡ record { lows = pos 0 ∷ []; highs = pos 9 ∷ [] }
open_high-root = refl

-- a given high doesn't replace a number, and a low that is free is refused whatever is given
pub given_is_kept : (admitted_model (model false (number 0) [] (column (number 0) [] Unset (At (number 3)) ∷ [])) (Some 9)).root.highs ≡ pos 3 ∷ []
given_is_kept = refl

pub free_low : refusal (model false (number 0) [] (column (number 0) [] Free (At (number 3)) ∷ [])) (Some 9) ≡ Some (Unbounded 0)
free_low = refl

-- bounds of 0.5 and 0.7 give an empty box, which is admitted
abbrev empty_box : MpsModel
empty_box = model false (number 0) [] (column (number 0) [] (At (decimal (pos 5) (negsuc 0))) (At (decimal (pos 7) (negsuc 0))) ∷ [])

pub empty_box-passes : refusal empty_box None ≡ None
empty_box-passes = refl

pub empty_box-root : (admitted_model empty_box None).root ≡ record { lows = pos 1 ∷ []; highs = pos 0 ∷ [] }
empty_box-root = refl

-- a negative high without a low, even -0.5; with a low it is no cause
pub negative_upper : refusal (model false (number 0) [] (column (number 0) [] Unset (At (decimal (negsuc 4) (negsuc 0))) ∷ [])) None ≡ Some (NegativeUpper 0)
negative_upper = refl

pub negative_upper-low : refusal (model false (number 0) [] (column (number 0) [] (At (minus 3)) (At (minus 1)) ∷ [])) None ≡ None
negative_upper-low = refl

-- bounds at 2^31 and one past it, and -2^31 - 0.5, which rounds up to -2^31
pub bound_at_limit : refusal (model false (number 0) [] (column (number 0) [] (At (minus (2 ^ 31))) (At (number (2 ^ 31))) ∷ [])) None ≡ None
bound_at_limit = refl

pub bound_past_limit : refusal (model false (number 0) [] (column (number 0) [] Unset (At (number (2 ^ 31 + 1))) ∷ [])) None ≡ Some (BoundTooLarge 0)
bound_past_limit = refl

pub bound_rounded_to_limit : refusal (model false (number 0) [] (column (number 0) [] (At (decimal (negsuc (5 + 10 * 2 ^ 31 - 1)) (negsuc 0))) (At (number 0)) ∷ [])) None ≡ None
bound_rounded_to_limit = refl

pub vast_bound : refusal (model false (number 0) [] (column (number 0) [] Unset (At (decimal (pos 1) (pos 19))) ∷ [])) None ≡ Some (BoundTooLarge 0)
vast_bound = refl

-- a row of width 2^50 and one past it
abbrev wide : ℕ → MpsModel
wide b = model false (number 0) (row Greater (number b) None ∷ []) (column (number 1) (entry 0 (number 33554432) ∷ []) Unset (At (number 33554432)) ∷ [])

pub width_at_limit : refusal (wide 0) None ≡ None
width_at_limit = refl

pub width_past_limit : refusal (wide 1) None ≡ Some (RowTooWide 0)
width_past_limit = refl

-- a coefficient of 10^400, and a right-hand side of 10^400 with a range of the same size
pub vast_coefficient : refusal (model false (number 0) (row Less (number 0) None ∷ []) (column (number 0) (entry 0 (decimal (pos 1) (pos 400)) ∷ []) Unset (At (number 1)) ∷ [])) None ≡ Some (RowTooWide 0)
vast_coefficient = refl

pub vast_range : refusal (model false (number 0) (row Less (decimal (pos 1) (pos 400)) (Some (decimal (pos 1) (pos 400))) ∷ []) []) None ≡ Some (RowTooWide 0)
vast_range = refl

-- nine decimals and ten
abbrev fine : ℤ → MpsModel
fine exponent = model false (number 0) (row Less (decimal (pos 1) exponent) None ∷ []) []

pub nine_decimals : refusal (fine (negsuc 8)) None ≡ None
nine_decimals = refl

pub ten_decimals : refusal (fine (negsuc 9)) None ≡ Some (RowTooFine 0)
ten_decimals = refl

-- a fine last row goes before a wide first one, and of two offenders the first
pub fine_before_wide : refusal (model false (number 0) (row Less (decimal (pos 1) (pos 30)) None ∷ row Less (decimal (pos 1) (negsuc 9)) None ∷ []) []) None ≡ Some (RowTooFine 1)
fine_before_wide = refl

pub first_of_two : refusal (model false (number 0) (row Less (number 1) None ∷ row Less (decimal (pos 1) (pos 30)) None ∷ row Less (decimal (pos 1) (pos 31)) None ∷ []) []) None ≡ Some (RowTooWide 1)
first_of_two = refl

-- an objective with nine decimals and with ten, and with a constant of 2^50 and one past it
pub objective_fine : refusal (model false (decimal (pos 1) (negsuc 8)) [] []) None ≡ None
objective_fine = refl

pub objective_too_fine : refusal (model false (decimal (pos 1) (negsuc 9)) [] []) None ≡ Some ObjectiveTooWide
objective_too_fine = refl

pub objective_at_limit : refusal (model false (number (2 ^ 50)) [] []) None ≡ None
objective_at_limit = refl

pub objective_past_limit : refusal (model false (number (2 ^ 50 + 1)) [] []) None ≡ Some ObjectiveTooWide
objective_past_limit = refl

-- 4,096 columns and one more, each with a low that is its high
abbrev many : ℕ → MpsModel
many n = model false (number 0) [] (replicate n (column (number 0) [] Unset (At (number 0))))

pub one_too_many : refusal (many 4097) None ≡ Some TooManyColumns
one_too_many = refl

-- a continuous column goes before all other causes
pub continuous_first : refusal (model false (number 0) [] (column (number 0) [] Free Free ∷ record { name = codes "y"; integer = false; cost = number 0; entries = []; low = Unset; high = Unset } ∷ [])) None ≡ Some (Continuous 1)
continuous_first = refl
