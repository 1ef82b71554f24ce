use Rattle.width_admit.specs.declared.columns.ColumnFault.TheVariants.{Continuous, NegativeUpper, Unbounded, BoundTooLarge}
use Rattle.width_admit.specs.Columns.{is_continuous, has_negative_upper, is_unbounded, has_large_bound}
use Rattle.width_admit.specs.Admission.{first_column}
use Rattle.width_admit.specs.Held.{has_fault}
use Rattle.width_admit.proofs.Refusals.{first_is, second, third, fourth, no_column}
use Rattle.width_admit.proofs.refuse.column_refusal.Goals as goal

pub returns-in-Some-first_with : goal.returns-in-Some-first_with
returns-in-Some-first_with c =
    let m = c.args.mps.now in
    let upper = c.args.upper in
    second (first_column is_continuous m) (first_column has_negative_upper m) (first_column (is_unbounded upper) m) (first_column (has_large_bound upper) m) c.in-Some-first_with.col
    (first_is (has_fault Continuous upper) _ _ _ _ c.as_slice-cols.ensures c.first_with.ensures c.in_default.is)
    (first_is (has_fault NegativeUpper upper) _ _ _ _ c.as_slice-cols.ensures c.first_with-2.ensures c.in-Some-first_with.is)

pub returns-in-Some-first_with-2 : goal.returns-in-Some-first_with-2
returns-in-Some-first_with-2 c =
    let m = c.args.mps.now in
    let upper = c.args.upper in
    third (first_column is_continuous m) (first_column has_negative_upper m) (first_column (is_unbounded upper) m) (first_column (has_large_bound upper) m) c.in-Some-first_with-2.col
    (first_is (has_fault Continuous upper) _ _ _ _ c.as_slice-cols.ensures c.first_with.ensures c.in_default.is)
    (first_is (has_fault NegativeUpper upper) _ _ _ _ c.as_slice-cols.ensures c.first_with-2.ensures c.in_default-first_with.is)
    (first_is (has_fault Unbounded upper) _ _ _ _ c.as_slice-cols.ensures c.first_with-3.ensures c.in-Some-first_with-2.is)

pub returns-in-Some-first_with-3 : goal.returns-in-Some-first_with-3
returns-in-Some-first_with-3 c =
    let m = c.args.mps.now in
    let upper = c.args.upper in
    fourth (first_column is_continuous m) (first_column has_negative_upper m) (first_column (is_unbounded upper) m) (first_column (has_large_bound upper) m) c.in-Some-first_with-3.col
    (first_is (has_fault Continuous upper) _ _ _ _ c.as_slice-cols.ensures c.first_with.ensures c.in_default.is)
    (first_is (has_fault NegativeUpper upper) _ _ _ _ c.as_slice-cols.ensures c.first_with-2.ensures c.in_default-first_with.is)
    (first_is (has_fault Unbounded upper) _ _ _ _ c.as_slice-cols.ensures c.first_with-3.ensures c.in_default-first_with-2.is)
    (first_is (has_fault BoundTooLarge upper) _ _ _ _ c.as_slice-cols.ensures c.first_with-4.ensures c.in-Some-first_with-3.is)

pub returns : goal.returns
returns c =
    let m = c.args.mps.now in
    let upper = c.args.upper in
    no_column (first_column is_continuous m) (first_column has_negative_upper m) (first_column (is_unbounded upper) m) (first_column (has_large_bound upper) m)
    (first_is (has_fault Continuous upper) _ _ _ _ c.as_slice-cols.ensures c.first_with.ensures c.in_default.is)
    (first_is (has_fault NegativeUpper upper) _ _ _ _ c.as_slice-cols.ensures c.first_with-2.ensures c.in_default-first_with.is)
    (first_is (has_fault Unbounded upper) _ _ _ _ c.as_slice-cols.ensures c.first_with-3.ensures c.in_default-first_with-2.is)
    (first_is (has_fault BoundTooLarge upper) _ _ _ _ c.as_slice-cols.ensures c.first_with-4.ensures c.in_default-first_with-3.is)
