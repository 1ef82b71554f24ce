use Rattle.std.proofs.Common.{◌≡◌, ◌+◌, ◌/◌, ◌^◌, true, false, [], ◌∷◌, ℤ, pos, negsuc, None, codes, refl}
use Rattle.std.specs.Fmt.{digits}
use Rattle.ip_core.specs.Decimals.{Number}
use Rattle.mps_model.specs.declared.model.Limit.TheVariants.{Unset, At}
use Rattle.mps_model.specs.declared.model.RowKind.TheVariants.{Less}
use Rattle.mps_model.specs.Prints.{canonical_text}
use Rattle.sample_model.specs.Draws.{next, draw_below}
use Rattle.sample_model.specs.Wholes.{whole_decimal}
use Rattle.sample_model.specs.Knapsacks.{knapsack}
use Rattle.sample_model.specs.Samples.{sample}

-- the first draw of number 1

first_state : next 1 ≡ 7806831264735756412
unfolding next
first_state = refl

first_shifted : next 1 / 2 ^ 33 ≡ 908834774
unfolding next
first_shifted = refl

first_upper : 1 + draw_below 3 1 ≡ 3
unfolding next
first_upper = refl

-- whole numbers without the zeros at their end

ten_is : whole_decimal 10 ≡ record { mantissa = pos 1; exponent = pos 1 }
unfolding digits
ten_is = refl

large_is : whole_decimal 20500 ≡ record { mantissa = pos 205; exponent = pos 2 }
unfolding digits
large_is = refl

-- two rows and two columns of number 6

small_numbers : knapsack 2 2 6 ≡ record { uppers = 3 ∷ 3 ∷ []; costs = 94 ∷ 40 ∷ []; coefficients = (16 ∷ 0 ∷ []) ∷ (15 ∷ 0 ∷ []) ∷ [] }
unfolding next
small_numbers = refl

abbrev whole : ℤ → Number
whole z = record { mantissa = z; exponent = pos 0 }

small_model : sample 2 2 6 ≡ record {
  name = codes "GEN";
  maximise = false;
  objective = codes "OBJ";
  constant = whole (pos 0);
  rows =
      record { name = codes "R0"; kind = Less; rhs = whole (pos 16); range = None }
      ∷ record { name = codes "R1"; kind = Less; rhs = whole (pos 15); range = None }
      ∷ [];
  cols =
      record {
        name = codes "C0";
        integer = true;
        cost = whole (negsuc 93);
        entries = record { row = 0; value = whole (pos 16) } ∷ record { row = 1; value = whole (pos 15) } ∷ [];
        low = Unset;
        high = At (whole (pos 3));
      }
      ∷ record { name = codes "C1"; integer = true; cost = record { mantissa = negsuc 3; exponent = pos 1 }; entries = []; low = Unset; high = At (whole (pos 3)) }
      ∷ [];
}
unfolding next digits
small_model = refl

-- as text
small_text : canonical_text (sample 2 2 6) ≡
    codes "NAME GEN\nROWS\n N OBJ\n L R0\n L R1\nCOLUMNS\n M 'MARKER' 'INTORG'\n C0 OBJ -94\n C0 R0 16\n C0 R1 15\n C1 OBJ -4e1\n M 'MARKER' 'INTEND'\nRHS\n RHS R0 16\n RHS R1 15\nBOUNDS\n UP BND C0 3\n UP BND C1 3\nENDATA\n"
unfolding next digits
small_text = refl

-- of three rows and two columns of number 2 the second row alone has a coefficient, and 58 / 3 is rounded down

rounded_numbers : knapsack 3 2 2 ≡ record { uppers = 2 ∷ 1 ∷ []; costs = 57 ∷ 5 ∷ []; coefficients = (0 ∷ 0 ∷ []) ∷ (29 ∷ 0 ∷ []) ∷ (0 ∷ 0 ∷ []) ∷ [] }
unfolding next
rounded_numbers = refl

rounded_rows : (sample 3 2 2).rows ≡
    record { name = codes "R0"; kind = Less; rhs = whole (pos 0); range = None }
    ∷ record { name = codes "R1"; kind = Less; rhs = whole (pos 19); range = None }
    ∷ record { name = codes "R2"; kind = Less; rhs = whole (pos 0); range = None }
    ∷ []
unfolding next digits
rounded_rows = refl
