use Rattle.std.specs.Prelude.{ℕ, ◌≡◌, true, false, [], ◌∷◌, Some, None, refl, codes, ℤ, pos, negsuc}
use Rattle.std.specs.Fmt.{digits}
use Rattle.ip_core.specs.Decimals.{Number}
use Rattle.mps_model.specs.Prints.{canonical_text}
use Rattle.mps_model.specs.declared.model.MpsModel.{MpsModel}
use Rattle.mps_model.specs.declared.model.RowKind.TheVariants.{Less, Greater, Equal}
use Rattle.mps_model.specs.declared.model.Limit.TheVariants.{Unset, Free, At}

-- small models with their texts

abbrev pub decimal : ℤ → ℤ → Number
decimal mantissa exponent = record { mantissa = mantissa; exponent = exponent }

-- a whole number below ten
abbrev pub digit : ℕ → Number
digit n = decimal (pos n) (pos 0)

abbrev pub one_column-model : MpsModel
one_column-model = record {
  name = codes "one";
  maximise = false;
  objective = codes "c";
  constant = digit 0;
  rows = [];
  cols = record { name = codes "x"; integer = true; cost = digit 1; entries = []; low = Unset; high = At (digit 1) } ∷ [];
}

pub one_column : canonical_text one_column-model ≡ codes "NAME one\nROWS\n N c\nCOLUMNS\n M 'MARKER' 'INTORG'\n x c 1\n M 'MARKER' 'INTEND'\nBOUNDS\n UP BND x 1\nENDATA\n"
unfolding digits
one_column = refl

abbrev empty-model : MpsModel
empty-model = record { name = []; maximise = false; objective = codes "OBJ"; constant = digit 0; rows = []; cols = [] }

-- no name, no columns, and no section that would be empty
pub empty : canonical_text empty-model ≡ codes "ROWS\n N OBJ\nCOLUMNS\nENDATA\n"
empty = refl

abbrev sides-model : MpsModel
sides-model = record {
  name = [];
  maximise = true;
  objective = codes "OBJ";
  constant = decimal (negsuc 11) (pos 0);
  rows =
      record { name = codes "a"; kind = Less; rhs = digit 0; range = Some (digit 0) }
      ∷ record { name = codes "b"; kind = Greater; rhs = decimal (pos 15) (negsuc 0); range = None }
      ∷ record { name = codes "d"; kind = Equal; rhs = decimal (negsuc 2) (pos 4); range = Some (decimal (negsuc 0) (pos 0)) }
      ∷ [];
  cols =
      record { name = codes "x"; integer = true; cost = digit 0; entries = []; low = Free; high = Free }
      ∷ record { name = codes "y"; integer = true; cost = digit 0; entries = record { row = 2; value = digit 7 } ∷ record { row = 0; value = decimal (pos 1) (negsuc 1) } ∷ []; low = At (decimal (negsuc 1) (pos 0)); high = Unset }
      ∷ record { name = codes "z"; integer = false; cost = digit 2; entries = record { row = 1; value = digit 3 } ∷ []; low = At (digit 0); high = At (digit 9) }
      ∷ record { name = codes "w"; integer = true; cost = digit 1; entries = []; low = Unset; high = Unset }
      ∷ [];
}

-- a maximised model: a zero range stays and a zero side goes, an empty column has its zero cost, and each run of integer
-- columns has its markers
pub sides : canonical_text sides-model ≡ codes "OBJSENSE\n MAX\nROWS\n N OBJ\n L a\n G b\n E d\nCOLUMNS\n M 'MARKER' 'INTORG'\n x OBJ 0\n y d 7\n y a 0.01\n M 'MARKER' 'INTEND'\n z OBJ 2\n z b 3\n M 'MARKER' 'INTORG'\n w OBJ 1\n M 'MARKER' 'INTEND'\nRHS\n RHS OBJ 12\n RHS b 1.5\n RHS d -3e4\nRANGES\n RNG a 0\n RNG d -1\nBOUNDS\n MI BND x\n PL BND x\n LO BND y -2\n LO BND z 0\n UP BND z 9\nENDATA\n"
unfolding digits
sides = refl
