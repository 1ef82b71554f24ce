use Rattle.std.specs.Prelude.{◌≡◌, true, false, [], ◌∷◌, Some, None, refl, codes, pos, negsuc}
use Rattle.mps_model.proofs.WorkedRows.{decimal, digit, one_column-model}
use Rattle.mps_read.specs.Readings.{reading, Read}
use Rattle.mps_model.specs.declared.model.MpsModel.{MpsModel}
use Rattle.mps_model.specs.declared.model.RowKind.TheVariants.{Less, Greater, Equal}
use Rattle.mps_model.specs.declared.model.Limit.TheVariants.{Unset, Free, At}

-- small files with the models that they are

pub one_column : reading (codes "NAME one\nROWS\n N c\nCOLUMNS\n M 'MARKER' 'INTORG'\n x c 1\nBOUNDS\n UP b x 1\nENDATA\n") ≡ Read one_column-model
one_column = refl

abbrev packing-model : MpsModel
packing-model = record {
  name = codes "PACK";
  maximise = false;
  objective = codes "PROFIT";
  constant = digit 0;
  rows = record { name = codes "WEIGHT"; kind = Less; rhs = digit 7; range = None } ∷ [];
  cols =
      record { name = codes "BOX"; integer = true; cost = decimal (negsuc 224) (negsuc 1); entries = record { row = 0; value = digit 3 } ∷ []; low = Unset; high = At (digit 4) }
      ∷ record { name = codes "CAN"; integer = true; cost = decimal (negsuc 14) (negsuc 0); entries = record { row = 0; value = digit 2 } ∷ []; low = Unset; high = At (digit 4) }
      ∷ record { name = codes "LID"; integer = true; cost = decimal (negsuc 3) (negsuc 0); entries = record { row = 0; value = digit 1 } ∷ []; low = At (digit 0); high = At (digit 1) }
      ∷ [];
}

-- aligned fields, carriage returns, a comment, markers and a set without a name
pub packing : reading (codes "* small packing model\r\nNAME          PACK\r\nROWS\r\n N  PROFIT\r\n L  WEIGHT\r\nCOLUMNS\r\n    M1        'MARKER'                 'INTORG'\r\n    BOX       PROFIT         -2.25     WEIGHT             3\r\n    CAN       PROFIT         -1.50     WEIGHT             2\r\n    M2        'MARKER'                 'INTEND'\r\n    LID       PROFIT         -0.40     WEIGHT             1\r\nRHS\r\n    WEIGHT             7\r\nBOUNDS\r\n UP BND       BOX                4\r\n UP BND       CAN                4\r\n BV BND       LID\r\nENDATA\r\n") ≡ Read packing-model
packing = refl

abbrev sets-model : MpsModel
sets-model = record {
  name = codes "T";
  maximise = true;
  objective = codes "cost";
  constant = decimal (negsuc 11) (pos 0);
  rows =
      record { name = codes "a"; kind = Less; rhs = digit 5; range = Some (decimal (negsuc 3) (pos 0)) }
      ∷ record { name = codes "b"; kind = Greater; rhs = digit 1; range = None }
      ∷ record { name = codes "d"; kind = Equal; rhs = digit 0; range = None }
      ∷ [];
  cols =
      record { name = codes "x"; integer = false; cost = decimal (pos 15) (pos 1); entries = record { row = 0; value = digit 2 } ∷ []; low = Free; high = Free }
      ∷ record { name = codes "y"; integer = true; cost = digit 0; entries = record { row = 2; value = decimal (negsuc 2) (pos 0) } ∷ []; low = Unset; high = Unset }
      ∷ record { name = codes "z"; integer = false; cost = digit 0; entries = record { row = 0; value = decimal (pos 1) (negsuc 2) } ∷ []; low = At (decimal (pos 35) (negsuc 0)); high = At (decimal (pos 35) (negsuc 0)) }
      ∷ [];
}

-- dropped rows, zeros, several sets, numbers that stand for no bound, and what follows the end
pub sets : reading (codes "NAME T more\nOBJSENSE\n\tMAXIMIZE\nROWS\n N cost\n N spare\n L a\n G b\n E d\nCOLUMNS\n x cost 1.50D+2 a 2\n x spare 7 spare 8\n m 'MARKER' 'INTORG'\n y b 0 d -3\n y cost 0\n m 'MARKER' 'INTEND'\n z a 1e-3\nRANGES\n S a -4 cost 9\n T nowhere x\nRHS\n a 5 b 1\n cost 12\n other zzz q\nBOUNDS\n LO x -1e20\n UP x 1e20\n LI S y 2\n FX z 3.5\n PL x\nENDATA\n junk") ≡ Read sets-model
sets = refl

abbrev bounds-model : MpsModel
bounds-model = record {
  name = [];
  maximise = false;
  objective = codes "c";
  constant = digit 0;
  rows = [];
  cols =
      record { name = codes "p"; integer = true; cost = digit 1; entries = []; low = At (digit 2); high = Unset }
      ∷ record { name = codes "q"; integer = true; cost = digit 1; entries = []; low = Unset; high = At (decimal (negsuc 0) (negsuc 0)) }
      ∷ record { name = codes "r"; integer = true; cost = digit 1; entries = []; low = Free; high = Free }
      ∷ record { name = codes "s"; integer = false; cost = digit 1; entries = []; low = Free; high = At (digit 8) }
      ∷ record { name = codes "t"; integer = false; cost = digit 1; entries = []; low = At (decimal (pos 1) (pos 20)); high = Free }
      ∷ record { name = codes "u"; integer = false; cost = digit 1; entries = []; low = Free; high = At (decimal (negsuc 0) (pos 20)) }
      ∷ [];
}

-- each type of bound; a later line replaces the sides that it sets
pub bounds : reading (codes "ROWS\n N c\nCOLUMNS\n p c 1\n q c 1\n r c 1\n s c 1\n t c 1\n u c 1\nBOUNDS\n LI p 2\n UI q -0.1\n BV r\n FR r\n UP s 8\n MI s\n FX t 1e20\n FX u -1e20\n UP r 3\n PL r\nENDATA") ≡ Read bounds-model
bounds = refl
