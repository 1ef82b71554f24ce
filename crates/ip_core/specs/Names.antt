use Rattle.std.specs.Prelude.{ℕ, ◌≤◌, List, length, All}
use Rattle.ip_core.specs.declared.limits.TheConstants.{MAX_NAME}

-- a byte that a name may have: visible, and no blank
pub record IsNameByte (b : ℕ) : Type 0 where
  pub low : 33 ≤ b
  pub high : b ≤ 126

-- a name has at most 255 bytes, each visible
pub record IsName (bytes : List ℕ) : Type 0 where
  pub short : length bytes ≤ MAX_NAME
  pub visible : All IsNameByte bytes
