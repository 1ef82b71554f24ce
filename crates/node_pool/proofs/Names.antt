-- Taking out the first of a name.
use Rattle.std.proofs.Common.{◌≡◌, ◌∙◌, ℕ, zero, suc, ◌<◌, Bool, true, nat_eq, cond, List, [], ◌∷◌, ◌++◌, length, get_or, take, drop, ap, arith}
use Rattle.std.proofs.lemmas.Bool.Decides.{nat_tests}
use Rattle.node_pool.specs.Nodes.{IsNameAt, without_name}

same_test : (a b : ℕ) → a ≡ b → nat_eq a b ≡ true
same_test a b h = grind (arith, nat_tests)

at_place : (names : List ℕ) (name place : ℕ) → place < length names → get_or names place 0 ≡ name
    → without_name name (drop place names) ≡ drop (suc place) names
at_place [] name place below is = absurd (omega (arith, below))
at_place (x ∷ xs) name zero below is =
    ap (λ (t : Bool). cond t xs (x ∷ without_name name xs)) (same_test x name is)
at_place (x ∷ xs) name (suc place) below is = at_place xs name place (omega (arith, below)) is

pub name_at : (names : List ℕ) (name place : ℕ) → place < length names → get_or names place 0 ≡ name
    → without_name name names ≡ take place names ++ without_name name (drop place names)
    → IsNameAt names name place
name_at names name place below is front =
    record {
      within = below;
      rest = front
          ∙ ap (λ (xs : List ℕ). take place names ++ xs) (at_place names name place below is);
    }
