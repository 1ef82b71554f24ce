-- Worked rows: what texts are read as.
use Rattle.std.proofs.Common.{◌≡◌, ◌++◌, [], ◌∷◌, pos, true, false, Some, None, refl, codes}
use Rattle.ip_core.specs.declared.derivation.Derivation.TheVariants.{Gomory}
use Rattle.ip_core.specs.declared.leaf.Closing.TheVariants.{Conflict, Bound}
use Rattle.ip_core.specs.declared.row_ref.RowRef.TheVariants.{Model}
use Rattle.tree_cert.specs.declared.certificate.Certificate.{Certificate}
use Rattle.tree_cert.specs.declared.node.CertNode.TheVariants.{Split, Leaf as Ends}
use Rattle.cert_text.specs.Readings.{reading}
use Rattle.cert_text.specs.declared.error.CertKind.TheVariants.{Form, Number, Order, Short, Trailing}
use Rattle.cert_text.specs.declared.reader.Reading.TheVariants.{Read, RefusedAt}

-- a model without a feasible point
infeasible : Certificate
infeasible = record {
  cols = 1;
  rows = 2;
  value = pos 6;
  point = None;
  cuts = [];
  nodes = Ends (record {
    steps = record { row = Model 0; col = 0; low = true } ∷ [];
    closing = Conflict (Model 1);
  }) ∷ [];
}

infeasible_read : reading (codes "xsearch certificate 1\nsize 1 2\nvalue 6\nnone\ncuts 0\ntree 1\n"
    ++ codes "leaf 1 r0 0 L conflict r1\nend\n") ≡ Read infeasible
unfolding infeasible
infeasible_read = refl

-- with cuts
with_cuts : Certificate
with_cuts = record {
  cols = 1;
  rows = 1;
  value = pos 2;
  point = Some (pos 2 ∷ []);
  cuts = Gomory (record { row = Model 0; weight = 1 } ∷ []) 2
      ∷ Gomory (record { row = Model 0; weight = 512 } ∷ []) 2048 ∷ [];
  nodes = Ends (record {
    steps = record { row = Model 0; col = 0; low = true } ∷ [];
    closing = Bound [];
  }) ∷ [];
}

with_cuts_read : reading (codes "xsearch certificate 1\nsize 1 1\nvalue 2\npoint 2\ncuts 2\n"
    ++ codes "gomory 2 1 r0 1\ngomory 2048 1 r0 512\ntree 1\nleaf 1 r0 0 L bound 0\n"
    ++ codes "end\n") ≡ Read with_cuts
unfolding with_cuts
with_cuts_read = refl

-- with a split
with_split : Certificate
with_split = record {
  cols = 3;
  rows = 2;
  value = pos 1;
  point = None;
  cuts = [];
  nodes = Split 0 (pos 0) (pos 1)
      ∷ Ends (record {
        steps = record { row = Model 0; col = 1; low = true }
            ∷ record { row = Model 0; col = 2; low = true } ∷ [];
        closing = Conflict (Model 1);
      })
      ∷ Ends (record {
        steps = record { row = Model 1; col = 1; low = false }
            ∷ record { row = Model 1; col = 2; low = false } ∷ [];
        closing = Conflict (Model 0);
      }) ∷ [];
}

with_split_read : reading (codes "xsearch certificate 1\nsize 3 2\nvalue 1\nnone\ncuts 0\ntree 3\n"
    ++ codes "split 0 0 1\nleaf 2 r0 1 L r0 2 L conflict r1\n"
    ++ codes "leaf 2 r1 1 H r1 2 H conflict r0\nend\n") ≡ Read with_split
unfolding with_split
with_split_read = refl

-- with a bound
with_bound : Certificate
with_bound = record {
  cols = 1;
  rows = 1;
  value = pos 2;
  point = Some (pos 2 ∷ []);
  cuts = [];
  nodes = Ends (record {
    steps = [];
    closing = Bound (record { row = Model 0; weight = 342 } ∷ []);
  }) ∷ [];
}

with_bound_read : reading (codes "xsearch certificate 1\nsize 1 1\nvalue 2\npoint 2\ncuts 0\ntree 1\n"
    ++ codes "leaf 0 bound 1 r0 342\nend\n") ≡ Read with_bound
unfolding with_bound
with_bound_read = refl

-- a text without a byte ends before its first line
no_line : reading ([]) ≡ RefusedAt 1 Short
no_line = refl

-- a text without its last line
no_end : reading (codes "xsearch certificate 1\nsize 1 1\nvalue 2\npoint 2\ncuts 0\ntree 1\n"
    ++ codes "leaf 0 bound 1 r0 342\n") ≡ RefusedAt 8 Short
no_end = refl

-- a tree that closes before the second node
tree_of_two : reading (codes "xsearch certificate 1\nsize 1 1\nvalue 2\npoint 2\ncuts 0\ntree 2\n"
    ++ codes "leaf 0 bound 1 r0 342\nend\n") ≡ RefusedAt 7 Order
tree_of_two = refl

-- a tree that the one node leaves open
tree_left_open : reading (codes "xsearch certificate 1\nsize 1 1\nvalue 2\npoint 2\ncuts 0\ntree 1\n"
    ++ codes "split 0 0 1\nleaf 0 bound 1 r0 342\nend\n") ≡ RefusedAt 7 Order
tree_left_open = refl

-- a tree without a node
tree_of_none : reading (codes "xsearch certificate 1\nsize 1 1\nvalue 2\npoint 2\ncuts 0\ntree 0\n"
    ++ codes "end\n") ≡ RefusedAt 6 Order
tree_of_none = refl

-- a cut that lacks
cut_lacks : reading (codes "xsearch certificate 1\nsize 1 1\nvalue 2\npoint 2\ncuts 1\ntree 1\n"
    ++ codes "leaf 0 bound 1 r0 342\nend\n") ≡ RefusedAt 6 Order
cut_lacks = refl

-- a line behind `end`
line_behind : reading (codes "xsearch certificate 1\nsize 1 1\nvalue 2\npoint 2\ncuts 0\ntree 1\n"
    ++ codes "leaf 0 bound 1 r0 342\nend\n\n") ≡ RefusedAt 9 Trailing
line_behind = refl

-- `end` too early
end_early : reading (codes "xsearch certificate 1\nsize 1 1\nvalue 2\nend\n") ≡ RefusedAt 4 Order
end_early = refl

-- a number that is no numeral, before the order
number_first : reading (codes "value 01\n") ≡ RefusedAt 1 Number
number_first = refl

-- and a form before both
form_first : reading (codes "value 2 \n") ≡ RefusedAt 1 Form
form_first = refl
