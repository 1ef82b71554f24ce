-- The lines that give a certificate are its own.
use Rattle.std.proofs.Common.{◌≡◌, ℕ, zero, suc, List, [], ◌∷◌, ◌++◌, map, length, Option, Some, ℤ, refl, ap, sym, ◌∙◌}
use Rattle.std.proofs.lemmas.List.{append_assoc, append-nil}
use Rattle.cert_line.specs.declared.line.Line.{Line}
use Rattle.cert_line.specs.declared.line.Line.TheVariants as lines
use Rattle.cert_text.specs.Certificates.{lines_of}
use Rattle.cert_text.specs.Places.{node_place, trees_due}
use Rattle.cert_text.specs.Readings.{with_line, no_lines}
use Rattle.cert_text.specs.declared.place.Place.TheVariants.{Header, Size, Value, Point, Cuts, Cut, End}
use Rattle.ip_core.specs.declared.derivation.Derivation.{Derivation}
use Rattle.tree_cert.specs.Trees.{due_after, IsTree}
use Rattle.tree_cert.specs.declared.certificate.Certificate.{Certificate}
use Rattle.tree_cert.specs.declared.node.CertNode.{CertNode}
use Rattle.cert_text.proofs.Runs.{run, run_on, due_step}

-- at a place of one line stands this line
header_first : (c d : Certificate) (ls : List Line) → run Header c ls ≡ Some d
    → (rest : List Line) × (ls ≡ lines.Header ∷ rest) × (run Size c rest ≡ Some d)
header_first c d [] h = cc
header_first c d (lines.Header ∷ rest) h = (rest, refl, h)
header_first c d (line ∷ rest) h = cc

size_first : (c d : Certificate) (ls : List Line) → run Size c ls ≡ Some d
    → (cols : ℕ) × (rows : ℕ) × (rest : List Line) × (ls ≡ lines.Size cols rows ∷ rest)
    × (run Value (record c { cols = cols; rows = rows }) rest ≡ Some d)
size_first c d [] h = cc
size_first c d (lines.Size cols rows ∷ rest) h = (cols, rows, rest, refl, h)
size_first c d (line ∷ rest) h = cc

value_first : (c d : Certificate) (ls : List Line) → run Value c ls ≡ Some d
    → (value : ℤ) × (rest : List Line) × (ls ≡ lines.Value value ∷ rest)
    × (run Point (record c { value = value }) rest ≡ Some d)
value_first c d [] h = cc
value_first c d (lines.Value value ∷ rest) h = (value, rest, refl, h)
value_first c d (line ∷ rest) h = cc

point_first : (c d : Certificate) (ls : List Line) → run Point c ls ≡ Some d
    → (point : Option (List ℤ)) × (rest : List Line) × (ls ≡ lines.Point point ∷ rest)
    × (run Cuts (record c { point = point }) rest ≡ Some d)
point_first c d [] h = cc
point_first c d (lines.Point point ∷ rest) h = (point, rest, refl, h)
point_first c d (line ∷ rest) h = cc

count_first : (c d : Certificate) (ls : List Line) → run Cuts c ls ≡ Some d
    → (number : ℕ) × (rest : List Line) × (ls ≡ lines.Cuts number ∷ rest) × (run (Cut number) c rest ≡ Some d)
count_first c d [] h = cc
count_first c d (lines.Cuts number ∷ rest) h = (number, rest, refl, h)
count_first c d (line ∷ rest) h = cc

-- as many cuts as are left, and the line `tree`
cuts_first : (left : ℕ) (c d : Certificate) (ls : List Line) → run (Cut left) c ls ≡ Some d
    → (cuts : List Derivation) × (number : ℕ) × (rest : List Line) × (left ≡ length cuts)
    × (ls ≡ map lines.Cut cuts ++ lines.Tree number ∷ rest)
    × (run_on (node_place number 1) (λ next. run next (record c { cuts = c.cuts ++ cuts }) rest) ≡ Some d)
cuts_first zero c d [] h = cc
cuts_first (suc left) c d [] h = cc
cuts_first zero c d (lines.Tree number ∷ rest) h = (
  [],
  number,
  rest,
  refl,
  refl,
  ap (λ x. run_on (node_place number 1) (λ next. run next (record c { cuts = x }) rest)) (append-nil c.cuts) ∙ h,
)
cuts_first zero c d (line ∷ rest) h = cc
cuts_first (suc left) c d (lines.Cut cut ∷ rest) h =
    let (cuts, number, after, many, is, follows) = cuts_first left (with_line c (lines.Cut cut)) d rest h in (
      cut ∷ cuts,
      number,
      after,
      ap suc many,
      ap (λ x. lines.Cut cut ∷ x) is,
      ap (λ x. run_on (node_place number 1) (λ next. run next (record c { cuts = x }) after)) (sym
          (append_assoc c.cuts (cut ∷ []) cuts)) ∙ follows,
    )
cuts_first (suc left) c d (line ∷ rest) h = cc

-- nothing stands behind `end`
end_first : (c d : Certificate) (ls : List Line) → run End c ls ≡ Some d → (ls ≡ lines.End ∷ []) × (d ≡ c)
end_first c d [] h = cc
end_first c d (lines.End ∷ []) h = (refl, cc)
end_first c d (lines.End ∷ line ∷ rest) h = cc
end_first c d (line ∷ rest) h = cc

-- as many nodes as are left, which are the trees that are due, and `end`
nodes_first : (left due : ℕ) (c d : Certificate) (ls : List Line)
    → run_on (node_place left due) (λ next. run next c ls) ≡ Some d
    → (nodes : List CertNode) × (left ≡ length nodes) × (ls ≡ map lines.Node nodes ++ lines.End ∷ [])
    × (due_after due nodes ≡ Some 0) × (d ≡ record c { nodes = c.nodes ++ nodes })
nodes_first zero zero c d ls h =
    let (is, same) = end_first c d ls h in
    ([], refl, is, refl, same ∙ ap (λ x. record c { nodes = x }) (sym (append-nil c.nodes)))
nodes_first zero (suc due) c d ls h = cc
nodes_first (suc left) zero c d ls h = cc
nodes_first (suc left) (suc due) c d [] h = cc
nodes_first (suc left) (suc due) c d (lines.Node node ∷ rest) h =
    let (nodes, many, is, ends, same) =
    nodes_first left (trees_due node due) (with_line c (lines.Node node)) d rest h in (
      node ∷ nodes,
      ap suc many,
      ap (λ x. lines.Node node ∷ x) is,
      due_step node due nodes ∙ ends,
      same
          ∙ ap (λ x. record c { nodes = x }) (append_assoc c.nodes (node ∷ []) nodes),
    )
nodes_first (suc left) (suc due) c d (line ∷ rest) h = cc

-- the lines one after the other
all_lines : (d : Certificate) (cols rows number count : ℕ) (value : ℤ) (point : Option (List ℤ)) (cuts : List
    Derivation) (nodes : List CertNode) (ls r1 r2 r3 r4 r5 r6 : List Line)
    → ls ≡ lines.Header ∷ r1 → r1 ≡ lines.Size cols rows ∷ r2 → r2 ≡ lines.Value value ∷ r3
    → r3 ≡ lines.Point point ∷ r4 → r4 ≡ lines.Cuts number ∷ r5 → number ≡ length cuts
    → r5 ≡ map lines.Cut cuts ++ lines.Tree count ∷ r6 → count ≡ length nodes
    → r6 ≡ map lines.Node nodes ++ lines.End ∷ [] → due_after 1 nodes ≡ Some 0
    → d ≡ record { cols = cols; rows = rows; value = value; point = point; cuts = cuts; nodes = nodes }
    → (ls ≡ lines_of d) × IsTree d.nodes
all_lines d cols rows number count value point cuts nodes ls r1 r2 r3 r4 r5 r6 is1 is2 is3 is4 is5 many_cuts is6
    many_nodes is7 ends same =
    rw (same, is1, is2, is3, is4, is5, is6, is7, many_cuts, many_nodes) (refl, record { whole = ends })

-- lines that give a certificate are those of it, and its nodes are one tree
pub given_lines : (d : Certificate) (ls : List Line) → run Header no_lines ls ≡ Some d
    → (ls ≡ lines_of d) × IsTree d.nodes
given_lines d ls h =
    let (r1, is1, h1) = header_first no_lines d ls h in
    let (cols, rows, r2, is2, h2) = size_first _ d r1 h1 in
    let (value, r3, is3, h3) = value_first _ d r2 h2 in
    let (point, r4, is4, h4) = point_first _ d r3 h3 in
    let (number, r5, is5, h5) = count_first _ d r4 h4 in
    let (cuts, count, r6, many_cuts, is6, h6) = cuts_first number _ d r5 h5 in
    let (nodes, many_nodes, is7, ends, same) = nodes_first count 1 _ d r6 h6 in
    all_lines d cols rows number count value point cuts nodes ls r1 r2 r3 r4 r5 r6 is1 is2 is3 is4 is5 many_cuts
    is6 many_nodes is7 ends same
