-- What lines give, apart from the bytes that they are read from.
use Rattle.std.proofs.Common.{◌≡◌, ℕ, zero, suc, List, [], ◌∷◌, ◌++◌, map, length, Option, Some, None, if◌then◌else◌, refl, ap, sym, ◌∙◌}
use Rattle.std.proofs.lemmas.List.{append_assoc, append-nil}
use Rattle.cert_line.specs.declared.line.Line.{Line}
use Rattle.cert_line.specs.declared.line.Line.TheVariants as lines
use Rattle.cert_text.specs.Certificates.{lines_of, tree_lines}
use Rattle.cert_text.specs.Places.{is_over, next_place, node_place, trees_due}
use Rattle.cert_text.specs.Readings.{with_line, no_lines}
use Rattle.cert_text.specs.declared.place.Place.{Place}
use Rattle.cert_text.specs.declared.place.Place.TheVariants.{Header, Cut}
use Rattle.ip_core.specs.declared.derivation.Derivation.{Derivation}
use Rattle.tree_cert.specs.Trees.{due_after, IsTree}
use Rattle.tree_cert.specs.declared.certificate.Certificate.{Certificate}
use Rattle.tree_cert.specs.declared.node.CertNode.{CertNode}
use Rattle.tree_cert.specs.declared.node.CertNode.TheVariants.{Split, Leaf as Ends}

-- what follows a place, if there is one
abbrev pub run_on : Option Place → (Place → Option Certificate) → Option Certificate
run_on None follows = None
run_on (Some next) follows = follows next

-- the certificate that lines give from a place on, where each can stand at its place and none is lacking
abbrev pub run : Place → Certificate → List Line → Option Certificate
run place c [] = if is_over place then Some c else None
run place c (line ∷ lines) = run_on (next_place place line) (λ next. run next (with_line c line) lines)

-- a node takes the place of one tree that is due
pub due_step : (node : CertNode) (due : ℕ) (nodes : List CertNode)
    → due_after (suc due) (node ∷ nodes) ≡ due_after (trees_due node due) nodes
due_step (Split col at next) due nodes = refl
due_step (Ends leaf) due nodes = refl

-- the lines of cuts, and what follows them
cuts_run : (cuts : List Derivation) (c : Certificate) (rest : List Line)
    → run (Cut (length cuts)) c (map lines.Cut cuts ++ rest)
    ≡ run (Cut zero) (record c { cuts = c.cuts ++ cuts }) rest
cuts_run [] c rest = ap (λ x. run (Cut zero) (record c { cuts = x }) rest) (sym (append-nil c.cuts))
cuts_run (cut ∷ cuts) c rest =
    cuts_run cuts (with_line c (lines.Cut cut)) rest
    ∙ ap (λ x. run (Cut zero) (record c { cuts = x }) rest) (append_assoc c.cuts (cut ∷ []) cuts)

-- the lines of nodes that are the trees which are due, and `end`
nodes_run : (nodes : List CertNode) (due : ℕ) (c : Certificate) → due_after due nodes ≡ Some 0
    → run_on (node_place (length nodes) due) (λ next. run next c (map lines.Node nodes ++ lines.End ∷ []))
    ≡ Some (record c { nodes = c.nodes ++ nodes })
nodes_run [] zero c h = ap (λ x. Some (record c { nodes = x })) (sym (append-nil c.nodes))
nodes_run [] (suc due) c h = cc
nodes_run (node ∷ nodes) zero c h = cc
nodes_run (node ∷ nodes) (suc due) c h =
    nodes_run nodes (trees_due node due) (with_line c (lines.Node node)) (sym (due_step node due nodes) ∙ h)
    ∙ ap (λ x. Some (record c { nodes = x })) (append_assoc c.nodes (node ∷ []) nodes)

-- the lines of a certificate give it
pub lines_give : (c : Certificate) → IsTree c.nodes → run Header no_lines (lines_of c) ≡ Some c
lines_give c tree =
    cuts_run c.cuts (record no_lines {
      cols = c.cols;
      rows = c.rows;
      value = c.value;
      point =
          c.point;
    }) (tree_lines c.nodes ++ lines.End ∷ [])
    ∙ nodes_run c.nodes 1 (record no_lines {
      cols = c.cols;
      rows = c.rows;
      value = c.value;
      point =
          c.point;
      cuts = c.cuts;
    }) tree.whole
