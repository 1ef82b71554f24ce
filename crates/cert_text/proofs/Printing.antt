-- What is printed line by line is the text.
use Rattle.std.proofs.Common.{◌≡◌, ℕ, List, [], ◌∷◌, ◌++◌, refl, ap, sym, ◌∙◌}
use Rattle.std.proofs.lemmas.List.{append_assoc}
use Rattle.cert_line.specs.Lines.{line_text}
use Rattle.cert_line.specs.declared.line.Line.{Line}
use Rattle.cert_line.specs.declared.line.Line.TheVariants.{End}
use Rattle.cert_text.specs.Certificates.{certificate_text, cut_lines, point_lines, size_lines, text_of, tree_lines}
use Rattle.tree_cert.specs.declared.certificate.Certificate.{Certificate}

-- the text of lines behind others
text_behind : (before after : List Line) → text_of (before ++ after) ≡ text_of before ++ text_of after
text_behind [] after = refl
text_behind (line ∷ lines) after =
    ap (λ t. line_text line ++ (10 ∷ t)) (text_behind lines after)
    ∙ sym (append_assoc (line_text line) (10 ∷ text_of lines) (text_of after))

-- lines behind a text and others
more_lines : (t u v : List ℕ) (before after : List Line) → u ≡ t ++ text_of before → v ≡ u ++ text_of after
    → v ≡ t ++ text_of (before ++ after)
more_lines t u v before after first then = then ∙ ap (λ x. x ++ text_of after) first
    ∙ append_assoc t (text_of before) (text_of after) ∙ ap (λ x. t ++ x) (sym (text_behind before after))

-- the parts of a certificate's text, one behind the other
pub printed : (c : Certificate) (t1 t2 t3 t4 t5 : List ℕ) → t1 ≡ [] ++ text_of (size_lines c.cols c.rows)
    → t2 ≡ t1 ++ text_of (point_lines c.value c.point) → t3 ≡ t2 ++ text_of (cut_lines c.cuts)
    → t4 ≡ t3 ++ text_of (tree_lines c.nodes) → t5 ≡ t4 ++ text_of (End ∷ []) → t5 ≡ certificate_text c
unfolding certificate_text
printed c t1 t2 t3 t4 t5 is1 is2 is3 is4 is5 =
    let last = more_lines t3 t4 t5 (tree_lines c.nodes) (End ∷ []) is4 is5 in
    let cuts = more_lines t2 t3 t5 (cut_lines c.cuts) (tree_lines c.nodes ++ (End ∷ [])) is3 last in
    let points =
    more_lines t1 t2 t5 (point_lines c.value c.point) (cut_lines c.cuts ++
    (tree_lines c.nodes ++ (End ∷ []))) is2 cuts in
    more_lines [] t1 t5 (size_lines c.cols c.rows) (point_lines c.value c.point ++
    (cut_lines c.cuts ++ (tree_lines c.nodes ++ (End ∷ [])))) is1 points
