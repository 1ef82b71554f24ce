-- Reading and printing are inverse to each other.
use Rattle.std.proofs.Common.{◌≡◌, ◌≤◌, ◌^◌, ◌+◌, ℕ, List, [], ◌∷◌, ◌++◌, map, length, ap, sym, ◌∙◌, subst, arith}
use Rattle.std.proofs.lemmas.List.{length-append, length-map}
use Rattle.std.specs.List.{AllByRecursion}
use Rattle.cert_line.specs.Lines.{line_text, IsLine}
use Rattle.cert_line.specs.declared.line.Line.{Line}
use Rattle.cert_line.specs.declared.line.Line.TheVariants as lines
use Rattle.cert_text.specs.declared.error.CertKind.{CertKind}
use Rattle.cert_text.specs.Certificates.{lines_of, tree_lines, text_of, certificate_text, IsCertificate}
use Rattle.cert_text.specs.Readings.{reading, pieces_of, no_lines}
use Rattle.cert_text.specs.declared.place.Place.TheVariants.{Header}
use Rattle.cert_text.specs.declared.reader.Reading.TheVariants.{Read, RefusedAt}
use Rattle.tree_cert.specs.declared.certificate.Certificate.{Certificate}
use Rattle.cert_text.proofs.Runs.{lines_give}
use Rattle.cert_text.proofs.GivenLines.{given_lines}
use Rattle.cert_text.proofs.Judging.{lines_judged, joined_pieces, lines_read}

-- the text of a certificate is read as it
pub print_is_read : (c : Certificate) → IsCertificate c
    → reading (certificate_text c) ≡ Read c
unfolding certificate_text
print_is_read c is =
    lines_judged (lines_of c) 1 Header no_lines c is.lines (lines_give c is.tree)

-- what is read as a certificate is its text
pub read_is_text : (bytes : List ℕ) (c : Certificate) → reading bytes ≡ Read c
    → (bytes ≡ certificate_text c) × IsCertificate c
unfolding certificate_text
read_is_text bytes c h =
    let (ls, are, is, gives) = lines_read (pieces_of bytes) 1 Header no_lines c h in
    let (lines, tree) = given_lines c ls gives in (
      sym (joined_pieces bytes) ∙ is ∙ ap text_of lines,
      record { lines = subst (AllByRecursion IsLine) lines are; tree = tree },
    )

-- the text of a certificate is read as no other one
pub print_gives : (bytes : List ℕ) (c d : Certificate)
    → reading bytes ≡ Read d → IsCertificate c → bytes ≡ certificate_text c → d ≡ c
print_gives bytes c d found is text =
    let again : reading bytes ≡ Read c = ap reading text ∙ print_is_read c is in
    let same : Read d ≡ Read c = sym found ∙ again in
    cc

-- and it is not refused
pub print_not_refused : (bytes : List ℕ) (c : Certificate) (line : ℕ) (kind : CertKind)
    → reading bytes ≡ RefusedAt line kind → IsCertificate c → bytes ≡ certificate_text c → ⊥
print_not_refused bytes c line kind found is text =
    let again : reading bytes ≡ Read c = ap reading text ∙ print_is_read c is in
    let same : RefusedAt line kind ≡ Read c = sym found ∙ again in
    cc

-- a text has at least a byte for each line
lines_few : (ls : List Line) → length ls ≤ length (text_of ls)
lines_few [] = omega arith
lines_few (line ∷ ls) = omega (arith, lines_few ls, length-append (line_text line) (10 ∷ text_of ls))

-- so it has at least a byte for each cut and each node
pub text_few : (c : Certificate) → length c.cuts + length c.nodes ≤ length (certificate_text c)
unfolding certificate_text
text_few c =
    let cuts : length (map lines.Cut c.cuts ++ (tree_lines c.nodes ++ lines.End ∷ []))
    ≡ length (map lines.Cut c.cuts) + length (tree_lines c.nodes ++ lines.End ∷ []) =
    length-append (map lines.Cut c.cuts) (tree_lines c.nodes ++ lines.End ∷ []) in
    let nodes : length (map lines.Node c.nodes ++ lines.End ∷ []) ≡ length (map lines.Node c.nodes) + 1 =
    length-append (map lines.Node c.nodes) (lines.End ∷ []) in
    let cut_count : length (map lines.Cut c.cuts) ≡ length c.cuts = length-map c.cuts lines.Cut in
    let node_count : length (map lines.Node c.nodes) ≡ length c.nodes = length-map c.nodes lines.Node in
    omega (arith, lines_few (lines_of c), cuts, nodes, cut_count, node_count)

-- which are few where the text is short
pub read_few : (bytes : List ℕ) (c : Certificate) → length bytes ≤ 2 ^ 28 → bytes ≡ certificate_text c
    → (length c.cuts ≤ 2 ^ 28) × (length c.nodes ≤ 2 ^ 28)
read_few bytes c short text =
    let long : length bytes ≡ length (certificate_text c) = ap length text in
    (omega (arith, text_few c, long, short), omega (arith, text_few c, long, short))
