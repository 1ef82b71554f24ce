-- The point of an ascent over the root box.
use Rattle.std.proofs.Common.{◌≡◌, ◌∙◌, ℕ, ◌<◌, ◌≤◌, ◌⊎◌, inl, inr, Bool, true, false, cond, List, length, ℤ, pos, unsigned_abs, Result, IfOk, sym, ap, subst, arith}
use Rattle.std.proofs.lemmas.List.FromFn.{get_or-map-range_with_len, length-map-range_with_len}
use Rattle.std.proofs.lemmas.List.{get_or_past}
use Rattle.std.proofs.lemmas.Bool.{cases_lt}
use Rattle.ip_core.specs.Boxes.{cheapest_end}
use Rattle.ip_core.specs.Models.{IsModel}
use Rattle.ip_core.specs.Numbers.{int_at}
use Rattle.ip_core.specs.Sides.{Sides, reach}
use Rattle.ip_core.specs.declared.model.ModelParts.{ModelParts}
use Rattle.ip_core.specs.declared.row.Row.{Row}
use Rattle.safe_bound.specs.Bounds.{bound_point, reduced_cost}
use Rattle.cut_derive.specs.Premises.{AreNear}
use Rattle.cut_separate.specs.Separation.{separated_cuts}
use Rattle.cut_separate.specs.declared.new_cut.NewCut.{NewCut}
use Rattle.dual_ascent.specs.Ascents.{ascent, ascent_work}
use Rattle.dual_ascent.specs.declared.ascent.Ascent.{Ascent}
use Rattle.ip_core.specs.declared.memory.OutOfMemory.{OutOfMemory}
use Rattle.task_steps.specs.CutTasks.{cut_chunk, cutting_chunk, new_cuts}
use Rattle.task_steps.specs.Tasks.{ascent_of}
use Rattle.task_steps.specs.declared.cut_chunk.CutChunk.{CutChunk}

-- it has a value for each column
pub point_long : (m : ModelParts) (cuts : List Row) (s : Sides) (ys : List ℕ) → IsModel m
    → length (bound_point m cuts s ys) ≡ length m.cols
point_long m cuts s ys valid =
    length-map-range_with_len (λ j. cheapest_end s (reduced_cost m cuts ys j) j) 0 (length m.costs)
    ∙ valid.bounds.costs

end_near : (s : Sides) (j : ℕ) (b : Bool)
    → unsigned_abs (cond b (int_at s.lows j) (int_at s.highs j)) ≤ reach s j
end_near s j true = omega arith
end_near s j false = omega arith

cheapest_near : (s : Sides) (cost : ℤ) (j : ℕ) → unsigned_abs (cheapest_end s cost j) ≤ reach s j
cheapest_near s cost j = end_near s j _

past_near : (x : List ℤ) (s : Sides) (j : ℕ) → length x ≤ j → unsigned_abs (int_at x j) ≤ reach s j
past_near x s j past = rw (get_or_past x j (pos 0) past) (omega arith)

value_near : (m : ModelParts) (cuts : List Row) (s : Sides) (ys : List ℕ) (j : ℕ)
    → (j < length m.costs) ⊎ (length m.costs ≤ j)
    → unsigned_abs (int_at (bound_point m cuts s ys) j) ≤ reach s j
value_near m cuts s ys j (inl known) =
    let f = λ (i : ℕ). cheapest_end s (reduced_cost m cuts ys i) i in
    subst (λ (z : ℤ). unsigned_abs z ≤ reach s j)
    (sym (get_or-map-range_with_len f 0 (length m.costs) j j (pos 0) known (omega arith)))
    (cheapest_near s (reduced_cost m cuts ys j) j)
value_near m cuts s ys j (inr past) =
    let f = λ (i : ℕ). cheapest_end s (reduced_cost m cuts ys i) i in
    past_near (bound_point m cuts s ys) s j
    (subst (λ (n : ℕ). n ≤ j) (sym (length-map-range_with_len f 0 (length m.costs))) past)

-- none of them is further from 0 than the root box reaches there, also where a column is empty
pub point_near : (m : ModelParts) (cuts : List Row) (x : List ℤ) (ys : List ℕ) → IsModel m
    → x ≡ bound_point m cuts m.root ys → AreNear m.root x
point_near m cuts x ys valid is = subst (AreNear m.root) (sym is) (record {
  columns = point_long m cuts m.root ys valid ∙ sym valid.bounds.box;
  each = λ j. value_near m cuts m.root ys j (cases_lt j (length m.costs));
})

-- the same of a point that is told
pub point_long_of : (m : ModelParts) (cuts : List Row) (s : Sides) (ys : List ℕ) (x : List ℤ)
    → IsModel m → x ≡ bound_point m cuts s ys → length x ≡ length m.cols
point_long_of m cuts s ys x valid is =
    ap (λ (y : List ℤ). length y) is ∙ point_long m cuts s ys valid

pub point_near_of : (m : ModelParts) (cuts : List Row) (s : Sides) (ys : List ℕ) (x : List ℤ)
    → IsModel m → s ≡ m.root → x ≡ bound_point m cuts s ys → AreNear m.root x
point_near_of m cuts s ys x valid root is =
    point_near m cuts x ys valid (is ∙ ap (λ (t : Sides). bound_point m cuts t ys) root)

-- a chunk with what its ascent and its separation gave
pub chunk_is : (m : ModelParts) (cuts : List Row) (chunks : ℕ) (s : Sides) (a : Ascent)
    (new : List NewCut) (result : Result CutChunk OutOfMemory) → s ≡ m.root
    → a.mults ≡ (ascent m cuts s).mults → a.point ≡ bound_point m cuts s a.mults
    → a.work ≡ ascent_work m cuts s → new ≡ separated_cuts m cuts a.point a.mults
    → IfOk result (λ chunk. chunk ≡ cutting_chunk m cuts chunks a.work new)
    → IfOk result (λ chunk. chunk ≡ cut_chunk m cuts chunks)
chunk_is m cuts chunks s a new result root mults point work is made =
    let ys : a.mults ≡ (ascent_of m cuts m.root).mults =
    mults ∙ ap (λ (t : Sides). (ascent m cuts t).mults) root in
    let x : a.point ≡ (ascent_of m cuts m.root).point =
    point ∙ ap (λ (t : Sides). bound_point m cuts t a.mults) root
    ∙ ap (λ (zs : List ℕ). bound_point m cuts m.root zs) ys in
    let counted : a.work ≡ (ascent_of m cuts m.root).work =
    work ∙ ap (λ (t : Sides). ascent_work m cuts t) root in
    let same : new ≡ new_cuts m cuts =
    is ∙ ap (λ (p : List ℤ). separated_cuts m cuts p a.mults) x
    ∙ ap (λ (zs : List ℕ). separated_cuts m cuts (ascent_of m cuts m.root).point zs) ys in
    subst (λ (cs : List NewCut). IfOk result (λ chunk.
    chunk ≡ cutting_chunk m cuts chunks (ascent_of m cuts m.root).work cs)) same
    (subst (λ (n : ℕ). IfOk result (λ chunk. chunk ≡ cutting_chunk m cuts chunks n new)) counted
    made)
